-- What an accepted event does: the rules of document 01, in its order and words.
use Rattle.std.specs.Prelude.{Bool, true, false, ◌&&◌, ◌||◌, not, List, [], ◌∷◌, ◌++◌, ℕ, ◌+◌, max, eqb, ltb}
use Rattle.laws.specs.Fin.{allb, anyb, largest}
use Rattle.laws.specs.Tab.{tab}
use Rattle.laws.specs.Upd.{ifb}
use Rattle.seats.specs.Seats.{union_of, without_of}
use Rattle.seats.specs.Offices.{serves}
use Rattle.records.specs.declared.Report.{Report}
use Rattle.records.specs.declared.Proposal.{Proposal}
use Rattle.records.specs.declared.Notice.{Notice}
use Rattle.records.specs.declared.View.{View}
use Rattle.rules.specs.State.{Mode, None, Fast, Slow, State, slow, kind_of, zeros, nothing, keeping, stored_at}
use Rattle.rules.specs.State.{used_at, used_for, number_in, with_mode, with_net_set, with_stored}
use Rattle.rules.specs.State.{with_accepted, with_start, with_number}

-- a record written: to this office's seats, to the other offices, to this office's seats
pub data Written : Type 0 where
  notice : Notice → Written
  proposal : Proposal → Written
  view : View → Written

-- what an accepted event leaves: the state, and what was written, in order
pub record Outcome : Type 0 where
  pub state : State
  pub written : List Written

abbrev pub nothing_written : State → Outcome
nothing_written s = record { state = s; written = [] }

-- one part of an event after another
unfoldable pub and_then : Outcome → (State → Outcome) → Outcome
and_then o f = record { state = (f o.state).state; written = o.written ++ (f o.state).written }

-- State. Fresh: mode none, sets empty, nothing stored, all numbers 0. After a restart proposal number, start number
-- and view number begin at m, and all else is fresh.
unfoldable pub restarted : ℕ → ℕ → State
restarted own m =
    record {
      own = own;
      mode = None;
      net = record { bits = 0 };
      stored = tab 16 (λ o. nothing);
      accepted = zeros;
      view = record { number = m; members = record { bits = 0 }; starts = zeros };
      start = m;
      number = m;
      used = zeros;
    }

unfoldable pub fresh : ℕ → State
fresh own = restarted own 0

-- A report arrives, step 1: the net view with joining, then without leaving.
unfoldable pub net_after : ℕ → Report → ℕ
net_after net r = without_of (union_of net r.joining.bits) r.leaving.bits

unfoldable pub with_net : State → ℕ → State
with_net s net = with_net_set (record { bits = net }) s

-- A repeat: a report that leaves the net view equal to what it was.
unfoldable pub repeats : State → Report → Bool
repeats s r = eqb (net_after s.net.bits r) s.net.bits

-- Step 2: this office has a seat in the net view.
unfoldable pub seated : State → Bool
seated s = serves s.net.bits s.own

-- Step 3: the start number rises and a start notice with the net view is written. (The mode is set where the proposal
-- is made.)
unfoldable pub opened : State → State
opened s = with_start (max s.view.number (s.start + 1)) s

unfoldable pub notice_of : State → Notice
notice_of s = record { start = s.start; members = s.net }

unfoldable pub opens : State → Outcome
opens s = record { state = opened s; written = notice (notice_of (opened s)) ∷ [] }

-- Step 4: 1 + the largest of the own proposal number and the stored proposal numbers of the net view's offices.
unfoldable pub next_number : State → ℕ
next_number s = 1 + max s.number (largest 16 (λ o. ifb (serves s.net.bits o) (number_in (stored_at s o)) 0))

-- Step 5: the proposal made in a mode, with the used numbers of the net view's offices.
unfoldable pub own_proposal : Mode → ℕ → State → Proposal
own_proposal m n s =
    record {
      sender = s.own;
      kind = kind_of m;
      members = s.net;
      start = s.start;
      number = n;
      used = tab 16 (λ o. ifb (serves s.net.bits o) (used_at s o) 0);
    }

-- It is stored as the own proposal; the mode is the proposal's.
unfoldable pub proposed : Mode → ℕ → State → State
proposed m n s = with_mode m (with_number n (with_stored s.own (keeping (own_proposal m n s)) s))

-- The recipients of a proposal are the offices of its members except the sender.
unfoldable pub receives : Proposal → ℕ → Bool
receives p o = serves p.members.bits o && not (eqb o p.sender)

abbrev pub has_recipient : Proposal → Bool
has_recipient p = anyb 16 (receives p)

-- A fast proposal is written if it has a recipient.
unfoldable pub proposes_fast : State → Outcome
proposes_fast s =
    let p = own_proposal Fast (next_number s) s in
    record { state = proposed Fast (next_number s) s; written = ifb (has_recipient p) (proposal p ∷ []) [] }

-- A proposal arrives: it replaces what is stored for its sender, and its number becomes the last accepted from it.
unfoldable pub received : State → Proposal → State
received s p = with_accepted p.sender p.number (with_stored p.sender (keeping p) s)

-- Slow test. "Matching": a stored proposal of another office whose members equal the net view.
abbrev pub in_slot : State → ℕ → Proposal
in_slot s o = (stored_at s o).proposal

unfoldable pub matching : State → ℕ → Bool
matching s o = not (eqb o s.own) && (stored_at s o).present && eqb (in_slot s o).members.bits s.net.bits

-- a matching slow proposal; one with a number above the own one; a matching proposal whose used number for this
-- office is the own number
unfoldable pub matching_slow : State → ℕ → Bool
matching_slow s o = matching s o && eqb (in_slot s o).kind slow

unfoldable pub above_own : State → ℕ → Bool
above_own s o = matching_slow s o && ltb s.number (in_slot s o).number

unfoldable pub uses_own : State → ℕ → Bool
uses_own s o = matching s o && eqb (used_for (in_slot s o) s.own) s.number

-- the cases in which slow agreement is called for, by mode
abbrev pub called_in : Mode → State → Bool
called_in None s = true
called_in Fast s = anyb 16 (matching_slow s) || anyb 16 (uses_own s)
called_in Slow s = anyb 16 (above_own s) || anyb 16 (uses_own s)

unfoldable pub slow_called : State → Bool
slow_called s = called_in s.mode s

-- If the mode was none, step 3 is done.
abbrev pub begins_in : Mode → State → Outcome
begins_in None s = opens s
begins_in Fast s = nothing_written s
begins_in Slow s = nothing_written s

-- The largest number of a matching slow proposal above the own one; if there is none, 1 + the largest as in step 4.
unfoldable pub joined_number : State → ℕ
joined_number s = largest 16 (λ o. ifb (above_own s o) (in_slot s o).number 0)

unfoldable pub slow_number : State → ℕ
slow_number s = ifb (anyb 16 (above_own s)) (joined_number s) (next_number s)

unfoldable pub proposes_slow : State → Outcome
proposes_slow s = record {
  state = proposed Slow (slow_number s) s;
  written = proposal (own_proposal Slow (slow_number s) s) ∷ [];
}

unfoldable pub slow_test : State → Outcome
slow_test s = ifb (slow_called s) (and_then (begins_in s.mode s) proposes_slow) (nothing_written s)

-- Agreement test: what office o's stored proposal must be, by mode.
unfoldable pub agrees_kind : State → ℕ → Bool
agrees_kind s o = (stored_at s o).present && eqb (in_slot s o).kind (kind_of s.mode)
    && eqb (in_slot s o).members.bits s.net.bits

abbrev pub agrees_in : Mode → State → ℕ → Bool
agrees_in None s o = false
agrees_in Fast s o = agrees_kind s o
agrees_in Slow s o = agrees_kind s o && eqb (in_slot s o).number s.number

unfoldable pub is_none : Mode → Bool
is_none None = true
is_none Fast = false
is_none Slow = false

-- in mode fast or slow, every office of the net view has one
unfoldable pub agreed : State → Bool
agreed s = not (is_none s.mode) && allb 16 (λ o. not (serves s.net.bits o) || agrees_in s.mode s o)

-- the start numbers of the net view's offices, and the view made of them
unfoldable pub start_of : State → ℕ → ℕ
start_of s o = ifb (serves s.net.bits o) (in_slot s o).start 0

unfoldable pub view_of : State → View
view_of s = record { number = 1 + largest 16 (start_of s); members = s.net; starts = tab 16 (start_of s) }

-- Each used number becomes its proposal's number, and its stored proposal becomes nothing. Mode := none.
unfoldable pub concluded : State → State
concluded s =
    record {
      own = s.own;
      mode = None;
      net = s.net;
      stored = tab 16 (λ o. ifb (serves s.net.bits o) nothing (stored_at s o));
      accepted = s.accepted;
      view = view_of s;
      start = s.start;
      number = s.number;
      used = tab 16 (λ o. ifb (serves s.net.bits o) (number_in (stored_at s o)) (used_at s o));
    }

unfoldable pub agreement_test : State → Outcome
agreement_test s = ifb (agreed s) (record { state = concluded s; written = view (view_of s) ∷ [] }) (nothing_written s)

-- The slow test, then the agreement test.
unfoldable pub tests : State → Outcome
tests s = and_then (slow_test s) agreement_test

-- Steps 2 to 6, in the state that step 1 leaves.
unfoldable pub change_rule : State → Outcome
change_rule s = ifb (seated s) (and_then (opens s) (λ u. and_then (proposes_fast u) tests)) (nothing_written s)

-- A report arrives. A repeat does nothing.
unfoldable pub report_rule : State → Report → Outcome
report_rule s r = ifb (repeats s r) (nothing_written s) (change_rule (with_net s (net_after s.net.bits r)))

-- A proposal arrives.
unfoldable pub proposal_rule : State → Proposal → Outcome
proposal_rule s p = ifb (eqb p.members.bits s.net.bits) (tests (received s p)) (nothing_written (received s p))
