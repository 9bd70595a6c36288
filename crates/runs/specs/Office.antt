-- One office's run: the records handed to it one after another, the log of its answers, and what its views counted.
-- Then the same where the office may be cut off and begin again.
use Rattle.std.specs.Prelude.{◌≡◌, true, ℕ, ◌≤◌, ◌<◌, take}
use mathlib.Core.List.{List, [], ◌∷◌, ◌++◌, Memᴰ}
use Rattle.laws.specs.Lists.{runs, Every}
use Rattle.seats.specs.Offices.{serves}
use Rattle.records.specs.Fits.{FitsReport}
use Rattle.records.specs.Numbers.{limit}
use Rattle.records.specs.declared.Proposal.{Proposal}
use Rattle.records.specs.declared.View.{View}
use Rattle.rules.specs.State.{State, keeping, stored_at}
use Rattle.rules.specs.Rules.{Written, notice, proposal, view, restarted, net_after, with_net, opened, proposes_fast}
use Rattle.rules.specs.Rules.{received, slow_test}
use Rattle.rules.specs.Leaving.{own_number}
use Rattle.rules.specs.Refusals.{Event, a_report, a_proposal, Result, take_of}

-- what is handed in: the office for which it is read, an event, and an output of length room
pub record Input : Type 0 where
  pub office : ℕ
  pub event : Event
  pub room : ℕ

unfoldable pub answer_to : State → Input → Result
answer_to s h = take_of h.office s h.event h.room

abbrev pub next_state : State → Input → State
next_state s h = (answer_to s h).state

-- the sets handed in are sets of seats, as those of a record that was read are
abbrev pub OfSeats : Event → Type 0
OfSeats (a_report r) = FitsReport r
OfSeats (a_proposal p) = Unit {0}

-- an entry of the log: the state before, and what was handed to it; the answer is that of the step
pub record LogEntry : Type 0 where
  pub before : State
  pub handed : Input

abbrev pub answer_of : LogEntry → Result
answer_of e = answer_to e.before e.handed

-- the run from a state: the state after, the log, and the records sent, in order
abbrev pub state_after : State → List Input → State
state_after = runs next_state

unfoldable pub log_of : State → List Input → List LogEntry
log_of s [] = []
log_of s (h ∷ hs) = record { before = s; handed = h } ∷ log_of (next_state s h) hs

unfoldable pub sent_in : List LogEntry → List Written
sent_in [] = []
sent_in (e ∷ l) = (answer_of e).written ++ sent_in l

-- e stands in the log before f
pub data Before (e f : LogEntry) : List LogEntry → Type 0 where
  at_once : {x : LogEntry} {l : List LogEntry} → e ≡ x → Memᴰ f l → Before e f (x ∷ l)
  further : {x : LogEntry} {l : List LogEntry} → Before e f l → Before e f (x ∷ l)

-- the state that the agreement test of an event looks at
unfoldable pub tested_in : State → Event → State
tested_in s (a_report r) = (slow_test (proposes_fast (opened (with_net s (net_after s.net.bits r)))).state).state
tested_in s (a_proposal p) = (slow_test (received s p)).state

abbrev pub tested_at : LogEntry → State
tested_at e = tested_in e.before e.handed.event

-- a view was sent at this entry, and for office o it counted the proposal p: the one stored when the agreement test
-- found it
pub record CountedAt (e : LogEntry) (o : ℕ) (p : Proposal) : Type 0 where
  pub seen : View
  pub sent : Memᴰ (view seen) (answer_of e).written
  pub office : o < 16
  pub member : serves seen.members.bits o ≡ true
  pub stored : stored_at (tested_at e) o ≡ keeping p

-- A turn of an office that may be cut off: it is handed something and answers; or its server loses its current when
-- the first `left` records of the answer have left, and it begins again at number m. (A cut with nothing begun is one
-- in which nothing has left.)
pub data Turn : Type 0 where
  entire : Input → Turn
  broken : (begun : Input) (left m : ℕ) → Turn

-- what is handed at a turn
abbrev pub handed_at : Turn → Input
handed_at (entire h) = h
handed_at (broken h left m) = h

abbrev pub left_at : State → Turn → List Written
left_at s (entire h) = (answer_to s h).written
left_at s (broken h left m) = take left (answer_to s h).written

abbrev pub next_turn : State → Turn → State
next_turn s (entire h) = next_state s h
next_turn s (broken h left m) = restarted s.own m

-- the records that leave in a run, in order
unfoldable pub left_over : State → List Turn → List Written
left_over s [] = []
left_over s (t ∷ ts) = left_at s t ++ left_over (next_turn s t) ts

-- a cut begins again at or above every number that the office has given out in a record that left, l before this turn,
-- and not above L
abbrev pub TurnAbove : State → List Written → Turn → Type 0
TurnAbove s l (entire h) = Unit {0}
TurnAbove s l (broken h left m) = Every (λ w. own_number w ≤ m) (l ++ take left (answer_to s h).written) × (m ≤ limit)

pub data TurnsAbove : State → List Written → List Turn → Type 0 where
  no_turn : {s : State} {l : List Written} → TurnsAbove s l []
  a_turn : {s : State} {l : List Written} {t : Turn} {ts : List Turn} → TurnAbove s l t
      → TurnsAbove (next_turn s t) (l ++ left_at s t) ts
      → TurnsAbove s l (t ∷ ts)

-- the numbers that records give out, in order: of the proposals, of the start notices, of the views
abbrev pub of_proposal : Written → List ℕ
of_proposal (notice n) = []
of_proposal (proposal p) = p.number ∷ []
of_proposal (view v) = []

abbrev pub of_notice : Written → List ℕ
of_notice (notice n) = n.start ∷ []
of_notice (proposal p) = []
of_notice (view v) = []

abbrev pub of_view : Written → List ℕ
of_view (notice n) = []
of_view (proposal p) = []
of_view (view v) = v.number ∷ []

unfoldable pub picked : (Written → List ℕ) → List Written → List ℕ
picked f [] = []
picked f (w ∷ ws) = f w ++ picked f ws

-- numbers that rise strictly, from above lo
pub data Ascends : ℕ → List ℕ → Type 0 where
  no_number : {lo : ℕ} → Ascends lo []
  a_number : {lo x : ℕ} {l : List ℕ} → lo < x → Ascends x l → Ascends lo (x ∷ l)

-- No number is sent twice as a proposal number, none twice in a start notice, and no view number is at or below an
-- earlier one.
pub record NumbersOnce (left : List Written) : Type 0 where
  pub proposals : Ascends 0 (picked of_proposal left)
  pub notices : Ascends 0 (picked of_notice left)
  pub views : Ascends 0 (picked of_view left)
