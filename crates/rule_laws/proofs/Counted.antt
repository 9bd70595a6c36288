-- A proposal serves one view: where an event writes a view, each office of its members had a proposal with these
-- members stored; its start number is in the view, its number is the used number, and it is stored no more.
use mathlib.Core.Path.{◌≡◌, refl, sym, ap, ◌∙◌}
use mathlib.Core.Bool.{true}
use mathlib.Core.Logic.{◌⊎◌, inl, inr}
use mathlib.Core.List.{List}
use Prim.Native.Nat.{ℕ, ◌<◌}
use lib.ListN.{get_or}
use Rattle.laws.specs.Lists.{Every, none, more}
use Rattle.laws.proofs.Lists.{every_append, every_map}
use Rattle.laws.proofs.Tab.{get_or_tab}
use Rattle.laws.proofs.Upd.{upd_other}
use Rattle.seats.specs.Offices.{serves}
use Rattle.records.specs.declared.Proposal.{Proposal}
use Rattle.records.specs.declared.View.{View}
use Rattle.rules.specs.State.{Mode, Fast, Slow, Slot, State, nothing, keeping, stored_at, used_at}
use Rattle.rules.specs.Rules.{Written, notice, proposal, view, Outcome, nothing_written, and_then, opened, notice_of}
use Rattle.rules.specs.Rules.{opens, next_number, own_proposal, proposed, proposes_fast, slow_number, proposes_slow}
use Rattle.rules.specs.Rules.{in_slot, agreed, start_of, view_of, concluded}
use Rattle.rules.specs.Refusals.{Event, event_of, rule_of, step_of}
use Rattle.rule_laws.proofs.Parts.{opened_reads, proposed_reads, concluded_reads}
use Rattle.rule_laws.proofs.Tests.{agreed_out}
use Rattle.rule_laws.proofs.Steps.{Refused, Accepts, step_cases, step_accepts}
use Rattle.rule_laws.proofs.Walk.{arrived, concludes, Walk, walk_event}
use Rattle.rule_laws.proofs.Written.{fast_every, NoView}

-- from the state s that arrived to the state t left, p is the proposal of office o that the view v counted
pub record Counts (s t : State) (v : View) (o : ℕ) (p : Proposal) : Type 0 where
  pub from : (o ≡ s.own → ⊥) → stored_at s o ≡ keeping p
  pub members : p.members.bits ≡ v.members.bits
  pub start : get_or v.starts o 0 ≡ p.start
  pub used : used_at t o ≡ p.number
  pub gone : stored_at t o ≡ nothing

-- of the records written, what a view says of the two states
abbrev pub Counted : State → State → Written → Type 0
Counted s t (notice n) = Unit {0}
Counted s t (proposal p) = Unit {0}
Counted s t (view v) = (o : ℕ) → o < 16 → serves v.members.bits o ≡ true → (p : Proposal) × Counts s t v o p

-- a part before a view writes none, and changes no other office's stored proposal
record Keeps (s : State) (o : Outcome) : Type 0 where
  own : o.state.own ≡ s.own
  stored : (k : ℕ) → k < 16 → (k ≡ s.own → ⊥) → stored_at o.state k ≡ stored_at s k
  written : Every NoView o.written

abbrev CountsAll : State → Outcome → Type 0
CountsAll s o = Every (Counted s o.state) o.written

no_view : (s t : State) (w : Written) → NoView w → Counted s t w
no_view s t (notice n) h = tt
no_view s t (proposal p) h = tt
no_view s t (view v) h = absurd h

keeps_none : (s : State) → Keeps s (nothing_written s)
keeps_none s = record { own = refl; stored = λ k l n. refl; written = none }

keeps_then : (s : State) (o : Outcome) (f : State → Outcome) → Keeps s o → Keeps o.state (f o.state)
    → Keeps s (and_then o f)
unfolding and_then
keeps_then s o f a b = record {
  own = b.own ∙ a.own;
  stored = λ k l n. b.stored k l (λ e. n (e ∙ a.own)) ∙ a.stored k l n;
  written = every_append a.written b.written;
}

keeps_open : (s : State) → Keeps s (opens s)
unfolding opens
keeps_open s =
    let r = opened_reads s in
    record {
      own = r.own_is;
      stored = λ k l n. r.stored_is k l;
      written = more {a = notice (notice_of (opened s))} tt none;
    }

keeps_proposed : (s : State) (m : Mode) (n : ℕ) (ws : List Written) → Every NoView ws
    → Keeps s (record { state = proposed m n s; written = ws })
keeps_proposed s m n ws e =
    let r = proposed_reads s m n in
    record {
      own = r.own_is;
      stored = λ k l d. r.stored_is k l ∙ upd_other (stored_at s) s.own (keeping (own_proposal m n s)) k d;
      written = e;
    }

keeps_fast : (s : State) → Keeps s (proposes_fast s)
unfolding proposes_fast
keeps_fast s = keeps_proposed s Fast (next_number s) _ (fast_every NoView s tt)

keeps_slow : (s : State) → Keeps s (proposes_slow s)
unfolding proposes_slow
keeps_slow s =
    keeps_proposed s Slow (slow_number s) _ (more {a = proposal (own_proposal Slow (slow_number s) s)} tt none)

-- what is there, is kept as a proposal
is_keeping : (v : Slot) → v.present ≡ true → v ≡ keeping v.proposal
is_keeping v e = ap (λ b. record { present = b; proposal = v.proposal }) e

counts_view : (s : State) → agreed s ≡ true → CountsAll s (concludes s)
unfolding view_of start_of
counts_view s a = more {a = view (view_of s)} each none
  where
    each : (o : ℕ) → o < 16 → serves (view_of s).members.bits o ≡ true
        → (p : Proposal) × Counts s (concluded s) (view_of s) o p
    each o l e =
        let g = (agreed_out s a).every o l e in
        let r = concluded_reads s in (
          in_slot s o,
          record {
            from = λ n. is_keeping (stored_at s o) g.is_there;
            members = g.same_members;
            start = get_or_tab 16 (start_of s) o 0 l ∙ rw e;
            used = r.used_is o l ∙ rw (e, g.is_there);
            gone = r.stored_is o l ∙ rw e;
          },
        )

-- the rest of an event, seen from its first state
counted_from : (s u t : State) → u.own ≡ s.own → ((k : ℕ) → k < 16 → (k ≡ s.own → ⊥) → stored_at u k ≡ stored_at s k)
    → (w : Written) → Counted u t w → Counted s t w
counted_from s u t own stored (notice n) h = tt
counted_from s u t own stored (proposal p) h = tt
counted_from s u t own stored (view v) h = λ o l e.
    let c = h o l e in (
      c.0,
      record {
        from = λ n. sym (stored o l n) ∙ c.1.from (λ q. n (q ∙ own));
        members = c.1.members;
        start = c.1.start;
        used = c.1.used;
        gone = c.1.gone;
      },
    )

counts_then : (s : State) (o : Outcome) (f : State → Outcome) → Keeps s o → CountsAll o.state (f o.state)
    → CountsAll s (and_then o f)
unfolding and_then
counts_then s o f a b =
    let t = (f o.state).state in
    every_append (every_map (no_view s t) a.written)
    (every_map (counted_from s o.state t a.own a.stored) b)

counting : Walk Keeps CountsAll
counting = record {
  idle = λ s i. keeps_none s;
  opening = λ s i. keeps_open s;
  fastly = λ s i. keeps_fast s;
  slowly = λ s i. keeps_slow s;
  concluding = counts_view;
  chain = keeps_then;
  whole = λ s o h. every_map (no_view s o.state) h.written;
  finish = counts_then;
}

pub event_counted : (s : State) (e : Event) → Every (Counted (arrived s e) (rule_of s e).state) (rule_of s e).written
event_counted = walk_event counting

-- of a step, from the state in which the record's first change leaves the office
pub step_counted : (office : ℕ) (s : State) (b : List ℕ) (output : ℕ)
    → Every (Counted (arrived s (event_of b)) (step_of office s b output).state) (step_of office s b output).written
step_counted office s b output = go (step_cases office s b output)
  where
    go : Refused s (step_of office s b output) ⊎ Accepts office s b output
        → Every (Counted (arrived s (event_of b)) (step_of office s b output).state) (step_of office s b output).written
    go (inl r) = rw r.is none
    go (inr a) = rw (step_accepts office s b output a) (event_counted s (event_of b))
