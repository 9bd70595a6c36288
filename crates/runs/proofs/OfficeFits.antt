-- The proposals that an office sends fit their records, where the sets handed to it are sets of seats.
use mathlib.Core.Path.{◌≡◌, ◌∙◌}
use mathlib.Core.List.{List, Memᴰ}
use Prim.Native.Nat.{ℕ, ◌^◌, ◌≤◌, ◌<◌}
use native.Mathlib.Omega.{arith}
use lib.Dec.{eqb}
use Rattle.laws.specs.Big.{Below}
use Rattle.laws.specs.Lists.{Every, none}
use Rattle.laws.proofs.Lists.{every_at}
use Rattle.laws.proofs.Fin.{if_cases}
use Rattle.records.specs.Fits.{FitsProposal}
use Rattle.records.specs.Layout.{report_mark, value_of, mark_of}
use Rattle.records.specs.Numbers.{limit}
use Rattle.records.specs.declared.Proposal.{Proposal}
use Rattle.records.proofs.RoundTrip.{report_fits}
use Rattle.rules.specs.State.{State, used_at}
use Rattle.rules.specs.Rules.{proposal, restarted, net_after}
use Rattle.rules.specs.Refusals.{Event, a_report, a_proposal, event_of, rule_of}
use Rattle.rule_laws.proofs.Parts.{with_net_reads, received_reads, restarted_reads, net_after_fits}
use Rattle.rule_laws.proofs.Steps.{well_facts, take_by}
use Rattle.rule_laws.proofs.Walk.{arrived, arrived_own, arrived_used}
use Rattle.runs.specs.Office.{Input, OfSeats, answer_to, next_state, Turn, handed_at, left_over}
use Rattle.runs.proofs.EachSent.{each_left}
use Rattle.runs.proofs.Proposals.{IfProposal, EachProposal, each_map, is_proposal, makes_event}
use Rattle.runs.proofs.Valid.{made_fits}

-- a record that was read has sets of seats
pub read_fits : (b : List ℕ) → Below 256 b → OfSeats (event_of b)
unfolding event_of
read_fits b h = if_cases OfSeats (eqb (mark_of b) (value_of report_mark)) _ _ (λ e. report_fits b h) (λ e. tt)

-- a state of office own whose net view is a set of seats
record OwnSeats (own : ℕ) (s : State) : Type 0 where
  office : s.own ≡ own
  net : s.net.bits < 2 ^ 64

module _ (own : ℕ) (lt : own < 16) where
  arrived_seats : (s : State) (e : Event) → OfSeats e → OwnSeats own s → OwnSeats own (arrived s e)
  arrived_seats s e fits f = record { office = arrived_own s e ∙ f.office; net = net e fits }
    where
      net : (e : Event) → OfSeats e → (arrived s e).net.bits < 2 ^ 64
      net (a_report r) fits =
          rw (with_net_reads s (net_after s.net.bits r)).net_is (net_after_fits s.net.bits r f.net fits)
      net (a_proposal p) fits = rw (received_reads s p).net_is f.net

  answer_seats : (s : State) (h : Input) → OfSeats h.event → OwnSeats own s
      → OwnSeats own (next_state s h) × EachProposal FitsProposal (answer_to s h).written
  unfolding answer_to
  answer_seats s h fits f =
      let e = h.event in
      take_by h.office s e h.room (λ ws t. OwnSeats own t × EachProposal FitsProposal ws) (f, none) (λ a.
      let g = arrived_seats s e fits f in
      let m = makes_event s e in
      let within : (o : ℕ) → o < 16 → used_at (arrived s e) o ≤ limit
      = λ o l. rw (arrived_used s e o l) ((well_facts s a.well).used o l) in (
        record { office = m.own ∙ g.office; net = rw m.net g.net },
        each_map (made_fits (arrived s e) (rule_of s e).state own g.office lt g.net within
            (well_facts _ a.acts.within)) m.sends,
      ))

  restarted_seats : (m : ℕ) → OwnSeats own (restarted own m)
  restarted_seats m =
      let r = restarted_reads own m in record { office = r.own_is; net = rw r.net_is (omega arith) }

  -- of every proposal that leaves, the restarts at any numbers
  pub left_fits : (m : ℕ) (ts : List Turn) → Every (λ t. OfSeats (handed_at t).event) ts → (p : Proposal)
      → Memᴰ (proposal p) (left_over (restarted own m) ts) → FitsProposal p
  left_fits m ts fits p i =
      is_proposal (every_at (left_over (restarted own m) ts)
      (each_left own (OwnSeats own) (IfProposal FitsProposal) (λ h. OfSeats h.event) restarted_seats
      (λ s f. f.office) answer_seats (restarted own m) ts fits (restarted_seats m)) i)
