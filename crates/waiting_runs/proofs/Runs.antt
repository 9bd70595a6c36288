-- Over every run of one office from fresh, after each event: the answer is never that the agreement test is met, and
-- never the own office.
use mathlib.Core.Path.{◌≡◌, refl, sym, ◌∙◌}
use mathlib.Core.List.{List}
use Prim.Native.Nat.{ℕ}
use native.Mathlib.Omega.{arith}
use Rattle.laws.proofs.Fin.{true_false}
use Rattle.rules.specs.State.{State}
use Rattle.rules.specs.Rules.{fresh}
use Rattle.rule_laws.proofs.Parts.{fresh_reads}
use Rattle.rule_laws.proofs.Tests.{agreeing_in}
use Rattle.rule_laws.proofs.Steps.{well_facts, take_by}
use Rattle.runs.specs.Office.{Input, answer_to, next_state, state_after}
use Rattle.runs.proofs.OfficeRuns.{after_keeps}
use Rattle.runs.proofs.OfficeViews.{answer_ends}
use Rattle.waiting.specs.declared.Waiting.{Waiting}
use Rattle.waiting.specs.declared.Waiting.TheVariants as answers
use Rattle.waiting.specs.Waiting.{waiting_for}
use Rattle.waiting.proofs.Laws.{Means, malformed, nobody, met, named, means, busy_out}
use Rattle.waiting_runs.proofs.Awaits.{Awaits, event_awaits}

awaits_next : (s : State) (h : Input) → Awaits s → Awaits (next_state s h)
unfolding answer_to
awaits_next s h k = take_by h.office s h.event h.room (λ ws t. Awaits t) k
    (λ a. event_awaits s h.event (well_facts s a.well).own a.acts.passes k)

awaits_fresh : (own : ℕ) → Awaits (fresh own)
awaits_fresh own = let none = (fresh_reads own).mode_is in
    record { unmet = λ b v. absurd (b none); own_has = λ b v. absurd (b none) }

-- with the office's number
record Along (own : ℕ) (s : State) : Type 0 where
  office : s.own ≡ own
  awaits : Awaits s

module _ (own : ℕ) (hs : List Input) where
  abbrev after : State
  after = state_after (fresh own) hs

  along : Along own after
  along = after_keeps (Along own)
      (λ s h k. record { office = (answer_ends s h).0.own ∙ k.office; awaits = awaits_next s h k.awaits })
      (fresh own)
      (record { office = (fresh_reads own).own_is; awaits = awaits_fresh own }) hs

  pub never_met : waiting_for after ≡ answers.Met → ⊥
  never_met e = go (means after) e
    where
      go : {a : Waiting} → Means after a → a ≡ answers.Met → ⊥
      go (malformed x) q = let z : ◌≡◌ {A = ℕ} 0 1 = cc in omega arith
      go (nobody x y) q = let z : ◌≡◌ {A = ℕ} 0 1 = cc in omega arith
      go (met x y a) q = let b = busy_out after y in true_false _ a (along.awaits.unmet b.0 b.1)
      go (named o x y a l) q = let z : ◌≡◌ {A = ℕ} 0 1 = cc in omega arith

  pub never_own : waiting_for after ≡ answers.For own → ⊥
  never_own e = go (means after) e
    where
      go : {a : Waiting} → Means after a → a ≡ answers.For own → ⊥
      go (malformed x) q = let z : ◌≡◌ {A = ℕ} 0 1 = cc in omega arith
      go (nobody x y) q = let z : ◌≡◌ {A = ℕ} 0 1 = cc in omega arith
      go (met x y a) q = let z : ◌≡◌ {A = ℕ} 0 1 = cc in omega arith
      go (named o x y a l) q =
          let b = busy_out after y in
          let d : o ≡ own = cc in
          let i : o ≡ after.own = d ∙ sym along.office in
          true_false _ (agreeing_in
          after after.mode after.own refl b.0 (along.awaits.own_has b.0 b.1))
          (rw i at l.lacking)
