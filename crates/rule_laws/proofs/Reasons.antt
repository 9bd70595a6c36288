-- Which numbers come back: a step gives 0 or one of its reasons, making a state gives 0 or 1.
use mathlib.Core.Path.{◌≡◌, refl}
use mathlib.Core.Bool.{true, ◌&&◌}
use mathlib.Core.Logic.{◌⊎◌, inl, inr}
use mathlib.Core.List.{List}
use Prim.Native.Nat.{ℕ, ◌≤◌}
use lib.ListN.{length}
use lib.Dec.{eqb, ltb, leb}
use Rattle.laws.specs.Lists.{none, more}
use Rattle.laws.proofs.Checks.{first_by}
use Rattle.laws.proofs.Fin.{if_cases, as-facts}
use Rattle.records.specs.Layout.{form_of, check_for, check_of}
use Rattle.rules.specs.State.{State}
use Rattle.rules.specs.Refusals.{well_formed, full_room, Made, made_of, read_checks, read_check, Event, a_report}
use Rattle.rules.specs.Refusals.{a_proposal, event_of, form_checks, form_refusal, reading_checks, read_number}
use Rattle.rules.specs.Refusals.{proposal_checks, refusal_of, rule_of, Result, accepting, act_of, act_with, step_of}

-- 0, from 1 to 13, 19 or 20
pub data Answer (n : ℕ) : Type 0 where
  accepts : n ≡ 0 → Answer n
  refuses : 1 ≤ n → n ≤ 13 → Answer n
  names_itself : n ≡ 19 → Answer n
  no_room : n ≡ 20 → Answer n

pub reason : (n : ℕ) → leb 1 n && leb n 13 ≡ true → Answer n
reason n e = let f = simp as-facts at e in refuses f.0 f.1

checked_answer : (b : List ℕ) → Answer (check_of b)
unfolding check_of check_for
checked_answer b =
    let n = (form_of b).length in
    if_cases Answer (eqb n 0) _ _ (λ e. reason 4 refl)
    (λ e. if_cases Answer (eqb (length b) n) _ _ (λ f. accepts refl) (λ f. reason 5 refl))

pub read_answer : (b : List ℕ) → Answer (read_check b)
unfolding read_check
read_answer b =
    first_by Answer (accepts refl) (read_checks b) (more (λ e. checked_answer b) (more (λ e. no_room refl) none))

form_answer : (office : ℕ) (e : Event) → Answer (form_refusal office e)
form_answer office (a_report r) = accepts refl
form_answer office (a_proposal p) = first_by Answer (accepts refl) (form_checks office p)
    (more (λ e. reason 6 refl) (more (λ e. reason 7 refl) (more (λ e. reason 8 refl) (more (λ e. reason 9 refl)
    (more (λ e. reason 10 refl) (more (λ e. names_itself refl) none))))))

pub reading_answer : (office found : ℕ) (e : Event) → Answer found → Answer (read_number office found e)
unfolding read_number
reading_answer office found e a = first_by Answer (accepts refl) (reading_checks office found e)
    (more (λ t. reason 1 refl) (more (λ t. a) (more (λ t. form_answer office e) none)))

event_answer : (s : State) (e : Event) → Answer (refusal_of s e)
unfolding proposal_checks
event_answer s (a_report r) = accepts refl
event_answer s (a_proposal p) = first_by Answer (accepts refl) (proposal_checks s p)
    (more (λ e. reason 6 refl) (more (λ e. reason 7 refl) (more (λ e. reason 8 refl) (more (λ e. reason 9 refl)
    (more (λ e. reason 10 refl) (more (λ e. names_itself refl) (more (λ e. reason 11 refl)
    (more (λ e. reason 12 refl) none))))))))

pub act_answer : (s : State) (e : Event) → Answer (act_of s e).refusal
unfolding act_of accepting
act_answer s e = if_cases (λ (r : Result). Answer r.refusal) (eqb (refusal_of s e) 0) _ _
    (λ t. if_cases (λ (r : Result). Answer r.refusal) (well_formed (rule_of s e).state) _ _ (λ w. accepts refl)
    (λ w. reason 13 refl))
    (λ t. event_answer s e)

act_with_answer : (s : State) (e : Event) (output : ℕ) → Answer (act_with s e output).refusal
unfolding act_with
act_with_answer s e output = if_cases (λ (r : Result). Answer r.refusal) (well_formed s) _ _
    (λ w. if_cases (λ (r : Result). Answer r.refusal) (ltb output full_room) _ _ (λ l. reason 3 refl)
    (λ l. act_answer s e))
    (λ w. reason 2 refl)

pub step_answer : (office : ℕ) (s : State) (b : List ℕ) (output : ℕ) → Answer (step_of office s b output).refusal
unfolding step_of
step_answer office s b output =
    let n = read_number office (read_check b) (event_of b) in
    if_cases (λ (r : Result). Answer r.refusal) (eqb n 0) _ _ (λ t. act_with_answer s (event_of b) output)
    (λ t. reading_answer office (read_check b) (event_of b) (read_answer b))

pub made_answer : (o : ℕ) → ((made_of o).refusal ≡ 0) ⊎ ((made_of o).refusal ≡ 1)
unfolding made_of
made_answer o = if_cases (λ (m : Made). (m.refusal ≡ 0) ⊎ (m.refusal ≡ 1)) (leb o 15) _ _ (λ e. inl refl)
    (λ e. inr refl)
