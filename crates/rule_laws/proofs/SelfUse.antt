-- 19 is for a proposal that claims to have used itself, and for no other: in any state, of the event and of its bytes.
use mathlib.Core.Path.{◌≡◌, refl, sym, ap, ◌∙◌}
use mathlib.Core.Bool.{Bool, true, false}
use mathlib.Core.List.{List}
use mathlib.Core.Logic.{◌⊎◌, inl, inr}
use Prim.Native.Nat.{ℕ, ◌≤◌, ◌<◌}
use native.Mathlib.Omega.{arith}
use native.Mathlib.Decide.{ℕ_discrete}
use lib.ListN.{length}
use lib.Dec.{eqb, ltb}
use borrow.Author.Tests.{leb-true, eq-eqb, ne_eqb}
use Rattle.laws.specs.Checks.{first_of}
use Rattle.laws.specs.Lists.{none, more}
use Rattle.laws.proofs.Checks.{first_by}
use Rattle.laws.proofs.Fin.{if_cases, true_false}
use Rattle.records.specs.Fits.{FitsProposal}
use Rattle.records.specs.Layout.{encode_notice, encode_proposal, encode_view, form_for, form_of, check_for, check_of}
use Rattle.records.specs.declared.Notice.{Notice}
use Rattle.records.specs.declared.Proposal.{Proposal}
use Rattle.records.specs.declared.View.{View}
use Rattle.records.proofs.CheckLaws.{long_mark, by_other}
use Rattle.records.proofs.RoundTrip.{proposal_back}
use Rattle.rules.specs.State.{State, used_for}
use Rattle.rules.specs.Rules.{Written, notice, proposal, view}
use Rattle.rules.specs.Refusals.{read_checks, read_check, uses_itself, form_checks, reading_checks, read_number}
use Rattle.rules.specs.Refusals.{proposal_checks, a_proposal, event_of, well_formed, full_room, refusal_of, rule_of}
use Rattle.rules.specs.Refusals.{Result, accepting, act_of, act_with, take_of, step_of, bytes_of}
use Rattle.rule_laws.proofs.Encoded.{proposal_event}
use Rattle.rule_laws.proofs.Steps.{Refused, Takes, check_facts, take_cases, read_facts, reading_facts, step_takes}

module _ (s : State) (p : Proposal) where
  form_not_19 : (office : ℕ) → uses_itself p ≡ false → eqb (first_of (form_checks office p)) 19 ≡ false
  form_not_19 office e =
      first_by (λ n. eqb n 19 ≡ false) refl (form_checks office p) (more (λ t. refl) (more (λ t. refl) (more (λ t. refl)
      (more (λ t. refl) (more (λ t. refl) (more (λ t. absurd (true_false _ t e)) none))))))

  checks_not_19 : uses_itself p ≡ false → eqb (first_of (proposal_checks s p)) 19 ≡ false
  unfolding proposal_checks
  checks_not_19 e =
      first_by (λ n. eqb n 19 ≡ false) refl (proposal_checks s p) (more (λ t. refl) (more (λ t. refl) (more (λ t. refl)
      (more (λ t. refl) (more (λ t. refl) (more (λ t. absurd (true_false _ t e)) (more (λ t. refl)
      (more (λ t. refl) none))))))))

  abbrev Not19 : Result → Type 0
  Not19 r = eqb r.refusal 19 ≡ false

  reading_not_19 : (office : ℕ) → uses_itself p ≡ false → eqb (read_number office 0 (a_proposal p)) 19 ≡ false
  unfolding read_number
  reading_not_19 office e =
      first_by (λ n. eqb n 19 ≡ false) refl (reading_checks office 0 (a_proposal p))
      (more (λ t. refl) (more (λ t. refl) (more (λ t. form_not_19 office e) none)))

  take_not_19 : (office output : ℕ) → uses_itself p ≡ false → Not19 (take_of office s (a_proposal p) output)
  unfolding take_of act_with act_of accepting
  take_not_19 office output e =
      if_cases Not19 (eqb (read_number office 0 (a_proposal p)) 0) _ _
      (λ r. if_cases Not19 (well_formed s) _ _
      (λ w. if_cases Not19 (ltb output full_room) _ _ (λ l. refl)
      (λ l. if_cases Not19 (eqb (refusal_of s (a_proposal p)) 0) _ _
      (λ z. if_cases Not19 (well_formed (rule_of s (a_proposal p)).state) _ _ (λ a. refl) (λ a. refl))
      (λ z. checks_not_19 e)))
      (λ w. refl))
      (λ r. reading_not_19 office e)

  pub only_19 : (office output : ℕ) → (take_of office s (a_proposal p) output).refusal ≡ 19
      → p.number ≤ used_for p p.sender
  only_19 office output e = go (uses_itself p) refl
    where
      go : (t : Bool) → uses_itself p ≡ t → p.number ≤ used_for p p.sender
      go true u = leb-true _ _ (unfold uses_itself in u)
      go false u = absurd (true_false _ (eq-eqb _ 19 e) (take_not_19 office output u))

  pub self_refused : (office output : ℕ) → p.number ≤ used_for p p.sender
      → (take_of office s (a_proposal p) output).refusal ≡ 0 → ⊥
  self_refused office output l z = go (take_cases office s (a_proposal p) output)
    where
      go : Refused s (take_of office s (a_proposal p) output) ⊎ Takes office s (a_proposal p) output → ⊥
      go (inl r) = r.reason z
      go (inr a) = let u = (check_facts s p a.acts.passes).used_below in omega arith

-- nor to bytes that are no event: what 4, 5 and 20 find is the reading's number, or it is 1
unread_19 : (office : ℕ) (b : List ℕ) → (read_check b ≡ 0 → ⊥)
    → eqb (read_number office (read_check b) (event_of b)) 19 ≡ false
unfolding read_number
unread_19 office b n =
    if_cases (λ k. eqb k 19 ≡ false) (ltb 15 office) _ _ (λ t. refl) (λ t. rw (ne_eqb (read_check b) 0 n) unread)
  where
    checked : eqb (check_of b) 19 ≡ false
    checked = unfold check_of check_for in
        if_cases (λ n. eqb n 19 ≡ false) (eqb (form_of b).length 0) _ _ (λ t. refl)
        (λ t. if_cases (λ n. eqb n 19 ≡ false) (eqb (length b) (form_of b).length) _ _ (λ u. refl) (λ u. refl))

    unread : eqb (read_check b) 19 ≡ false
    unread = unfold read_check in
        first_by (λ n. eqb n 19 ≡ false) refl (read_checks b) (more (λ t. checked) (more (λ t. refl) none))

pub read_19 : (office : ℕ) (s : State) (b : List ℕ) (output : ℕ) → (step_of office s b output).refusal ≡ 19
    → read_check b ≡ 0
unfolding step_of
read_19 office s b output e = go (ℕ_discrete (read_check b) 0)
  where
    go : Dec (read_check b ≡ 0) → read_check b ≡ 0
    go (yes z) = z
    go (no n) =
        let m : read_number office (read_check b) (event_of b) ≡ 0 → ⊥
        = λ z. n ((reading_facts office (read_check b) (event_of b)).0 z).1 in
        absurd (true_false _ (eq-eqb _ 19 (rw (ne_eqb _ 0 m) at e)) (unread_19 office b n))

notice_unread : (room : ℕ) (n : Notice) → check_of (encode_notice room n) ≡ 4
unfolding encode_notice form_of form_for
notice_unread room n = by_other (encode_notice room n) (rw (long_mark (encode_notice room n) (omega arith)))

view_unread : (room : ℕ) (v : View) → check_of (encode_view room v) ≡ 4
unfolding encode_view form_of form_for
view_unread room v = by_other (encode_view room v) (rw (long_mark (encode_view room v) (omega arith)))

-- so not to the bytes of a record that was written, where a proposal fits and has not used itself
pub written_never_19 : (office : ℕ) (s : State) (room : ℕ) (w : Written) (output : ℕ)
    → ((p : Proposal) → w ≡ proposal p → FitsProposal p × (used_for p p.sender < p.number))
    → (step_of office s (bytes_of room w) output).refusal ≡ 19 → ⊥
written_never_19 office s room (notice n) output f e =
    let a = (read_facts (encode_notice room n)).0 (read_19 office s (encode_notice room n) output e) in
    let b = notice_unread room n in omega arith
written_never_19 office s room (view v) output f e =
    let a = (read_facts (encode_view room v)).0 (read_19 office s (encode_view room v) output e) in
    let b = view_unread room v in omega arith
written_never_19 office s room (proposal p) output f e =
    let b = encode_proposal room p in
    let fits = (f p refl).0 in
    let below = (f p refl).1 in
    let is = proposal_event room p ∙ ap a_proposal (proposal_back room p fits) in
    let t = step_takes office s b output (read_19 office s b output e) ∙ ap (λ x. take_of office s x output) is in
    let above = only_19 s p office output (sym (ap (λ (r : Result). r.refusal) t) ∙ e) in
    omega arith
