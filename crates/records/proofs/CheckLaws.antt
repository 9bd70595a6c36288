-- For checks: laws of checks 4 and 5.
use Rattle.std.specs.Prelude.{Some}
use mathlib.Core.Path.{◌≡◌, refl, sym, ap, ◌∙◌}
use mathlib.Core.Bool.{Bool, true, false}
use mathlib.Core.List.{List, [], ◌∷◌}
use mathlib.Core.Logic.{◌⊎◌, inl, inr}
use Prim.Native.Nat.{ℕ, zero, suc, ◌<◌, ◌≤◌}
use native.Mathlib.Omega.{arith}
use lib.ListN.{length, get_or}
use lib.Dec.{eqb}
use borrow.Author.Tests.{eqb-true, eq-eqb, ne_eqb, le-ltb}
use Rattle.laws.specs.Upd.{ifb}
use Rattle.laws.specs.Big.{Below}
use Rattle.laws.proofs.Fin.{if_same}
use Rattle.records.specs.Layout.{value_of, mark_of, form_for, form_of, check_for, check_of, check_own, accepted, sized}
use Rattle.records.specs.Layout.{report_mark, proposal_mark, report_length, proposal_length}
use Rattle.records.specs.Layout.{report_form, proposal_form, other_form, form_as}
use Rattle.records.specs.declared.RecordKind.{RecordKind as InCode}
use Rattle.records.specs.declared.RecordKind.TheVariants as in_code
use Rattle.records.specs.Kinds.{Form}
use Rattle.records.specs.Kinds.{RecordKind}
use Rattle.records.specs.Kinds as kinds

-- what passes has the length that its mark calls for
check_length : (n : ℕ) (b : List ℕ) → check_for n b ≡ 0 → length b ≡ n
unfolding check_for
check_length n b h = go (eqb n 0) (eqb (length b) n) refl h
  where
    go : (s t : Bool) → eqb (length b) n ≡ t → ◌≡◌ {A = ℕ} (ifb s 4 (ifb t 0 5)) 0 → length b ≡ n
    go true t e h = absurd (omega arith)
    go false true e h = eqb-true (length b) n e
    go false false e h = absurd (omega arith)

-- no bytes at all have the length 0: the mark is refused first
check_some : (n : ℕ) (b : List ℕ) → check_for n b ≡ 0 → 0 < n
unfolding check_for
check_some zero b h = absurd (omega arith)
check_some (suc n) b h = omega arith

pub check_passes : (n : ℕ) (b : List ℕ) → length b ≡ n → 0 < n → check_for n b ≡ 0
unfolding check_for
check_passes n b e p = rw (ne_eqb n 0 (λ z. omega arith), eq-eqb (length b) n e)

pub own_mark : (m : List ℕ) (n : ℕ) (b : List ℕ) → check_own m n b ≡ 0 → mark_of b ≡ value_of m
unfolding check_own
own_mark m n b h = go (eqb (mark_of b) (value_of m)) refl h
  where
    go : (t : Bool) → eqb (mark_of b) (value_of m) ≡ t → check_for (ifb t n 0) b ≡ 0 → mark_of b ≡ value_of m
    go true e h = eqb-true _ _ e
    go false e h = absurd (let z = check_some 0 b h in omega arith)

pub own_length : (m : List ℕ) (n : ℕ) (b : List ℕ) → check_own m n b ≡ 0 → length b ≡ n
unfolding check_own
own_length m n b h =
    let e = own_mark m n b h in
    check_length n b (rw (eq-eqb (mark_of b) (value_of m) e) at h)

-- bytes of the right length are refused by 4 alone
pub own_4 : (m : List ℕ) (n : ℕ) (b : List ℕ) → length b ≡ n → 0 < n
    → check_own m n b ≡ ifb (eqb (mark_of b) (value_of m)) 0 4
unfolding check_own check_for
own_4 m n b e p = go (eqb (mark_of b) (value_of m))
  where
    go : (t : Bool) → check_for (ifb t n 0) b ≡ ifb t 0 4
    go true = check_passes n b e p
    go false = refl

-- two bytes or more have a mark
pub long_mark : (b : List ℕ) → 2 ≤ length b → mark_of b ≡ value_of b
unfolding mark_of
long_mark b h = rw (le-ltb (length b) 2 h)

-- a record that starts with its mark and has its length passes
pub own_passes : (x y n : ℕ) (rest : List ℕ) → length (x ∷ y ∷ rest) ≡ n → check_own (x ∷ y ∷ []) n (x ∷ y ∷ rest) ≡ 0
unfolding check_own
own_passes x y n rest e =
    let b = x ∷ y ∷ rest in
    rw (eq-eqb (mark_of b) (value_of b) (long_mark b (omega arith))) (check_passes n b e (omega arith))

-- bytes that pass start with the mark
pub own_front : (x y n : ℕ) (b : List ℕ) → Below 256 b → x < 256 → y < 256 → 2 ≤ n → check_own (x ∷ y ∷ []) n b ≡ 0
    → (get_or b 0 0 ≡ x) × (get_or b 1 0 ≡ y)
own_front x y n b h hx hy hn c =
    let l = own_length (x ∷ y ∷ []) n b c in
    let m = long_mark b (omega arith) in
    let e = own_mark (x ∷ y ∷ []) n b c in
    (omega (arith, h 0, h 1), omega (arith, h 0, h 1))

-- what the mark of bytes calls for: a report, a proposal, or no record
pub data Marked (b : List ℕ) : Type 0 where
  report_mark_lem : mark_of b ≡ value_of report_mark → form_of b ≡ report_form → Marked b
  proposal_mark_lem : mark_of b ≡ value_of proposal_mark → form_of b ≡ proposal_form → Marked b
  other_mark_lem : form_of b ≡ other_form → Marked b

pub marked : (b : List ℕ) → Marked b
unfolding form_of form_for
marked b = go (eqb (mark_of b) (value_of report_mark)) (eqb (mark_of b) (value_of proposal_mark)) refl refl
  where
    go : (s t : Bool) → eqb (mark_of b) (value_of report_mark) ≡ s → eqb (mark_of b) (value_of proposal_mark) ≡ t → Marked b
    go true t d e = report_mark_lem (eqb-true _ _ d) (rw d)
    go false true d e = proposal_mark_lem (eqb-true _ _ e) (rw (d, e))
    go false false d e = other_mark_lem (rw (d, e))

-- the two checks by the kind of record
kind_number : RecordKind → ℕ
kind_number kinds.Report = 0
kind_number kinds.Proposal = 1
kind_number kinds.Other = 2

module _ (b : List ℕ) where
  kind_of_lem : {f : Form} {k : RecordKind} → form_of b ≡ f → (form_of b).kind ≡ k → kind_number f.kind ≡ kind_number k
  kind_of_lem e h = ap (λ (f : Form). kind_number f.kind) (sym e) ∙ ap kind_number h

  pub by_report : (form_of b).kind ≡ kinds.Report → check_of b ≡ check_own report_mark report_length b
  unfolding check_of check_own kind_number
  by_report h = go (marked b)
    where
      go : Marked b → check_of b ≡ check_own report_mark report_length b
      go (report_mark_lem m e) = rw (e, eq-eqb _ _ m)
      go (proposal_mark_lem m e) = let z = kind_of_lem e h in absurd (omega arith)
      go (other_mark_lem e) = let z = kind_of_lem e h in absurd (omega arith)

  pub by_proposal : (form_of b).kind ≡ kinds.Proposal → check_of b ≡ check_own proposal_mark proposal_length b
  unfolding check_of check_own kind_number
  by_proposal h = go (marked b)
    where
      go : Marked b → check_of b ≡ check_own proposal_mark proposal_length b
      go (report_mark_lem m e) = let z = kind_of_lem e h in absurd (omega arith)
      go (proposal_mark_lem m e) = rw (e, eq-eqb _ _ m)
      go (other_mark_lem e) = let z = kind_of_lem e h in absurd (omega arith)

  pub by_other : (form_of b).kind ≡ kinds.Other → check_of b ≡ 4
  unfolding check_of check_for kind_number
  by_other h = go (marked b)
    where
      go : Marked b → check_of b ≡ 4
      go (report_mark_lem m e) = let z = kind_of_lem e h in absurd (omega arith)
      go (proposal_mark_lem m e) = let z = kind_of_lem e h in absurd (omega arith)
      go (other_mark_lem e) = rw e

  -- a report and a proposal have a length, nothing else has
  pub report_long : (form_of b).kind ≡ kinds.Report → (form_of b).length ≡ 0 → ⊥
  unfolding kind_number
  report_long h = go (marked b)
    where
      go : Marked b → (form_of b).length ≡ 0 → ⊥
      go (report_mark_lem m e) z = let l = ap (λ (f : Form). f.length) (sym e) ∙ z in absurd (omega arith)
      go (proposal_mark_lem m e) z = let k = kind_of_lem e h in absurd (omega arith)
      go (other_mark_lem e) z = let k = kind_of_lem e h in absurd (omega arith)

  pub proposal_long : (form_of b).kind ≡ kinds.Proposal → (form_of b).length ≡ 0 → ⊥
  unfolding kind_number
  proposal_long h = go (marked b)
    where
      go : Marked b → (form_of b).length ≡ 0 → ⊥
      go (report_mark_lem m e) z = let k = kind_of_lem e h in absurd (omega arith)
      go (proposal_mark_lem m e) z = let l = ap (λ (f : Form). f.length) (sym e) ∙ z in absurd (omega arith)
      go (other_mark_lem e) z = let k = kind_of_lem e h in absurd (omega arith)

  pub other_long : (form_of b).kind ≡ kinds.Other → (form_of b).length ≡ 0
  unfolding kind_number
  other_long h = go (marked b)
    where
      go : Marked b → (form_of b).length ≡ 0
      go (report_mark_lem m e) = let k = kind_of_lem e h in absurd (omega arith)
      go (proposal_mark_lem m e) = let k = kind_of_lem e h in absurd (omega arith)
      go (other_mark_lem e) = ap (λ (f : Form). f.length) e

  -- they pass a report, a proposal and nothing else
  pub report_checks : check_own report_mark report_length b ≡ 0 → check_of b ≡ 0
  unfolding form_of form_for
  report_checks h = by_report (rw (own_mark report_mark report_length b h)) ∙ h

  pub proposal_accepted : check_own proposal_mark proposal_length b ≡ 0 → check_of b ≡ 0
  unfolding form_of form_for
  proposal_accepted h = by_proposal (rw (own_mark proposal_mark proposal_length b h)) ∙ h

  pub check_cases : check_of b ≡ 0
      → (check_own report_mark report_length b ≡ 0) ⊎ (check_own proposal_mark proposal_length b ≡ 0)
  check_cases h = go (marked b)
    where
      go : Marked b → (check_own report_mark report_length b ≡ 0) ⊎ (check_own proposal_mark proposal_length b ≡ 0)
      go (report_mark_lem m e) = inl (sym (by_report (rw e)) ∙ h)
      go (proposal_mark_lem m e) = inr (sym (by_proposal (rw e)) ∙ h)
      go (other_mark_lem e) = let z = by_other (rw e) in absurd (omega arith)

-- bytes of the length that is asked for
pub sized_all : (n : ℕ) (b : List ℕ) → length b ≡ n → sized n b ≡ b
sized_all n b e = rw (eq-eqb (length b) n e)

-- what its own checks accept has the length, and of what they refuse there are no bytes
pub sized_accepted : (m : List ℕ) (n : ℕ) (b : List ℕ) (r : ℕ) → r ≡ check_own m n b
    → sized n (accepted r b) ≡ accepted r b
sized_accepted m n b r e = go (eqb r 0) refl
  where
    go : (t : Bool) → eqb r 0 ≡ t → sized n (ifb t b []) ≡ ifb t b []
    go true z = sized_all n b (own_length m n b (sym e ∙ eqb-true r 0 z))
    go false z = if_same (eqb 0 n) []

-- the two checks by what code answers of the mark
some_long : (k : InCode) → (form_as (Some k)).length ≡ 0 → ⊥
some_long in_code.Report e = omega arith
some_long in_code.Proposal e = omega arith

module _ (b : List ℕ) (k : InCode) (is : form_as (Some k) ≡ form_of b) (n : ℕ) (long : n ≡ (form_as (Some k)).length) where
  pub length_is : n ≡ (form_of b).length
  length_is = long ∙ ap (λ (f : Form). f.length) is

  pub length_some : n ≡ 0 → ⊥
  length_some z = some_long k (sym long ∙ z)

  pub checked_by_kind : ifb (eqb (length b) n) 0 5 ≡ check_of b
  unfolding check_of check_for
  checked_by_kind = rw (sym length_is, ne_eqb n 0 length_some) refl

pub no_kind : (b : List ℕ) → other_form ≡ form_of b → ◌≡◌ {A = ℕ} 4 (check_of b)
unfolding check_of check_for
no_kind b is = rw (sym is) refl
