-- Proposals on their way between offices of A: none, and none any more.
use mathlib.Core.Path.{◌≡◌, refl, sym, ap, ◌∙◌}
use mathlib.Core.Bool.{Bool, true, false, ◌&&◌}
use mathlib.Core.List.{List, [], ◌∷◌}
use Prim.Native.Nat.{ℕ, ◌<◌}
use native.Mathlib.Omega.{arith}
use lib.ListN.{length}
use borrow.Author.Tests.{eqb-false, ne_eqb, not-true}
use Rattle.laws.proofs.Fin.{sum_ext, and_l, and_r, sum_zero}
use Rattle.laws.specs.Upd.{ifb}
use Rattle.seats.specs.Offices.{serves}
use Rattle.runs.specs.World.{Item, without}
use Rattle.laws.proofs.Grid.{upd2_cases}
use Rattle.runs.proofs.Arrays.{Offices, receive, relink}
use Rattle.settling.specs.Statement.{between, on_way, OfA}
use Rattle.settling.proofs.Invariants.{Inv, HappensFairly, fair_idle, fair_loss, fair_cut, fair_leave}
use Rattle.settling.proofs.Invariants.{fair_report, fair_store, fair_answer}

two_of_a : (A i j : ℕ) → OfA A i → OfA A j → (i ≡ j → ⊥) → between A i j ≡ true
two_of_a A i j a b n = rw (a.1, b.1, ne_eqb i j n)

-- the links between offices of A are empty
abbrev pub Empty : ℕ → (ℕ → ℕ → List Item) → Type 0
Empty A link = (i j : ℕ) → OfA A i → OfA A j → (i ≡ j → ⊥) → link i j ≡ []

pub none_on_way : (A : ℕ) (link : ℕ → ℕ → List Item) → on_way A link ≡ 0 → Empty A link
none_on_way A link z i j a b n =
    let r = sum_zero 16 _ z i a.0 in
    let c = sum_zero 16 (λ j. ifb (between A i j) (length (link i j)) 0) r j b.0 in
    no_items (link i j) (rw (two_of_a A i j a b n) at c)
  where
    no_items : (l : List Item) → length l ≡ 0 → l ≡ []
    no_items [] e = refl
    no_items (x ∷ l) e = absurd (omega arith)

-- in two worlds with the same links between offices of A as many proposals are on their way
pub same_way : (A : ℕ) (f g : ℕ → ℕ → List Item) → ((i j : ℕ) → OfA A i → OfA A j → (i ≡ j → ⊥) → f i j ≡ g i j)
    → on_way A f ≡ on_way A g
same_way A f g h =
    sum_ext 16 _ _ (λ i a. sum_ext 16 _ _ (λ j b. go i j a b (between A i j) refl))
  where
    parts : (i j : ℕ) → between A i j ≡ true → (serves A i ≡ true) × (serves A j ≡ true) × (i ≡ j → ⊥)
    parts i j e =
        let c = and_l (serves A i && serves A j) _ e in (
          and_l (serves A i) _ c,
          and_r (serves A i) _ c,
          eqb-false i j (not-true _ (and_r (serves A i && serves A j) _ e)),
        )

    go : (i j : ℕ) → i < 16 → j < 16 → (t : Bool) → between A i j ≡ t
        → ifb (between A i j) (length (f i j)) 0 ≡ ifb (between A i j) (length (g i j)) 0
    go i j a b true e = let p = parts i j e in rw (e, h i j (a, p.0) (b, p.1) p.2)
    go i j a b false e = rw e

-- nothing on the way and no report to come: an event leaves the links between offices of A empty
module _ (A : ℕ) (last : ℕ → ℕ) (t : ℕ) (all_done : (i : ℕ) → OfA A i → last i < t) where
  nil_cons : {x : Item} {l : List Item} → [] ≡ x ∷ l → ⊥
  nil_cons e = let z : ◌≡◌ {A = ℕ} 0 1 = cc in omega arith

  pub quiet_acts : {n : ℕ} {g h : Offices} → Inv A last t g → Empty A g.link → HappensFairly A last t n g h
      → Empty A h.link
  quiet_acts v e (fair_idle _) = e
  quiet_acts {g = g} v e (fair_loss a b place _ l) = λ i j p q m.
      unfold relink in upd2_cases (λ (i j : ℕ) (k : List Item). OfA A i → OfA A j → (i ≡ j → ⊥) → k ≡ [])
      g.link a b _ i j
      (λ p q m. ap (without place) (e a b p q m)) (λ o p q m. e i j p q m) p q m
  quiet_acts v e (fair_cut me m ws o f u r) = let l = all_done me o in let x = f me o in absurd (omega arith)
  quiet_acts v e (fair_leave me x _ q f) = let l = all_done me q in absurd (omega arith)
  quiet_acts v e (fair_report me x p r k) = let l = all_done me r.at_office in let o = r.open_yet in
      absurd (omega arith)
  quiet_acts {g = g} v e (fair_store me i p l _ r k) = λ a b c q m.
      unfold receive in
      upd2_cases (λ (a b : ℕ) (k : List Item). OfA A a → OfA A b → (a ≡ b → ⊥) → k ≡ []) g.link i me l a b
      (λ c q m. absurd (nil_cons (sym (e i me c q m) ∙ (r.oldest c).1))) (λ o c q m. e a b c q m) c q m
  quiet_acts v e (fair_answer me i p l _ r same _) =
      absurd (nil_cons (sym (e i me inside r.at_office r.others) ∙ (r.oldest inside).1))
    where
      inside : OfA A i
      inside = (
        r.from_office,
        ap (λ (y : ℕ). serves y i)
            (sym (same ∙ v.core.book.net_a me (r.at_office, all_done me r.at_office))) ∙ r.with_seat,
      )
