-- How many marks a file can have: 2,001, and 2,000 before the last one is L; so such a file is never too long.
use mathlib.Core.Path.{◌≡◌, ap}
use mathlib.Core.Bool.{true, ◌&&◌}
use mathlib.Core.Logic.{◌⊎◌, inl, inr}
use mathlib.Core.List.{List, [], ◌∷◌}
use Prim.Native.Nat.{ℕ, suc, ◌+◌, ◌*◌, ◌≤◌, ◌<◌}
use native.Mathlib.Omega.{arith}
use native.Mathlib.Decide.{ℕ_discrete}
use lib.ListN.{length}
use lib.Dec.{eqb, ltb}
use borrow.Author.Tests.{ltb-true, eqb-true, ne_eqb, leb-true}
use Rattle.laws.proofs.Fin.{or_cases, and_l, and_r}
use Rattle.laws.specs.Upd.{ifb}
use Rattle.records.specs.Layout.{high_mark, decode_high, value_of}
use Rattle.records.specs.Numbers.{limit, within}
use Rattle.rules.specs.MarkFile.{gap, file_limit, may_follow, high_number, is_high, all_high, last_in, good_file}
use Rattle.rule_laws.proofs.MarkFile.{Whole, whole_length, whole_good, last_within}

-- one mark after another
follows_cases : (p n : ℕ) → may_follow p n ≡ true
    → (n ≤ limit) × (((0 < p → p + gap < n) × (0 < n)) ⊎ ((n ≡ limit) × (p < limit)))
unfolding may_follow
follows_cases p n h =
    let a : within n ≡ true = and_l (within n) _ h in
    let b = and_r (within n) _ h in
    (leb-true n limit a, go (or_cases (ltb (ifb (eqb p 0) 0 (p + gap)) n) (eqb n limit && ltb p limit) b))
  where
    go : (ltb (ifb (eqb p 0) 0 (p + gap)) n ≡ true) ⊎ (eqb n limit && ltb p limit ≡ true)
        → ((0 < p → p + gap < n) × (0 < n)) ⊎ ((n ≡ limit) × (p < limit))
    go (inl x) = inl (λ l. ltb-true (p + gap) n (far l), let y = ltb-true _ n x in omega arith)
      where
        far : 0 < p → ltb (p + gap) n ≡ true
        far l = rw (ne_eqb p 0 (λ e. omega arith)) at x
    go (inr x) = inr (
      eqb-true n limit (and_l (eqb n limit) (ltb p limit) x),
      ltb-true p limit (and_r (eqb n limit) (ltb p limit) x),
    )

high_follows : (p : ℕ) (b : List ℕ) → is_high p b ≡ true → may_follow p (high_number b) ≡ true
unfolding is_high
high_follows p b h = and_r (eqb (value_of b) (value_of high_mark) && eqb (high_number b) (decode_high b).again)
    (may_follow p (high_number b)) h

-- the marks behind one with number p
counts : (p : ℕ) (bs : List (List ℕ)) → 0 < p → p ≤ limit → all_high p bs ≡ true
    → ((last_in p bs ≡ limit) × (p + length bs * 1_000_001 ≤ limit + 1_000_000))
    ⊎ (p + length bs * 1_000_001 ≤ last_in p bs)
unfolding all_high last_in
counts p [] z l a = inr (omega arith)
counts p (b ∷ bs) z l a =
    let i = and_l (is_high p b) _ a in
    let r = and_r (is_high p b) _ a in
    let f = follows_cases p (high_number b) (high_follows p b i) in
    let w = last_within (high_number b) bs f.0 r in
    go f.1 (λ (q : 0 < high_number b). counts (high_number b) bs q f.0 r) w
  where
    n : ℕ
    n = high_number b

    Goal : Type 0
    Goal = ((last_in n bs ≡ limit) × (p + suc (length bs) * 1_000_001 ≤ limit + 1_000_000))
        ⊎ (p + suc (length bs) * 1_000_001 ≤ last_in n bs)

    near : p + gap < n → ((last_in n bs ≡ limit) × (n + length bs * 1_000_001 ≤ limit + 1_000_000))
        ⊎ (n + length bs * 1_000_001 ≤ last_in n bs) → Goal
    near x (inl y) = let u = y.1 in inl (y.0, omega arith)
    near x (inr y) = inr (omega arith)

    top : n ≡ limit → p < limit → last_in n bs ≤ limit
        → ((last_in n bs ≡ limit) × (n + length bs * 1_000_001 ≤ limit + 1_000_000))
        ⊎ (n + length bs * 1_000_001 ≤ last_in n bs) → Goal
    top e x w (inl y) = let u = y.1 in inl (y.0, omega arith)
    top e x w (inr y) = inl (omega arith, omega arith)

    go : ((0 < p → p + gap < n) × (0 < n)) ⊎ ((n ≡ limit) × (p < limit))
        → (0 < n → ((last_in n bs ≡ limit) × (n + length bs * 1_000_001 ≤ limit + 1_000_000))
        ⊎ (n + length bs * 1_000_001 ≤ last_in n bs))
        → last_in n bs ≤ limit → Goal
    go (inl x) c w = near (x.0 z) (c x.1)
    go (inr x) c w = let e = x.0 in top e x.1 w (c (omega arith))

pub marks_count : (bs : List (List ℕ)) → all_high 0 bs ≡ true
    → (length bs ≤ 2001) × ((last_in 0 bs ≡ limit → ⊥) → length bs ≤ 2000)
unfolding all_high last_in
marks_count [] a = (omega arith, λ x. omega arith)
marks_count (b ∷ bs) a =
    let i = and_l (is_high 0 b) _ a in
    let r = and_r (is_high 0 b) _ a in
    let f = follows_cases 0 (high_number b) (high_follows 0 b i) in
    let w = last_within (high_number b) bs f.0 r in
    let z : 0 < high_number b = above f.1 in
    go (counts (high_number b) bs z f.0 r) w z
  where
    n : ℕ
    n = high_number b

    above : ((0 < 0 → 0 + gap < n) × (0 < n)) ⊎ ((n ≡ limit) × (0 < limit)) → 0 < n
    above (inl x) = x.1
    above (inr x) = let e = x.0 in omega arith

    go : ((last_in n bs ≡ limit) × (n + length bs * 1_000_001 ≤ limit + 1_000_000))
        ⊎ (n + length bs * 1_000_001 ≤ last_in n bs) → last_in n bs ≤ limit → 0 < n
        → (suc (length bs) ≤ 2001) × ((last_in n bs ≡ limit → ⊥) → suc (length bs) ≤ 2000)
    go (inl x) w z = let u = x.1 in (omega arith, λ y. absurd (y x.0))
    go (inr x) w z = (omega arith, λ y. omega arith)

-- so a file of marks, unfinished only while the last is below L, passes 18
pub whole_passes : (f : List ℕ) (bs : List (List ℕ)) (t : List ℕ) → Whole f bs t → all_high 0 bs ≡ true
    → (last_in 0 bs ≡ limit → t ≡ []) → good_file f ≡ true
whole_passes f bs t w a e = whole_good f bs t w (go (ℕ_discrete (last_in 0 bs) limit)) a
  where
    go : Dec (last_in 0 bs ≡ limit) → length f ≤ file_limit
    go (yes d) = let x = whole_length f bs t w in let y = (marks_count bs a).0 in let z = ap length (e d) in omega arith
    go (no d) = let x = whole_length f bs t w in let y = (marks_count bs a).1 d in let s = w.short in omega arith
