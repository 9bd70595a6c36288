-- Laws of the rows of proposals on a link.
use mathlib.Core.Path.{◌≡◌, refl, sym, ap}
use mathlib.Core.List.{List, [], ◌∷◌, ◌++◌}
use mathlib.Core.Logic.{◌⊎◌, inl, inr}
use Prim.Native.Nat.{ℕ, zero, suc, ◌≤◌, ◌<◌}
use native.Mathlib.Omega.{arith}
use lib.ListN.{length, get_or}
use Rattle.laws.specs.Lists.{Every, none, more}
use Rattle.laws.proofs.Lists.{every_head, every_tail}
use Rattle.runs.specs.World.{Item, without}
use Rattle.runs.specs.Begins.{Rising, end, next}

pub every_without : {P : Item → Type 0} (n : ℕ) (l : List Item) → Every P l → Every P (without n l)
every_without n [] h = none
every_without zero (x ∷ l) h = every_tail h
every_without (suc n) (x ∷ l) h = more (every_head h) (every_without n l (every_tail h))

pub rising_le : {lo hi : ℕ} {l : List Item} → Rising lo hi l → lo ≤ hi
rising_le (end h) = h
rising_le (next h r) = let e = rising_le r in omega arith

-- from lower, and up to higher
pub rising_low : {lo hi : ℕ} {l : List Item} (a : ℕ) → a ≤ lo → Rising lo hi l → Rising a hi l
rising_low {lo} {hi} a h (end e) = let k : a ≤ hi = omega arith in end k
rising_low {lo} {hi} a h (next {x = x} e r) = let k : a < x.proposal.number = omega arith in next k r

pub rising_high : {lo hi : ℕ} {l : List Item} (b : ℕ) → hi ≤ b → Rising lo hi l → Rising lo b l
rising_high {lo} {hi} b h (end e) = let k : lo ≤ b = omega arith in end k
rising_high b h (next e r) = next e (rising_high b h r)

pub rising_snoc : {lo hi : ℕ} {l : List Item} (x : Item) → hi < x.proposal.number → Rising lo hi l
    → Rising lo x.proposal.number (l ++ (x ∷ []))
rising_snoc {lo} {hi} x h (end e) =
    let a : lo < x.proposal.number = omega arith in
    let b : x.proposal.number ≤ x.proposal.number = omega arith in
    next a (end b)
rising_snoc x h (next e r) = next e (rising_snoc x h r)

rising_cons : {lo hi : ℕ} {x : Item} {l : List Item} → Rising lo hi (x ∷ l) → lo < x.proposal.number
rising_cons (next h r) = h

pub rising_tail : {lo hi : ℕ} {x : Item} {l : List Item} → Rising lo hi (x ∷ l) → Rising x.proposal.number hi l
rising_tail (next h r) = r

pub rising_head : {lo hi : ℕ} {x : Item} {l : List Item} → Rising lo hi (x ∷ l) → (lo < x.proposal.number)
    × (x.proposal.number ≤ hi)
rising_head (next h r) = (h, rising_le r)

pub rising_without : {lo hi : ℕ} (n : ℕ) (l : List Item) → Rising lo hi l → Rising lo hi (without n l)
rising_without n [] r = r
rising_without zero (x ∷ l) r = let h = rising_cons r in rising_low _ (omega arith) (rising_tail r)
rising_without (suc n) (x ∷ l) r = next (rising_cons r) (rising_without n l (rising_tail r))

-- all of them are above
pub rising_every : {lo hi : ℕ} (n : ℕ) (l : List Item) → n ≤ lo → Rising lo hi l
    → Every (λ x. n < x.proposal.number) l
rising_every n [] h r = none
rising_every n (x ∷ l) h r =
    let a = rising_cons r in more {a = x} (omega arith) (rising_every n l (omega arith) (rising_tail r))

-- the last item
pub rising_last : {lo hi : ℕ} (l : List Item) (x : Item) → Rising lo hi (l ++ (x ∷ [])) → (lo < x.proposal.number)
    × (x.proposal.number ≤ hi)
rising_last [] x r = rising_head r
rising_last (y ∷ l) x r = let h = rising_last l x (rising_tail r) in let e = rising_cons r in (omega arith, h.1)

pub snoc_not_nil : (l : List Item) (x : Item) → l ++ (x ∷ []) ≡ [] → ⊥
snoc_not_nil [] x e = let z : ◌≡◌ {A = ℕ} 0 1 = cc in omega arith
snoc_not_nil (y ∷ l) x e = let z : ◌≡◌ {A = ℕ} 0 1 = cc in omega arith

-- the last of a row, where its front is taken off
pub snoc_tail : (l : List Item) (x y : Item) (k : List Item) → l ++ (x ∷ []) ≡ y ∷ k
    → ((k ≡ []) × (x ≡ y)) ⊎ ((m : List Item) × (k ≡ m ++ (x ∷ [])))
snoc_tail [] x y k e = inl (sym (cc), (cc))
snoc_tail (z ∷ l) x y k e = inr (l, sym (cc))

-- the last of a row, where an item is lost
pub without_snoc : (n : ℕ) (l : List Item) (x : Item)
    → ((m : List Item) × (without n (l ++ (x ∷ [])) ≡ m ++ (x ∷ [])))
    ⊎ ((n < length (l ++ (x ∷ []))) × (get_or (l ++ (x ∷ [])) n x ≡ x))
without_snoc zero [] x = inr (omega arith, refl)
without_snoc (suc n) [] x = inl ([], refl)
without_snoc zero (y ∷ l) x = inl (l, refl)
without_snoc (suc n) (y ∷ l) x = go (without_snoc n l x)
  where
    go : ((m : List Item) × (without n (l ++ (x ∷ [])) ≡ m ++ (x ∷ [])))
        ⊎ ((n < length (l ++ (x ∷ []))) × (get_or (l ++ (x ∷ [])) n x ≡ x))
        → ((m : List Item) × (without (suc n) ((y ∷ l) ++ (x ∷ [])) ≡ m ++ (x ∷ [])))
        ⊎ ((suc n < length ((y ∷ l) ++ (x ∷ []))) × (get_or ((y ∷ l) ++ (x ∷ [])) (suc n) x ≡ x))
    go (inl r) = inl (y ∷ r.0, ap (λ k. y ∷ k) r.1)
    go (inr r) = inr (omega arith, r.1)
