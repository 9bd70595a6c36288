-- For leaving: the largest of a list, and of its places.
use mathlib.Core.Path.{◌≡◌, refl}
use mathlib.Core.List.{List, [], ◌∷◌}
use Prim.Native.Nat.{ℕ, ◌≤◌, ◌<◌, max}
use native.Mathlib.Omega.{arith}
use lib.ListN.{length, get_or}
use Rattle.std.proofs.lemmas.List.Recursion.{max_bounds, max_least}
use Rattle.laws.specs.Fin.{largest}
use Rattle.laws.proofs.Fin.{largest_le, largest_max}

abbrev pub top : List ℕ → ℕ
top [] = 0
top (x ∷ xs) = max x (top xs)

pub top_bounds : (l : List ℕ) (i : ℕ) → i < length l → get_or l i 0 ≤ top l
top_bounds l i h = max_bounds top (λ x. x) refl (λ _ _. refl) l i 0 h

pub top_least : (l : List ℕ) (m : ℕ) → ((i : ℕ) → i < length l → get_or l i 0 ≤ m) → top l ≤ m
top_least l m h = max_least top (λ x. x) refl (λ _ _. refl) l 0 m h

pub top_largest : (l : List ℕ) (n : ℕ) → length l ≡ n → 0 < n → top l ≡ largest n (λ o. get_or l o 0)
top_largest l n size some =
    let f = λ (o : ℕ). get_or l o 0 in
    let a = top_least l (largest n f) (λ i h. largest_le n f i (omega arith)) in
    let w = largest_max n f some in
    let b = top_bounds l w.0 (omega (arith, w.1)) in
    let e = w.2 in
    omega arith
