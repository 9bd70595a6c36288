-- Loops over the entries of an array: a table filled place by place, and one turn more of a test or of a largest.
use mathlib.Core.Path.{◌≡◌, refl, ◌∙◌}
use mathlib.Core.Bool.{Bool, true, false, ◌&&◌, ◌||◌}
use mathlib.Core.List.{List, [], ◌∷◌}
use Prim.Native.Nat.{ℕ, zero, suc, ◌+◌, ◌≤◌, ◌<◌, max}
use native.Mathlib.Numerals.{add-one}
use native.Mathlib.Omega.{arith}
use lib.ListN.{length, get_or, set, length-set}
use mir.Syntax.{w32}
use mir.Val.{bool_byte, Fits}
use Rattle.laws.specs.Fin.{allb, anyb, largest, sum}
use Rattle.laws.specs.Upd.{ifb}
use Rattle.laws.proofs.Fin.{allb_out, true_false, if_le, count_le}
use Rattle.laws.specs.Tab.{tab}
use Rattle.laws.proofs.Tab.{filled, fill_step}

-- an entry, whatever stands for a missing one
pub same_entry : {A : Type 0} (l : List A) (i : ℕ) (d e : A) → i < length l → get_or l i d ≡ get_or l i e
same_entry [] i d e h = absurd (omega arith)
same_entry (x ∷ l) zero d e h = refl
same_entry (x ∷ l) (suc i) d e h = same_entry l i d e (omega arith)

module _ {A : Type 0} where
  -- a loop that stores f i at i, in an array of n entries: what it has done below i
  pub record Filling (n : ℕ) (d : A) (f : ℕ → A) (i : ℕ) (l : List A) : Type 0 where
    pub size : length l ≡ n
    pub done : (k : ℕ) → k < i → get_or l k d ≡ f k

  module _ (n : ℕ) (d : A) (f : ℕ → A) where
    pub filling_none : (l : List A) → length l ≡ n → Filling n d f 0 l
    filling_none l e = record { size = e; done = λ k h. absurd (omega arith) }

    module _ (i : ℕ) (l : List A) (h : Filling n d f i l) where
      pub filling_set : i < n → (v : A) → v ≡ f i → Filling n d f (i + 1) (set l i v)
      filling_set lt v e = record {
        size = length-set l i v ∙ h.size;
        done = λ k kl. let s = h.size in rw e (fill_step f d l i (omega arith) h.done k kl);
      }

      pub filling_all : n ≤ i → l ≡ tab n f
      filling_all le = filled n f d l h.size (λ k kl. h.done k (omega arith))

-- one turn more
pub largest_one : (n : ℕ) (f : ℕ → ℕ) → largest (n + 1) f ≡ max (f n) (largest n f)
unfolding largest
largest_one n f = rw add-one

pub all_one : (n : ℕ) (p : ℕ → Bool) → allb (n + 1) p ≡ p n && allb n p
unfolding allb
all_one n p = rw add-one

-- a loop that asks whether a test holds at some place: before the first, and one turn more
pub any_none : (p : ℕ → Bool) → false ≡ anyb 0 p
unfolding anyb
any_none p = refl

pub any_one : (n : ℕ) (p : ℕ → Bool) (b : Bool) → b ≡ anyb n p → p n || b ≡ anyb (n + 1) p
unfolding anyb
any_one n p b e = rw (add-one n, e)

-- a test as a number, as the code makes it: test as u32
pub flag : (b : Bool) → bool_byte b ≡ ifb b 1 0
flag true = refl
flag false = refl

-- a loop that counts the places at which a test holds
pub count_none : (p : ℕ → Bool) → 0 ≡ sum 0 (λ k. ifb (p k) 1 0)
unfolding sum
count_none p = refl

pub count_one : (n : ℕ) (p : ℕ → Bool) (c : ℕ) → c ≡ sum n (λ k. ifb (p k) 1 0)
    → c + bool_byte (p n) ≡ sum (n + 1) (λ k. ifb (p k) 1 0)
unfolding sum
count_one n p c e = rw (add-one n, e, flag (p n)) (omega arith)

pub count_fits : (n : ℕ) (p : ℕ → Bool) (c : ℕ) → c ≡ sum n (λ k. ifb (p k) 1 0) → n < 16 → (b : Bool)
    → Fits w32 (c + bool_byte b)
count_fits n p c e h b =
    let l = count_le n p in
    let f : bool_byte b ≤ 1 = rw (flag b) (if_le b 1 0 1 (omega arith) (omega arith)) in
    omega arith

pub all_fails : (n : ℕ) (p : ℕ → Bool) (k : ℕ) → k < n → p k ≡ false → allb n p ≡ false
all_fails n p k h e = go (allb n p) refl
  where
    go : (t : Bool) → allb n p ≡ t → allb n p ≡ false
    go false q = q
    go true q = absurd (true_false (p k) (allb_out n p q k h) e)
