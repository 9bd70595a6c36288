-- Below n: all, some, the largest, a sum.
use Rattle.std.specs.Prelude.{Bool, true, false, ◌&&◌, ◌||◌, ℕ, zero, suc, ◌+◌, max}

-- all below n
unfoldable pub allb : ℕ → (ℕ → Bool) → Bool
allb zero p = true
allb (suc n) p = p n && allb n p

-- some below n
unfoldable pub anyb : ℕ → (ℕ → Bool) → Bool
anyb zero p = false
anyb (suc n) p = p n || anyb n p

-- the largest of f below n; 0 where there is none
unfoldable pub largest : ℕ → (ℕ → ℕ) → ℕ
largest zero f = 0
largest (suc n) f = max (f n) (largest n f)

-- a sum below n
unfoldable pub sum : ℕ → (ℕ → ℕ) → ℕ
sum zero f = 0
sum (suc n) f = f n + sum n f
