-- The lowest below n that passes a test.
use Rattle.std.specs.Prelude.{Bool, ℕ, zero, suc, min}
use Rattle.laws.specs.Upd.{ifb}

-- it stops at the first; n where none passes
unfoldable pub lowest_below : ℕ → (ℕ → Bool) → ℕ
lowest_below zero p = 0
lowest_below (suc n) p = ifb (p 0) 0 (suc (lowest_below n (λ k. p (suc k))))

-- it goes through all n and takes the least, where one that does not pass counts as n
unfoldable pub lowest_of_all : ℕ → (ℕ → Bool) → ℕ
lowest_of_all zero p = 0
lowest_of_all (suc n) p = min (ifb (p 0) 0 (suc n)) (suc (lowest_of_all n (λ k. p (suc k))))
