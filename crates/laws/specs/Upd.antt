-- A choice by a test, and a function changed at one place.
use Rattle.std.specs.Prelude.{Bool, true, false, ℕ, eqb}

module _ {A : Type 0} where
  abbrev pub ifb : Bool → A → A → A
  ifb true a b = a
  ifb false a b = b

  unfoldable pub upd : (ℕ → A) → ℕ → A → ℕ → A
  upd f i v j = ifb (eqb j i) v (f j)

-- the same of an array of arrays
module _ {A : Type 0} where
  abbrev pub upd2 : (ℕ → ℕ → A) → ℕ → ℕ → A → ℕ → ℕ → A
  upd2 f i j v = upd f i (upd (f i) j v)
