-- For changes and slots: what a change in place leaves of the row that it was lent.
use mathlib.Core.Path.{◌≡◌, ap}
use mathlib.Core.List.{List}
use Prim.Native.Nat.{ℕ, ◌<◌}
use native.Mathlib.Omega.{arith}
use Rattle.rules.specs.State.{State}
use Rattle.row.specs.Row.{state_of}
use Rattle.row.specs.Changes.{Changed}

-- the own office
pub own_kept : {f : State → State} {a b : List ℕ} → Changed f a b → (f (state_of a)).own ≡ (state_of a).own
    → (state_of a).own < 16 → (state_of b).own < 16
own_kept x e h = let g = ap (λ (s : State). s.own) x.is in omega arith

-- words that a change leaves, by another name
pub changed_to : {f : State → State} {a b c : List ℕ} → Changed f a b → c ≡ b → Changed f a c
changed_to x e = rw e x
