use mathlib.Core.Path.{◌≡◌, refl, ap, ◌∙◌}
use Prim.Native.Nat.{ℕ, zero, suc}
use lib.ListN.{length, replicate}
use mathlib.Core.List.{◌∷◌, List}
use Rattle.laws.specs.Tab.{tab}
use Rattle.row.specs.Row.{row_length}
use Rattle.row.proofs.stores.put_zeros.Goals as goal

zeros : (n : ℕ) → replicate {A = ℕ} n 0 ≡ tab n (λ k. 0)
unfolding tab
zeros zero = refl
zeros (suc n) = ap (λ (l : List ℕ). 0 ∷ l) (zeros n)

pub returns : goal.returns
returns c =
    let e : c.fill.new.self ≡ replicate {A = ℕ} (length c.args.s.now) 0 = c.fill.ensures.after (λ y e. e) in
    e ∙ rw c.requires (zeros row_length)
