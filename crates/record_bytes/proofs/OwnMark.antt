-- For own_checks: the mark that bytes start with and a record's own, by what code answers of the first.
use Rattle.std.specs.Prelude.{Option, None, Some, unwrap_or}
use Rattle.std.specs.Option.{option_eq}
use mathlib.Core.Path.{◌≡◌, sym, ◌∙◌}
use mathlib.Core.Bool.{true, false}
use mathlib.Core.List.{List}
use Prim.Native.Nat.{ℕ, ◌<◌}
use native.Mathlib.Omega.{arith}
use lib.ListN.{length}
use lib.Dec.{eqb}
use borrow.Author.Tests.{eqb-true, eqb-false, eq-eqb, ne_eqb}
use Rattle.laws.specs.Upd.{ifb}
use Rattle.records.specs.Layout.{value_of, mark_of, check_for, check_own, sized}
use Rattle.records.proofs.CheckLaws.{own_length, sized_all}

module _ (m : List ℕ) (n v : ℕ) (b : List ℕ) (own : v ≡ value_of m) where
  pub other_mark : (o : Option ℕ) → unwrap_or o 0 ≡ mark_of b → option_eq eqb o (Some v) ≡ false → 0 < value_of m
      → ◌≡◌ {A = ℕ} 4 (check_own m n b)
  unfolding check_own check_for
  other_mark None is e h = rw (ne_eqb (mark_of b) (value_of m) (λ z. omega arith))
  other_mark (Some a) is e h = rw (ne_eqb (mark_of b) (value_of m) (λ z. eqb-false a v e (is ∙ z ∙ sym own)))

  pub own_mark : (o : Option ℕ) → unwrap_or o 0 ≡ mark_of b → option_eq eqb o (Some v) ≡ true → 0 < n
      → ifb (eqb (length b) n) 0 5 ≡ check_own m n b
  unfolding check_own check_for
  own_mark None is e h = absurd (cc)
  own_mark (Some a) is e h =
      rw (eq-eqb (mark_of b) (value_of m) (sym is ∙ eqb-true a v e ∙ own), ne_eqb n 0 (λ z. omega arith))

-- bytes that pass have the length
pub sized_own : (m : List ℕ) (n : ℕ) (b : List ℕ) → ◌≡◌ {A = ℕ} 0 (check_own m n b) → sized n b ≡ b
sized_own m n b e = sized_all n b (own_length m n b (sym e))
