-- What a file answers: whether it is good, and then its last whole mark.
use mathlib.Core.Path.{◌≡◌, sym}
use mathlib.Core.Bool.{true}
use mathlib.Core.List.{List}
use Prim.Native.Nat.{ℕ, ◌≤◌}
use native.Mathlib.Omega.{arith}
use Rattle.laws.proofs.Fin.{if_cases, as-facts}
use Rattle.records.specs.Numbers.{limit}
use Rattle.rules.specs.MarkFile.{wholes, last_high, good_file}
use Rattle.rule_laws.proofs.MarkFile.{last_within}
use Rattle.restart.specs.Marks.{Marks, marks_of}

pub good_is : (f : List ℕ) → (marks_of f).good ≡ good_file f
unfolding marks_of
good_is f = if_cases (λ (m : Marks). m.good ≡ good_file f) (good_file f) _ _ sym sym

pub last_is : (f : List ℕ) → good_file f ≡ true → (marks_of f).last ≡ last_high f
unfolding marks_of
last_is f g = rw g

-- which is not above L
pub good_last : (f : List ℕ) → good_file f ≡ true → last_high f ≤ limit
unfolding good_file last_high
good_last f g = last_within 0 (wholes f) (omega arith) (simp as-facts at g).1
