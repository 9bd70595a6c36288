use mathlib.Core.Path.{◌≡◌}
use lib.ListN.{length}
use lib.Seq.{sets}
use Rattle.text.specs.Digits.{last_digits}
use Rattle.text.proofs.digits.spell.Given as goal

-- the digits that are due complete the text
abbrev pub invariant-loop-i : goal.invariant-loop-i
invariant-loop-i l =
    (length l.out ≡ length l.initial.out)
    × (sets l.out l.at (last_digits l.i l.rest) ≡ sets l.initial.out l.at (last_digits l.k l.n))
