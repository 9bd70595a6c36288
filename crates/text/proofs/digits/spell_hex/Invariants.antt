use mathlib.Core.Path.{◌≡◌}
use lib.ListN.{length, take}
use lib.Seq.{sets}
use Rattle.text.specs.Digits.{hex_of}
use Rattle.text.proofs.digits.spell_hex.Given as goal

abbrev pub invariant-loop-i : goal.invariant-loop-i
invariant-loop-i l =
    (length l.out ≡ length l.initial.out) × (l.out ≡ sets l.initial.out l.at (hex_of (take l.i l.bytes)))
