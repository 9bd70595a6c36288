use mathlib.Core.Path.{◌≡◌}
use lib.ListN.{take}
use lib.Seq.{sets}
use Rattle.laws.specs.Big.{bytes_all}
use Rattle.record_bytes.proofs.bytes.put_sixteen.Given as goal

abbrev pub invariant-loop-k : goal.invariant-loop-k
invariant-loop-k l =
    l.out ≡ sets l.initial.out l.at (bytes_all (take l.k l.numbers))
