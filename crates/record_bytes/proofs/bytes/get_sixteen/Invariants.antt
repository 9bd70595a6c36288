use mathlib.Core.Path.{◌≡◌}
use Prim.Native.Nat.{ℕ, ◌+◌, ◌*◌, ◌<◌}
use lib.ListN.{get_or}
use Rattle.laws.specs.Big.{big4}
use Rattle.record_bytes.proofs.bytes.get_sixteen.Given as goal

abbrev pub invariant-loop-k : goal.invariant-loop-k
invariant-loop-k l =
    record { filled : (k : ℕ) → k < l.k → get_or l.n-items k 0 ≡ big4 l.bytes (l.at + 4 * k) }
