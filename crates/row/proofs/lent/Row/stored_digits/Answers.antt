use mathlib.Core.Path.{◌≡◌}
use mathlib.Core.List.{List}
use Prim.Native.Nat.{ℕ, ◌+◌, ◌≤◌}
use native.Mathlib.Omega.{arith}
use native.Mathlib.Decide.{ℕ_discrete}
use lib.Bits.{bit_or, or_comm}
use lib.ListN.{get_or}
use Rattle.laws.proofs.Bit.{or_above}
use Rattle.row.specs.Row.{numbers_place, NoneAbove}
use Rattle.row.proofs.lent.Row.stored_digits.Goals as goal

-- what was at most `all`, a and b are at most the digits of all three
more : (all a b : ℕ) → (all ≤ bit_or (bit_or all a) b) × (a ≤ bit_or (bit_or all a) b) × (b ≤ bit_or (bit_or all a) b)
more all a b =
    let x = or_above a all in
    let y = or_above all a in
    let z = or_above (bit_or all a) b in
    let w = or_above b (bit_or all a) in
    let u = or_comm a all in
    let v = or_comm b (bit_or all a) in
    (omega arith, omega arith, omega arith)

-- one slot more
next : (s : List ℕ) (all n : ℕ)
    → NoneAbove all n s
    → NoneAbove (bit_or (bit_or all (get_or s (numbers_place n) 0)) (get_or s (numbers_place n + 1) 0)) (n + 1) s
next s all n h k l = go (ℕ_discrete k n)
  where
    d : ℕ
    d = bit_or (bit_or all (get_or s (numbers_place n) 0)) (get_or s (numbers_place n + 1) 0)

    m : (all ≤ d) × (get_or s (numbers_place n) 0 ≤ d) × (get_or s (numbers_place n + 1) 0 ≤ d)
    m = more all (get_or s (numbers_place n) 0) (get_or s (numbers_place n + 1) 0)

    go : Dec (k ≡ n) → (get_or s (numbers_place k) 0 ≤ d) × (get_or s (numbers_place k + 1) 0 ≤ d)
    go (yes e) = rw e (m.1, m.2)
    go (no q) = let x = h k (omega arith) in let y = m.0 in (omega (arith, x.0), omega (arith, x.1))

pub loop-o-preserved : goal.loop-o-preserved
loop-o-preserved c =
    let l = c.loop-o in
    next c.args.self.words.now l.all l.o l.invariant
