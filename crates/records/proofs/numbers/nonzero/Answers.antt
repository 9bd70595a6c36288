use native.Mathlib.Omega.{arith}
use borrow.Author.Rules.{rules}
use Rattle.laws.proofs.Loops.{count_none, count_one, count_fits}
use Rattle.records.specs.Numbers.{non_zero}
use Rattle.records.proofs.numbers.nonzero.Goals as goal

pub loop-n-init : goal.loop-n-init
loop-n-init c = count_none (non_zero c.args.numbers.now)

pub overflow_add-all : goal.overflow_add-all
overflow_add-all c =
    let l = c.loop-n in
    let p = non_zero c.args.numbers.now in
    let fits = count_fits l.n-index p l.all l.invariant (omega arith) in
    search (rules, fits)

pub loop-n-preserved : goal.loop-n-preserved
loop-n-preserved c =
    let l = c.loop-n in
    count_one l.n-index (non_zero c.args.numbers.now) l.all l.invariant
