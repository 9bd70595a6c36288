use Prim.Native.Nat.{ℕ}
use native.Mathlib.Nat.{zero-add}
use lib.ListN.{take}
use lib.Seq.{length-take-le}
use mathlib.Core.Path.{sym, ap}
use Rattle.records.specs.Run.{run_first}
use borrow.Author.Rules.{rules}
use Rattle.records.proofs.run.run_first.Goals as goal

pub slice_bounds-result-end : goal.slice_bounds-result-end
slice_bounds-result-end c =
    let b = c.args.run.now in
    search (rules, sym (length-take-le c.run_size-n.result b c.run_size-n.ensures.1))

pub returns : goal.returns
unfolding run_first
returns c =
    let a = c.args.run in
    record {
      place = ap (λ (o : ℕ). (a.ref_ptr.0, o)) (sym (zero-add a.ref_ptr.1));
      is = ap (λ (n : ℕ). take n a.now) c.run_size-n.ensures.0;
    }
