use Prim.Native.Nat.{ℕ, ◌+◌, ◌-◌, ◌≤◌}
use mathlib.Core.Path.{ap}
use lib.ListN.{length, drop, length-drop}
use lib.Seq.{take_all}
use native.Mathlib.Omega.{arith}
use Rattle.records.specs.Run.{run_rest}
use Rattle.records.proofs.run.run_rest.Goals as goal

pub returns : goal.returns
unfolding run_rest
returns c =
    let b = c.args.run.now in
    let n = c.run_size-start.result in
    let h : length (drop n b) ≤ length b - n = simp length-drop (omega arith) in
    let p = c.args.run.ref_ptr in
    record {
      place = ap (λ (k : ℕ). (p.0, k + p.1)) c.run_size-start.ensures.0;
      is = rw (take_all (length b - n) (drop n b) h, c.run_size-start.ensures.0);
    }
