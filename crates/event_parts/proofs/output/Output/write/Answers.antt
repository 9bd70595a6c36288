use Rattle.std.proofs.Common.{ap, arith, refl, length}
use Prim.Native.Nat.{ℕ, ◌+◌, ◌≤◌}
use Rattle.event_parts.proofs.Writing.{all_count, all_there}
use Rattle.event_parts.proofs.output.Output.write.Goals as goal

pub overflow_add-self : goal.overflow_add-self
overflow_add-self g c =
    let room : c.args.self.now.at + length (g.R.Record.encoded c.args.r) ≤ length c.args.self.now.bytes.now =
    rw c.write.ensures.whole c.requires in
    let n = all_count room c.write.ensures.placed in
    grind (arith, n, room, c.type_inv.self)

pub returns : goal.returns
returns g c =
    let room : c.args.self.now.at + length (g.R.Record.encoded c.args.r) ≤ length c.args.self.now.bytes.now =
    rw c.write.ensures.whole c.requires in
    record {
      same = refl;
      room = refl;
      at = ap (λ (k : ℕ). c.args.self.now.at + k) (all_count room c.write.ensures.placed);
      output = all_there room c.write.ensures.placed;
    }
