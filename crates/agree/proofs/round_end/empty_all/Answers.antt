use native.Mathlib.Omega.{arith}
use mathlib.Core.Path.{refl, sym, ap, ◌∙◌}
use Rattle.seats.specs.Offices.{serves}
use Rattle.seats.specs.declared.SeatSet.{SeatSet}
use Rattle.row.specs.Held.{held_mut}
use Rattle.agree.proofs.Emptying.{emptied_none, emptied_one, emptied_skip, stored_length_lem, used_length}
use Rattle.event_parts.proofs.Dones.{moved_then, moved_as}
use Rattle.agree.proofs.round_end.empty_all.Goals.{then-serves, else-serves}
use Rattle.agree.proofs.round_end.empty_all.Goals as goal

pub loop-o-init : goal.loop-o-init
loop-o-init c =
    record {
      same = refl;
      changed = record {
        is = sym (emptied_none _ (stored_length_lem _) (used_length _));
        row = c.args.row.now.is;
      };
    }

pub loop-o-preserved : goal.loop-o-preserved
loop-o-preserved c =
    let l = c.loop-o in
    let s = held_mut c.args.row.now in
    let e = c.serves.ensures in
    let n = ap (λ (x : SeatSet). serves x.bits l.o) c.requires in
    elim c.if-serves.branch [
      | then-serves w ↦ rw w.row-is (moved_as _ (moved_then l.invariant w.empty.ensures)
          (emptied_one s l.o (omega arith) (sym n ∙ sym e ∙ w.if-serves.true)))
      | else-serves w ↦ rw w.row-is (moved_as _ l.invariant
          (emptied_skip s l.o (omega arith) (sym n ∙ sym e ∙ w.if-serves.false)))
    ]
