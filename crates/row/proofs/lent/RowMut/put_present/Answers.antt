use mathlib.Core.Path.{refl}
use Rattle.row.specs.Changes.{flagging}
use Rattle.row.proofs.Presence.{bit_set, bit_cleared}
use Rattle.row.proofs.StoreLaws.{flag_changed}
use Rattle.row.proofs.OwnKept.{own_kept}
use Rattle.row.proofs.lent.RowMut.put_present.Goals as goal

pub invariant_of-self : goal.invariant_of-self
unfolding flagging
invariant_of-self c =
    let r = c.args.self.now in
    let x = flag_changed r.words.now c.args.o _ _ r.is c.requires (bit_set _ c.args.o r.is.present c.requires) in
    record { is = x.row; office = own_kept x refl r.office }

pub invariant_of-self-else-present : goal.invariant_of-self-else-present
unfolding flagging
invariant_of-self-else-present c =
    let r = c.args.self.now in
    let x = flag_changed r.words.now c.args.o _ _ r.is c.requires (bit_cleared _ c.args.o r.is.present c.requires) in
    record { is = x.row; office = own_kept x refl r.office }

pub returns-then-present : goal.returns-then-present
returns-then-present c =
    let r = c.args.self.now in
    record {
      same = refl;
      changed =
          rw c.if-present.true
          (flag_changed r.words.now c.args.o _ _ r.is c.requires (bit_set _ c.args.o r.is.present c.requires));
    }

pub returns-else-present : goal.returns-else-present
returns-else-present c =
    let r = c.args.self.now in
    record {
      same = refl;
      changed =
          rw c.if-present.false
          (flag_changed r.words.now c.args.o _ _ r.is c.requires (bit_cleared _ c.args.o r.is.present c.requires));
    }
