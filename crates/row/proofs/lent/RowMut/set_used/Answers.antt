use mathlib.Core.Path.{refl}
use Rattle.row.proofs.StoreLaws.{used_changed}
use Rattle.row.proofs.OwnKept.{own_kept}
use Rattle.row.proofs.lent.RowMut.set_used.Goals as goal

pub invariant_of-self : goal.invariant_of-self
invariant_of-self c =
    let x = used_changed c.args.self.now.words.now c.args.o c.args.n c.args.self.now.is c.requires in
    record { is = x.row; office = own_kept x refl c.args.self.now.office }

pub returns : goal.returns
returns c = record {
  same = refl;
  changed = used_changed c.args.self.now.words.now c.args.o c.args.n c.args.self.now.is c.requires;
}
