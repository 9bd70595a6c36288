use mathlib.Core.Path.{refl}
use Rattle.row.proofs.StoreLaws.{accepted_changed}
use Rattle.row.proofs.OwnKept.{own_kept}
use Rattle.row.proofs.lent.RowMut.set_accepted.Goals as goal

pub invariant_of-self : goal.invariant_of-self
invariant_of-self c =
    let x = accepted_changed c.args.self.now.words.now c.args.o c.args.n c.args.self.now.is c.requires in
    record { is = x.row; office = own_kept x refl c.args.self.now.office }

pub returns : goal.returns
returns c = record {
  same = refl;
  changed = accepted_changed c.args.self.now.words.now c.args.o c.args.n c.args.self.now.is c.requires;
}
