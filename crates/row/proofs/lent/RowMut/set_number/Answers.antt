use mathlib.Core.Path.{refl}
use Rattle.row.proofs.StoreLaws.{number_changed}
use Rattle.row.proofs.OwnKept.{own_kept}
use Rattle.row.proofs.lent.RowMut.set_number.Goals as goal

pub invariant_of-self : goal.invariant_of-self
invariant_of-self c =
    let x = number_changed c.args.self.now.words.now c.args.n c.args.self.now.is in
    record { is = x.row; office = own_kept x refl c.args.self.now.office }

pub returns : goal.returns
returns c = record {
  same = refl;
  changed = number_changed c.args.self.now.words.now c.args.n c.args.self.now.is;
}
