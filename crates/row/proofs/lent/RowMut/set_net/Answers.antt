use mathlib.Core.Path.{refl}
use Rattle.row.proofs.StoreLaws.{net_changed}
use Rattle.row.proofs.OwnKept.{own_kept, changed_to}
use Rattle.row.proofs.lent.RowMut.set_net.Goals as goal

pub invariant_of-self : goal.invariant_of-self
invariant_of-self c =
    let x = changed_to (net_changed c.args.self.now.words.now c.args.x c.args.self.now.is) c.put_set.ensures in
    record { is = x.row; office = own_kept x refl c.args.self.now.office }

pub returns : goal.returns
returns c = record {
  same = refl;
  changed = changed_to (net_changed c.args.self.now.words.now c.args.x c.args.self.now.is) c.put_set.ensures;
}
