use mathlib.Core.Path.{◌≡◌, refl}
use lib.ListN.{length}
use Rattle.row.specs.Changes.{Changed, filling}
use Rattle.row.proofs.StoreLaws.{filled_changed}
use Rattle.row.proofs.OwnKept.{own_kept, changed_to}
use borrow.Author.Rules.{rules}
use Rattle.row.proofs.lent.RowMut.put_slot.Goals.{Start, After-put_numbers}
use Rattle.row.proofs.lent.RowMut.put_slot.Goals as goal

used_len : (c : Start) → length c.args.p.used ≡ 16
used_len c = search rules

changed : (c : After-put_numbers) → length c.args.p.used ≡ 16
    → Changed (filling c.args.o c.args.p) c.args.self.now.words.now c.put_numbers.new.s
changed c n =
    changed_to (filled_changed _ c.args.o c.args.p c.args.self.now.is c.requires n)
    (rw (c.put_numbers.ensures, c.put_run.ensures, c.from.ensures, c.from-2.ensures) refl)

pub invariant_of-self : goal.invariant_of-self
unfolding filling
invariant_of-self c =
    let x = changed (goal.at.invariant_of-self c).After-put_numbers (used_len (goal.at.invariant_of-self c).Start) in
    record { is = x.row; office = own_kept x refl c.args.self.now.office }

pub returns : goal.returns
returns c = record {
  same = refl;
  changed = changed (goal.at.returns c).After-put_numbers (used_len (goal.at.returns c).Start);
}
