use mathlib.Core.Path.{◌∙◌}
use Rattle.row.proofs.StoreLaws.{stored_changed}
use Rattle.row.proofs.lent.RowMut.put_stored.Goals as goal

pub returns : goal.returns
returns c = record {
  same = c.put_slot.ensures.same ∙ c.put_present.ensures.same;
  changed = stored_changed c.args.o _ c.args.p c.requires c.put_present.ensures.changed c.put_slot.ensures.changed;
}
