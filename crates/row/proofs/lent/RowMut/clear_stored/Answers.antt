use mathlib.Core.Path.{◌∙◌}
use Rattle.laws.specs.Tab.{tab}
use Rattle.row.proofs.StoreLaws.{stored_changed}
use Rattle.row.proofs.lent.RowMut.clear_stored.Goals as goal

pub returns : goal.returns
unfolding tab
returns c = record {
  same = c.put_slot.ensures.same ∙ c.put_present.ensures.same;
  changed = stored_changed c.args.o _ _ c.requires c.put_present.ensures.changed c.put_slot.ensures.changed;
}
