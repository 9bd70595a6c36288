-- The state that a row holds.
use Rattle.rules.specs.State.{State}
use Rattle.row.specs.Row.{state_of}
use Rattle.row.specs.declared.lent.Row.{Row}
use Rattle.row.specs.declared.lent.RowMut.{RowMut}

abbrev pub held : Row → State
held r = state_of r.words.now

abbrev pub held_mut : RowMut → State
held_mut r = state_of r.words.now
