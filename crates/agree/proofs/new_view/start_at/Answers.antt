use mathlib.Core.Path.{◌∙◌}
use Rattle.rules.specs.Rules.{start_of}
use Rattle.agree.proofs.new_view.start_at.Goals as goal

pub returns : goal.returns
unfolding start_of
returns c = c.counted.ensures ∙ rw (c.serves.ensures, c.stored_start.ensures, c.requires.0)
