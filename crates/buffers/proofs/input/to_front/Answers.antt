use mathlib.Core.Path.{◌∙◌}
use Rattle.buffers.proofs.Window.{pasted}
use Rattle.buffers.proofs.input.to_front.Goals as goal

pub returns : goal.returns
returns c = c.copy_within.ensures.after ∙ pasted c.args.buf.now c.args.at c.args.n c.requires
