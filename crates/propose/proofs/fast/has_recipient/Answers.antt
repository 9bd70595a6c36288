use mathlib.Core.Path.{sym}
use Rattle.rule_laws.proofs.Recipients.{recipient_count}
use Rattle.propose.proofs.fast.has_recipient.Goals as goal

pub returns : goal.returns
returns c = rw c.touched-offices.ensures (sym (recipient_count c.args.p c.requires.0 c.requires.1))
