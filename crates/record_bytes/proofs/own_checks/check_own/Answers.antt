use mathlib.Core.Path.{◌∙◌}
use Rattle.std.proofs.lemmas.Bool.{not-true, not-false}
use Rattle.record_bytes.proofs.OwnMark.{own_mark, other_mark}
use Rattle.record_bytes.proofs.own_checks.check_own.Goals as goal

pub returns-then-ne : goal.returns-then-ne
returns-then-ne g c =
    other_mark g.R.Record.MARK g.R.Record.LENGTH c.from_be_bytes.result c.args.bytes.now (cc) c.mark_value.result
    c.mark_value.ensures (not-true _ (cc)) g.met.R.Record.marked

pub returns : goal.returns
returns g c =
    c.check_length.ensures
    ∙ rw c.LENGTH.ensures (own_mark g.R.Record.MARK g.R.Record.LENGTH c.from_be_bytes.result c.args.bytes.now (cc)
    c.mark_value.result c.mark_value.ensures (not-false _ (cc)) g.met.R.Record.some)
