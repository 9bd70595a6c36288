use Rattle.record_bytes.proofs.OwnMark.{sized_own}
use Rattle.record_bytes.proofs.read.Goals as goal

pub returns-clause-read : goal.returns-clause-read
returns-clause-read g c =
    rw (sized_own g.R.Record.MARK g.R.Record.LENGTH c.args.bytes.now c.in_ok-check_own.ensures) at c.decode.ensures
