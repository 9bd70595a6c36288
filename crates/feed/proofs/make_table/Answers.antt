use Rattle.feed.proofs.MadeLaws.{made, unmade}
use Rattle.feed.proofs.make_table.Goals as goal

pub returns-in-Ok : goal.returns-in-Ok
returns-in-Ok c = made c.args.office c.args.table.now c.requires c.in-Ok.ensures

pub returns-in-Err : goal.returns-in-Err
returns-in-Err c = unmade c.args.office c.args.table.now _ c.requires c.in-Err.ensures
