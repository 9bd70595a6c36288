use Rattle.record_bytes.proofs.Putting.{put_is}
use Rattle.record_bytes.proofs.bytes.put.Goals as goal

pub returns : goal.returns
returns c = put_is c.args.out.now c.args.bytes.now c.copy_from_slice.new.self c.args.at c.copy_from_slice.ensures.after c.requires
