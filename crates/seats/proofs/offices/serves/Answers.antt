use borrow.Author.Rules.{rules}
use Rattle.seats.proofs.OfficeBits.{shares}
use Rattle.seats.proofs.offices.serves.Goals as goal

pub returns : goal.returns
returns c =
    shares c.args.set.bits c.args.office c.seats_of-seats.result.bits (search rules)
    c.seats_of-seats.ensures
