use Rattle.seats.proofs.OfficeBits.{office_seats, office_above}
use Rattle.seats.proofs.offices.seats_of.Goals as goal

pub returns-then-office-lt-OFFICES : goal.returns-then-office-lt-OFFICES
returns-then-office-lt-OFFICES c = office_seats c.args.office c.if-office-lt-OFFICES.true

pub returns-else-office-lt-OFFICES : goal.returns-else-office-lt-OFFICES
returns-else-office-lt-OFFICES c = office_above c.args.office c.if-office-lt-OFFICES.false
