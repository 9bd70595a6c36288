-- The answer from what a pass has found.
use Rattle.std.specs.Prelude.{Result, Ok, Err, ltb}
use Rattle.laws.specs.Upd.{ifb}
use Rattle.seats.specs.Seats.{seat_count, lowest_seat}
use Rattle.records.specs.declared.refusal.Refusal.{Refusal}
use Rattle.records.specs.Refusals.{number}
use Rattle.sheet.specs.declared.Along.{Along}
use Rattle.sheet.specs.declared.Along.TheVariants as answers
use Rattle.came_along.specs.declared.sheet_pass.Found.{Found}

unfoldable pub found_answer : Found → Along
found_answer f =
    let seat = lowest_seat f.missing.bits in
    ifb (ltb seat seat_count) (answers.Missing seat) (answers.Members f.same)

-- what is found answers, or the refusal does
abbrev pub answered : Result Found Refusal → Along
answered (Ok f) = found_answer f
answered (Err e) = answers.Refused (number e)
