-- After document 01's days office 0 waits for whom it should.
use mathlib.Core.Path.{◌≡◌, refl}
use Rattle.laws.proofs.Lists.{◌then◌}
use Rattle.laws.specs.Lowest.{lowest_below}
use Rattle.rules.specs.Days.{given, day_a, day_b, day_c, day_g, day_i}
use Rattle.waiting.specs.Waiting.{lacks, lowest_lacking, for_nobody, waiting_for}
use Rattle.waiting.specs.Days.{answers_computed, answers_stated}

pub days_answered : answers_computed ≡ answers_stated
unfolding answers_computed answers_stated day_a day_b day_c day_g day_i given waiting_for lacks lowest_lacking
    for_nobody lowest_below
days_answered = refl then refl then refl then refl then refl then refl then refl then refl then refl then refl
