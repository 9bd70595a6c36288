-- Days: the answers and refusals of the three desks' sheets, computed by the definition, are what is stated.
use mathlib.Core.Path.{◌≡◌, refl}
use Rattle.laws.proofs.Lists.{◌then◌}
use Rattle.sheet.specs.Days.{answering, computed_answers, stated_answers, computed_refusals, stated_refusals}
use Rattle.sheet.specs.Days.{computed_full, stated_full}

pub each_answer : computed_answers ≡ stated_answers
unfolding computed_answers stated_answers answering
each_answer =
    refl then refl then refl then refl then refl then refl then refl then refl then refl then refl then refl then refl
    then refl then refl then refl then refl then refl then refl then refl

pub each_refusal : computed_refusals ≡ stated_refusals
unfolding computed_refusals stated_refusals answering
each_refusal =
    refl then refl then refl then refl then refl then refl then refl then refl then refl then refl then refl then refl
    then refl then refl then refl then refl then refl then refl then refl then refl then refl
    then refl then refl then refl then refl then refl then refl then refl then refl then refl

pub full_sheets : computed_full ≡ stated_full
unfolding computed_full stated_full answering
full_sheets = refl then refl then refl
