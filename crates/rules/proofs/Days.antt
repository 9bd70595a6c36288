-- The days of the documents, computed by the rules, are what they say.
use mathlib.Core.Path.{◌≡◌, refl}
use Rattle.laws.proofs.Lists.{◌then◌}
use Rattle.rules.specs.Days.{given, day_a, day_b, day_c, day_e, day_g, left, day_i, day_j, day_k, near_limit, at_limit}
use Rattle.rules.specs.Days.{late_start, self_used, computed, stated, further_computed, further_stated, refusals}
use Rattle.rules.specs.Days.{reasons, self_use_computed, self_use_stated}

pub days : computed ≡ stated
unfolding computed stated day_a day_b day_c day_e day_g day_i day_j day_k near_limit at_limit given
days =
    refl then refl then refl then refl then refl then refl then refl then refl then refl then refl then refl then refl
    then refl then refl
    then refl then refl then refl then refl then refl then refl then refl

pub readings : further_computed ≡ further_stated
unfolding further_computed further_stated day_a day_b day_c left day_g day_j late_start self_used given
readings =
    refl then refl then refl then refl then refl then refl then refl then refl then refl then refl then refl then refl
    then refl then refl
    then refl then refl then refl

pub each_reason : refusals ≡ reasons
unfolding refusals reasons given
each_reason =
    refl then refl then refl then refl then refl then refl then refl then refl then refl then refl then refl then refl
    then refl then refl then refl then refl then refl then refl then refl then refl then refl then refl then refl
    then refl then refl

pub self_uses : self_use_computed ≡ self_use_stated
unfolding self_use_computed self_use_stated day_a day_b day_c day_e day_j near_limit at_limit given
self_uses =
    refl then refl then refl then refl then refl then refl then refl then refl then refl then refl then refl then refl
    then refl then refl then refl then refl then refl
