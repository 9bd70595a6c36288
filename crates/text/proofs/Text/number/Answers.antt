use mathlib.Core.Path.{refl}
use Rattle.text.proofs.Addeds.{one_digit}
use Rattle.text.proofs.DigitPuts.{number_spelled}
use Rattle.text.proofs.Text.number.Goals as goal

pub returns-then-n-lt10 : goal.returns-then-n-lt10
returns-then-n-lt10 c = one_digit _ c.if-n-lt10.true c.byte.ensures

pub returns : goal.returns
returns c = record { same = refl; put = number_spelled _ _ c.digit_count-k.ensures c.spell.ensures }
