use mathlib.Core.Path.{refl}
use Rattle.text.proofs.DigitPuts.{hex_put}
use Rattle.text.proofs.Text.hex.Goals as goal

pub returns : goal.returns
returns c = record { same = refl; put = hex_put _ _ c.args.bytes.now _ c.spell_hex.ensures }
