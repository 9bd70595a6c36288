-- The mode in code as the rules' mode.
use Rattle.rules.specs.State.{Mode, None, Fast, Slow}
use Rattle.row.specs.declared.modes.Mode.{Mode as InCode}
use Rattle.row.specs.declared.modes.Mode.TheVariants as in_code

abbrev pub meaning : InCode → Mode
meaning in_code.None = None
meaning in_code.Fast = Fast
meaning in_code.Slow = Slow
