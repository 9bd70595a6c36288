use mathlib.Core.Path.{refl}
use Rattle.text.specs.Digits.{decimal_in, decimal}
use Rattle.text.specs.Text.{trace_of, line_of}
use Rattle.text.specs.Lines.{no_office}
use Rattle.feed.proofs.no_office.Goals as goal

pub returns : goal.returns
unfolding no_office line_of trace_of decimal decimal_in
returns c = refl
