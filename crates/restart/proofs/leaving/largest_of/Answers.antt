use mathlib.Core.Path.{◌≡◌, ◌∙◌}
use native.Mathlib.Omega.{arith}
use borrow.Author.Rules.{rules}
use lib.ListN.{length}
use Rattle.std.proofs.lemmas.Grind.{common_steps}
use Rattle.restart.proofs.Largest.{top, top_bounds, top_least, top_largest}
use Rattle.restart.proofs.leaving.largest_of.Goals as goal

pub returns : goal.returns
returns c =
    let l = c.args.numbers.now in
    let bounds = top_bounds l in
    let least = top_least l c.unwrap_or.result (search rules) in
    let is : c.unwrap_or.result ≡ top l = grind (arith, common_steps, bounds, least) in
    let size : length l ≡ 16 = search rules in
    is ∙ top_largest l 16 size (omega arith)
