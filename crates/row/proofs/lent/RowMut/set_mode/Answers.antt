use mathlib.Core.Path.{refl}
use mathlib.Core.List.{List}
use Prim.Native.Nat.{ℕ}
use native.Mathlib.Omega.{arith}
use lib.ListN.{set}
use denote.Enum.Declared.{tag_of}
use Rattle.rules.specs.State.{with_mode}
use Rattle.row.specs.contracts.modes.Mode.{the_type}
use Rattle.row.specs.declared.modes.Mode.{Mode}
use Rattle.row.specs.declared.modes.Mode.TheVariants as in_code
use Rattle.row.specs.Modes.{meaning}
use Rattle.row.specs.Row.{Row}
use Rattle.row.specs.Changes.{Changed}
use Rattle.row.proofs.StoreLaws.{mode_changed}
use Rattle.row.proofs.OwnKept.{own_kept}
use Rattle.row.proofs.lent.RowMut.set_mode.Goals as goal

by_mode : (ws : List ℕ) (m : Mode) → Row ws → Changed (with_mode (meaning m)) ws (set ws 1 (tag_of the_type m))
by_mode ws in_code.None r = mode_changed ws 0 r (omega arith)
by_mode ws in_code.Fast r = mode_changed ws 1 r (omega arith)
by_mode ws in_code.Slow r = mode_changed ws 2 r (omega arith)

pub invariant_of-self : goal.invariant_of-self
invariant_of-self c =
    let x = by_mode c.args.self.now.words.now c.args.mode c.args.self.now.is in
    record { is = x.row; office = own_kept x refl c.args.self.now.office }

pub returns : goal.returns
returns c = record { same = refl; changed = by_mode c.args.self.now.words.now c.args.mode c.args.self.now.is }
