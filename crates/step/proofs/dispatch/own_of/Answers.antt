use mathlib.Core.Path.{ap, ◌∙◌}
use mathlib.Core.List.{List}
use Prim.Native.Nat.{ℕ}
use Rattle.rule_laws.proofs.Steps.{well_facts}
use Rattle.row.specs.Row.{state_of}
use Rattle.row.proofs.Low.{sound_well}
use Rattle.row.proofs.Tables.{sound_rows}
use Rattle.step.proofs.dispatch.own_of.Goals as goal

pub own-requires : goal.own-requires
own-requires c =
    let sound = sound_rows c.args.table.now c.requires.0 c.args.room c.requires.1 in
    rw c.row_in.ensures (well_facts _ (sound_well _ sound)).own

pub returns : goal.returns
returns c = c.own.ensures ∙ ap (λ (row : List ℕ). (state_of row).own) c.row_in.ensures
