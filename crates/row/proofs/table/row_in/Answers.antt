use Rattle.rule_laws.proofs.Steps.{well_facts}
use Rattle.row.proofs.Low.{sound_row_lem, sound_well}
use Rattle.row.proofs.Tables.{sound_length, sound_rows}
use Rattle.row.proofs.table.row_in.Goals as goal

pub row_of-requires : goal.row_of-requires
row_of-requires c = (sound_length c.args.t.now c.requires.0, c.requires.1)

pub invariant_of-result : goal.invariant_of-result
invariant_of-result c =
    let s = sound_rows c.args.t.now c.requires.0 c.args.room c.requires.1 in
    rw c.row_of.ensures (record { is = sound_row_lem _ s })
