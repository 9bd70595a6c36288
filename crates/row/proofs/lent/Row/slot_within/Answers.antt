use mathlib.Core.Path.{◌≡◌, sym, ◌∙◌}
use mathlib.Core.Bool.{Bool, true, false, not, ◌||◌}
use Rattle.row.proofs.Stretches.{slot_stretch}
use Rattle.row.proofs.lent.Row.slot_within.Goals as goal

-- an absent slot is not looked at
absent : {t : Bool} (b : Bool) → t ≡ false → not t || b ≡ true
absent b e = rw e

there : {t : Bool} (b : Bool) → t ≡ true → not t || b ≡ b
there b e = rw e

pub returns-then-not-stored_present : goal.returns-then-not-stored_present
returns-then-not-stored_present c =
    sym (slot_stretch c.args.self.words.now c.args.o c.requires
    ∙ absent _ (sym c.stored_present.ensures ∙ c.if-not-stored_present.true))

pub returns : goal.returns
returns c =
    c.are_within.ensures
    ∙ sym (slot_stretch c.args.self.words.now c.args.o c.requires
    ∙ there _ (sym c.stored_present.ensures ∙ c.if-not-stored_present.false))
