use mathlib.Core.Path.{sym, ap, ◌∙◌}
use Rattle.events.specs.Reading.{formed_read}
use Rattle.events.proofs.ReadLaws.{handed, formed_unread, read_1, read_parts}
use Rattle.events.proofs.read_event.Goals as goal

pub returns-in_err-office_refusal : goal.returns-in_err-office_refusal
returns-in_err-office_refusal c =
    rw (handed _ _ c.from_residual.ensures.1) (read_1 _ _ _ c.in_err-office_refusal.ensures)

pub returns-in_err-decode_event : goal.returns-in_err-decode_event
returns-in_err-decode_event c =
    let a = c.args in
    rw (handed _ _ c.from_residual-in_err-decode_event.ensures.1) (formed_unread a.office _
    ∙ ap (formed_read a.office) c.in_err-decode_event.ensures
    ∙ read_parts a.office a.bytes.now (sym c.in_ok-office_refusal.ensures))

pub returns : goal.returns
returns c =
    let a = c.args in
    c.formed.ensures
    ∙ ap (formed_read a.office) c.in_ok-decode_event.ensures
    ∙ read_parts a.office a.bytes.now (sym c.in_ok-office_refusal.ensures)
