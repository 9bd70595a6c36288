use mathlib.Core.Path.{sym, ◌∙◌}
use native.Mathlib.Omega.{arith}
use Rattle.buffers.proofs.Window.{window_length, read_room}
use Rattle.buffers.proofs.Room.{room_fits}
use Rattle.feed.proofs.TurningLaws.{advances_read, advances_stop, advances_answer}
use Rattle.feed.proofs.session.Session.advance.Goals as goal

pub refill-requires : goal.refill-requires
refill-requires g c =
    let s = c.args.self.now in
    let r = c.requires.0 in
    let w = sym c.requires.1 ∙ c.if-waiting.true in
    (r.within, r.lent.input, read_room s.place s.input r.lent.input r.within w)

pub returns-in-Ok-clause-advances : goal.returns-in-Ok-clause-advances
returns-in-Ok-clause-advances g c =
    let s = c.args.self.now in
    advances_read s.traced s.office s.place s.input s.output c.requires.0
    (sym c.requires.1 ∙ c.if-waiting.true) c.in-Ok.ensures

pub returns-in-Err-clause-advances : goal.returns-in-Err-clause-advances
returns-in-Err-clause-advances g c =
    let s = c.args.self.now in
    advances_read s.traced s.office s.place s.input s.output c.requires.0
    (sym c.requires.1 ∙ c.if-waiting.true) c.in-Err.ensures

pub returns-then-self-clause-advances : goal.returns-then-self-clause-advances
returns-then-self-clause-advances g c =
    let s = c.args.self.now in
    let r = c.requires.0 in
    let w = r.within in
    let n = window_length s.place s.input w.unread (omega (arith, w.read, r.lent.input)) in
    advances_stop s.traced s.office s.place s.input s.output r
    (sym c.requires.1 ∙ c.if-waiting.false) (omega (arith, n, c.if-self.true))

pub answer-requires : goal.answer-requires
answer-requires g c =
    let r = room_fits _ _ c.requires.2 in
    (c.requires.0, r)

pub returns-clause-advances : goal.returns-clause-advances
returns-clause-advances g c =
    let s = c.args.self.now in
    let r = c.requires.0 in
    let w = r.within in
    let n = window_length s.place s.input w.unread (omega (arith, w.read, r.lent.input)) in
    rw c.answer.ensures.same.1
    (advances_answer s.traced s.office s.place s.input s.output r
    (sym c.requires.1 ∙ c.if-waiting.false) (omega (arith, n, w.unread, c.if-self.false)) c.answer.ensures.answered)
