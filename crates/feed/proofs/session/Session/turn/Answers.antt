use mathlib.Core.Path.{sym, ◌∙◌}
use Prim.Native.Nat.{◌-◌}
use Rattle.laws.proofs.Fin.{true_false}
use Rattle.feed.proofs.TurningLaws.{sent_ready, turns_on, turns_failed}
use Rattle.feed.proofs.session.Session.turn.Goals as goal

pub advance-requires : goal.advance-requires
advance-requires g c =
    let s = c.args.self.now in
    let e = c.emptied in
    let r = sent_ready s.input s.output c.requires e.ensures e.auto.output in
    (r.0, c.waits-waiting.ensures ∙ r.1, sym c.has_room.ensures ∙ c.if-not-has_room.false)

pub returns-clause-turns : goal.returns-clause-turns
returns-clause-turns g c =
    let s = c.args.self.now in
    let e = c.emptied in
    let a = c.advance.ensures in (
      s.place.filled - e.new.p.filled,
      rw a.unfailed
          (turns_on s.place _ s.output _ c.requires.within c.requires.lent.output e.ensures
          s.traced s.office s.input c.waits-waiting.ensures (sym c.has_room.ensures ∙ c.if-not-has_room.false)
          a.advances),
    )

pub returns-then-not-has_room-clause-turns : goal.returns-then-not-has_room-clause-turns
returns-then-not-has_room-clause-turns g c =
    let s = c.args.self.now in
    let e = c.emptied in
    let r = sent_ready s.input s.output c.requires e.ensures e.auto.output in (
      s.place.filled - e.new.p.filled,
      turns_failed s.place _ s.output _ c.requires.within c.requires.lent.output e.ensures
          s.traced s.office s.input c.waits-waiting.ensures r.0
          (λ z. true_false _ (c.has_room.ensures ∙ z) c.if-not-has_room.true),
    )
