use mathlib.Core.Path.{sym, ◌∙◌}
use native.Mathlib.Omega.{arith}
use Rattle.buffers.specs.Place.{window_of}
use Rattle.buffers.proofs.Window.{front_fits}
use Rattle.feed.proofs.AnsweringLaws.{written_short, in_full, room_known, answered}
use Rattle.feed.proofs.session.Session.answer.Goals as goal

pub view_for-view-requires : goal.view_for-view-requires
view_for-view-requires c =
    let s = c.args.self.now in
    let l = c.requires.0.lent in
    let e = in_full _ _ _ l.room c.step_held-a.ensures in
    (e.sound, room_known s.office s.table _ l.known e)

pub told-requires : goal.told-requires
unfolding window_of
told-requires c =
    let s = c.args.self.now in
    let a = c.step_held-a in
    let r = c.requires.0 in
    let l = front_fits s.place s.input r.lent.input r.within c.front-record.ensures in
    record {
      inside = omega (arith, l, r.within.read);
      line = c.requires.1;
      number = r.number;
      output = r.lent.output;
      written = written_short _ _ _ _ a.ensures;
      shown = a.auto.out ∙ r.lent.room;
    }

pub returns-clause-answered : goal.returns-clause-answered
unfolding window_of
returns-clause-answered c =
    let s = c.args.self.now in
    let l = c.requires.0.lent.room in
    rw (sym c.front-record.ensures)
    (answered s.traced s.office s.place _ (in_full _ _ _ l c.step_held-a.ensures) l
    c.view_for-view.ensures c.told.ensures c.goes_on.ensures)
