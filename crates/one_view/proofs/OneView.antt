-- Two views that use one slow proposal are one. Each was counted from slow proposals of that number, one of each
-- office of the members, and all of them have left; an office sends one proposal of a number, so they are the same.
use mathlib.Core.Path.{◌≡◌, refl, sym, ap, subst, ◌∙◌}
use mathlib.Core.Bool.{Bool, true, false}
use mathlib.Core.List.{Memᴰ}
use Prim.Native.Nat.{ℕ, ◌<◌}
use native.Mathlib.Nat.{le_refl}
use lib.ListN.{length}
use Rattle.laws.specs.Upd.{ifb}
use Rattle.laws.proofs.Tab.{tab_ext}
use Rattle.laws.proofs.Fin.{largest_ext}
use Rattle.seats.specs.Offices.{serves}
use Rattle.records.specs.declared.Proposal.{Proposal}
use Rattle.records.specs.declared.View.{View}
use Rattle.rules.specs.State.{Mode, None, Fast, Slow, Slot, State, slow, kind_of}
use Rattle.rules.specs.Rules.{proposal, view, Outcome, in_slot, start_of, view_of}
use Rattle.rule_laws.proofs.Stored.{AllStored, kept_stored}
use Rattle.rule_laws.proofs.Tests.{Agreeing, agreed_out}
use Rattle.rule_laws.proofs.Walk.{arrived}
use Rattle.rule_laws.proofs.Written.{take_last, view_all}
use Rattle.runs.specs.Office.{answer_to, LogEntry, answer_of, Turn, entire, broken, handed_at, left_at, tested_at}
use Rattle.runs.specs.World.{World, WorldEvent, next}
use Rattle.runs.specs.Turns.{TurnAt}
use Rattle.runs.proofs.OfficeGiven.{gives_once}
use Rattle.runs.proofs.OfficeViews.{ViewSent, counted_shown, counted_member, view_counts}
use Rattle.runs.proofs.OfficeViews.{one_view as single_view}
use Rattle.runs.proofs.WorldTurns.{HasLeft, Turning, turning}
use Rattle.one_view.specs.Statement.{Uses, OneView}
use Rattle.one_view.proofs.Left.{Known, still_known, came_known, made_known}
use Rattle.one_view.proofs.Held.{FreshRun, world, UseIn, place, before_event, stays_left}

-- two states with one net view, and one proposal stored for each of its offices, make one view
view_same : (x y : State) → x.net.bits ≡ y.net.bits
    → ((o : ℕ) → o < 16 → serves x.net.bits o ≡ true → in_slot x o ≡ in_slot y o) → view_of x ≡ view_of y
unfolding view_of start_of
view_same x y n f =
    let a = largest_ext 16 (start_of x) (start_of y) (λ o l. start o l) in
    let b = tab_ext 16 (start_of x) (start_of y) (λ o l. start o l) in
    let c : x.net ≡ y.net = ap (λ (z : ℕ). record { bits = z }) n in
    rw (a, b, c)
  where
    pick : (t : Bool) (u v : ℕ) → (t ≡ true → u ≡ v) → ifb t u 0 ≡ ifb t v 0
    pick true u v e = e refl
    pick false u v e = refl

    start : (o : ℕ) → o < 16 → start_of x o ≡ start_of y o
    start o l = unfold start_of in
        pick (serves x.net.bits o) (in_slot x o).start (in_slot y o).start
        (λ s. ap (λ (p : Proposal). p.start) (f o l s))
        ∙ ap (λ (z : ℕ). ifb (serves z o) (in_slot y o).start 0) n

slow_mode : (m : Mode) → kind_of m ≡ slow → m ≡ Slow
slow_mode None e = cc
slow_mode Fast e = cc
slow_mode Slow e = refl

-- where a view has left, so has the whole answer
whole_left : (s : State) (t : Turn) (v : View) → Memᴰ (view v) (left_at s t)
    → left_at s t ≡ (answer_to s (handed_at t)).written
unfolding answer_to
whole_left s (entire h) v m = refl
whole_left s (broken h left k) v m =
    view_all v left _ (take_last h.office s h.event h.room) m

-- a view that leaves uses a proposal for each office of its members
pub each_used : (w : World) (e : WorldEvent) (o : ℕ) (t : Turn) → TurnAt w e o t → (v : View)
    → Memᴰ (view v) (left_at (w.state o) t) → (q : ℕ) → q < 16 → serves v.members.bits q ≡ true
    → (p : Proposal) × Uses w e o q p v
each_used w e o t takes v m q l h =
    let entry : LogEntry = record { before = w.state o; handed = handed_at t } in
    let sent = subst (Memᴰ (view v)) (whole_left (w.state o) t v m) m in
    let c = view_counts entry v sent q l h in (
      c.0,
      record {
        turn = t;
        takes = takes;
        has_left = m;
        counted = c.1;
        is_view = single_view entry c.1.seen v c.1.sent sent;
      },
    )

module _ (run : FreshRun) where
  -- a use
  module _ {n o q : ℕ} {p : Proposal} {v : View} (a : UseIn run n o q p v) where
    abbrev w : World
    w = world run n

    abbrev used : Uses w a.0 o q p v
    used = a.2

    abbrev pub entry : LogEntry
    entry = record { before = w.state o; handed = handed_at used.turn }

    -- the state that the agreement test looked at, and all that the event wrote
    abbrev pub test : State
    test = tested_at entry

    abbrev pub tested : Outcome
    tested = record { state = test; written = (answer_of entry).written }

    pub shown : ViewSent (w.state o) (arrived (w.state o) entry.handed.event) test used.counted.seen
        (answer_of entry).written (answer_of entry).state
    shown = counted_shown entry q p used.counted

    pub turns : Turning w a.0 o used.turn
    turns =
        turning w (before_event run a.1).owned a.0 (run.all_fresh_lem.among n a.0 a.1) o used.turn
        used.takes

    -- what was stored at the test is known, the event over
    test_known : AllStored (Known (next w a.0) o) test
    test_known =
        let y = before_event run a.1 in
        kept_stored (Known (next w a.0) o) (w.state o) entry.handed.event (still_known y o turns.office)
        (came_known y turns) tested shown.keeps
        (made_known y turns (answer_of entry).written (whole_left (w.state o) used.turn v used.has_left))

    is_p : in_slot test q ≡ p
    is_p = ap (λ (y : Slot). y.proposal) used.counted.stored

    pub used_known : Known (next w a.0) o q p
    used_known = subst (Known (next w a.0) o q) is_p
        (test_known q used.counted.office (ap (λ (y : Slot). y.present) used.counted.stored))

    agree : (k : ℕ) → k < 16 → serves test.net.bits k ≡ true → Agreeing test k
    agree = (agreed_out test shown.agrees).every

    at_q : Agreeing test q
    at_q = agree q used.counted.office (counted_member entry q p used.counted)

    net_is : test.net.bits ≡ p.members.bits
    net_is = sym at_q.same_members ∙ ap (λ (y : Proposal). y.members.bits) is_p

    view_is : v ≡ view_of test
    view_is = sym used.is_view ∙ shown.is

    -- of a slow proposal: what was counted for each office of the view has its number, and has left by the end
    module _ (is_slow : p.kind ≡ slow) where
      in_slow : test.mode ≡ Slow
      in_slow = slow_mode test.mode (sym at_q.of_kind ∙ ap (λ (y : Proposal). y.kind) is_p ∙ is_slow)

      numbered : (k : ℕ) → k < 16 → serves test.net.bits k ≡ true → (in_slot test k).number ≡ p.number
      numbered k l s =
          (agree k l s).own_number_lem in_slow ∙ sym (at_q.own_number_lem in_slow)
          ∙ ap (λ (y : Proposal). y.number) is_p

      gone : (k : ℕ) → k < 16 → serves test.net.bits k ≡ true
          → HasLeft (world run (length run.events)) k (proposal (in_slot test k))
      gone k l s =
          stays_left run a.1 (length run.events) a.1.0 (le_refl _) k (proposal (in_slot test k))
          ((test_known k l (agree k l s).is_there).1 (λ e. (agree k l s).of_kind ∙ ap kind_of in_slow))

  pub one_view : OneView run.states run.links run.events
  one_view n k o u q r p v x is_slow a b =
      let same = net_is a ∙ sym (net_is b) in
      view_is a ∙ view_same (test a) (test b) same
      (λ j l s. let t = rw same at s in
      gives_once (in_slot (test a) j) (in_slot (test b) j)
      ((place run (length run.events) (le_refl _)).held.given j l).told
      (gone a is_slow j l s) (gone b is_slow j l t) (numbered a is_slow j l s ∙ sym (numbered b is_slow j l t)))
      ∙ sym (view_is b)
