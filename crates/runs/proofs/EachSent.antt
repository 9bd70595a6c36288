-- What holds of every record that one office sends, in its own runs and in those of the world: what every answer keeps
-- of its state, and has of each record written, wherever the office begins again.
use mathlib.Core.Path.{◌≡◌, refl, sym, subst}
use mathlib.Core.List.{List, [], ◌∷◌}
use Prim.Native.Nat.{ℕ}
use Rattle.laws.specs.Lists.{Every, none, more}
use Rattle.laws.proofs.Lists.{runs_keep, every_append, every_take}
use Rattle.laws.proofs.Upd.{upd_cases}
use Rattle.rules.specs.State.{State}
use Rattle.rules.specs.Rules.{Written, restarted}
use Rattle.rules.specs.Refusals.{a_report, a_proposal, Result}
use Rattle.runs.specs.Office.{Input, answer_to, next_state, Turn, entire, broken, handed_at, left_at, next_turn}
use Rattle.runs.specs.Office.{left_over}
use Rattle.runs.specs.World.{Item, World, SentRecord, Underway, nothing_begun, begun_report, begun_delivery, WorldEvent}
use Rattle.runs.specs.World.{report, delivery, loss, cut, logged, answered, with_link, idle, report_answer}
use Rattle.runs.specs.World.{proposal_answer, delivered, begun_writes, front_writes, taken_up, cut_answer, next, run}

-- each record of a log satisfies Q
abbrev pub EachLogged : (Written → Type 0) → List SentRecord → Type 0
EachLogged Q = Every (λ x. Q x.what)

logged_each : {Q : Written → Type 0} (t : ℕ) {ws : List Written} {l : List SentRecord} → Every Q ws → EachLogged Q l
    → EachLogged Q (logged t ws l)
logged_each t none f = f
logged_each t (more q e) f = logged_each t e (more q f)

-- P holds of the office's state, Q of what it sends, I is asked of what is handed in
module _ (own : ℕ) (P : State → Type 0) (Q : Written → Type 0) (I : Input → Type 0)
    (again : (m : ℕ) → P (restarted own m)) (owns : (s : State) → P s → s.own ≡ own)
    (keeps : (s : State) (h : Input) → I h → P s → P (next_state s h) × Every Q (answer_to s h).written) where
  turn_keeps : (s : State) (t : Turn) → I (handed_at t) → P s → P (next_turn s t) × Every Q (left_at s t)
  turn_keeps s (entire h) i p = keeps s h i p
  turn_keeps s (broken h left m) i p =
      (subst (λ (o : ℕ). P (restarted o m)) (sym (owns s p)) (again m), every_take left (keeps s h i p).1)

  -- its own runs
  pub each_left : (s : State) (ts : List Turn) → Every (λ t. I (handed_at t)) ts → P s → Every Q (left_over s ts)
  unfolding left_over
  each_left s [] none p = none
  each_left s (t ∷ ts) (more i is) p =
      let x = turn_keeps s t i p in every_append x.1 (each_left (next_turn s t) ts is x.0)

  -- the runs of the world, where anything may be handed in
  module _ (any : (h : Input) → I h) where
    abbrev pub OwnLog : World → Type 0
    OwnLog w = P (w.state own) × EachLogged Q (w.log own)

    answered_log : (w : World) (o : ℕ) (r : Result) → OwnLog w → (o ≡ own → P r.state × Every Q r.written)
        → OwnLog (answered w o r)
    unfolding answered
    answered_log w o r k f = (
      upd_cases (λ (i : ℕ) (s : State). i ≡ own → P s) w.state o r.state own (λ e. (f e).0) (λ n e. k.0) refl,
      upd_cases (λ (i : ℕ) (l : List SentRecord). i ≡ own → EachLogged Q l) w.log o _ own
          (λ e. logged_each w.clock (f e).1 (subst (λ (i : ℕ). EachLogged Q (w.log i)) (sym e) k.1))
          (λ n e. k.1) refl,
    )

    module _ (w : World) (k : OwnLog w) (o : ℕ) (is : o ≡ own) where
      given : (h : Input) → P (next_state (w.state o) h) × Every Q (answer_to (w.state o) h).written
      given h = keeps (w.state o) h (any h) (subst (λ (i : ℕ). P (w.state i)) (sym is) k.0)

      begun_each : (b : Underway) → Every Q (begun_writes w o b)
      unfolding begun_writes report_answer proposal_answer answer_to
      begun_each nothing_begun = none
      begun_each (begun_report r room) = (given (record { office = o; event = a_report r; room = room })).1
      begun_each (begun_delivery i room) = front (w.link i o)
        where
          front : (l : List Item) → Every Q (front_writes w o room l)
          front [] = none
          front (x ∷ l) = (given (record { office = o; event = a_proposal x.proposal; room = room })).1

    next_log : (w : World) (e : WorldEvent) → OwnLog w → OwnLog (next w e)
    unfolding next idle with_link taken_up cut_answer report_answer proposal_answer answer_to
    next_log w (report o r room) k =
        answered_log w o (report_answer w o r room) k
        (λ is. given w k o is (record { office = o; event = a_report r; room = room }))
    next_log w (delivery i j room) k = front (w.link i j)
      where
        front : (l : List Item) → OwnLog (delivered w i j room l)
        front [] = k
        front (x ∷ l) = answered_log (with_link w i j l) j (proposal_answer w j x.proposal room) k
            (λ is. given w k j is (record { office = j; event = a_proposal x.proposal; room = room }))
    next_log w (loss i j place) k = k
    next_log w (cut o b left m) k = answered_log (taken_up w o b) o (cut_answer w o b left m) (taken b)
        (λ is. (subst (λ (i : ℕ). P (restarted i m)) (sym is) (again m), every_take left (begun_each w k o is b)))
      where
        taken : (b : Underway) → OwnLog (taken_up w o b)
        taken nothing_begun = k
        taken (begun_report r room) = k
        taken (begun_delivery i room) = k

    pub run_log : (w : World) (es : List WorldEvent) → OwnLog w → OwnLog (run w es)
    run_log = runs_keep next OwnLog next_log
