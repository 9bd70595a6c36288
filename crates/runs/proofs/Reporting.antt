-- A report at an office of F is an event of the arrays.
use mathlib.Core.Path.{◌≡◌, refl, sym, ap, subst, ◌∙◌}
use mathlib.Core.Bool.{Bool, true, false}
use mathlib.Core.Logic.{◌⊎◌, inl, inr}
use mathlib.Core.List.{[]}
use Prim.Native.Nat.{ℕ, ◌^◌, ◌≤◌, ◌<◌}
use native.Mathlib.Omega.{arith}
use Rattle.laws.specs.Lists.{none}
use Rattle.laws.proofs.Fin.{true_false}
use Rattle.laws.proofs.Upd.{upd_other}
use Rattle.seats.specs.Offices.{serves}
use Rattle.records.specs.Fits.{FitsReport}
use Rattle.records.specs.declared.Report.{Report}
use Rattle.rules.specs.State.{State, used_at}
use Rattle.rules.specs.Rules.{nothing_written, net_after, with_net, repeats, seated, receives, report_rule}
use Rattle.records.specs.Numbers.{limit}
use Rattle.rules.specs.Refusals.{well_formed, a_report, Result, take_of, accepted}
use Rattle.rule_laws.proofs.Steps.{Refused, Takes, well_facts, take_accepts}
use Rattle.rule_laws.proofs.Repeats.{repeat_net, change_net, repeat_rule}
use Rattle.rule_laws.proofs.Parts.{with_net_reads, net_after_fits}
use Rattle.rule_laws.proofs.Walk.{staged_report}
use Rattle.runs.specs.World.{World, report, answered, report_answer, Among}
use Rattle.runs.specs.Begins.{InF}
use Rattle.runs.proofs.Arrays.{Offices, Barred, renet, Numbers, Happens, refuses, repeated, leaves, reports}
use Rattle.runs.proofs.StateArrays.{Sim, sim_renet}
use Rattle.runs.proofs.RulesArrays.{Moved, moved_none, moving, fast_moves}
use Rattle.runs.proofs.Proposals.{EachProposal, each_map, Begun, Makes, makes_report, unseated_report}
use Rattle.runs.proofs.Accepting.{accepted_or_barred}
use Rattle.runs.proofs.Valid.{Valid, made_valid}
use Rattle.runs.proofs.WorldArrays.{Good, Seen, SeenAll, Sends, GoodAnswer, SameOwn, seen_but, seen_moved}
use Rattle.runs.proofs.WorldArrays.{seen_turned, below_sixteen}

module _ (F : ℕ → Bool) where
  -- a report at an office of F
  module _ (w : World) (g : Offices) (me : ℕ) (rep : Report) (room : ℕ) (seen : SeenAll F w g) (numbers : Numbers F g)
      (q : InF F me)
      (among : Among (report me rep room)) where
    abbrev mine : State
    mine = w.state me

    sim : Sim mine g me
    sim = seen.sim me q (below_sixteen F q.0)

    good : Good mine
    good = seen.good me q (below_sixteen F q.0)

    fits : FitsReport rep
    fits = record { joining = among.1; leaving = among.2 }

    abbrev Acted : Result → Type 0
    Acted r = (h : Offices) × Happens F w (report me rep room) g h × SeenAll F (answered w me r) h

    -- the office stays as it is and writes nothing
    unmoved : SeenAll F (answered w me (accepted (nothing_written mine))) g
    unmoved = seen_moved F w g g me (nothing_written mine) (seen_but F w g me seen) ans q
        (moved_none w.clock me g mine sim)
      where
        ans : GoodAnswer F me (nothing_written mine)
        ans = record { is_good = good; own = sim.own; sends = none; names = none }

    -- refused: nothing happens
    refused_acts : Refused mine (take_of me mine (a_report rep) room) → Barred (take_of me mine (a_report rep) room)
        → Acted (report_answer w me rep room)
    unfolding report_answer answered
    refused_acts r b = (g, refuses q b, subst (λ (z : Result). SeenAll F (answered w me z) g) (sym r.is) unmoved)

    abbrev made_net : ℕ
    made_net = net_after mine.net.bits rep

    net_below : made_net < 2 ^ 64
    net_below = net_after_fits mine.net.bits rep good.net fits

    renetted_kept : (a : ℕ) → (a ≡ me → ⊥) → SameOwn F g (renet g me made_net) a
    unfolding renet
    renetted_kept a n = record {
      num = refl;
      mode = refl;
      net = upd_other g.net me made_net a n;
      stored = refl;
      acc = refl;
      used = refl;
    }

    seen_renet : Seen F me w (renet g me made_net)
    unfolding renet
    seen_renet = seen_turned F w g (renet g me made_net) me seen renetted_kept refl refl refl

    abbrev turned : State
    turned = with_net mine made_net

    turned_own : turned.own ≡ me
    turned_own = (with_net_reads mine made_net).own_is ∙ sim.own

    turned_net : turned.net.bits ≡ made_net
    turned_net = (with_net_reads mine made_net).net_is

    turned_begun : Begun turned
    turned_begun n = let r = with_net_reads mine made_net in rw r.start_is (good.begun (λ k. n (r.mode_is ∙ k)))

    sim_turned : Sim turned (renet g me made_net) me
    sim_turned = sim_renet mine g me sim made_net

    within : (k : ℕ) → k < 16 → used_at turned k ≤ limit
    within k lt = let a = (with_net_reads mine made_net).used_is k lt in
        let b = (well_facts mine good.passes).used k lt in omega arith

    behind : used_at turned me ≤ turned.number
    behind =
        let a = (with_net_reads mine made_net).used_is me q.0 in
        let b = (with_net_reads mine made_net).number_is in
        let c = sim.used me q.0 in
        let d = sim.num in
        let e = numbers.own_used me q in
        omega arith

    module _ (accepts : Takes me mine (a_report rep) room) where
      answer : report_answer w me rep room ≡ accepted (report_rule mine rep)
      unfolding report_answer
      answer = take_accepts me mine (a_report rep) room accepts

      passes : well_formed (report_rule mine rep).state ≡ true
      passes = accepts.acts.within

      -- the office's answer, where the arrays become k
      ends : (k : Offices) → Moved w.clock me (renet g me made_net) (report_rule mine rep) k
          → EachProposal (λ p. (j : ℕ) → receives p j ≡ true → Valid me j p) (report_rule mine rep).written
          → SeenAll F (answered w me (accepted (report_rule mine rep))) k
      ends k moved valid = seen_moved F w (renet g me made_net) k me (report_rule mine rep) seen_renet ans q moved
        where
          makes : Makes turned (report_rule mine rep)
          makes = makes_report mine rep

          ans : GoodAnswer F me (report_rule mine rep)
          ans = record {
            is_good = record {
              passes = passes;
              net = rw (makes.net, turned_net) net_below;
              begun = makes.begun turned_begun;
            };
            own = makes.own ∙ turned_own;
            sends = valid;
            names = each_map (λ p m. m.sender ∙ turned_own) makes.sends;
          }

      -- a repeat: nothing happens
      again : repeats mine rep ≡ true → Acted (accepted (report_rule mine rep))
      again c = rw (repeat_rule mine rep c) (g, repeated q (rw sim.net at (repeat_net mine rep c)), unmoved)

      -- another net view
      changed : repeats mine rep ≡ false → made_net ≡ g.net me → ⊥
      changed c e = change_net mine rep c (e ∙ sym sim.net)

      -- no seat of its own: nothing more happens
      unseated : repeats mine rep ≡ false → seated turned ≡ false → Acted (accepted (report_rule mine rep))
      unfolding seated
      unseated c e =
          let r = unseated_report mine rep e in (
            renet g me made_net,
            leaves made_net q (changed c) (ap (λ (x : ℕ). serves x me) (sym turned_net)
                ∙ ap (serves turned.net.bits) (sym turned_own) ∙ e),
            ends (renet g me made_net) (rw r (moved_none w.clock me (renet g me made_net) turned sim_turned))
                (rw r none),
          )

      -- a fast proposal and the tests
      opened_up : repeats mine rep ≡ false → seated turned ≡ true → Acted (accepted (report_rule mine rep))
      unfolding seated
      opened_up c e =
          let f = fast_moves w.clock me turned (renet g me made_net) sim_turned in
          let t = staged_report (moving w.clock me (renet g me made_net) _) mine rep
          (λ k. absurd (true_false _ k c)) (λ n. absurd (true_false _ e n)) (λ _. f.1) in
          let seat : serves turned.net.bits me ≡ true = ap (serves turned.net.bits) (sym turned_own) ∙ e in
          let valid = made_valid turned (report_rule mine rep).state me turned_own q.0 (rw turned_net net_below)
          within (well_facts _ passes) seat behind turned_begun in (
            t.0,
            reports made_net _ q (changed c) f.0 t.1,
            ends t.0 t.2 (each_map valid (makes_report mine rep).sends),
          )

      accepted_acts : Acted (report_answer w me rep room)
      accepted_acts = rw answer (go (repeats mine rep) refl (seated turned) refl)
        where
          go : (u : Bool) → repeats mine rep ≡ u → (t : Bool) → seated turned ≡ t
              → Acted (accepted (report_rule mine rep))
          go true c t e = again c
          go false c true e = opened_up c e
          go false c false e = unseated c e

    pub report_acts : Acted (report_answer w me rep room)
    report_acts = go (accepted_or_barred me mine (a_report rep) room sim.own good.passes refl)
      where
        go : Takes me mine (a_report rep) room
            ⊎ (Refused mine (take_of me mine (a_report rep) room) × Barred (take_of me mine (a_report rep) room))
            → Acted (report_answer w me rep room)
        go (inl a) = accepted_acts a
        go (inr r) = refused_acts r.0 r.1

    -- the proposals of its answer
    pub report_sends : Sends F me (report_answer w me rep room).written
    report_sends = go (accepted_or_barred me mine (a_report rep) room sim.own good.passes refl)
      where
        nothing : Sends F me []
        nothing = record { valid = none; names = none }

        of : (a : Takes me mine (a_report rep) room) (u : Bool) → repeats mine rep ≡ u → (t : Bool) → seated turned ≡ t
            → Sends F me (report_rule mine rep).written
        of a true c t e = rw (repeat_rule mine rep c) nothing
        of a false c false e = rw (unseated_report mine rep e) nothing
        of a false c true e =
            let makes = makes_report mine rep in
            let seat : serves turned.net.bits me ≡ true = ap (serves turned.net.bits) (sym turned_own)
            ∙ (unfold seated in e) in
            let valid = made_valid turned (report_rule mine rep).state me turned_own q.0
            (rw turned_net net_below) within (well_facts _ (passes a)) seat behind turned_begun in
            record {
              valid = each_map valid makes.sends;
              names = each_map (λ p m. m.sender ∙ turned_own) makes.sends;
            }

        go : Takes me mine (a_report rep) room
            ⊎ (Refused mine (take_of me mine (a_report rep) room) × Barred (take_of me mine (a_report rep) room))
            → Sends F me (report_answer w me rep room).written
        go (inl a) = rw (answer a) (of a (repeats mine rep) refl (seated turned) refl)
        go (inr r) = unfold report_answer in rw r.0.is nothing
