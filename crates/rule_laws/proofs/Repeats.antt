-- Repeats, reports that leave the net view equal to what it was: each is accepted and does nothing, and the ceiling
-- is not met by it.
use mathlib.Core.Path.{◌≡◌, refl, ap, ◌∙◌}
use mathlib.Core.Bool.{true, false}
use mathlib.Core.List.{List}
use Prim.Native.Nat.{ℕ, ◌^◌, ◌≤◌, ◌<◌}
use borrow.Author.Tests.{eq-eqb, eqb-true, eqb-false}
use Rattle.seats.proofs.Laws.{joined_again}
use Rattle.records.specs.Fits.{FitsReport}
use Rattle.records.specs.declared.Report.{Report}
use Rattle.rules.specs.State.{State}
use Rattle.rules.specs.Rules.{nothing_written, net_after, with_net, repeats, change_rule, report_rule}
use Rattle.rules.specs.Refusals.{read_check, well_formed, full_room, a_report, event_of, step_of, accepted}
use Rattle.rule_laws.proofs.Steps.{read_facts, AcceptsEvent, step_accepts}

module _ (s : State) (r : Report) where
  abbrev net : ℕ
  net = net_after s.net.bits r

  pub repeat_net : repeats s r ≡ true → net ≡ s.net.bits
  unfolding repeats
  repeat_net e = eqb-true net s.net.bits e

  pub net_repeat : net ≡ s.net.bits → repeats s r ≡ true
  unfolding repeats
  net_repeat e = eq-eqb net s.net.bits e

  pub change_net : repeats s r ≡ false → net ≡ s.net.bits → ⊥
  unfolding repeats
  change_net e = eqb-false net s.net.bits e

  -- step 1 of a repeat leaves the very state
  pub repeat_state : repeats s r ≡ true → with_net s net ≡ s
  unfolding with_net
  repeat_state e = ap (with_net s) (repeat_net e)

  -- the rule, by the two cases
  pub repeat_rule : repeats s r ≡ true → report_rule s r ≡ nothing_written s
  unfolding report_rule
  repeat_rule e = rw e

  pub change_rule_lem : repeats s r ≡ false → report_rule s r ≡ change_rule (with_net s net)
  unfolding report_rule
  change_rule_lem e = rw e

  -- on every state that passes check 2 a repeat is the identity
  module _ (well : well_formed s ≡ true) (e : repeats s r ≡ true) where
    repeat_accepted : AcceptsEvent s (a_report r)
    repeat_accepted = record { passes = refl; within = rw (repeat_rule e) well }

    pub repeat_step : (office : ℕ) (b : List ℕ) (output : ℕ) → office < 16 → read_check b ≡ 0 → full_room ≤ output
        → event_of b ≡ a_report r → step_of office s b output ≡ accepted (nothing_written s)
    repeat_step office b output known read fits is =
        let f = (read_facts b).0 read in
        step_accepts office s b output (record {
          known = known;
          readable = f.0;
          in_room = f.1;
          form = rw is refl;
          well = well;
          fits = fits;
          acts = rw is repeat_accepted;
        })
        ∙ rw is (ap accepted (repeat_rule e))

-- where a report has made the net view, the same report again is a repeat
pub again_repeats : (t : State) (x : ℕ) (r : Report) → x < 2 ^ 64 → FitsReport r → t.net.bits ≡ net_after x r
    → repeats t r ≡ true
again_repeats t x r l f e =
    net_repeat t r (rw e (unfold net_after in
    joined_again x r.joining.bits r.leaving.bits l f.joining f.leaving))
