-- For refusals: the refusal of an event, by the check that it comes from.
use mathlib.Core.Path.{◌≡◌, sym, ◌∙◌}
use mathlib.Core.Bool.{Bool, true, false}
use borrow.Author.Tests.{eqb-false}
use Rattle.laws.specs.Upd.{ifb}
use Rattle.records.specs.declared.refusal.Refusal.{Refusal}
use Rattle.records.specs.Refusals.{number}
use Rattle.rules.specs.State.{State}
use Rattle.rules.specs.Refusals.{well_formed, Event, refusal_of, rule_of, act_of}
use Rattle.events.proofs.ReadLaws.{reason_some}
use Rattle.rule_laws.proofs.Exits.{act_checked, act_passed}

module _ (s : State) (e : Event) where
  -- 6 to 12 and 19
  pub from_checks : (r : Refusal) → number r ≡ refusal_of s e → number r ≡ (act_of s e).refusal
  from_checks r d = d ∙ sym (act_checked s e (λ y. eqb-false _ _ (reason_some r) (d ∙ y)))

  -- 13, and none
  pub from_13 : refusal_of s e ≡ 0 → (t : Bool) → t ≡ well_formed (rule_of s e).state
      → ifb t 0 13 ≡ (act_of s e).refusal
  from_13 passes true w = rw (act_passed s e passes, ← w)
  from_13 passes false w = rw (act_passed s e passes, ← w)
