-- For refusals: check 13, by the numbers that an event can make.
use mathlib.Core.Path.{◌≡◌, refl, sym, ◌∙◌}
use mathlib.Core.Bool.{Bool, true, false, ◌&&◌}
use borrow.Author.Tests.{le-leb, leb-true}
use Rattle.laws.proofs.Fin.{and_in, and_l, and_r, true_false}
use Rattle.rules.specs.State.{State}
use Rattle.records.specs.Numbers.{within}
use Rattle.rules.specs.Refusals.{well_formed, Event, refusal_of, rule_of}
use Rattle.rule_laws.proofs.Ceiling.{ceiling}
use Rattle.step.specs.Checks.{made_within}

-- the state left passes check 2 exactly when the numbers that the event can make are within L
pub made_is_well : (s : State) (e : Event) → well_formed s ≡ true → refusal_of s e ≡ 0
    → made_within (rule_of s e).state ≡ well_formed (rule_of s e).state
made_is_well s e w z = go (well_formed u) refl (made_within u) refl
  where
    u : State
    u = (rule_of s e).state

    go : (t : Bool) → well_formed u ≡ t → (m : Bool) → made_within u ≡ m → made_within u ≡ well_formed u
    go true p m q =
        let k = (ceiling s e w z).0 p in
        and_in _ _ (and_in _ _ (le-leb _ _ k.0) (le-leb _ _ k.1)) (le-leb _ _ k.2) ∙ sym p
    go false p false q = q ∙ sym p
    go false p true q =
        let a = and_l (within u.start && within u.number) _ q in
        let l : well_formed u ≡ true = (ceiling s e w z).1 (
          leb-true _ _ (and_l (within u.start) _ a),
          leb-true _ _ (and_r (within u.start) _ a),
          leb-true _ _ (and_r (within u.start && within u.number) _ q),
        ) in
        absurd (true_false _ l p)
