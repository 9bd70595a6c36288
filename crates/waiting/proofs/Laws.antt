-- Laws of the question whom an office waits for: what each answer says of the state, and that the two ways to look
-- agree.
use mathlib.Core.Path.{◌≡◌, refl, ◌∙◌}
use mathlib.Core.Bool.{Bool, true, false, ◌&&◌, ◌||◌, not}
use mathlib.Core.Logic.{◌↔◌}
use Prim.Native.Nat.{ℕ, ◌<◌}
use native.Mathlib.Omega.{arith}
use lib.Dec.{eqb, ltb}
use borrow.Author.Tests.{eq-eqb, ne_eqb, lt-ltb, ltb-true, ltb-false, not-true, not-false}
use Rattle.laws.specs.Lowest.{lowest_below}
use Rattle.laws.proofs.Fin.{if_cases, and_l, and_r, or_l, or_r, true_false, allb_ext}
use Rattle.laws.proofs.Lowest.{lowest_le, lowest_passes, lowest_first, lowest_is, none_lowest, lowest_of_all_lem}
use Rattle.seats.specs.Offices.{serves}
use Rattle.rules.specs.State.{None, State}
use Rattle.rules.specs.Rules.{seated, agrees_in, is_none, agreed}
use Rattle.rules.specs.Refusals.{well_formed}
use Rattle.rule_laws.proofs.Modes.{busy_is}
use Rattle.waiting.specs.declared.Waiting.{Waiting}
use Rattle.waiting.specs.declared.Waiting.TheVariants as answers
use Rattle.waiting.specs.Waiting.{lacks, lowest_lacking, lowest_lacking_of_all, for_nobody, found, waiting_for}
use Rattle.waiting.specs.Waiting.{waiting_for_of_all}

-- in mode none the agreement test is not met
pub agreed_none : (s : State) → is_none s.mode ≡ true → agreed s ≡ false
unfolding agreed
agreed_none s e = rw e

-- the look that stops at the first office finds what going through all sixteen finds
pub same_lowest : (s : State) → lowest_lacking s ≡ lowest_lacking_of_all s
unfolding lowest_lacking lowest_lacking_of_all
same_lowest s = lowest_of_all_lem 16 (lacks s)

pub same_answer : (s : State) → waiting_for s ≡ waiting_for_of_all s
unfolding waiting_for waiting_for_of_all
same_answer s = rw (same_lowest s)

-- the agreement test is met exactly where no office lacks its proposal
not_lacking : (s : State) (o : ℕ) → not (serves s.net.bits o) || agrees_in s.mode s o ≡ not (lacks s o)
unfolding lacks
not_lacking s o = go (serves s.net.bits o) (agrees_in s.mode s o)
  where
    go : (a b : Bool) → not a || b ≡ not (a && not b)
    go true true = refl
    go true false = refl
    go false b = refl

pub agreed_lowest : (s : State) → is_none s.mode ≡ false → agreed s ≡ eqb (lowest_lacking s) 16
unfolding agreed lowest_lacking
agreed_lowest s n = rw n (allb_ext 16 _ (λ o. not (lacks s o)) (λ o l. not_lacking s o) ∙ none_lowest 16 (lacks s))

-- the answer by its cases
pub answer_malformed : (s : State) → well_formed s ≡ false → waiting_for s ≡ answers.Malformed
unfolding waiting_for
answer_malformed s w = rw w

pub answer_nobody : (s : State) → well_formed s ≡ true → for_nobody s ≡ true → waiting_for s ≡ answers.Nobody
unfolding waiting_for
answer_nobody s w n = rw (w, n)

pub answer_found : (s : State) → well_formed s ≡ true → for_nobody s ≡ false → waiting_for s ≡ found (lowest_lacking s)
unfolding waiting_for
answer_found s w n = rw (w, n)

-- somebody may be waited for
pub busy_mode : (s : State) → for_nobody s ≡ false → is_none s.mode ≡ false
unfolding for_nobody
busy_mode s e = or_l (is_none s.mode) _ e

pub busy_out : (s : State) → for_nobody s ≡ false → (s.mode ≡ None → ⊥) × (seated s ≡ true)
unfolding for_nobody
busy_out s e = (busy_is s.mode (busy_mode s e), not-false _ (or_r (is_none s.mode) _ e))

-- office o is the lowest-numbered office of the net view without the proposal
pub record Lowest (s : State) (o : ℕ) : Type 0 where
  pub office : o < 16
  pub of_the_net_view : serves s.net.bits o ≡ true
  pub lacking : agrees_in s.mode s o ≡ false
  pub lower : (k : ℕ) → k < o → serves s.net.bits k ≡ true → agrees_in s.mode s k ≡ true

-- what each answer says of the state
pub data Means (s : State) : Waiting → Type 0 where
  malformed : well_formed s ≡ false → Means s answers.Malformed
  nobody : well_formed s ≡ true → for_nobody s ≡ true → Means s answers.Nobody
  met : well_formed s ≡ true → for_nobody s ≡ false → agreed s ≡ true → Means s answers.Met
  named : (o : ℕ) → well_formed s ≡ true → for_nobody s ≡ false → agreed s ≡ false → Lowest s o
      → Means s (answers.For o)

module _ (s : State) where
  lacks_out : (o : ℕ) → lacks s o ≡ true → (serves s.net.bits o ≡ true) × (agrees_in s.mode s o ≡ false)
  unfolding lacks
  lacks_out o e = (and_l (serves s.net.bits o) _ e, not-true _ (and_r (serves s.net.bits o) _ e))

  lacks_not : (o : ℕ) → lacks s o ≡ false → serves s.net.bits o ≡ true → agrees_in s.mode s o ≡ true
  unfolding lacks
  lacks_not o e v = not-false _ (rw v at e)

  lowest_lacks : (o : ℕ) → o ≡ lowest_below 16 (lacks s) → o < 16 → Lowest s o
  lowest_lacks o e l =
      let h = lacks_out o (rw e (lowest_passes 16 (lacks s) (omega arith))) in
      record {
        office = l;
        of_the_net_view = h.0;
        lacking = h.1;
        lower = λ k b. lacks_not k (lowest_first 16 (lacks s) k (omega arith));
      }

  pub means : Means s (waiting_for s)
  unfolding waiting_for for_nobody lowest_lacking
  means = if_cases (Means s) (well_formed s) _ _ (λ w. if_cases (Means s) (for_nobody s) _ _ (nobody w) (busy w))
      malformed
    where
      busy : well_formed s ≡ true → for_nobody s ≡ false → Means s (found (lowest_below 16 (lacks s)))
      busy w n =
          let k = lowest_below 16 (lacks s) in
          let b : is_none s.mode ≡ false = or_l _ _ n in
          if_cases (Means s) (ltb k 16) _ _
          (λ e. named k w n (agreed_lowest s b ∙ ne_eqb k 16 (λ (q : k ≡ 16). let l = ltb-true k 16 e in omega arith))
          (lowest_lacks k refl (ltb-true k 16 e)))
          (λ e. met w n (agreed_lowest s b
          ∙ eq-eqb k 16 (let l = ltb-false k 16 e in let h = lowest_le 16 (lacks s) in omega arith)))

  -- met exactly where the agreement test is met: in a state that passes check 2, with a seat in the net view, in mode
  -- fast or slow
  pub met_agreed : well_formed s ≡ true → is_none s.mode ≡ false → seated s ≡ true
      → (waiting_for s ≡ answers.Met) ↔ (agreed s ≡ true)
  unfolding for_nobody
  met_agreed w n v = (λ e. go means e, λ e. back means e)
    where
      busy : for_nobody s ≡ false
      busy = rw (n, v)

      go : {a : Waiting} → Means s a → a ≡ answers.Met → agreed s ≡ true
      go (malformed x) e = let z : ◌≡◌ {A = ℕ} 0 1 = cc in absurd (omega arith)
      go (nobody x y) e = let z : ◌≡◌ {A = ℕ} 0 1 = cc in absurd (omega arith)
      go (met x y a) e = a
      go (named o x y a l) e = let z : ◌≡◌ {A = ℕ} 0 1 = cc in absurd (omega arith)

      back : {a : Waiting} → Means s a → agreed s ≡ true → a ≡ answers.Met
      back (malformed x) e = absurd (true_false _ w x)
      back (nobody x y) e = absurd (true_false _ y busy)
      back (met x y a) e = refl
      back (named o x y a l) e = absurd (true_false _ e a)

  -- where an office is named, it is the lowest that lacks the proposal
  pub names_lowest : (o : ℕ) → waiting_for s ≡ answers.For o → Lowest s o
  names_lowest o e = go means e
    where
      go : {a : Waiting} → Means s a → a ≡ answers.For o → Lowest s o
      go (malformed x) e = let z : ◌≡◌ {A = ℕ} 0 1 = cc in absurd (omega arith)
      go (nobody x y) e = let z : ◌≡◌ {A = ℕ} 0 1 = cc in absurd (omega arith)
      go (met x y a) e = let z : ◌≡◌ {A = ℕ} 0 1 = cc in absurd (omega arith)
      go (named k x y a l) e = let q : k ≡ o = cc in rw (← q) l

  pub lowest_named : well_formed s ≡ true → is_none s.mode ≡ false → seated s ≡ true → (o : ℕ) → Lowest s o
      → waiting_for s ≡ answers.For o
  unfolding waiting_for for_nobody lowest_lacking lacks
  lowest_named w n v o l =
      let f : (k : ℕ) → k < o → lacks s k ≡ false = λ k b. lower_has (serves s.net.bits k) _ (l.lower k b) in
      let e : lowest_below 16 (lacks s) ≡ o =
      lowest_is 16 (lacks s) o l.office (rw (l.of_the_net_view, l.lacking)) f in
      rw (w, n, v, e, lt-ltb o 16 l.office)
    where
      lower_has : (a b : Bool) → (a ≡ true → b ≡ true) → a && not b ≡ false
      lower_has true b h = rw (h refl)
      lower_has false b h = refl
