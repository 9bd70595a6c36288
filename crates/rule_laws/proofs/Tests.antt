-- What each of the two tests, having failed or succeeded, says of the stored proposals.
use mathlib.Core.Path.{◌≡◌, refl, ap, ◌∙◌}
use mathlib.Core.Bool.{Bool, true, false, ◌&&◌, ◌||◌, not}
use mathlib.Core.Logic.{⊎_elim}
use Prim.Native.Nat.{ℕ, ◌≤◌, ◌<◌}
use native.Mathlib.Omega.{arith}
use lib.Dec.{eqb}
use borrow.Author.Tests.{eqb-true, eq-eqb, ne_eqb, ltb-true, lt-ltb, not-true}
use Rattle.laws.specs.Fin.{anyb, largest}
use Rattle.laws.proofs.Fin.{as-facts, and_l, and_r, and_in, or_l, or_r, or_cases, true_false, allb_out, allb_in}
use Rattle.laws.proofs.Fin.{anyb_out, anyb_none, largest_max, largest_le, if_cases}
use Rattle.laws.specs.Upd.{ifb}
use Rattle.seats.specs.Offices.{serves}
use Rattle.rules.specs.State.{Mode, None, Fast, Slow, State, slow, kind_of, stored_at, used_for}
use Rattle.rules.specs.Rules.{in_slot, matching, matching_slow, above_own, uses_own, called_in, slow_called}
use Rattle.rules.specs.Rules.{joined_number, next_number, slow_number, agrees_kind, agrees_in, is_none, agreed}
use Rattle.rule_laws.proofs.Modes.{busy_is, is_busy}

module _ (s : State) where
  -- a stored proposal of another office with the net view's members
  pub record Matching (o : ℕ) : Type 0 where
    pub another : o ≡ s.own → ⊥
    pub is_there : (stored_at s o).present ≡ true
    pub same_members : (in_slot s o).members.bits ≡ s.net.bits

  pub matching_out : (o : ℕ) → matching s o ≡ true → Matching o
  unfolding matching
  matching_out o e =
      let f = simp as-facts at e in
      record { another = f.0.0; is_there = f.0.1; same_members = f.1 }

  pub matching_in : (o : ℕ) → Matching o → matching s o ≡ true
  unfolding matching
  matching_in o h =
      and_in _ _ (and_in _ _ (ap not (ne_eqb _ _ h.another)) h.is_there) (eq-eqb _ _ h.same_members)

  -- a matching slow proposal with a number above the own one: it can be joined
  pub record Above (o : ℕ) : Type 0 where
    pub matches : Matching o
    pub is_slow : (in_slot s o).kind ≡ slow
    pub above : s.number < (in_slot s o).number

  slow_out : (o : ℕ) → matching_slow s o ≡ true → Matching o × ((in_slot s o).kind ≡ slow)
  unfolding matching_slow
  slow_out o e = (matching_out o (and_l (matching s o) _ e), eqb-true _ _ (and_r (matching s o) _ e))

  slow_in : (o : ℕ) → Matching o → (in_slot s o).kind ≡ slow → matching_slow s o ≡ true
  unfolding matching_slow
  slow_in o h e = and_in _ _ (matching_in o h) (eq-eqb _ _ e)

  pub above_out : (o : ℕ) → above_own s o ≡ true → Above o
  unfolding above_own
  above_out o e =
      let h = slow_out o (and_l (matching_slow s o) _ e) in
      record { matches = h.0; is_slow = h.1; above = ltb-true _ _ (and_r (matching_slow s o) _ e) }

  pub above_in : (o : ℕ) → Above o → above_own s o ≡ true
  unfolding above_own
  above_in o h = and_in _ _ (slow_in o h.matches h.is_slow) (lt-ltb _ _ h.above)

  uses_out : (o : ℕ) → uses_own s o ≡ true → Matching o × (used_for (in_slot s o) s.own ≡ s.number)
  unfolding uses_own
  uses_out o e = (matching_out o (and_l (matching s o) _ e), eqb-true _ _ (and_r (matching s o) _ e))

  uses_in : (o : ℕ) → Matching o → used_for (in_slot s o) s.own ≡ s.number → uses_own s o ≡ true
  unfolding uses_own
  uses_in o h e = and_in _ _ (matching_in o h) (eq-eqb _ _ e)

  -- why slow agreement is called for
  pub data Cause : Type 0 where
    in_mode_none : s.mode ≡ None → Cause
    heard_slow : s.mode ≡ Fast → (o : ℕ) → o < 16 → Matching o → (in_slot s o).kind ≡ slow → Cause
    is_used : (o : ℕ) → o < 16 → Matching o → used_for (in_slot s o) s.own ≡ s.number → Cause
    heard_above : s.mode ≡ Slow → (o : ℕ) → o < 16 → Above o → Cause

  used_cause : anyb 16 (uses_own s) ≡ true → Cause
  used_cause e = let w = anyb_out 16 (uses_own s) e in let h = uses_out w.0 w.2 in
      is_used w.0 w.1 h.0 h.1

  cause_in : (m : Mode) → s.mode ≡ m → called_in m s ≡ true → Cause
  cause_in None e c = in_mode_none e
  cause_in Fast e c =
      ⊎_elim (λ a. let w = anyb_out 16 (matching_slow s) a in let h = slow_out w.0 w.2 in
      heard_slow e w.0 w.1 h.0 h.1)
      used_cause (or_cases (anyb 16 (matching_slow s)) (anyb 16 (uses_own s)) c)
  cause_in Slow e c =
      ⊎_elim (λ a. let w = anyb_out 16 (above_own s) a in heard_above e w.0 w.1 (above_out w.0 w.2))
      used_cause (or_cases (anyb 16 (above_own s)) (anyb 16 (uses_own s)) c)

  pub called_out : slow_called s ≡ true → Cause
  unfolding slow_called
  called_out c = cause_in s.mode refl c

  -- what it means that it is not
  pub record NotCalled : Type 0 where
    pub busy : s.mode ≡ None → ⊥
    pub no_slow : s.mode ≡ Fast → (o : ℕ) → o < 16 → Matching o → (in_slot s o).kind ≡ slow → ⊥
    pub not_used : (o : ℕ) → o < 16 → Matching o → used_for (in_slot s o) s.own ≡ s.number → ⊥
    pub not_above_lem : s.mode ≡ Slow → (o : ℕ) → o < 16 → Above o → ⊥

  not_used_by : anyb 16 (uses_own s) ≡ false → (o : ℕ) → o < 16 → Matching o
      → used_for (in_slot s o) s.own ≡ s.number → ⊥
  not_used_by c o lt h e = true_false _ (uses_in o h e) (anyb_none 16 (uses_own s) c o lt)

  not_in : (m : Mode) → s.mode ≡ m → called_in m s ≡ false → NotCalled
  not_in None e c = let z : ◌≡◌ {A = ℕ} 0 1 = cc in absurd (omega arith)
  not_in Fast e c = record {
    busy = λ n. let z : ◌≡◌ {A = ℕ} 0 1 = cc in omega arith;
    no_slow = λ f o lt h k. true_false _ (slow_in
        o h k) (anyb_none 16 (matching_slow s) (or_l _ (anyb 16 (uses_own s)) c) o lt);
    not_used = not_used_by (or_r (anyb 16 (matching_slow s)) _ c);
    not_above_lem = λ f o lt h. let z : ◌≡◌ {A = ℕ} 0 1 = cc in omega arith;
  }
  not_in Slow e c = record {
    busy = λ n. let z : ◌≡◌ {A = ℕ} 0 1 = cc in omega arith;
    no_slow = λ f o lt h k. let z : ◌≡◌ {A = ℕ} 0 1 = cc in omega arith;
    not_used = not_used_by (or_r (anyb 16 (above_own s)) _ c);
    not_above_lem = λ f o lt h. true_false _ (above_in
        o h) (anyb_none 16 (above_own s) (or_l _ (anyb 16 (uses_own s)) c) o lt);
  }

  pub not_called : slow_called s ≡ false → NotCalled
  unfolding slow_called
  not_called c = not_in s.mode refl c

  -- where the number of a slow proposal comes from: the largest that can be joined, or a new one where there is none
  pub data NumberFrom (n : ℕ) : Type 0 where
    joins : (o : ℕ) → o < 16 → Above o → n ≡ (in_slot s o).number
        → ((q : ℕ) → q < 16 → Above q → (in_slot s q).number ≤ n) → NumberFrom n
    starts : ((q : ℕ) → q < 16 → Above q → ⊥) → n ≡ next_number s → NumberFrom n

  joinable : ℕ → ℕ
  joinable o = ifb (above_own s o) (in_slot s o).number 0

  joinable_above : (o : ℕ) → above_own s o ≡ true → joinable o ≡ (in_slot s o).number
  unfolding joinable
  joinable_above o e = rw e

  joinable_none : (o : ℕ) → above_own s o ≡ false → joinable o ≡ 0
  unfolding joinable
  joinable_none o e = rw e

  largest_joined : (n : ℕ) → n ≡ largest 16 joinable → (q : ℕ) → q < 16 → Above q → (in_slot s q).number ≤ n
  largest_joined n e q lt h =
      let a = joinable_above q (above_in q h) in
      let b = largest_le 16 joinable q lt in
      omega arith

  -- the largest is that of an office that can be joined, because some number above 0 can
  attained : (n : ℕ) → n ≡ largest 16 joinable → anyb 16 (above_own s) ≡ true → NumberFrom n
  attained n e c = go (above_own s w.0) refl
    where
      lt16 : 0 < 16
      lt16 = omega arith

      w : (k : ℕ) × (k < 16) × (largest 16 joinable ≡ joinable k)
      w = largest_max 16 joinable lt16

      some : (k : ℕ) × (k < 16) × (above_own s k ≡ true)
      some = anyb_out 16 (above_own s) c

      go : (b : Bool) → above_own s w.0 ≡ b → NumberFrom n
      go true b = joins w.0 w.1 (above_out w.0 b) (e ∙ w.2 ∙ joinable_above w.0 b) (largest_joined n e)
      go false b =
          let h = above_out some.0 some.2 in
          let k = largest_joined n e some.0 some.1 h in
          let z = joinable_none w.0 b in
          let y = h.above in
          let x = w.2 in
          absurd (omega arith)

  pub slow_number_lem : NumberFrom (slow_number s)
  unfolding slow_number joined_number joinable
  slow_number_lem = if_cases NumberFrom (anyb 16 (above_own s)) _ _ (λ c. attained _ refl c)
      (λ c. starts (λ q lt h. true_false _ (above_in q h) (anyb_none 16 (above_own s) c q lt)) refl)

  pub next_above : s.number < next_number s
  unfolding next_number
  next_above = omega arith

  pub slow_above : s.number < slow_number s
  slow_above = go (slow_number s) slow_number_lem
    where
      go : (n : ℕ) → NumberFrom n → s.number < n
      go n (joins o lt h e m) = let a = h.above in omega arith
      go n (starts f e) = let a = next_above in omega arith

  -- office o's stored proposal is what the agreement test asks for
  pub record Agreeing (o : ℕ) : Type 0 where
    pub is_there : (stored_at s o).present ≡ true
    pub of_kind : (in_slot s o).kind ≡ kind_of s.mode
    pub same_members : (in_slot s o).members.bits ≡ s.net.bits
    pub own_number_lem : s.mode ≡ Slow → (in_slot s o).number ≡ s.number

  kind_out : (o : ℕ) → agrees_kind s o ≡ true
      → ((stored_at s o).present ≡ true) × ((in_slot s o).kind ≡ kind_of s.mode)
      × ((in_slot s o).members.bits ≡ s.net.bits)
  unfolding agrees_kind
  kind_out o e =
      let k : Bool = (stored_at s o).present && eqb (in_slot s o).kind (kind_of s.mode) in
      let a : k ≡ true = and_l k _ e in
      (and_l (stored_at s o).present _ a, eqb-true _ _ (and_r (stored_at s o).present _ a), eqb-true _ _ (and_r k _ e))

  kind_in : (o : ℕ) → Agreeing o → agrees_kind s o ≡ true
  unfolding agrees_kind
  kind_in o h = and_in _ _ (and_in _ _ h.is_there (eq-eqb _ _ h.of_kind)) (eq-eqb _ _ h.same_members)

  agreeing_out : (m : Mode) (o : ℕ) → s.mode ≡ m → agrees_in m s o ≡ true → Agreeing o
  agreeing_out None o e c = let z : ◌≡◌ {A = ℕ} 0 1 = cc in absurd (omega arith)
  agreeing_out Fast o e c =
      let k = kind_out o c in
      record {
        is_there = k.0;
        of_kind = k.1;
        same_members = k.2;
        own_number_lem = λ f. let z : ◌≡◌ {A = ℕ} 0 1 = cc in
            absurd (omega arith);
      }
  agreeing_out Slow o e c =
      let k = kind_out o (and_l (agrees_kind s o) _ c) in
      record {
        is_there = k.0;
        of_kind = k.1;
        same_members = k.2;
        own_number_lem = λ f. eqb-true _ _ (and_r (agrees_kind s o) _ c);
      }

  pub agreeing_in : (m : Mode) (o : ℕ) → s.mode ≡ m → (m ≡ None → ⊥) → Agreeing o → agrees_in m s o ≡ true
  agreeing_in None o e n h = absurd (n refl)
  agreeing_in Fast o e n h = kind_in o h
  agreeing_in Slow o e n h = and_in _ _ (kind_in o h) (eq-eqb _ _ (h.own_number_lem e))

  -- the agreement test holds
  pub record AllAgree : Type 0 where
    pub busy : s.mode ≡ None → ⊥
    pub every : (o : ℕ) → o < 16 → serves s.net.bits o ≡ true → Agreeing o

  asked : (b c : Bool) → not b || c ≡ true → b ≡ true → c ≡ true
  asked true c e h = e
  asked false c e h = let z : ◌≡◌ {A = ℕ} 0 1 = cc in absurd (omega arith)

  answer : (b c : Bool) → (b ≡ true → c ≡ true) → not b || c ≡ true
  answer true c h = h refl
  answer false c h = refl

  pub agreed_out : agreed s ≡ true → AllAgree
  unfolding agreed
  agreed_out c = record {
    busy = busy_is s.mode (not-true _ (and_l (not (is_none s.mode)) _ c));
    every = λ o lt v. agreeing_out s.mode o refl
        (asked (serves s.net.bits o) _ (allb_out 16 _ (and_r (not (is_none s.mode)) _ c) o lt) v);
  }

  pub agreed_in : AllAgree → agreed s ≡ true
  unfolding agreed
  agreed_in h = and_in _ _ (ap not (is_busy s.mode h.busy))
      (allb_in 16 _ (λ o lt. answer (serves s.net.bits o) _ (λ v. agreeing_in
      s.mode o refl h.busy (h.every o lt v))))
