-- For slow_call: whether some stored proposal calls for slow agreement is what the slow test asks.
use mathlib.Core.Path.{◌≡◌, refl, sym, ◌∙◌}
use mathlib.Core.Bool.{Bool, true, false, ◌&&◌, ◌||◌, not}
use Prim.Native.Nat.{ℕ, zero, suc, ◌<◌}
use native.Mathlib.Omega.{arith}
use lib.Dec.{eqb, ltb}
use borrow.Author.Tests.{eq-eqb, ne_eqb}
use Rattle.laws.specs.Fin.{anyb}
use Rattle.laws.proofs.Fin.{true_false}
use Rattle.seats.specs.Offices.{some_office}
use Rattle.seats.specs.declared.SeatSet.{SeatSet}
use Rattle.rules.specs.State.{Mode, None, Fast, Slow, State, fast, slow, kind_of, stored_at, used_for}
use Rattle.rules.specs.Rules.{in_slot, matching, matching_slow, above_own, uses_own, called_in, slow_called, is_none}
use Rattle.row.specs.Row.{presence}
use Rattle.row.proofs.Presence.{has_presence}
use Rattle.records.specs.declared.Proposal.{Proposal}
use Rattle.propose.specs.Look.{calls_by}

-- how the code finds it
module _ (kind own number net o : ℕ) (p : Proposal) where
  pub calls_own : o ≡ own → false ≡ calls_by kind own number net o p
  unfolding calls_by
  calls_own e = rw (eq-eqb o own e)

  pub calls_other : eqb p.members.bits net ≡ false → false ≡ calls_by kind own number net o p
  unfolding calls_by
  calls_other e = rw e (go (not (eqb o own)))
    where
      go : (a : Bool) → false ≡ a && false && (eqb (used_for p own) number
          || (eqb p.kind slow && (eqb kind fast || ltb number p.number)))
      go true = refl
      go false = refl

  pub calls_same : (o ≡ own → ⊥) → eqb p.members.bits net ≡ true
      → eqb (used_for p own) number || (eqb p.kind slow && (eqb kind fast || ltb number p.number))
      ≡ calls_by kind own number net o p
  unfolding calls_by
  calls_same n e = rw (ne_eqb o own n, e)

-- by the state
abbrev pub calls_in : State → ℕ → Bool
calls_in s o = calls_by (kind_of s.mode) s.own s.number s.net.bits o (stored_at s o).proposal

-- by what the code read
pub calls_read : (s : State) (mode : Mode) (own number : ℕ) (net : SeatSet) (o : ℕ) (b : Bool) → mode ≡ s.mode
    → own ≡ s.own → number ≡ s.number → net ≡ s.net
    → b ≡ calls_by (kind_of mode) own number net.bits o (stored_at s o).proposal → calls_in s o ≡ b
calls_read s mode own number net o b w x y z e = sym (e ∙ rw (w, x, y, z))

-- some below n pass one of two tests
either : (n : ℕ) (p q r : ℕ → Bool) → ((k : ℕ) → k < n → r k ≡ p k || q k) → anyb n r ≡ anyb n p || anyb n q
unfolding anyb
either zero p q r e = refl
either (suc n) p q r e =
    rw (e n (omega arith), either n p q r (λ k h. e k (omega arith))) (swap (p n) (q n) (anyb n p) (anyb n q))
  where
    swap : (a b c d : Bool) → (a || b) || (c || d) ≡ (a || c) || (b || d)
    swap true b c d = refl
    swap false true true d = refl
    swap false true false d = refl
    swap false false c d = refl

-- t: stored; a: another office's; m: of the same members; u: uses the own number; k: slow; b: above
in_fast : (t a m u k b : Bool) → t && (a && m && (u || (k && (true || b)))) ≡ (a && t && m && k) || (a && t && m && u)
in_fast true true true true true b = refl
in_fast true true true true false b = refl
in_fast true true true false true b = refl
in_fast true true true false false b = refl
in_fast true true false u k b = refl
in_fast true false m u k b = refl
in_fast false true m u k b = refl
in_fast false false m u k b = refl

in_slow : (t a m u k b : Bool)
    → t && (a && m && (u || (k && (false || b)))) ≡ (a && t && m && k && b) || (a && t && m && u)
in_slow true true true true true true = refl
in_slow true true true true true false = refl
in_slow true true true true false b = refl
in_slow true true true false true true = refl
in_slow true true true false true false = refl
in_slow true true true false false b = refl
in_slow true true false u k b = refl
in_slow true false m u k b = refl
in_slow false true m u k b = refl
in_slow false false m u k b = refl

pub called_by : (s : State) → is_none s.mode ≡ false → some_office (presence s) (calls_in s) ≡ slow_called s
unfolding slow_called is_none calls_by matching matching_slow above_own uses_own
called_by s n = go s.mode refl
  where
    a : ℕ → Bool
    a o = not (eqb o s.own)

    m : ℕ → Bool
    m o = eqb (in_slot s o).members.bits s.net.bits

    u : ℕ → Bool
    u o = eqb (used_for (in_slot s o) s.own) s.number

    k : ℕ → Bool
    k o = eqb (in_slot s o).kind slow

    b : ℕ → Bool
    b o = ltb s.number (in_slot s o).number

    go : (x : Mode) → s.mode ≡ x → some_office (presence s) (calls_in s) ≡ called_in s.mode s
    go None e = absurd (true_false true refl (rw e at n))
    go Fast e = rw e (either 16 (matching_slow s) (uses_own s) _
        (λ o h. rw (has_presence s o h, e) (in_fast (stored_at s o).present (a o) (m o) (u o) (k o) (b o))))
    go Slow e = rw e (either 16 (above_own s) (uses_own s) _
        (λ o h. rw (has_presence s o h, e) (in_slow (stored_at s o).present (a o) (m o) (u o) (k o) (b o))))
