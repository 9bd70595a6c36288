-- For round_end: the end of a round office by office.
use mathlib.Core.Path.{◌≡◌, refl, sym, ◌∙◌}
use mathlib.Core.Bool.{Bool, true, false, ◌&&◌}
use mathlib.Core.List.{List}
use Prim.Native.Nat.{ℕ, ◌+◌, ◌<◌}
use native.Mathlib.Omega.{arith}
use native.Mathlib.Decide.{ℕ_discrete}
use lib.ListN.{length}
use lib.Dec.{ltb}
use borrow.Author.Tests.{ltb-true, ltb-false, lt-ltb, le-ltb}
use Rattle.laws.specs.Tab.{tab}
use Rattle.laws.proofs.Tab.{get_or_tab, tab_ext, filled}
use Rattle.laws.specs.Upd.{ifb, upd}
use Rattle.laws.proofs.Upd.{upd_cases}
use Rattle.seats.specs.Offices.{serves}
use Rattle.records.specs.declared.View.{View}
use Rattle.rules.specs.State.{None, Slot, State, nothing, stored_at, used_at, number_in}
use Rattle.rules.specs.Rules.{view_of, concluded}
use Rattle.row.specs.Row.{state_of}
use Rattle.rules.specs.State.{with_mode, with_view}
use Rattle.row.proofs.Words.{state_shaped}
use Rattle.agree.specs.Emptied.{among, emptying, emptied}

-- the offices below o + 1
among_same : (s : State) (o : ℕ) → among (o + 1) s o ≡ serves s.net.bits o
among_same s o = rw (lt-ltb o (o + 1) (omega arith))

among_not : (s : State) (o : ℕ) → among o s o ≡ false
among_not s o = rw (le-ltb o o (omega arith))

among_other : (s : State) (o k : ℕ) → (k ≡ o → ⊥) → among (o + 1) s k ≡ among o s k
among_other s o k n = go (ltb k o) refl
  where
    go : (t : Bool) → ltb k o ≡ t → among (o + 1) s k ≡ t && serves s.net.bits k
    go true e = let l = ltb-true k o e in rw (lt-ltb k (o + 1) (omega arith))
    go false e = let l = ltb-false k o e in rw (le-ltb k (o + 1) (omega arith))

among_all : (s : State) (k : ℕ) → k < 16 → among 16 s k ≡ serves s.net.bits k
among_all s k l = rw (lt-ltb k 16 l)

among_none : (s : State) (k : ℕ) → among 0 s k ≡ false
among_none s k = rw (le-ltb k 0 (omega arith))

-- what is stored and used after the first n
abbrev empty_slot : ℕ → State → ℕ → Slot
empty_slot n s k = ifb (among n s k) nothing (stored_at s k)

abbrev empty_used : ℕ → State → ℕ → ℕ
empty_used n s k = ifb (among n s k) (number_in (stored_at s k)) (used_at s k)

pub emptied_none : (s : State) → length s.stored ≡ 16 → length s.used ≡ 16 → emptied 0 s ≡ s
unfolding emptied
emptied_none s e f =
    let a = filled 16 (empty_slot 0 s) nothing s.stored e (λ k l. rw (among_none s k)) in
    let b = filled 16 (empty_used 0 s) 0 s.used f (λ k l. rw (among_none s k)) in
    rw (← a, ← b)

stored_emptied : (n : ℕ) (s : State) (k : ℕ) → k < 16 → stored_at (emptied n s) k ≡ empty_slot n s k
unfolding emptied
stored_emptied n s k l = get_or_tab 16 (empty_slot n s) k nothing l

used_emptied : (n : ℕ) (s : State) (k : ℕ) → k < 16 → used_at (emptied n s) k ≡ empty_used n s k
unfolding emptied
used_emptied n s k l = get_or_tab 16 (empty_used n s) k 0 l

module _ (s : State) (o : ℕ) (lt : o < 16) where
  -- office o has a seat
  pub emptied_one : serves s.net.bits o ≡ true → emptying o (emptied o s) ≡ emptied (o + 1) s
  unfolding emptied
  emptied_one e = rw (slots, numbers)
    where
      old : stored_at (emptied o s) o ≡ stored_at s o
      old = stored_emptied o s o lt ∙ rw (among_not s o)

      slots : tab 16 (upd (stored_at (emptied o s)) o nothing) ≡ tab 16 (empty_slot (o + 1) s)
      slots = tab_ext 16 _ _
          (λ k l. upd_cases (λ (i : ℕ) (v : Slot). i < 16 → v ≡ empty_slot (o + 1) s i)
          (stored_at (emptied o s)) o nothing k
          (λ h. rw (among_same s o, e)) (λ n h. stored_emptied o s k h ∙ rw (among_other s o k n)) l)

      numbers : tab 16 (upd (used_at (emptied o s)) o (number_in (stored_at (emptied o s) o))) ≡ tab 16
          (empty_used (o + 1) s)
      numbers = tab_ext 16 _ _
          (λ k l. upd_cases (λ (i v : ℕ). i < 16 → v ≡ empty_used (o + 1) s i) (used_at (emptied o s)) o _ k
          (λ h. rw (among_same s o, e, old)) (λ n h. used_emptied o s k h ∙ rw (among_other s o k n)) l)

  -- it has none
  pub emptied_skip : serves s.net.bits o ≡ false → emptied o s ≡ emptied (o + 1) s
  unfolding emptied
  emptied_skip e = rw (
    tab_ext 16 (empty_slot o s) (empty_slot (o + 1) s) (λ k l. rw (same k)),
    tab_ext 16 (empty_used o s) (empty_used (o + 1) s) (λ k l. rw (same k)),
  )
    where
      same : (k : ℕ) → among o s k ≡ among (o + 1) s k
      same k = go (ℕ_discrete k o)
        where
          go : Dec (k ≡ o) → among o s k ≡ among (o + 1) s k
          go (yes q) = rw q (among_not s o ∙ sym e ∙ sym (among_same s o))
          go (no q) = sym (among_other s o k q)

pub concluded_by : (s : State) (v : View) → v ≡ view_of s → with_view v (with_mode None (emptied 16 s)) ≡ concluded s
unfolding emptied concluded
concluded_by s v e =
    rw (
      e,
      tab_ext 16 (empty_slot 16 s) (λ o. ifb (serves s.net.bits o) nothing (stored_at s o))
          (λ k l. rw (among_all s k l)),
      tab_ext 16 (empty_used 16 s) (λ o. ifb (serves s.net.bits o) (number_in (stored_at s o)) (used_at s o))
          (λ k l. rw (among_all s k l)),
    )

-- a state of a row has sixteen of each
pub stored_length_lem : (ws : List ℕ) → length (state_of ws).stored ≡ 16
stored_length_lem ws = (state_shaped ws).stored

pub used_length : (ws : List ℕ) → length (state_of ws).used ≡ 16
used_length ws = (state_shaped ws).used
