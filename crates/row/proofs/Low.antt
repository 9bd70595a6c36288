-- For form and checks: the tests of a row, what the loops compute, and what they say of the state.
use mathlib.Core.Path.{◌≡◌, refl, sym, ap, ◌∙◌}
use mathlib.Core.Bool.{Bool, true, false, not, ◌&&◌, ◌||◌}
use mathlib.Core.List.{List}
use Prim.Native.Nat.{ℕ, ◌+◌, ◌^◌, ◌<◌, ◌≤◌}
use native.Mathlib.Omega.{arith}
use lib.ListN.{length, get_or}
use lib.Dec.{eqb, leb, ltb}
use borrow.Author.Tests.{eq-eqb, ne_eqb, eqb-true, leb-true, le-leb, lt-ltb, ltb-true}
use Rattle.laws.specs.Fin.{allb}
use Rattle.laws.proofs.Fin.{allb_in, allb_out, and_l, and_r, and_in, or_in, allb_ext, true_false}
use Rattle.laws.proofs.Tab.{get_or_tab}
use Rattle.seats.specs.Seats.{has}
use Rattle.rules.specs.State.{stored_at}
use Rattle.rules.specs.Bounds.{SlotCapped, Capped, low}
use Rattle.records.specs.Numbers.{within}
use Rattle.rules.specs.Refusals.{slot_within, well_formed}
use Rattle.row.specs.Row.{own_place, mode_place, present_place, start_place, number_place, view_place, starts_place}
use Rattle.row.specs.Row.{accepted_place, used_place, numbers_place, row_length, sixteen_words, slot_of, state_of, Row}
use Rattle.row.specs.Row.{is_row, sound_row, presence, low_at, stored_low, capped_row, NoneAbove}
use Rattle.row.proofs.Parts.{row_stored}
use Rattle.row.proofs.Presence.{has_presence}

-- the tests of a row
pub row_not : (ws : List ℕ) → (length ws ≡ row_length → ⊥) → is_row ws ≡ false
unfolding is_row
row_not ws n = rw (ne_eqb (length ws) row_length n)

pub row_tests : (ws : List ℕ) → length ws ≡ row_length → is_row ws
    ≡ leb (get_or ws mode_place 0) 2 && ltb (get_or ws present_place 0) (2 ^ 16)
unfolding is_row
row_tests ws e = rw (eq-eqb (length ws) row_length e)

pub row_is : (ws : List ℕ) → is_row ws ≡ true → Row ws
unfolding is_row
row_is ws e =
    let n = eqb (length ws) row_length in
    let m = leb (get_or ws mode_place 0) 2 in
    let f = ltb (get_or ws present_place 0) (2 ^ 16) in
    let head = and_l (n && m) f e in
    record {
      long = eqb-true (length ws) row_length (and_l n m head);
      present = ltb-true (get_or ws present_place 0) (2 ^ 16) (and_r (n && m) f e);
      mode = leb-true (get_or ws mode_place 0) 2 (and_r n m head);
    }

-- check 2 of the state that it holds, by its words
pub not_sound : (ws : List ℕ) → is_row ws ≡ false → sound_row ws ≡ false
unfolding sound_row
not_sound ws e = rw e

sixteen_within : (ws : List ℕ) (k : ℕ)
    → allb 16 (λ o. within (get_or ws (k + o) 0)) ≡ allb 16 (λ o. within (get_or (sixteen_words ws k) o 0))
sixteen_within ws k =
    allb_ext 16 (λ o. within (get_or ws (k + o) 0)) (λ o. within (get_or (sixteen_words ws k) o 0))
    (λ o h. ap within (sym (get_or_tab 16 (λ j. get_or ws (k + j) 0) o 0 h)))

pub slot_words_lem : (ws : List ℕ) (o : ℕ) → o < 16
    → slot_within (stored_at (state_of ws) o) ≡ not (stored_at (state_of ws) o).present
    || (within (get_or ws (numbers_place o) 0) && within (get_or ws (numbers_place o + 1) 0)
    && allb 16 (λ k. within (get_or ws (numbers_place o + 2 + k) 0)))
unfolding slot_within slot_of
slot_words_lem ws o lt = rw (row_stored ws o lt, sixteen_within ws (numbers_place o + 2))

pub well_words : (ws : List ℕ)
    → well_formed (state_of ws) ≡ leb (get_or ws own_place 0) 15 && within (get_or ws view_place 0)
    && within (get_or ws start_place 0) && within (get_or ws number_place 0)
    && allb 16 (λ k. within (get_or ws (starts_place + k) 0))
    && allb 16 (λ k. within (get_or ws (accepted_place + k) 0))
    && allb 16 (λ k. within (get_or ws (used_place + k) 0)) && allb 16 (λ o. slot_within (stored_at (state_of ws) o))
unfolding well_formed state_of
well_words ws = rw (sixteen_within ws starts_place, sixteen_within ws accepted_place, sixteen_within ws used_place)

pub sound_words : (ws : List ℕ) → is_row ws ≡ true → sound_row ws ≡ well_formed (state_of ws)
unfolding sound_row
sound_words ws e = rw e

-- what the tests say
pub sound_row_lem : (ws : List ℕ) → sound_row ws ≡ true → Row ws
unfolding sound_row
sound_row_lem ws e = row_is ws (and_l (is_row ws) (well_formed (state_of ws)) e)

pub sound_well : (ws : List ℕ) → sound_row ws ≡ true → well_formed (state_of ws) ≡ true
unfolding sound_row
sound_well ws e = and_r (is_row ws) (well_formed (state_of ws)) e

low_of : (t l : Bool) → not t || l ≡ true → t ≡ true → l ≡ true
low_of true l e p = e
low_of false l e p = absurd (true_false false p refl)

capped_at : (ws : List ℕ) (o : ℕ) → o < 16 → not (has (presence (state_of ws)) o) || low_at ws o ≡ true
    → SlotCapped low low (stored_at (state_of ws) o)
unfolding slot_of low_at
capped_at ws o h e =
    let l : (stored_at (state_of ws) o).present ≡ true → low_at ws o ≡ true =
    λ p. low_of (has (presence (state_of ws)) o) (low_at ws o) e (has_presence (state_of ws) o h ∙ p) in
    let a = leb (get_or ws (numbers_place o) 0) low in
    let b = leb (get_or ws (numbers_place o + 1) 0) low in
    record {
      start = λ p. rw (row_stored ws o h) (leb-true _ low (and_l a b (l p)));
      number = λ p. rw (row_stored ws o h) (leb-true _ low (and_r a b (l p)));
    }

-- the numbers that an event builds on are low
pub capped_is : (ws : List ℕ) → capped_row ws ≡ true → Capped low low (state_of ws)
unfolding capped_row state_of slot_of low_at
capped_is ws e =
    let a = leb (get_or ws start_place 0) low in
    let b = leb (get_or ws number_place 0) low in
    let v = leb (get_or ws view_place 0) low in
    let f : ℕ → Bool = λ o. not (has (presence (state_of ws)) o) || low_at ws o in
    let x = and_l (a && b && v) (allb 16 f) e in
    let all = and_r (a && b && v) (allb 16 f) e in
    record {
      view = leb-true _ low (and_r (a && b) v x);
      start = leb-true _ low (and_l a b (and_l (a && b) v x));
      number = leb-true _ low (and_r a b (and_l (a && b) v x));
      stored = λ o h. capped_at ws o h (allb_out 16 f all o h);
    }

-- no number is above the digits of all, and these are low
pub digits_low : (ws : List ℕ) (all : ℕ) → all ≤ low
    → NoneAbove all 16 ws → stored_low ws ≡ true
unfolding low_at
digits_low ws all l h =
    allb_in 16 _ (λ o m. or_in (not (has (presence (state_of ws)) o)) _ (and_in _ _
    (le-leb (get_or ws (numbers_place o) 0) low (omega (arith, (h o m).0)))
    (le-leb (get_or ws (numbers_place o + 1) 0) low (omega (arith, (h o m).1)))))

-- a row passes the test for one
pub is_row_lem : (ws : List ℕ) → Row ws → is_row ws ≡ true
unfolding is_row
is_row_lem ws r =
    and_in _ _ (and_in _ _ (eq-eqb (length ws) row_length r.long) (le-leb _ _ r.mode))
    (lt-ltb _ _ r.present)
