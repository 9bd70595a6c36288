-- For readers: the parts of a row, what stands in each, and a part from its words.
use mathlib.Core.Path.{◌≡◌, refl, sym}
use mathlib.Core.List.{List}
use Prim.Native.Nat.{ℕ, zero, suc, ◌+◌, ◌*◌, ◌/◌, ◌%◌, ◌<◌, ◌≤◌}
use native.Mathlib.Omega.{arith}
use lib.ListN.{length, get_or}
use Rattle.laws.specs.Tab.{tab}
use Rattle.laws.proofs.Tab.{get_or_tab, filled}
use Rattle.seats.specs.declared.SeatSet.{SeatSet}
use Rattle.seats.specs.Seats.{has}
use Rattle.records.specs.declared.View.{View}
use Rattle.rules.specs.State.{Mode, None, Fast, Slow, Slot, State, nothing, stored_at, accepted_at, used_at, used_for}
use Rattle.rules.specs.State.{kind_of}
use Rattle.row.specs.Row.{own_place, mode_place, net_place, members_place, present_place, slot_length, slot_place}
use Rattle.row.specs.Row.{number_place, view_place, starts_place, accepted_place, used_place, stored_length}
use Rattle.row.specs.Row.{numbers_place, word, slot_words, slot_numbers, set_at, mode_of, sixteen_words, slot_of}
use Rattle.row.specs.Row.{state_of, start_place}

-- what stands for an office
pub row_accepted : (ws : List ℕ) (o : ℕ) → o < 16 → accepted_at (state_of ws) o ≡ get_or ws (accepted_place + o) 0
unfolding state_of
row_accepted ws o lt = get_or_tab 16 (λ k. get_or ws (accepted_place + k) 0) o 0 lt

pub row_used : (ws : List ℕ) (o : ℕ) → o < 16 → used_at (state_of ws) o ≡ get_or ws (used_place + o) 0
unfolding state_of
row_used ws o lt = get_or_tab 16 (λ k. get_or ws (used_place + k) 0) o 0 lt

pub row_stored : (ws : List ℕ) (o : ℕ) → o < 16 → stored_at (state_of ws) o ≡ slot_of ws o
unfolding state_of
row_stored ws o lt = get_or_tab 16 (slot_of ws) o nothing lt

pub stored_used_is : (ws : List ℕ) (o k : ℕ) → o < 16 → k < 16
    → used_for (stored_at (state_of ws) o).proposal k ≡ get_or ws (numbers_place o + 2 + k) 0
unfolding slot_of
stored_used_is ws o k lt l = rw (row_stored ws o lt) (get_or_tab 16 (λ j. get_or ws (numbers_place o + 2 + j) 0) k 0 l)

-- the mode word
pub mode_word_lem : (n : ℕ) → n ≤ 2 → kind_of (mode_of n) ≡ n
mode_word_lem zero h = refl
mode_word_lem (suc zero) h = refl
mode_word_lem (suc (suc zero)) h = refl
mode_word_lem (suc (suc (suc n))) h = absurd (omega arith)

pub mode_back : (m : Mode) → mode_of (kind_of m) ≡ m
mode_back None = refl
mode_back Fast = refl
mode_back Slow = refl

-- a state by its parts
abbrev pub view_at : List ℕ → View
view_at ws = record {
  number = get_or ws view_place 0;
  members = set_at ws members_place;
  starts = sixteen_words ws starts_place;
}

pub record Parts (ws : List ℕ) (t : State) : Type 0 where
  pub own : get_or ws own_place 0 ≡ t.own
  pub mode : mode_of (get_or ws mode_place 0) ≡ t.mode
  pub net : set_at ws net_place ≡ t.net
  pub stored : tab 16 (slot_of ws) ≡ t.stored
  pub accepted : sixteen_words ws accepted_place ≡ t.accepted
  pub view : view_at ws ≡ t.view
  pub start : get_or ws start_place 0 ≡ t.start
  pub number : get_or ws number_place 0 ≡ t.number
  pub used : sixteen_words ws used_place ≡ t.used

pub by_parts : (ws : List ℕ) (t : State) → Parts ws t → state_of ws ≡ t
unfolding state_of
by_parts ws t p = rw (p.own, p.mode, p.net, p.stored, p.accepted, p.view, p.start, p.number, p.used)

-- a set of seats, from its two words
pub set_read : (ws : List ℕ) (k : ℕ) (x : SeatSet) → get_or ws k 0 ≡ x.bits % word → get_or ws (k + 1) 0 ≡ x.bits / word
    → set_at ws k ≡ x
unfolding set_at
set_read ws k x a b = let e : get_or ws k 0 + word * get_or ws (k + 1) 0 ≡ x.bits = omega arith in rw e

-- sixteen numbers, from their words
pub sixteen_read : (ws : List ℕ) (k : ℕ) (l : List ℕ) → length l ≡ 16
    → ((j : ℕ) → j < 16 → get_or ws (k + j) 0 ≡ get_or l j 0) → sixteen_words ws k ≡ l
sixteen_read ws k l e h = sym (filled 16 (λ j. get_or ws (k + j) 0) 0 l e (λ j m. sym (h j m)))

-- a slot, from whether it is present, its words and its numbers
pub slot_read : (ws : List ℕ) (o : ℕ) (v : Slot) → length v.proposal.used ≡ 16
    → has (get_or ws present_place 0) o ≡ v.present
    → ((p k : ℕ) → p ≡ slot_place o + k → k < slot_length → get_or ws p 0 ≡ get_or (slot_words v) k 0)
    → ((p k : ℕ) → p ≡ numbers_place o + k → k < stored_length → get_or ws p 0 ≡ get_or (slot_numbers v) k 0)
    → slot_of ws o ≡ v
unfolding slot_of
slot_read ws o v n e f g =
    rw (
      e,
      f (slot_place o) 0 (omega arith) (omega arith),
      f (slot_place o + 1) 1 (omega arith) (omega arith),
      set_read ws (slot_place o + 2) v.proposal.members (f (slot_place o + 2) 2 (omega arith) (omega arith))
          (f (slot_place o + 2 + 1) 3 (omega arith) (omega arith)),
      g (numbers_place o) 0 (omega arith) (omega arith),
      g (numbers_place o + 1) 1 (omega arith) (omega arith),
      sixteen_read ws (numbers_place o + 2) v.proposal.used n
          (λ j h. g (numbers_place o + 2 + j) (suc (suc j)) (omega arith) (omega arith)),
    )
