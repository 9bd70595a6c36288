-- For readers, slots and checks: the presence word, a bit for each office.
use mathlib.Core.Path.{◌≡◌, sym, ap, ◌∙◌}
use mathlib.Core.Bool.{Bool, true, false, not, ◌&&◌, ◌||◌, or-true, or-false, and-true, and-false}
use mathlib.Core.List.{List}
use Prim.Native.Nat.{ℕ, ◌-◌, ◌*◌, ◌/◌, ◌%◌, ◌^◌, ◌<◌}
use native.Mathlib.Omega.{arith}
use native.Mathlib.Decide.{dec_lt}
use native.Mathlib.Nat.{one-mul, mod-eq_of_lt}
use lib.ListN.{get_or}
use lib.Dec.{eqb}
use lib.Pow.{pow-lt}
use lib.Bits.{bit_or, bit_and, and_mask, or_lt, and_le_l}
use Rattle.laws.proofs.Bit.{bit_shr}
use Rattle.laws.specs.Upd.{ifb}
use Rattle.seats.specs.Seats.{has, union_of}
use Rattle.seats.specs.Offices.{packed}
use Rattle.seats.proofs.Laws.{has_union, has_and, has_not, has_one, has_high, same_seats}
use Rattle.seats.proofs.OfficeLaws.{packed_lt, has_packed, packed_same}
use Rattle.rules.specs.State.{Slot, State, stored_at}
use Rattle.row.specs.Row.{present_place, slot_of, state_of, presence, Row}
use Rattle.row.proofs.Parts.{row_stored}

-- a word of sixteen bits is what its bits make
packed_bits : (w : ℕ) → w < 2 ^ 16 → packed 16 (has w) ≡ w
packed_bits w h =
    let l = packed_lt 16 (has w) in
    same_seats (packed 16 (has w)) w (omega arith) (omega arith) (λ s t. go s (dec_lt s 16))
  where
    go : (s : ℕ) → Dec (s < 16) → has (packed 16 (has w)) s ≡ has w s
    go s (yes l) = has_packed 16 (has w) s l
    go s (no n) = has_high 16 (packed 16 (has w)) s (packed_lt 16 (has w)) (omega arith)
        ∙ sym (has_high 16 w s h (omega arith))

pub row_present : (ws : List ℕ) (o : ℕ) → o < 16
    → (stored_at (state_of ws) o).present ≡ has (get_or ws present_place 0) o
unfolding slot_of
row_present ws o h = ap (λ (v : Slot). v.present) (row_stored ws o h)

pub row_presence : (ws : List ℕ) → Row ws → get_or ws present_place 0 ≡ presence (state_of ws)
row_presence ws r =
    sym (packed_same 16 _ (has (get_or ws present_place 0)) (λ o h. row_present ws o h)
    ∙ packed_bits (get_or ws present_place 0) r.present)

-- which bits it has
pub has_presence : (s : State) (o : ℕ) → o < 16 → has (presence s) o ≡ (stored_at s o).present
has_presence s o h = has_packed 16 (λ k. (stored_at s k).present) o h

pub presence_lt : (s : State) → presence s < 2 ^ 16
presence_lt s = packed_lt 16 (λ k. (stored_at s k).present)

-- one bit of it, as the code reads and stores it
pub bit_read : (w o : ℕ) → eqb (bit_and (w / 2 ^ o) 1) 1 ≡ has w o
unfolding has
bit_read w o = rw (bit_shr o w, and_mask (w / 2 ^ o) 1)

one_bit : (o : ℕ) → o < 16 → 1 * 2 ^ o % 2 ^ 32 ≡ 2 ^ o
one_bit o h = rw one-mul (mod-eq_of_lt (pow-lt {i = o} {j = 32} (omega arith)))

-- the bits where o's becomes b
abbrev pub Flagged : ℕ → ℕ → Bool → ℕ → Type 0
Flagged w o b w' = (w' < 2 ^ 16) × ((k : ℕ) → k < 16 → has w' k ≡ ifb (eqb k o) b (has w k))

module _ (w o : ℕ) (h : w < 2 ^ 16) (lt : o < 16) where
  pub bit_set : Flagged w o true (bit_or w (1 * 2 ^ o % 2 ^ 32))
  unfolding union_of
  bit_set = rw (one_bit o lt) (or_lt 16 w (2 ^ o) h (pow-lt lt), λ k l. at k)
    where
      pick : (a t : Bool) → a || t ≡ ifb t true a
      pick a true = or-true a
      pick a false = or-false a

      at : (k : ℕ) → has (bit_or w (2 ^ o)) k ≡ ifb (eqb k o) true (has w k)
      at k = has_union w (2 ^ o) k ∙ ap (λ (t : Bool). has w k || t) (has_one o k) ∙ pick (has w k) (eqb k o)

  pub bit_cleared : Flagged w o false (bit_and w (2 ^ 32 - 1 - 1 * 2 ^ o % 2 ^ 32))
  bit_cleared = rw (one_bit o lt) (let l = and_le_l w (2 ^ 32 - 1 - 2 ^ o) in omega arith, λ k l. at k l)
    where
      pick : (a t : Bool) → a && not t ≡ ifb t false a
      pick a true = and-false a
      pick a false = and-true a

      at : (k : ℕ) → k < 16 → has (bit_and w (2 ^ 32 - 1 - 2 ^ o)) k ≡ ifb (eqb k o) false (has w k)
      at k l =
          has_and w (2 ^ 32 - 1 - 2 ^ o) k
          ∙ ap (λ (t : Bool). has w k && t) (has_not 32 (2 ^ o) k (omega arith) (pow-lt {i = o} {j = 32} (omega arith))
          ∙ ap not (has_one o k)) ∙ pick (has w k) (eqb k o)
