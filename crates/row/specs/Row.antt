-- A state as a row of 410 words of 32 bits, and back. A set of seats is two words, the low one first.
--   0 own office, 1 mode (0 none, 1 fast, 2 slow), 2-3 net view, 4-5 members of the current view,
--   6 the offices for which a proposal is stored, bit o for office o,
--   7 + 4o for office o: sender, kind, members (2 words) of its stored proposal;
--   then all numbers: 71 start number, 72 proposal number, 73 view number, 74-89 the view's start numbers,
--   90-105 last accepted, 106-121 used numbers,
--   122 + 18o for office o: start number, proposal number, sixteen used numbers of its stored proposal.
use Rattle.std.specs.Prelude.{◌≡◌, Bool, ◌&&◌, List, [], ◌∷◌, ◌++◌, ℕ, zero, suc, ◌+◌, ◌-◌, ◌*◌, ◌<◌, ◌≤◌, ◌/◌, ◌%◌}
use Rattle.std.specs.Prelude.{◌^◌, length, get_or, eqb, leb, ltb}
use Rattle.laws.specs.Tab.{tab}
use Rattle.seats.specs.declared.SeatSet.{SeatSet}
use Rattle.seats.specs.Seats.{has}
use Rattle.seats.specs.Offices.{packed, every_office}
use Rattle.rules.specs.State.{Mode, None, Fast, Slow, Slot, State, kind_of, stored_at}
use Rattle.rules.specs.Refusals.{well_formed}
use Rattle.rules.specs.Bounds.{low}

abbrev pub word : ℕ
word = 4294967296

abbrev pub set_length : ℕ
set_length = 2

-- the places, each behind the one before
abbrev pub own_place : ℕ
own_place = 0

abbrev pub mode_place : ℕ
mode_place = own_place + 1

abbrev pub net_place : ℕ
net_place = mode_place + 1

abbrev pub members_place : ℕ
members_place = net_place + set_length

abbrev pub present_place : ℕ
present_place = members_place + set_length

-- of a stored proposal: sender, kind, members
abbrev pub slot_length : ℕ
slot_length = 2 + set_length

abbrev pub slot_place : ℕ → ℕ
slot_place o = present_place + 1 + slot_length * o

abbrev pub start_place : ℕ
start_place = slot_place 16

abbrev pub number_place : ℕ
number_place = start_place + 1

abbrev pub view_place : ℕ
view_place = number_place + 1

abbrev pub starts_place : ℕ
starts_place = view_place + 1

abbrev pub accepted_place : ℕ
accepted_place = starts_place + 16

abbrev pub used_place : ℕ
used_place = accepted_place + 16

-- of a stored proposal: start number, proposal number, sixteen used numbers
abbrev pub stored_length : ℕ
stored_length = 2 + 16

abbrev pub numbers_place : ℕ → ℕ
numbers_place o = used_place + 16 + stored_length * o

abbrev pub row_length : ℕ
row_length = numbers_place 16

-- the numbers stand side by side: how many before those of what is stored
abbrev pub own_numbers : ℕ
own_numbers = numbers_place 0 - start_place

-- reading
unfoldable pub set_at : List ℕ → ℕ → SeatSet
set_at ws k = record { bits = get_or ws k 0 + word * get_or ws (k + 1) 0 }

abbrev pub mode_of : ℕ → Mode
mode_of zero = None
mode_of (suc zero) = Fast
mode_of (suc (suc n)) = Slow

abbrev pub sixteen_words : List ℕ → ℕ → List ℕ
sixteen_words ws k = tab 16 (λ o. get_or ws (k + o) 0)

unfoldable pub slot_of : List ℕ → ℕ → Slot
slot_of ws o =
    record {
      present = has (get_or ws present_place 0) o;
      proposal =
          record {
            sender = get_or ws (slot_place o) 0;
            kind = get_or ws (slot_place o + 1) 0;
            members = set_at ws (slot_place o + 2);
            start = get_or ws (numbers_place o) 0;
            number = get_or ws (numbers_place o + 1) 0;
            used = sixteen_words ws (numbers_place o + 2);
          };
    }

unfoldable pub state_of : List ℕ → State
state_of ws =
    record {
      own = get_or ws own_place 0;
      mode = mode_of (get_or ws mode_place 0);
      net = set_at ws net_place;
      stored = tab 16 (slot_of ws);
      accepted = sixteen_words ws accepted_place;
      view = record {
        number = get_or ws view_place 0;
        members = set_at ws members_place;
        starts = sixteen_words ws starts_place;
      };
      start = get_or ws start_place 0;
      number = get_or ws number_place 0;
      used = sixteen_words ws used_place;
    }

-- writing
-- the offices for which a proposal is stored
abbrev pub presence : State → ℕ
presence s = packed 16 (λ o. (stored_at s o).present)

abbrev pub set_words : SeatSet → List ℕ
set_words x = x.bits % word ∷ x.bits / word ∷ []

abbrev pub slot_words : Slot → List ℕ
slot_words v = v.proposal.sender ∷ v.proposal.kind ∷ set_words v.proposal.members

abbrev pub slot_numbers : Slot → List ℕ
slot_numbers v = v.proposal.start ∷ v.proposal.number ∷ v.proposal.used

module _ {A : Type 0} where
  abbrev pub each : (A → List ℕ) → List A → List ℕ
  each f [] = []
  each f (x ∷ l) = f x ++ each f l

unfoldable pub words_of : State → List ℕ
words_of s =
    s.own ∷ kind_of s.mode ∷ (set_words s.net ++ (set_words s.view.members ++ (presence s
    ∷ (each slot_words s.stored ++ (s.start ∷ s.number ∷ s.view.number
    ∷ (s.view.starts ++ (s.accepted ++ (s.used ++ each slot_numbers s.stored))))))))

-- a row: its length, a presence word of sixteen bits, a mode word of 0 to 2
pub record Row (ws : List ℕ) : Type 0 where
  pub long : length ws ≡ row_length
  pub present : get_or ws present_place 0 < 2 ^ 16
  pub mode : get_or ws mode_place 0 ≤ 2

unfoldable pub is_row : List ℕ → Bool
is_row ws = eqb (length ws) row_length && leb (get_or ws mode_place 0) 2 && ltb (get_or ws present_place 0) (2 ^ 16)

-- of what is stored for office o, start and proposal number are so low that an event makes none above L of them
unfoldable pub low_at : List ℕ → ℕ → Bool
low_at ws o = leb (get_or ws (numbers_place o) 0) low && leb (get_or ws (numbers_place o + 1) 0) low

-- and so of every office for which something is stored
abbrev pub stored_low : List ℕ → Bool
stored_low ws = every_office (presence (state_of ws)) (low_at ws)

-- and so of the own start number and proposal number and of the view number: of all that an event builds on
unfoldable pub capped_row : List ℕ → Bool
capped_row ws =
    leb (get_or ws start_place 0) low && leb (get_or ws number_place 0) low && leb (get_or ws view_place 0) low
    && stored_low ws

-- no start or proposal number of the first n slots is above a number
abbrev pub NoneAbove : ℕ → ℕ → List ℕ → Type 0
NoneAbove b n ws = (o : ℕ) → o < n → (get_or ws (numbers_place o) 0 ≤ b) × (get_or ws (numbers_place o + 1) 0 ≤ b)

-- a row whose state passes check 2
unfoldable pub sound_row : List ℕ → Bool
sound_row ws = is_row ws && well_formed (state_of ws)
