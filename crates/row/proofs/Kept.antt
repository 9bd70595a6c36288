-- For changes and slots: which parts of a row a run of stores leaves as they were.
use mathlib.Core.Path.{◌≡◌, ap, ◌∙◌}
use mathlib.Core.Bool.{Bool, true, ◌&&◌, ◌||◌}
use mathlib.Core.Logic.{◌⊎◌, inl, inr}
use mathlib.Core.List.{List}
use Prim.Native.Nat.{ℕ, ◌+◌, ◌*◌, ◌<◌, ◌≤◌, ◌^◌}
use native.Mathlib.Omega.{arith}
use lib.ListN.{length, get_or}
use lib.Seq.{sets, length-sets}
use lib.Dec.{leb}
use borrow.Author.Tests.{leb-true}
use Rattle.laws.proofs.Fin.{and_l, and_r, or_cases}
use Rattle.laws.specs.Tab.{tab}
use Rattle.laws.proofs.Tab.{tab_ext}
use Rattle.laws.proofs.Seqs.{get_or_sets_at, get_or_sets_out}
use Rattle.row.specs.Row.{own_place, mode_place, net_place, members_place, present_place, slot_length, slot_place}
use Rattle.row.specs.Row.{start_place, number_place, view_place, starts_place, accepted_place, used_place}
use Rattle.row.specs.Row.{stored_length}
use Rattle.row.specs.Row.{numbers_place, set_at, mode_of, sixteen_words, slot_of, Row}
use Rattle.seats.specs.Seats.{has}
use Rattle.rules.specs.State.{Slot}
use Rattle.row.proofs.Parts.{view_at}

-- a slot by its two parts
pub slot_same : (v w : Slot) → v.present ≡ w.present → v.proposal ≡ w.proposal → v ≡ w
slot_same v w p q = let e : record { present = v.present; proposal = v.proposal } ≡ w = rw (p, q) in e

-- Two runs of stores, xs from i on and then ys from j on; one store is a run, and a run may be empty.
module _ (ws : List ℕ) (i : ℕ) (xs : List ℕ) (j : ℕ) (ys : List ℕ) where
  abbrev pub stores : List ℕ
  stores = sets (sets ws i xs) j ys

  -- neither meets the n words from k on
  abbrev pub Clear : ℕ → ℕ → Type 0
  Clear k n = (i < k + n → k < i + length xs → ⊥) × (j < k + n → k < j + length ys → ⊥)

  part_clear : (k n l m : ℕ) → Clear k n → k ≤ l → l + m ≤ k + n → Clear l m
  part_clear k n l m h a b = (λ p q. h.0 (omega arith) (omega arith), λ p q. h.1 (omega arith) (omega arith))

  pub word_kept : (k : ℕ) → Clear k 1 → get_or stores k 0 ≡ get_or ws k 0
  word_kept k h =
      get_or_sets_out ys (sets ws i xs) j k 0 (λ a b. h.1 (omega arith) b)
      ∙ get_or_sets_out xs ws i k 0 (λ a b. h.0 (omega arith) b)

  set_kept : (k : ℕ) → Clear k 2 → set_at stores k ≡ set_at ws k
  unfolding set_at
  set_kept k h =
      rw (
        word_kept k (part_clear k 2 k 1 h (omega arith) (omega arith)),
        word_kept (k + 1) (part_clear k 2 (k + 1) 1 h (omega arith) (omega arith)),
      )

  sixteen_kept : (k : ℕ) → Clear k 16 → sixteen_words stores k ≡ sixteen_words ws k
  sixteen_kept k h =
      tab_ext 16 (λ o. get_or stores (k + o) 0) (λ o. get_or ws (k + o) 0)
      (λ o l. word_kept (k + o) (part_clear k 16 (k + o) 1 h (omega arith) (omega arith)))

  pub proposal_kept : (o : ℕ) → Clear (slot_place o) slot_length → Clear (numbers_place o) stored_length
      → (slot_of stores o).proposal ≡ (slot_of ws o).proposal
  unfolding slot_of
  proposal_kept o h g =
      rw (
        word_kept (slot_place o) (part_clear (slot_place o) slot_length (slot_place o) 1 h (omega arith) (omega arith)),
        word_kept (slot_place o + 1)
            (part_clear (slot_place o) slot_length (slot_place o + 1) 1 h (omega arith) (omega arith)),
        set_kept (slot_place o + 2)
            (part_clear (slot_place o) slot_length (slot_place o + 2) 2 h (omega arith) (omega arith)),
        word_kept (numbers_place o)
            (part_clear (numbers_place o) stored_length (numbers_place o) 1 g (omega arith) (omega arith)),
        word_kept (numbers_place o + 1)
            (part_clear (numbers_place o) stored_length (numbers_place o + 1) 1 g (omega arith) (omega arith)),
        sixteen_kept (numbers_place o + 2)
            (part_clear (numbers_place o) stored_length (numbers_place o + 2) 16 g (omega arith) (omega arith)),
      )

  present_kept : (o : ℕ) → Clear present_place 1 → (slot_of stores o).present ≡ (slot_of ws o).present
  unfolding slot_of
  present_kept o h = ap (λ (w : ℕ). has w o) (word_kept present_place h)

  pub slot_kept : (o : ℕ) → Clear present_place 1 → Clear (slot_place o) slot_length
      → Clear (numbers_place o) stored_length
      → slot_of stores o ≡ slot_of ws o
  slot_kept o p h g = slot_same (slot_of stores o) (slot_of ws o) (present_kept o p) (proposal_kept o h g)

  slots_kept : Clear present_place (1 + slot_length * 16) → Clear (numbers_place 0) (stored_length * 16)
      → tab 16 (slot_of stores) ≡ tab 16 (slot_of ws)
  slots_kept h g =
      tab_ext 16 (slot_of stores) (slot_of ws)
      (λ o l. slot_kept o
      (part_clear present_place (1 + slot_length * 16) present_place 1 h (omega arith) (omega arith))
      (part_clear present_place (1 + slot_length * 16) (slot_place o) slot_length h (omega arith) (omega arith))
      (part_clear (numbers_place 0) (stored_length * 16) (numbers_place o) stored_length g (omega arith) (omega arith)))

  view_kept : Clear members_place 2 → Clear view_place 17 → view_at stores ≡ view_at ws
  view_kept h g =
      rw (
        set_kept members_place h,
        word_kept view_place (part_clear view_place 17 view_place 1 g (omega arith) (omega arith)),
        sixteen_kept starts_place (part_clear view_place 17 starts_place 16 g (omega arith) (omega arith)),
      )

  pub stores_long : length stores ≡ length ws
  stores_long = length-sets (sets ws i xs) j ys ∙ length-sets ws i xs

  -- in the first run, and in the second
  pub in_first : (p k : ℕ) → p ≡ i + k → k < length xs → i + length xs ≤ length ws → (j ≤ p → p < j + length ys → ⊥)
      → get_or stores p 0 ≡ get_or xs k 0
  in_first p k e l z h = get_or_sets_out ys (sets ws i xs) j p 0 h ∙ rw e (get_or_sets_at xs ws i k 0 l z)

  pub in_second : (p k : ℕ) → p ≡ j + k → k < length ys → j + length ys ≤ length ws → get_or stores p 0 ≡ get_or ys k 0
  in_second p k e l z = let n = length-sets ws i xs in rw e (get_or_sets_at ys (sets ws i xs) j k 0 l (omega arith))

  -- The parts that are kept where the stores fall into the places from lo to hi and from lo₂ to hi₂: each by a test
  -- on these.
  pub record Kept (free : ℕ → ℕ → Bool) : Type 0 where
    pub own : free own_place 1 ≡ true → get_or stores own_place 0 ≡ get_or ws own_place 0
    pub mode : free mode_place 1 ≡ true → mode_of (get_or stores mode_place 0) ≡ mode_of (get_or ws mode_place 0)
    pub net : free net_place 2 ≡ true → set_at stores net_place ≡ set_at ws net_place
    pub stored : free present_place (1 + slot_length * 16) && free (numbers_place 0) (stored_length * 16) ≡ true
        → tab 16 (slot_of stores) ≡ tab 16 (slot_of ws)
    pub accepted : free accepted_place 16 ≡ true → sixteen_words stores accepted_place ≡ sixteen_words ws accepted_place
    pub view : free members_place 2 && free view_place 17 ≡ true → view_at stores ≡ view_at ws
    pub start : free start_place 1 ≡ true → get_or stores start_place 0 ≡ get_or ws start_place 0
    pub number : free number_place 1 ≡ true → get_or stores number_place 0 ≡ get_or ws number_place 0
    pub used : free used_place 16 ≡ true → sixteen_words stores used_place ≡ sixteen_words ws used_place
    pub mode_word : free mode_place 1 ≡ true → Row ws → get_or stores mode_place 0 ≤ 2
    pub present : free present_place 1 ≡ true → Row ws → get_or stores present_place 0 < 2 ^ 16

  abbrev pub apart : ℕ → ℕ → ℕ → ℕ → Bool
  apart lo hi k n = leb hi k || leb (k + n) lo

  pub kept : (lo hi lo₂ hi₂ : ℕ) → lo ≤ i → i + length xs ≤ hi → lo₂ ≤ j → j + length ys ≤ hi₂
      → Kept (λ k n. apart lo hi k n && apart lo₂ hi₂ k n)
  kept lo hi lo₂ hi₂ a b c d = record {
    own = λ t. word_kept own_place (clear own_place 1 t);
    mode = λ t. ap mode_of (word_kept mode_place (clear mode_place 1 t));
    net = λ t. set_kept net_place (clear net_place 2 t);
    stored = λ t. slots_kept
        (clear present_place (1 + slot_length * 16) (and_l _ (free (numbers_place 0) (stored_length * 16)) t))
        (clear (numbers_place 0) (stored_length * 16) (and_r (free present_place (1 + slot_length * 16)) _ t));
    accepted = λ t. sixteen_kept accepted_place (clear accepted_place 16 t);
    view = λ t. view_kept (clear members_place 2 (and_l _ (free view_place 17) t))
        (clear view_place 17 (and_r (free members_place 2) _ t));
    start = λ t. word_kept start_place (clear start_place 1 t);
    number = λ t. word_kept number_place (clear number_place 1 t);
    used = λ t. sixteen_kept used_place (clear used_place 16 t);
    mode_word = λ t r. rw (word_kept mode_place (clear mode_place 1 t)) r.mode;
    present = λ t r. rw (word_kept present_place (clear present_place 1 t)) r.present;
  }
    where
      free : ℕ → ℕ → Bool
      free k n = apart lo hi k n && apart lo₂ hi₂ k n

      side : (lo hi k n p m : ℕ) → apart lo hi k n ≡ true → lo ≤ p → p + m ≤ hi → p < k + n → k < p + m → ⊥
      side lo hi k n p m t x y u v = go (or_cases (leb hi k) (leb (k + n) lo) t)
        where
          go : (leb hi k ≡ true) ⊎ (leb (k + n) lo ≡ true) → ⊥
          go (inl e) = let w = leb-true hi k e in omega arith
          go (inr e) = let w = leb-true (k + n) lo e in omega arith

      clear : (k n : ℕ) → apart lo hi k n && apart lo₂ hi₂ k n ≡ true → Clear k n
      clear k n t = (
        side lo hi k n i (length xs) (and_l (apart lo hi k n) (apart lo₂ hi₂ k n) t) a b,
        side lo₂ hi₂ k n j (length ys) (and_r (apart lo hi k n) (apart lo₂ hi₂ k n) t) c d,
      )
