-- For checks: check 2 by its stretches of numbers, those before the stored proposals and those of each.
use mathlib.Core.Path.{◌≡◌, refl, ap, ◌∙◌}
use mathlib.Core.Bool.{Bool, true, false, not, ◌&&◌, ◌||◌}
use mathlib.Core.List.{List}
use Prim.Native.Nat.{ℕ, zero, suc, ◌+◌, ◌<◌}
use native.Mathlib.Omega.{arith}
use lib.ListN.{get_or}
use lib.Dec.{leb}
use borrow.Author.Tests.{le-leb}
use Rattle.std.proofs.lemmas.Bool.Decides.{nat_tests}
use Rattle.laws.specs.Fin.{allb}
use Rattle.laws.proofs.Fin.{allb_ext}
use Rattle.rules.specs.State.{stored_at}
use Rattle.records.specs.Numbers.{within}
use Rattle.rules.specs.Refusals.{slot_within, well_formed}
use Rattle.row.specs.Row.{own_place, start_place, number_place, view_place, starts_place, accepted_place, used_place}
use Rattle.row.specs.Row.{stored_length, numbers_place, own_numbers, state_of}
use Rattle.row.proofs.Low.{slot_words_lem, well_words}

-- a stretch in two
split : (m n : ℕ) (p : ℕ → Bool) → allb (m + n) p ≡ allb m p && allb n (λ k. p (m + k))
unfolding allb
split m zero p = let e : m + zero ≡ m = omega arith in rw e (last (allb m p))
  where
    last : (a : Bool) → a ≡ a && true
    last true = refl
    last false = refl
split m (suc n) p =
    let e : m + suc n ≡ suc (m + n) = omega arith in
    rw (e, split m n p) (swap (p (m + n)) (allb m p) (allb n (λ k. p (m + k))))
  where
    swap : (a b c : Bool) → a && (b && c) ≡ b && (a && c)
    swap true b c = refl
    swap false true c = refl
    swap false false c = refl

module _ (ws : List ℕ) where
  -- whether n numbers from a place on are at most L
  abbrev stretch : ℕ → ℕ → Bool
  stretch at n = allb n (λ k. within (get_or ws (at + k) 0))

  two : (at m n : ℕ) → stretch at (m + n) ≡ stretch at m && stretch (at + m) n
  two at m n =
      split m n (λ k. within (get_or ws (at + k) 0)) ∙ ap (λ (b : Bool). stretch at m && b)
      (allb_ext n _ _ (λ k h. let e : at + (m + k) ≡ at + m + k = omega arith in
      ap (λ (i : ℕ). within (get_or ws i 0)) e))

  pair : (at : ℕ) → stretch at 2 ≡ within (get_or ws at 0) && within (get_or ws (at + 1) 0)
  unfolding allb
  pair at = let e : at + 0 ≡ at = omega arith in rw e (go (within (get_or ws (at + 1) 0)) (within (get_or ws at 0)))
    where
      go : (a b : Bool) → a && (b && true) ≡ b && a
      go true true = refl
      go true false = refl
      go false true = refl
      go false false = refl

  pub slot_stretch : (o : ℕ) → o < 16
      → slot_within (stored_at (state_of ws) o) ≡ not (stored_at (state_of ws) o).present
      || allb stored_length (λ k. within (get_or ws (numbers_place o + k) 0))
  slot_stretch o lt = rw (slot_words_lem ws o lt, two (numbers_place o) 2 16, pair (numbers_place o))

  pub well-stretch
      : well_formed (state_of ws) ≡ leb (get_or ws own_place 0) 15
      && allb own_numbers (λ k. within (get_or ws (start_place + k) 0))
      && allb 16 (λ o. slot_within (stored_at (state_of ws) o))
  unfolding allb
  well-stretch =
      rw (well_words ws, two start_place 3 48, two starts_place 16 32, two accepted_place 16 16)
      (go (leb (get_or ws own_place 0) 15) (within (get_or ws view_place 0)) (within (get_or ws start_place 0))
      (within (get_or ws number_place 0))
      (stretch starts_place 16) (stretch accepted_place 16) (stretch used_place 16)
      (allb 16 (λ o. slot_within (stored_at (state_of ws) o))))
    where
      go : (o v s n a b c t : Bool)
          → o && v && s && n && a && b && c && t ≡ o && ((v && (n && (s && true))) && (a && (b && c))) && t
      go true true true true true b c t = refl
      go true true true true false b c t = refl
      go true true true false a b c t = refl
      go true true false true a b c t = refl
      go true true false false a b c t = refl
      go true false s n a b c t = refl
      go false v s n a b c t = refl

-- of an office that there is, and of one that there is not
pub own_stretch : (ws : List ℕ) → (state_of ws).own < 16
    → allb own_numbers (λ k. within (get_or ws (start_place + k) 0))
    && allb 16 (λ o. slot_within (stored_at (state_of ws) o))
    ≡ well_formed (state_of ws)
unfolding state_of
own_stretch ws h = rw (well-stretch ws, le-leb (get_or ws own_place 0) 15 (omega arith))

pub no_office : (ws : List ℕ) → 15 < get_or ws own_place 0 → well_formed (state_of ws) ≡ false
no_office ws h = rw (well-stretch ws) (grind (arith, nat_tests))
