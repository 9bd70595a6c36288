-- Each number from 1 to 13, and 19 and 20, is met: by the inputs of `refusals`, and on days D, H and K of document 01.
use mathlib.Core.Path.{◌≡◌, ap}
use mathlib.Core.List.{List, [], ◌∷◌}
use Prim.Native.Nat.{ℕ}
use lib.ListN.{get_or}
use Rattle.laws.specs.Lists.{Every, none, more}
use Rattle.rules.specs.State.{State}
use Rattle.rules.specs.Refusals.{full_room, step_of}
use Rattle.rules.specs.Days.{Day, given, computed, stated, refusals, reasons}
use Rattle.rules.proofs.Days.{days, each_reason}
use Rattle.claims.specs.Demand1.{Met}

by_step : (office : ℕ) (s : State) (b : List ℕ) (output : ℕ) {n : ℕ} → (step_of office s b output).refusal ≡ n → Met n
by_step office s b output e = (office, s, b, output, e)

by_given : (s : State) (b : List ℕ) {n : ℕ} → (given s b).refusal ≡ n → Met n
unfolding given
by_given s b e = (s.own, s, b, full_room, e)

input : (k : ℕ) → get_or refusals k 0 ≡ get_or reasons k 0
input k = ap (λ (l : List ℕ). get_or l k 0) each_reason

day : (k : ℕ) (d : Day) → (get_or computed k d).refusal ≡ (get_or stated k d).refusal
day k d = ap (λ (l : List Day). (get_or l k d).refusal) days

pub each_met : Every Met (1 ∷ 2 ∷ 3 ∷ 4 ∷ 5 ∷ 6 ∷ 7 ∷ 8 ∷ 9 ∷ 10 ∷ 11 ∷ 12 ∷ 13 ∷ 19 ∷ 20 ∷ [])
unfolding refusals reasons computed stated
each_met =
    more (by_given _ _ (input 0)) (more (by_given _ _ (input 1)) (more (by_step _ _ _ _ (input 2))
    (more (by_given _ _ (input 3)) (more (by_given _ _ (input 5)) (more (by_given _ _ (input 11))
    (more (by_given _ _ (input 13)) (more (by_given _ _ (input 15)) (more (by_given _ _ (input 19))
    (more (by_given _ _ (input 21)) (more (by_given _ _ (day 3 none_seen)) (more (by_given _ _ (day 7 none_seen))
    (more (by_given _ _ (day 13 none_seen)) (more (by_given _ _ (input 22))
    (more (by_given _ _ (input 7)) none))))))))))))))
  where
    none_seen : Day
    none_seen = record { refusal = 0; bytes = 0; written = []; view = 0 }
