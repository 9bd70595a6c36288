-- Runs of one office that may be cut off, beside a companion that is told what leaves: what every answer keeps, and
-- what every restart gives, holds after every run.
use mathlib.Core.List.{List, [], ◌∷◌, ◌++◌}
use Prim.Native.Nat.{ℕ, ◌≤◌}
use lib.ListN.{take}
use Rattle.laws.specs.Lists.{Every, none, more}
use Rattle.laws.proofs.Lists.{every_split}
use Rattle.records.specs.Numbers.{limit}
use Rattle.rules.specs.State.{State}
use Rattle.rules.specs.Rules.{Written, restarted}
use Rattle.rules.specs.Leaving.{own_number}
use Rattle.runs.specs.Office.{Input, answer_to, next_state, Turn, entire, broken, handed_at, left_at, next_turn}
use Rattle.runs.specs.Office.{left_over, TurnAbove, TurnsAbove, no_turn, a_turn}
use Rattle.runs.proofs.OfficeRuns.{Beside}

-- anything may be handed in
abbrev pub Any : Input → Type 0
Any h = Unit {0}

pub any_turns : (ts : List Turn) → Every (λ t. Any (handed_at t)) ts
any_turns [] = none
any_turns (t ∷ ts) = more tt (any_turns ts)

-- every number given out in these records is at most m
abbrev pub AllUpTo : ℕ → List Written → Type 0
AllUpTo m ws = Every (λ w. own_number w ≤ m) ws

-- A companion of the office: T says what records make of it, P what holds of it and the office, B that it knows no
-- number above m, I what is asked of what is handed in.
pub record Companion {C : Type 0} (T : C → List Written → C → Type 0) (P : C → State → Type 0) (B : C → ℕ → Type 0)
    (I : Input → Type 0) : Type 0 where
  pub nothing_sent_lem : (c : C) → T c [] c
  pub and_more : (c d e : C) (a b : List Written) → T c a d → T d b e → T c (a ++ b) e
  pub cut_short : (c d : C) (ws : List Written) (k : ℕ) → T c ws d → (e : C) × T c (take k ws) e
  pub bounded : (c d : C) (ws : List Written) (m : ℕ) → T c ws d → B c m → AllUpTo m ws → B d m
  pub again : (c d : C) (s : State) (ws : List Written) (m : ℕ) → P c s → T c ws d → B d m → m ≤ limit
      → P d (restarted s.own m)
  pub keeps : (c : C) (s : State) (h : Input) → I h → P c s → Beside T P c (answer_to s h).written (next_state s h)

module _ {C : Type 0} {T : C → List Written → C → Type 0} {P : C → State → Type 0} {B : C → ℕ → Type 0}
    {I : Input → Type 0} (by : Companion T P B I) where
  -- the companion after what leaves at a turn
  pub beside_turn : (c : C) (s : State) (l : List Written) (t : Turn) → I (handed_at t) → P c s
      → ((m : ℕ) → AllUpTo m l → B c m) → TurnAbove s l t
      → Beside T P c (left_at s t) (next_turn s t)
  beside_turn c s l (entire h) i p b a = by.keeps c s h i p
  beside_turn c s l (broken h left m) i p b a =
      let x = by.keeps c s h i p in
      let y = by.cut_short c x.then (answer_to s h).written left x.told in
      let z = every_split l a.0 in
      record {
        then = y.0;
        told = y.1;
        holds = by.again c y.0 s _ m p y.1 (by.bounded c y.0 _ m y.1 (b m z.0) z.1) a.1;
      }

  pub beside_turns : (c : C) (s : State) (l : List Written) (ts : List Turn) → Every (λ t. I (handed_at t)) ts → P c s
      → ((m : ℕ) → AllUpTo m l → B c m)
      → TurnsAbove s l ts → (d : C) × T c (left_over s ts) d
  unfolding left_over
  beside_turns c s l [] none p b no_turn = (c, by.nothing_sent_lem c)
  beside_turns c s l (t ∷ ts) (more i is) p b (a_turn a rest) =
      let x = beside_turn c s l t i p b a in
      let y = beside_turns x.then (next_turn s t) (l ++ left_at s t) ts is x.holds
      (λ m e. let z = every_split l e in by.bounded c x.then _ m x.told (b m z.0) z.1) rest in
      (y.0, by.and_more c x.then y.0 _ _ x.told y.1)
