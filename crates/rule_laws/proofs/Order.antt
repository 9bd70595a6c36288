-- Both calls in turn, computed: every two reasons that can apply at once, of which the first in the order is answered.
use mathlib.Core.Path.{◌≡◌, refl}
use mathlib.Core.Bool.{Bool, true, ◌&&◌, ◌||◌}
use mathlib.Core.List.{List, [], ◌∷◌, ◌++◌}
use Prim.Native.Nat.{ℕ, ◌+◌, ◌-◌}
use lib.Dec.{eqb, leb}
use Rattle.laws.specs.Checks.{Check}
use Rattle.laws.specs.Lists.{Every, none, more}
use Rattle.laws.specs.Tab.{tab}
use Rattle.laws.specs.Upd.{ifb}
use Rattle.laws.proofs.Lists.{◌then◌}
use Rattle.records.specs.Layout.{encode_proposal}
use Rattle.records.specs.Numbers.{limit}
use Rattle.rules.specs.State.{None, State}
use Rattle.rules.specs.Rules.{fresh, restarted}
use Rattle.rules.specs.Refusals.{full_room}
use Rattle.rules.specs.Tables.{Table, well_table, barred, act_table, read_of, step_table}
use Rattle.rules.specs.Turns.{read_order, turn_checks}
use Rattle.rules.specs.Days.{given}

-- A proposal of office 1 handed to office 0, with the faults that `has` says, each by its number; 60 and 90 are 6 and
-- 9 for the own office of the room, 1 or 5 then.
module _ (has : ℕ → Bool) where
  abbrev office : ℕ
  office = ifb (has 1) 16 0

  abbrev sender : ℕ
  sender = ifb (has 6) office 1

  abbrev members : ℕ
  members = ifb (has 9) 0b10000 0b10001

  abbrev used_number : ℕ → ℕ
  used_number o =
      ifb (eqb o sender) (ifb (has 19) 5 (ifb (has 12) 3 0))
      (ifb (eqb o 0) (ifb (has 12) 3 0) (ifb (eqb o 2) (ifb (has 10) 1 0) 0))

  abbrev bytes : List ℕ
  bytes =
      ifb (has 4) []
      (encode_proposal (ifb (has 20) 8 0)
      (record {
        sender = sender;
        kind = ifb (has 7) 3 1;
        members = record { bits = members };
        start = ifb (has 8) 0 1;
        number = 5;
        used = tab 16 used_number;
      })
      ++ ifb (has 5) (0 ∷ []) [])

  -- its room's number is 2, below the used number that 12 finds; 11 finds 9, and 13 the start number L
  abbrev state : State
  state =
      record {
        own = ifb (has 60) 1 (ifb (has 90) 5 0);
        mode = None;
        net = record { bits = members };
        stored = (fresh 0).stored;
        accepted = tab 16 (λ o. ifb (has 11) 9 0);
        view = (fresh 0).view;
        start = ifb (has 13) limit 0;
        number = 2;
        used = (fresh 0).used;
      }

  abbrev table : Table
  table room = ifb (eqb room 0) state (ifb (eqb room 7 && has 2) (restarted 0 (limit + 1)) (fresh 0))

  abbrev output : ℕ
  output = ifb (has 3) (full_room - 1) full_room

  abbrev answered : ℕ
  answered = (step_table office table bytes output).refusal

  abbrev reasons : List Check
  reasons = turn_checks office table bytes output

-- how many reasons of this number apply
abbrev applying : ℕ → List Check → ℕ
applying n [] = 0
applying n (c ∷ cs) = ifb (c.applies && eqb c.number n) 1 0 + applying n cs

abbrev number_of : ℕ → ℕ
number_of fault = ifb (eqb fault 60) 6 (ifb (eqb fault 90) 9 fault)

-- with faults i and j both reasons apply, and i is answered
abbrev pub ordered : ℕ → ℕ → Bool
ordered i j =
    let has : ℕ → Bool = λ k. eqb k i || eqb k j in
    eqb (answered has) (number_of i)
    && leb (ifb (eqb (number_of i) (number_of j)) 2 1) (applying (number_of j) (reasons has))

abbrev pub ordered_all : ℕ → List ℕ → Bool
ordered_all i [] = true
ordered_all i (j ∷ js) = ordered i j && ordered_all i js

unfoldable pub pairs : List Bool
pairs =
    ordered_all 1 (4 ∷ 5 ∷ 20 ∷ 6 ∷ 7 ∷ 8 ∷ 9 ∷ 10 ∷ 19 ∷ 2 ∷ 3 ∷ 60 ∷ 90 ∷ 11 ∷ 12 ∷ 13 ∷ [])
    ∷ ordered_all 4 (2 ∷ 3 ∷ [])
    ∷ ordered_all 5 (20 ∷ 2 ∷ 3 ∷ [])
    ∷ ordered_all 20 (6 ∷ 7 ∷ 8 ∷ 9 ∷ 10 ∷ 19 ∷ 2 ∷ 3 ∷ [])
    ∷ ordered_all 6 (7 ∷ 8 ∷ 9 ∷ 10 ∷ 19 ∷ 2 ∷ 3 ∷ 90 ∷ 11 ∷ 12 ∷ 13 ∷ [])
    ∷ ordered_all 7 (8 ∷ 9 ∷ 10 ∷ 19 ∷ 2 ∷ 3 ∷ 60 ∷ 90 ∷ 11 ∷ 12 ∷ 13 ∷ [])
    ∷ ordered_all 8 (9 ∷ 10 ∷ 19 ∷ 2 ∷ 3 ∷ 60 ∷ 90 ∷ 11 ∷ 12 ∷ 13 ∷ [])
    ∷ ordered_all 9 (10 ∷ 19 ∷ 2 ∷ 3 ∷ 60 ∷ 90 ∷ 11 ∷ 12 ∷ 13 ∷ [])
    ∷ ordered_all 10 (19 ∷ 2 ∷ 3 ∷ 60 ∷ 90 ∷ 11 ∷ 12 ∷ 13 ∷ [])
    ∷ ordered_all 19 (2 ∷ 3 ∷ 60 ∷ 90 ∷ 11 ∷ 12 ∷ 13 ∷ [])
    ∷ ordered_all 2 (3 ∷ 60 ∷ 90 ∷ 11 ∷ 12 ∷ 13 ∷ [])
    ∷ ordered_all 3 (60 ∷ 90 ∷ 11 ∷ 12 ∷ 13 ∷ [])
    ∷ ordered_all 60 (11 ∷ 12 ∷ 13 ∷ [])
    ∷ ordered_all 90 (11 ∷ 13 ∷ [])
    ∷ ordered_all 11 (12 ∷ 13 ∷ [])
    ∷ ordered_all 12 (13 ∷ []) ∷ []

pub in_order : Every (λ (u : Bool). u ≡ true) pairs
unfolding pairs given step_table read_of act_table barred well_table turn_checks read_order
in_order =
    more refl (more refl (more refl (more refl (more refl (more refl (more refl (more refl
    (more refl (more refl (more refl (more refl (more refl (more refl (more refl (more refl none)))))))))))))))

-- each of them alone, and none
abbrev alone : ℕ → ℕ
alone i = answered (λ k. eqb k i)

pub each_alone :
    alone 1 ∷ alone 4 ∷ alone 5 ∷ alone 20 ∷ alone 6 ∷ alone 7 ∷ alone 8 ∷ alone 9 ∷ alone 10 ∷ alone 19 ∷ alone 2
    ∷ alone 3 ∷ alone 60 ∷ alone 90 ∷ alone 11 ∷ alone 12 ∷ alone 13 ∷ alone 0 ∷ []
    ≡ 1 ∷ 4 ∷ 5 ∷ 20 ∷ 6 ∷ 7 ∷ 8 ∷ 9 ∷ 10 ∷ 19 ∷ 2 ∷ 3 ∷ 6 ∷ 9 ∷ 11 ∷ 12 ∷ 13 ∷ 0 ∷ []
unfolding given step_table read_of act_table barred well_table
each_alone =
    refl then refl then refl then refl then refl then refl then refl then refl then refl then refl then refl then refl
    then refl then refl then refl then refl then refl then refl then refl
