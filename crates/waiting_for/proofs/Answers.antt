-- For lib: the answers of the code, case by case.
use mathlib.Core.Path.{◌≡◌, sym, ◌∙◌}
use mathlib.Core.Bool.{Bool, true, false, ◌||◌, not}
use mathlib.Core.List.{List}
use Prim.Native.Nat.{ℕ, ◌≤◌, ◌<◌}
use borrow.Author.Tests.{lt-ltb, le-ltb}
use Rattle.seats.specs.declared.SeatSet.{SeatSet}
use Rattle.seats.specs.Offices.{serves}
use Rattle.records.specs.Numbers.{room_above}
use Rattle.rules.specs.State.{State}
use Rattle.rules.specs.Rules.{seated, is_none}
use Rattle.row.specs.Table.{table_of, sound_table}
use Rattle.rules.specs.Refusals.{well_formed}
use Rattle.waiting.specs.declared.Waiting.TheVariants as answers
use Rattle.waiting.specs.Waiting.{lowest_lacking, for_nobody, waiting_for}
use Rattle.waiting.proofs.Laws.{answer_nobody, answer_found}
use Rattle.waiting_for.specs.Table.{waiting_words}

-- in the row of a room
module _ (s : State) (e : well_formed s ≡ true) where
  pub for_nobody_lem : for_nobody s ≡ true → answers.Nobody ≡ waiting_for s
  for_nobody_lem n = sym (answer_nobody _ e n)

  module _ (o : ℕ) (n : for_nobody s ≡ false) (q : o ≡ lowest_lacking s) where
    pub for_office : o < 16 → answers.For o ≡ waiting_for s
    for_office l = sym (answer_found _ e n ∙ rw (← q, lt-ltb o 16 l))

    pub is_met : 16 ≤ o → answers.Met ≡ waiting_for s
    is_met l = sym (answer_found _ e n ∙ rw (← q, le-ltb o 16 l))

-- in a table
module _ (ws : List ℕ) (room : ℕ) where
  pub unsound : sound_table ws ≡ false → answers.Malformed ≡ waiting_words ws room
  unfolding waiting_words
  unsound e = rw e

  pub no_room : sound_table ws ≡ true → room_above room ≡ true → answers.NoRoom ≡ waiting_words ws room
  unfolding waiting_words
  no_room e a = rw (e, a)

  pub in_room : sound_table ws ≡ true → room_above room ≡ false → waiting_for (table_of ws room) ≡ waiting_words ws room
  unfolding waiting_words
  in_room e a = rw (e, a)

-- whether nobody is waited for, by what the code has read
pub nobody_by : (s : State) (idle : Bool) (net : SeatSet) (own : ℕ) (seat : Bool) → idle ≡ is_none s.mode
    → net ≡ s.net → own ≡ s.own
    → seat ≡ serves net.bits own → idle || not seat ≡ for_nobody s
unfolding for_nobody seated
nobody_by s idle net own seat k n o v = rw (v, k, n, o)
