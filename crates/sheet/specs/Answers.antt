-- What an answer tells of the members and of the records on the sheet.
use Rattle.std.specs.Prelude.{◌≡◌, true, false, List, ◌∷◌, ◌++◌, ℕ, ◌<◌, length, eqb}
use Rattle.laws.specs.Checks.{first_of}
use Rattle.laws.specs.Lists.{Every}
use Rattle.seats.specs.Seats.{has, contains_of}
use Rattle.seats.specs.declared.SeatSet.{SeatSet}
use Rattle.records.specs.Layout.{sync_length}
use Rattle.records.specs.declared.View.{View}
use Rattle.records.specs.declared.Sync.{Sync}
use Rattle.sheet.specs.declared.Along.{Along}
use Rattle.sheet.specs.declared.Along.TheVariants as answers
use Rattle.sheet.specs.Sheet.{counts, sync_checks}

-- the seat is one of the view's
abbrev pub Member : View → ℕ → Type 0
Member v seat = contains_of v.members.bits seat ≡ true

-- a record that is not bad
pub record GoodRecord (b : List ℕ) : Type 0 where
  pub whole : length b ≡ sync_length
  pub sound : first_of (sync_checks b) ≡ 0

-- none of the records counts for the seat
abbrev pub NoneCounts : View → ℕ → List Sync → Type 0
NoneCounts v seat = Every (λ r. counts v seat r ≡ false)

module _ (v : View) (rs : List Sync) where
  -- the first record on the sheet that counts for a seat
  pub record FirstFor (seat : ℕ) : Type 0 where
    pub before : List Sync
    pub it : Sync
    pub after : List Sync
    pub on_sheet : rs ≡ before ++ it ∷ after
    pub none_before : NoneCounts v seat before
    pub it_counts : counts v seat it ≡ true

  -- a missing seat is a member, has no record that counts, and every lower member has one
  pub record MissingSeat (seat : ℕ) : Type 0 where
    pub member : Member v seat
    pub none_counts : NoneCounts v seat rs
    pub lower : (s : ℕ) → s < seat → Member v s → FirstFor s

  -- a set lies within the members, each of whom has a record, and holds those whose record names the number
  pub record CameSet (previous : ℕ) (set : SeatSet) : Type 0 where
    pub within : (s : ℕ) → has set.bits s ≡ true → Member v s
    pub each : (s : ℕ) → Member v s → (f : FirstFor s) × (has set.bits s ≡ eqb f.it.previous previous)

  -- one of the two
  pub data Tells (previous : ℕ) : Along → Type 0 where
    missing_seat : {seat : ℕ} → MissingSeat seat → Tells previous (answers.Missing seat)
    came_set : {set : SeatSet} → CameSet previous set → Tells previous (answers.Members set)
