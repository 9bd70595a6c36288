-- What the pass has found after some records, by the plain definitions; and the change that one record makes.
use Rattle.std.specs.Prelude.{Bool, ◌&&◌, List, map, ℕ, Result, Ok, Err, get_or, eqb}
use Rattle.laws.specs.Upd.{ifb}
use Rattle.seats.specs.Seats.{contains_of, insert_of, remove_of}
use Rattle.seats.specs.Offices.{office_of}
use Rattle.records.specs.Layout.{decode_sync}
use Rattle.records.specs.declared.View.{View}
use Rattle.records.specs.declared.Sync.{Sync}
use Rattle.records.specs.declared.refusal.Refusal.{Refusal}
use Rattle.records.specs.Refusals.{number}
use Rattle.sheet.specs.Sheet.{lacks_record, names_same, set_of, first_bad}
use Rattle.came_along.specs.declared.sheet_pass.Found.{Found}

unfoldable pub found_after : View → ℕ → List Sync → Found
found_after v previous rs = record { missing = set_of (lacks_record v rs); same = set_of (names_same v previous rs) }

abbrev pub nobody : Found
nobody = record { missing = record { bits = 0 }; same = record { bits = 0 } }

-- the number of the first bad record, and nobody; or 0, and what was found
pub record Passed : Type 0 where
  pub refusal : ℕ
  pub found : Found

abbrev pub passed_as : Result Found Refusal → Passed
passed_as (Ok f) = record { refusal = 0; found = f }
passed_as (Err e) = record { refusal = number e; found = nobody }

unfoldable pub pass_of : View → ℕ → List (List ℕ) → Passed
pass_of v previous bs =
    let n = first_bad bs in
    record { refusal = n; found = ifb (eqb n 0) (found_after v previous (map decode_sync bs)) nobody }

-- whether a record counts, by the start numbers of a view and the seats whose record is missing so far
abbrev pub is_first : List ℕ → ℕ → Sync → Bool
is_first starts missing r = contains_of missing r.seat && eqb r.start (get_or starts (office_of r.seat) 0)

-- a record that counts: its seat is missing no more, and is among the others if it names the number
abbrev pub counted_in : ℕ → Found → Sync → Found
counted_in previous f r =
    record {
      missing = record { bits = remove_of f.missing.bits r.seat };
      same = record { bits = ifb (eqb r.previous previous) (insert_of f.same.bits r.seat) f.same.bits };
    }

unfoldable pub count_record : List ℕ → ℕ → Found → Sync → Found
count_record starts previous f r = ifb (is_first starts f.missing.bits r) (counted_in previous f r) f
