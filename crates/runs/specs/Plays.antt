-- The events of played lists, for short: reports and deliveries with full output room, with files and without.
use Rattle.std.specs.Prelude.{List, [], ◌∷◌, ℕ}
use Rattle.records.specs.declared.Report.{Report}
use Rattle.rules.specs.Refusals.{full_room}
use Rattle.runs.specs.World.{Underway, begun_report, WorldEvent, report, delivery}
use Rattle.runs.specs.Files.{FileEvent, reports, delivers}

abbrev pub report_of : ℕ → ℕ → Report
report_of joining leaving = record { joining = record { bits = joining }; leaving = record { bits = leaving } }

abbrev pub change : ℕ → ℕ → ℕ → WorldEvent
change o joining leaving = report o (report_of joining leaving) full_room

abbrev pub join : ℕ → ℕ → WorldEvent
join o x = change o x 0

abbrev pub leave : ℕ → ℕ → WorldEvent
leave o x = change o 0 x

abbrev pub hand : ℕ → ℕ → WorldEvent
hand i j = delivery i j full_room

-- a report of joining seats that an office has begun
abbrev pub join_begun : ℕ → Underway
join_begun x = begun_report (report_of x 0) full_room

-- the same of a list with files
abbrev pub changes : ℕ → ℕ → ℕ → FileEvent
changes o joining leaving = reports o (report_of joining leaving) full_room

abbrev pub hands : ℕ → ℕ → FileEvent
hands i j = delivers i j full_room

-- sixteen numbers that are 0 after the first three
abbrev pub three : ℕ → ℕ → ℕ → List ℕ
three a b c = a ∷ b ∷ c ∷ 0 ∷ 0 ∷ 0 ∷ 0 ∷ 0 ∷ 0 ∷ 0 ∷ 0 ∷ 0 ∷ 0 ∷ 0 ∷ 0 ∷ 0 ∷ []
