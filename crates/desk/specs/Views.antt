-- What a view's own numbers are asked by whoever reads one, a seat or a sheet.
use Rattle.std.specs.Prelude.{Bool, ◌||◌, ℕ, get_or, ltb}
use Rattle.seats.specs.Offices.{office_of}
use Rattle.records.specs.Numbers.{limit, above_limit, stray_number}
use Rattle.records.specs.declared.View.{View}

-- 8: a view's number or one of its start numbers is above L
abbrev pub view_above : View → Bool
view_above v = ltb limit v.number || above_limit v.starts

-- 10: a view's start number is not 0 for an office outside the members
abbrev pub view_stray : View → Bool
view_stray v = stray_number v.members.bits v.starts

-- the start number that a view has for a seat's office
abbrev pub start_for : View → ℕ → ℕ
start_for v seat = get_or v.starts (office_of seat) 0
