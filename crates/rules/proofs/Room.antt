-- The room of an output, computed.
use mathlib.Core.Path.{◌≡◌, refl}
use Rattle.rules.specs.Refusals.{full_room}

pub room_is_185 : full_room ≡ 185
room_is_185 = refl
