-- What the program holds from turn to turn, and how a turn ends.
use Rattle.std.specs.Prelude.{◌≡◌, Bool, true, false, Result, Ok, Err, ℕ, length}
use Rattle.buffers.specs.declared.input.Place.{Place}
use Rattle.feed.specs.declared.session.Session.{Session}
use Rattle.feed.specs.declared.session.Fault.{Fault}
use Rattle.feed.specs.declared.session.Fault.TheVariants as faults
use Rattle.feed.specs.TurnReady.{TurnReady}

-- whether the program goes on, whether a read failed, and where it then stands
pub record Advanced : Type 0 where
  pub more : Bool
  pub unread : Bool
  pub place : Place

-- `sent` of the unwritten bytes were written; `failed` says that the others could not be, `unread` that the input could
-- not be read
pub record Turned : Type 0 where
  pub more : Bool
  pub failed : Bool
  pub unread : Bool
  pub sent : ℕ
  pub place : Place

-- whether the program goes on, where no fault ends it
abbrev pub more_of : Result Bool Fault → Bool
more_of (Ok more) = more
more_of (Err faults.Unread) = false
more_of (Err faults.Unwritten) = true

abbrev pub failed_of : Result Bool Fault → Bool
failed_of (Ok more) = false
failed_of (Err faults.Unread) = false
failed_of (Err faults.Unwritten) = true

abbrev pub unread_of : Result Bool Fault → Bool
unread_of (Ok more) = false
unread_of (Err faults.Unread) = true
unread_of (Err faults.Unwritten) = false

abbrev pub advanced_of : Result Bool Fault → Place → Advanced
advanced_of r p = record { more = more_of r; unread = unread_of r; place = p }

abbrev pub turned_of : Result Bool Fault → ℕ → Place → Turned
turned_of r sent p =
    record { more = more_of r; failed = failed_of r; unread = unread_of r; sent = sent; place = p }

-- a turn can begin
abbrev pub Ready : Session → Type 0
Ready s = TurnReady s.office s.table s.place s.input s.out s.output

-- it is of the same office, shows the bytes written as before, and what it lends is as long
pub record Same (s s' : Session) : Type 0 where
  pub office : s'.office ≡ s.office
  pub traced : s'.traced ≡ s.traced
  pub input : length s'.input ≡ length s.input
  pub room : length s'.out ≡ length s.out
  pub output : length s'.output ≡ length s.output
