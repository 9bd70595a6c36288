-- What a session's calls do, in the words for plain values.
use Rattle.std.specs.Prelude.{Bool, Result, Ok, ℕ}
use Rattle.text.specs.Lines.{front_of}
use Rattle.buffers.specs.Place.{window_of}
use Rattle.feed.specs.declared.session.Session.{Session}
use Rattle.feed.specs.declared.session.Fault.{Fault}
use Rattle.feed.specs.Session.{more_of, failed_of, unread_of, advanced_of, turned_of}
use Rattle.feed.specs.Answered.{Answered}
use Rattle.feed.specs.Turn.{Advances, Turns}
use Rattle.feed.specs.Whole.{Ran}

-- the record in front is answered
abbrev pub AnsweredTo : Session → Bool → Session → Type 0
AnsweredTo s more s' =
    Answered s.traced s.office s.table s.place (front_of (window_of s.place s.input)) s.output
    (advanced_of (Ok more) s'.place) s'.table s'.output

abbrev pub AdvancesTo : Session → Result Bool Fault → Session → Type 0
AdvancesTo s r s' =
    Advances s.traced s.office s.table s.place s.input s.output (advanced_of r s'.place) s'.table s'.input s'.output

-- some of the unwritten bytes were written
abbrev pub TurnsTo : Session → Result Bool Fault → Session → Type 0
TurnsTo s r s' =
    (sent : ℕ) × Turns s.traced s.office s.table s.place s.input s.output (turned_of r sent s'.place)
    s'.table s'.input s'.output

-- with so many turns left
abbrev pub RanTo : Session → Result Bool Fault → ℕ → Session → Type 0
RanTo s r left s' =
    Ran s.traced s.office s.table s'.table s'.place s'.input s'.output (more_of r) (failed_of r) (unread_of r) left
