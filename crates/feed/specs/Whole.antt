-- A run of the program: turn after turn, from a place with nothing read and nothing unwritten.
use Rattle.std.specs.Prelude.{◌≡◌, Bool, true, false, ◌⊎◌, ℕ, ◌+◌, ◌^◌, ◌<◌, length, take, drop}
use mathlib.Core.List.{List, [], ◌∷◌, ◌++◌, flatten}
use Rattle.laws.specs.Lists.{Every}
use Rattle.records.specs.Layout.{check_of}
use Rattle.records.specs.Run.{Ends}
use Rattle.row.specs.Table.{SoundTable}
use Rattle.step.specs.Held.{OfOffice}
use Rattle.text.specs.Lines.{text_of}
use Rattle.buffers.specs.Place.{Within, waits_of}
use Rattle.feed.specs.Turn.{Stand, stand_at, sent_at, Keeps}
use Rattle.buffers.specs.declared.input.Place.{Place}
use Rattle.feed.specs.TurnReady.{Lent}
use Rattle.feed.specs.declared.session.Session.{Session}

abbrev pub start : List ℕ → Stand
start ws = record { words = ws; ended = false; number = 0; window = []; unwritten = [] }

-- Run traced office ws n input output more b: n turns of the office from the table ws on have read input, written
-- output, and stand at b; more says whether the program goes on
pub data Run (traced : Bool) (office : ℕ) (ws : List ℕ) : ℕ → List ℕ → List ℕ → Bool → Stand → Type 0 where
  begun : Run traced office ws 0 [] [] true (start ws)
  turned : {n : ℕ} {input output : List ℕ} {a : Stand} (sent : ℕ) {more : Bool} {b : Stand}
      → Run traced office ws n input output true a
      → (k : Keeps traced office a.words a.ended a.number a.window (drop sent a.unwritten) more
      b.words b.ended b.number b.window b.unwritten)
      → Run traced office ws (n + 1) (input ++ k.got) (output ++ take sent a.unwritten) more b

-- a run of turns that stands at b, with so many left of 2^64 - 1 where the program goes on
pub record Reached (traced : Bool) (office : ℕ) (ws₀ : List ℕ) (more : Bool) (left : ℕ) (b : Stand) : Type 0 where
  pub turns : ℕ
  pub input : List ℕ
  pub output : List ℕ
  pub run : Run traced office ws₀ turns input output more b
  pub counted : more ≡ true → turns + left + 1 ≡ 2 ^ 64

-- a run that a fault has ended: turns up to a place, then so many of the bytes unwritten there. Where it was a read
-- that failed, more of the input was waited for, and nothing is left unwritten.
pub record Broken (traced : Bool) (office : ℕ) (ws₀ : List ℕ) (unread : Bool) (b : Stand) : Type 0 where
  pub turns : ℕ
  pub input : List ℕ
  pub output : List ℕ
  pub place : Stand
  pub sent : ℕ
  pub run : Run traced office ws₀ turns input output true place
  pub stands : b ≡ sent_at sent place
  pub waited : unread ≡ true → (waits_of b.ended b.window ≡ true) × (b.unwritten ≡ [])

-- all that it wrote
abbrev pub written_by : {traced unread : Bool} {office : ℕ} {ws₀ : List ℕ} {b : Stand}
    → Broken traced office ws₀ unread b → List ℕ
written_by k = k.output ++ take k.sent k.place.unwritten

-- the turns can begin, with nothing read and nothing unwritten
pub record Begins (s : Session) : Type 0 where
  pub lent : Lent s.office s.table s.input s.out s.output
  pub place : s.place ≡ record { ended = false; at = 0; end = 0; filled = 0; number = 0 }

-- where the loop stands: after a run of turns, which a fault may have ended; it has turns left only while the program
-- goes on
pub record Ran (traced : Bool) (office : ℕ) (ws₀ ws : List ℕ) (p : Place) (i o : List ℕ) (more failed unread : Bool)
    (left : ℕ) : Type 0 where
  pub sound : SoundTable ws
  pub own : OfOffice office ws
  pub within : Within p
  pub number : p.number + left < 2 ^ 64
  pub reached : failed ≡ false → unread ≡ false → Reached traced office ws₀ more left (stand_at ws p i o)
  pub broken : (failed ≡ true) ⊎ (unread ≡ true) → Broken traced office ws₀ unread (stand_at ws p i o)
  pub going : 0 < left → (more ≡ true) × (failed ≡ false) × (unread ≡ false)

-- What a run that goes on has answered: records that came whole, each with its line. With the bytes unanswered they
-- are what was read; what was written and what is unwritten are the text for them, with no line for the rest. Where
-- the program waits, no whole record is among the rest.
pub record Answers (traced : Bool) (office : ℕ) (input output : List ℕ) (b : Stand) : Type 0 where
  pub parts : List (List ℕ)
  pub whole : Every (λ p. check_of p ≡ 0) parts
  pub count : b.number ≡ length parts
  pub read : input ≡ flatten parts ++ b.window
  pub text : text_of traced (office ∷ flatten parts) ≡ output ++ b.unwritten
  pub rest : waits_of b.ended b.window ≡ true → Ends b.window
