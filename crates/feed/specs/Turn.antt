-- What a turn of the program does, and what it keeps.
use Rattle.std.specs.Prelude.{◌≡◌, Bool, true, false, ◌⊎◌, ℕ, ◌+◌, ◌≤◌, ◌<◌, length, drop}
use mathlib.Core.List.{List, [], ◌++◌, flatten}
use Rattle.laws.specs.Lists.{Every}
use Rattle.laws.specs.Upd.{ifb}
use Rattle.records.specs.Layout.{check_of}
use Rattle.records.specs.Run.{run_check}
use Rattle.row.specs.Table.{table_of, SoundTable}
use Rattle.step.specs.Held.{OfOffice}
use Rattle.text.specs.Lines.{front_of, lines_of}
use Rattle.buffers.specs.Place.{Within, window_of, unwritten_of, waits_of}
use Rattle.buffers.specs.declared.input.Place.{Place}
use Rattle.buffers.specs.Room.{room_for}
use Rattle.feed.specs.Session.{Advanced, Turned}

-- where a run stands: the table, whether the input has ended, the records answered, the bytes unanswered and unwritten
pub record Stand : Type 0 where
  pub words : List ℕ
  pub ended : Bool
  pub number : ℕ
  pub window : List ℕ
  pub unwritten : List ℕ

abbrev pub stand_at : List ℕ → Place → List ℕ → List ℕ → Stand
stand_at ws p i o =
    record { words = ws; ended = p.ended; number = p.number; window = window_of p i; unwritten = unwritten_of p o }

-- the same after a write of so many bytes
abbrev pub sent_at : ℕ → Stand → Stand
sent_at sent a = record {
  words = a.words;
  ended = a.ended;
  number = a.number;
  window = a.window;
  unwritten = drop sent a.unwritten;
}

-- Records that came whole are taken off the front of b, and w' is left; their text is what was printed, whatever f
-- comes behind them.
pub record Takes (traced : Bool) (office : ℕ) (ws : List ℕ) (n : ℕ) (b printed ws' : List ℕ) (n' : ℕ) (w' : List ℕ)
    : Type 0 where
  pub parts : List (List ℕ)
  pub whole : Every (λ p. check_of p ≡ 0) parts
  pub count : n' ≡ n + length parts
  pub left : b ≡ flatten parts ++ w'
  pub lines : (f : List ℕ) → lines_of traced office (table_of ws) n (flatten parts ++ f)
      ≡ printed ++ lines_of traced office (table_of ws') n' f

-- The text that is due stays due. `got` was read, `printed` was put behind what is unwritten. The text for what was
-- read and for all later bytes f, of which there are none once the input has ended, is what was printed and the text
-- for the rest; where the program stops, nothing more is due.
pub record Keeps (traced : Bool) (office : ℕ) (ws : List ℕ) (ended : Bool) (n : ℕ) (w u : List ℕ) (more : Bool)
    (ws' : List ℕ) (ended' : Bool) (n' : ℕ) (w' u' : List ℕ) : Type 0 where
  pub got : List ℕ
  pub printed : List ℕ
  pub buffer : u' ≡ u ++ printed
  pub text : (f : List ℕ) → (ended' ≡ true → f ≡ [])
      → lines_of traced office (table_of ws) n (w ++ (got ++ f))
      ≡ printed ++ ifb more (lines_of traced office (table_of ws') n' (w' ++ f)) []
  -- where the program goes on, each record answered came whole
  pub takes : more ≡ true → Takes traced office ws n (w ++ got) printed ws' n' w'
  pub end : ended ≡ true → (ended' ≡ true) × (got ≡ [])
  pub number : n' ≤ n + 1
  -- a whole record, or what the input ended with, is taken off
  pub took : (run_check w ≡ 0) ⊎ (ended ≡ true) → 0 < length w → (n' ≡ n + 1) × (w ≡ front_of w ++ w')
  -- where more input can change what stands in front, more is read, or the input has ended
  pub read : waits_of ended w ≡ true → (0 < length got) ⊎ (ended' ≡ true)
  -- where nothing is left, the program stops
  pub stops : ended ≡ true → length w ≡ 0 → more ≡ false

pub record Advances (traced : Bool) (office : ℕ) (ws : List ℕ) (p : Place) (i o : List ℕ) (r : Advanced)
    (ws' i' o' : List ℕ) : Type 0 where
  pub within : Within r.place
  pub sound : SoundTable ws'
  pub own : OfOffice office ws'
  pub number : r.place.number ≤ p.number + 1
  -- a read fails only where the program waits; then all stays, and the program stops
  pub unread : r.unread ≡ true → (waits_of p.ended (window_of p i) ≡ true) × (r.more ≡ false)
      × (stand_at ws' r.place i' o' ≡ stand_at ws p i o)
  pub keeps : r.unread ≡ false
      → Keeps traced office ws p.ended p.number (window_of p i) (unwritten_of p o) r.more ws'
      r.place.ended r.place.number (window_of r.place i') (unwritten_of r.place o')

-- A turn writes the first `sent` bytes of what is unwritten, then advances. Where a write or a read fails, all else
-- stays.
pub record Turns (traced : Bool) (office : ℕ) (ws : List ℕ) (p : Place) (i o : List ℕ) (r : Turned)
    (ws' i' o' : List ℕ) : Type 0 where
  pub within : Within r.place
  pub sound : SoundTable ws'
  pub own : OfOffice office ws'
  pub number : r.place.number ≤ p.number + 1
  pub sent : r.sent ≤ length (unwritten_of p o)
  -- nothing is written while a line has room, unless the program waits
  pub unasked : room_for p.filled (waits_of p.ended (window_of p i)) ≡ true → r.sent ≡ 0
  pub keeps : r.failed ≡ false → r.unread ≡ false
      → Keeps traced office ws p.ended p.number (window_of p i) (drop r.sent (unwritten_of p o)) r.more ws'
      r.place.ended r.place.number (window_of r.place i') (unwritten_of r.place o')
  -- nothing is left unwritten while the program waits
  pub shown : r.failed ≡ false → waits_of p.ended (window_of p i) ≡ true → drop r.sent (unwritten_of p o) ≡ []
  pub failed : r.failed ≡ true → r.sent < length (unwritten_of p o)
  -- a read fails only where the program waits and has written all
  pub unread : r.unread ≡ true → (r.failed ≡ false) × (waits_of p.ended (window_of p i) ≡ true) × (r.more ≡ false)
  pub stays : (r.failed ≡ true) ⊎ (r.unread ≡ true)
      → stand_at ws' r.place i' o' ≡ sent_at r.sent (stand_at ws p i o)
