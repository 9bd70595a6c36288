-- Short lists of events beside the statement: a slow proposal that two offices use, why only what has left counts as
-- used, and a fast proposal that is used for two views. Seat 0 is of office 0, seat 4 of office 1, seat 8 of office 2;
-- {0, 4} is 17, {0, 4, 8} is 273. All sixteen offices start fresh, with empty links.
use Rattle.std.specs.Prelude.{◌≡◌, List, [], ◌∷◌, ℕ}
use Rattle.records.specs.declared.Proposal.{Proposal}
use Rattle.records.specs.declared.View.{View}
use Rattle.rules.specs.State.{fast, slow, zeros}
use Rattle.rules.specs.Rules.{fresh}
use Rattle.runs.specs.Office.{Turn, handed_at, CountedAt}
use Rattle.runs.specs.World.{Item, World, Underway, WorldEvent, cut, at, Nth}
use Rattle.runs.specs.Turns.{TurnAt}
use Rattle.runs.specs.Files.{FileEvent, cuts}
use Rattle.runs.specs.Plays.{join, leave, hand, join_begun, changes, three}
use Rattle.one_view.specs.Statement.{first, UsesAt}

abbrev pub no_links : ℕ → ℕ → List Item
no_links i j = []

abbrev pub made : (sender kind members start number : ℕ) → List ℕ → Proposal
made sender kind members start number used =
    record {
      sender = sender;
      kind = kind;
      members = record { bits = members };
      start = start;
      number = number;
      used = used;
    }

abbrev a_view : ℕ → ℕ → List ℕ → View
a_view number members starts = record { number = number; members = record { bits = members }; starts = starts }

-- in a list of sixteen fresh offices: the world before event n, and the uses at event n
module _ (es : List WorldEvent) (n : ℕ) where
  abbrev pub before : World
  before = at (first fresh no_links es) es n

  abbrev pub Played : ℕ → ℕ → Proposal → View → Type 0
  Played = UsesAt fresh no_links es n

  -- as a use, but that the view need not have left: it stands in the answer to what office o was handed
  abbrev pub CountsAt : ℕ → ℕ → Proposal → View → Type 0
  CountsAt o q p v = (e : WorldEvent) × Nth es n e × (t : Turn) × TurnAt before e o t
      × (c : CountedAt (record { before = before.state o; handed = handed_at t }) q p) × (c.seen ≡ v)

-- 1. One slow proposal, used by two offices for one view. Offices 0 and 1 are told of {0, 4} and send view 2 (events 2
-- and 3). Office 0 is told that seat 4 left, and that it joined again: its fast proposal 3 finds office 1 in mode
-- none. Office 1 opens with start 2 and makes slow proposal 4 (event 6); office 0 joins with its own slow proposal 4
-- and sends view 4 (event 7), then office 1 does (event 8). Each uses its own slow proposal and the other's.
abbrev pub counted_together : List WorldEvent
counted_together =
    join 0 17 ∷ join 1 17 ∷ hand 0 1 ∷ hand 1 0 ∷ leave 0 16 ∷ join 0 16 ∷ hand 0 1 ∷ hand 1 0 ∷ hand 0 1 ∷ []

abbrev pub slow0 : Proposal
slow0 = made 0 slow 17 3 4 (three 2 1 0)

abbrev pub slow1 : Proposal
slow1 = made 1 slow 17 2 4 (three 1 1 0)

abbrev pub view4 : View
view4 = a_view 4 17 (three 3 2 0)

-- 2. Why only what has left counts as used. Office 0 is told of {0}: its own fast proposal, start 1 and number 1, has
-- no recipient and is not written; the answer is notice 1 and view 2. It is cut off after five bytes of its first
-- mark, so nothing has left, and it begins again at 0. The same report comes again, and it acts on it to the end: it
-- makes the same proposal anew, and now the view leaves.
abbrev pub begun : Underway
begun = join_begun 1

abbrev pub cut_before_view : List FileEvent
cut_before_view = cuts 0 begun 5 ∷ changes 0 1 0 ∷ []

-- the list without files that it is
abbrev pub cut_events : List WorldEvent
cut_events = cut 0 begun 0 0 ∷ join 0 1 ∷ []

abbrev pub alone : Proposal
alone = made 0 fast 1 1 1 zeros

abbrev pub view2 : View
view2 = a_view 2 1 (three 1 0 0)

-- 3. A fast proposal may be used for two views. Offices 0, 1 and 2 are told of {0, 4, 8}. Office 0 takes the proposals
-- of the others and sends view 2 (event 4), using office 1's. Office 2 is told that seat 0 left, and that it joined
-- again: its third proposal has start 3. Office 1 takes all three of them, then office 0's, and sends view 4 (event
-- 10), using its own first proposal.
abbrev pub fast_for_two_views : List WorldEvent
fast_for_two_views =
    join 0 273 ∷ join 1 273 ∷ join 2 273 ∷ hand 1 0 ∷ hand 2 0 ∷ leave 2 1 ∷ join 2 1 ∷ hand 2 1 ∷ hand 2 1 ∷ hand 2 1
    ∷ hand 0 1 ∷ []

abbrev pub fast1 : Proposal
fast1 = made 1 fast 273 1 1 zeros

abbrev pub view_at_0 : View
view_at_0 = a_view 2 273 (three 1 1 1)

abbrev pub view_at_1 : View
view_at_1 = a_view 4 273 (three 1 1 3)
