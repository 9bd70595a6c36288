-- One slow proposal, one view (request 11), over the world of crate runs: sixteen fresh offices, empty links, any list
-- of reports, deliveries, losses and cuts. Nothing is assumed of 3, 13 or last reports.
use Rattle.std.specs.Prelude.{◌≡◌, Bool, true, ℕ, ◌<◌}
use mathlib.Core.List.{List, [], Memᴰ}
use Rattle.records.specs.declared.Proposal.{Proposal}
use Rattle.records.specs.declared.View.{View}
use Rattle.rules.specs.State.{State, slow}
use Rattle.rules.specs.Rules.{view, fresh}
use Rattle.runs.specs.Office.{Turn, handed_at, left_at, CountedAt}
use Rattle.runs.specs.World.{Item, World, at_first, WorldEvent, at, Nth}
use Rattle.runs.specs.Turns.{TurnAt}
use Rattle.runs.specs.Begins.{AllAmong, RestartsAbove}
use Rattle.runs.specs.Files.{FileEvent, filed_first, plainly}

-- At event e of the world w office o sends the view v, which leaves it, using the proposal p for office q: the one
-- stored when the agreement test found it. A proposal is known by all its fields.
pub record Uses (w : World) (e : WorldEvent) (o q : ℕ) (p : Proposal) (v : View) : Type 0 where
  pub turn : Turn
  pub takes : TurnAt w e o turn
  pub has_left : Memᴰ (view v) (left_at (w.state o) turn)
  pub counted : CountedAt (record { before = w.state o; handed = handed_at turn }) q p
  pub is_view : counted.seen ≡ v

abbrev pub everyone : ℕ → Bool
everyone i = true

-- the sixteen states and the links at first, a list of events
module _ (states : ℕ → State) (links : ℕ → ℕ → List Item) (es : List WorldEvent) where
  abbrev pub first : World
  first = at_first states links

  -- all sixteen offices start fresh, with empty links; the events are theirs
  pub record AllFresh : Type 0 where
    pub starts_fresh : (i : ℕ) → i < 16 → states i ≡ fresh i
    pub without_mail : (i j : ℕ) → i < 16 → links i j ≡ []
    pub among : AllAmong es

  -- office o uses p for office q in the view v at event n of the list
  abbrev pub UsesAt : ℕ → ℕ → ℕ → Proposal → View → Type 0
  UsesAt n o q p v = (e : WorldEvent) × Nth es n e × Uses (at first es n) e o q p v

  -- if two offices, or one, each send a view using the same slow proposal, the two views are equal in number, members
  -- and start numbers
  abbrev pub OneView : Type 0
  OneView = (n k o u q r : ℕ) (p : Proposal) (v x : View) → p.kind ≡ slow → UsesAt n o q p v → UsesAt k u r p x
      → v ≡ x

  -- no office uses one proposal, slow or fast, its own or another's, for two views: two uses are of one event
  abbrev pub UsedOnce : Type 0
  UsedOnce = (n k o q r : ℕ) (p : Proposal) (v x : View) → UsesAt n o q p v → UsesAt k o r p x → (n ≡ k) × (v ≡ x)

  pub record UsedWell : Type 0 where
    pub one_view : OneView
    pub used_once : UsedOnce

  -- where an office that is cut off begins again at or above every number that left it, whatever keeps that number
  abbrev pub UsedWellAbove : Type 0
  UsedWellAbove = AllFresh → RestartsAbove everyone first es → UsedWell

-- and where it is cut off after any byte written to its file, all files empty at first, and after any record that left
abbrev pub UsedWellWithFiles : (ℕ → State) → (ℕ → ℕ → List Item) → List FileEvent → Type 0
UsedWellWithFiles states links fs =
    let es = plainly (filed_first states links (λ i. [])) fs in AllFresh states links es → UsedWell states links es
