-- How a run begins, for a set F of offices: those of F fresh with empty links, every other with its own number and
-- its own proposals.
use Rattle.std.specs.Prelude.{◌≡◌, Bool, true, ℕ, ◌≤◌, ◌<◌}
use mathlib.Core.List.{List, [], ◌∷◌, Memᴰ}
use Rattle.laws.specs.Lists.{Every}
use Rattle.records.specs.declared.Proposal.{Proposal}
use Rattle.records.specs.Numbers.{limit}
use Rattle.rules.specs.State.{State}
use Rattle.rules.specs.Leaving.{own_number}
use Rattle.rules.specs.Rules.{proposal, fresh}
use Rattle.runs.specs.World.{Item, World, WorldEvent, report, delivery, loss, cut, next as nextWorld, at, Nth, Among}

-- office i is one of F
abbrev pub InF : (ℕ → Bool) → ℕ → Type 0
InF F i = (i < 16) × (F i ≡ true)

pub record Begins (F : ℕ → Bool) (states : ℕ → State) (links : ℕ → ℕ → List Item) : Type 0 where
  pub starts_fresh : (i : ℕ) → InF F i → states i ≡ fresh i
  pub without_mail : (i j : ℕ) → InF F i → links i j ≡ []
  pub others_own : (o : ℕ) → o < 16 → (InF F o → ⊥) → (states o).own ≡ o
  pub others_mail : (o j : ℕ) → o < 16 → (InF F o → ⊥) → Every (λ x. x.proposal.sender ≡ o) (links o j)

-- the events of the list are of the sixteen offices and their links
abbrev pub AllAmong : List WorldEvent → Type 0
AllAmong es = (n : ℕ) (e : WorldEvent) → Nth es n e → Among e

-- an office of F that is cut off begins again at or above every number that it has given out in a record that left,
-- and not above L
abbrev pub CutAbove : (ℕ → Bool) → World → WorldEvent → Type 0
CutAbove F w (report o r room) = Unit {0}
CutAbove F w (delivery i j room) = Unit {0}
CutAbove F w (loss i j place) = Unit {0}
CutAbove F w (cut o b left m) = InF F o → Every (λ x. own_number x.what ≤ m) ((nextWorld w (cut o b left m)).log o)
    × (m ≤ limit)

-- at every cut of the list
abbrev pub RestartsAbove : (ℕ → Bool) → World → List WorldEvent → Type 0
RestartsAbove F first es = (n : ℕ) (e : WorldEvent) → Nth es n e → CutAbove F (at first es n) e

-- office i has sent the proposal p
abbrev pub HasSent : World → ℕ → Proposal → Type 0
HasSent w i p = (t : ℕ) × Memᴰ (record { what = proposal p; clock = t }) (w.log i)

-- the numbers of a row rise strictly, from above lo up to hi
pub data Rising : ℕ → ℕ → List Item → Type 0 where
  end : {lo hi : ℕ} → lo ≤ hi → Rising lo hi []
  next : {lo hi : ℕ} {x : Item} {l : List Item} → lo < x.proposal.number → Rising x.proposal.number hi l
      → Rising lo hi (x ∷ l)
