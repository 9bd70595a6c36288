-- What the last reports, those that change a net view for the last time, add to the invariants of the runs. Before
-- event t the last report of office i has come where last i < t.
use mathlib.Core.Path.{◌≡◌}
use mathlib.Core.Bool.{false}
use mathlib.Core.Logic.{◌⊎◌}
use mathlib.Core.List.{List, [], ◌∷◌, ◌++◌}
use Prim.Native.Nat.{ℕ, ◌≤◌, ◌<◌}
use lib.ListN.{length, get_or}
use Rattle.laws.specs.Lists.{Every}
use Rattle.laws.specs.Upd.{ifb}
use Rattle.seats.specs.Offices.{serves}
use Rattle.records.specs.declared.Proposal.{Proposal}
use Rattle.rules.specs.State.{Mode, None, Fast, fast, slow, kind_of, keeping, used_for}
use Rattle.rules.specs.Rules.{Written}
use Rattle.runs.specs.World.{Item, SentView, Underway, without}
use Rattle.runs.proofs.Arrays.{Offices, restart, Restarts, TakesUp, renet, propose, receive, relink, view_with, Match}
use Rattle.runs.proofs.Arrays.{Proposes, Silent, Agreed, Tests, Arrives, Numbers}
use Rattle.settling.specs.Statement.{OfA}

-- what the two tests leave behind at office i
pub record AfterTests (g : Offices) (i : ℕ) : Type 0 where
  pub in_mode_none : g.mode i ≡ None → (o : ℕ) → o < 16 → (o ≡ i → ⊥) → Match g i o → ⊥
  pub quiet : (g.mode i ≡ None → ⊥) → Silent g i
  pub not_agreed : Agreed g i → ⊥

module _ (A : ℕ) (last : ℕ → ℕ) where
  -- before event t the last report of office i has been acted on
  abbrev pub Done : ℕ → ℕ → Type 0
  Done t i = OfA A i × (last i < t)

  -- event t is no last report, but perhaps that of office me
  abbrev pub NoLast : ℕ → Type 0
  NoLast t = (i : ℕ) → OfA A i → last i ≡ t → ⊥

  abbrev pub NoLastBut : ℕ → ℕ → Type 0
  NoLastBut me t = (i : ℕ) → OfA A i → (i ≡ me → ⊥) → last i ≡ t → ⊥

  -- office me reports: its last report has not come before, and with it the net view is A
  pub record Reported (g : Offices) (me x t : ℕ) (p : Proposal) : Type 0 where
    pub at_office : OfA A me
    pub open_yet : t ≤ last me
    pub makes : Proposes (renet g me x) me fast p
    pub is_a : last me ≡ t → x ≡ A
    pub no_other : NoLastBut me t

  -- office me makes the proposal p in mode m at event t; after its last report the net view is A
  pub record Proposing (g : Offices) (me : ℕ) (m : Mode) (p : Proposal) (t : ℕ) : Type 0 where
    pub at_office : OfA A me
    pub busy : m ≡ None → ⊥
    pub makes : Proposes g me (kind_of m) p
    pub is_a : last me ≤ t → g.net me ≡ A

  -- office me sends a view
  pub record Concluding (g : Offices) (me : ℕ) : Type 0 where
    pub at_office : OfA A me
    pub all_agree : Agreed g me

  -- an item on the link from i to j is lost at event t; between offices of A none that was sent from the last report
  -- on
  pub record Losing (g : Offices) (i j place t : ℕ) : Type 0 where
    pub from_office : OfA A i
    pub to_office : j < 16
    pub others : i ≡ j → ⊥
    pub early : OfA A j → (x : Item) → place < length (g.link i j) → get_or (g.link i j) place x ≡ x → x.sent < last i

  -- event t where the hypotheses hold, as the offices of A see it; n: the deliveries between them that it makes
  pub data HappensFairly (t : ℕ) : ℕ → Offices → Offices → Type 0 where
    fair_idle : {g : Offices} → NoLast t → HappensFairly t 0 g g
    fair_loss : {g : Offices} (i j place : ℕ) → NoLast t → Losing g i j place t
        → HappensFairly t 0 g (relink g i j (without place (g.link i j)))
    -- a cut of an office of A: every last report is still to come
    fair_cut : {g h : Offices} {b : Underway} (me m : ℕ) (ws : List Written) → OfA A me
        → ((i : ℕ) → OfA A i → t < last i) → TakesUp (serves A) me b g h
        → Restarts h me m ws → HappensFairly t 0 g (restart h me m ws t)
    fair_leave : {g : Offices} (me x : ℕ) → NoLast t → OfA A me → t ≤ last me → HappensFairly t 0 g (renet g me x)
    fair_report : {g h : Offices} (me x : ℕ) (p : Proposal) → Reported g me x t p
        → Tests t me (propose (renet g me x) me Fast p t) h → HappensFairly t 0 g h
    fair_store : {g : Offices} (me i : ℕ) (p : Proposal) (l : List Item) → NoLast t → Arrives (serves A) g me i p l
        → (p.members.bits ≡ g.net me → ⊥) → HappensFairly t (ifb (serves A i) 1 0) g (receive g me i p l)
    fair_answer : {g h : Offices} (me i : ℕ) (p : Proposal) (l : List Item) → NoLast t → Arrives (serves A) g me i p l
        → p.members.bits ≡ g.net me → Tests t me (receive g me i p l) h → HappensFairly t (ifb (serves A i) 1 0) g h

  -- where the last proposal of office i is, seen from office j
  pub data Place (g : Offices) (i j : ℕ) : Type 0 where
    on_its_way : (l : List Item) (x : Item) → g.link i j ≡ l ++ (x ∷ []) → x.proposal ≡ g.made i → last i ≤ x.sent
        → Place g i j
    is_stored : g.link i j ≡ [] → g.stored j i ≡ keeping (g.made i) → Place g i j
    counted : g.link i j ≡ [] → (g.stored j i).present ≡ false → g.used j i ≡ g.num i → Place g i j

  -- What every part of an event keeps, of two offices i and j of A. After the last report: the net view and the last
  -- proposal.
  pub record Book (t : ℕ) (g : Offices) : Type 0 where
    -- both are of A
    pub net_a : (i : ℕ) → Done t i → g.net i ≡ A
    pub made_a : (i : ℕ) → Done t i → (g.made i).members.bits ≡ A
    pub made_num : (i : ℕ) → Done t i → (g.made i).number ≡ g.num i
    pub made_kind : (i : ℕ) → Done t i → ((g.made i).kind ≡ fast) ⊎ ((g.made i).kind ≡ slow)
    -- the last proposal is on its way, stored or counted
    pub place : (i j : ℕ) → Done t i → OfA A j → (i ≡ j → ⊥) → Place g i j
    -- its used numbers are at most the others' own numbers
    pub made_used : (i j : ℕ) → Done t i → OfA A j → (i ≡ j → ⊥) → used_for (g.made i) j ≤ g.num j

  -- The open round, and the view that ended the last one.
  pub record Rounds (t : ℕ) (g : Offices) : Type 0 where
    -- while a round is open the own proposal is stored
    pub own_stored : (i : ℕ) → Done t i → (g.mode i ≡ None → ⊥) → g.stored i i ≡ keeping (g.made i)
    pub own_kind : (i : ℕ) → Done t i → (g.mode i ≡ None → ⊥) → (g.made i).kind ≡ kind_of (g.mode i)
    pub own_used : (i j : ℕ) → Done t i → OfA A j → (i ≡ j → ⊥) → (g.mode i ≡ None → ⊥)
        → used_for (g.made i) j ≡ g.used i j
    -- the view that ended the round: of A, sent since the last report, with the own start number
    pub viewed : (i : ℕ) → Done t i → g.mode i ≡ None
        → (s : ℕ) × (vs : List SentView) × (g.shown i ≡ record { view = view_with A (g.seen i); sent = s } ∷ vs)
        × (last i ≤ s)
    pub viewed_own : (i : ℕ) → Done t i → g.mode i ≡ None → g.seen i i ≡ (g.made i).start
    -- a view that counted the last proposal of i was of the same kind and round, and has its start number;
    -- or it is old: the last proposal of j was made after it
    pub counts : (i j : ℕ) → Done t i → Done t j → (i ≡ j → ⊥) → g.mode j ≡ None → g.used j i ≡ g.num i
        → (used_for (g.made j) i ≡ g.num i)
        ⊎ (((g.made i).kind ≡ (g.made j).kind) × ((g.made i).kind ≡ slow → g.num i ≡ g.num j)
        × (g.seen j i ≡ (g.made i).start))
    -- a slow round counts only the own number
    pub slow_used : (i j : ℕ) → Done t i → OfA A j → (i ≡ j → ⊥) → g.mode i ≡ None → (g.made i).kind ≡ slow
        → g.used i j ≡ g.num i
    -- who has used a slow proposal is not behind it, and tells so only by a higher number
    pub not_behind : (i j : ℕ) → Done t i → OfA A j → (i ≡ j → ⊥) → (g.made i).kind ≡ slow → g.used j i ≡ g.num i
        → g.num i ≤ g.num j
    pub tells_above : (i j : ℕ) → Done t i → OfA A j → (i ≡ j → ⊥) → (g.made i).kind ≡ slow
        → Every (λ x. used_for x.proposal i ≡ g.num i → g.num i < x.proposal.number) (g.link j i)

  pub record Core (t : ℕ) (g : Offices) : Type 0 where
    pub numbers : Numbers (serves A) g
    pub book : Book t g
    pub rounds : Rounds t g

  -- what holds before every event
  pub record Inv (t : ℕ) (g : Offices) : Type 0 where
    pub core : Core t g
    pub tested : (i : ℕ) → Done t i → AfterTests g i
    -- a used number that is current has not arrived
    pub not_arrived : (i j : ℕ) → Done t i → Done t j → (i ≡ j → ⊥) → used_for (g.made i) j ≡ g.num j
        → g.link i j ≡ [] → ⊥
