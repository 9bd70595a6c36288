-- The offices as the proofs see them: an array for each part of their states, the five parts of an event as changes
-- of these arrays, the events as rows of parts. A part that an event does not touch stays the same array.
use mathlib.Core.Path.{◌≡◌}
use mathlib.Core.Bool.{Bool, true, false, ◌&&◌, not}
use mathlib.Core.Logic.{◌⊎◌}
use mathlib.Core.List.{List, [], ◌∷◌, ◌++◌}
use Prim.Native.Nat.{ℕ, ◌+◌, ◌≤◌, ◌<◌}
use lib.Dec.{eqb}
use Rattle.laws.specs.Lists.{Every}
use Rattle.laws.specs.Upd.{upd, ifb, upd2}
use Rattle.laws.specs.Fin.{largest}
use Rattle.laws.specs.Tab.{tab}
use Rattle.seats.specs.Offices.{serves}
use Rattle.records.specs.declared.Report.{Report}
use Rattle.records.specs.declared.Proposal.{Proposal}
use Rattle.records.specs.declared.Notice.{Notice}
use Rattle.records.specs.declared.View.{View}
use Rattle.rules.specs.State.{Mode, None, Fast, Slow, Slot, fast, slow, kind_of, nothing, keeping, used_for, number_in}
use Rattle.rules.specs.Rules.{Written, notice, proposal, view, has_recipient, net_after}
use Rattle.rules.specs.Refusals.{Result}
use Rattle.runs.specs.World.{Item, SentView, World, Underway, begun_delivery, WorldEvent, report, delivery, loss}
use Rattle.runs.specs.World.{cut, mail, without, report_answer, Gives}
use Rattle.runs.specs.Begins.{InF, Rising}

pub record Offices : Type 0 where
  pub num : ℕ → ℕ  -- the own proposal number
  pub mode : ℕ → Mode
  pub net : ℕ → ℕ  -- the net view
  pub stored : ℕ → ℕ → Slot  -- what an office stores for another
  pub acc : ℕ → ℕ → ℕ  -- the number that it last accepted from another
  pub used : ℕ → ℕ → ℕ  -- its used number for another
  pub link : ℕ → ℕ → List Item  -- the link from an office to another
  pub shown : ℕ → List SentView  -- the views that it sent, latest first
  pub made : ℕ → Proposal  -- the last proposal that it made
  pub seen : ℕ → ℕ → ℕ  -- the start number of another that its last view counted
  pub top : ℕ → ℕ  -- the largest number of a proposal that left it, cuts or not
  pub got : ℕ → ℕ → ℕ  -- the last number that it accepted from another, cuts or not

-- the proposals that p puts on the link to office j at time t
abbrev pub mail_to : ℕ → Proposal → ℕ → List Item
mail_to t p j = ifb (serves p.members.bits j && not (eqb j p.sender)) (record { proposal = p; sent = t } ∷ []) []

-- a report makes x the net view
unfoldable pub renet : Offices → ℕ → ℕ → Offices
renet g me x =
    record {
      num = g.num;
      mode = g.mode;
      net = upd g.net me x;
      stored = g.stored;
      acc = g.acc;
      used = g.used;
      link = g.link;
      shown = g.shown;
      made = g.made;
      seen = g.seen;
      top = g.top;
      got = g.got;
    }

-- a proposal p is made in mode m at time t, stored as the own and put on the links
unfoldable pub propose : Offices → ℕ → Mode → Proposal → ℕ → Offices
propose g me m p t =
    record {
      num = upd g.num me p.number;
      mode = upd g.mode me m;
      net = g.net;
      stored = upd2 g.stored me me (keeping p);
      acc = g.acc;
      used = g.used;
      link = upd g.link me (λ j. g.link me j ++ mail_to t p j);
      shown = g.shown;
      made = upd g.made me p;
      seen = g.seen;
      top = upd g.top me (ifb (has_recipient p) p.number (g.top me));
      got = g.got;
    }

-- the proposal p of office i arrives; l is what stays on the link
unfoldable pub receive : Offices → ℕ → ℕ → Proposal → List Item → Offices
receive g me i p l =
    record {
      num = g.num;
      mode = g.mode;
      net = g.net;
      stored = upd2 g.stored me i (keeping p);
      acc = upd2 g.acc me i p.number;
      used = g.used;
      link = upd2 g.link i me l;
      shown = g.shown;
      made = g.made;
      seen = g.seen;
      top = g.top;
      got = upd2 g.got me i p.number;
    }

-- the view of the set x with the start numbers f of its offices
unfoldable pub view_with : ℕ → (ℕ → ℕ) → View
view_with x f =
    record {
      number = 1 + largest 16 (λ o. ifb (serves x o) (f o) 0);
      members = record { bits = x };
      starts = tab 16 (λ o. ifb (serves x o) (f o) 0);
    }

-- the agreement test holds: the view is sent at time t, what it counted is used
unfoldable pub conclude : Offices → ℕ → ℕ → Offices
conclude g me t =
    record {
      num = g.num;
      mode = upd g.mode me None;
      net = g.net;
      stored = upd g.stored me (λ o. ifb (serves (g.net me) o) nothing (g.stored me o));
      acc = g.acc;
      used = upd g.used me (λ o. ifb (serves (g.net me) o) (number_in (g.stored me o)) (g.used me o));
      link = g.link;
      shown = upd g.shown me
          (record { view = view_with (g.net me) (λ o. (g.stored me o).proposal.start); sent = t } ∷ g.shown me);
      made = g.made;
      seen = upd g.seen me (λ o. (g.stored me o).proposal.start);
      top = g.top;
      got = g.got;
    }

-- the link from i to j becomes l
unfoldable pub relink : Offices → ℕ → ℕ → List Item → Offices
relink g i j l =
    record {
      num = g.num;
      mode = g.mode;
      net = g.net;
      stored = g.stored;
      acc = g.acc;
      used = g.used;
      link = upd2 g.link i j l;
      shown = g.shown;
      made = g.made;
      seen = g.seen;
      top = g.top;
      got = g.got;
    }

-- the largest number that has left, after the records ws
abbrev pub top_after : List Written → ℕ → ℕ
top_after [] n = n
top_after (notice x ∷ ws) n = top_after ws n
top_after (proposal p ∷ ws) n = top_after ws p.number
top_after (view v ∷ ws) n = top_after ws n

-- the views of ws, sent at time t, on top of others
abbrev pub shows : ℕ → List Written → List SentView → List SentView
shows t [] vs = vs
shows t (notice n ∷ ws) vs = shows t ws vs
shows t (proposal p ∷ ws) vs = shows t ws vs
shows t (view v ∷ ws) vs = shows t ws (record { view = v; sent = t } ∷ vs)

-- office me begins again at m, when the records ws have left
unfoldable pub restart : Offices → ℕ → ℕ → List Written → ℕ → Offices
restart g me m ws t =
    record {
      num = upd g.num me m;
      mode = upd g.mode me None;
      net = upd g.net me 0;
      stored = upd g.stored me (λ o. nothing);
      acc = upd g.acc me (λ o. 0);
      used = upd g.used me (λ o. 0);
      link = upd g.link me (λ j. g.link me j ++ mail t j ws);
      shown = upd g.shown me (shows t ws (g.shown me));
      made = g.made;
      seen = g.seen;
      top = upd g.top me (top_after ws (g.top me));
      got = g.got;
    }

-- office me stores a proposal of office o with the net view's members
abbrev pub Match : Offices → ℕ → ℕ → Type 0
Match g me o = ((g.stored me o).present ≡ true) × ((g.stored me o).proposal.members.bits ≡ g.net me)

abbrev pub other : Offices → ℕ → ℕ → Proposal
other g me o = (g.stored me o).proposal

-- the proposal p is one that office me makes
pub record Proposes (g : Offices) (me kind : ℕ) (p : Proposal) : Type 0 where
  pub from : p.sender ≡ me
  pub of_kind : p.kind ≡ kind
  pub of_net : p.members.bits ≡ g.net me
  pub above : g.num me < p.number
  pub with_used_lem : (o : ℕ) → o < 16 → used_for p o ≡ ifb (serves (g.net me) o) (g.used me o) 0

-- the numbers of the proposals among ws rise strictly, from above n
pub data Climbs : ℕ → List Written → Type 0 where
  climbs_none : {n : ℕ} → Climbs n []
  climbs_notice : {n : ℕ} {x : Notice} {ws : List Written} → Climbs n ws → Climbs n (notice x ∷ ws)
  climbs_view : {n : ℕ} {x : View} {ws : List Written} → Climbs n ws → Climbs n (view x ∷ ws)
  climbs_proposal : {n : ℕ} {p : Proposal} {ws : List Written} → n < p.number → Climbs p.number ws
      → Climbs n (proposal p ∷ ws)

-- what a proposal among them tells is what the office has used
pub data TellsUsed (f : ℕ → ℕ) : List Written → Type 0 where
  tells_none : TellsUsed f []
  tells_notice : {x : Notice} {ws : List Written} → TellsUsed f ws → TellsUsed f (notice x ∷ ws)
  tells_view : {x : View} {ws : List Written} → TellsUsed f ws → TellsUsed f (view x ∷ ws)
  tells_proposal : {p : Proposal} {ws : List Written} → ((o : ℕ) → o < 16 → used_for p o ≤ f o) → TellsUsed f ws
      → TellsUsed f (proposal p ∷ ws)

-- office me is cut off when the records ws have left, and begins again at m, which is not below any number that left
pub record Restarts (g : Offices) (me m : ℕ) (ws : List Written) : Type 0 where
  pub climbs : Climbs (g.num me) ws
  pub tells : TellsUsed (g.used me) ws
  pub above : top_after ws (g.top me) ≤ m

-- slow agreement is called for
pub data Calls (g : Offices) (me : ℕ) : Type 0 where
  in_mode_none : g.mode me ≡ None → Calls g me
  heard_slow : g.mode me ≡ Fast → (o : ℕ) → o < 16 → (o ≡ me → ⊥) → Match g me o → (other g me o).kind ≡ slow
      → Calls g me
  is_used : (o : ℕ) → o < 16 → (o ≡ me → ⊥) → Match g me o → used_for (other g me o) me ≡ g.num me → Calls g me
  heard_above : g.mode me ≡ Slow → (o : ℕ) → o < 16 → (o ≡ me → ⊥) → Match g me o → (other g me o).kind ≡ slow
      → g.num me < (other g me o).number → Calls g me

-- slow agreement is not called for
pub record Silent (g : Offices) (me : ℕ) : Type 0 where
  pub busy : g.mode me ≡ None → ⊥
  pub no_slow : g.mode me ≡ Fast → (o : ℕ) → o < 16 → (o ≡ me → ⊥) → Match g me o → (other g me o).kind ≡ slow → ⊥
  pub not_used : (o : ℕ) → o < 16 → (o ≡ me → ⊥) → Match g me o → used_for (other g me o) me ≡ g.num me → ⊥
  pub not_above_lem : g.mode me ≡ Slow → (o : ℕ) → o < 16 → (o ≡ me → ⊥) → Match g me o → (other g me o).kind ≡ slow
      → (other g me o).number ≤ g.num me

-- a matching slow proposal of another office has a number above the own one
abbrev pub Joinable : Offices → ℕ → ℕ → Type 0
Joinable g me o = (o < 16) × (o ≡ me → ⊥) × Match g me o × ((other g me o).kind ≡ slow)
    × (g.num me < (other g me o).number)

-- n is the number of a slow proposal that office me makes: the largest that it can join, or a new one where there is
-- none
pub data Chosen (g : Offices) (me n : ℕ) : Type 0 where
  joins : (o : ℕ) → Joinable g me o → n ≡ (other g me o).number
      → ((q : ℕ) → Joinable g me q → (other g me q).number ≤ n) → Chosen g me n
  starts : ((o : ℕ) → Joinable g me o → ⊥) → Chosen g me n

-- the agreement test
abbrev pub Agrees : Offices → ℕ → ℕ → Type 0
Agrees g me o =
    Match g me o × ((other g me o).kind ≡ kind_of (g.mode me)) × (g.mode me ≡ Slow → (other g me o).number ≡ g.num me)

pub record Agreed (g : Offices) (me : ℕ) : Type 0 where
  pub busy : g.mode me ≡ None → ⊥
  pub every : (o : ℕ) → o < 16 → serves (g.net me) o ≡ true → Agrees g me o

-- the slow test, then the agreement test, at time t
pub data SlowTest (t me : ℕ) : Offices → Offices → Type 0 where
  not_called : {g : Offices} → Silent g me → SlowTest t me g g
  called : {g : Offices} (p : Proposal) → Calls g me → Proposes g me slow p → Chosen g me p.number
      → SlowTest t me g (propose g me Slow p t)

pub data AgreementTest (t me : ℕ) : Offices → Offices → Type 0 where
  not_agreed : {g : Offices} → (Agreed g me → ⊥) → AgreementTest t me g g
  agreed : {g : Offices} → Agreed g me → AgreementTest t me g (conclude g me t)

pub data Tests (t me : ℕ) : Offices → Offices → Type 0 where
  both : {g h k : Offices} → SlowTest t me g h → AgreementTest t me h k → Tests t me g k

-- refused for the room or the ceiling
abbrev pub Barred : Result → Type 0
Barred r = (r.refusal ≡ 3) ⊎ (r.refusal ≡ 13)

module _ (F : ℕ → Bool) where
  -- what arrives: from an office of F it is the oldest on the link, and l is the rest
  pub record Arrives (g : Offices) (me i : ℕ) (p : Proposal) (l : List Item) : Type 0 where
    pub at_office : InF F me
    pub from_office : i < 16
    pub others : i ≡ me → ⊥
    pub with_seat : serves p.members.bits i ≡ true
    pub oldest : InF F i → (x : Item) × (g.link i me ≡ x ∷ l) × (x.proposal ≡ p)

  -- a link from an office of F
  abbrev pub FromF : ℕ → ℕ → Type 0
  FromF i j = InF F i × (j < 16) × (i ≡ j → ⊥)

  -- an event that leaves the offices of F and the links from them
  abbrev pub Apart : World → WorldEvent → Type 0
  Apart w (report o r room) = InF F o → ⊥
  Apart w (delivery i j room) = InF F i → InF F j → w.link i j ≡ []
  Apart w (loss i j place) = InF F i → ⊥
  Apart w (cut o b left m) = ⊥

  -- what is begun is taken up: of a delivery from an office of F the arrays lose the front of the link
  pub data TakesUp (me : ℕ) : Underway → Offices → Offices → Type 0 where
    takes_nothing : {g : Offices} {b : Underway} → TakesUp me b g g
    takes_front : {g : Offices} {i room : ℕ} → FromF i me
        → TakesUp me (begun_delivery i room) g (relink g i me (without 0 (g.link i me)))

  -- An event, as the offices of F see it. Refused where it is one of F: a report does nothing, a delivery loses the
  -- front of the link; between offices of F only the room or the ceiling refuses. A repeat does nothing; other reports
  -- give the office another net view.
  pub data Happens (w : World) : WorldEvent → Offices → Offices → Type 0 where
    idles : {e : WorldEvent} {g : Offices} → Apart w e → Happens w e g g
    refuses : {g : Offices} {me room : ℕ} {r : Report} → InF F me → Barred (report_answer w me r room)
        → Happens w (report me r room) g g
    repeated : {g : Offices} {me room : ℕ} {r : Report} → InF F me → net_after (g.net me) r ≡ g.net me
        → Happens w (report me r room) g g
    loses : {g : Offices} {i j place : ℕ} → FromF i j
        → Happens w (loss i j place) g (relink g i j (without place (g.link i j)))
    drops : {g : Offices} {i j room : ℕ} → FromF i j
        → (InF F j → (r : Result) × Gives w (delivery i j room) j r × Barred r)
        → Happens w (delivery i j room) g (relink g i j (without 0 (g.link i j)))
    leaves : {g : Offices} {me room : ℕ} {r : Report} (x : ℕ) → InF F me → (x ≡ g.net me → ⊥) → serves x me ≡ false
        → Happens w (report me r room) g (renet g me x)
    reports : {g h : Offices} {me room : ℕ} {r : Report} (x : ℕ) (p : Proposal) → InF F me → (x ≡ g.net me → ⊥)
        → Proposes (renet g me x) me fast p
        → Tests w.clock me (propose (renet g me x) me Fast p w.clock) h → Happens w (report me r room) g h
    stores : {g : Offices} {i me room : ℕ} (p : Proposal) (l : List Item) → Arrives g me i p l
        → (p.members.bits ≡ g.net me → ⊥)
        → Happens w (delivery i me room) g (receive g me i p l)
    answers : {g h : Offices} {i me room : ℕ} (p : Proposal) (l : List Item) → Arrives g me i p l
        → p.members.bits ≡ g.net me
        → Tests w.clock me (receive g me i p l) h → Happens w (delivery i me room) g h
    restarts_apart : {g h : Offices} {o left m : ℕ} {b : Underway} → (InF F o → ⊥) → TakesUp o b g h
        → Happens w (cut o b left m) g h
    restarts : {g h : Offices} {me left m : ℕ} {b : Underway} (ws : List Written) → InF F me → TakesUp me b g h
        → Restarts h me m ws
        → Happens w (cut me b left m) g (restart h me m ws w.clock)

  -- What every part of an event keeps of the numbers, for offices i and j of F.
  pub record Numbers (g : Offices) : Type 0 where
    -- numbers on a link rise up to the largest that left, which the own number has reached; at an office of F, above
    -- the last that it got
    pub rows : (i j : ℕ) → FromF i j → Rising 0 (g.top i) (g.link i j)
    pub rising : (i j : ℕ) → InF F i → InF F j → (i ≡ j → ⊥) → Rising (g.got j i) (g.top i) (g.link i j)
    pub top_num : (i : ℕ) → InF F i → g.top i ≤ g.num i
    pub acc_got : (i j : ℕ) → InF F i → InF F j → (i ≡ j → ⊥) → g.acc j i ≤ g.got j i
    -- nobody is told of a number of its own that has not left it
    pub told : (i j : ℕ) → InF F i → InF F j → (i ≡ j → ⊥)
        → Every (λ x. used_for x.proposal j ≤ g.top j) (g.link i j)
    -- what is stored has the number last accepted
    pub kept : (i j : ℕ) → InF F i → InF F j → (i ≡ j → ⊥) → (g.stored j i).present ≡ true
        → (other g j i).number ≡ g.acc j i
    pub kept_used : (i j : ℕ) → InF F i → InF F j → (i ≡ j → ⊥) → (g.stored j i).present ≡ true
        → used_for (other g j i) j ≤ g.num j
    pub used_acc : (i j : ℕ) → InF F i → InF F j → (i ≡ j → ⊥) → g.used j i ≤ g.acc j i
    -- what is stored for another office has a seat of that office
    pub with_seat : (i o : ℕ) → InF F i → o < 16 → (o ≡ i → ⊥) → (g.stored i o).present ≡ true
        → serves (other g i o).members.bits o ≡ true
    -- what is stored as the own, and used of it, is not above the own number
    pub own_kept : (i : ℕ) → InF F i → (g.stored i i).present ≡ true → (other g i i).number ≤ g.num i
    pub own_used : (i : ℕ) → InF F i → g.used i i ≤ g.num i
