-- The world of sixteen offices, the links between them, the clock and the log; the events and what each does by the
-- rules of the step.
use Rattle.std.specs.Prelude.{◌≡◌, ◌&&◌, List, [], ◌∷◌, ◌++◌, ℕ, zero, suc, ◌+◌, ◌^◌, ◌<◌, length, take, get_or, eqb}
use Rattle.laws.specs.Lists.{runs}
use Rattle.laws.specs.Upd.{upd, ifb}
use Rattle.records.specs.declared.Report.{Report}
use Rattle.records.specs.declared.Proposal.{Proposal}
use Rattle.records.specs.declared.View.{View}
use Rattle.rules.specs.State.{State}
use Rattle.rules.specs.Rules.{Written, notice, proposal, view, restarted, net_after, receives}
use Rattle.rules.specs.Refusals.{a_report, a_proposal, Result, take_of}

-- A link is a row of proposals, oldest first. With each stands the clock of the event that sent it.
pub record Item : Type 0 where
  pub proposal : Proposal
  pub sent : ℕ

-- a record that an office sent, and the clock of its event
pub record SentRecord : Type 0 where
  pub what : Written
  pub clock : ℕ

-- a view that an office sent its seats, and the clock of its event
pub record SentView : Type 0 where
  pub view : View
  pub sent : ℕ

-- Sixteen offices and, from each to each other, a link. The clock counts the events so far; the log holds all that
-- each office sent, latest first.
pub record World : Type 0 where
  pub state : ℕ → State
  pub link : ℕ → ℕ → List Item
  pub clock : ℕ
  pub log : ℕ → List SentRecord

-- the world before the first event
unfoldable pub at_first : (ℕ → State) → (ℕ → ℕ → List Item) → World
at_first states links = record { state = states; link = links; clock = 0; log = λ i. [] }

-- What an office has begun when its server loses its current: nothing, a report, or the oldest proposal on the link
-- from an office.
pub data Underway : Type 0 where
  nothing_begun : Underway
  begun_report : (r : Report) (room : ℕ) → Underway
  begun_delivery : (from room : ℕ) → Underway

-- Report: one office is handed any joining and any leaving set. Delivery: the oldest proposal on a link is taken off
-- and handed to the office at its end. Loss: any one proposal on a link is taken off. `room` is the length of the lent
-- output. Cut: one office loses its current when the first `left` records of what it has begun have left, and begins
-- again at number m.
pub data WorldEvent : Type 0 where
  report : (office : ℕ) (r : Report) (room : ℕ) → WorldEvent
  delivery : (from to room : ℕ) → WorldEvent
  loss : (from to place : ℕ) → WorldEvent
  cut : (office : ℕ) (begun : Underway) (left m : ℕ) → WorldEvent

-- what an answer puts on the link to office j
abbrev pub mail : ℕ → ℕ → List Written → List Item
mail t j [] = []
mail t j (notice n ∷ ws) = mail t j ws
mail t j (proposal p ∷ ws) = ifb (receives p j) (record { proposal = p; sent = t } ∷ mail t j ws) (mail t j ws)
mail t j (view v ∷ ws) = mail t j ws

-- what an answer adds to the log
abbrev pub logged : ℕ → List Written → List SentRecord → List SentRecord
logged t [] l = l
logged t (r ∷ ws) l = logged t ws (record { what = r; clock = t } ∷ l)

-- the views of a log, latest first
abbrev pub view_on : Written → ℕ → List SentView → List SentView
view_on (notice n) t vs = vs
view_on (proposal p) t vs = vs
view_on (view v) t vs = record { view = v; sent = t } ∷ vs

abbrev pub views_in : List SentRecord → List SentView
views_in [] = []
views_in (x ∷ l) = view_on x.what x.clock (views_in l)

-- Office o gave the answer r: its state is r's, and each proposal written joins the end of the link to each
-- recipient. (A refusal gives back the state and writes nothing.)
unfoldable pub answered : World → ℕ → Result → World
answered w o r =
    record {
      state = upd w.state o r.state;
      link = upd w.link o (λ j. w.link o j ++ mail w.clock j r.written);
      clock = w.clock + 1;
      log = upd w.log o (logged w.clock r.written (w.log o));
    }

-- the world with the link from i to j changed to l
unfoldable pub with_link : World → ℕ → ℕ → List Item → World
with_link w i j l =
    record { state = w.state; link = upd w.link i (upd (w.link i) j l); clock = w.clock; log = w.log }

unfoldable pub idle : World → World
idle w = record { state = w.state; link = w.link; clock = w.clock + 1; log = w.log }

-- the row without the item at a place; where there is none, the row
abbrev pub without : ℕ → List Item → List Item
without n [] = []
without zero (x ∷ l) = l
without (suc n) (x ∷ l) = x ∷ without n l

-- what office o answers to a report, and to a proposal: it reads for itself
unfoldable pub report_answer : World → ℕ → Report → ℕ → Result
report_answer w o r room = take_of o (w.state o) (a_report r) room

unfoldable pub proposal_answer : World → ℕ → Proposal → ℕ → Result
proposal_answer w o p room = take_of o (w.state o) (a_proposal p) room

abbrev pub delivered : World → ℕ → ℕ → ℕ → List Item → World
delivered w i j room [] = idle w
delivered w i j room (x ∷ l) = answered (with_link w i j l) j (proposal_answer w j x.proposal room)

-- what office o writes to the oldest proposal of a row, and what it has begun to write
abbrev pub front_writes : World → ℕ → ℕ → List Item → List Written
front_writes w o room [] = []
front_writes w o room (x ∷ l) = (proposal_answer w o x.proposal room).written

unfoldable pub begun_writes : World → ℕ → Underway → List Written
begun_writes w o nothing_begun = []
begun_writes w o (begun_report r room) = (report_answer w o r room).written
begun_writes w o (begun_delivery i room) = front_writes w o room (w.link i o)

-- a delivery that was begun has taken its proposal off the link
unfoldable pub taken_up : World → ℕ → Underway → World
taken_up w o nothing_begun = w
taken_up w o (begun_report r room) = w
taken_up w o (begun_delivery i room) = with_link w i o (without 0 (w.link i o))

-- what had left has joined the links, which stay; all else that the office knew is gone
unfoldable pub cut_answer : World → ℕ → Underway → ℕ → ℕ → Result
cut_answer w o b left m = record { refusal = 0; written = take left (begun_writes w o b); state = restarted o m }

unfoldable pub next : World → WorldEvent → World
next w (report o r room) = answered w o (report_answer w o r room)
next w (delivery i j room) = delivered w i j room (w.link i j)
next w (loss i j place) = idle (with_link w i j (without place (w.link i j)))
next w (cut o b left m) = answered (taken_up w o b) o (cut_answer w o b left m)

abbrev pub run : World → List WorldEvent → World
run = runs next

-- the world before event n of the list
abbrev pub at : World → List WorldEvent → ℕ → World
at w es n = run w (take n es)

-- event n of the list is e
abbrev pub Nth : List WorldEvent → ℕ → WorldEvent → Type 0
Nth es n e = (n < length es) × (get_or es n e ≡ e)

-- the answer r that office o gives at an event, where it gives one
pub data Gives (w : World) : WorldEvent → ℕ → Result → Type 0 where
  to_report : (o : ℕ) (r : Report) (room : ℕ) → Gives w (report o r room) o (report_answer w o r room)
  to_proposal : (i o room : ℕ) (x : Item) (l : List Item) → w.link i o ≡ x ∷ l
      → Gives w (delivery i o room) o (proposal_answer w o x.proposal room)

-- what the accepted reports of office i make of the set x by step 1; a restart leaves the empty set
abbrev pub net_one : World → WorldEvent → ℕ → ℕ → ℕ
net_one w (report o r room) i x = ifb (eqb o i && eqb (report_answer w o r room).refusal 0) (net_after x r) x
net_one w (delivery a b room) i x = x
net_one w (loss a b place) i x = x
net_one w (cut o b left m) i x = ifb (eqb o i) 0 x

unfoldable pub net_by : World → List WorldEvent → ℕ → ℕ → ℕ
net_by w [] i x = x
net_by w (e ∷ es) i x = net_by (next w e) es i (net_one w e i x)

abbrev pub BegunAmong : ℕ → Underway → Type 0
BegunAmong o nothing_begun = Unit {0}
BegunAmong o (begun_report r room) = (r.joining.bits < 2 ^ 64) × (r.leaving.bits < 2 ^ 64)
BegunAmong o (begun_delivery i room) = (i < 16) × (i ≡ o → ⊥)

-- the event is one of sixteen offices and the links between them, with sets of 64 bits
abbrev pub Among : WorldEvent → Type 0
Among (report o r room) = (o < 16) × (r.joining.bits < 2 ^ 64) × (r.leaving.bits < 2 ^ 64)
Among (delivery i j room) = (i < 16) × (j < 16) × (i ≡ j → ⊥)
Among (loss i j place) = (i < 16) × (j < 16) × (i ≡ j → ⊥)
Among (cut o b left m) = (o < 16) × BegunAmong o b
