-- Scenarios, for examples of the settling rule: a set, sixteen offices, a list of events. What the rule assumes of a
-- scenario is a list of tests that compute (proofs/Scenarios.antt turns them into the rule's own hypotheses); what it
-- shows is one record of numbers, to be compared with numbers written by hand.
use Rattle.std.specs.Prelude.{Bool, true, false, ◌&&◌, ◌||◌, not, List, [], ◌∷◌, ◌++◌, map, ℕ, zero, suc, ◌+◌, ◌-◌, ◌*◌}
use Rattle.std.specs.Prelude.{◌^◌, get_or, drop, eqb, ltb}
use Rattle.laws.specs.Fin.{allb, largest, sum}
use Rattle.laws.specs.Tab.{tab}
use Rattle.laws.specs.Lists.{runs, pieces}
use Rattle.laws.specs.Upd.{ifb}
use Rattle.seats.specs.Offices.{serves, count_of}
use Rattle.records.specs.declared.Proposal.{Proposal}
use Rattle.records.specs.Layout.{encode_high, decode_high}
use Rattle.rules.specs.State.{None, State, zeros, nothing}
use Rattle.rules.specs.Rules.{fresh}
use Rattle.rules.specs.Refusals.{well_formed, full_room}
use Rattle.rules.specs.Days.{given}
use Rattle.rules.specs.MarkFile.{last_in, last_high, high_bytes}
use Rattle.rules.specs.Leaving.{puts_all, actions_from, file_after, left_in}
use Rattle.runs.specs.World.{net_one, net_by, Item, SentView, views_in, World, at_first, Underway, nothing_begun}
use Rattle.runs.specs.World.{begun_report, begun_delivery, WorldEvent, report, delivery, loss, cut, answered, with_link}
use Rattle.runs.specs.World.{idle, begun_writes, taken_up, cut_answer, report_answer, proposal_answer, next, run, at}
pub use Rattle.runs.specs.Plays.{change, join, leave, hand, join_begun, changes, hands, three}
use Rattle.runs.specs.Files.{FileEvent, done_at, next_filed, plainly, filed_first}
use Rattle.settling.specs.Statement.{on_way, deliveries}

-- an office that does not start fresh, and a proposal that is on the link from its sender at first
pub record NotFresh : Type 0 where
  pub office : ℕ
  pub state : State

pub record Posted : Type 0 where
  pub to : ℕ
  pub proposal : Proposal

pub record Scenario : Type 0 where
  pub set : ℕ
  pub begun : List NotFresh
  pub posted : List Posted
  pub events : List WorldEvent

abbrev pub state_in : List NotFresh → ℕ → State
state_in [] i = fresh i
state_in (b ∷ bs) i = ifb (eqb b.office i) b.state (state_in bs i)

abbrev pub link_in : List Posted → ℕ → ℕ → List Item
link_in [] i j = []
link_in (x ∷ xs) i j =
    ifb (eqb x.proposal.sender i && eqb x.to j) (record { proposal = x.proposal; sent = 0 } ∷ link_in xs i j)
    (link_in xs i j)

abbrev pub opening : Scenario → World
opening p = at_first (state_in p.begun) (link_in p.posted)

-- Tests. t holds of each event of a list with the world before it
unfoldable pub everywhere : (World → WorldEvent → Bool) → World → List WorldEvent → Bool
everywhere t w [] = true
everywhere t w (e ∷ es) = t w e && everywhere t (next w e) es

abbrev pub begun_amongb : ℕ → Underway → Bool
begun_amongb o nothing_begun = true
begun_amongb o (begun_report r room) = ltb r.joining.bits (2 ^ 64) && ltb r.leaving.bits (2 ^ 64)
begun_amongb o (begun_delivery i room) = ltb i 16 && not (eqb i o)

abbrev pub amongb : World → WorldEvent → Bool
amongb w (report o r room) = ltb o 16 && (ltb r.joining.bits (2 ^ 64) && ltb r.leaving.bits (2 ^ 64))
amongb w (delivery i j room) = ltb i 16 && (ltb j 16 && not (eqb i j))
amongb w (loss i j place) = ltb i 16 && (ltb j 16 && not (eqb i j))
amongb w (cut o b left m) = ltb o 16 && begun_amongb o b

-- no office of the set x answers c
abbrev pub handed_not : ℕ → World → ℕ → ℕ → List Item → Bool
handed_not c w j room [] = true
handed_not c w j room (y ∷ l) = not (eqb (proposal_answer w j y.proposal room).refusal c)

abbrev pub answers_not : ℕ → ℕ → World → WorldEvent → Bool
answers_not x c w (report o r room) = not (serves x o) || not (eqb (report_answer w o r room).refusal c)
answers_not x c w (delivery i j room) = not (serves x j) || handed_not c w j room (w.link i j)
answers_not x c w (loss i j place) = true
answers_not x c w (cut o b left m) = true

-- a loss between offices of x takes only what was sent before the sender's last report
abbrev pub older_at : ℕ → ℕ → List Item → Bool
older_at t place [] = true
older_at t zero (y ∷ l) = ltb y.sent t
older_at t (suc n) (y ∷ l) = older_at t n l

abbrev pub loses_old : ℕ → (ℕ → ℕ) → World → WorldEvent → Bool
loses_old x last w (report o r room) = true
loses_old x last w (delivery i j room) = true
loses_old x last w (cut o b left m) = true
loses_old x last w (loss i j place) = not (serves x i) || (not (serves x j) || older_at (last i) place (w.link i j))

abbrev pub reports_to : ℕ → WorldEvent → Bool
reports_to i (report o r room) = eqb o i
reports_to i (delivery a b room) = false
reports_to i (loss a b place) = false
reports_to i (cut o b left m) = false

abbrev pub none_to : ℕ → List WorldEvent → Bool
none_to i [] = true
none_to i (e ∷ es) = not (reports_to i e) && none_to i es

-- a cut of an office of x comes before the office's own last report; before the last report of every office of x
abbrev pub cuts_early : ℕ → (ℕ → ℕ) → World → WorldEvent → Bool
cuts_early x last w (report o r room) = true
cuts_early x last w (delivery i j room) = true
cuts_early x last w (loss i j place) = true
cuts_early x last w (cut o b left m) = not (serves x o) || ltb w.clock (last o)

abbrev pub cuts_first : ℕ → (ℕ → ℕ) → World → WorldEvent → Bool
cuts_first x last w (report o r room) = true
cuts_first x last w (delivery i j room) = true
cuts_first x last w (loss i j place) = true
cuts_first x last w (cut o b left m) = not (serves x o) || allb 16 (λ i. not (serves x i) || ltb w.clock (last i))

abbrev pub cuts_off : ℕ → WorldEvent → Bool
cuts_off r (report o q room) = false
cuts_off r (delivery a b room) = false
cuts_off r (loss a b place) = false
cuts_off r (cut o b left m) = eqb o r

-- Office j hears of office r, from the world w on, where j's net view is x: a report brings a seat of r back; one
-- takes all out, and a later one brings one back; so after every cut of r.
module _ (j r : ℕ) where
  unfoldable pub back_in : World → List WorldEvent → ℕ → Bool
  back_in w [] x = false
  back_in w (e ∷ es) x =
      let y = net_one w e j x in (reports_to j e && serves y r) || back_in (next w e) es y

  unfoldable pub out_and_back_in : World → List WorldEvent → ℕ → Bool
  out_and_back_in w [] x = false
  out_and_back_in w (e ∷ es) x =
      let y = net_one w e j x in
      (reports_to j e && (not (serves y r) && back_in (next w e) es y)) || out_and_back_in (next w e) es y

  unfoldable pub after_cuts : World → List WorldEvent → ℕ → Bool
  after_cuts w [] x = true
  after_cuts w (e ∷ es) x =
      let y = net_one w e j x in
      (not (cuts_off r e) || out_and_back_in (next w e) es y) && after_cuts (next w e) es y

-- the place of the last report to office i, whether it changes the net view or not, where there is one
abbrev pub last_to : List WorldEvent → ℕ → ℕ
last_to [] i = 0
last_to (e ∷ es) i = ifb (none_to i es) 0 (suc (last_to es i))

-- Of an office, as the events go by: its net view, and the point just after the last report that changed it, 0 where
-- none has.
pub record Followed : Type 0 where
  pub net : ℕ
  pub point : ℕ

abbrev pub not_yet : Followed
not_yet = record { net = 0; point = 0 }

-- event n
abbrev pub follow : World → WorldEvent → ℕ → ℕ → Followed → Followed
follow w e n i c =
    let x = net_one w e i c.net in
    record { net = x; point = ifb (eqb x c.net) c.point (n + 1) }

-- all offices in one pass over the events, which begin with event n
unfoldable pub followed : World → List WorldEvent → ℕ → List Followed → List Followed
followed w [] n cs = cs
followed w (e ∷ es) n cs = followed (next w e) es (n + 1) (tab 16 (λ i. follow w e n i (get_or cs i not_yet)))

unfoldable pub points : Scenario → List ℕ
points p = map (λ c. c.point) (followed (opening p) p.events 0 (tab 16 (λ i. not_yet)))

-- which reports are the offices' last ones: whether office i has one, and its place
pub record Lasts : Type 0 where
  pub has : ℕ → Bool
  pub place : ℕ → ℕ

-- the rule's: the last that changed the net view
unfoldable pub change_at : Scenario → Lasts
change_at p =
    let ends = points p in
    record {
      has = λ i. ltb 0 (get_or ends i 0) && reports_to i (get_or p.events (get_or ends i 0 - 1) (loss 0 0 0));
      place = λ i. get_or ends i 0 - 1;
    }

-- the last in the list
unfoldable pub report_at : Scenario → Lasts
report_at p = record { has = λ i. not (none_to i p.events); place = last_to p.events }

abbrev pub all_fresh : ℕ → List NotFresh → Bool
all_fresh x [] = true
all_fresh x (b ∷ bs) = not (serves x b.office) && all_fresh x bs

abbrev pub no_mail : ℕ → List Posted → Bool
no_mail x [] = true
no_mail x (y ∷ ys) = not (serves x y.proposal.sender) && no_mail x ys

abbrev pub passes : ℕ → State → Bool
passes o s = eqb s.own o && well_formed s

-- of every office of x
abbrev pub of_each : ℕ → (ℕ → Bool) → Bool
of_each x t = allb 16 (λ i. not (serves x i) || t i)

-- what the rule assumes, by its names; the last three are of cuts
pub data Hypothesis : Type 0 where
  some_seat starts_fresh without_mail others_pass others_mail among has_last net_is_a with_room no_ceiling
      none_lost before_last out_and_back cuts_before_all : Hypothesis

unfoldable pub holds : Scenario → Lasts → Hypothesis → Bool
holds p l some_seat = ltb 0 p.set && ltb p.set (2 ^ 64)
holds p l starts_fresh = all_fresh p.set p.begun
holds p l without_mail = no_mail p.set p.posted
holds p l others_pass = allb 16 (λ o. serves p.set o || passes o (state_in p.begun o))
-- a posted proposal stands on its sender's own link
holds p l others_mail = true
holds p l among = everywhere amongb (opening p) p.events
holds p l has_last = of_each p.set l.has
holds p l net_is_a = of_each p.set (λ i. eqb (net_by (opening p) p.events i 0) p.set)
holds p l with_room = everywhere (answers_not p.set 3) (opening p) p.events
holds p l no_ceiling = everywhere (answers_not p.set 13) (opening p) p.events
holds p l none_lost = everywhere (loses_old p.set l.place) (opening p) p.events
holds p l before_last = everywhere (cuts_early p.set l.place) (opening p) p.events
holds p l out_and_back =
    of_each p.set (λ r. of_each p.set (λ j. eqb j r || after_cuts j r (opening p) p.events 0))
holds p l cuts_before_all = everywhere (cuts_first p.set l.place) (opening p) p.events

-- of any list, and of its cuts: request 7's words, and what is needed
abbrev pub assumed : List Hypothesis
assumed =
    some_seat ∷ starts_fresh ∷ without_mail ∷ others_pass ∷ others_mail ∷ among ∷ has_last ∷ net_is_a ∷ with_room
    ∷ no_ceiling ∷ none_lost ∷ []

abbrev pub of_cuts : List Hypothesis
of_cuts = before_last ∷ out_and_back ∷ cuts_before_all ∷ []

abbrev pub hypotheses : List Hypothesis
hypotheses = assumed ++ of_cuts

abbrev pub failing : (Hypothesis → Bool) → List Hypothesis → List Hypothesis
failing t [] = []
failing t (x ∷ xs) = ifb (t x) [] (x ∷ []) ++ failing t xs

-- the hypotheses that a scenario fails; the same where the last report in the list counts, also one that changes
-- nothing
unfoldable pub fails : Scenario → List Hypothesis
fails p = failing (holds p (change_at p)) hypotheses

unfoldable pub fails_by_report : Scenario → List Hypothesis
fails_by_report p = failing (holds p (report_at p)) hypotheses

-- office i of the set has the latest of the last reports: the point of the rule is just after that
unfoldable pub reported_last : Scenario → ℕ → Bool
reported_last p i =
    ltb i 16 && (serves p.set i && of_each p.set (λ j. ltb ((change_at p).place j) ((change_at p).place i + 1)))

-- the latest view that an office sent, with the event that sent it: the start numbers are of offices 0, 1, 2 and so on
pub data Latest : Type 0 where
  no_view : Latest
  sent_at : (event number members : ℕ) (starts : List ℕ) → Latest

abbrev pub latest : List SentView → Latest
latest [] = no_view
latest (v ∷ vs) = sent_at v.sent v.view.number v.view.members.bits v.view.starts

-- what each report and delivery is answered; an event that hands nobody anything has no answer
abbrev pub handed : World → ℕ → ℕ → List Item → List ℕ
handed w j room [] = []
handed w j room (x ∷ l) = (proposal_answer w j x.proposal room).refusal ∷ []

abbrev pub answer : World → WorldEvent → List ℕ
answer w (report o r room) = (report_answer w o r room).refusal ∷ []
answer w (delivery i j room) = handed w j room (w.link i j)
answer w (loss i j place) = []
answer w (cut o b left m) = []

unfoldable pub answers_to : World → List WorldEvent → List ℕ
answers_to w [] = []
answers_to w (e ∷ es) = answer w e ++ answers_to (next w e) es

-- the point just after the last report of an office of the set
unfoldable pub point_of : Scenario → ℕ
point_of p = largest 16 (λ i. ifb (serves p.set i) (get_or (points p) i 0) 0)

pub record Summary : Type 0 where
  -- the hypotheses of the rule that it fails
  pub fails : List Hypothesis
  -- the rule's T, P and k, its bound, and the deliveries between the k from T on
  pub point : ℕ
  pub way_count : ℕ
  pub offices : ℕ
  pub bound : ℕ
  pub delivered : ℕ
  -- the answers, in order
  pub answers : List ℕ
  -- at the end: how many are on their way between the k, and the latest views of offices 0, 1, 2
  pub left : ℕ
  pub views : List Latest

-- who unfolds this unfolds the rules
unfoldable pub summary : Scenario → Summary
unfolding given at_first answered with_link idle begun_writes taken_up cut_answer report_answer proposal_answer next
    runs net_by count_of deliveries sum followed points change_at report_at everywhere back_in out_and_back_in
    after_cuts holds fails fails_by_report reported_last answers_to point_of
summary p =
    let t = point_of p in
    let w = at (opening p) p.events t in
    let end = run (opening p) p.events in
    let way = on_way p.set w.link in
    let k = count_of p.set in
    record {
      fails = fails p;
      point = t;
      way_count = way;
      offices = k;
      bound = way + k * (k - 1) * (way + k);
      delivered = deliveries p.set w (drop t p.events);
      answers = answers_to (opening p) p.events;
      left = on_way p.set end.link;
      views = latest (views_in (end.log 0)) ∷ latest (views_in (end.log 1)) ∷ latest (views_in (end.log 2)) ∷ [];
    }

-- an output that is one byte short
abbrev pub short_room : ℕ
short_room = full_room - 1

-- the events that a list with files is, the files empty at first; who unfolds this unfolds what an office does to its
-- file
unfoldable pub with_files : List FileEvent → List WorldEvent
unfolding summary plainly next_filed done_at actions_from puts_all file_after left_in high_bytes encode_high decode_high
    pieces last_in last_high
with_files fs = plainly (filed_first (state_in []) (link_in []) (λ i. [])) fs

-- an office in mode none with nothing stored and no view yet
abbrev pub in_none : (own net start number : ℕ) (accepted used : List ℕ) → State
in_none own net start number accepted used =
    record {
      own = own;
      mode = None;
      net = record { bits = net };
      stored = tab 16 (λ o. nothing);
      accepted = accepted;
      view = record { number = 0; members = record { bits = 0 }; starts = zeros };
      start = start;
      number = number;
      used = used;
    }
