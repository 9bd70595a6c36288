-- An event of the world is a turn of one office, or nobody's: the others' states and logs stay, and no link gains but
-- by what that office sends. So what holds beside one office along its own turns holds along every run of the world.
use mathlib.Core.Path.{◌≡◌, refl, sym, ap, subst, ◌∙◌}
use mathlib.Core.Bool.{Bool}
use mathlib.Core.List.Memᴰ
use mathlib.Core.List.{List, [], ◌∷◌, ◌++◌, append_assoc, append-nil, Memᴰ}
use Prim.Native.Nat.{ℕ, ◌≤◌, ◌<◌}
use native.Mathlib.Omega.{arith}
use native.Mathlib.Decide.{ℕ_discrete}
use lib.ListN.{take}
use lib.Seq.{take-nil}
use Rattle.laws.specs.Lists.{Every, none, more}
use Rattle.laws.specs.Upd.{upd}
use Rattle.laws.proofs.Grid.{upd2_cases}
use Rattle.laws.proofs.Lists.{every_append, every_head, every_tail}
use Rattle.laws.proofs.Upd.{upd_same, upd_other, upd_cases}
use Rattle.records.specs.declared.Report.{Report}
use Rattle.records.specs.declared.Proposal.{Proposal}
use Rattle.rules.specs.State.{State, no_report}
use Rattle.rules.specs.Rules.{Written}
use Rattle.rules.specs.Leaving.{own_number}
use Rattle.rules.specs.Refusals.{a_report, a_proposal, Result}
use Rattle.runs.specs.Office.{Input, answer_to, Turn, broken, handed_at, left_at, next_turn, TurnAbove}
use Rattle.runs.specs.World.{Item, World, SentRecord, mail, logged, answered, with_link, idle, without, Underway}
use Rattle.runs.specs.World.{nothing_begun, begun_report, begun_delivery, WorldEvent, report, delivery, loss, cut}
use Rattle.runs.specs.World.{report_answer, proposal_answer, begun_writes, taken_up, cut_answer, next, Among}
use Rattle.runs.specs.Begins.{InF, CutAbove}
use Rattle.runs.specs.Turns.{hands_to, TurnAt, on_report, on_delivery, on_cut_report, on_cut_delivery}
use Rattle.runs.proofs.Links.{every_without}
use Rattle.runs.proofs.OfficeRuns.{Beside}
use Rattle.runs.proofs.OfficeTurns.{Companion, beside_turn}
use Rattle.runs.proofs.WorldArrays.{logged_every}

-- the records of a log in the order sent, and that one of them has left an office
abbrev pub sent_by : List SentRecord → List Written
sent_by [] = []
sent_by (x ∷ l) = sent_by l ++ (x.what ∷ [])

abbrev pub HasLeft : World → ℕ → Written → Type 0
HasLeft w i r = Memᴰ r (sent_by (w.log i))

sent_logged : (t : ℕ) (ws : List Written) (l : List SentRecord) → sent_by (logged t ws l) ≡ sent_by l ++ ws
sent_logged t [] l = sym (append-nil (sent_by l))
sent_logged t (r ∷ ws) l = sent_logged t ws (record { what = r; clock = t } ∷ l) ∙ append_assoc (sent_by l) (r ∷ []) ws

every_sent : {P : Written → Type 0} (l : List SentRecord) → Every (λ x. P x.what) l → Every P (sent_by l)
every_sent [] e = none
every_sent (x ∷ l) e = every_append (every_sent l (every_tail e)) (more (every_head e) none)

-- the world v is w with no more on any link, and another clock perhaps
pub record Lesser (w v : World) : Type 1 where
  pub states : v.state ≡ w.state
  pub logs : v.log ≡ w.log
  pub links : (i j : ℕ) (P : Item → Type 0) → Every P (w.link i j) → Every P (v.link i j)

-- the proposal p that comes to office o was the oldest on a link, and is taken off it in v
pub record Came (w v : World) (o : ℕ) (p : Proposal) : Type 0 where
  pub from : ℕ
  pub item : Item
  pub rest : List Item
  pub office : from < 16
  pub other : from ≡ o → ⊥
  pub front : w.link from o ≡ item ∷ rest
  pub is : item.proposal ≡ p
  pub left : v.link from o ≡ rest

-- each office has its own number
abbrev pub Owned : World → Type 0
Owned w = (o : ℕ) → o < 16 → (w.state o).own ≡ o

abbrev pub turned : State → Turn → Result
turned s t = record { refusal = 0; written = left_at s t; state = next_turn s t }

-- event e is the turn t of office o
pub record Turning (w : World) (e : WorldEvent) (o : ℕ) (t : Turn) : Type 1 where
  pub office : o < 16
  pub before : World
  pub lesser : Lesser w before
  pub came : (p : Proposal) → (handed_at t).event ≡ a_proposal p → Came w before o p
  pub is : next w e ≡ answered before o (turned (w.state o) t)
  pub above : (F : ℕ → Bool) → InF F o → CutAbove F w e → TurnAbove (w.state o) (sent_by (w.log o)) t

pub data WhoseTurn (w : World) (e : WorldEvent) : Type 1 where
  nobodys : Lesser w (next w e) → WhoseTurn w e
  somebodys : (o : ℕ) (t : Turn) → Turning w e o t → WhoseTurn w e

same_world : (w : World) → Lesser w w
same_world w = record { states = refl; logs = refl; links = λ i j P h. h }

no_proposal_lem : {r : Report} {p : Proposal} → a_report r ≡ a_proposal p → ⊥
no_proposal_lem e = let z : ◌≡◌ {A = ℕ} 0 1 = cc in omega arith

same_proposal : {p q : Proposal} → a_proposal p ≡ a_proposal q → p ≡ q
same_proposal e = cc

module _ (w : World) where
  linked : (i j : ℕ) (l : List Item) → (with_link w i j l).link i j ≡ l
  unfolding with_link
  linked i j l =
      ap (λ (f : ℕ → List Item). f j) (upd_same w.link i (upd (w.link i) j l)) ∙ upd_same (w.link i) j l

  fewer : (i j : ℕ) (l : List Item) → ((P : Item → Type 0) → Every P (w.link i j) → Every P l)
      → Lesser w (with_link w i j l)
  unfolding with_link
  fewer i j l h = record {
    states = refl;
    logs = refl;
    links = λ a b P e.
        upd2_cases (λ (a b : ℕ) (q : List Item). Every P (w.link a b) → Every P q) w.link i j l a b
        (h P) (λ n e. e) e;
  }

  fewer_front : (i j : ℕ) (x : Item) (l : List Item) → w.link i j ≡ x ∷ l → Lesser w (with_link w i j l)
  fewer_front i j x l f = fewer i j l (λ P h. every_tail (rw f at h))

  fewer_place : (i j place : ℕ) → Lesser w (with_link w i j (without place (w.link i j)))
  fewer_place i j place = fewer i j (without place (w.link i j)) (λ P h. every_without place _ h)

  -- a cut, whatever was begun
  module _ (o : ℕ) (own : (w.state o).own ≡ o) (b : Underway) (n m : ℕ) (h : Input) (left : ℕ)
      (less : Lesser w (taken_up w o b))
      (writes : take n (begun_writes w o b) ≡ take left (answer_to (w.state o) h).written) where
    abbrev t : Turn
    t = broken h left m

    cut_is : next w (cut o b n m) ≡ answered (taken_up w o b) o (turned (w.state o) t)
    unfolding next cut_answer answered
    cut_is = rw (writes, own)

    cut_above : (F : ℕ → Bool) → InF F o → CutAbove F w (cut o b n m)
        → TurnAbove (w.state o) (sent_by (w.log o)) t
    unfolding next answered cut_answer
    cut_above F i c =
        let k = c i in
        let e = rw (upd_same (taken_up w o b).log o, less.logs, writes) at k.0 in
        let x = logged_every (λ r. own_number r ≤ m) (taken_up w o b).clock (left_at (w.state o) t) (w.log o) e in
        (every_append (every_sent (w.log o) x.1) x.0, k.1)

    cut_turning : o < 16 → ((p : Proposal) → h.event ≡ a_proposal p → Came w (taken_up w o b) o p)
        → Turning w (cut o b n m) o t
    cut_turning lt c = record {
      office = lt;
      before = taken_up w o b;
      lesser = less;
      came = c;
      is = cut_is;
      above = cut_above;
    }

  pub turning : Owned w → (e : WorldEvent) → Among e → (o : ℕ) (t : Turn) → TurnAt w e o t → Turning w e o t
  turning own e m o t (on_report o' r room) = record {
    office = m.0;
    before = w;
    lesser = same_world w;
    came = λ p q. absurd (no_proposal_lem q);
    is = unfold next answered report_answer answer_to in refl;
    above = λ F i c. tt;
  }
  turning own e m o t (on_delivery i o' room x l f) = record {
    office = m.1;
    before = with_link w i o' l;
    lesser = fewer_front i o' x l f;
    came = λ p q. record {
      from = i;
      item = x;
      rest = l;
      office = m.0;
      other = m.2;
      front = f;
      is = same_proposal q;
      left = linked i o' l;
    };
    is = unfold next answered proposal_answer answer_to with_link in rw f;
    above = λ F i c. tt;
  }
  turning own e m o t (on_cut_report o' r room left k) =
      cut_turning o' (own o' m.0) (begun_report r room) left k (hands_to o' (a_report r) room) left
      (unfold taken_up in same_world w)
      (unfold begun_writes report_answer answer_to in refl) m.0 (λ p q. absurd (no_proposal_lem q))
  turning own e m o t (on_cut_delivery i o' room left k x l f) =
      cut_turning o' (own o' m.0) (begun_delivery i room) left k (hands_to o' (a_proposal x.proposal) room) left
      (unfold taken_up in fewer_place i o' 0) (unfold begun_writes proposal_answer answer_to in rw f) m.0
      (λ p q. record {
        from = i;
        item = x;
        rest = l;
        office = m.1.0;
        other = m.1.1;
        front = f;
        is = same_proposal q;
        left = unfold taken_up in linked i o' (without 0 (w.link i o')) ∙ ap (without 0) f;
      })

  -- nothing was begun, or nothing could be: a turn in which nothing has left
  idle_cut : (o : ℕ) → o < 16 → (w.state o).own ≡ o → (b : Underway) (n m : ℕ) → Lesser w (taken_up w o b)
      → begun_writes w o b ≡ [] → WhoseTurn w (cut o b n m)
  idle_cut o lt own b n m less e =
      let h = hands_to o (a_report no_report) 0 in
      somebodys o (broken h 0 m)
      (cut_turning o own b n m h 0 less (ap (take n) e ∙ take-nil n) lt (λ p q. absurd (no_proposal_lem q)))

  pub whose_turn : Owned w → (e : WorldEvent) → Among e → WhoseTurn w e
  whose_turn own (report o r room) m = somebodys o _ (turning own (report o r room) m o _ (on_report o r room))
  whose_turn own (loss i j place) m = nobodys (unfold next idle with_link in
      let x = fewer_place i j place in
      record { states = refl; logs = refl; links = unfold with_link in x.links })
  whose_turn own (delivery i j room) m = go (w.link i j) refl
    where
      go : (l : List Item) → w.link i j ≡ l → WhoseTurn w (delivery i j room)
      go [] f = nobodys (unfold next in rw f (unfold idle in
          record { states = refl; logs = refl; links = λ a b P h. h }))
      go (x ∷ l) f = somebodys j _ (turning own (delivery i j room) m j _ (on_delivery i j room x l f))
  whose_turn own (cut o nothing_begun n k) m =
      idle_cut o m.0 (own o m.0) nothing_begun n k (unfold taken_up in same_world w) (unfold begun_writes in refl)
  whose_turn own (cut o (begun_report r room) n k) m =
      somebodys o _ (turning own (cut o (begun_report r room) n k) m o _ (on_cut_report o r room n k))
  whose_turn own (cut o (begun_delivery i room) n k) m = go (w.link i o) refl
    where
      go : (l : List Item) → w.link i o ≡ l → WhoseTurn w (cut o (begun_delivery i room) n k)
      go [] f = idle_cut o m.0 (own o m.0) (begun_delivery i room) n k (unfold taken_up in fewer_place i o 0)
          (unfold begun_writes in rw f)
      go (x ∷ l) f = somebodys o _
          (turning own (cut o (begun_delivery i room) n k) m o _ (on_cut_delivery i o room n k x l f))

-- what a turn does
module _ {w : World} {e : WorldEvent} {o : ℕ} {t : Turn} (u : Turning w e o t) where
  pub own_state : (next w e).state o ≡ next_turn (w.state o) t
  unfolding answered
  own_state = ap (λ (v : World). v.state o) u.is ∙ upd_same u.before.state o (next_turn (w.state o) t)

  pub other_state : (i : ℕ) → (i ≡ o → ⊥) → (next w e).state i ≡ w.state i
  unfolding answered
  other_state i n = ap (λ (v : World). v.state i) u.is
      ∙ upd_other u.before.state o (next_turn (w.state o) t) i n ∙ ap (λ (f : ℕ → State). f i) u.lesser.states

  pub own_sent : sent_by ((next w e).log o) ≡ sent_by (w.log o) ++ left_at (w.state o) t
  unfolding answered
  own_sent = ap (λ (v : World). sent_by (v.log o)) u.is ∙ ap sent_by (upd_same u.before.log o _)
      ∙ sent_logged u.before.clock (left_at (w.state o) t) (u.before.log o)
      ∙ ap (λ (f : ℕ → List SentRecord). sent_by (f o) ++ left_at (w.state o) t) u.lesser.logs

  pub other_sent : (i : ℕ) → (i ≡ o → ⊥) → sent_by ((next w e).log i) ≡ sent_by (w.log i)
  unfolding answered
  other_sent i n = ap (λ (v : World). sent_by (v.log i)) u.is ∙ ap sent_by (upd_other u.before.log o _ i n)
      ∙ ap (λ (f : ℕ → List SentRecord). sent_by (f i)) u.lesser.logs

  -- a link has what it had before, and what the office sends
  pub turn_links : (P : ℕ → Item → Type 0) (i j : ℕ) → Every (P i) (u.before.link i j)
      → Every (P o) (mail u.before.clock j (left_at (w.state o) t)) → Every (P i) ((next w e).link i j)
  unfolding answered
  turn_links P i j old new = subst (λ (v : World). Every (P i) (v.link i j)) (sym u.is)
      (upd_cases (λ (i : ℕ) (f : ℕ → List Item). Every (P i) (u.before.link i j) → Every (P i) (f j))
      u.before.link o _ i (λ h. every_append h new) (λ n h. h) old)

  pub own_left : (r : Written) → Memᴰ r (left_at (w.state o) t) → HasLeft (next w e) o r
  own_left r m = subst (Memᴰ r) (sym own_sent) (Memᴰ.append_right (sent_by (w.log o)) m)

  turn_grows : (i : ℕ) (r : Written) → HasLeft w i r → HasLeft (next w e) i r
  turn_grows i r m = go (ℕ_discrete i o)
    where
      go : Dec (i ≡ o) → HasLeft (next w e) i r
      go (yes z) = subst (λ (k : ℕ). HasLeft (next w e) k r) (sym z) (subst (Memᴰ r) (sym own_sent)
          (Memᴰ.append_left (left_at (w.state o) t) (subst (λ (k : ℕ). HasLeft w k r) z m)))
      go (no n) = subst (Memᴰ r) (sym (other_sent i n)) m

-- what has left has left for good
pub left_grows : {w : World} {e : WorldEvent} → WhoseTurn w e → (i : ℕ) (r : Written) → HasLeft w i r
    → HasLeft (next w e) i r
left_grows (nobodys l) i r m = subst (λ (f : ℕ → List SentRecord). Memᴰ r (sent_by (f i))) (sym l.logs) m
left_grows (somebodys o t u) i r m = turn_grows u i r m

-- a companion of office o in the world
module _ {C : Type 0} {T : C → List Written → C → Type 0} {P : C → State → Type 0} {B : C → ℕ → Type 0}
    {I : Input → Type 0} (by : Companion T P B I) (any : (h : Input) → I h) (c : C) (low : (m : ℕ) → B c m)
    (F : ℕ → Bool) (o : ℕ) (in-F : InF F o) where
  abbrev pub BesideIn : World → Type 0
  BesideIn w = Beside T P c (sent_by (w.log o)) (w.state o)

  -- over its own turn
  pub turn_beside : (w : World) (e : WorldEvent) (t : Turn) → Turning w e o t → CutAbove F w e → (x : BesideIn w)
      → Beside T P x.then (left_at (w.state o) t) (next_turn (w.state o) t)
  turn_beside w e t u a x =
      beside_turn by x.then (w.state o) (sent_by (w.log o)) t (any (handed_at t)) x.holds
      (λ m h. by.bounded c x.then (sent_by (w.log o)) m x.told (low m) h) (u.above F in-F a)

  -- and over every event
  pub next_beside : (w : World) (e : WorldEvent) → WhoseTurn w e → CutAbove F w e → BesideIn w → BesideIn (next w e)
  next_beside w e (nobodys l) a x = rw (l.states, l.logs) x
  next_beside w e (somebodys j t u) a x = go (ℕ_discrete o j)
    where
      go : Dec (o ≡ j) → BesideIn (next w e)
      go (no n) = rw (other_state u o n, other_sent u o n) x
      go (yes z) =
          let v : Turning w e o t = subst (λ (k : ℕ). Turning w e k t) (sym z) u in
          let y = turn_beside w e t v a x in
          rw (own_state v, own_sent v)
          (record {
            then = y.then;
            told = by.and_more c x.then y.then (sent_by (w.log o)) (left_at (w.state o) t) x.told y.told;
            holds = y.holds;
          })
