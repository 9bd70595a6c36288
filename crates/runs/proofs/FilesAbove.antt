-- Where the files of the offices of F are empty at first, each of them that is cut off begins again at or above every
-- number that left it.
use mathlib.Core.Path.{◌≡◌, refl, subst}
use mathlib.Core.Bool.{Bool}
use mathlib.Core.List.{List, [], ◌∷◌}
use Prim.Native.Nat.{ℕ, zero, suc, ◌≤◌}
use native.Mathlib.Omega.{arith}
use native.Mathlib.Decide.{ℕ_discrete}
use lib.ListN.{length, take}
use Rattle.laws.specs.Lists.{runs, Every, none, more}
use Rattle.laws.specs.Upd.{upd}
use Rattle.laws.proofs.Upd.{upd_same, upd_other}
use Rattle.records.specs.Numbers.{limit}
use Rattle.rules.specs.Refusals.{a_report, a_proposal}
use Rattle.rules.specs.State.{State}
use Rattle.rules.specs.Rules.{Written}
use Rattle.rules.specs.Leaving.{largest_in, actions_from, actions_of, file_after, left_in}
use Rattle.rule_laws.proofs.Leaving.{take_largest, no_marks_lem, Covering, covering_above, part_covers, all_covers}
use Rattle.runs.specs.World.{Item, World, SentRecord, at_first, logged, Underway, nothing_begun, begun_report}
use Rattle.runs.specs.World.{begun_delivery, WorldEvent, answered, with_link, idle, delivered, front_writes}
use Rattle.runs.specs.World.{begun_writes, taken_up, cut_answer, report_answer, proposal_answer, next, at, Nth}
use Rattle.runs.specs.Begins.{InF, CutAbove, RestartsAbove}
use Rattle.runs.specs.Files.{Filed, FileEvent, reports, delivers, loses, cuts, done_at, file_next, plain}
use Rattle.runs.specs.Files.{next_filed, plainly, filed_first}

-- the file covers all that is in the log
abbrev pub LogCovered : List ℕ → List SentRecord → Type 0
LogCovered = Covering (λ x. x.what)

pub logged_in_lem : (P : Written → Type 0) (t : ℕ) (ws : List Written) (l : List SentRecord) → Every P ws
    → Every (λ x. P x.what) l
    → Every (λ x. P x.what) (logged t ws l)
logged_in_lem P t [] l none e = e
logged_in_lem P t (r ∷ ws) l (more h hs) e = logged_in_lem P t ws _ hs (more h e)

-- after some of the actions of an answer, and after all of them
module _ (f : List ℕ) (log : List SentRecord) (ws : List Written) (t : ℕ) (k : LogCovered f log)
    (low : Every (λ w. largest_in w ≤ limit) ws) where
  abbrev with_log : List Written → List SentRecord
  with_log us = logged t us log

  pub part_covered : (n : ℕ) → let done = take n (actions_of f ws) in
      LogCovered (file_after f done) (with_log (take (length (left_in done)) ws))
  part_covered n = (part_covers (λ x. x.what) log with_log (λ P us. logged_in_lem P t us log) f ws k low n).1

  pub all_covered : LogCovered (file_after f (actions_of f ws)) (with_log ws)
  all_covered = (all_covers (λ x. x.what) log with_log (λ P us. logged_in_lem P t us log) f ws k low).1

begun_low : (w : World) (o : ℕ) (b : Underway) → Every (λ w. largest_in w ≤ limit) (begun_writes w o b)
unfolding begun_writes
begun_low w o nothing_begun = none
begun_low w o (begun_report r room) = unfold report_answer in take_largest o (w.state o) (a_report r) room
begun_low w o (begun_delivery i room) = go (w.link i o)
  where
    go : (l : List Item) → Every (λ w. largest_in w ≤ limit) (front_writes w o room l)
    go [] = none
    go (x ∷ l) = unfold proposal_answer in take_largest o (w.state o) (a_proposal x.proposal) room

module _ (F : ℕ → Bool) where
  abbrev AllCovered : Filed → Type 0
  AllCovered f = (i : ℕ) → InF F i → LogCovered (f.file i) (f.world.log i)

  -- one office's file and log change
  changed : (f : Filed) (o : ℕ) (g : List ℕ) (l : List SentRecord) → AllCovered f → (InF F o → LogCovered g l)
      → (i : ℕ) → InF F i → LogCovered (upd f.file o g i) (upd f.world.log o l i)
  changed f o g l a k i q = go (ℕ_discrete i o)
    where
      go : Dec (i ≡ o) → LogCovered (upd f.file o g i) (upd f.world.log o l i)
      go (yes e) = rw (e, upd_same f.file o g, upd_same f.world.log o l) (k (subst (InF F) e q))
      go (no n) = rw (upd_other f.file o g i n, upd_other f.world.log o l i n) (a i q)

  -- a file that stays
  kept : (f : Filed) (o : ℕ) (g : List ℕ) → g ≡ f.file o → AllCovered f → (i : ℕ) → InF F i
      → LogCovered (upd f.file o g i) (f.world.log i)
  kept f o g e a i q = go (ℕ_discrete i o)
    where
      go : Dec (i ≡ o) → LogCovered (upd f.file o g i) (f.world.log i)
      go (yes d) = rw (d, upd_same f.file o g, e) (a o (subst (InF F) d q))
      go (no n) = rw (upd_other f.file o g i n) (a i q)

  -- a cut
  cut_covered : (f : Filed) (o n : ℕ) (b : Underway) → AllCovered f → InF F o
      → LogCovered (file_next f (cuts o b n)) ((next f.world (plain f (cuts o b n))).log o)
  unfolding next answered cut_answer done_at taken_up with_link
  cut_covered f o n b a q =
      go b (part_covered (f.file o) (f.world.log o) (begun_writes f.world o b) f.world.clock (a o q)
      (begun_low f.world o b) n)
    where
      go : (b : Underway) → let done = take n (actions_of (f.file o) (begun_writes f.world o b)) in
          LogCovered (file_after (f.file o) done)
          (logged f.world.clock (take (length (left_in done)) (begun_writes f.world o b)) (f.world.log o))
          → LogCovered (file_next f (cuts o b n)) ((next f.world (plain f (cuts o b n))).log o)
      go nothing_begun x = rw (upd_same f.world.log o) x
      go (begun_report r room) x = rw (upd_same f.world.log o) x
      go (begun_delivery i room) x = rw (upd_same f.world.log o) x

  -- every event keeps it
  step_covered : (f : Filed) (e : FileEvent) → AllCovered f → AllCovered (next_filed f e)
  unfolding next_filed next done_at file_after
  step_covered f (reports o r room) a = unfold answered begun_writes in
      changed f o _ _ a (λ q. all_covered (f.file o) (f.world.log o) _ f.world.clock (a o q)
      (begun_low f.world o (begun_report r room)))
  step_covered f (loses i j place) a = unfold idle with_link in kept f i (f.file i) refl a
  step_covered f (delivers i j room) a = unfold begun_writes in
      go (f.world.link i j) (begun_low f.world j (begun_delivery i room))
    where
      go : (l : List Item) → Every (λ w. largest_in w ≤ limit) (front_writes f.world j room l) → (k : ℕ) → InF F k
          → LogCovered (upd f.file j
          (file_after (f.file j) (actions_of (f.file j) (front_writes f.world j room l)))
          k) ((delivered f.world i j room l).log k)
      go [] low = unfold idle actions_from file_after in kept f j (f.file j) refl a
      go (x ∷ l) low = unfold answered with_link in
          changed f j _ _ a (λ q. all_covered (f.file j) (f.world.log j) _ f.world.clock (a j q) low)
  step_covered f (cuts o b n) a = λ i q. go i q (ℕ_discrete i o)
    where
      other : (b : Underway) (i : ℕ) → (i ≡ o → ⊥) → (next f.world (plain f (cuts o b n))).log i ≡ f.world.log i
      other nothing_begun i d = unfold next answered taken_up in upd_other f.world.log o _ i d
      other (begun_report r room) i d = unfold next answered taken_up in upd_other f.world.log o _ i d
      other (begun_delivery j room) i d = unfold next answered taken_up with_link in upd_other f.world.log o _ i d

      go : (i : ℕ) → InF F i → Dec (i ≡ o)
          → LogCovered (upd f.file o (file_next f (cuts o b n)) i) ((next f.world (plain f (cuts o b n))).log i)
      go i q (yes e) = rw (e, upd_same f.file o (file_next f (cuts o b n)))
          (cut_covered f o n b a (subst (InF F) e q))
      go i q (no d) = rw (upd_other f.file o (file_next f (cuts o b n)) i d, other b i d) (a i q)

  above_one : (f : Filed) (e : FileEvent) → AllCovered f → CutAbove F f.world (plain f e)
  above_one f (reports o r room) a = tt
  above_one f (delivers i j room) a = tt
  above_one f (loses i j place) a = tt
  above_one f (cuts o b n) a = λ q. covering_above (λ x. x.what) _ _ (cut_covered f o n b a q)

  above_all : (f : Filed) (fs : List FileEvent) → AllCovered f → (n : ℕ) (e : WorldEvent) → Nth (plainly f fs) n e
      → CutAbove F (at f.world (plainly f fs) n) e
  unfolding plainly runs next_filed
  above_all f [] a n e h = absurd (let l = h.0 in omega arith)
  above_all f (x ∷ fs) a zero e h = subst (CutAbove F f.world) h.1 (above_one f x a)
  above_all f (x ∷ fs) a (suc n) e h =
      above_all (next_filed f x) fs (step_covered f x a) n e (let l = h.0 in omega arith, h.1)

  pub nothing_covered : LogCovered [] []
  nothing_covered = record { order = no_marks_lem; covered = none }

  -- the hypothesis of every theorem about runs with cuts
  pub restarts_above : (states : ℕ → State) (links : ℕ → ℕ → List Item) (files : ℕ → List ℕ)
      → ((i : ℕ) → InF F i → files i ≡ []) → (fs : List FileEvent)
      → RestartsAbove F (at_first states links) (plainly (filed_first states links files) fs)
  unfolding at_first
  restarts_above states links files empty fs =
      above_all (filed_first states links files) fs (λ i q. rw (empty i q) nothing_covered)
