-- A cut is an event of the arrays: what had left joins the links, and the office begins again.
use mathlib.Core.Path.{◌≡◌, refl, sym, ap, subst, ◌∙◌}
use mathlib.Core.Bool.{Bool, true, false}
use mathlib.Core.Logic.{◌⊎◌, inl, inr}
use mathlib.Core.List.{List, [], ◌∷◌}
use Prim.Native.Nat.{ℕ, zero, suc, ◌≤◌, ◌<◌}
use native.Mathlib.Omega.{arith}
use lib.ListN.{take}
use Rattle.laws.specs.Lists.{Every, none, more}
use Rattle.laws.proofs.Lists.{every_take, every_head, every_tail}
use Rattle.laws.proofs.Fin.{if_le, true_false}
use Rattle.laws.proofs.Upd.{upd_same, upd_other}
use Rattle.laws.proofs.Grid.{upd2_agree}
use Rattle.seats.specs.Offices.{serves}
use Rattle.records.specs.Numbers.{limit}
use Rattle.records.specs.declared.Proposal.{Proposal}
use Rattle.rules.specs.State.{None, State, used_at, used_for}
use Rattle.rules.specs.Rules.{Written, notice, proposal, view, Outcome, restarted}
use Rattle.rules.specs.Leaving.{own_number}
use Rattle.rules.specs.Refusals.{Event, a_report, a_proposal, take_of}
use Rattle.rule_laws.proofs.Parts.{restarted_reads}
use Rattle.rule_laws.proofs.Walk.{arrived_used}
use Rattle.rule_laws.proofs.Steps.{restarted_well, take_by}
use Rattle.rule_laws.proofs.Monotone.{Ascending, at_end, past_notice, past_view, past_proposal, take_rises}
use Rattle.runs.specs.World.{Item, World, Underway, nothing_begun, begun_report, begun_delivery, WorldEvent, cut}
use Rattle.runs.specs.World.{without, answered, with_link, front_writes, begun_writes, taken_up, cut_answer, next}
use Rattle.runs.specs.World.{report_answer, proposal_answer, Among}
use Rattle.runs.specs.Begins.{InF}
use Rattle.runs.proofs.Arrays.{Offices, relink, restart, top_after, Climbs, climbs_none, climbs_notice, climbs_view}
use Rattle.runs.proofs.Arrays.{climbs_proposal, TellsUsed, tells_none, tells_notice, tells_view, tells_proposal}
use Rattle.runs.proofs.Arrays.{Restarts, FromF, Numbers, takes_nothing, takes_front, Happens, restarts_apart, restarts}
use Rattle.runs.proofs.Links.{every_without}
use Rattle.runs.proofs.StateArrays.{Sim}
use Rattle.runs.proofs.RulesArrays.{Same, Moved}
use Rattle.runs.proofs.Proposals.{EachProposal, if_notice, if_proposal, if_view, each_map, MadeBetween}
use Rattle.runs.proofs.Proposals.{makes_event, step_names}
use Rattle.runs.proofs.WorldArrays.{Seen, SeenAll, Sends, GoodAnswer, Linked, logged_every, seen_but}
use Rattle.runs.proofs.WorldArrays.{seen_moved, seen_linked, seen_outside, below_sixteen}
use Rattle.runs.proofs.Reporting.{report_sends}
use Rattle.runs.proofs.Delivering.{outside_link, delivery_sends}

-- the numbers of what an answer sends climb from the own number, also where only the first records leave
ascending_climbs : {n k : ℕ} {ws : List Written} → Ascending n ws k → Climbs n ws
ascending_climbs (at_end h) = climbs_none
ascending_climbs (past_notice r) = climbs_notice (ascending_climbs r)
ascending_climbs (past_view r) = climbs_view (ascending_climbs r)
ascending_climbs (past_proposal h r) = climbs_proposal h (ascending_climbs r)

climbs_take : (k : ℕ) {n : ℕ} {ws : List Written} → Climbs n ws → Climbs n (take k ws)
climbs_take zero c = climbs_none
climbs_take (suc k) climbs_none = climbs_none
climbs_take (suc k) (climbs_notice c) = climbs_notice (climbs_take k c)
climbs_take (suc k) (climbs_view c) = climbs_view (climbs_take k c)
climbs_take (suc k) (climbs_proposal h c) = climbs_proposal h (climbs_take k c)

-- the numbers used that a proposal tells are those of the state
abbrev TellsOf : (ℕ → ℕ) → Proposal → Type 0
TellsOf f p = (o : ℕ) → o < 16 → used_for p o ≤ f o

each_tells : {f : ℕ → ℕ} (ws : List Written) → EachProposal (TellsOf f) ws → TellsUsed f ws
each_tells [] none = tells_none
each_tells (notice n ∷ ws) (more if_notice e) = tells_notice (each_tells ws e)
each_tells (view v ∷ ws) (more if_view e) = tells_view (each_tells ws e)
each_tells (proposal p ∷ ws) (more (if_proposal h) e) = tells_proposal h (each_tells ws e)

made_tells : (s t u : State) → ((o : ℕ) → o < 16 → used_at t o ≡ used_at s o) → (p : Proposal) → MadeBetween t u p
    → TellsOf (used_at s) p
made_tells s t u e p m o lt =
    let a = e o lt in
    rw (m.used o lt) (if_le (serves t.net.bits o) (used_at t o) 0 (used_at s o) (omega arith) (omega arith))

take_tells : (office : ℕ) (s : State) (e : Event) (room : ℕ)
    → EachProposal (TellsOf (used_at s)) (take_of office s e room).written
take_tells office s e room = take_by office s e room (λ ws t. EachProposal (TellsOf (used_at s)) ws) none
    (λ a. each_map (made_tells s _ _ (arrived_used s e)) (makes_event s e).sends)

-- what is at or above all that left
top_le : (k n : ℕ) (ws : List Written) → n ≤ k → Every (λ w. own_number w ≤ k) ws → top_after ws n ≤ k
top_le k n [] l e = l
top_le k n (notice x ∷ ws) l e = top_le k n ws l (every_tail e)
top_le k n (view v ∷ ws) l e = top_le k n ws l (every_tail e)
top_le k n (proposal p ∷ ws) l e = top_le k p.number ws (every_head e) (every_tail e)

module _ (F : ℕ → Bool) where
  -- whether an office is of F
  pub in_f? : (i : ℕ) → i < 16 → InF F i ⊎ (InF F i → ⊥)
  in_f? i lt = go (F i) refl
    where
      go : (t : Bool) → F i ≡ t → InF F i ⊎ (InF F i → ⊥)
      go true e = inl (lt, e)
      go false e = inr (λ q. true_false _ q.1 e)

  -- the arrays after a restart
  module _ (g : Offices) (me m : ℕ) (ws : List Written) (t : ℕ) where
    same_restart : (i : ℕ) → (i ≡ me → ⊥) → Same g (restart g me m ws t) i
    unfolding restart
    same_restart i n = record {
      num = upd_other g.num me _ i n;
      mode = upd_other g.mode me _ i n;
      net = upd_other g.net me _ i n;
      stored = upd_other g.stored me _ i n;
      acc = upd_other g.acc me _ i n;
      used = upd_other g.used me _ i n;
      link = upd_other g.link me _ i n;
      shown = upd_other g.shown me _ i n;
      top = upd_other g.top me _ i n;
    }

    sim_restart : Sim (restarted me m) (restart g me m ws t) me
    unfolding restart
    sim_restart =
        let r = restarted_reads me m in
        record {
          own = r.own_is;
          num = r.number_is ∙ sym (upd_same g.num me m);
          mode = r.mode_is ∙ sym (upd_same g.mode me None);
          net = r.net_is ∙ sym (upd_same g.net me 0);
          stored = λ o lt. r.stored_is o lt ∙ sym (ap (λ f. f o) (upd_same g.stored me _));
          acc = λ o lt. r.accepted_is o lt ∙ sym (ap (λ f. f o) (upd_same g.acc me _));
          used = λ o lt. r.used_is o lt ∙ sym (ap (λ f. f o) (upd_same g.used me _));
        }

    moved_restart : Moved t me g (record { state = restarted me m; written = ws }) (restart g me m ws t)
    unfolding restart
    moved_restart = record {
      sim = sim_restart;
      mailed = λ j lt. ap (λ f. f j) (upd_same g.link me _);
      showed = upd_same g.shown me _;
      topped = λ k l e. rw (upd_same g.top me) (top_le k (g.top me) ws l e);
      elsewhere = same_restart;
    }

  -- the front of a link goes, where there is one
  module _ (w : World) (g : Offices) (i j y : ℕ) (seen : SeenAll F w g) where
    abbrev rest : List Item
    rest = without 0 (w.link i j)

    gone_from : FromF F i j → Linked F w g (relink g i j (without 0 (g.link i j))) y i j rest
    unfolding relink with_link
    gone_from f = record {
      kept = λ a n. record { num = refl; mode = refl; net = refl; stored = refl; acc = refl; used = refl };
      same_shown = refl;
      same_top = refl;
      links = λ c d p. upd2_agree w.link g.link i j rest (without 0 (g.link i j)) c d
          (ap (without 0) (seen.links i j f)) (seen.links c d p);
      part = λ P h. every_without 0 (w.link i j) h;
    }

    gone_outside : (InF F i → ⊥) → Linked F w g g y i j rest
    gone_outside out = record {
      kept = λ a n. record { num = refl; mode = refl; net = refl; stored = refl; acc = refl; used = refl };
      same_shown = refl;
      same_top = refl;
      links = outside_link F w g i j rest seen out;
      part = λ P h. every_without 0 (w.link i j) h;
    }

  abbrev Acted : World → Offices → WorldEvent → World → Type 0
  Acted w g e v = (h : Offices) × Happens F w e g h × SeenAll F v h

  -- at an office of F
  module _ (w : World) (g : Offices) (me left m : ℕ) (seen : SeenAll F w g) (core : Numbers F g) (q : InF F me)
      (low : m ≤ limit) where
    abbrev mine : State
    mine = w.state me

    sim : Sim mine g me
    sim = seen.sim me q (below_sixteen F q.0)

    record BegunAnswer (ws : List Written) : Type 0 where
      climbs : Climbs mine.number ws
      tells : EachProposal (TellsOf (used_at mine)) ws
      sends : Sends F me ws

    nothing : BegunAnswer []
    nothing = record {
      climbs = climbs_none;
      tells = none;
      sends = record { valid = none; names = none };
    }

    begun : (b : Underway) → Among (cut me b left m) → BegunAnswer (begun_writes w me b)
    unfolding begun_writes
    begun nothing_begun a = nothing
    begun (begun_report r room) a = record {
      climbs = unfold report_answer in ascending_climbs (take_rises me mine (a_report r) room).numbers;
      tells = unfold report_answer in take_tells me mine (a_report r) room;
      sends = report_sends F w g me r room seen core q (q.0, a.1.0, a.1.1);
    }
    begun (begun_delivery i room) a = go (w.link i me) refl
      where
        go : (l : List Item) → w.link i me ≡ l → BegunAnswer (front_writes w me room l)
        go [] e = nothing
        go (x ∷ l) e = record {
          climbs = unfold proposal_answer in
              ascending_climbs (take_rises me mine (a_proposal x.proposal) room).numbers;
          tells = unfold proposal_answer in take_tells me mine (a_proposal x.proposal) room;
          sends = delivery_sends F w g i me room x l seen core q e (a.1.0, q.0, a.1.1);
        }

    abbrev written_left : Underway → List Written
    written_left b = take left (begun_writes w me b)

    restarting : (b : Underway) → Among (cut me b left m) → Every (λ v. own_number v ≤ m) (written_left b)
        → g.top me ≤ m
        → (h : Offices) → h.num me ≡ g.num me → h.used me ≡ g.used me → h.top me ≡ g.top me
        → Restarts h me m (written_left b)
    restarting b a e l h en eu et =
        let x = begun b a in
        record {
          climbs = rw (en, ← sim.num) (climbs_take left x.climbs);
          tells = each_tells (written_left b)
              (each_map (λ p t o lt. let y = t o lt in let z = sim.used o lt in let v = ap (λ f. f o) eu in
              omega arith) (every_take left x.tells));
          above = rw et (top_le m (g.top me) (written_left b) l e);
        }

    ends : (b : Underway) → Among (cut me b left m) → (v : World) → (h : Offices) → v.clock ≡ w.clock → Seen F me v h
        → SeenAll F (answered v me (cut_answer w me b left m)) (restart h me m (written_left b) w.clock)
    unfolding cut_answer
    ends b a v h c s =
        let x = (begun b a).sends in
        let out : Outcome = record { state = restarted me m; written = written_left b } in
        let r = restarted_reads me m in
        let ans : GoodAnswer F me out = record {
          is_good = record {
            passes = restarted_well me m q.0 low;
            net = rw r.net_is (omega arith);
            begun = λ n. absurd (n r.mode_is);
          };
          own = r.own_is;
          sends = every_take left x.valid;
          names = every_take left x.names;
        } in
        seen_moved F v h (restart h me m (written_left b) w.clock) me out s ans q
        (subst (λ (t : ℕ). Moved t me h out (restart h me m (written_left b) w.clock)) (sym c)
        (moved_restart h me m (written_left b) w.clock))

    -- what had left is not above the number at which it begins again
    left_below : (b : Underway) (v : World) → v.log me ≡ w.log me → v.clock ≡ w.clock
        → Every (λ x. own_number x.what ≤ m) ((answered v me (cut_answer w me b left m)).log me)
        → Every (λ v. own_number v ≤ m) (written_left b) × (g.top me ≤ m)
    unfolding answered cut_answer
    left_below b v el ec e =
        let x = logged_every (λ v. own_number v ≤ m) w.clock (written_left b) (w.log me)
        (rw (upd_same v.log me, el, ec) at e) in
        (x.0, seen.tops me q m x.1)

    pub cut_inside : (b : Underway) → Among (cut me b left m)
        → Every (λ x. own_number x.what ≤ m) ((next w (cut me b left m)).log me)
        → Acted w g (cut me b left m) (next w (cut me b left m))
    unfolding next taken_up with_link relink
    cut_inside nothing_begun a e =
        let y = left_below nothing_begun w refl refl e in (
          restart g me m (written_left nothing_begun) w.clock,
          restarts (written_left nothing_begun) q takes_nothing (restarting nothing_begun a y.0 y.1 g refl refl refl),
          ends nothing_begun a w g refl (seen_but F w g me seen),
        )
    cut_inside (begun_report r room) a e =
        let b = begun_report r room in
        let y = left_below b w refl refl e in (
          restart g me m (written_left b) w.clock,
          restarts (written_left b) q takes_nothing (restarting b a y.0 y.1 g refl refl refl),
          ends b a w g refl (seen_but F w g me seen),
        )
    cut_inside (begun_delivery i room) a e = go (in_f? i a.1.0)
      where
        b : Underway
        b = begun_delivery i room

        v : World
        v = with_link w i me (rest w g i me me seen)

        y : Every (λ v. own_number v ≤ m) (written_left b) × (g.top me ≤ m)
        y = left_below b v refl refl e

        go : InF F i ⊎ (InF F i → ⊥) → Acted w g (cut me b left m) (answered v me (cut_answer w me b left m))
        go (inl f) =
            let from : FromF F i me = (f, q.0, a.1.1) in
            let h = relink g i me (without 0 (g.link i me)) in (
              restart h me m (written_left b) w.clock,
              restarts (written_left b) q (takes_front from) (restarting b a y.0 y.1 h refl refl refl),
              ends b a v h refl (seen_linked F w g h me i me (rest w g i me me seen) seen
                  (gone_from w g i me me seen from)),
            )
        go (inr out) = (
          restart g me m (written_left b) w.clock,
          restarts (written_left b) q takes_nothing (restarting b a y.0 y.1 g refl refl refl),
          ends b a v g refl (seen_linked F w g g me i me (rest w g i me me seen) seen
              (gone_outside w g i me me seen out)),
        )

  -- at another office
  module _ (w : World) (g : Offices) (o left m : ℕ) (seen : SeenAll F w g) (out : InF F o → ⊥) where
    named : (b : Underway) → o < 16 → EachProposal (λ p. p.sender ≡ o) (begun_writes w o b)
    unfolding begun_writes
    named nothing_begun lt = none
    named (begun_report r room) lt = unfold report_answer in
        each_map (λ p e. e ∙ seen.owns o lt (below_sixteen F lt)) (step_names o (w.state o) (a_report r) room).1
    named (begun_delivery i room) lt = go (w.link i o)
      where
        go : (l : List Item) → EachProposal (λ p. p.sender ≡ o) (front_writes w o room l)
        go [] = none
        go (x ∷ l) = unfold proposal_answer in
            each_map (λ p e. e ∙ seen.owns o lt (below_sixteen F lt))
            (step_names o (w.state o) (a_proposal x.proposal) room).1

    ends_outside : (b : Underway) → o < 16 → (v : World) (h : Offices) → SeenAll F v h
        → SeenAll F (answered v o (cut_answer w o b left m)) h
    unfolding cut_answer
    ends_outside b lt v h s =
        seen_outside F v h o _ s lt out (restarted_reads o m).own_is (every_take left (named b lt))

    pub cut_outside : (b : Underway) → Among (cut o b left m) → Acted w g (cut o b left m) (next w (cut o b left m))
    unfolding next taken_up
    cut_outside nothing_begun a = (g, restarts_apart out takes_nothing, ends_outside nothing_begun a.0 w g seen)
    cut_outside (begun_report r room) a =
        (g, restarts_apart out takes_nothing, ends_outside (begun_report r room) a.0 w g seen)
    cut_outside (begun_delivery i room) a = go (in_f? i a.1.0)
      where
        b : Underway
        b = begun_delivery i room

        v : World
        v = with_link w i o (rest w g i o 16 seen)

        go : InF F i ⊎ (InF F i → ⊥) → Acted w g (cut o b left m) (answered v o (cut_answer w o b left m))
        go (inl f) =
            let from : FromF F i o = (f, a.0, a.1.1) in
            let h = relink g i o (without 0 (g.link i o)) in (
              h,
              restarts_apart out (takes_front from),
              ends_outside b a.0 v h
                  (seen_linked F w g h 16 i o (rest w g i o 16 seen) seen (gone_from w g i o 16 seen from)),
            )
        go (inr d) = (
          g,
          restarts_apart out takes_nothing,
          ends_outside b a.0 v g
              (seen_linked F w g g 16 i o (rest w g i o 16 seen) seen (gone_outside w g i o 16 seen d)),
        )
