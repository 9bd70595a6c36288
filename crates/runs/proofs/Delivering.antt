-- A delivery at an office of F is an event of the arrays; between offices of F nothing but the room or the ceiling
-- refuses it.
use mathlib.Core.Path.{◌≡◌, refl, sym, ap, subst, ◌∙◌}
use mathlib.Core.Bool.{Bool, true, false}
use mathlib.Core.Logic.{◌⊎◌, inl, inr}
use mathlib.Core.List.{List, [], ◌∷◌}
use Prim.Native.Nat.{ℕ, ◌^◌, ◌≤◌, ◌<◌}
use native.Mathlib.Omega.{arith}
use native.Mathlib.Decide.{ℕ_discrete}
use Rattle.laws.specs.Lists.{Every, none}
use Rattle.laws.proofs.Lists.{every_head, every_tail}
use Rattle.laws.proofs.Fin.{true_false}
use Rattle.laws.proofs.Upd.{upd_other}
use Rattle.seats.specs.Offices.{serves}
use Rattle.records.specs.declared.Proposal.{Proposal}
use Rattle.rules.specs.State.{State, used_at}
use Rattle.rules.specs.Rules.{nothing_written, received, receives, proposal_rule}
use Rattle.records.specs.Numbers.{limit}
use Rattle.rules.specs.Refusals.{well_formed, a_proposal, Result, take_of, accepted}
use Rattle.rule_laws.proofs.Steps.{Refused, Takes, Passes, well_facts, check_facts, facts_check, take_accepts}
use Rattle.rule_laws.proofs.Steps.{take_cases}
use Rattle.rule_laws.proofs.Parts.{received_reads}
use Rattle.rule_laws.proofs.Walk.{staged_proposal}
use Rattle.runs.specs.World.{Item, World, delivery, without, answered, with_link, proposal_answer, to_proposal, Among}
use Rattle.runs.specs.Begins.{InF}
use Rattle.runs.proofs.Arrays.{Offices, Barred, receive, relink, Arrives, FromF, Numbers, Happens, idles}
use Rattle.runs.proofs.Arrays.{drops, stores, answers}
use Rattle.runs.proofs.Links.{rising_head}
use Rattle.laws.proofs.Grid.{upd2_agree, upd2_cases}
use Rattle.runs.proofs.StateArrays.{Sim, sim_receive}
use Rattle.runs.proofs.RulesArrays.{Moved, moved_none, moving}
use Rattle.runs.proofs.Proposals.{EachProposal, each_map, Begun, Makes, makes_proposal, other_members}
use Rattle.runs.proofs.Accepting.{accepted_or_barred}
use Rattle.runs.proofs.WorldArrays.{Good, Seen, SeenAll, Sends, GoodAnswer, Linked, seen_moved, seen_linked}
use Rattle.runs.proofs.WorldArrays.{below_sixteen}
use Rattle.runs.proofs.Valid.{Valid, made_valid}

module _ (F : ℕ → Bool) where
  -- a link that does not lead from an office of F
  pub outside_link : (w : World) (g : Offices) (i j : ℕ) (l : List Item) → SeenAll F w g → (InF F i → ⊥)
      → (a b : ℕ) → FromF F a b → (with_link w i j l).link a b ≡ g.link a b
  unfolding with_link
  outside_link w g i j l s out a b c =
      upd2_cases (λ (a b : ℕ) (m : List Item). FromF F a b → m ≡ g.link a b) w.link i j l a b
      (λ c. absurd (out c.0)) (λ m c. s.links a b c) c

  -- the front of a link is taken off, and the arrays of F lose it too where they have it
  module _ (w : World) (g : Offices) (i j : ℕ) (x : Item) (l : List Item) (seen : SeenAll F w g)
      (front : w.link i j ≡ x ∷ l) where
    pub taken_outside : (y : ℕ) → (InF F i → ⊥) → Linked F w g g y i j l
    taken_outside y out = record {
      kept = λ a n. record { num = refl; mode = refl; net = refl; stored = refl; acc = refl; used = refl };
      same_shown = refl;
      same_top = refl;
      links = outside_link w g i j l seen out;
      part = λ P h. every_tail (rw front at h);
    }

    pub taken_from : (y : ℕ) → FromF F i j → Linked F w g (relink g i j (without 0 (g.link i j))) y i j l
    unfolding relink with_link
    taken_from y f = record {
      kept = λ a n. record { num = refl; mode = refl; net = refl; stored = refl; acc = refl; used = refl };
      same_shown = refl;
      same_top = refl;
      links = λ a b c. upd2_agree w.link g.link i j l (without 0 (g.link i j)) a b
          (sym (ap (without 0) (sym (seen.links i j f) ∙ front))) (seen.links a b c);
      part = λ P h. every_tail (rw front at h);
    }

  -- a delivery at an office of F: the proposal x, with l behind it, from the office i
  module _ (w : World) (g : Offices) (i me room : ℕ) (x : Item) (l : List Item) (seen : SeenAll F w g)
      (core : Numbers F g) (q : InF F me)
      (front : w.link i me ≡ x ∷ l) (among : Among (delivery i me room)) where
    abbrev own_state : State
    own_state = w.state me

    abbrev p : Proposal
    p = x.proposal

    abbrev Acted : Type 0
    Acted = (h : Offices) × Happens F w (delivery i me room) g h
        × SeenAll F (answered (with_link w i me l) me (proposal_answer w me x.proposal room)) h

    sim_me : Sim own_state g me
    sim_me = seen.sim me q (below_sixteen F q.0)

    good_me : Good own_state
    good_me = seen.good me q (below_sixteen F q.0)

    i_below : i < 16
    i_below = among.0

    apart : i ≡ me → ⊥
    apart = among.2

    of_link : (P : Item → Type 0) → Every P (w.link i me) → P x × Every P l
    of_link P h = let k : Every P (x ∷ l) = rw front at h in (every_head k, every_tail k)

    from_i : p.sender ≡ i
    from_i = (of_link (λ y. y.proposal.sender ≡ i) (seen.named i me i_below q.0)).0

    -- between offices of F it is read as it was sent
    module _ (from : InF F i) where
      linked_from : FromF F i me
      linked_from = (from, q.0, apart)

      valid : Valid i me x.proposal
      valid = (of_link (λ y. Valid i me y.proposal) (seen.valid i me linked_from)).0

      as_sent : p ≡ x.proposal
      as_sent = refl

      old_link : g.link i me ≡ x ∷ l
      old_link = sym (seen.links i me linked_from) ∙ front

      facts : Passes own_state x.proposal
      facts =
          let v = valid in
          let r = rising_head (rw old_link at (core.rising i me from q apart)) in
          let u = every_head (rw old_link at (core.told i me from q apart)) in
          let n = sim_me.num in
          let a = sim_me.acc i i_below in
          let b = core.acc_got i me from q apart in
          let c = core.top_num me q in
          record {
            sender = rw v.sender i_below;
            other = λ e. apart (sym v.sender ∙ e ∙ sim_me.own);
            kind = v.kind;
            start = v.start;
            number = v.number;
            used = v.used;
            seat = rw v.sender v.seat;
            own_seat = rw sim_me.own v.to_seat;
            stray = v.stray;
            used_below = rw v.sender v.used_below;
            above = rw (v.sender, a) (let z = r.0 in omega arith);
            behind = rw (sim_me.own, n) (let z = u in omega arith);
          }

      accepted_or : Takes me own_state (a_proposal p) room
          ⊎ (Refused own_state (take_of me own_state (a_proposal p) room)
          × Barred (take_of me own_state (a_proposal p) room))
      accepted_or =
          accepted_or_barred me own_state (a_proposal p) room sim_me.own good_me.passes
          (facts_check own_state x.proposal facts)

    -- refused: the front of the link is lost
    module _ (r : Refused own_state (take_of me own_state (a_proposal p) room)) where
      refused_seen : (h : Offices) → Seen F me (with_link w i me l) h → Sim own_state h me
          → SeenAll F (answered (with_link w i me l) me (proposal_answer w me x.proposal room)) h
      unfolding proposal_answer answered with_link
      refused_seen h s m =
          subst (λ (z : Result). SeenAll F (answered (with_link w i me l) me z) h) (sym r.is)
          (seen_moved F (with_link w i me l) h h me (nothing_written own_state) s ans q
          (moved_none w.clock me h own_state m))
        where
          ans : GoodAnswer F me (nothing_written own_state)
          ans = record { is_good = good_me; own = sim_me.own; sends = none; names = none }

      refused_outside : (InF F i → ⊥) → Acted
      refused_outside out = (
        g,
        idles {e = delivery i me room} (λ a b. absurd (out a)),
        refused_seen g (seen_linked F w g g me i me l seen (taken_outside w g i me x l seen front me out))
            sim_me,
      )

      refused_from : InF F i → Barred (take_of me own_state (a_proposal p) room) → Acted
      unfolding relink proposal_answer
      refused_from from b =
          let f : FromF F i me = (from, q.0, apart) in
          let h = relink g i me (without 0 (g.link i me)) in (
            h,
            drops f (λ _. (proposal_answer w me x.proposal room, to_proposal i me room x l front, b)),
            refused_seen h (seen_linked F w g h me i me l seen (taken_from w g i me x l seen front me f))
                (record {
                  own = sim_me.own;
                  num = sim_me.num;
                  mode = sim_me.mode;
                  net = sim_me.net;
                  stored = sim_me.stored;
                  acc = sim_me.acc;
                  used = sim_me.used;
                }),
          )

    -- accepted
    module _ (acc : Takes me own_state (a_proposal p) room) where
      accepted_as : proposal_answer w me x.proposal room ≡ accepted (proposal_rule own_state p)
      unfolding proposal_answer
      accepted_as = take_accepts me own_state (a_proposal p) room acc

      within_limit : well_formed (proposal_rule own_state p).state ≡ true
      within_limit = acc.acts.within

      passed : Passes own_state p
      passed = check_facts own_state p acc.acts.passes

      arrives : Arrives F g me i p l
      arrives = record {
        at_office = q;
        from_office = i_below;
        others = apart;
        with_seat = rw (← from_i) passed.seat;
        oldest = λ from. (x, old_link from, sym (as_sent from));
      }

      abbrev stored_at : State
      stored_at = received own_state p

      abbrev arrived : Offices
      arrived = receive g me i p l

      sim_arrived : Sim stored_at arrived me
      sim_arrived = subst (λ (k : ℕ). Sim stored_at (receive g me k p l) me) from_i
          (sim_receive own_state g me sim_me p l)

      linked_arrived : Linked F w g arrived me i me l
      unfolding receive with_link
      linked_arrived = record {
        kept = λ a n. record {
          num = refl;
          mode = refl;
          net = refl;
          stored = upd_other g.stored me _ a n;
          acc = upd_other g.acc me _ a n;
          used = refl;
        };
        same_shown = refl;
        same_top = refl;
        links = λ a b c. upd2_agree w.link g.link i me l l a b refl (seen.links a b c);
        part = λ P h. (of_link P h).1;
      }

      seen_arrived : Seen F me (with_link w i me l) arrived
      seen_arrived = seen_linked F w g arrived me i me l seen linked_arrived

      own_is : stored_at.own ≡ me
      own_is = (received_reads own_state p).own_is ∙ sim_me.own

      net_is : stored_at.net.bits ≡ own_state.net.bits
      net_is = (received_reads own_state p).net_is

      begun_is : Begun stored_at
      begun_is n = let r = received_reads own_state p in rw r.start_is (good_me.begun (λ k. n (r.mode_is ∙ k)))

      within_used : (k : ℕ) → k < 16 → used_at stored_at k ≤ limit
      within_used k lt =
          let a = (received_reads own_state p).used_is k lt in
          let b = (well_facts own_state good_me.passes).used k lt in
          omega arith

      behind : used_at stored_at me ≤ stored_at.number
      behind =
          let r = received_reads own_state p in
          let a = r.used_is me q.0 in
          let b = r.number_is in
          let c = sim_me.used me q.0 in
          let d = sim_me.num in
          let e = core.own_used me q in
          omega arith

      -- the office's answer, where the arrays become k
      ends : (k : Offices) → Moved w.clock me arrived (proposal_rule own_state p) k
          → EachProposal (λ p. (j : ℕ) → receives p j ≡ true → Valid me j p) (proposal_rule own_state p).written
          → SeenAll F (answered (with_link w i me l) me (proposal_answer w me x.proposal room)) k
      unfolding with_link
      ends k moved valid =
          rw accepted_as (seen_moved F (with_link w i me l) arrived k me (proposal_rule own_state p) seen_arrived ans q
          moved)
        where
          makes : Makes stored_at (proposal_rule own_state p)
          makes = makes_proposal own_state p

          ans : GoodAnswer F me (proposal_rule own_state p)
          ans = record {
            is_good = record {
              passes = within_limit;
              net = rw (makes.net, net_is) good_me.net;
              begun = makes.begun begun_is;
            };
            own = makes.own ∙ own_is;
            sends = valid;
            names = each_map (λ p n. n.sender ∙ own_is) makes.sends;
          }

      taken : p.members.bits ≡ own_state.net.bits → Acted
      taken same =
          let t = staged_proposal (moving w.clock me arrived arrived) own_state p (λ n. absurd (n same))
          (λ _. moved_none w.clock me arrived stored_at sim_arrived) in
          let seat : serves stored_at.net.bits me ≡ true
          = ap (λ (y : ℕ). serves y me) (net_is ∙ sym same) ∙ ap (serves p.members.bits) (sym sim_me.own)
          ∙ passed.own_seat in
          let lt : stored_at.net.bits < 2 ^ 64 = rw net_is good_me.net in
          let valid = made_valid stored_at (proposal_rule own_state p).state me own_is q.0 lt within_used
          (well_facts _ within_limit) seat behind begun_is in (
            t.0,
            answers p l arrives (same ∙ sim_me.net) t.1,
            ends t.0 t.2 (each_map valid (makes_proposal own_state p).sends),
          )

      kept_back : (p.members.bits ≡ own_state.net.bits → ⊥) → Acted
      kept_back other =
          let e = other_members own_state p other in (
            arrived,
            stores p l arrives (λ k. other (k ∙ sym sim_me.net)),
            ends arrived (rw e (moved_none w.clock me arrived stored_at sim_arrived)) (rw e none),
          )

      accepted_acts : Acted
      accepted_acts = go (ℕ_discrete p.members.bits own_state.net.bits)
        where
          go : Dec (p.members.bits ≡ own_state.net.bits) → Acted
          go (yes e) = taken e
          go (no n) = kept_back n

    pub delivery_acts : Acted
    delivery_acts = go (F i) refl
      where
        from : InF F i → Takes me own_state (a_proposal p) room
            ⊎ (Refused own_state (take_of me own_state (a_proposal p) room)
            × Barred (take_of me own_state (a_proposal p) room))
            → Acted
        from f (inl a) = accepted_acts a
        from f (inr r) = refused_from r.0 f r.1

        outside : (InF F i → ⊥) → Refused own_state (take_of me own_state (a_proposal p) room)
            ⊎ Takes me own_state (a_proposal p) room → Acted
        outside o (inl r) = refused_outside r o
        outside o (inr a) = accepted_acts a

        go : (t : Bool) → F i ≡ t → Acted
        go true e = from (i_below, e) (accepted_or (i_below, e))
        go false e = outside (λ f. true_false _ f.1 e) (take_cases me own_state (a_proposal p) room)

    -- the proposals of its answer
    pub delivery_sends : Sends F me (proposal_answer w me x.proposal room).written
    delivery_sends = go (take_cases me own_state (a_proposal p) room)
      where
        nothing : Sends F me []
        nothing = record { valid = none; names = none }

        of : (a : Takes me own_state (a_proposal p) room) → Dec (p.members.bits ≡ own_state.net.bits)
            → Sends F me (proposal_rule own_state p).written
        of a (no n) = rw (other_members own_state p n) nothing
        of a (yes same) =
            let makes = makes_proposal own_state p in
            let seat : serves (stored_at a).net.bits me ≡ true
            = ap (λ (y : ℕ). serves y me) (net_is a ∙ sym same) ∙ ap (serves p.members.bits) (sym sim_me.own)
            ∙ (passed a).own_seat in
            let lt : (stored_at a).net.bits < 2 ^ 64 = rw (net_is a) good_me.net in
            let valid = made_valid (stored_at a) (proposal_rule own_state p).state me (own_is a) q.0 lt
            (within_used a) (well_facts _ (within_limit a)) seat (behind a) (begun_is a) in
            record {
              valid = each_map valid makes.sends;
              names = each_map (λ p n. n.sender ∙ own_is a) makes.sends;
            }

        go : Refused own_state (take_of me own_state (a_proposal p) room) ⊎ Takes me own_state (a_proposal p) room
            → Sends F me (proposal_answer w me x.proposal room).written
        go (inl r) = unfold proposal_answer in rw r.is nothing
        go (inr a) = rw (accepted_as a) (of a (ℕ_discrete p.members.bits own_state.net.bits))
