-- What every accepted event keeps of an office and one of its seats, in any of the eight rooms, and that the seat
-- accepts what the event sends it.
use mathlib.Core.Path.{◌≡◌, refl, sym, ap, ◌∙◌}
use mathlib.Core.Bool.{Bool, true, false}
use mathlib.Core.List.{List}
use Prim.Native.Nat.{ℕ, ◌^◌, ◌≤◌, ◌<◌}
use native.Mathlib.Omega.{arith}
use native.Mathlib.Nat.{le_trans}
use lib.ListN.{get_or}
use lib.Dec.{ltb}
use Rattle.laws.proofs.Fin.{if_cases, and_r, true_false, largest_le}
use Rattle.laws.proofs.Tab.{get_or_tab, length_tab}
use Rattle.laws.proofs.Upd.{upd_same, upd_other}
use Rattle.seats.specs.Seats.{seat_count, has, contains_of}
use Rattle.seats.specs.Offices.{office_of}
use Rattle.seats.proofs.OfficeLaws.{seat_serves}
use Rattle.records.specs.Numbers.{limit, room_count}
use Rattle.records.proofs.NumberLaws.{sixteen_below}
use Rattle.records.specs.Fits.{FitsReport, FitsView}
use Rattle.records.specs.declared.Report.{Report}
use Rattle.records.specs.declared.Proposal.{Proposal}
use Rattle.rules.specs.State.{Mode, None, Fast, Slow, Slot, State, keeping, stored_at}
use Rattle.rules.specs.Rules.{Written, notice, view, Outcome, nothing_written, and_then, in_slot, net_after, with_net}
use Rattle.rules.specs.Rules.{seated, opened, notice_of, opens, next_number, own_proposal, proposed, has_recipient}
use Rattle.rules.specs.Rules.{proposes_fast, received, begins_in, slow_number, proposes_slow, agreed, start_of, view_of}
use Rattle.rules.specs.Rules.{concluded, report_rule, proposal_rule}
use Rattle.rules.specs.Refusals.{Event, a_report, a_proposal, well_formed, refusal_of, rule_of}
use Rattle.rule_laws.proofs.Parts.{Reads, proposed_reads, received_reads, concluded_reads, made_is, net_after_fits}
use Rattle.rule_laws.proofs.Tests.{agreed_out}
use Rattle.rule_laws.proofs.Steps.{WellFormed, well_facts, Passes, check_facts}
use Rattle.rule_laws.proofs.Walk.{slow_round, concludes, Tested, staged_report, staged_proposal}
use Rattle.runs.specs.Office.{OfSeats}
use Rattle.runs.proofs.OfficeRuns.{Beside}
use Rattle.desk.specs.declared.checks.Desk.{Desk}
use Rattle.desk.specs.SeatChecks.{a_notice, a_view}
use Rattle.desk.specs.Hearing.{after_record}
use Rattle.desk.proofs.Accepted.{SoundDesk, TakesView, notice_heard, view_heard}
use Rattle.desk_runs.proofs.Taking.{Hears, at_end, passes, accepts, hears_then}

module _ (room : ℕ) (in_room : room < room_count) (seat : ℕ) (lt : seat < seat_count) where
  -- the seat is one of this office, and no number of it is above the office's
  pub record Behind (d : Desk) (s : State) : Type 0 where
    pub is_seat_lem : d.seat ≡ seat
    pub office : s.own ≡ office_of seat
    pub fits : s.net.bits < 2 ^ 64
    pub start : d.start ≤ s.start
    pub view : d.view ≤ s.view.number

  -- the seat is a member of the net view
  abbrev Member : State → Type 0
  Member s = contains_of s.net.bits seat ≡ true

  -- the change that the office is in is open at the seat
  abbrev OpenAt : Desk → State → Type 0
  OpenAt d s = (d.changing ≡ true) × (d.start ≡ s.start)

  -- a change is under way: the start number has reached the view number, and the change is open at the seat if it is
  -- a member
  pub record Changing (d : Desk) (s : State) : Type 0 where
    pub reached : s.view.number ≤ s.start
    pub is_open : Member s → OpenAt d s

  -- and in mode fast or slow a change is under way, and while the office has a seat in the net view the own proposal
  -- has the start number
  pub record Follows (d : Desk) (s : State) : Type 0 where
    pub behind : Behind d s
    pub changing : (s.mode ≡ None → ⊥) → Changing d s
    pub own_start : (s.mode ≡ None → ⊥) → seated s ≡ true → (in_slot s s.own).start ≡ s.start

  own_lt : {d : Desk} {s : State} → Behind d s → s.own < 16
  unfolding office_of
  own_lt b = let e = b.office in omega arith

  -- a member's office has a seat in the net view
  member_seated : {d : Desk} {s : State} → Behind d s → Member s → seated s ≡ true
  unfolding seated contains_of
  member_seated {s} b m =
      rw b.office (seat_serves s.net.bits seat (and_r (ltb seat seat_count) (has s.net.bits seat) m))

  -- the seat after the records of an outcome, none of which it refuses; it follows the state
  abbrev pub Follow : Desk → Outcome → Type 0
  Follow d o = Beside (Hears room seat) Follows d o.written o.state

  -- a state with the same net view, view and start number
  module _ {d : Desk} {s t : State} {m : Mode} {stored : ℕ → Slot} {accepted : ℕ → ℕ} {number : ℕ} {used : ℕ → ℕ}
      (r : Reads t s.own m s.net.bits stored accepted s.view s.start number used) where
    same_behind : Behind d s → Behind d t
    same_behind b = record {
      is_seat_lem = b.is_seat_lem;
      office = r.own_is ∙ b.office;
      fits = rw r.net_is b.fits;
      start = rw r.start_is b.start;
      view = rw r.view_is b.view;
    }

    same_changing : Changing d s → Changing d t
    same_changing h = record {
      reached = rw (r.view_is, r.start_is) h.reached;
      is_open = λ m. let x = h.is_open (rw r.net_is at m) in (x.0, x.1 ∙ sym r.start_is);
    }

  net_behind : (d : Desk) (s : State) (x : ℕ) → x < 2 ^ 64 → Behind d s → Behind d (with_net s x)
  unfolding with_net
  net_behind d s x l b =
      record { is_seat_lem = b.is_seat_lem; office = b.office; fits = l; start = b.start; view = b.view }

  -- step 3: the notice is accepted where the seat is a member, and the change is then open at it
  record Opened (d : Desk) (s : State) : Type 0 where
    behind : Behind d s
    changing : Changing d s

  opens_follow : (d : Desk) (s : State) → Behind d s → (opened s).start ≤ limit
      → Beside (Hears room seat) Opened d (opens s).written (opened s)
  unfolding opens opened notice_of after_record
  opens_follow d s b low = go (contains_of s.net.bits seat) refl
    where
      rises : (d.start < (opened s).start) × (d.view ≤ (opened s).start)
      rises = let x = b.start in let y = b.view in (omega arith, omega arith)

      sound : SoundDesk d
      sound = let x = rises in let y = b.is_seat_lem in
          record { seat = omega arith; start = omega arith; view = omega arith }

      opens_at : (e : Desk) → e.seat ≡ seat → e.start ≤ (opened s).start → e.view ≤ s.view.number
          → (Member s → OpenAt e (opened s)) → Opened e (opened s)
      opens_at e i x y t = record {
        behind = record { is_seat_lem = i; office = b.office; fits = b.fits; start = x; view = y };
        changing = record { reached = omega arith; is_open = t };
      }

      go : (m : Bool) → contains_of s.net.bits seat ≡ m
          → Beside (Hears room seat) Opened d (opens s).written (opened s)
      go false m = record {
        then = d;
        told = passes m at_end;
        holds = opens_at d b.is_seat_lem (let x = rises.0 in omega arith) b.view (λ y. absurd (true_false _ y m));
      }
      go true m = record {
        then = after_record d (a_notice (notice_of (opened s)));
        told = accepts {w = notice (notice_of (opened s))} m
            (notice_heard d sound room in_room (notice_of (opened s))
            (record { start = omega arith; members = b.fits })
            (record { within = low; member = rw b.is_seat_lem m; above = rises.0; reaches = rises.1 }))
            (record { seat = refl; start = omega arith; view = omega arith }) at_end;
        holds = opens_at (after_record d (a_notice (notice_of (opened s)))) b.is_seat_lem (omega arith) b.view
            (λ y. (refl, refl));
      }

  -- a proposal made: the own one has the start number, and the seat hears nothing
  proposed_follows : (d : Desk) (m : Mode) (n : ℕ) (s : State) → Opened d s → Follows d (proposed m n s)
  proposed_follows d m n s h =
      let r = proposed_reads s m n in
      let q = r.stored_is s.own (own_lt h.behind)
      ∙ upd_same (stored_at s) s.own (keeping (own_proposal m n s)) in
      record {
        behind = same_behind r h.behind;
        changing = λ y. same_changing r h.changing;
        own_start = λ y z. rw r.own_is (ap (λ (w : Slot). w.proposal.start) q ∙ (made_is s m n).3
            ∙ sym r.start_is);
      }

  -- a proposal of another office stored
  received_follows : (d : Desk) (s : State) (p : Proposal) → (p.sender ≡ s.own → ⊥) → Follows d s
      → Follows d (received s p)
  received_follows d s p n f =
      let r = received_reads s p in
      let q = r.stored_is s.own (own_lt f.behind)
      ∙ upd_other (stored_at s) p.sender (keeping p) s.own (λ e. n (sym e)) in
      let busy : ((received s p).mode ≡ None → ⊥) → s.mode ≡ None → ⊥ = λ y e. y (r.mode_is ∙ e) in
      record {
        behind = same_behind r f.behind;
        changing = λ y. same_changing r (f.changing (busy y));
        own_start = λ y z. rw (r.own_is, r.start_is) (ap (λ (w : Slot). w.proposal.start) q
            ∙ f.own_start (busy y) (unfold seated in rw (r.net_is, r.own_is) at z));
      }

  -- step 1, where the office is left without a seat
  unseated_follows : (d : Desk) (s : State) (x : ℕ) → x < 2 ^ 64 → seated (with_net s x) ≡ false → Follows d s
      → Follows d (with_net s x)
  unseated_follows d s x l e f =
      let b : Behind d (with_net s x) = net_behind d s x l f.behind in
      record {
        behind = b;
        changing = λ y. record {
          reached = unfold with_net in
              (f.changing y).reached;
          is_open = λ m. absurd (true_false _ (member_seated b m) e);
        };
        own_start = λ y z. absurd (true_false _ z e);
      }

  -- a view: the own office's start number in it is the last one, and below its number
  module _ (d : Desk) (s : State) (f : Follows d s) (agrees : agreed s ≡ true) (seat_in : seated s ≡ true) where
    b : Behind d s
    b = f.behind

    busy : s.mode ≡ None → ⊥
    busy = (agreed_out s agrees).busy

    own : start_of s s.own ≡ s.start
    unfolding start_of seated
    own = rw seat_in (f.own_start busy seat_in)

    start_at : (o : ℕ) → o < 16 → get_or (view_of s).starts o 0 ≡ start_of s o
    unfolding view_of
    start_at o l = get_or_tab 16 (start_of s) o 0 l

    above : s.start < (view_of s).number
    unfolding view_of
    above = let x = largest_le 16 (start_of s) s.own (own_lt b) in let y = own in omega arith

    -- in mode none nothing more is asked
    settled : (e : Desk) → Behind e (concluded s) → Follows e (concluded s)
    settled e c =
        let none = (concluded_reads s).mode_is in
        record { behind = c; changing = λ y. absurd (y none); own_start = λ y. absurd (y none) }

    -- the seat is no member
    passed_by : contains_of s.net.bits seat ≡ false → Follow d (concludes s)
    unfolding concluded view_of
    passed_by m = record {
      then = d;
      told = passes m at_end;
      holds = settled d (record {
        is_seat_lem = b.is_seat_lem;
        office = b.office;
        fits = b.fits;
        start = b.start;
        view = let x = b.view in let y = (f.changing busy).reached in let z = above in omega arith;
      });
    }

    -- it is one
    module _ (m : Member s) (k : WellFormed (concluded s)) where
      sound : SoundDesk d
      unfolding concluded
      sound =
          let w = k.start in
          let x = b.start in
          let y = b.view in
          let z = (f.changing busy).reached in
          record { seat = let i = b.is_seat_lem in omega arith; start = omega arith; view = omega arith }

      fits : FitsView (view_of s)
      unfolding concluded view_of
      fits = record {
        number = let x = k.view in omega arith;
        members = b.fits;
        starts = record {
          count = length_tab 16 (start_of s);
          each = sixteen_below (view_of s).starts (length_tab 16 (start_of s)) k.starts;
        };
      }

      takes : TakesView d (view_of s)
      unfolding concluded view_of
      takes =
          let t = (f.changing busy).is_open m in
          let i : office_of d.seat ≡ s.own = ap office_of b.is_seat_lem ∙ sym b.office in
          record {
            within = k.view;
            starts = k.starts;
            member = rw b.is_seat_lem m;
            outside = λ o l n. start_at o l ∙ (unfold start_of in rw n);
            changing = t.0;
            own = ap (λ (o : ℕ). get_or (view_of s).starts o 0) i ∙ start_at s.own (own_lt b) ∙ own ∙ sym t.1;
            above = let x = t.1 in let y = above in omega arith;
          }

      heard : Follow d (concludes s)
      unfolding concluded view_of after_record
      heard = record {
        then = after_record d (a_view (view_of s));
        told = accepts {w = view (view_of s)} m (view_heard d sound room in_room (view_of s) fits takes)
            (record { seat = refl; start = omega arith; view = omega arith }) at_end;
        holds = settled (after_record d (a_view (view_of s)))
            (record {
              is_seat_lem = b.is_seat_lem;
              office = b.office;
              fits = b.fits;
              start = b.start;
              view = omega arith;
            });
      }

    concluded_follows : well_formed (concluded s) ≡ true → Follow d (concludes s)
    concluded_follows w = go (contains_of s.net.bits seat) refl
      where
        go : (m : Bool) → contains_of s.net.bits seat ≡ m → Follow d (concludes s)
        go false m = passed_by m
        go true m = heard m (well_facts (concluded s) w)

  -- one part of an event after another
  follow_then : {d : Desk} {o : Outcome} (f : State → Outcome) (x : Follow d o) → Follow x.then (f o.state)
      → Follow d (and_then o f)
  unfolding and_then
  follow_then f x y = record { then = y.then; told = hears_then room seat x.told y.told; holds = y.holds }

  -- a slow proposal, by the mode that it is made in
  abbrev slowly : Mode → State → Outcome
  slowly m s = and_then (begins_in m s) proposes_slow

  slow_start : (m : Mode) (s : State) → s.start ≤ (slowly m s).state.start
  unfolding and_then opens opened proposes_slow proposed
  slow_start None s = omega arith
  slow_start Fast s = omega arith
  slow_start Slow s = omega arith

  slow_seated : (m : Mode) (s : State) → seated (slowly m s).state ≡ seated s
  unfolding and_then opens opened proposes_slow proposed seated
  slow_seated None s = refl
  slow_seated Fast s = refl
  slow_seated Slow s = refl

  in_round : (d : Desk) (s : State) → (s.mode ≡ None → ⊥) → Follows d s
      → Follow d (and_then (nothing_written s) proposes_slow)
  unfolding and_then proposes_slow
  in_round d s busy f = record {
    then = d;
    told = passes refl at_end;
    holds = proposed_follows d Slow (slow_number s) s (record { behind = f.behind; changing = f.changing busy });
  }

  slow_follows : (m : Mode) (d : Desk) (s : State) → s.mode ≡ m → Follows d s → (slowly m s).state.start ≤ limit
      → Follow d (slowly m s)
  unfolding and_then opens opened proposes_slow proposed
  slow_follows None d s e f low =
      let x = opens_follow d s f.behind low in
      record {
        then = x.then;
        told = hears_then room seat x.told (passes refl at_end);
        holds = proposed_follows x.then Slow (slow_number (opened s)) (opened s) x.holds;
      }
  slow_follows Fast d s e f low = in_round d s (λ n. let z : ◌≡◌ {A = ℕ} 0 1 = cc in omega arith) f
  slow_follows Slow d s e f low = in_round d s (λ n. let z : ◌≡◌ {A = ℕ} 0 1 = cc in omega arith) f

  -- between the parts: the office has a seat in the net view, and the seat follows unless the start number is above
  -- L, which 13 refuses
  record Between (d : Desk) (o : Outcome) : Type 0 where
    seat_in : seated o.state ≡ true
    follow : o.state.start ≤ limit → Follow d o

  stages : (d : Desk) → Tested (Between d) (Between d) (λ o. well_formed o.state ≡ true → Follow d o)
  unfolding and_then
  stages d = record {
    called = λ o a e. record {
      seat_in = slow_seated o.state.mode o.state ∙ a.seat_in;
      follow = λ l.
          let x = a.follow (le_trans (slow_start o.state.mode o.state) l) in
          follow_then slow_round x (slow_follows o.state.mode x.then o.state refl x.holds l);
    };
    uncalled = λ o a e. a;
    agrees = λ o a e w.
        let l : o.state.start ≤ limit = unfold concluded in (well_facts (concluded o.state) w).start in
        let x = a.follow l in
        follow_then concludes x (concluded_follows x.then o.state x.holds e a.seat_in w);
    unagreed = λ o a e w. a.follow (well_facts o.state w).start;
  }

  stays : {d : Desk} {s : State} → Follows d s → Follow d (nothing_written s)
  stays {d} f = record { then = d; told = at_end; holds = f }

  -- the round that a report begins
  round_follows : (d : Desk) (t : State) → Behind d t → seated t ≡ true → Between d (and_then (opens t) proposes_fast)
  unfolding and_then opens opened proposes_fast proposed seated
  round_follows d t b v = record {
    seat_in = v;
    follow = λ l.
        let x = opens_follow d t b l in
        record {
          then = x.then;
          told = hears_then room seat x.told
              (if_cases (λ (ws : List Written). Hears room seat x.then ws x.then)
              (has_recipient (own_proposal Fast (next_number (opened t)) (opened t))) _ _
              (λ e. passes refl at_end) (λ e. at_end));
          holds = proposed_follows x.then Fast (next_number (opened t)) (opened t) x.holds;
        };
  }

  report_follows : (d : Desk) (s : State) (r : Report) → FitsReport r → Follows d s
      → well_formed (report_rule s r).state ≡ true → Follow d (report_rule s r)
  report_follows d s r t f = staged_report (stages d) s r (λ e w. stays f)
      (λ e w. stays (unseated_follows d s _ net e f)) (λ e. round_follows d _ (net_behind d s _ net f.behind) e)
    where
      net : net_after s.net.bits r < 2 ^ 64
      net = net_after_fits s.net.bits r f.behind.fits t

  proposal_follows : (d : Desk) (s : State) (p : Proposal) → Passes s p → Follows d s
      → well_formed (proposal_rule s p).state ≡ true → Follow d (proposal_rule s p)
  proposal_follows d s p c f =
      let g = received_follows d s p c.other f in
      staged_proposal (stages d) s p (λ e w. stays g)
      (λ e. record { seat_in = unfold seated received in rw e at c.own_seat; follow = λ l. stays g })

  -- every accepted event, where a report's sets are sets of seats
  pub event_follows : (d : Desk) (s : State) (e : Event) → OfSeats e → refusal_of s e ≡ 0
      → well_formed (rule_of s e).state ≡ true → Follows d s
      → Follow d (rule_of s e)
  event_follows d s (a_report r) t z w f = report_follows d s r t f w
  event_follows d s (a_proposal p) t z w f = proposal_follows d s p (check_facts s p z) f w
