-- The hypotheses of the settling rule are needed: for each of seven a scenario that fails this one alone, and for the
-- one on cuts a scenario that fails it in both wordings. At its end nothing is on its way between offices 0 and 1, and
-- their latest views are not one view of {0, 4} sent since their last reports. (A is {0, 4}, that is 17.)
use mathlib.Core.Path.{◌≡◌, refl, sym, ap, subst}
use mathlib.Core.Bool.{true}
use mathlib.Core.List.{List, [], ◌∷◌}
use Prim.Native.Nat.{ℕ, ◌+◌}
use native.Mathlib.Omega.{arith}
use lib.ListN.{length}
use Rattle.laws.proofs.Fin.{true_false}
use Rattle.seats.specs.Offices.{serves}
use Rattle.records.specs.declared.View.{View}
use Rattle.rules.specs.State.{zeros}
use Rattle.runs.specs.World.{SentView, nothing_begun, WorldEvent, report, delivery, loss, cut}
use Rattle.runs.specs.Files.{cuts}
use Rattle.runs.specs.Plays.{change, join, leave, hand, join_begun, changes, hands, three}
use Rattle.settling.specs.Statement.{net_at, OutAndBack, CutsFirst, Assumed, AllReported, Settled, SettlesIf}
use Rattle.settling.proofs.Changes.{cuts_first_lem}
use Rattle.settling.proofs.Scenarios.{meets, reported}
use Rattle.settling.specs.Scenarios.{Scenario, starts_fresh, without_mail, others_pass, net_is_a, with_room, no_ceiling}
use Rattle.settling.specs.Scenarios.{none_lost, out_and_back, cuts_before_all, state_in, link_in, change_at, fails}
use Rattle.settling.specs.Scenarios.{fails_by_report, summary, no_view, sent_at, with_files, short_room, in_none}

-- none-lost: office 0's only proposal is lost after its last report. Office 0 sends view 2, office 1 none.
abbrev lost_after : Scenario
lost_after = record { set = 17; begun = []; posted = []; events = join 0 17 ∷ join 1 17 ∷ loss 0 1 0 ∷ hand 1 0 ∷ [] }

lost_after_summary :
    summary lost_after
    ≡ record {
      fails = none_lost ∷ [];
      point = 2;
      way_count = 2;
      offices = 2;
      bound = 10;
      delivered = 1;
      answers = 0 ∷ 0 ∷ 0 ∷ [];
      left = 0;
      views = sent_at 3 2 17 (three 1 1 0) ∷ no_view ∷ no_view ∷ [];
    }
unfolding summary
lost_after_summary = refl

-- The same loss, and then a repeat: where the last report in the list counted, also one that changes nothing, no
-- hypothesis would fail.
abbrev lost_before_repeat : Scenario
lost_before_repeat =
    record {
      set = 17;
      begun = [];
      posted = [];
      events = join 0 17 ∷ join 1 17 ∷ loss 0 1 0 ∷ join 0 17 ∷ hand 1 0
          ∷ [];
    }

lost_before_repeat_summary :
    summary lost_before_repeat
    ≡ record {
      fails = none_lost ∷ [];
      point = 2;
      way_count = 2;
      offices = 2;
      bound = 10;
      delivered = 1;
      answers = 0 ∷ 0 ∷ 0 ∷ 0 ∷ [];
      left = 0;
      views = sent_at 4 2 17 (three 1 1 0) ∷ no_view ∷ no_view ∷ [];
    }
unfolding summary
lost_before_repeat_summary = refl

lost_before_repeat_by_report : fails_by_report lost_before_repeat ≡ []
unfolding summary
lost_before_repeat_by_report = refl

-- net-is-A: office 1's last report leaves it with {4} alone, so that it sends a view of its own seat at once. Office
-- 0 waits.
abbrev net_differs : Scenario
net_differs = record { set = 17; begun = []; posted = []; events = join 0 17 ∷ join 1 16 ∷ hand 0 1 ∷ [] }

net_differs_summary :
    summary net_differs
    ≡ record {
      fails = net_is_a ∷ [];
      point = 2;
      way_count = 1;
      offices = 2;
      bound = 7;
      delivered = 1;
      answers = 0 ∷ 0 ∷ 0 ∷ [];
      left = 0;
      views = no_view ∷ sent_at 1 2 16 (three 0 1 0) ∷ no_view ∷ [];
    }
unfolding summary
net_differs_summary = refl

-- full-room: office 1 has room for 184 bytes when office 0's proposal comes, and answers 3.
abbrev no_room : Scenario
no_room = record {
  set = 17;
  begun = [];
  posted = [];
  events = join 0 17 ∷ join 1 17 ∷ delivery 0 1 short_room ∷ hand 1 0
      ∷ [];
}

no_room_summary :
    summary no_room
    ≡ record {
      fails = with_room ∷ [];
      point = 2;
      way_count = 2;
      offices = 2;
      bound = 10;
      delivered = 2;
      answers = 0 ∷ 0 ∷ 3 ∷ 0 ∷ [];
      left = 0;
      views = sent_at 3 2 17 (three 1 1 0) ∷ no_view ∷ no_view ∷ [];
    }
unfolding summary
no_room_summary = refl

-- A repeat that is answered 3 breaks full room too, though the offices settle here.
abbrev repeat_without_room : Scenario
repeat_without_room =
    record {
      set = 17;
      begun = [];
      posted = [];
      events = join 0 17 ∷ join 1 17
          ∷ report 0 (record { joining = record { bits = 17 }; leaving = record { bits = 0 } }) short_room ∷ hand 0 1
          ∷ hand 1 0 ∷ [];
    }

repeat_without_room_fails : fails repeat_without_room ≡ with_room ∷ []
unfolding summary
repeat_without_room_fails = refl

-- no-ceiling: offices 0 and 1 send view 2. Office 0 then agrees with office 2 on {0, 8}, in a slow round of number L
-- - 1 (event 5: view 3), and goes back to {0, 4}: its fast proposal has number L. Office 1 in mode none would make
-- number L + 1, and answers 13.
abbrev at_ceiling : Scenario
at_ceiling =
    record {
      set = 17;
      begun = [];
      posted =
          record {
            to = 0;
            proposal =
                record {
                  sender = 2;
                  kind = 2;
                  members = record { bits = 257 };
                  start = 1;
                  number = 1_999_999_999;
                  used = three 0 0 0;
                };
          } ∷ [];
      events =
          join 0 17 ∷ join 1 17 ∷ hand 0 1 ∷ hand 1 0
          ∷ change 0 256 16 ∷ hand 2 0
          ∷ change 0 16 256 ∷ hand 0 1 ∷ [];
    }

at_ceiling_summary :
    summary at_ceiling
    ≡ record {
      fails = no_ceiling ∷ [];
      point = 7;
      way_count = 1;
      offices = 2;
      bound = 7;
      delivered = 1;
      answers = 0 ∷ 0 ∷ 0 ∷ 0 ∷ 0 ∷ 0 ∷ 0 ∷ 13 ∷ [];
      left = 0;
      views = sent_at 5 3 257 (three 2 0 1) ∷ sent_at 2 2 17 (three 1 1 0) ∷ no_view ∷ [];
    }
unfolding summary
at_ceiling_summary = refl

-- starts-fresh: office 1 starts with 5 as the number last accepted from office 0, so that it answers 11 to number 1.
abbrev not_fresh : Scenario
not_fresh =
    record {
      set = 17;
      begun = record { office = 1; state = in_none 1 0 0 0 (three 5 0 0) zeros } ∷ [];
      posted = [];
      events = join 0 17 ∷ join 1 17 ∷ hand 0 1 ∷ hand 1 0 ∷ [];
    }

not_fresh_summary :
    summary not_fresh
    ≡ record {
      fails = starts_fresh ∷ [];
      point = 2;
      way_count = 2;
      offices = 2;
      bound = 10;
      delivered = 2;
      answers = 0 ∷ 0 ∷ 11 ∷ 0 ∷ [];
      left = 0;
      views = sent_at 3 2 17 (three 1 1 0) ∷ no_view ∷ no_view ∷ [];
    }
unfolding summary
not_fresh_summary = refl

-- no-mail: a proposal with start 7 and number 9 is on the link from office 0 to office 1 at first. Office 1 counts it
-- into view 8 and answers 11 to the one that office 0 makes; office 0 sends view 2.
abbrev old_mail : Scenario
old_mail =
    record {
      set = 17;
      begun = [];
      posted =
          record {
            to = 1;
            proposal = record {
              sender = 0;
              kind = 1;
              members = record { bits = 17 };
              start = 7;
              number = 9;
              used = three 0 0 0;
            };
          } ∷ [];
      events = join 0 17 ∷ join 1 17 ∷ hand 0 1 ∷ hand 0 1 ∷ hand 1 0 ∷ [];
    }

old_mail_summary :
    summary old_mail
    ≡ record {
      fails = without_mail ∷ [];
      point = 2;
      way_count = 3;
      offices = 2;
      bound = 13;
      delivered = 3;
      answers = 0 ∷ 0 ∷ 0 ∷ 11 ∷ 0 ∷ [];
      left = 0;
      views = sent_at 4 2 17 (three 1 1 0) ∷ sent_at 2 8 17 (three 7 1 0) ∷ no_view ∷ [];
    }
unfolding summary
old_mail_summary = refl

-- others-pass: the state at office 3 has own office 0, so that its report forges a proposal of office 0, with start
-- 7. Office 1 counts it into view 8 and answers 11 to the true one.
abbrev forged : Scenario
forged =
    record {
      set = 17;
      begun = record { office = 3; state = in_none 0 0 6 0 zeros zeros } ∷ [];
      posted = [];
      events = join 3 17 ∷ join 0 17 ∷ join 1 17 ∷ hand 3 1 ∷ hand 0 1 ∷ hand 1 0 ∷ [];
    }

forged_summary :
    summary forged
    ≡ record {
      fails = others_pass ∷ [];
      point = 3;
      way_count = 2;
      offices = 2;
      bound = 10;
      delivered = 2;
      answers = 0 ∷ 0 ∷ 0 ∷ 0 ∷ 11 ∷ 0 ∷ [];
      left = 0;
      views = sent_at 5 2 17 (three 1 1 0) ∷ sent_at 3 8 17 (three 7 1 0) ∷ no_view ∷ [];
    }
unfolding summary
forged_summary = refl

-- out_and_back, and cuts_before_all: office 0 stores office 1's proposal and is cut off (event 2), when the mark and
-- the start notice of a report have left. Office 1, whose only report came before the cut, counts the next proposal of
-- office 0 into view 1,000,003; office 0 has lost the one of office 1 and waits for ever.
abbrev unheard_cut : Scenario
unheard_cut =
    record {
      set = 17;
      begun = [];
      posted = [];
      events = join 1 17 ∷ hand 1 0 ∷ cut 0 (join_begun 17) 1 1_000_001 ∷ join 0 17 ∷ hand 0 1 ∷ [];
    }

unheard_cut_summary :
    summary unheard_cut
    ≡ record {
      fails = out_and_back ∷ cuts_before_all ∷ [];
      point = 4;
      way_count = 1;
      offices = 2;
      bound = 7;
      delivered = 1;
      answers = 0 ∷ 0 ∷ 0 ∷ 0 ∷ [];
      left = 0;
      views = no_view ∷ sent_at 4 1_000_003 17 (three 1_000_002 1 0) ∷ no_view ∷ [];
    }
unfolding summary
unheard_cut_summary = refl

unheard_cut_plainly :
    with_files (changes 1 17 0 ∷ hands 1 0 ∷ cuts 0 (join_begun 17) 11 ∷ changes 0 17 0 ∷ hands 0 1 ∷ [])
    ≡ unheard_cut.events
unfolding with_files
unheard_cut_plainly = refl

-- so all else that the rule assumes holds of it, neither hypothesis on cuts does, and at the end they have not settled
unheard_cut_assumed : Assumed 17 (state_in []) (link_in []) unheard_cut.events (change_at unheard_cut).place
unfolding summary
unheard_cut_assumed = meets unheard_cut refl

unheard_cut_reported : AllReported 17 (state_in []) (link_in []) unheard_cut.events (change_at unheard_cut).place 4
unfolding summary
unheard_cut_reported = reported unheard_cut 0 refl

unheard_cut_late : CutsFirst 17 (state_in []) (link_in []) unheard_cut.events (change_at unheard_cut).place → ⊥
unfolding summary
unheard_cut_late h =
    let l = h 2 0 1 (omega arith, refl) (omega arith, refl) (join_begun 17, 1, 1_000_001, (omega arith, refl)) in
    let e : (change_at unheard_cut).place 1 ≡ 0 = refl in
    omega arith

unheard_cut_unheard : OutAndBack 17 (state_in []) (link_in []) unheard_cut.events (change_at unheard_cut).place → ⊥
unheard_cut_unheard h = unheard_cut_late
    (cuts_first_lem 17 (state_in []) (link_in []) unheard_cut.events (change_at unheard_cut).place
    unheard_cut_assumed.has_last h)

unheard_cut_waits : (v : View)
    → Settled 17 (state_in []) (link_in []) unheard_cut.events (change_at unheard_cut).place 5 v → ⊥
unfolding summary
unheard_cut_waits v s =
    let x = s.latest 0 (omega arith, refl) in
    let n : length (record { view = v; sent = x.0 } ∷ x.1) ≡ 0 = ap (λ (l : List SentView). length l) (sym x.2) in
    omega arith

-- so the rule does not hold under any hypothesis on cuts that this list meets
unheard_cut_needed : (Cuts : (ℕ → ℕ) → Type 0) → Cuts (change_at unheard_cut).place
    → SettlesIf 17 (state_in []) (link_in []) unheard_cut.events Cuts → ⊥
unfolding summary
unheard_cut_needed Cuts h rule =
    let x = (rule (change_at unheard_cut).place 4 unheard_cut_assumed h unheard_cut_reported).1 5 (omega arith)
    (omega arith) refl in
    unheard_cut_waits x.0 x.1

-- request 7's words do not cover a cut after the office's own last report, nor one after which the others only hear
-- that its seats left
late_cut : (last : ℕ → ℕ) → last 0 ≡ 0
    → OutAndBack 17 (state_in []) (link_in []) (join 0 17 ∷ cut 0 nothing_begun 0 1_000_001 ∷ []) last → ⊥
unfolding summary
late_cut last e h =
    let l = h.before_last 1 0 (omega arith, refl) (nothing_begun, 0, 1_000_001, (omega arith, refl)) in omega arith

abbrev only_out : List WorldEvent
only_out = join 1 17 ∷ cut 0 nothing_begun 0 0 ∷ leave 1 1 ∷ leave 1 1 ∷ []

never_back : (last : ℕ → ℕ) → OutAndBack 17 (state_in []) (link_in []) only_out last → ⊥
unfolding summary
never_back last h =
    let x = h.out_and_back 1 0 1 (omega arith, refl) (omega arith, refl) (λ e. omega arith)
    (nothing_begun, 0, 0, (omega arith, refl)) in
    let a = x.2 in
    let b = x.3 in
    let c = x.5.0.2.0 in
    let e : x.1 ≡ 3 = omega arith in
    true_false (serves (net_at 17 (state_in []) (link_in []) only_out 1 4) 0)
    (subst (λ (n : ℕ). serves (net_at 17 (state_in []) (link_in []) only_out 1 (n + 1)) 0 ≡ true) e x.5.1) refl
