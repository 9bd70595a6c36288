-- The settling rule at work: scenarios that fail none of its hypotheses (so that `meets_all` gives them, as it does
-- for the first and the last two), small enough to follow by hand. At the end nothing is on its way between the
-- offices, and their latest views are one. Seat 0 is of office 0, seat 4 of office 1, seat 8 of office 2, seat 12 of
-- office 3. {0, 4} is 17, {8} is 256, {0, 4, 8} is 273, {12} is 4096, {0, 12} is 4097.
use mathlib.Core.Path.{◌≡◌, refl, ap, subst}
use mathlib.Core.List.{List, [], ◌∷◌}
use native.Mathlib.Omega.{arith}
use Rattle.rules.specs.State.{zeros}
use Rattle.records.specs.declared.View.{View}
use Rattle.runs.specs.World.{delivery, loss, cut}
use Rattle.runs.specs.Files.{FileEvent, cuts}
use Rattle.runs.specs.Plays.{change, join, leave, hand, join_begun, changes, hands, three}
use Rattle.settling.specs.Statement.{OutAndBack, CutsFirst, Assumed, AllReported, Settled, Settles}
use Rattle.settling.specs.Scenarios.{Posted, Scenario, state_in, link_in, change_at}
use Rattle.settling.proofs.Settling.{settles_with_files}
use Rattle.settling.proofs.Scenarios.{meets_all, meets_cuts, reported}
use Rattle.settling.specs.Scenarios.{Summary, summary, no_view, sent_at, short_room, with_files, in_none}

-- 1. Both offices are told of {0, 4}: each proposes with start 1 and number 1. Each takes the other's proposal and
-- sends view 2.
abbrev plain : Scenario
plain = record { set = 17; begun = []; posted = []; events = join 0 17 ∷ join 1 17 ∷ hand 0 1 ∷ hand 1 0 ∷ [] }

plain_summary :
    summary plain
    ≡ record {
      fails = [];
      point = 2;
      way_count = 2;
      offices = 2;
      bound = 10;
      delivered = 2;
      answers = 0 ∷ 0 ∷ 0 ∷ 0 ∷ [];
      left = 0;
      views = sent_at 3 2 17 (three 1 1 0) ∷ sent_at 2 2 17 (three 1 1 0) ∷ no_view ∷ [];
    }
unfolding summary
plain_summary = refl

-- So every hypothesis of the rule holds of it, and the last report has been acted on at point 2.
pub plain_assumed : Assumed 17 (state_in []) (link_in []) plain.events (change_at plain).place
unfolding summary
plain_assumed = meets_all plain (ap (λ (s : Summary). s.fails) plain_summary)

pub plain_reported : AllReported 17 (state_in []) (link_in []) plain.events (change_at plain).place 2
unfolding summary
plain_reported = reported plain 1 refl

-- 2. After 1, office 0 alone is told that seat 4 left (event 4: view 3 of {0}, number 2) and that it joined again
-- (event 5): notice 3, fast proposal number 3 with used 2, 1. Office 1 is in mode none: it opens with start 2 and
-- makes slow proposal 4. Office 0 joins number 4 and sends view 4, then office 1 does.
abbrev again : Scenario
again =
    record {
      set = 17;
      begun = [];
      posted = [];
      events = join 0 17 ∷ join 1 17 ∷ hand 0 1 ∷ hand 1 0 ∷ leave 0 16 ∷ join 0 16 ∷ hand 0 1 ∷ hand 1 0 ∷ hand 0 1
          ∷ [];
    }

again_summary :
    summary again
    ≡ record {
      fails = [];
      point = 6;
      way_count = 1;
      offices = 2;
      bound = 7;
      delivered = 3;
      answers = 0 ∷ 0 ∷ 0 ∷ 0 ∷ 0 ∷ 0 ∷ 0 ∷ 0 ∷ 0 ∷ [];
      left = 0;
      views = sent_at 7 4 17 (three 3 2 0) ∷ sent_at 8 4 17 (three 3 2 0) ∷ no_view ∷ [];
    }
unfolding summary
again_summary = refl

-- 3. Office 0 has sent view 2, but its proposal to office 1 is lost; only then is it told that seat 4 left and joined
-- again (events 4 and 5). The new proposal has used number 1 for office 1, which is still in mode fast with own
-- number 1: slow agreement is called for, number 4 with start 1.
abbrev lossy : Scenario
lossy =
    record {
      set = 17;
      begun = [];
      posted = [];
      events = join 0 17 ∷ join 1 17 ∷ hand 1 0 ∷ loss 0 1 0 ∷ leave 0 16 ∷ join 0 16 ∷ hand 0 1 ∷ hand 1 0 ∷ hand 0 1
          ∷ [];
    }

lossy_summary :
    summary lossy
    ≡ record {
      fails = [];
      point = 6;
      way_count = 1;
      offices = 2;
      bound = 7;
      delivered = 3;
      answers = 0 ∷ 0 ∷ 0 ∷ 0 ∷ 0 ∷ 0 ∷ 0 ∷ 0 ∷ [];
      left = 0;
      views = sent_at 7 4 17 (three 3 1 0) ∷ sent_at 8 4 17 (three 3 1 0) ∷ no_view ∷ [];
    }
unfolding summary
lossy_summary = refl

-- 4. Refused on the way. Office 3 is no office of {0, 4} and starts with number 5 and used number 9 for office 0; a
-- proposal of kind 3 is on its link to office 0, twice. Office 0 first proposes {0, 12}: office 3 has room for 184
-- bytes and answers 3. Office 0 answers 7 to the proposal of kind 3, also with room for 184 bytes: it does not pass
-- its reading, so full room holds of the list. It answers 12 to the one that office 3 makes. Then {12} leaves, {4}
-- joins, and offices 0 and 1 agree on view 3.
abbrev of_kind_3 : Posted
of_kind_3 =
    record {
      to = 0;
      proposal = record {
        sender = 3;
        kind = 3;
        members = record { bits = 4097 };
        start = 1;
        number = 1;
        used = three 0 0 0;
      };
    }

abbrev refusals : Scenario
refusals =
    record {
      set = 17;
      begun = record { office = 3; state = in_none 3 4096 0 5 zeros (three 9 0 0) } ∷ [];
      posted = of_kind_3 ∷ of_kind_3 ∷ [];
      events =
          join 0 4097 ∷ delivery 0 3 short_room ∷ hand 3 0 ∷ delivery 3 0 short_room ∷ join 3 1 ∷ hand 3 0
          ∷ change 0 16 4096 ∷ join 1 17
          ∷ hand 1 0 ∷ hand 0 1 ∷ [];
    }

refusals_summary :
    summary refusals
    ≡ record {
      fails = [];
      point = 8;
      way_count = 2;
      offices = 2;
      bound = 10;
      delivered = 2;
      answers = 0 ∷ 3 ∷ 7 ∷ 7 ∷ 0 ∷ 12 ∷ 0 ∷ 0 ∷ 0 ∷ 0 ∷ [];
      left = 0;
      views = sent_at 8 3 17 (three 2 1 0) ∷ sent_at 9 3 17 (three 2 1 0) ∷ no_view ∷ [];
    }
unfolding summary
refusals_summary = refl

-- 5. Moshe's example 5.2. Offices 0 and 1 have agreed on {0, 4}, office 2 on {8}; then all three are told of {0, 4,
-- 8} and propose with start 2 and number 2. Office 0 hears both others and sends view 3 (event 9). It is told that
-- seat 8 left and that it joined again: its last proposal has number 4, start 4, used 2, 2, 2. Offices 1 and 2 still
-- wait for each other. The used number 2 is their own: each makes slow proposal 5, office 0 joins, and all send view
-- 5.
abbrev overtaken : Scenario
overtaken =
    record {
      set = 273;
      begun = [];
      posted = [];
      events =
          join 0 17 ∷ join 1 17 ∷ hand 0 1 ∷ hand 1 0 ∷ join 2 256
          ∷ join 0 256 ∷ join 1 256 ∷ join 2 17 ∷ hand 1 0 ∷ hand 2 0
          ∷ leave 0 256 ∷ join 0 256
          ∷ hand 0 1 ∷ hand 0 1 ∷ hand 0 1 ∷ hand 0 2 ∷ hand 0 2 ∷ hand 1 0 ∷ hand 2 0
          ∷ hand 1 2 ∷ hand 1 2 ∷ hand 2 1 ∷ hand 2 1 ∷ hand 0 1 ∷ hand 0 2 ∷ [];
    }

overtaken_summary :
    summary overtaken
    ≡ record {
      fails = [];
      point = 12;
      way_count = 7;
      offices = 3;
      bound = 67;
      delivered = 13;
      answers =
          0 ∷ 0 ∷ 0 ∷ 0 ∷ 0 ∷ 0 ∷ 0 ∷ 0 ∷ 0 ∷ 0 ∷ 0 ∷ 0 ∷ 0 ∷ 0 ∷ 0 ∷ 0 ∷ 0 ∷ 0 ∷ 0 ∷ 0 ∷ 0 ∷ 0 ∷ 0 ∷ 0 ∷ 0 ∷ [];
      left = 0;
      views = sent_at 18 5 273 (three 4 2 2) ∷ sent_at 23 5 273 (three 4 2 2) ∷ sent_at 24 5 273 (three 4 2 2) ∷ [];
    }
unfolding summary
overtaken_summary = refl

-- 6. Repeats. Office 0 is told of {0, 4} twice before the last report of office 1 (event 2), which is told of it
-- twice too. On the way office 0 is told that {0, 4, 8} joins and {8} leaves, and after both have sent view 2 that
-- {4} joins and office 1 that {8} leaves: nothing comes of these.
abbrev repeating : Scenario
repeating =
    record {
      set = 17;
      begun = [];
      posted = [];
      events =
          join 0 17 ∷ join 0 17 ∷ join 1 17 ∷ join 1 17 ∷ hand 0 1
          ∷ change 0 273 256
          ∷ hand 1 0 ∷ join 0 16 ∷ leave 1 256 ∷ [];
    }

repeating_summary :
    summary repeating
    ≡ record {
      fails = [];
      point = 3;
      way_count = 2;
      offices = 2;
      bound = 10;
      delivered = 2;
      answers = 0 ∷ 0 ∷ 0 ∷ 0 ∷ 0 ∷ 0 ∷ 0 ∷ 0 ∷ 0 ∷ [];
      left = 0;
      views = sent_at 6 2 17 (three 1 1 0) ∷ sent_at 4 2 17 (three 1 1 0) ∷ no_view ∷ [];
    }
unfolding summary
repeating_summary = refl

pub repeating_assumed : Assumed 17 (state_in []) (link_in []) repeating.events (change_at repeating).place
unfolding summary
repeating_assumed = meets_all repeating (ap (λ (s : Summary). s.fails) repeating_summary)

pub repeating_reported : AllReported 17 (state_in []) (link_in []) repeating.events (change_at repeating).place 3
unfolding summary
repeating_reported = reported repeating 1 refl

-- 7. Cuts, out and back. Office 0 has begun a report of {0, 4} and is cut off after four bytes of its first mark: it
-- begins again at 0. Office 1 proposes {0, 4}, and office 0 stores that. It is cut off in a report again (event 3),
-- when the mark of 1,000,001 stands over the torn one and the start notice has left: it begins again at the mark, and
-- office 1's proposal is gone. It proposes with start and number 1,000,002: office 1 sends view 1,000,003, office 0
-- waits. Then office 1 is told that seat 0 left and joined again (events 6 and 7). Its new proposal has office 0's
-- number as used: slow agreement is called for, number 1,000,003, and both send view 1,000,005.
abbrev restarts : Scenario
restarts =
    record {
      set = 17;
      begun = [];
      posted = [];
      events =
          cut 0 (join_begun 17) 0 0 ∷ join 1 17 ∷ hand 1 0 ∷ cut 0 (join_begun 17) 1 1_000_001 ∷ join 0 17 ∷ hand 0 1
          ∷ leave 1 1 ∷ join 1 1 ∷ hand 1 0 ∷ hand 0 1 ∷ hand 1 0 ∷ [];
    }

restarts_summary :
    summary restarts
    ≡ record {
      fails = [];
      point = 8;
      way_count = 1;
      offices = 2;
      bound = 7;
      delivered = 3;
      answers = 0 ∷ 0 ∷ 0 ∷ 0 ∷ 0 ∷ 0 ∷ 0 ∷ 0 ∷ 0 ∷ [];
      left = 0;
      views = sent_at 10 1_000_005 17 (three 1_000_002 1_000_004 0)
          ∷ sent_at 9 1_000_005 17 (three 1_000_002 1_000_004 0) ∷ no_view ∷ [];
    }
unfolding summary
restarts_summary = refl

-- the list with files that it is: four actions are four bytes, eleven are a mark and a record
abbrev restarts_filed : List FileEvent
restarts_filed =
    cuts 0 (join_begun 17) 4 ∷ changes 1 17 0 ∷ hands 1 0 ∷ cuts 0 (join_begun 17) 11 ∷ changes 0 17 0 ∷ hands 0 1
    ∷ changes 1 0 1 ∷ changes 1 1 0 ∷ hands 1 0 ∷ hands 0 1 ∷ hands 1 0 ∷ []

restarts_plainly : with_files restarts_filed ≡ restarts.events
unfolding with_files
restarts_plainly = refl

pub restarts_assumed : Assumed 17 (state_in []) (link_in []) restarts.events (change_at restarts).place
unfolding summary
restarts_assumed = meets_all restarts (ap (λ (s : Summary). s.fails) restarts_summary)

pub restarts_reported : AllReported 17 (state_in []) (link_in []) restarts.events (change_at restarts).place 8
unfolding summary
restarts_reported = reported restarts 1 refl

pub restarts_cuts : OutAndBack 17 (state_in []) (link_in []) restarts.events (change_at restarts).place
    × CutsFirst 17 (state_in []) (link_in []) restarts.events (change_at restarts).place
unfolding summary
restarts_cuts = meets_cuts restarts (ap (λ (s : Summary). s.fails) restarts_summary)

-- so the rule speaks of it, by request 7's words: at the end the offices have settled
restarts_rule : Settles 17 (state_in []) (link_in []) restarts.events
unfolding with_files
restarts_rule = subst (Settles 17 (state_in []) (link_in [])) restarts_plainly
    (settles_with_files 17 (state_in []) (link_in []) (λ i. []) restarts_filed (λ i o. refl)).0

pub restarts_settle :
    (v : View) × Settled 17 (state_in []) (link_in []) restarts.events (change_at restarts).place 11 v
unfolding summary
restarts_settle =
    (restarts_rule (change_at restarts).place 8 restarts_assumed restarts_cuts.0 restarts_reported).1 11
    (omega arith) (omega arith) refl
