-- The worked days at office 0, in room 0, that document 01 marks with *, N as change request 2 has it, and a day at the
-- ceiling: what comes of each by the rules, and what the documents say.
use Rattle.std.specs.Prelude.{List, [], ◌∷◌, ◌++◌, ℕ, ◌+◌, ◌-◌}
use Rattle.laws.specs.Upd.{upd}
use Rattle.laws.specs.Fin.{allb, anyb, largest}
use Rattle.laws.specs.Tab.{tab}
use Rattle.laws.specs.Big.{bytes_all}
use Rattle.laws.specs.Bit.{bit}
use Rattle.seats.specs.Seats.{has, union_of, without_of}
use Rattle.seats.specs.Offices.{serves}
use Rattle.records.specs.Layout.{encode_report, decode_report, encode_proposal, decode_proposal, encode_notice}
use Rattle.records.specs.Layout.{encode_view, room_of, mark_of, form_for, form_of, check_for, check_of}
use Rattle.rules.specs.State.{None, Fast, State, fast, slow}
use Rattle.rules.specs.Rules.{Written, notice, proposal, view, and_then, fresh, restarted, net_after, with_net}
use Rattle.rules.specs.Rules.{repeats, seated, opened, notice_of, opens, next_number, own_proposal, proposed}
use Rattle.rules.specs.Rules.{receives, proposes_fast, received, matching, matching_slow, above_own, uses_own}
use Rattle.rules.specs.Rules.{slow_called, joined_number, slow_number, proposes_slow, slow_test, agrees_kind, is_none}
use Rattle.rules.specs.Rules.{agreed, start_of, view_of, concluded, agreement_test, tests, change_rule, report_rule}
use Rattle.rules.specs.Rules.{proposal_rule}
use Rattle.records.specs.Numbers.{limit}
use Rattle.rules.specs.Refusals.{Result, slot_within, well_formed, read_check, event_of, wrong_sender, wrong_kind}
use Rattle.rules.specs.Refusals.{wrong_number, without_seat, stray_used, uses_itself, not_above, used_ahead}
use Rattle.rules.specs.Refusals.{read_number, proposal_checks, accepting, act_of, act_with, take_of, full_room, step_of}
use Rattle.rules.specs.Refusals.{all_bytes, size}

-- what is seen of a day: the refusal or 0, the bytes written, the records they are, the current view number
pub record Day : Type 0 where
  pub refusal : ℕ
  pub bytes : ℕ
  pub written : List Written
  pub view : ℕ

abbrev seen : Result → Day
seen r =
    record {
      refusal = r.refusal;
      bytes = size r.written;
      written = r.written;
      view = r.state.view.number;
    }

-- the seats 0, 4 and 8 as sets
abbrev seat0 : ℕ
seat0 = 0b1

abbrev seat4 : ℕ
seat4 = 0b10000

abbrev both : ℕ
both = 0b10001

abbrev seat8 : ℕ
seat8 = 0b100000000

-- sixteen numbers, those of offices 0 and 1 first
abbrev two : ℕ → ℕ → List ℕ
two a b = a ∷ b ∷ tab 14 (λ o. 0)

-- a record handed in for the state's own office, with the least output; to unfold it is to unfold the rules
unfoldable pub given : State → List ℕ → Result
unfolding upd allb anyb largest tab bytes_all bit has union_of without_of serves encode_report decode_report
    encode_proposal decode_proposal encode_notice encode_view room_of mark_of form_for form_of check_for check_of
    and_then fresh restarted net_after with_net repeats seated opened notice_of opens next_number own_proposal proposed
    receives proposes_fast received matching matching_slow above_own uses_own slow_called joined_number slow_number
    proposes_slow slow_test agrees_kind is_none agreed start_of view_of concluded agreement_test tests change_rule
    report_rule proposal_rule slot_within well_formed read_check event_of wrong_sender wrong_kind wrong_number
    without_seat stray_used uses_itself not_above used_ahead read_number proposal_checks accepting act_of act_with
    take_of step_of all_bytes
given s b = step_of s.own s b full_room

-- what is handed in: a report of joining and of leaving seats, one of joining seats only, and P of document 01
abbrev pub reported : State → ℕ → ℕ → Result
reported s joining leaving =
    given s (encode_report 0 (record { joining = record { bits = joining }; leaving = record { bits = leaving } }))

abbrev report : State → ℕ → Result
report s joining = reported s joining 0

abbrev P : State → ℕ → ℕ → ℕ → ℕ → ℕ → Result
P s kind start number used0 used1 =
    given s
    (encode_proposal 0
    (record {
      sender = 1;
      kind = kind;
      members = record { bits = both };
      start = start;
      number = number;
      used = two used0 used1;
    }))

-- the days by the rules
abbrev before : State
before = fresh 0

unfoldable pub day_a : Result
day_a = report before seat0

unfoldable pub day_b : Result
day_b = report day_a.state seat4

unfoldable pub day_c : Result
day_c = P day_b.state fast 1 1 0 0

unfoldable pub day_e : Result
day_e = P day_c.state fast 3 2 2 1

unfoldable pub day_g : Result
day_g = P day_b.state fast 3 2 2 1

unfoldable pub late_start : Result
late_start = P day_b.state fast 5 1 0 0

unfoldable pub left : Result
left = reported day_c.state 0 seat4

unfoldable pub day_i : Result
day_i = P before slow 1 5 0 0

unfoldable pub day_j : Result
day_j = P before fast 1 1 0 0

unfoldable pub day_k : Result
day_k = P before fast 1 limit 0 0

unfoldable pub near_limit : Result
near_limit = P before slow 1 (limit - 2) 0 0

unfoldable pub at_limit : Result
at_limit = report near_limit.state both

unfoldable pub computed : List Day
computed =
    seen day_a ∷ seen day_b ∷ seen day_c
    ∷ seen (P day_c.state fast 1 1 0 0)
    ∷ seen day_e
    ∷ seen (P day_e.state slow 3 3 2 1)
    ∷ seen day_g
    ∷ seen (P day_b.state fast 1 1 3 0)
    ∷ seen day_i ∷ seen (report day_i.state both)
    ∷ seen day_j ∷ seen (report day_j.state both)
    ∷ seen day_k ∷ seen (report day_k.state both) ∷ seen (P before fast 1 (limit + 1) 0 0)
    ∷ seen (report day_b.state 0)
    ∷ seen near_limit ∷ seen at_limit ∷ seen (report at_limit.state 0) ∷ seen (report at_limit.state seat8)
    ∷ []

-- the records of office 0
abbrev a_notice : ℕ → ℕ → Written
a_notice start members = notice (record { start = start; members = record { bits = members } })

abbrev own : ℕ → ℕ → ℕ → ℕ → ℕ → Written
own kind start number used0 used1 =
    proposal
    (record {
      sender = 0;
      kind = kind;
      members = record { bits = both };
      start = start;
      number = number;
      used = two used0 used1;
    })

abbrev a_fast : ℕ → ℕ → ℕ → ℕ → Written
a_fast = own 1

abbrev a_slow : ℕ → ℕ → ℕ → ℕ → Written
a_slow = own 2

abbrev a_view : ℕ → ℕ → ℕ → ℕ → Written
a_view number members start0 start1 =
    view (record { number = number; members = record { bits = members }; starts = two start0 start1 })

abbrev accepts : ℕ → List Written → ℕ → Day
accepts bytes written current = record { refusal = 0; bytes = bytes; written = written; view = current }

abbrev refuses : ℕ → ℕ → Day
refuses refusal current = record { refusal = refusal; bytes = 0; written = []; view = current }

-- the days as the documents have them
unfoldable pub stated : List Day
stated =
    -- A: notice 1, view 2 with start 1; 94 bytes
    accepts 94 (a_notice 1 seat0 ∷ a_view 2 seat0 1 0 ∷ []) 2
    -- B: notice 2, fast proposal number 2 with used 1, 0; 100 bytes
    ∷ accepts 100 (a_notice 2 both ∷ a_fast 2 2 1 0 ∷ []) 2
    -- C: view 3, starts 2 and 1; 79 bytes
    ∷ accepts 79 (a_view 3 both 2 1 ∷ []) 3
    -- D: 11
    ∷ refuses 11 3
    -- E: notice 3, slow proposal number 3; 100 bytes
    ∷ accepts 100 (a_notice 3 both ∷ a_slow 3 3 2 1 ∷ []) 3
    -- F: view 4, starts 3 and 3
    ∷ accepts 79 (a_view 4 both 3 3 ∷ []) 4
    -- G: slow proposal number 3; 85 bytes
    ∷ accepts 85 (a_slow 2 3 1 0 ∷ []) 2
    -- H: 12
    ∷ refuses 12 2
    -- I: 0 bytes; then notice 1, fast number 6, slow number 7; 185 bytes
    ∷ accepts 0 [] 0
    ∷ accepts 185 (a_notice 1 both ∷ a_fast 1 6 0 0 ∷ a_slow 1 7 0 0 ∷ []) 0
    -- J: accepted; then notice 1, fast number 2, view 2; 179 bytes
    ∷ accepts 0 [] 0
    ∷ accepts 179 (a_notice 1 both ∷ a_fast 1 2 0 0 ∷ a_view 2 both 1 1 ∷ []) 2
    -- K: accepted; then 13; with number L + 1, 8
    ∷ accepts 0 [] 0
    ∷ refuses 13 0
    ∷ refuses 8 0
    -- N: an empty report; 0 bytes
    ∷ accepts 0 [] 2
    -- at the ceiling: number L - 2 is accepted; then fast number L - 1, slow number L; an empty report does nothing;
    -- one that joins {8} gets 13
    ∷ accepts 0 [] 0
    ∷ accepts 185 (a_notice 1 both ∷ a_fast 1 (limit - 1) 0 0 ∷ a_slow 1 limit 0 0 ∷ []) 0
    ∷ accepts 0 [] 0
    ∷ refuses 13 0
    ∷ []

-- Further days, where document 01 decides against the paper's figure 7: the slow test looks at what is stored, and
-- goes by its own cases. Besides, what no starred day shows: an office outside the net view has no start number in a
-- view, and the own proposal is no matching one, even where it claims to have used itself, as in this state that no
-- run reaches.
unfoldable pub self_used : State
self_used =
    proposed Fast 1
    (record {
      own = 0;
      mode = None;
      net = record { bits = both };
      stored = before.stored;
      accepted = before.accepted;
      view = before.view;
      start = 1;
      number = 0;
      used = two 1 0;
    })

unfoldable pub further_computed : List Day
further_computed =
    seen (P day_g.state fast 4 9 2 1)
    ∷ seen (P day_g.state fast 4 4 3 2)
    ∷ seen (P day_g.state slow 4 9 2 1)
    ∷ seen (P day_b.state fast 3 9 2 1)
    ∷ seen (P day_b.state slow 1 2 0 0)
    ∷ seen (P day_b.state slow 1 5 0 0)
    ∷ seen (P day_c.state slow 3 2 2 1)
    ∷ seen (P day_c.state slow 3 5 2 1)
    ∷ seen left ∷ seen (report left.state seat4)
    ∷ seen (reported day_c.state (both + seat8) seat8) ∷ seen (reported day_c.state 0 seat8)
    ∷ seen late_start ∷ seen (reported late_start.state 0 seat4)
    ∷ seen (report day_j.state seat0)
    ∷ seen (P self_used fast 1 1 0 0)
    ∷ []

unfoldable pub further_stated : List Day
further_stated =
    -- after G, a fast proposal with a higher number opens no new round
    accepts 0 [] 2
    -- after G, a used number that is the own one does, in mode slow too
    ∷ accepts 85 (a_slow 2 5 1 0 ∷ []) 2
    -- after G, a slow proposal with a higher number is joined, and agreed with
    ∷ accepts 164 (a_slow 2 9 1 0 ∷ a_view 5 both 2 4 ∷ []) 5
    -- after B, the own number goes above a fast proposal's, never to it
    ∷ accepts 85 (a_slow 2 10 1 0 ∷ []) 2
    -- after B, a slow proposal whose number is not above the own one is not joined
    ∷ accepts 85 (a_slow 2 3 1 0 ∷ []) 2
    -- after B, one whose number is above is joined, and agreed with
    ∷ accepts 164 (a_slow 2 5 1 0 ∷ a_view 3 both 2 1 ∷ []) 3
    -- after C, the same two in mode none: step 3 first
    ∷ accepts 100 (a_notice 3 both ∷ a_slow 3 3 2 1 ∷ []) 3
    ∷ accepts 179 (a_notice 3 both ∷ a_slow 3 5 2 1 ∷ a_view 4 both 3 3 ∷ []) 4
    -- after C, {4} leaves: view 4 of {0}; then {4} joins again: the used proposals are gone, so no view
    ∷ accepts 94 (a_notice 3 seat0 ∷ a_view 4 seat0 3 0 ∷ []) 4
    ∷ accepts 100 (a_notice 4 both ∷ a_fast 4 4 3 1 ∷ []) 4
    -- after C, two repeats: {0, 4, 8} joins and {8} leaves; {8} leaves
    ∷ accepts 0 [] 3
    ∷ accepts 0 [] 3
    -- after B, a proposal with start number 5: view 6; then {4} leaves: the start number rises to the view number
    ∷ accepts 79 (a_view 6 both 2 5 ∷ []) 6
    ∷ accepts 94 (a_notice 6 seat0 ∷ a_view 7 seat0 6 0 ∷ []) 7
    -- after J's proposal from office 1, seat 0 joins alone: the view has no start number for office 1
    ∷ accepts 94 (a_notice 1 seat0 ∷ a_view 2 seat0 1 0 ∷ []) 2
    -- office 1 agrees with an own proposal that claims to have used itself: view 2
    ∷ accepts 79 (a_view 2 both 1 1 ∷ []) 2
    ∷ []

-- An input for each reason to refuse from 1 to 10, and for 19 and 20, at a fresh office 0: the smallest change to what
-- would be accepted.
abbrev from_in : ℕ → ℕ → ℕ → ℕ → ℕ → ℕ → List ℕ → Result
from_in room sender kind members start number used =
    given before
    (encode_proposal room
    (record {
      sender = sender;
      kind = kind;
      members = record { bits = members };
      start = start;
      number = number;
      used = used;
    }))

abbrev from : ℕ → ℕ → ℕ → ℕ → ℕ → List ℕ → Result
from = from_in 0

abbrev joined_in : ℕ → List ℕ
joined_in room = encode_report room (record { joining = record { bits = seat0 }; leaving = record { bits = 0 } })

abbrev joined : List ℕ
joined = joined_in 0

unfoldable pub refusals : List ℕ
refusals =
    (given (fresh 16) joined).refusal
    ∷ (given (restarted 0 (limit + 1)) joined).refusal
    ∷ (step_of 0 before joined 184).refusal
    ∷ (given before []).refusal
    ∷ (given before (0x53 ∷ 0x43 ∷ [])).refusal
    ∷ (given before (0x4e ∷ 0x45 ∷ [])).refusal
    ∷ (given before (joined ++ (0 ∷ []))).refusal
    ∷ (given before (joined_in 8)).refusal
    ∷ (given before (joined_in 7)).refusal
    ∷ (given before (joined_in 8 ++ (0 ∷ []))).refusal
    ∷ (from_in 8 16 fast both 1 1 (two 0 0)).refusal
    ∷ (from 16 fast both 1 1 (two 0 0)).refusal
    ∷ (from 0 fast both 1 1 (two 0 0)).refusal
    ∷ (from 1 0 both 1 1 (two 0 0)).refusal
    ∷ (from 1 3 both 1 1 (two 0 0)).refusal
    ∷ (from 1 fast both 0 1 (two 0 0)).refusal
    ∷ (from 1 fast both (limit + 1) 1 (two 0 0)).refusal
    ∷ (from 1 fast both 1 0 (two 0 0)).refusal
    ∷ (from 1 fast both 1 1 (two 0 (limit + 1))).refusal
    ∷ (from 1 fast seat0 1 1 (two 0 0)).refusal
    ∷ (from 1 fast seat4 1 1 (two 0 0)).refusal
    ∷ (from 1 fast both 1 1 (0 ∷ 0 ∷ 1 ∷ tab 13 (λ o. 0))).refusal
    ∷ (from 1 fast both 1 1 (two 0 1)).refusal
    ∷ (from 1 fast both 1 1 (two 0 0)).refusal
    ∷ []

-- the reasons, and that room 7 and the last are accepted; 5 comes before 20, and 20 before 6
unfoldable pub reasons : List ℕ
reasons = 1 ∷ 2 ∷ 3 ∷ 4 ∷ 4 ∷ 5 ∷ 5 ∷ 20 ∷ 0 ∷ 5 ∷ 20 ∷ 6 ∷ 6 ∷ 7 ∷ 7 ∷ 8 ∷ 8 ∷ 8 ∷ 8 ∷ 9 ∷ 9 ∷ 10 ∷ 19 ∷ 0 ∷ []

-- A proposal that claims to have used itself, request 8. Office 1's used number stands last in P.
unfoldable pub self_use_computed : List Day
self_use_computed =
    seen day_e ∷ seen (P day_c.state fast 3 2 2 2) ∷ seen (P day_c.state fast 3 2 2 3)
    ∷ seen day_j ∷ seen (P before fast 1 1 0 1)
    ∷ seen (P before slow 1 limit 0 (limit - 1)) ∷ seen (P before slow 1 limit 0 limit)
    ∷ seen (P day_b.state fast 1 1 2 0)
    ∷ seen (from 1 fast both 1 1 (0 ∷ 1 ∷ 1 ∷ tab 13 (λ o. 0))) ∷ seen (from 1 fast seat0 1 1 (two 0 1))
    ∷ seen (P day_c.state fast 1 1 0 0) ∷ seen (P day_c.state fast 1 1 0 1)
    ∷ seen (P day_b.state fast 1 1 3 0) ∷ seen (P day_b.state fast 1 1 3 1)
    ∷ seen (P at_limit.state fast 1 (limit - 1) limit 0)
    ∷ seen (P at_limit.state fast 1 (limit - 1) limit (limit - 1))
    ∷ []

unfoldable pub self_use_stated : List Day
self_use_stated =
    -- E, whose used number is just below its number 2; with 2 it is 19, with 3 too
    accepts 100 (a_notice 3 both ∷ a_slow 3 3 2 1 ∷ []) 3 ∷ refuses 19 3 ∷ refuses 19 3
    -- number 1 has 0 below it; number L has L - 1
    ∷ accepts 0 [] 0 ∷ refuses 19 0
    ∷ accepts 0 [] 0 ∷ refuses 19 0
    -- the used number for this office may be above the proposal's number: it is the own one, as in G
    ∷ accepts 85 (a_slow 2 3 1 0 ∷ []) 2
    -- 10 and 9 come before 19
    ∷ refuses 10 0 ∷ refuses 9 0
    -- D, H and the ceiling: 19 comes before 11, 12 and 13
    ∷ refuses 11 3 ∷ refuses 19 3
    ∷ refuses 12 2 ∷ refuses 19 2
    ∷ refuses 13 0 ∷ refuses 19 0
    ∷ []
