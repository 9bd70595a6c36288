-- The reasons to refuse, in checking order, and the step: what comes of any bytes on any state. A record is read for
-- an office, by 1, 4, 5, 20, 6 to 10 and 19; its event is acted on, by 2, 3, 6 to 10, 19 and 11 to 13.
use Rattle.std.specs.Prelude.{Bool, ◌&&◌, ◌||◌, not, List, [], ◌∷◌, ◌++◌, ℕ, ◌+◌, ◌*◌, get_or, length, eqb, ltb, leb}
use Rattle.laws.specs.Checks.{Check, numbered, first_of}
use Rattle.laws.specs.Fin.{allb}
use Rattle.laws.specs.Upd.{ifb}
use Rattle.seats.specs.Offices.{serves}
use Rattle.records.specs.Numbers.{limit, within, room_above, above_limit, stray_number}
use Rattle.records.specs.Layout.{report_mark, notice_length, proposal_length, value_of, check_of, mark_of, room_of}
use Rattle.records.specs.Layout.{decode_report, decode_proposal, encode_proposal, encode_notice, encode_view}
use Rattle.rules.specs.MarkFile.{last_high, good_file}
use Rattle.records.specs.declared.Report.{Report}
use Rattle.records.specs.declared.Proposal.{Proposal}
use Rattle.rules.specs.State.{Slot, State, fast, slow, stored_at, accepted_at, used_at, used_for}
use Rattle.rules.specs.Rules.{Written, notice, proposal, view, Outcome, fresh, restarted, report_rule, proposal_rule}

-- the numbers of a stored proposal; an empty slot has none
unfoldable pub slot_within : Slot → Bool
slot_within v =
    not v.present
    || (within v.proposal.start && within v.proposal.number && allb 16 (λ o. within (used_for v.proposal o)))

-- check 2 passes: the own office is at most 15 and no number is above L
unfoldable pub well_formed : State → Bool
well_formed s =
    leb s.own 15 && within s.view.number && within s.start && within s.number
    && allb 16 (λ o. within (get_or s.view.starts o 0)) && allb 16 (λ o. within (accepted_at s o))
    && allb 16 (λ o. within (used_at s o)) && allb 16 (λ o. slot_within (stored_at s o))

-- 1, when a state is made: the fresh state of office 0 comes back with the number
pub record Made : Type 0 where
  pub refusal : ℕ
  pub state : State

unfoldable pub made_of : ℕ → Made
made_of o = ifb (leb o 15) (record { refusal = 0; state = fresh o }) (record { refusal = 1; state = fresh 0 })

-- 18, after 1, when a state is made again: the file is too long or a whole record is not such a mark; it gives back
-- what 1 gives
unfoldable pub restart_checks : ℕ → Bool → List Check
restart_checks o good = record { number = 1; applies = ltb 15 o } ∷ record { number = 18; applies = not good } ∷ []

unfoldable pub restart_of : ℕ → List ℕ → Made
restart_of o f =
    let n = first_of (restart_checks o (good_file f)) in
    record { refusal = n; state = ifb (eqb n 0) (restarted o (last_high f)) (fresh 0) }

-- the length of an output that every event has room in, 185: a start notice and two proposals
abbrev pub full_room : ℕ
full_room = notice_length + 2 * proposal_length

-- 4 and 5, then 20, when the room is above 7
abbrev pub read_checks : List ℕ → List Check
read_checks b = numbered (check_of b) ∷ record { number = 20; applies = room_above (room_of b) } ∷ []

unfoldable pub read_check : List ℕ → ℕ
read_check b = first_of (read_checks b)

-- a record that was read
pub data Event : Type 0 where
  a_report : Report → Event
  a_proposal : Proposal → Event

unfoldable pub event_of : List ℕ → Event
event_of b = ifb (eqb (mark_of b) (value_of report_mark)) (a_report (decode_report b)) (a_proposal (decode_proposal b))

-- 6 to 10 and 19 look at the proposal and an office
unfoldable pub wrong_sender : ℕ → Proposal → Bool
wrong_sender office p = ltb 15 p.sender || eqb p.sender office

unfoldable pub wrong_kind : Proposal → Bool
wrong_kind p = not (eqb p.kind fast || eqb p.kind slow)

unfoldable pub wrong_number : Proposal → Bool
wrong_number p =
    eqb p.start 0 || ltb limit p.start || eqb p.number 0 || ltb limit p.number
    || above_limit p.used

unfoldable pub without_seat : ℕ → Proposal → Bool
without_seat office p = not (serves p.members.bits p.sender) || not (serves p.members.bits office)

unfoldable pub stray_used : Proposal → Bool
stray_used p = stray_number p.members.bits p.used

unfoldable pub uses_itself : Proposal → Bool
uses_itself p = leb p.number (used_for p p.sender)

abbrev pub form_checks : ℕ → Proposal → List Check
form_checks office p =
    record { number = 6; applies = wrong_sender office p } ∷ record { number = 7; applies = wrong_kind p }
    ∷ record { number = 8; applies = wrong_number p } ∷ record { number = 9; applies = without_seat office p }
    ∷ record { number = 10; applies = stray_used p } ∷ record { number = 19; applies = uses_itself p } ∷ []

-- of an event: a report passes them
abbrev pub form_refusal : ℕ → Event → ℕ
form_refusal office (a_report r) = 0
form_refusal office (a_proposal p) = first_of (form_checks office p)

-- the reading for an office: 1; what 4, 5 and 20 found; 6 to 10 and 19
abbrev pub reading_checks : ℕ → ℕ → Event → List Check
reading_checks office found e =
    record { number = 1; applies = ltb 15 office } ∷ numbered found ∷ numbered (form_refusal office e) ∷ []

unfoldable pub read_number : ℕ → ℕ → Event → ℕ
read_number office found e = first_of (reading_checks office found e)

-- 11 and 12 look at what this office has accepted and proposed
unfoldable pub not_above : State → Proposal → Bool
not_above s p = leb p.number (accepted_at s p.sender)

unfoldable pub used_ahead : State → Proposal → Bool
used_ahead s p = ltb s.number (used_for p s.own)

abbrev pub state_checks : State → Proposal → List Check
state_checks s p =
    record { number = 11; applies = not_above s p } ∷ record { number = 12; applies = used_ahead s p } ∷ []

unfoldable pub proposal_checks : State → Proposal → List Check
proposal_checks s p = form_checks s.own p ++ state_checks s p

abbrev pub refusal_of : State → Event → ℕ
refusal_of s (a_report r) = 0
refusal_of s (a_proposal p) = first_of (proposal_checks s p)

abbrev pub rule_of : State → Event → Outcome
rule_of s (a_report r) = report_rule s r
rule_of s (a_proposal p) = proposal_rule s p

-- what comes back: the refusal or 0, what was written, the state
pub record Result : Type 0 where
  pub refusal : ℕ
  pub written : List Written
  pub state : State

abbrev pub refused : ℕ → State → Result
refused n s = record { refusal = n; written = []; state = s }

abbrev pub accepted : Outcome → Result
accepted o = record { refusal = 0; written = o.written; state = o.state }

-- 13: the event would make a number above L, so that the state it leaves would not pass check 2
unfoldable pub accepting : State → Outcome → Result
accepting s o = ifb (well_formed o.state) (accepted o) (refused 13 s)

-- acting on an event
unfoldable pub act_of : State → Event → Result
act_of s e = ifb (eqb (refusal_of s e) 0) (accepting s (rule_of s e)) (refused (refusal_of s e) s)

-- acting with an output of this length: 2, 3, then 6 to 10, 19 by the own office, 11 to 13
unfoldable pub act_with : State → Event → ℕ → Result
act_with s e output = ifb (well_formed s) (ifb (ltb output full_room) (refused 3 s) (act_of s e)) (refused 2 s)

-- an event handed to an office: read for it, then acted on
unfoldable pub take_of : ℕ → State → Event → ℕ → Result
take_of office s e output = let n = read_number office 0 e in ifb (eqb n 0) (act_with s e output) (refused n s)

-- the step in one room: a record is read for an office, then its event acted on
unfoldable pub step_of : ℕ → State → List ℕ → ℕ → Result
step_of office s b output =
    let n = read_number office (read_check b) (event_of b) in
    ifb (eqb n 0) (act_with s (event_of b) output) (refused n s)

-- the bytes written: each record names the room
abbrev pub bytes_of : ℕ → Written → List ℕ
bytes_of room (notice n) = encode_notice room n
bytes_of room (proposal p) = encode_proposal room p
bytes_of room (view v) = encode_view room v

unfoldable pub all_bytes : ℕ → List Written → List ℕ
all_bytes room [] = []
all_bytes room (w ∷ ws) = bytes_of room w ++ all_bytes room ws

-- how many bytes that is, the same in every room
abbrev pub size : List Written → ℕ
size ws = length (all_bytes 0 ws)
