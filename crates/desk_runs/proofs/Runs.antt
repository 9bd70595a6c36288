-- Over every run of one office from fresh, in any of the eight rooms: a fresh seat of the office accepts every notice
-- and view whose members hold it, in the order sent, whether or not it left and came back in between.
use mathlib.Core.Path.{◌≡◌, refl}
use mathlib.Core.List.{List}
use Prim.Native.Nat.{ℕ, ◌<◌}
use native.Mathlib.Omega.{arith}
use Rattle.laws.specs.Lists.{Every}
use Rattle.seats.specs.Seats.{seat_count}
use Rattle.seats.specs.Offices.{office_of}
use Rattle.records.specs.Numbers.{room_count}
use Rattle.rules.specs.State.{State}
use Rattle.rules.specs.Rules.{Written, fresh}
use Rattle.rule_laws.proofs.Parts.{fresh_reads}
use Rattle.rule_laws.proofs.Steps.{take_by}
use Rattle.runs.specs.Office.{Input, OfSeats, answer_to, next_state, state_after, log_of, sent_in}
use Rattle.runs.proofs.OfficeRuns.{Beside, beside_run}
use Rattle.desk.specs.declared.checks.Desk.{Desk}
use Rattle.desk.specs.Hearing.{fresh_desk}
use Rattle.desk_runs.specs.Sent.{sent_to, hearings, desk_after}
use Rattle.desk_runs.proofs.Taking.{Hears, at_end, hears_then, all_accepted, desk_then}
use Rattle.desk_runs.proofs.Follows.{Follows, event_follows}

module _ (room : ℕ) (in_room : room < room_count) (seat : ℕ) (lt : seat < seat_count) where
  -- a seat beside the office that it follows
  abbrev Beside-it : Desk → List Written → State → Type 0
  Beside-it = Beside (Hears room seat) (Follows room in_room seat lt)

  -- what an answer sends, accepted or not
  pub next_heard : (d : Desk) (s : State) (h : Input) → OfSeats h.event → Follows room in_room seat lt d s
      → Beside-it d (answer_to s h).written (next_state s h)
  unfolding answer_to
  next_heard d s h y f =
      take_by h.office s h.event h.room (Beside-it d) (record { then = d; told = at_end; holds = f })
      (λ a. event_follows room in_room seat lt d s h.event y a.acts.passes a.acts.within f)

  -- from any state that the seat follows; a fresh start is not needed
  pub run_heard : (d : Desk) (s : State) (hs : List Input) → Every (λ h. OfSeats h.event) hs
      → Follows room in_room seat lt d s
      → Beside-it d (sent_in (log_of s hs)) (state_after s hs)
  run_heard = beside_run (Hears room seat) (Follows room in_room seat lt) (λ d. at_end)
      (λ c d e a b. hears_then room seat) (λ h. OfSeats h.event) next_heard

  -- a fresh seat follows a fresh office
  pub fresh_follows : Follows room in_room seat lt (fresh_desk seat) (fresh (office_of seat))
  unfolding fresh_desk
  fresh_follows =
      let r = fresh_reads (office_of seat) in
      record {
        behind = record {
          is_seat_lem = refl;
          office = r.own_is;
          fits = let x = r.net_is in
              omega arith;
          start = omega arith;
          view = omega arith;
        };
        changing = λ y. absurd (y r.mode_is);
        own_start = λ y. absurd (y r.mode_is);
      }

  -- the seat refuses nothing that it is sent, and follows the office at the end
  module _ (hs : List Input) (y : Every (λ h. OfSeats h.event) hs) where
    abbrev sent : List Written
    sent = sent_to seat (sent_in (log_of (fresh (office_of seat)) hs))

    abbrev heard : Beside-it (fresh_desk seat) (sent_in (log_of (fresh (office_of seat)) hs))
        (state_after (fresh (office_of seat)) hs)
    heard = run_heard (fresh_desk seat) (fresh (office_of seat)) hs y fresh_follows

    pub every_accepted : Every (λ h. h.refusal ≡ 0) (hearings room (fresh_desk seat) sent)
    every_accepted = all_accepted room seat heard.told

    pub desk_follows : Follows room in_room seat lt (desk_after room (fresh_desk seat) sent)
        (state_after (fresh (office_of seat)) hs)
    desk_follows = rw (desk_then room seat heard.told) heard.holds
