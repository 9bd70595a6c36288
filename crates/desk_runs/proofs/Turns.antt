-- Over every run of one office from fresh in which it may be cut off and begin again: a seat that was fresh at first
-- accepts every notice and view that leaves for it, in the order sent. The seat is not told of the restart.
use mathlib.Core.Path.{◌≡◌, refl, ◌∙◌}
use mathlib.Core.List.{List, []}
use Prim.Native.Nat.{ℕ, ◌<◌}
use native.Mathlib.Omega.{arith}
use Rattle.laws.specs.Lists.{Every}
use Rattle.seats.specs.Seats.{seat_count}
use Rattle.seats.specs.Offices.{office_of}
use Rattle.records.specs.Numbers.{room_count}
use Rattle.rules.specs.State.{State}
use Rattle.rules.specs.Rules.{fresh, restarted}
use Rattle.rule_laws.proofs.Parts.{restarted_reads, restarted_view}
use Rattle.runs.specs.Office.{OfSeats, Turn, handed_at, left_over, TurnsAbove}
use Rattle.runs.specs.Files.{FileTurn, fresh_kept, left_kept, begins_with, turns_of}
use Rattle.runs.proofs.OfficeTurns.{Companion, beside_turns}
use Rattle.runs.proofs.FilesOnce.{kept_turns, kept_handed}
use Rattle.desk.specs.declared.checks.Desk.{Desk}
use Rattle.desk.specs.Hearing.{fresh_desk}
use Rattle.desk_runs.specs.Sent.{sent_to, hearings}
use Rattle.desk_runs.proofs.Taking.{Hears, at_end, hears_then, hears_take, DeskUpTo, hears_up_to, all_accepted}
use Rattle.desk_runs.proofs.Follows.{Follows}
use Rattle.desk_runs.proofs.Runs.{next_heard, fresh_follows}

module _ (room : ℕ) (in_room : room < room_count) (seat : ℕ) (lt : seat < seat_count) where
  -- a seat follows its office over a restart at or above all that it knows
  again_follows : (d : Desk) (s : State) (m : ℕ) → s.own ≡ office_of seat → DeskUpTo seat d m
      → Follows room in_room seat lt d (restarted s.own m)
  again_follows d s m own u =
      let r = restarted_reads s.own m in
      record {
        behind = record {
          is_seat_lem = u.is_seat_lem;
          office = r.own_is ∙ own;
          fits = let x = r.net_is in omega arith;
          start = rw r.start_is u.start;
          view = rw (restarted_view s.own m) u.view;
        };
        changing = λ y. absurd (y r.mode_is);
        own_start = λ y. absurd (y r.mode_is);
      }

  hearing : Companion (Hears room seat) (Follows room in_room seat lt) (DeskUpTo seat) (λ h. OfSeats h.event)
  hearing = record {
    nothing_sent_lem = λ c. at_end;
    and_more = λ c d e a b. hears_then room seat;
    cut_short = λ c d ws k. hears_take room seat k;
    bounded = λ c d ws m. hears_up_to room seat m;
    again = λ c d s ws m p t u l. again_follows d s m p.behind.office u;
    keeps = next_heard room in_room seat lt;
  }

  pub turns_accepted : (ts : List Turn) → Every (λ t. OfSeats (handed_at t).event) ts
      → TurnsAbove (fresh (office_of seat)) [] ts
      → Every (λ h. h.refusal ≡ 0)
      (hearings room (fresh_desk seat) (sent_to seat (left_over (fresh (office_of seat)) ts)))
  turns_accepted ts y a =
      all_accepted room seat
      (beside_turns hearing (fresh_desk seat) (fresh (office_of seat)) [] ts y (fresh_follows room in_room seat lt)
      (λ m e. unfold fresh_desk in record { is_seat_lem = refl; start = omega arith; view = omega arith }) a).1

  -- and where the office is cut off after any byte written to its file, which is empty at first, and after any record
  -- that left
  pub files_accepted : (ts : List FileTurn) → Every (λ t. OfSeats (begins_with t).event) ts
      → Every (λ h. h.refusal ≡ 0)
      (hearings room (fresh_desk seat) (sent_to seat (left_kept (fresh_kept (office_of seat)) ts)))
  files_accepted ts y =
      let x = kept_turns (office_of seat) own_lt ts in
      rw x.0 (turns_accepted (turns_of (fresh_kept (office_of seat)) ts)
      (kept_handed (λ h. OfSeats h.event) (fresh_kept (office_of seat)) ts y) x.1)
    where
      own_lt : office_of seat < 16
      own_lt = unfold office_of in omega arith
