-- Along every run of one office from fresh, in any of the eight rooms: the sync record that a seat makes after the
-- last notice before a view counts for that view.
use mathlib.Core.Path.{◌≡◌, refl, sym, ap, ◌∙◌}
use mathlib.Core.Bool.{true, false, true≢false}
use mathlib.Core.List.{List, [], ◌∷◌, ◌++◌, map, map-append, concat, concat-eq-append, eq-nil-or-concat}
use mathlib.Core.Logic.{◌⊎◌, inl, inr}
use Prim.Native.Nat.{ℕ, ◌<◌}
use borrow.Author.Tests.{eq-eqb, lt-leb, le-ltb}
use Rattle.laws.specs.Lists.{runs, Every, none, more}
use Rattle.laws.proofs.Fin.{if_cases}
use Rattle.laws.proofs.Lists.{runs_append, runs_keep, every_split, every_head}
use Rattle.seats.specs.Seats.{seat_count}
use Rattle.seats.specs.Offices.{office_of}
use Rattle.records.specs.Numbers.{limit, room_count}
use Rattle.records.specs.Layout.{sync_mark, sync_length, encode_view, encode_sync, decode_sync, decode_view}
use Rattle.records.specs.declared.Notice.{Notice}
use Rattle.records.specs.declared.View.{View}
use Rattle.records.specs.declared.Sync.{Sync}
use Rattle.records.proofs.CheckLaws.{own_mark}
use Rattle.records.proofs.Lengths.{sync_length_lem}
use Rattle.records.proofs.RoundTrip.{sync_passes}
use Rattle.rules.specs.Rules.{Written, notice, proposal, view, fresh}
use Rattle.rules.specs.Refusals.{bytes_of}
use Rattle.runs.specs.Office.{Input, OfSeats, log_of, sent_in}
use Rattle.desk.specs.declared.checks.Desk.{Desk}
use Rattle.desk.specs.Views.{start_for}
use Rattle.desk.specs.Hearing.{Heard, fresh_desk, hear_of}
use Rattle.desk.specs.Syncing.{sync_of, sync_bytes}
use Rattle.desk.proofs.Accepted.{SoundDesk}
use Rattle.desk.proofs.HearingLaws.{seat_stays}
use Rattle.desk.proofs.SyncLaws.{sync_made, sync_read}
use Rattle.desk.proofs.Taken.{TookView, took_view, view_other}
use Rattle.sheet.specs.declared.Along.TheVariants as answers
use Rattle.sheet.specs.Sheet.{records_on, counts, sync_checks, came_along}
use Rattle.sheet.specs.Answers.{NoneCounts, GoodRecord, Tells, missing_seat}
use Rattle.sheet.proofs.Exits.{missing_tells}
use Rattle.desk_runs.specs.Sent.{for_seat, sent_to, hearings, desk_after}
use Rattle.desk_runs.specs.Syncs.{SyncFor}
use Rattle.desk_runs.proofs.Runs.{every_accepted}

-- what a sound seat writes is no bad record
made_good : (d : Desk) → SoundDesk d → GoodRecord (sync_bytes d)
unfolding sync_checks sync_of
made_good d s = record {
  whole = rw (sync_made d s.seat) (sync_length_lem (sync_of d));
  sound =
      rw (
        sync_read d s,
        sync_made d s.seat,
        eq-eqb _ _ (own_mark sync_mark sync_length (encode_sync (sync_of d)) (sync_passes (sync_of d))),
        lt-leb seat_count d.seat s.seat,
        le-ltb limit d.start s.start,
        le-ltb limit d.view s.view,
      );
}

-- it counts for a view that the seat accepts
made_counts : (d : Desk) (b : List ℕ) → TookView d b
    → counts (decode_view b) d.seat (decode_sync (sync_bytes d)) ≡ true
unfolding counts sync_of
made_counts d b t =
    rw (
      sync_read d t.sound,
      eq-eqb d.seat d.seat refl,
      eq-eqb d.start (start_for (decode_view b) d.seat) (sym t.own),
    )

-- records heard in two parts
hearings_append : (room : ℕ) (d : Desk) (a b : List Written)
    → hearings room d (a ++ b) ≡ hearings room d a ++ hearings room (desk_after room d a) b
unfolding hearings runs
hearings_append room d [] b = refl
hearings_append room d (w ∷ a) b =
    ap (λ (l : List Heard). hear_of d (bytes_of room w) ∷ l)
    (hearings_append room (hear_of d (bytes_of room w)).desk a b)

-- what is sent to a seat is for it
all_for : (seat : ℕ) (ws : List Written) → Every (λ w. for_seat seat w ≡ true) (sent_to seat ws)
unfolding sent_to
all_for seat [] = none
all_for seat (w ∷ ws) =
    if_cases (Every (λ w. for_seat seat w ≡ true)) (for_seat seat w) _ _ (λ e. more e (all_for seat ws))
    (λ e. all_for seat ws)

module _ (room seat : ℕ) where
  same_seat : (ws : List Written) → (desk_after room (fresh_desk seat) ws).seat ≡ seat
  unfolding fresh_desk
  same_seat ws =
      runs_keep _ (λ d. d.seat ≡ seat) (λ d w e. seat_stays d (bytes_of room w) ∙ e) (fresh_desk seat) ws refl

  -- records heard up to one more that is accepted
  heard_last : (a b : List Written) (w : Written)
      → Every (λ h. h.refusal ≡ 0) (hearings room (fresh_desk seat) (a ++ (w ∷ b)))
      → (hear_of (desk_after room (fresh_desk seat) a) (bytes_of room w)).refusal ≡ 0
  unfolding hearings
  heard_last a b w e =
      every_head (every_split (hearings room (fresh_desk seat) a)
      (rw (hearings_append room (fresh_desk seat) a (w ∷ b)) at e)).1

  -- a view that is accepted leaves no change open
  closed : (a : List Written) (v : View)
      → Every (λ h. h.refusal ≡ 0) (hearings room (fresh_desk seat) (a ++ (view v ∷ [])))
      → (desk_after room (fresh_desk seat) (a ++ (view v ∷ []))).changing ≡ false
  unfolding runs
  closed a v e =
      ap (λ (d : Desk). d.changing) (runs_append _ (fresh_desk seat) a (view v ∷ []))
      ∙ (took_view (desk_after room (fresh_desk seat) a) (encode_view room v) (view_other room v)
      (heard_last a [] (view v) e)).closes

  -- an open change: the last record heard is a notice, where each is for the seat and accepted
  last_notice : (ws : List Written) → Every (λ w. for_seat seat w ≡ true) ws
      → Every (λ h. h.refusal ≡ 0) (hearings room (fresh_desk seat) ws)
      → (desk_after room (fresh_desk seat) ws).changing ≡ true → (a : List Written) × (n : Notice)
      × (ws ≡ a ++ (notice n ∷ []))
  unfolding fresh_desk runs
  last_notice ws for-it taken changing = go (eq-nil-or-concat ws)
    where
      End : Type 0
      End = (a : List Written) × (n : Notice) × (ws ≡ a ++ (notice n ∷ []))

      open_there : (l : List Written) → ws ≡ l → (desk_after room (fresh_desk seat) l).changing ≡ false → End
      open_there l e c =
          absurd (true≢false (sym changing
          ∙ ap (λ (k : List Written). (desk_after room (fresh_desk seat) k).changing) e ∙ c))

      by_last : (a : List Written) (w : Written) → ws ≡ a ++ (w ∷ []) → End
      by_last a (notice n) e = (a, n, e)
      by_last a (proposal p) e = absurd (true≢false (sym (every_head (every_split a (rw e at for-it)).1)))
      by_last a (view v) e = open_there (a ++ (view v ∷ [])) e (closed a v (rw e at taken))

      go : (ws ≡ []) ⊎ ((a : List Written) × (w : Written) × (ws ≡ concat a w)) → End
      go (inl e) = open_there [] e refl
      go (inr w) = by_last w.0 w.1 (w.2 ∙ concat-eq-append w.0 w.1)

module _ (room : ℕ) (in_room : room < room_count) (seat : ℕ) (lt : seat < seat_count) (hs : List Input)
    (y : Every (λ h. OfSeats h.event) hs) where
  pub sync_counts : (heard later : List Written) (v : View)
      → sent_to seat (sent_in (log_of (fresh (office_of seat)) hs)) ≡ heard ++ (view v ∷ later)
      → SyncFor room seat heard v
  sync_counts heard later v e =
      let d = desk_after room (fresh_desk seat) heard in
      let accepted : Every (λ h. h.refusal ≡ 0) (hearings room (fresh_desk seat) (heard ++ (view v ∷ later))) =
      rw e at (every_accepted room in_room seat lt hs y) in
      let all : Every (λ w. for_seat seat w ≡ true) (heard ++ (view v ∷ later)) =
      rw e at (all_for seat (sent_in (log_of (fresh (office_of seat)) hs))) in
      let before : Every (λ h. h.refusal ≡ 0) (hearings room (fresh_desk seat) heard) =
      (every_split (hearings room (fresh_desk seat) heard)
      (rw (hearings_append room (fresh_desk seat) heard (view v ∷ later)) at accepted)).0 in
      let t = took_view d (encode_view room v) (view_other room v)
      (heard_last room seat heard later (view v) accepted) in
      let n = last_notice room seat heard (every_split heard all).0 before t.changing in
      record {
        earlier = n.0;
        last = n.1;
        after_notice = n.2;
        good = made_good d t.sound;
        for_view = sym (ap (λ (k : ℕ). counts (decode_view (encode_view room v)) k (decode_sync (sync_bytes d)))
            (same_seat room seat heard)) ∙ made_counts d (encode_view room v) t;
      }

-- so a desk that has put its record on the sheet is never told that its own is missing
module _ (seat : ℕ) (shown own : List ℕ) (counted : counts (decode_view shown) seat (decode_sync own) ≡ true)
    (sheet : List ℕ) (a b : List (List ℕ)) (on_sheet : records_on sheet ≡ a ++ (own ∷ b)) (previous : ℕ) where
  told_missing : (rs : List Sync) → rs ≡ map decode_sync (records_on sheet)
      → Tells (decode_view shown) rs previous (answers.Missing seat) → ⊥
  told_missing rs e (missing_seat m) =
      let all : NoneCounts (decode_view shown) seat (map decode_sync a ++ (decode_sync own ∷ map decode_sync b)) =
      rw (e, on_sheet, map-append decode_sync a (own ∷ b)) at m.none_counts in
      true≢false (sym counted ∙ every_head (every_split (map decode_sync a) all).1)

  pub own_there : came_along sheet shown previous ≡ answers.Missing seat → ⊥
  own_there e = told_missing _ refl (missing_tells sheet shown previous seat e)
