-- What a desk with its rooms hears is, in each room, what the desk of that room alone hears of that room's records: so
-- every law of one room holds in each, whatever the desk hears of the others in between.
use mathlib.Core.Path.{◌≡◌, refl, sym, ap, subst, ◌∙◌}
use mathlib.Core.List.{List, [], ◌∷◌, map, map-append}
use Prim.Native.Nat.{ℕ, ◌<◌}
use native.Mathlib.Decide.{ℕ_discrete}
use borrow.Author.Tests.{eq-eqb, ne_eqb}
use Rattle.laws.specs.Lists.{runs, Every, none, more}
use Rattle.laws.proofs.Lists.{◌then◌, every_head, every_tail}
use Rattle.records.specs.Numbers.{room_count}
use Rattle.records.specs.Layout.{room_of}
use Rattle.records.specs.declared.View.{View}
use Rattle.rules.specs.Rules.{Written, notice}
use Rattle.rules.specs.Refusals.{bytes_of}
use Rattle.desk.specs.declared.checks.Desk.{Desk}
use Rattle.desk.specs.Hearing.{fresh_desk, hear_of}
use Rattle.desk.specs.Syncing.{sync_bytes}
use Rattle.desk.specs.Rooms.{RoomsDesk, desk_in, fresh_rooms, hear_rooms}
use Rattle.desk.proofs.RoomsLaws.{room_refusal, room_heard, other_desk, sync_in_lem}
use Rattle.desk_runs.specs.Sent.{hearings, desk_after}
use Rattle.desk_runs.specs.Syncs.{sync_after, SyncFor, sync_after_in, SyncIn}
use Rattle.desk_runs.specs.Rooms.{rooms_hearings, rooms_after, heard_in, answers_in, bytes_after, answers_of, SeenIn}

module _ (room : ℕ) where
  pub seen_in_lem : (d : RoomsDesk) (heard : List (List ℕ)) → SeenIn room d heard
  unfolding heard_in answers_in answers_of runs
  seen_in_lem d [] = record { after = refl; answers = refl }
  seen_in_lem d (b ∷ heard) = go (seen_in_lem (hear_rooms d b).desk heard) (ℕ_discrete (room_of b) room)
    where
      next : RoomsDesk
      next = (hear_rooms d b).desk

      go : SeenIn room next heard → Dec (room_of b ≡ room) → SeenIn room d (b ∷ heard)
      go later (yes q) =
          let here : desk_in next room ≡ (hear_of (desk_in d room) b).desk
          = subst (λ (k : ℕ). desk_in next k ≡ (hear_of (desk_in d k) b).desk) q (room_heard d b) in
          let refused : (hear_rooms d b).refusal ≡ (hear_of (desk_in d room) b).refusal
          = subst (λ (k : ℕ). (hear_rooms d b).refusal ≡ (hear_of (desk_in d k) b).refusal) q (room_refusal d b) in
          record {
            after = rw (eq-eqb (room_of b) room q)
                (later.after ∙ ap (λ (e : Desk). bytes_after e (heard_in room heard)) here);
            answers = rw (eq-eqb (room_of b) room q)
                (refused then (later.answers ∙ ap (λ (e : Desk). answers_of e (heard_in room heard)) here));
          }
      go later (no n) =
          let stays = other_desk d b room (λ e. n (sym e)) in
          record {
            after = rw (ne_eqb (room_of b) room n)
                (later.after ∙ ap (λ (e : Desk). bytes_after e (heard_in room heard)) stays);
            answers = rw (ne_eqb (room_of b) room n)
                (later.answers ∙ ap (λ (e : Desk). answers_of e (heard_in room heard)) stays);
          }

  -- of records as their bytes
  after_records : (d : Desk) (ws : List Written) → bytes_after d (map (bytes_of room) ws) ≡ desk_after room d ws
  unfolding runs
  after_records d [] = refl
  after_records d (w ∷ ws) = after_records (hear_of d (bytes_of room w)).desk ws

  all_taken : (d : Desk) (ws : List Written) → Every (λ h. h.refusal ≡ 0) (hearings room d ws)
      → Every (λ n. n ≡ 0) (answers_of d (map (bytes_of room) ws))
  unfolding hearings answers_of
  all_taken d [] e = none
  all_taken d (w ∷ ws) e = more (every_head e) (all_taken (hear_of d (bytes_of room w)).desk ws (every_tail e))

  -- a desk that was fresh has heard of this room the records ws, and anything of the others
  module _ (seat : ℕ) (heard : List (List ℕ)) (ws : List Written)
      (heard-here : heard_in room heard ≡ map (bytes_of room) ws) where
    -- it accepts of this room what a fresh desk of one room accepts
    pub accepted_in : Every (λ h. h.refusal ≡ 0) (hearings room (fresh_desk seat) ws)
        → Every (λ n. n ≡ 0) (answers_in room (fresh_rooms seat) heard)
    unfolding fresh_desk
    accepted_in e =
        rw ((seen_in_lem (fresh_rooms seat) heard).answers, heard-here) (all_taken (fresh_desk seat) ws e)

    -- and its sync record of this room is that of one room
    pub sync_same : room < room_count → sync_after_in room seat heard ≡ sync_after room seat ws
    unfolding fresh_desk
    sync_same in_room =
        sync_in_lem (rooms_after (fresh_rooms seat) heard) room in_room
        ∙ ap sync_bytes ((seen_in_lem (fresh_rooms seat) heard).after
        ∙ ap (bytes_after (fresh_desk seat)) heard-here ∙ after_records (fresh_desk seat) ws)

    pub sync_for : room < room_count → (v : View) → SyncFor room seat ws v → SyncIn room seat heard v
    sync_for in_room v s = record {
      earlier = map (bytes_of room) s.earlier;
      last = s.last;
      after_notice = heard-here ∙ ap (map (bytes_of room)) s.after_notice
          ∙ map-append (bytes_of room) s.earlier (notice s.last ∷ []);
      good = rw (sync_same in_room) s.good;
      for_view = rw (sync_same in_room) s.for_view;
    }

-- answers in every room are all the answers
pub all_answers : (d : RoomsDesk) (bs : List (List ℕ)) → Every (λ b. room_of b < room_count) bs
    → ((room : ℕ) → room < room_count → Every (λ n. n ≡ 0) (answers_in room d bs))
    → Every (λ h. h.refusal ≡ 0) (rooms_hearings d bs)
unfolding rooms_hearings answers_in
all_answers d [] none e = none
all_answers d (b ∷ bs) (more l ls) e =
    more (every_head (rw (eq-eqb (room_of b) (room_of b) refl) at (e (room_of b) l)))
    (all_answers (hear_rooms d b).desk bs ls (λ room k. later room (ℕ_discrete (room_of b) room) (e room k)))
  where
    Zeros : List ℕ → Type 0
    Zeros = Every (λ n. n ≡ 0)

    later : (room : ℕ) → Dec (room_of b ≡ room) → Zeros (answers_in room d (b ∷ bs))
        → Zeros (answers_in room (hear_rooms d b).desk bs)
    later room (yes q) z = every_tail (rw (eq-eqb (room_of b) room q) at z)
    later room (no n) z = rw (ne_eqb (room_of b) room n) at z
