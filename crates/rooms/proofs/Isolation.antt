-- Between restarts, a room's answers and records depend only on that room's records.
use mathlib.Core.Path.{◌≡◌, refl, sym, ap, subst, ◌∙◌}
use mathlib.Core.Bool.{Bool, true, false}
use mathlib.Core.Logic.{◌⊎◌, inl, inr}
use mathlib.Core.List.{List, [], ◌∷◌, ◌++◌, map}
use Prim.Native.Nat.{ℕ, ◌<◌}
use native.Mathlib.Omega.{arith}
use native.Mathlib.Decide.{ℕ_discrete}
use lib.Dec.{eqb}
use borrow.Author.Tests.{eq-eqb, ne_eqb}
use Rattle.laws.specs.Lists.{runs, Every, none, more}
use Rattle.laws.proofs.Lists.{◌then◌}
use Rattle.laws.proofs.Fin.{if_cases, true_false}
use Rattle.records.specs.Numbers.{room_count}
use Rattle.rules.specs.State.{State}
use Rattle.rules.specs.Rules.{Written, restarted}
use Rattle.rules.specs.Refusals.{well_formed, Result, act_with, take_of}
use Rattle.rules.specs.Tables.{Table, restarted_table, well_table, RoomEvent, shown_in, take_table}
use Rattle.rule_laws.proofs.Tables.{room_well, well_rooms, act_2, take_table_by, shown_takes, table_takes, others_stay}
use Rattle.rule_laws.proofs.Tables.{table_well}
use Rattle.runs.specs.Office.{Input, answer_to, answer_of, state_after, log_of, sent_in}
use Rattle.rooms.specs.Roomed.{roomed, of_room}
use Rattle.rooms.specs.Handing.{Handed, answer_table, next_table, table_after, table_sent, answers_in, input_of}
use Rattle.rooms.specs.Handing.{inputs_in}
use Rattle.rooms.proofs.Roomed.{room_append, room_same, room_other}

-- Over one event: two tables that both pass check 2 and agree on one room answer its records alike.
pub isolated : (office : ℕ) (t u : Table) (e : RoomEvent) (output : ℕ) → e.room < room_count → well_table t ≡ true
    → well_table u ≡ true → t e.room ≡ u e.room
    → shown_in e.room (take_table office t e output) ≡ shown_in e.room (take_table office u e output)
isolated office t u e output l v w same =
    table_takes t e output office v l ∙ ap (λ (s : State). take_of office s e.what output) same
    ∙ sym (table_takes u e output office w l)

-- what is handed to a table that passes check 2, seen in its room and in another
module _ (k : ℕ) (l : k < room_count) (t : Table) (w : well_table t ≡ true) (h : Handed) where
  pub handed_here : h.event.room ≡ k → shown_in k (answer_table t h) ≡ answer_to (t k) (input_of h)
  unfolding answer_table answer_to
  handed_here q =
      subst (λ (j : ℕ). shown_in j (answer_table t h) ≡ take_of h.office (t j) h.event.what h.output) q
      (table_takes t h.event h.output h.office w (rw q l))

  pub handed_there : (h.event.room ≡ k → ⊥) → next_table t h k ≡ t k
  unfolding answer_table
  handed_there n = others_stay t h.event h.output h.office k (λ e. n (sym e))

  pub next_well : well_table (next_table t h) ≡ true
  unfolding answer_table
  next_well = table_well t h.event h.output h.office w

-- what holds of all that is handed to a table holds of what room k is handed
pub inputs_every : (k : ℕ) (I : Input → Type 0) (hs : List Handed) → Every (λ h. I (input_of h)) hs
    → Every I (inputs_in k hs)
unfolding inputs_in
inputs_every k I [] none = none
inputs_every k I (h ∷ hs) (more i is) =
    let rest = inputs_every k I hs is in
    if_cases (Every I) (eqb h.event.room k) (input_of h ∷ inputs_in k hs) (inputs_in k hs) (λ e. more i rest)
    (λ e. rest)

-- A run of a table is, in each room, the run of that room's state on what that room is handed: its answers, its end
-- and what it sends. So every law of one office's run holds of each room of a table's run.
pub record RoomRun (k : ℕ) (t : Table) (hs : List Handed) : Type 0 where
  pub answers : answers_in k t hs ≡ map answer_of (log_of (t k) (inputs_in k hs))
  pub after : table_after t hs k ≡ state_after (t k) (inputs_in k hs)
  pub sent : of_room k (table_sent t hs) ≡ sent_in (log_of (t k) (inputs_in k hs))

pub room_run : (k : ℕ) → k < room_count → (t : Table) → well_table t ≡ true → (hs : List Handed) → RoomRun k t hs
unfolding answers_in inputs_in table_sent of_room log_of sent_in runs
room_run k l t w [] = record { answers = refl; after = refl; sent = refl }
room_run k l t w (h ∷ hs) =
    go (room_run k l (next_table t h) (next_well k l t w h) hs) (ℕ_discrete h.event.room k)
  where
    next : Table
    next = next_table t h

    is : List Input
    is = inputs_in k hs

    ws : List Written
    ws = (answer_table t h).written

    go : RoomRun k next hs → Dec (h.event.room ≡ k) → RoomRun k t (h ∷ hs)
    go later (yes q) =
        let a = handed_here k l t w h q in
        let s = ap (λ (r : Result). r.state) a in
        let here : of_room k (roomed h.event.room ws) ≡ (answer_to (t k) (input_of h)).written
        = room_same k h.event.room q ws ∙ ap (λ (r : Result). r.written) a in
        record {
          answers = rw (eq-eqb h.event.room k q)
              (a then (later.answers ∙ ap (λ (x : State). map answer_of (log_of x is)) s));
          after = rw (eq-eqb h.event.room k q) (later.after ∙ ap (λ (x : State). state_after x is) s);
          sent = rw (eq-eqb h.event.room k q)
              (room_append k (roomed h.event.room ws) _
              ∙ ap (λ (v : List Written). v ++ of_room k (table_sent next hs)) here
              ∙ ap (λ (v : List Written). (answer_to (t k) (input_of h)).written ++ v)
              (later.sent ∙ ap (λ (x : State). sent_in (log_of x is)) s));
        }
    go later (no n) =
        let s = handed_there k l t w h n in
        record {
          answers = rw (ne_eqb h.event.room k n)
              (later.answers ∙ ap (λ (x : State). map answer_of (log_of x is)) s);
          after = rw (ne_eqb h.event.room k n) (later.after ∙ ap (λ (x : State). state_after x is) s);
          sent = rw (ne_eqb h.event.room k n)
              (room_append k (roomed h.event.room ws) _
              ∙ ap (λ (v : List Written). v ++ of_room k (table_sent next hs)) (room_other k h.event.room n ws)
              ∙ later.sent ∙ ap (λ (x : State). sent_in (log_of x is)) s);
        }

-- Over runs between restarts: two tables that both pass check 2 and agree on one room, with the other rooms changed at
-- will, before and in between, answer that room's records alike and leave the room alike.
pub isolated_runs : (k : ℕ) → k < room_count → (t u : Table) → well_table t ≡ true → well_table u ≡ true → t k ≡ u k
    → (hs is : List Handed) → inputs_in k hs ≡ inputs_in k is
    → (answers_in k t hs ≡ answers_in k u is) × (table_after t hs k ≡ table_after u is k)
    × (of_room k (table_sent t hs) ≡ of_room k (table_sent u is))
isolated_runs k l t u v w same hs is e =
    let a = room_run k l t v hs in
    let b = room_run k l u w is in
    let log = ap (λ (s : State). log_of s (inputs_in k hs)) same ∙ ap (log_of (u k)) e in
    let end = ap (λ (s : State). state_after s (inputs_in k hs)) same ∙ ap (state_after (u k)) e in (
      a.answers ∙ ap (map answer_of) log ∙ sym b.answers,
      a.after ∙ end ∙ sym b.after,
      a.sent ∙ ap sent_in log ∙ sym b.sent,
    )

-- A table is uniform where check 2 passes in every room or in none. So is every restarted one, whatever its number,
-- and where it passes in none, every room answers 2 to what passes its reading.
abbrev pub Uniform : Table → Type 0
Uniform t = (well_table t ≡ true) ⊎ ((k : ℕ) → k < room_count → well_formed (t k) ≡ false)

pub restarted_uniform : (own m : ℕ) → Uniform (restarted_table own m)
restarted_uniform own m = go (well_formed (restarted own m)) refl
  where
    go : (u : Bool) → well_formed (restarted own m) ≡ u → Uniform (restarted_table own m)
    go true e = inl (well_rooms _ (λ k l. e))
    go false e = inr (λ k l. e)

ill_table : (t : Table) → ((k : ℕ) → k < room_count → well_formed (t k) ≡ false) → well_table t ≡ false
ill_table t h = go (well_table t) refl
  where
    go : (u : Bool) → well_table t ≡ u → well_table t ≡ false
    go true e = absurd (true_false _ (room_well t e 0 (omega arith)) (h 0 (omega arith)))
    go false e = e

module _ (office : ℕ) (t : Table) (e : RoomEvent) (output : ℕ) where
  pub uniform_takes : Uniform t → e.room < room_count
      → shown_in e.room (take_table office t e output) ≡ take_of office (t e.room) e.what output
  uniform_takes (inl w) l = table_takes t e output office w l
  uniform_takes (inr h) l =
      shown_takes t e output office l (ap (shown_in e.room) (act_2 t e output (ill_table t h))
      ∙ (unfold act_with in rw (h e.room l)))

  pub uniform_next : Uniform t → Uniform (take_table office t e output).table
  uniform_next (inl w) = inl (table_well t e output office w)
  uniform_next (inr h) = inr (λ k l. take_table_by t e output office (λ q. well_formed (q.table k) ≡ false)
      (λ d. h k l) (λ z. rw (act_2 t e output (ill_table t h)) (h k l)))
