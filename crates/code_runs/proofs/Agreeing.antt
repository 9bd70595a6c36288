-- Tables that agree on the eight rooms answer alike, and agree after. Words hold no more rooms than these.
use mathlib.Core.Path.{◌≡◌, refl, ap, ◌∙◌}
use mathlib.Core.Bool.{not}
use mathlib.Core.List.{List, [], ◌∷◌}
use Prim.Native.Nat.{ℕ, ◌<◌}
use native.Mathlib.Decide.{ℕ_discrete}
use lib.Dec.{ltb}
use borrow.Author.Tests.{leb-false, ne_eqb}
use Rattle.laws.proofs.Checks.{first_none}
use Rattle.laws.proofs.Fin.{allb_ext}
use Rattle.laws.proofs.Upd.{upd_agree}
use Rattle.records.specs.Numbers.{room_count, room_above}
use Rattle.rules.specs.State.{State}
use Rattle.rules.specs.Refusals.{well_formed, full_room, read_number, act_of}
use Rattle.laws.specs.Upd.{upd}
use Rattle.rules.specs.Tables.{Table, well_table, RoomEvent, TableResult, barred, act_table, room_check, take_table}
use Rattle.rooms.specs.Handing.{Handed, answer_table, next_table, table_sent}

abbrev pub Agree : Table → Table → Type 0
Agree t u = (room : ℕ) → room < room_count → t room ≡ u room

pub record Alike (p q : TableResult) : Type 0 where
  pub written : p.written ≡ q.written
  pub table : Agree p.table q.table

module _ (t u : Table) (a : Agree t u) where
  well_agree : well_table t ≡ well_table u
  unfolding well_table
  well_agree =
      allb_ext room_count (λ room. well_formed (t room)) (λ room. well_formed (u room))
      (λ room l. ap well_formed (a room l))

  module _ (e : RoomEvent) (output : ℕ) where
    barred_agree : barred t e output ≡ barred u e output
    unfolding barred
    barred_agree = rw well_agree

    -- what is not barred is of one of the rooms
    in_room : barred u e output ≡ 0 → e.room < room_count
    unfolding barred
    in_room z =
        let c2 = (first_none (not (well_table u)) 1 _).0 z in
        let c3 = (first_none (ltb output full_room) 2 _).0 c2.1 in
        leb-false room_count e.room ((first_none (room_above e.room) 19 0).0 c3.1).0

    act_agree : Alike (act_table t e output) (act_table u e output)
    unfolding act_table
    act_agree = go (ℕ_discrete (barred u e output) 0)
      where
        go : Dec (barred u e output ≡ 0) → Alike (act_table t e output) (act_table u e output)
        go (yes z) =
            let same = a e.room (in_room z) in
            let act : State → State = λ (s : State). (act_of s e.what).state in
            rw (barred_agree, z) (record {
              written = ap (λ (s : State). (act_of s e.what).written) same;
              table = λ room l. ap (λ (s : State). upd t e.room (act s) room) same
                  ∙ upd_agree t u e.room (act (u e.room)) room (a room l);
            })
        go (no n) = rw (barred_agree, ne_eqb (barred u e output) 0 n) (record { written = refl; table = a })

    -- the reading looks at no table
    pub take_agree : (office : ℕ) → Alike (take_table office t e output) (take_table office u e output)
    unfolding take_table
    take_agree office = go (ℕ_discrete (read_number office (room_check e.room) e.what) 0)
      where
        go : Dec (read_number office (room_check e.room) e.what ≡ 0)
            → Alike (take_table office t e output) (take_table office u e output)
        go (yes z) = rw z act_agree
        go (no n) = rw (ne_eqb _ 0 n) (record { written = refl; table = a })

pub sent_agree : (t u : Table) → Agree t u → (hs : List Handed) → table_sent t hs ≡ table_sent u hs
unfolding table_sent answer_table
sent_agree t u a [] = refl
sent_agree t u a (h ∷ hs) =
    let x = take_agree t u a h.event h.output h.office in
    rw (x.written, sent_agree (next_table t h) (next_table u h) x.table hs)
