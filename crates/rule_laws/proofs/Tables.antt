-- One event acted on in a table, and handed to an office: its room takes it as a state alone would, and the other
-- rooms stay. Tables that are made again.
use mathlib.Core.Path.{◌≡◌, refl, sym, ap, ◌∙◌}
use mathlib.Core.Bool.{Bool, true, false, not}
use mathlib.Core.Logic.{◌⊎◌, inl, inr}
use mathlib.Core.List.{List, []}
use Prim.Native.Nat.{ℕ, ◌≤◌, ◌<◌}
use native.Mathlib.Omega.{arith}
use native.Mathlib.Decide.{ℕ_discrete}
use lib.Dec.{eqb, ltb}
use borrow.Author.Tests.{ne_eqb, le-ltb, lt-ltb, ltb-true, ltb-false, lt-leb, leb-false}
use Rattle.laws.proofs.Fin.{if_cases, as-facts}
use Rattle.laws.proofs.Upd.{upd_same, upd_other, upd_self}
use Rattle.laws.specs.Upd.{ifb}
use Rattle.records.specs.Numbers.{room_count, room_above}
use Rattle.rules.specs.Rules.{Written, fresh, restarted}
use Rattle.rules.specs.MarkFile.{last_high}
use Rattle.rules.specs.Refusals.{well_formed, restart_of, full_room, read_number, Result, refused, act_of, act_with}
use Rattle.rules.specs.Refusals.{take_of}
use Rattle.rules.specs.Tables.{Table, restarted_table, well_table, restart_table, RoomEvent, TableResult, refused_table}
use Rattle.rules.specs.Tables.{shown_in, in_table, barred, act_table, room_check, take_table}
use Rattle.rule_laws.proofs.Parts.{restarted_reads, restarted_view}
use Rattle.rule_laws.proofs.Reasons.{Answer, accepts, no_room, reason, act_answer}
use Rattle.rule_laws.proofs.Steps.{reading_facts, take_well}

-- check 2 of a table is check 2 of each of its rooms
pub room_well : (t : Table) → well_table t ≡ true → (k : ℕ) → k < room_count → well_formed (t k) ≡ true
unfolding well_table
room_well t w = simp as-facts at w

pub well_rooms : (t : Table) → ((k : ℕ) → k < room_count → well_formed (t k) ≡ true) → well_table t ≡ true
unfolding well_table
well_rooms t h = simp as-facts h

module _ (t : Table) (e : RoomEvent) (output : ℕ) where
  -- the exits of the acting call
  pub act_2 : well_table t ≡ false → act_table t e output ≡ refused_table 2 t
  unfolding act_table barred
  act_2 w = rw w

  pub act_3 : well_table t ≡ true → output < full_room → act_table t e output ≡ refused_table 3 t
  unfolding act_table barred
  act_3 w l = rw (w, lt-ltb output full_room l)

  pub act_20 : well_table t ≡ true → full_room ≤ output → room_above e.room ≡ true
      → act_table t e output ≡ refused_table 20 t
  unfolding act_table barred
  act_20 w l a = rw (w, le-ltb output full_room l, a)

  pub act_in_room : well_table t ≡ true → full_room ≤ output → e.room < room_count
      → act_table t e output ≡ in_table t e.room (act_of (t e.room) e.what)
  unfolding act_table barred
  act_in_room w l a = rw (w, le-ltb output full_room l, lt-leb room_count e.room a)

  -- on a table that passes check 2 an event is acted on in its room as on that room's state alone
  pub acts_in_room : well_table t ≡ true → e.room < room_count
      → act_table t e output ≡ in_table t e.room (act_with (t e.room) e.what output)
  unfolding act_with
  acts_in_room w a = go (ltb output full_room) refl
    where
      go : (u : Bool) → ltb output full_room ≡ u
          → act_table t e output ≡ in_table t e.room (act_with (t e.room) e.what output)
      go true u =
          act_3 w (ltb-true output full_room u)
          ∙ rw (room_well t w e.room a, u) (ap (refused_table 3) (sym (upd_self t e.room)))
      go false u = rw (room_well t w e.room a, u) (act_in_room w (ltb-false output full_room u) a)

  -- the other rooms stay, whatever comes
  act_others : (k : ℕ) → (k ≡ e.room → ⊥) → (act_table t e output).table k ≡ t k
  unfolding act_table
  act_others k n = go (ℕ_discrete (barred t e output) 0)
    where
      go : Dec (barred t e output ≡ 0) → (act_table t e output).table k ≡ t k
      go (yes z) = rw z (upd_other t e.room _ k n)
      go (no z) = rw (ne_eqb (barred t e output) 0 z)

  -- every answer of the acting call is 0 or one number of the list
  pub act_table_answer : Answer (act_table t e output).refusal
  unfolding act_table barred
  act_table_answer = if_cases (λ (q : TableResult). Answer q.refusal) (eqb (barred t e output) 0) _ _
      (λ z. act_answer (t e.room) e.what)
      (λ z. if_cases Answer (not (well_table t)) _ _ (λ w. reason 2 refl)
      (λ w. if_cases Answer (ltb output full_room) _ _ (λ l. reason 3 refl)
      (λ l. if_cases Answer (room_above e.room) _ _ (λ a. no_room refl) (λ a. accepts refl))))

  -- An event handed to an office: what holds of every refusal, and of acting on it, holds of it.
  module _ (office : ℕ) where
    abbrev read : ℕ
    read = read_number office (room_check e.room) e.what

    pub take_table_by : (P : TableResult → Type 0) → ((read ≡ 0 → ⊥) → P (refused_table read t))
        → (read ≡ 0 → P (act_table t e output)) → P (take_table office t e output)
    unfolding take_table
    take_table_by P r h = go (ℕ_discrete read 0)
      where
        go : Dec (read ≡ 0) → P (take_table office t e output)
        go (yes z) = rw z (h z)
        go (no n) = rw (ne_eqb read 0 n) (r n)

    -- a room of the table takes it as a state alone does, where acting does so too
    pub shown_takes : e.room < room_count
        → shown_in e.room (act_table t e output) ≡ act_with (t e.room) e.what output
        → shown_in e.room (take_table office t e output) ≡ take_of office (t e.room) e.what output
    unfolding take_table take_of
    shown_takes a h = go (read_number office 0 e.what) refl
      where
        go : (n : ℕ) → read_number office 0 e.what ≡ n
            → shown_in e.room (take_table office t e output) ≡ take_of office (t e.room) e.what output
        go n z = rw (lt-leb room_count e.room a) (ℕ-case (ℕ_discrete n 0))
          where
            ℕ-case : Dec (n ≡ 0)
                → shown_in e.room (ifb (eqb (read_number office 0 e.what) 0) (act_table t e output)
                (refused_table (read_number office 0 e.what) t))
                ≡ ifb (eqb (read_number office 0 e.what) 0) (act_with (t e.room) e.what output)
                (refused (read_number office 0 e.what) (t e.room))
            ℕ-case (yes q) = rw (z, q) h
            ℕ-case (no d) = rw (z, ne_eqb n 0 d)

    -- on a table that passes check 2 an event is taken by its room as by that room's state alone
    pub table_takes : well_table t ≡ true → e.room < room_count
        → shown_in e.room (take_table office t e output) ≡ take_of office (t e.room) e.what output
    table_takes w a =
        shown_takes a (ap (shown_in e.room) (acts_in_room w a)
        ∙ rw (upd_same t e.room (act_with (t e.room) e.what output).state))

    -- the other rooms stay, whatever comes
    pub others_stay : (k : ℕ) → (k ≡ e.room → ⊥) → (take_table office t e output).table k ≡ t k
    others_stay k n = take_table_by (λ q. q.table k ≡ t k) (λ d. refl) (λ z. act_others k n)

    -- no event leaves a table that the next one would refuse
    pub table_well : well_table t ≡ true → well_table (take_table office t e output).table ≡ true
    table_well w = well_rooms _ (λ k l. go k l (ℕ_discrete k e.room))
      where
        go : (k : ℕ) → k < room_count → Dec (k ≡ e.room) → well_formed ((take_table office t e output).table k) ≡ true
        go k l (yes q) =
            let a : e.room < room_count = rw (sym q) l in
            let s = ap (λ (r : Result). r.state) (table_takes w a) in
            rw (q, s) (take_well office (t e.room) e.what output (room_well t w e.room a))
        go k l (no n) = rw (others_stay k n) (room_well t w k l)

    -- what is written is nothing, or what the room's state writes
    pub table_written : ((take_table office t e output).written ≡ [])
        ⊎ ((take_table office t e output).written ≡ (take_of office (t e.room) e.what output).written)
    table_written = go (well_table t) refl (room_above e.room) refl
      where
        wrote : TableResult → List Written
        wrote q = q.written

        go : (u : Bool) → well_table t ≡ u → (v : Bool) → room_above e.room ≡ v
            → ((take_table office t e output).written ≡ [])
            ⊎ ((take_table office t e output).written ≡ (take_of office (t e.room) e.what output).written)
        go true w false a = inr (ap (λ (r : Result). r.written) (table_takes w (leb-false room_count e.room a)))
        go false w v a = inl (take_table_by (λ q. q.written ≡ []) (λ d. refl) (λ z. ap wrote (act_2 w)))
        go true w true a =
            inl (take_table_by (λ q. q.written ≡ []) (λ d. refl)
            (λ z. absurd (let f = ((reading_facts office (room_check e.room) e.what).0 z).1 in
            let g : room_check e.room ≡ 20 = rw a in omega arith)))

-- one that is made again: every room begins at the same number, that of the last whole mark
pub restarted_table_lem : (office : ℕ) (f : List ℕ) → (restart_table office f).refusal ≡ 0
    → (restart_table office f).table ≡ restarted_table office (last_high f)
unfolding restart_table restart_of
restarted_table_lem office f z =
    ap {B = Table} (λ (n room : ℕ). ifb (eqb n 0) (restarted office (last_high f)) (fresh 0)) z

pub restarted_same : (office : ℕ) (f : List ℕ) → (restart_table office f).refusal ≡ 0 → (room : ℕ)
    → let s = (restart_table office f).table room in
    (s.number ≡ last_high f) × (s.start ≡ last_high f) × (s.view.number ≡ last_high f)
restarted_same office f z room =
    let r = restarted_reads office (last_high f) in
    rw (restarted_table_lem office f z) (r.number_is, r.start_is, restarted_view office (last_high f))
