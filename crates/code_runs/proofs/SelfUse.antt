-- To no bytes that leave a server on words does any office answer 19.
use mathlib.Core.Path.{◌≡◌, refl, sym, ap, subst, ◌∙◌}
use mathlib.Core.Bool.{Bool, true, false}
use mathlib.Core.Logic.{◌⊎◌, inl, inr}
use mathlib.Core.List.Memᴰ
use mathlib.Core.List.{List, [], ◌∷◌, map, Memᴰ}
use Prim.Native.Nat.{ℕ, ◌≤◌, ◌<◌}
use native.Mathlib.Omega.{arith}
use native.Mathlib.Decide.{ℕ_discrete}
use lib.ListN.{length}
use lib.Dec.{eqb}
use borrow.Author.Tests.{eq-eqb, ne_eqb}
use Rattle.laws.specs.Big.{Below}
use Rattle.laws.specs.Lists.{Every}
use Rattle.laws.proofs.Fin.{if_cases}
use Rattle.laws.proofs.Lists.{every_mapped, every_in}
use Rattle.records.specs.Fits.{FitsProposal}
use Rattle.records.specs.Numbers.{room_count}
use Rattle.records.specs.Layout.{high_length, room_of}
use Rattle.records.specs.declared.Proposal.{Proposal}
use Rattle.rules.specs.State.{State, used_for}
use Rattle.rules.specs.Rules.{Written, proposal, fresh}
use Rattle.rules.specs.Refusals.{step_of}
use Rattle.rules.specs.Tables.{Table, well_table, TableResult, read_of, step_table}
use Rattle.rule_laws.proofs.Parts.{fresh_restarted}
use Rattle.rule_laws.proofs.SelfUse.{read_19, written_never_19}
use Rattle.rule_laws.proofs.Steps.{read_facts}
use Rattle.rule_laws.proofs.TableSteps.{read_refusal, read_passes, step_unread, step_in_room, step_table_2}
use Rattle.runs.specs.Office.{OfSeats, Turn, left_over}
use Rattle.runs.proofs.OfficeFits.{left_fits}
use Rattle.runs.proofs.OfficeUsed.{never_used}
use Rattle.rooms.specs.Roomed.{Roomed, of_room, room_bytes}
use Rattle.rooms.specs.Server.{ServerTurn, fresh_server, server_left, turns_in}
use Rattle.rooms.proofs.Server.{server_handed, room_turns}
use Rattle.desk_runs.proofs.RoomsRuns.{bytes_room}
use Rattle.row.specs.Table.{table_of, SoundTable}
use Rattle.code_runs.specs.Kept.{WordsTurn, bytes_in, bytes_left, read_turn}
use Rattle.code_runs.proofs.Kept.{code_left, turns_fit}

-- a table answers 19 only where the state of the record's room does
table_19 : (office : ℕ) (t : Table) (b : List ℕ) (output : ℕ) → (step_table office t b output).refusal ≡ 19
    → (step_of office (t (room_of b)) b output).refusal ≡ 19
table_19 office t b output e = go (ℕ_discrete (read_of office b).refusal 0) (well_table t) refl
  where
    given : {q : TableResult} → step_table office t b output ≡ q → q.refusal ≡ 19
    given r = sym (ap (λ (q : TableResult). q.refusal) r) ∙ e

    go : Dec ((read_of office b).refusal ≡ 0) → (u : Bool) → well_table t ≡ u
        → (step_of office (t (room_of b)) b output).refusal ≡ 19
    go (no n) u w =
        unfold step_of in rw (← read_refusal office b, ne_eqb _ 0 n) (given (step_unread office t b output n))
    go (yes z) false w = let x = given (step_table_2 office t b output z w) in absurd (omega arith)
    go (yes z) true w =
        given (step_in_room office t b output w ((read_facts b).0 ((read_passes office b).0 z).1).1)

-- what is of a room is among those of that room
room_member : {A : Type 0} (x : Roomed A) (l : List (Roomed A)) → Memᴰ x l
    → Memᴰ x.what (of_room x.room l)
unfolding of_room
room_member x [] m = absurd (Memᴰ.not-nil m)
room_member {A} x (y ∷ l) m = go (room_member x l) (Memᴰ.cases_cons m)
  where
    go : (Memᴰ x l → Memᴰ x.what (of_room x.room l)) → (x ≡ y) ⊎ Memᴰ x l
        → Memᴰ x.what (of_room x.room (y ∷ l))
    go f (inl e) =
        rw (eq-eqb y.room x.room (ap (λ (z : Roomed A). z.room) (sym e)))
        (Memᴰ.head (ap (λ (z : Roomed A). z.what) e))
    go f (inr i) =
        if_cases (Memᴰ x.what) (eqb y.room x.room) (y.what ∷ of_room x.room l) (of_room x.room l)
        (λ e. Memᴰ.tail (f i)) (λ e. f i)

pub code_never_19 : (own : ℕ) → own < 16 → (out : List ℕ) → high_length ≤ length out → (ws : List ℕ) → SoundTable ws
    → ((room : ℕ) → room < room_count → table_of ws room ≡ fresh own) → (ts : List WordsTurn)
    → Every (λ t. Below 256 (bytes_in t)) ts
    → Every (λ b. (office : ℕ) (t : Table) (output : ℕ) → (step_table office t b output).refusal ≡ 19 → ⊥)
    (bytes_left own out (record { words = ws; file = [] }) ts)
code_never_19 own lt out long ws s f ts e =
    rw (code_left own lt out long ws s f ts) (every_mapped room_bytes (every_in left never))
  where
    us : List ServerTurn
    us = map read_turn ts

    left : List (Roomed Written)
    left = server_left own (fresh_server own) us

    -- the turns of a room
    turns : ℕ → List Turn
    turns room = turns_in own room (fresh_server own) us

    good : (room : ℕ) → room < room_count → (p : Proposal) → Memᴰ (proposal p) (of_room room left)
        → FitsProposal p × (used_for p p.sender < p.number)
    good room l p i =
        let j = subst (λ (q : State). Memᴰ (proposal p) (left_over q (turns room))) (fresh_restarted own)
        (subst (Memᴰ (proposal p)) (room_turns own lt room l us).0 i) in (
          left_fits own lt 0 (turns room)
              (server_handed own room (λ h. OfSeats h.event) (fresh_server own) us (turns_fit ts e)) p j,
          never_used own lt 0 (turns room) p j,
        )

    never : (x : Roomed Written) → Memᴰ x left → (office : ℕ) (t : Table) (output : ℕ)
        → (step_table office t (room_bytes x) output).refusal ≡ 19 → ⊥
    never x i office t output r =
        let b = room_bytes x in
        let s = t (room_of b) in
        let y = table_19 office t b output r in
        let a = ((read_facts b).0 (read_19 office s b output y)).1 in
        let l : x.room < room_count = let z = bytes_room x.room x.what in omega (arith, a) in
        written_never_19 office s x.room x.what output
        (λ p q. good x.room l p (subst (λ (w : Written). Memᴰ w (of_room x.room left)) q
        (room_member x left i))) y
