-- Both calls in turn: on a table that passes 2, with full room and the room's own office, they are the step of request
-- 9; an event built by hand meets what its bytes meet; the number is the first of one list.
use mathlib.Core.Path.{◌≡◌, refl, sym, ap, ◌∙◌}
use mathlib.Core.Bool.{Bool, true, false, not}
use mathlib.Core.List.{List, ◌∷◌, ◌++◌}
use mathlib.Core.Logic.{◌⊎◌, inl, inr}
use Prim.Native.Nat.{ℕ, ◌≤◌, ◌<◌}
use native.Mathlib.Omega.{arith}
use native.Mathlib.Decide.{ℕ_discrete}
use lib.Dec.{eqb, ltb}
use borrow.Author.Tests.{ne_eqb, le-ltb, ltb-false, ltb-true, leb-false}
use Rattle.laws.specs.Checks.{Check, first_of}
use Rattle.laws.specs.Lists.{Every, none, more}
use Rattle.laws.specs.Upd.{ifb}
use Rattle.laws.proofs.Checks.{first_none, first_append}
use Rattle.laws.proofs.Upd.{upd_self}
use Rattle.records.specs.Layout.{check_of, room_of}
use Rattle.records.specs.Numbers.{room_count, room_above}
use Rattle.records.specs.declared.Proposal.{Proposal}
use Rattle.records.proofs.RoundTrip.{report_room, proposal_room, report_checked, proposal_checked, proposal_back}
use Rattle.rules.specs.State.{State}
use Rattle.rules.specs.Refusals.{well_formed, full_room, read_check, Event, a_report, a_proposal, event_of}
use Rattle.rules.specs.Refusals.{wrong_sender, wrong_kind, wrong_number, without_seat, stray_used, uses_itself}
use Rattle.rules.specs.Refusals.{form_checks, form_refusal, read_number, state_checks, proposal_checks, refusal_of}
use Rattle.rules.specs.Refusals.{rule_of, Result, refused, accepting, act_of, take_of}
use Rattle.rules.specs.Tables.{Table, well_table, RoomEvent, refused_table, in_table, act_table, no_event, record_event}
use Rattle.rules.specs.Tables.{read_of, barred, step_table, room_check, take_table}
use Rattle.rules.specs.Turns.{undivided, event_bytes, FitsEvent, forms_of, office_checks, states_of, ceiling_of}
use Rattle.rules.specs.Turns.{read_order, act_order, turn_checks}
use Rattle.rule_laws.proofs.Checking.{form_numbers, form_first}
use Rattle.rule_laws.proofs.Encoded.{report_event, proposal_event}
use Rattle.rule_laws.proofs.Steps.{Refused, AcceptsEvent, act_accepts, act_cases, read_facts}
use Rattle.rule_laws.proofs.Tables.{act_2, act_3, act_20, act_in_room}
use Rattle.rule_laws.proofs.TableSteps.{read_refusal, step_unread, step_table_takes}

-- an event that a check refuses at a state
pub act_refuses : (s : State) (e : Event) (n : ℕ) → (n ≡ 0 → ⊥) → refusal_of s e ≡ n → act_of s e ≡ refused n s
unfolding act_of
act_refuses s e n d f = rw (f, ne_eqb n 0 d)

-- An event on a table with full room that passes check 2, read for the room's own office: acting on it answers by
-- itself what its reading answers.
module _ (office : ℕ) (t : Table) (e : RoomEvent) (output : ℕ) (known : office < 16) (w : well_table t ≡ true)
    (fits : full_room ≤ output) (own : e.room < room_count → (t e.room).own ≡ office) where
  unread_acts : (read_number office (room_check e.room) e.what ≡ 0 → ⊥)
      → act_table t e output ≡ refused_table (read_number office (room_check e.room) e.what) t
  unfolding read_number
  unread_acts n = go (room_above e.room) refl
    where
      form : ℕ
      form = form_refusal office e.what

      low : ltb 15 office ≡ false
      low = le-ltb 15 office (omega arith)

      go : (u : Bool) → room_above e.room ≡ u
          → act_table t e output ≡ refused_table (read_number office (room_check e.room) e.what) t
      go true u = act_20 t e output w fits u ∙ rw (low, u)
      go false u = inside (leb-false room_count e.room u) (λ z. n (rw (low, u, z)))
        where
          s : State
          s = t e.room

          inside : e.room < room_count → (form ≡ 0 → ⊥)
              → act_table t e output ≡ refused_table (read_number office (room_check e.room) e.what) t
          inside a d =
              let o = own a in
              let f : refusal_of s e.what ≡ form =
              form_first s e.what (rw o d) ∙ ap (λ (k : ℕ). form_refusal k e.what) o in
              let number : form ≡ read_number office (room_check e.room) e.what = rw (low, u, ne_eqb form 0 d) in
              act_in_room t e output w fits a
              ∙ ap (in_table t e.room) (act_refuses s e.what form d f)
              ∙ ap (refused_table form) (upd_self t e.room)
              ∙ ap (λ (k : ℕ). refused_table k t) number

  pub hand_acts : take_table office t e output ≡ act_table t e output
  unfolding take_table
  hand_acts = go (ℕ_discrete (read_number office (room_check e.room) e.what) 0)
    where
      go : Dec (read_number office (room_check e.room) e.what ≡ 0)
          → take_table office t e output ≡ act_table t e output
      go (yes z) = rw z
      go (no n) = rw (ne_eqb _ 0 n) (sym (unread_acts n))

-- the event in the bytes of an event that fits, and what 4, 5 and 20 find there
event_back : (room : ℕ) (e : Event) → FitsEvent e → event_of (event_bytes room e) ≡ e
event_back room (a_report r) f = report_event room r f
event_back room (a_proposal p) f = proposal_event room p ∙ ap a_proposal (proposal_back room p f)

event_room : (room : ℕ) (e : Event) → room_of (event_bytes room e) ≡ room
event_room room (a_report r) = report_room room r
event_room room (a_proposal p) = proposal_room room p

event_checked : (room : ℕ) (e : Event) → FitsEvent e → check_of (event_bytes room e) ≡ 0
event_checked room (a_report r) f = report_checked room r
event_checked room (a_proposal p) f = proposal_checked room p f

event_found : (room : ℕ) (e : Event) → FitsEvent e → read_check (event_bytes room e) ≡ room_check room
unfolding read_check
event_found room e f = rw (event_checked room e f, event_room room e)

module _ (office : ℕ) (e : RoomEvent) (f : FitsEvent e.what) where
  abbrev bytes : List ℕ
  bytes = event_bytes e.room e.what

  abbrev number : ℕ
  number = read_number office (room_check e.room) e.what

  -- its bytes meet the checks that it meets, and give it back where none applies
  pub hand_read : read_of office bytes ≡ record { refusal = number; event = ifb (eqb number 0) e no_event }
  unfolding read_of
  hand_read = rw (event_found e.room e.what f, event_back e.room e.what f, event_room e.room e.what)

  -- and have the answer that it has
  pub hand_step : (t : Table) (output : ℕ) → step_table office t bytes output ≡ take_table office t e output
  unfolding step_table take_table
  hand_step t output = rw hand_read (go (ℕ_discrete number 0))
    where
      go : Dec (number ≡ 0)
          → ifb (eqb number 0) (act_table t (ifb (eqb number 0) e no_event) output) (refused_table number t)
          ≡ ifb (eqb number 0) (act_table t e output) (refused_table number t)
      go (yes z) = rw z
      go (no n) = rw (ne_eqb number 0 n)

-- Both in turn are the step of request 9, where 2 and 3 pass and the room's own office is the office given.
pub turn_undivided : (office : ℕ) (t : Table) (b : List ℕ) (output : ℕ) → office < 16 → well_table t ≡ true
    → full_room ≤ output → (room_of b < room_count → (t (room_of b)).own ≡ office)
    → step_table office t b output ≡ undivided t b output
unfolding undivided
turn_undivided office t b output known w fits own = go (ℕ_discrete (read_check b) 0)
  where
    go : Dec (read_check b ≡ 0) → step_table office t b output ≡ undivided t b output
    go (yes z) =
        let a = ((read_facts b).0 z).1 in
        step_table_takes office t b output z
        ∙ hand_acts office t (record_event b) output known w fits own
        ∙ act_in_room t (record_event b) output w fits a
        ∙ rw (w, le-ltb output full_room fits, z)
    go (no n) =
        let low = le-ltb 15 office (omega arith) in
        let m : (read_of office b).refusal ≡ read_check b
        = read_refusal office b ∙ (unfold read_number in rw (low, ne_eqb (read_check b) 0 n)) in
        step_unread office t b output (λ z. n (sym m ∙ z))
        ∙ ap (λ (k : ℕ). refused_table k t) m
        ∙ rw (w, le-ltb output full_room fits, ne_eqb (read_check b) 0 n, ne_eqb (read_check b) 0 n)

acting_number : (s : State) (e : Event)
    → (act_of s e).refusal ≡ ifb (eqb (refusal_of s e) 0) (first_of (ceiling_of s e)) (refusal_of s e)
unfolding act_of accepting
acting_number s e = go (ℕ_discrete (refusal_of s e) 0) (well_formed (rule_of s e).state) refl
  where
    go : Dec (refusal_of s e ≡ 0) → (u : Bool) → well_formed (rule_of s e).state ≡ u
        → (act_of s e).refusal ≡ ifb (eqb (refusal_of s e) 0) (first_of (ceiling_of s e)) (refusal_of s e)
    go (no n) u w = rw (ne_eqb (refusal_of s e) 0 n)
    go (yes z) true w = rw (z, w)
    go (yes z) false w = rw (z, w)

-- behind a reading for any office, of 6 to 10 and 19 only 6 and 9 are left for the own one
own_checks : (office : ℕ) (s : State) (p : Proposal) → first_of (form_checks office p) ≡ 0
    → first_of (proposal_checks s p) ≡ first_of (office_checks s.own (a_proposal p) ++ state_checks s p)
unfolding proposal_checks
own_checks office s p z =
    let c6 = (first_none (wrong_sender office p) 5 _).0 z in
    let c7 = (first_none (wrong_kind p) 6 _).0 c6.1 in
    let c8 = (first_none (wrong_number p) 7 _).0 c7.1 in
    let c9 = (first_none (without_seat office p) 8 _).0 c8.1 in
    let c10 = (first_none (stray_used p) 9 _).0 c9.1 in
    let c19 = (first_none (uses_itself p) 18 0).0 c10.1 in
    rw (c7.0, c8.0, c10.0, c19.0)

state_numbers : (s : State) (p : Proposal)
    → Every (λ c. eqb c.number 0 ≡ false) (office_checks s.own (a_proposal p) ++ state_checks s p)
state_numbers s p = more refl (more refl (more refl (more refl none)))

acting_order : (office : ℕ) (s : State) (e : Event) → form_refusal office e ≡ 0
    → (act_of s e).refusal ≡ first_of (office_checks s.own e ++ (states_of s e ++ ceiling_of s e))
acting_order office s (a_report r) z = acting_number s (a_report r)
acting_order office s (a_proposal p) z =
    let own = own_checks office s p z in
    acting_number s (a_proposal p)
    ∙ ap (λ (n : ℕ). ifb (eqb n 0) (first_of (ceiling_of s (a_proposal p))) n) own
    ∙ sym (first_append (office_checks s.own (a_proposal p) ++ state_checks s p) (ceiling_of s (a_proposal p))
    (state_numbers s p))

forms_alone : (office : ℕ) (e : Event) → first_of (forms_of office e) ≡ form_refusal office e
forms_alone office (a_report r) = refl
forms_alone office (a_proposal p) = refl

forms_first : (office : ℕ) (e : Event) (cs : List Check)
    → first_of (forms_of office e ++ cs) ≡ ifb (eqb (form_refusal office e) 0) (first_of cs) (form_refusal office e)
forms_first office (a_report r) cs = refl
forms_first office (a_proposal p) cs = first_append (form_checks office p) cs (form_numbers office p)

-- The order of the numbers of the reading call,
pub reads_in_order : (office : ℕ) (b : List ℕ) → (read_of office b).refusal ≡ first_of (read_order office b)
unfolding read_of read_number read_order read_check
reads_in_order office b = go (ltb 15 office) refl (ℕ_discrete (check_of b) 0) (room_above (room_of b)) refl
  where
    form : ℕ
    form = form_refusal office (event_of b)

    alone : first_of (forms_of office (event_of b)) ≡ form
    alone = forms_alone office (event_of b)

    go : (u : Bool) → ltb 15 office ≡ u → Dec (check_of b ≡ 0) → (v : Bool) → room_above (room_of b) ≡ v
        → (read_of office b).refusal ≡ first_of (read_order office b)
    go true u c v a = rw u
    go false u (no n) v a = rw (u, ne_eqb (check_of b) 0 n, ne_eqb (check_of b) 0 n)
    go false u (yes c) true a = rw (u, c, a)
    go false u (yes c) false a = rw (u, c, a, alone) (last (ℕ_discrete form 0))
      where
        last : Dec (form ≡ 0) → ifb (not (eqb form 0)) form 0 ≡ form
        last (yes z) = rw z
        last (no n) = rw (ne_eqb form 0 n)

-- of the acting call,
act_forms : (s : State) (e : Event)
    → (act_of s e).refusal ≡ first_of (forms_of s.own e ++ (states_of s e ++ ceiling_of s e))
act_forms s (a_report r) = acting_number s (a_report r)
act_forms s (a_proposal p) = unfold proposal_checks in
    acting_number s (a_proposal p)
    ∙ sym (first_append (form_checks s.own p ++ state_checks s p) (ceiling_of s (a_proposal p))
    (more refl (more refl (more refl (more refl (more refl (more refl (more refl (more refl none)))))))))

pub act_number : (t : Table) (e : RoomEvent) (output : ℕ)
    → (act_table t e output).refusal ≡ first_of (act_order t e output)
unfolding act_order
act_number t e output = go (well_table t) refl (ltb output full_room) refl (room_above e.room) refl
  where
    go : (u : Bool) → well_table t ≡ u → (v : Bool) → ltb output full_room ≡ v → (x : Bool) → room_above e.room ≡ x
        → (act_table t e output).refusal ≡ first_of (act_order t e output)
    go false w v l x a = rw (act_2 t e output w, w)
    go true w true l x a = rw (act_3 t e output w (ltb-true output full_room l), w, l)
    go true w false l true a = rw (act_20 t e output w (ltb-false output full_room l) a, w, l, a)
    go true w false l false a =
        rw (act_in_room t e output w (ltb-false output full_room l) (leb-false room_count e.room a), w, l, a)
        (act_forms (t e.room) e.what)

-- and of both in turn.
module _ (office : ℕ) (t : Table) (b : List ℕ) (output : ℕ) where
  abbrev event : Event
  event = event_of b

  abbrev state : State
  state = t (room_of b)

  abbrev form : ℕ
  form = form_refusal office event

  abbrev acted : List Check
  acted =
      record { number = 2; applies = not (well_table t) } ∷ record { number = 3; applies = ltb output full_room }
      ∷ (office_checks state.own event ++ (states_of state event ++ ceiling_of state event))

  acts_in_order : room_above (room_of b) ≡ false → form ≡ 0
      → (act_table t (record_event b) output).refusal ≡ first_of acted
  acts_in_order a z = go (well_table t) refl (ltb output full_room) refl
    where
      go : (u : Bool) → well_table t ≡ u → (v : Bool) → ltb output full_room ≡ v
          → (act_table t (record_event b) output).refusal ≡ first_of acted
      go false w v l = rw (act_2 t (record_event b) output w, w)
      go true w true l = rw (act_3 t (record_event b) output w (ltb-true output full_room l), w, l)
      go true w false l =
          let below = leb-false room_count (room_of b) a in
          rw (act_in_room t (record_event b) output w (ltb-false output full_room l) below, w, l)
          (acting_order office state event z)

  pub turn_order : (step_table office t b output).refusal ≡ first_of (turn_checks office t b output)
  unfolding turn_checks read_order step_table read_of read_number read_check
  turn_order = go (ltb 15 office) refl (ℕ_discrete (check_of b) 0) (room_above (room_of b)) refl (ℕ_discrete form 0)
    where
      go : (u : Bool) → ltb 15 office ≡ u → Dec (check_of b ≡ 0) → (v : Bool) → room_above (room_of b) ≡ v
          → Dec (form ≡ 0) → (step_table office t b output).refusal ≡ first_of (turn_checks office t b output)
      go true u c v a f = rw u
      go false u (no n) v a f = rw (u, ne_eqb (check_of b) 0 n, ne_eqb (check_of b) 0 n, ne_eqb (check_of b) 0 n)
      go false u (yes c) true a f = rw (u, c, a)
      go false u (yes c) false a (no n) =
          rw (u, c, a, ne_eqb form 0 n, ne_eqb form 0 n, forms_first office event acted, ne_eqb form 0 n)
      go false u (yes c) false a (yes z) =
          rw (u, c, a, z, forms_first office event acted, z) (acts_in_order a z)

-- a refusal of the acting call leaves the table and writes nothing
pub act_keeps : (t : Table) (e : RoomEvent) (output : ℕ) → ((act_table t e output).refusal ≡ 0 → ⊥)
    → act_table t e output ≡ refused_table (act_table t e output).refusal t
unfolding act_table
act_keeps t e output n = go (ℕ_discrete (barred t e output) 0) (act_cases (t e.room) e.what)
  where
    s : State
    s = t e.room

    go : Dec (barred t e output ≡ 0) → Refused s (act_of s e.what) ⊎ AcceptsEvent s e.what
        → act_table t e output ≡ refused_table (act_table t e output).refusal t
    go (no d) c = rw (ne_eqb (barred t e output) 0 d)
    go (yes z) (inl r) =
        rw z (ap (in_table t e.room) r.is ∙ ap (refused_table (act_of s e.what).refusal) (upd_self t e.room))
    go (yes z) (inr a) =
        absurd (n (rw z (ap (λ (q : Result). q.refusal) (act_accepts s e.what a))))

-- an event that its reading refuses is answered so, whatever the state and the output
pub unread_first : (office : ℕ) (s : State) (e : Event) (output : ℕ) → (read_number office 0 e ≡ 0 → ⊥)
    → take_of office s e output ≡ refused (read_number office 0 e) s
unfolding take_of
unread_first office s e output n = rw (ne_eqb (read_number office 0 e) 0 n)
