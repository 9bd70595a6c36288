-- The checks as plain facts, and the step by cases: refused, or accepted with what is then known.
use mathlib.Core.Path.{◌≡◌, refl, ap, ◌∙◌}
use mathlib.Core.Bool.{Bool, true, false}
use mathlib.Core.Logic.{◌⊎◌, inl, inr, ◌↔◌}
use mathlib.Core.List.{List, []}
use Prim.Native.Nat.{ℕ, suc, ◌≤◌, ◌<◌}
use native.Mathlib.Omega.{arith}
use native.Mathlib.Decide.{ℕ_discrete}
use lib.ListN.{get_or}
use lib.Dec.{eqb, ltb}
use borrow.Author.Tests.{ltb-false, leb-false, eqb-true, not-false, le-ltb, lt-leb, ne_eqb}
use Rattle.laws.specs.Checks.{first_of}
use Rattle.laws.specs.Upd.{ifb}
use Rattle.laws.proofs.Checks.{first_none, no_reason}
use Rattle.laws.proofs.Fin.{as-facts, or_cases, true_false}
use Rattle.laws.proofs.Tab.{get_or_tab}
use Rattle.seats.specs.Offices.{serves}
use Rattle.records.specs.Numbers.{limit, room_count, room_above}
use Rattle.records.specs.Layout.{check_of, room_of}
use Rattle.records.proofs.NumberLaws.{stray_out, stray_in}
use Rattle.records.specs.declared.Proposal.{Proposal}
use Rattle.rules.specs.State.{Slot, State, fast, slow, stored_at, accepted_at, used_at, used_for}
use Rattle.rules.specs.Rules.{Written, fresh, restarted}
use Rattle.rule_laws.proofs.Parts.{restarted_reads, restarted_view, fresh_restarted}
use Rattle.rules.specs.Refusals.{full_room, slot_within, well_formed, read_check, Event, event_of, wrong_sender}
use Rattle.rules.specs.Refusals.{wrong_kind, form_refusal, read_number, wrong_number, without_seat, stray_used}
use Rattle.rules.specs.Refusals.{uses_itself, not_above, used_ahead, proposal_checks, refusal_of, rule_of, Result}
use Rattle.rules.specs.Refusals.{refused, accepted, accepting, act_of, act_with, take_of, step_of}

-- what a stored proposal that passes check 2 satisfies
pub record SlotWithin (v : Slot) : Type 0 where
  pub start : v.proposal.start ≤ limit
  pub number : v.proposal.number ≤ limit
  pub used : (o : ℕ) → o < 16 → used_for v.proposal o ≤ limit

-- what a state that passes check 2 satisfies
pub record WellFormed (s : State) : Type 0 where
  pub own : s.own < 16
  pub view : s.view.number ≤ limit
  pub start : s.start ≤ limit
  pub number : s.number ≤ limit
  pub starts : (o : ℕ) → o < 16 → get_or s.view.starts o 0 ≤ limit
  pub accepted : (o : ℕ) → o < 16 → accepted_at s o ≤ limit
  pub used : (o : ℕ) → o < 16 → used_at s o ≤ limit
  pub stored : (o : ℕ) → o < 16 → (stored_at s o).present ≡ true → SlotWithin (stored_at s o)

slot_facts : (v : Slot) → slot_within v ≡ true → v.present ≡ true → SlotWithin v
unfolding slot_within
slot_facts v e p = let f = simp (p, as-facts) at e in record { start = f.0.0; number = f.0.1; used = f.1 }

facts_slot : (v : Slot) → (v.present ≡ true → SlotWithin v) → slot_within v ≡ true
unfolding slot_within
facts_slot v h = go v.present refl
  where
    go : (t : Bool) → v.present ≡ t → slot_within v ≡ true
    go false e = rw e
    go true e = let f = h e in simp (e, as-facts) ((f.start, f.number), f.used)

pub well_facts : (s : State) → well_formed s ≡ true → WellFormed s
unfolding well_formed
well_facts s e =
    let f = simp as-facts at e in
    record {
      own = omega arith;
      view = f.0.0.0.0.0.0.1;
      start = f.0.0.0.0.0.1;
      number = f.0.0.0.0.1;
      starts = f.0.0.0.1;
      accepted = f.0.0.1;
      used = f.0.1;
      stored = λ o l. slot_facts (stored_at s o) (f.1 o l);
    }

pub facts_well : (s : State) → WellFormed s → well_formed s ≡ true
unfolding well_formed
facts_well s h =
    let own : s.own ≤ 15 = omega arith in
    simp as-facts (
      ((((((own, h.view), h.start), h.number), h.starts), h.accepted), h.used),
      λ o l. facts_slot (stored_at s o) (h.stored o l),
    )

-- a restarted state passes check 2, and so does a fresh one
pub restarted_well : (own m : ℕ) → own < 16 → m ≤ limit → well_formed (restarted own m) ≡ true
restarted_well own m lt le =
    let r = restarted_reads own m in
    facts_well (restarted own m) (record {
      own = let a = r.own_is in omega arith;
      view = let a = restarted_view own m in omega arith;
      start = let a = r.start_is in omega arith;
      number = let a = r.number_is in omega arith;
      starts = λ o l. let a = starts o l in omega arith;
      accepted = λ o l. let a = r.accepted_is o l in omega arith;
      used = λ o l. let a = r.used_is o l in omega arith;
      stored = λ o l p. absurd (true_false _ p (ap (λ (v : Slot). v.present) (r.stored_is o l)));
    })
  where
    starts : (o : ℕ) → o < 16 → get_or (restarted own m).view.starts o 0 ≡ 0
    starts o l = unfold restarted in get_or_tab 16 (λ k. 0) o 0 l

pub fresh_well : (own : ℕ) → own < 16 → well_formed (fresh own) ≡ true
fresh_well own lt = rw (fresh_restarted own) (restarted_well own 0 lt (omega arith))

-- what a proposal that passes checks 6 to 10, 19, 11 and 12 satisfies
pub record Passes (s : State) (p : Proposal) : Type 0 where
  pub sender : p.sender < 16
  pub other : p.sender ≡ s.own → ⊥
  pub kind : (p.kind ≡ fast) ⊎ (p.kind ≡ slow)
  pub start : (0 < p.start) × (p.start ≤ limit)
  pub number : (0 < p.number) × (p.number ≤ limit)
  pub used : (o : ℕ) → o < 16 → used_for p o ≤ limit
  pub seat : serves p.members.bits p.sender ≡ true
  pub own_seat : serves p.members.bits s.own ≡ true
  pub stray : (o : ℕ) → o < 16 → serves p.members.bits o ≡ false → used_for p o ≡ 0
  pub used_below : used_for p p.sender < p.number
  pub above : accepted_at s p.sender < p.number
  pub behind : used_for p s.own ≤ s.number

pub check_facts : (s : State) (p : Proposal) → first_of (proposal_checks s p) ≡ 0 → Passes s p
unfolding proposal_checks wrong_sender wrong_kind wrong_number without_seat stray_used uses_itself not_above used_ahead
check_facts s p e =
    let c6 = (first_none (wrong_sender s.own p) 5 _).0 e in
    let c7 = (first_none (wrong_kind p) 6 _).0 c6.1 in
    let c8 = (first_none (wrong_number p) 7 _).0 c7.1 in
    let c9 = (first_none (without_seat s.own p) 8 _).0 c8.1 in
    let c10 = (first_none (stray_used p) 9 _).0 c9.1 in
    let c19 = (first_none (uses_itself p) 18 _).0 c10.1 in
    let c11 = (first_none (not_above s p) 10 _).0 c19.1 in
    let c12 = (first_none (used_ahead s p) 11 0).0 c11.1 in
    let f6 = simp as-facts at c6.0 in
    let f8 = simp as-facts at c8.0 in
    let f9 = simp as-facts at c9.0 in
    record {
      sender = omega arith;
      other = f6.1;
      kind = kinds (or_cases (eqb p.kind fast) (eqb p.kind slow) (not-false _ c7.0));
      start = (omega arith, omega arith);
      number = (omega arith, omega arith);
      used = λ o l. let u = f8.1 o l in omega arith;
      seat = f9.0;
      own_seat = f9.1;
      stray = stray_out p.used p.members.bits c10.0;
      used_below = leb-false _ _ c19.0;
      above = leb-false _ _ c11.0;
      behind = ltb-false _ _ c12.0;
    }
  where
    kinds : (eqb p.kind fast ≡ true) ⊎ (eqb p.kind slow ≡ true) → (p.kind ≡ fast) ⊎ (p.kind ≡ slow)
    kinds (inl e) = inl (eqb-true p.kind fast e)
    kinds (inr e) = inr (eqb-true p.kind slow e)

pub facts_check : (s : State) (p : Proposal) → Passes s p → first_of (proposal_checks s p) ≡ 0
unfolding proposal_checks wrong_sender wrong_kind wrong_number without_seat stray_used uses_itself not_above used_ahead
facts_check s p h =
    let number : (n : ℕ) → (0 < n) × (n ≤ limit) → (n ≡ 0 → ⊥) × (n < suc limit) = λ n l. (omega arith, omega arith) in
    let a = number p.start h.start in
    let b = number p.number h.number in
    let c6 : wrong_sender s.own p ≡ false = simp as-facts (h.sender, h.other) in
    let c7 : wrong_kind p ≡ false = kinds h.kind in
    let c8 : wrong_number p ≡ false =
    simp as-facts ((((a.0, a.1), b.0), b.1), λ o l. let u = h.used o l in omega arith) in
    let c9 : without_seat s.own p ≡ false = simp as-facts (h.seat, h.own_seat) in
    let c10 : stray_used p ≡ false = stray_in p.used p.members.bits h.stray in
    let c19 : uses_itself p ≡ false = lt-leb _ _ h.used_below in
    let c11 : not_above s p ≡ false = lt-leb _ _ h.above in
    let c12 : used_ahead s p ≡ false = le-ltb _ _ h.behind in
    rw (c6, c7, c8, c9, c10, c19, c11, c12)
  where
    kinds : (p.kind ≡ fast) ⊎ (p.kind ≡ slow) → wrong_kind p ≡ false
    kinds (inl e) = rw e
    kinds (inr e) = rw e

-- the step refuses: it leaves the state and writes nothing
pub record Refused (s : State) (r : Result) : Type 0 where
  pub reason : r.refusal ≡ 0 → ⊥
  pub is : r ≡ refused r.refusal s

-- acting on an event accepts it
pub record AcceptsEvent (s : State) (e : Event) : Type 0 where
  pub passes : refusal_of s e ≡ 0
  pub within : well_formed (rule_of s e).state ≡ true

pub act_accepts : (s : State) (e : Event) → AcceptsEvent s e → act_of s e ≡ accepted (rule_of s e)
unfolding act_of accepting
act_accepts s e h = rw (h.passes, h.within)

pub act_cases : (s : State) (e : Event) → Refused s (act_of s e) ⊎ AcceptsEvent s e
unfolding act_of accepting
act_cases s e = go (ℕ_discrete (refusal_of s e) 0) (well_formed (rule_of s e).state) refl
  where
    go : Dec (refusal_of s e ≡ 0) → (t : Bool) → well_formed (rule_of s e).state ≡ t → Refused s (act_of s e)
        ⊎ AcceptsEvent s e
    go (no n) t w = inl (rw (ne_eqb (refusal_of s e) 0 n) (record { reason = n; is = refl }))
    go (yes z) true w = inr (record { passes = z; within = w })
    go (yes z) false w = inl (rw (z, w) (record { reason = omega arith; is = refl }))

-- acting with an output accepts the event: checks 2 and 3 pass too
pub record ActsWith (s : State) (e : Event) (output : ℕ) : Type 0 where
  pub well : well_formed s ≡ true
  pub fits : full_room ≤ output
  pub acts : AcceptsEvent s e

act_with_accepts : (s : State) (e : Event) (output : ℕ) → ActsWith s e output
    → act_with s e output ≡ accepted (rule_of s e)
unfolding act_with
act_with_accepts s e output h = rw (h.well, le-ltb output full_room h.fits) (act_accepts s e h.acts)

act_with_cases : (s : State) (e : Event) (output : ℕ) → Refused s (act_with s e output) ⊎ ActsWith s e output
unfolding act_with
act_with_cases s e output = go (well_formed s) refl (ltb output full_room) refl (act_cases s e)
  where
    go : (t : Bool) → well_formed s ≡ t → (u : Bool) → ltb output full_room ≡ u
        → Refused s (act_of s e) ⊎ AcceptsEvent s e
        → Refused s (act_with s e output) ⊎ ActsWith s e output
    go false p u q a = inl (rw p (record { reason = omega arith; is = refl }))
    go true p true q a = inl (rw (p, q) (record { reason = omega arith; is = refl }))
    go true p false q (inl r) = inl (rw (p, q) r)
    go true p false q (inr a) = inr (record { well = p; fits = ltb-false output full_room q; acts = a })

-- the reading passes: the office is one of the sixteen, and neither 4, 5 and 20 nor 6 to 10 and 19 apply
pub reading_facts : (office found : ℕ) (e : Event)
    → (read_number office found e ≡ 0) ↔ ((office < 16) × (found ≡ 0) × (form_refusal office e ≡ 0))
unfolding read_number
reading_facts office found e = (
  λ z.
      let c1 = (first_none (ltb 15 office) 0 _).0 z in
      let c4 = no_reason found _ c1.1 in
      let l = ltb-false 15 office c1.0 in
      (omega arith, c4.0, (no_reason (form_refusal office e) 0 c4.1).0),
  λ h. let l : office ≤ 15 = let a = h.0 in omega arith in rw (le-ltb 15 office l, h.1, h.2),
)

-- an event is taken: it passes its reading, and acting on it accepts it
pub record Takes (office : ℕ) (s : State) (e : Event) (output : ℕ) : Type 0 where
  pub known : office < 16
  pub form : form_refusal office e ≡ 0
  pub well : well_formed s ≡ true
  pub fits : full_room ≤ output
  pub acts : AcceptsEvent s e

pub take_accepts : (office : ℕ) (s : State) (e : Event) (output : ℕ) → Takes office s e output
    → take_of office s e output ≡ accepted (rule_of s e)
unfolding take_of
take_accepts office s e output h =
    rw ((reading_facts office 0 e).1 (h.known, refl, h.form))
    (act_with_accepts s e output (record { well = h.well; fits = h.fits; acts = h.acts }))

-- behind a reading: refused by it, or as the acting goes
module _ (n : ℕ) (s : State) (q : Result) where
  abbrev behind : Result
  behind = ifb (eqb n 0) q (refused n s)

  behind_cases : (A B : Type 0) → Refused s q ⊎ A → (n ≡ 0 → A → B) → Refused s behind ⊎ B
  behind_cases A B a f = go (ℕ_discrete n 0) a
    where
      go : Dec (n ≡ 0) → Refused s q ⊎ A → Refused s behind ⊎ B
      go (no d) a = inl (rw (ne_eqb n 0 d) (record { reason = d; is = refl }))
      go (yes z) (inl r) = inl (rw z r)
      go (yes z) (inr x) = inr (f z x)

pub take_cases : (office : ℕ) (s : State) (e : Event) (output : ℕ)
    → Refused s (take_of office s e output) ⊎ Takes office s e output
unfolding take_of
take_cases office s e output =
    behind_cases (read_number office 0 e) s (act_with s e output) (ActsWith s e output) (Takes office s e output)
    (act_with_cases s e output)
    (λ z a. let f = (reading_facts office 0 e).0 z in
    record { known = f.0; form = f.2; well = a.well; fits = a.fits; acts = a.acts })

-- a state that passes check 2 passes it after every event
pub take_well : (office : ℕ) (s : State) (e : Event) (output : ℕ) → well_formed s ≡ true
    → well_formed (take_of office s e output).state ≡ true
take_well office s e output w = go (take_cases office s e output)
  where
    go : Refused s (take_of office s e output) ⊎ Takes office s e output
        → well_formed (take_of office s e output).state ≡ true
    go (inl r) = rw r.is w
    go (inr a) = rw (take_accepts office s e output a) a.acts.within

-- checks 4, 5 and 20 pass
pub read_facts : (b : List ℕ) → (read_check b ≡ 0) ↔ ((check_of b ≡ 0) × (room_of b < room_count))
unfolding read_check
read_facts b = (
  λ e.
      let c4 = no_reason (check_of b) _ e in
      let c20 = (first_none (room_above (room_of b)) 19 0).0 c4.1 in
      (c4.0, leb-false room_count (room_of b) c20.0),
  λ h. rw (h.0, lt-leb room_count (room_of b) h.1),
)

-- the step accepts: every check passes
pub record Accepts (office : ℕ) (s : State) (b : List ℕ) (output : ℕ) : Type 0 where
  pub known : office < 16
  pub readable : check_of b ≡ 0
  pub in_room : room_of b < room_count
  pub form : form_refusal office (event_of b) ≡ 0
  pub well : well_formed s ≡ true
  pub fits : full_room ≤ output
  pub acts : AcceptsEvent s (event_of b)

-- on bytes that pass checks 4, 5 and 20 the step takes the event that they hold
pub step_takes : (office : ℕ) (s : State) (b : List ℕ) (output : ℕ) → read_check b ≡ 0
    → step_of office s b output ≡ take_of office s (event_of b) output
unfolding step_of take_of
step_takes office s b output e = rw e

pub step_accepts : (office : ℕ) (s : State) (b : List ℕ) (output : ℕ) → Accepts office s b output
    → step_of office s b output ≡ accepted (rule_of s (event_of b))
step_accepts office s b output h =
    step_takes office s b output ((read_facts b).1 (h.readable, h.in_room))
    ∙ take_accepts office s (event_of b) output
    (record { known = h.known; form = h.form; well = h.well; fits = h.fits; acts = h.acts })

pub step_cases : (office : ℕ) (s : State) (b : List ℕ) (output : ℕ)
    → Refused s (step_of office s b output) ⊎ Accepts office s b output
unfolding step_of
step_cases office s b output =
    behind_cases (read_number office (read_check b) (event_of b)) s (act_with s (event_of b) output)
    (ActsWith s (event_of b) output) (Accepts office s b output) (act_with_cases s (event_of b) output)
    (λ z a.
    let f = (reading_facts office (read_check b) (event_of b)).0 z in
    let r = (read_facts b).0 f.1 in
    record {
      known = f.0;
      readable = r.0;
      in_room = r.1;
      form = f.2;
      well = a.well;
      fits = a.fits;
      acts = a.acts;
    })

-- other bytes leave the state and have nothing written
pub step_skips : (office : ℕ) (s : State) (b : List ℕ) (output : ℕ) → (read_check b ≡ 0 → ⊥)
    → ((step_of office s b output).state ≡ s) × ((step_of office s b output).written ≡ [])
step_skips office s b output n = go (step_cases office s b output)
  where
    go : Refused s (step_of office s b output) ⊎ Accepts office s b output
        → ((step_of office s b output).state ≡ s) × ((step_of office s b output).written ≡ [])
    go (inl r) = (ap (λ (q : Result). q.state) r.is, ap (λ (q : Result). q.written) r.is)
    go (inr a) = absurd (n ((read_facts b).1 (a.readable, a.in_room)))

-- what holds of nothing done and of the rule of every event that is taken holds of an event, taken or not
pub take_by : (office : ℕ) (s : State) (e : Event) (output : ℕ) (P : List Written → State → Type 0) → P [] s
    → (Takes office s e output → P (rule_of s e).written (rule_of s e).state)
    → P (take_of office s e output).written (take_of office s e output).state
take_by office s e output P z h = go (take_cases office s e output)
  where
    go : Refused s (take_of office s e output) ⊎ Takes office s e output
        → P (take_of office s e output).written (take_of office s e output).state
    go (inl r) = rw r.is z
    go (inr a) = rw (take_accepts office s e output a) (h a)

-- what holds of nothing done and of every event, taken or not, holds of the step
pub step_by : (office : ℕ) (s : State) (b : List ℕ) (output : ℕ) (P : List Written → State → Type 0) → P [] s
    → ((e : Event) → P (take_of office s e output).written (take_of office s e output).state)
    → P (step_of office s b output).written (step_of office s b output).state
step_by office s b output P z h = go (ℕ_discrete (read_check b) 0)
  where
    go : Dec (read_check b ≡ 0) → P (step_of office s b output).written (step_of office s b output).state
    go (yes e) = rw (step_takes office s b output e) (h (event_of b))
    go (no n) = let k = step_skips office s b output n in rw (k.0, k.1) z

-- a refusal leaves the state and writes nothing
pub refused_keeps : (office : ℕ) (s : State) (b : List ℕ) (output : ℕ) → ((step_of office s b output).refusal ≡ 0 → ⊥)
    → step_of office s b output ≡ refused (step_of office s b output).refusal s
refused_keeps office s b output n = go (step_cases office s b output)
  where
    go : Refused s (step_of office s b output) ⊎ Accepts office s b output
        → step_of office s b output ≡ refused (step_of office s b output).refusal s
    go (inl r) = r.is
    go (inr a) = absurd (n (ap (λ (r : Result). r.refusal) (step_accepts office s b output a)))

-- an accepted step passes every check
pub zero_accepts : (office : ℕ) (s : State) (b : List ℕ) (output : ℕ) → (step_of office s b output).refusal ≡ 0
    → Accepts office s b output
zero_accepts office s b output z = go (step_cases office s b output)
  where
    go : Refused s (step_of office s b output) ⊎ Accepts office s b output → Accepts office s b output
    go (inl r) = absurd (r.reason z)
    go (inr a) = a

-- an accepted step leaves a state that passes check 2
pub step_well : (office : ℕ) (s : State) (b : List ℕ) (output : ℕ) → well_formed s ≡ true
    → well_formed (step_of office s b output).state ≡ true
step_well office s b output w = go (step_cases office s b output)
  where
    go : Refused s (step_of office s b output) ⊎ Accepts office s b output
        → well_formed (step_of office s b output).state ≡ true
    go (inl r) = rw r.is w
    go (inr a) = rw (step_accepts office s b output a) a.acts.within
