-- What is stored after the parts of an event: what was stored before, or an own proposal that was made, and a slow one
-- is among the records written. So what holds of all that was stored, of the proposal that came and of each one made
-- holds of all that is stored after the event.
use mathlib.Core.Path.{◌≡◌, refl, sym, ap, subst, ◌∙◌}
use mathlib.Core.Bool.{true}
use mathlib.Core.List.Memᴰ
use mathlib.Core.List.{List, ◌++◌, Memᴰ}
use Prim.Native.Nat.{ℕ, ◌<◌}
use native.Mathlib.Omega.{arith}
use native.Mathlib.Decide.{ℕ_discrete}
use Rattle.laws.specs.Upd.{upd}
use Rattle.laws.proofs.Fin.{if_cases, true_false}
use Rattle.laws.proofs.Upd.{upd_same, upd_other}
use Rattle.seats.specs.Offices.{serves}
use Rattle.records.specs.declared.Proposal.{Proposal}
use Rattle.rules.specs.State.{Mode, None, Fast, Slow, Slot, State, fast, slow, nothing, keeping, stored_at}
use Rattle.rules.specs.Rules.{Written, proposal, Outcome, nothing_written, and_then, in_slot, net_after, opened, opens}
use Rattle.rules.specs.Rules.{next_number, own_proposal, proposed, proposes_fast, begins_in, slow_number, proposes_slow}
use Rattle.rules.specs.Rules.{concluded}
use Rattle.rules.specs.Refusals.{Event, a_report, a_proposal, rule_of, take_of}
use Rattle.rule_laws.proofs.Parts.{with_net_reads, received_reads, opened_reads, proposed_reads, concluded_reads}
use Rattle.rule_laws.proofs.Parts.{made_is}
use Rattle.rule_laws.proofs.Steps.{take_by}
use Rattle.rule_laws.proofs.Walk.{arrived, arrived_own, slow_round, concludes, walk_event}

-- what is stored for office k after an outcome o from the state s
pub data SlotKept (s : State) (o : Outcome) (k : ℕ) : Type 0 where
  as_before : stored_at o.state k ≡ stored_at s k → SlotKept s o k
  as_made : (p : Proposal) → k ≡ s.own → p.sender ≡ s.own → (p.kind ≡ slow → Memᴰ (proposal p) o.written)
      → stored_at o.state k ≡ keeping p → SlotKept s o k

pub record Keeps (s : State) (o : Outcome) : Type 0 where
  pub own : o.state.own ≡ s.own
  pub slot : (k : ℕ) → k < 16 → (stored_at o.state k).present ≡ true → SlotKept s o k

pub keeps_none : (s : State) → Keeps s (nothing_written s)
keeps_none s = record { own = refl; slot = λ k l y. as_before refl }

pub keeps_open : (s : State) → Keeps s (opens s)
unfolding opens
keeps_open s = let r = opened_reads s in record { own = r.own_is; slot = λ k l y. as_before (r.stored_is k l) }

keeps_made : (s : State) (m : Mode) (n : ℕ) (ws : List Written)
    → ((own_proposal m n s).kind ≡ slow → Memᴰ (proposal (own_proposal m n s)) ws)
    → Keeps s (record { state = proposed m n s; written = ws })
keeps_made s m n ws h =
    record { own = (proposed_reads s m n).own_is; slot = λ k l y. go k l (ℕ_discrete k s.own) }
  where
    p : Proposal
    p = own_proposal m n s

    is : (k : ℕ) → k < 16 → stored_at (proposed m n s) k ≡ upd (stored_at s) s.own (keeping p) k
    is = (proposed_reads s m n).stored_is

    go : (k : ℕ) → k < 16 → Dec (k ≡ s.own) → SlotKept s (record { state = proposed m n s; written = ws }) k
    go k l (no d) = as_before (is k l ∙ upd_other (stored_at s) s.own (keeping p) k d)
    go k l (yes e) = as_made p e (made_is s m n).0 h
        (is k l ∙ ap (upd (stored_at s) s.own (keeping p)) e ∙ upd_same (stored_at s) s.own (keeping p))

pub keeps_fast : (s : State) → Keeps s (proposes_fast s)
unfolding proposes_fast
keeps_fast s = keeps_made s Fast (next_number s) _ (λ e. absurd (never (sym (made_is s Fast (next_number s)).1 ∙ e)))
  where
    never : fast ≡ slow → ⊥
    never e = omega arith

keeps_slow : (s : State) → Keeps s (proposes_slow s)
unfolding proposes_slow
keeps_slow s = keeps_made s Slow (slow_number s) _ (λ e. Memᴰ.head refl)

keeps_view : (s : State) → Keeps s (concludes s)
keeps_view s = record { own = (concluded_reads s).own_is; slot = go }
  where
    go : (k : ℕ) → k < 16 → (stored_at (concluded s) k).present ≡ true → SlotKept s (concludes s) k
    go k l y = if_cases (λ (v : Slot). stored_at (concluded s) k ≡ v → SlotKept s (concludes s) k)
        (serves s.net.bits k) nothing (stored_at s k)
        (λ e q. absurd (true_false _ y (ap (λ (v : Slot). v.present) q))) (λ e q. as_before q)
        ((concluded_reads s).stored_is k l)

pub keeps_then : (s : State) (o : Outcome) (f : State → Outcome) → Keeps s o → Keeps o.state (f o.state)
    → Keeps s (and_then o f)
unfolding and_then
keeps_then s o f a b = record { own = b.own ∙ a.own; slot = λ k l y. go k l y (b.slot k l y) }
  where
    first : (k : ℕ) → stored_at (f o.state).state k ≡ stored_at o.state k → SlotKept s o k
        → SlotKept s (and_then o f) k
    first k e (as_before d) = as_before (e ∙ d)
    first k e (as_made p i n h d) =
        as_made p i n (λ y. Memᴰ.append_left (f o.state).written (h y)) (e ∙ d)

    go : (k : ℕ) → k < 16 → (stored_at (f o.state).state k).present ≡ true → SlotKept o.state (f o.state) k
        → SlotKept s (and_then o f) k
    go k l y (as_before e) = first k e (a.slot k l (sym (ap (λ (v : Slot). v.present) e) ∙ y))
    go k l y (as_made p i n h d) =
        as_made p (i ∙ a.own) (n ∙ a.own) (λ z. Memᴰ.append_right o.written (h z)) d

-- more records written
pub keeps_more : (s : State) (o : Outcome) (ws : List Written) → Keeps s o
    → Keeps s (record { state = o.state; written = o.written ++ ws })
keeps_more s o ws a = record { own = a.own; slot = λ k l y. go k (a.slot k l y) }
  where
    go : (k : ℕ) → SlotKept s o k → SlotKept s (record { state = o.state; written = o.written ++ ws }) k
    go k (as_before e) = as_before e
    go k (as_made p i n h d) = as_made p i n (λ y. Memᴰ.append_left ws (h y)) d

pub keeps_round : (s : State) → Keeps s (slow_round s)
keeps_round s = go s.mode
  where
    go : (m : Mode) → Keeps s (and_then (begins_in m s) proposes_slow)
    go None = keeps_then s (opens s) proposes_slow (keeps_open s) (unfold opens in keeps_slow (opened s))
    go Fast = keeps_then s (nothing_written s) proposes_slow (keeps_none s) (keeps_slow s)
    go Slow = keeps_then s (nothing_written s) proposes_slow (keeps_none s) (keeps_slow s)

-- every event, from the state in which its first change leaves the office
event_keeps : (s : State) (e : Event) → Keeps (arrived s e) (rule_of s e)
event_keeps = walk_event (record {
  idle = λ s i. keeps_none s;
  opening = λ s i. keeps_open s;
  fastly = λ s i. keeps_fast s;
  slowly = λ s i. keeps_slow s;
  concluding = λ s e. keeps_view s;
  chain = keeps_then;
  whole = λ s o h. h;
  finish = keeps_then;
})

-- R holds of every proposal that is stored, and of the office it is stored for
abbrev pub AllStored : (ℕ → Proposal → Type 0) → State → Type 0
AllStored R s = (k : ℕ) → k < 16 → (stored_at s k).present ≡ true → R k (in_slot s k)

same_stored : (R : ℕ → Proposal → Type 0) (s t : State) (k : ℕ) → stored_at t k ≡ stored_at s k
    → ((stored_at s k).present ≡ true → R k (in_slot s k)) → (stored_at t k).present ≡ true → R k (in_slot t k)
same_stored R s t k e h y =
    subst (R k) (sym (ap (λ (v : Slot). v.proposal) e)) (h (sym (ap (λ (v : Slot). v.present) e) ∙ y))

module _ (R : ℕ → Proposal → Type 0) (s : State) (e : Event) (before : AllStored R s)
    (came : (p : Proposal) → e ≡ a_proposal p → R p.sender p) where
  arrived_stored : AllStored R (arrived s e)
  arrived_stored = go e came
    where
      go : (e : Event) → ((p : Proposal) → e ≡ a_proposal p → R p.sender p) → AllStored R (arrived s e)
      go (a_report r) c k l y =
          let q = (with_net_reads s (net_after s.net.bits r)).stored_is k l in
          same_stored R s (arrived s (a_report r)) k q (before k l) y
      go (a_proposal p) c k l y = at_sender (ℕ_discrete k p.sender)
        where
          is : stored_at (arrived s (a_proposal p)) k ≡ upd (stored_at s) p.sender (keeping p) k
          is = (received_reads s p).stored_is k l

          at_sender : Dec (k ≡ p.sender) → R k (in_slot (arrived s (a_proposal p)) k)
          at_sender (no n) =
              same_stored R s (arrived s (a_proposal p)) k
              (is ∙ upd_other (stored_at s) p.sender (keeping p) k n) (before k l) y
          at_sender (yes z) =
              let q = is ∙ ap (upd (stored_at s) p.sender (keeping p)) z
              ∙ upd_same (stored_at s) p.sender (keeping p) in
              subst (R k) (sym (ap (λ (v : Slot). v.proposal) q)) (subst (λ (i : ℕ). R i p) (sym z) (c p refl))

  -- each proposal made
  abbrev Made : List Written → Type 0
  Made ws = (p : Proposal) → p.sender ≡ s.own → (p.kind ≡ slow → Memᴰ (proposal p) ws) → R s.own p

  pub kept_stored : (o : Outcome) → Keeps (arrived s e) o → Made o.written → AllStored R o.state
  kept_stored o h made k l y = go (h.slot k l y)
    where
      own : (arrived s e).own ≡ s.own
      own = arrived_own s e

      go : SlotKept (arrived s e) o k → R k (in_slot o.state k)
      go (as_before q) = same_stored R (arrived s e) o.state k q (arrived_stored k l) y
      go (as_made p i n w q) =
          subst (R k) (sym (ap (λ (v : Slot). v.proposal) q))
          (subst (λ (j : ℕ). R j p) (sym (i ∙ own)) (made p (n ∙ own) w))

  -- after an event, taken or not
  pub take_stored : (office output : ℕ) → Made (take_of office s e output).written
      → AllStored R (take_of office s e output).state
  take_stored office output =
      take_by office s e output (λ ws t. Made ws → AllStored R t) (λ made. before)
      (λ a. kept_stored (rule_of s e) (event_keeps s e))
