-- What every accepted event keeps: in mode fast or slow, with a seat in the net view, the agreement test is not met,
-- and the own office has the proposal that it asks for.
use mathlib.Core.Path.{◌≡◌, refl, sym, ap, subst, ◌∙◌}
use mathlib.Core.Bool.{Bool, true, false}
use Prim.Native.Nat.{ℕ, ◌<◌}
use Rattle.laws.proofs.Fin.{true_false}
use Rattle.laws.proofs.Upd.{upd_same, upd_other}
use Rattle.seats.specs.Offices.{serves}
use Rattle.records.specs.declared.Report.{Report}
use Rattle.records.specs.declared.Proposal.{Proposal}
use Rattle.rules.specs.State.{Mode, None, Fast, Slow, Slot, State, kind_of, keeping, stored_at}
use Rattle.rules.specs.Rules.{and_then, net_after, with_net, seated, opened, opens, own_proposal, proposed}
use Rattle.rules.specs.Rules.{proposes_fast, received, begins_in, proposes_slow, agreed, report_rule, proposal_rule}
use Rattle.rules.specs.Refusals.{Event, a_report, a_proposal, refusal_of, rule_of}
use Rattle.rule_laws.proofs.Parts.{proposed_reads, received_reads, concluded_reads, made_is}
use Rattle.rule_laws.proofs.Tests.{Agreeing, AllAgree, agreed_out, agreed_in}
use Rattle.rule_laws.proofs.Steps.{Passes, check_facts}
use Rattle.rule_laws.proofs.Walk.{Tested, staged_report, staged_proposal}

-- the own office has the proposal that the agreement test asks for
pub record Ours (s : State) : Type 0 where
  pub office : s.own < 16
  pub has_its : (s.mode ≡ None → ⊥) → Agreeing s s.own

pub record Awaits (s : State) : Type 0 where
  pub unmet : (s.mode ≡ None → ⊥) → seated s ≡ true → agreed s ≡ false
  pub own_has : (s.mode ≡ None → ⊥) → seated s ≡ true → Agreeing s s.own

-- what is stored for an office agrees: by its parts, and as before where nothing that counts changed
slot_agrees : (t : State) (o : ℕ) (p : Proposal) → stored_at t o ≡ keeping p → p.kind ≡ kind_of t.mode
    → p.members.bits ≡ t.net.bits
    → p.number ≡ t.number → Agreeing t o
slot_agrees t o p q k m n = record {
  is_there = ap (λ (v : Slot). v.present) q;
  of_kind = ap (λ (v : Slot). v.proposal.kind) q ∙ k;
  same_members = ap (λ (v : Slot). v.proposal.members.bits) q ∙ m;
  own_number_lem = λ e. ap (λ (v : Slot). v.proposal.number) q ∙ n;
}

agreeing_kept : (s t : State) (o : ℕ) → stored_at t o ≡ stored_at s o → t.mode ≡ s.mode → t.net.bits ≡ s.net.bits
    → t.number ≡ s.number
    → Agreeing s o → Agreeing t o
agreeing_kept s t o q m x n h = record {
  is_there = ap (λ (v : Slot). v.present) q ∙ h.is_there;
  of_kind = ap (λ (v : Slot). v.proposal.kind) q ∙ h.of_kind ∙ ap kind_of (sym m);
  same_members = ap (λ (v : Slot). v.proposal.members.bits) q ∙ h.same_members ∙ sym x;
  own_number_lem = λ e. ap (λ (v : Slot). v.proposal.number) q ∙ h.own_number_lem (sym m ∙ e) ∙ sym n;
}

-- a proposal made
ours_proposed : (m : Mode) (n : ℕ) (s : State) → s.own < 16 → Ours (proposed m n s)
ours_proposed m n s l =
    let r = proposed_reads s m n in
    let h = made_is s m n in
    let q = r.stored_is s.own l ∙ upd_same (stored_at s) s.own (keeping (own_proposal m n s)) in
    record {
      office = rw r.own_is l;
      has_its = λ b. subst (Agreeing (proposed m n s)) (sym r.own_is)
          (slot_agrees (proposed m n s) s.own (own_proposal m n s) q (h.1 ∙ ap kind_of (sym r.mode_is))
          (h.2 ∙ sym r.net_is) (h.4 ∙ sym r.number_is));
    }

ours_slow : (s : State) → s.own < 16 → (m : Mode) → Ours (proposes_slow (begins_in m s).state).state
unfolding proposes_slow opens opened
ours_slow s l None = ours_proposed Slow _ (opened s) l
ours_slow s l Fast = ours_proposed Slow _ s l
ours_slow s l Slow = ours_proposed Slow _ s l

-- the two tests
stages : Tested (λ o. Ours o.state) (λ o. Ours o.state) (λ o. Awaits o.state)
unfolding and_then
stages = record {
  called = λ o h e. ours_slow o.state h.office o.state.mode;
  uncalled = λ o h e. h;
  agrees = λ o h e.
      let none = (concluded_reads o.state).mode_is in
      record { unmet = λ b v. absurd (b none); own_has = λ b v. absurd (b none) };
  unagreed = λ o h e. record { unmet = λ b v. e; own_has = λ b v. h.has_its b };
}

report_awaits : (s : State) (r : Report) → s.own < 16 → Awaits s → Awaits (report_rule s r).state
report_awaits s r l k = staged_report stages s r (λ e. k)
    (λ e. record { unmet = λ b v. absurd (true_false _ v e); own_has = λ b v. absurd (true_false _ v e) })
    (λ e. unfold and_then opens opened with_net proposes_fast in
    ours_proposed Fast _ (opened (with_net s (net_after s.net.bits r))) l)

-- a proposal that passes the checks
module _ (s : State) (p : Proposal) (c : Passes s p) (l : s.own < 16) (k : Awaits s) where
  abbrev t : State
  t = received s p

  busy : (t.mode ≡ None → ⊥) → s.mode ≡ None → ⊥
  busy b e = b ((received_reads s p).mode_is ∙ e)

  seat : seated t ≡ true → seated s ≡ true
  unfolding seated
  seat v = rw ((received_reads s p).net_is, (received_reads s p).own_is) at v

  elsewhere : (o : ℕ) → o < 16 → (o ≡ p.sender → ⊥) → stored_at t o ≡ stored_at s o
  elsewhere o b n = (received_reads s p).stored_is o b ∙ upd_other (stored_at s) p.sender (keeping p) o n

  own_agrees : Agreeing s s.own → Agreeing t t.own
  own_agrees h =
      let r = received_reads s p in
      subst (Agreeing t) (sym r.own_is)
      (agreeing_kept s t s.own (elsewhere s.own l (λ q. c.other (sym q))) r.mode_is r.net_is
      r.number_is h)

  same_members : p.members.bits ≡ s.net.bits → Ours t
  unfolding seated
  same_members e = record {
    office = rw (received_reads s p).own_is l;
    has_its = λ b. own_agrees (k.own_has (busy b) (rw e at c.own_seat));
  }

  -- with other members nobody agrees who did not: the sender does not, and the others are as they were
  still_unmet : (p.members.bits ≡ s.net.bits → ⊥) → agreed s ≡ false → AllAgree t → ⊥
  still_unmet d e a = go (serves s.net.bits p.sender) refl
    where
      go : (b : Bool) → serves s.net.bits p.sender ≡ b → ⊥
      go true v =
          let r = received_reads s p in
          let q = r.stored_is p.sender c.sender ∙ upd_same (stored_at s) p.sender (keeping p) in
          d (sym (ap (λ (v : Slot). v.proposal.members.bits) q)
          ∙ (a.every p.sender c.sender (rw r.net_is v)).same_members ∙ r.net_is)
      go false v = true_false _ (agreed_in
          s (record { busy = λ m. a.busy ((received_reads s p).mode_is ∙ m); every = others })) e
        where
          others : (o : ℕ) → o < 16 → serves s.net.bits o ≡ true → Agreeing s o
          others o b w =
              let r = received_reads s p in
              let n : o ≡ p.sender → ⊥ = λ q. true_false _ (rw q at w) v in
              agreeing_kept t s o (sym (elsewhere o b n)) (sym r.mode_is) (sym r.net_is) (sym r.number_is)
              (a.every o b (rw r.net_is w))

  other_members : (p.members.bits ≡ s.net.bits → ⊥) → Awaits t
  other_members d = record {
    unmet = λ b v. go (agreed t) refl (still_unmet d (k.unmet (busy b) (seat v)));
    own_has = λ b v. own_agrees (k.own_has (busy b) (seat v));
  }
    where
      go : (b : Bool) → agreed t ≡ b → (AllAgree t → ⊥) → agreed t ≡ false
      go true e n = absurd (n (agreed_out t e))
      go false e n = e

  proposal_awaits : Awaits (proposal_rule s p).state
  proposal_awaits = staged_proposal stages s p other_members same_members

-- every accepted event
pub event_awaits : (s : State) (e : Event) → s.own < 16 → refusal_of s e ≡ 0 → Awaits s → Awaits (rule_of s e).state
event_awaits s (a_report r) l z k = report_awaits s r l k
event_awaits s (a_proposal p) l z k = proposal_awaits s p (check_facts s p z) l k
