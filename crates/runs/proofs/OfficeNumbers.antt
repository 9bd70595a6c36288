-- The numbers of an office's stored proposals over a step: what is stored for an office stays, goes, or is replaced
-- by a proposal with a number above the last one known of that office.
use mathlib.Core.Path.{◌≡◌, refl, ap, ◌∙◌}
use mathlib.Core.Bool.{Bool, true, false}
use Prim.Native.Nat.{ℕ, ◌≤◌, ◌<◌}
use native.Mathlib.Omega.{arith}
use native.Mathlib.Nat.{le_refl, le_trans, le_of_lt}
use native.Mathlib.Decide.{ℕ_discrete}
use lib.Dec.{eqb}
use borrow.Author.Tests.{eq-eqb, ne_eqb}
use Rattle.laws.proofs.Fin.{if_cases}
use Rattle.laws.specs.Upd.{ifb, upd}
use Rattle.laws.proofs.Upd.{upd_same, upd_other, upd_cases}
use Rattle.seats.specs.Offices.{serves}
use Rattle.records.specs.declared.Proposal.{Proposal}
use Rattle.records.specs.declared.View.{View}
use Rattle.rules.specs.State.{Mode, Slot, State, keeping, nothing, stored_at, accepted_at}
use Rattle.rules.specs.Rules.{in_slot, with_net, opened, own_proposal, proposed, received, concluded}
use Rattle.rule_laws.proofs.Parts.{Reads, proposed_reads, received_reads, concluded_reads}

-- the last number known of office o: the own proposal number, and of another office the number last accepted from it
unfoldable pub last_of : State → ℕ → ℕ
last_of s o = ifb (eqb o s.own) s.number (accepted_at s o)

-- what is stored for office o in t, after s
pub data SlotAfter (s t : State) (o : ℕ) : Type 0 where
  same : stored_at t o ≡ stored_at s o → SlotAfter s t o
  empty : (stored_at t o).present ≡ false → SlotAfter s t o
  newer : last_of s o < (in_slot t o).number → (in_slot t o).number ≤ last_of t o → SlotAfter s t o

pub record Renews (s t : State) : Type 0 where
  pub own : t.own ≡ s.own
  pub last : (o : ℕ) → o < 16 → last_of s o ≤ last_of t o
  pub slot : (o : ℕ) → o < 16 → SlotAfter s t o

pub renews_none : (s : State) → Renews s s
renews_none s = record { own = refl; last = λ o l. le_refl _; slot = λ o l. same refl }

pub renews_then : {s t u : State} → Renews s t → Renews t u → Renews s u
renews_then {s} {t} {u} a b = record {
  own = b.own ∙ a.own;
  last = λ o l. le_trans (a.last o l) (b.last o l);
  slot = λ o l. go o l (a.slot o l) (b.slot o l);
}
  where
    go : (o : ℕ) → o < 16 → SlotAfter s t o → SlotAfter t u o → SlotAfter s u o
    go o l x (empty e) = empty e
    go o l x (newer n m) = let k = a.last o l in newer (omega arith) m
    go o l (same d) (same e) = same (e ∙ d)
    go o l (empty d) (same e) = empty (rw e d)
    go o l (newer n m) (same e) =
        let k = b.last o l in
        let q = ap (λ (v : Slot). v.proposal.number) e in
        newer (omega arith) (omega arith)

-- the last number known, by the parts of a state
last_is : {t : State} {own : ℕ} {mode : Mode} {net : ℕ} {stored : ℕ → Slot} {accepted : ℕ
    → ℕ} {view : View} {start number : ℕ} {used : ℕ → ℕ}
    → Reads t own mode net stored accepted view start number used → (o : ℕ) → o < 16
    → last_of t o ≡ ifb (eqb o own) number (accepted o)
unfolding last_of
last_is {t} r o l = rw (r.own_is, r.number_is, r.accepted_is o l)

module _ (s : State) where
  pub renews_net : (x : ℕ) → Renews s (with_net s x)
  unfolding with_net last_of
  renews_net x = record { own = refl; last = λ o l. le_refl _; slot = λ o l. same refl }

  pub renews_opened : Renews s (opened s)
  unfolding opened last_of
  renews_opened = record { own = refl; last = λ o l. le_refl _; slot = λ o l. same refl }

  -- one proposal is new, with a number above the last one known of its office
  one_newer : (t : State) (i : ℕ) (p : Proposal) → t.own ≡ s.own
      → ((o : ℕ) → o < 16 → stored_at t o ≡ upd (stored_at s) i (keeping p) o)
      → ((o : ℕ) → o < 16 → last_of t o ≡ upd (last_of s) i p.number o) → last_of s i < p.number → Renews s t
  one_newer t i p own st la h = record {
    own = own;
    last = λ o l. rw (la o l)
        (upd_cases (λ (k n : ℕ). last_of s k ≤ n) (last_of s) i p.number o (le_of_lt h) (λ d. le_refl _));
    slot = λ o l. go o l (ℕ_discrete o i);
  }
    where
      go : (o : ℕ) → o < 16 → Dec (o ≡ i) → SlotAfter s t o
      go o l (yes e) =
          let v = ap (λ (v : Slot). v.proposal.number) (st o l ∙ ap (upd (stored_at s) i (keeping p)) e
          ∙ upd_same (stored_at s) i (keeping p)) in
          let n = la o l ∙ ap (upd (last_of s) i p.number) e ∙ upd_same (last_of s) i p.number in
          let k = ap (last_of s) e in
          newer (omega arith) (omega arith)
      go o l (no n) = same (st o l ∙ upd_other (stored_at s) i (keeping p) o n)

  -- a proposal made: its number is above the own one
  pub renews_proposed : (m : Mode) (n : ℕ) → s.number < n → Renews s (proposed m n s)
  unfolding own_proposal
  renews_proposed m n h =
      let r = proposed_reads s m n in
      one_newer (proposed m n s) s.own (own_proposal m n s) r.own_is r.stored_is (λ o l. last_is r o l ∙ go o)
      (rw own_last h)
    where
      own_last : last_of s s.own ≡ s.number
      own_last = unfold last_of in rw (eq-eqb s.own s.own refl)

      go : (o : ℕ) → ifb (eqb o s.own) n (accepted_at s o) ≡ upd (last_of s) s.own n o
      go o = unfold last_of upd in both (eqb o s.own)
        where
          both : (b : Bool) → ifb b n (accepted_at s o) ≡ ifb b n (ifb b s.number (accepted_at s o))
          both true = refl
          both false = refl

  -- a proposal of another office accepted: its number is above the last accepted
  pub renews_received : (p : Proposal) → (p.sender ≡ s.own → ⊥) → accepted_at s p.sender < p.number
      → Renews s (received s p)
  renews_received p d h =
      let r = received_reads s p in
      one_newer (received s p) p.sender p r.own_is r.stored_is (λ o l. last_is r o l
      ∙ go o (ℕ_discrete o p.sender)) (rw other_last h)
    where
      other_last : last_of s p.sender ≡ accepted_at s p.sender
      other_last = unfold last_of in rw (ne_eqb p.sender s.own d)

      go : (o : ℕ) → Dec (o ≡ p.sender)
          → ifb (eqb o s.own) s.number (upd (accepted_at s) p.sender p.number o) ≡ upd (last_of s)
          p.sender p.number o
      go o (yes e) = rw (
        e,
        ne_eqb p.sender s.own d,
        upd_same (accepted_at s) p.sender p.number,
        upd_same (last_of s) p.sender p.number,
      )
      go o (no n) = unfold last_of in
          rw (upd_other (accepted_at s) p.sender p.number o n, upd_other (last_of s) p.sender p.number o n)

  -- a view: what it counted is gone
  pub renews_concluded : Renews s (concluded s)
  renews_concluded =
      let r = concluded_reads s in
      record {
        own = r.own_is;
        last = λ o l. unfold last_of in rw (last_is r o l) (le_refl _);
        slot = λ o l. if_cases (λ (v : Slot). stored_at (concluded s) o ≡ v → SlotAfter s (concluded s) o)
            (serves s.net.bits o) nothing (stored_at s o)
            (λ e q. empty (rw q)) (λ e q. same q) (r.stored_is o l);
      }
