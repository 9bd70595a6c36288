-- One office's state and its place in the arrays: each part of an event does the same to both.
use mathlib.Core.Path.{◌≡◌, sym, ap, ◌∙◌}
use mathlib.Core.List.{List}
use Prim.Native.Nat.{ℕ, ◌<◌}
use Rattle.laws.specs.Upd.{ifb, upd, upd2}
use Rattle.laws.proofs.Upd.{upd_same, upd_agree}
use Rattle.seats.specs.Offices.{serves}
use Rattle.records.specs.declared.Proposal.{Proposal}
use Rattle.rules.specs.State.{Mode, None, State, nothing, keeping, stored_at, accepted_at, used_at, number_in}
use Rattle.rules.specs.Rules.{with_net, opened, own_proposal, proposed, received, concluded}
use Rattle.rule_laws.proofs.Parts.{with_net_reads, opened_reads, proposed_reads, received_reads, concluded_reads}
use Rattle.rule_laws.proofs.Parts.{made_is}
use Rattle.runs.specs.World.{Item}
use Rattle.laws.proofs.Grid.{row_same}
use Rattle.runs.proofs.Arrays.{Offices, renet, propose, receive, conclude}

-- the state s is what the arrays say of office me
pub record Sim (s : State) (g : Offices) (me : ℕ) : Type 0 where
  pub own : s.own ≡ me
  pub num : s.number ≡ g.num me
  pub mode : s.mode ≡ g.mode me
  pub net : s.net.bits ≡ g.net me
  pub stored : (o : ℕ) → o < 16 → stored_at s o ≡ g.stored me o
  pub acc : (o : ℕ) → o < 16 → accepted_at s o ≡ g.acc me o
  pub used : (o : ℕ) → o < 16 → used_at s o ≡ g.used me o

module _ (s : State) (g : Offices) (me : ℕ) (h : Sim s g me) where
  pub sim_renet : (x : ℕ) → Sim (with_net s x) (renet g me x) me
  unfolding renet
  sim_renet x =
      let r = with_net_reads s x in
      record {
        own = r.own_is ∙ h.own;
        num = r.number_is ∙ h.num;
        mode = r.mode_is ∙ h.mode;
        net = r.net_is ∙ sym (upd_same g.net me x);
        stored = λ o lt. r.stored_is o lt ∙ h.stored o lt;
        acc = λ o lt. r.accepted_is o lt ∙ h.acc o lt;
        used = λ o lt. r.used_is o lt ∙ h.used o lt;
      }

  pub sim_open : Sim (opened s) g me
  sim_open =
      let r = opened_reads s in
      record {
        own = r.own_is ∙ h.own;
        num = r.number_is ∙ h.num;
        mode = r.mode_is ∙ h.mode;
        net = r.net_is ∙ h.net;
        stored = λ o lt. r.stored_is o lt ∙ h.stored o lt;
        acc = λ o lt. r.accepted_is o lt ∙ h.acc o lt;
        used = λ o lt. r.used_is o lt ∙ h.used o lt;
      }

  -- an entry of the own row, changed at the place of office i
  row : {A : Type 0} (f : ℕ → A) (r : ℕ → ℕ → A) (i : ℕ) (v : A) (o : ℕ) → f o ≡ r me o
      → upd f i v o ≡ upd2 r me i v me o
  row f r i v o e = upd_agree f (r me) i v o e ∙ sym (row_same r me (upd (r me) i v) o)

  pub sim_propose : (m : Mode) (n t : ℕ) → Sim (proposed m n s) (propose g me m (own_proposal m n s) t) me
  unfolding propose
  sim_propose m n t =
      let r = proposed_reads s m n in
      let p = own_proposal m n s in
      record {
        own = r.own_is ∙ h.own;
        num = r.number_is ∙ sym (upd_same g.num me p.number ∙ (made_is s m n).4);
        mode = r.mode_is ∙ sym (upd_same g.mode me m);
        net = r.net_is ∙ h.net;
        stored = λ o lt. r.stored_is o lt ∙ ap (λ (k : ℕ). upd (stored_at s) k (keeping p) o) h.own
            ∙ row (stored_at s) g.stored me (keeping p) o (h.stored o lt);
        acc = λ o lt. r.accepted_is o lt ∙ h.acc o lt;
        used = λ o lt. r.used_is o lt ∙ h.used o lt;
      }

  pub sim_receive : (p : Proposal) (l : List Item) → Sim (received s p) (receive g me p.sender p l) me
  unfolding receive
  sim_receive p l =
      let r = received_reads s p in
      record {
        own = r.own_is ∙ h.own;
        num = r.number_is ∙ h.num;
        mode = r.mode_is ∙ h.mode;
        net = r.net_is ∙ h.net;
        stored = λ o lt. r.stored_is o lt ∙ row (stored_at s) g.stored p.sender (keeping p) o (h.stored o lt);
        acc = λ o lt. r.accepted_is o lt ∙ row (accepted_at s) g.acc p.sender p.number o (h.acc o lt);
        used = λ o lt. r.used_is o lt ∙ h.used o lt;
      }

  pub sim_conclude : (t : ℕ) → Sim (concluded s) (conclude g me t) me
  unfolding conclude
  sim_conclude t =
      let r = concluded_reads s in
      record {
        own = r.own_is ∙ h.own;
        num = r.number_is ∙ h.num;
        mode = r.mode_is ∙ sym (upd_same g.mode me None);
        net = r.net_is ∙ h.net;
        stored = λ o lt. r.stored_is o lt ∙ stored_agree o lt
            ∙ sym (ap (λ f. f o) (upd_same g.stored me (λ o. ifb (serves (g.net me) o) nothing (g.stored me o))));
        acc = λ o lt. r.accepted_is o lt ∙ h.acc o lt;
        used = λ o lt. r.used_is o lt ∙ used_agree o lt
            ∙ sym (ap (λ f. f o)
            (upd_same g.used me (λ o. ifb (serves (g.net me) o) (number_in (g.stored me o)) (g.used me o))));
      }
    where
      stored_agree : (o : ℕ) → o < 16
          → ifb (serves s.net.bits o) nothing (stored_at s o) ≡ ifb (serves (g.net me) o) nothing (g.stored me o)
      stored_agree o lt = rw (h.net, h.stored o lt)

      used_agree : (o : ℕ) → o < 16
          → ifb (serves s.net.bits o) (number_in (stored_at s o)) (used_at s o) ≡ ifb (serves (g.net me) o)
          (number_in (g.stored me o)) (g.used me o)
      used_agree o lt = rw (h.net, h.stored o lt, h.used o lt)
