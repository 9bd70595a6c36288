-- What the two tests leave behind at an office, and that a used number that is current has not arrived: kept by every
-- event.
use mathlib.Core.Path.{◌≡◌, refl, sym, ap, ◌∙◌, subst}
use mathlib.Core.Bool.{true, false}
use mathlib.Core.Logic.{◌⊎◌, inl, inr}
use mathlib.Core.List.{List, [], ◌∷◌, ◌++◌}
use Prim.Native.Nat.{ℕ, zero, suc, ◌+◌, ◌≤◌, ◌<◌}
use native.Mathlib.Omega.{arith}
use native.Mathlib.Decide.{ℕ_discrete, dec_lt}
use lib.ListN.{length, get_or}
use lib.Dec.{eqb}
use borrow.Author.Tests.{ne_eqb}
use Rattle.laws.specs.Upd.{ifb, upd, upd2}
use Rattle.laws.proofs.Upd.{upd_same, upd_other}
use Rattle.laws.proofs.Fin.{if_cases}
use Rattle.seats.specs.Offices.{serves}
use Rattle.records.specs.declared.Proposal.{Proposal}
use Rattle.rules.specs.State.{Mode, None, Fast, Slow, Slot, slow, kind_of, nothing, keeping, used_for}
use Rattle.runs.specs.World.{Item, without}
use Rattle.laws.proofs.Grid.{upd2_same, upd2_other}
use Rattle.runs.proofs.Links.{snoc_not_nil, snoc_tail}
use Rattle.runs.proofs.Arrays.{restart, Offices, mail_to, renet, propose, receive, conclude, relink, Match, other}
use Rattle.runs.proofs.Arrays.{Proposes, Silent, Chosen, joins, starts, Agreed}
use Rattle.runs.proofs.Arrays.{SlowTest, not_called, called, AgreementTest, not_agreed, agreed, Tests, both, Arrives}
use Rattle.settling.specs.Statement.{OfA}
use Rattle.settling.proofs.Invariants.{Done, NoLast, Reported, Losing, HappensFairly, fair_idle, fair_loss}
use Rattle.settling.proofs.Invariants.{fair_cut, fair_leave, fair_report, fair_store, fair_answer}
use Rattle.settling.proofs.Invariants.{Place, on_its_way, is_stored, counted, Core, AfterTests, Inv}
use Rattle.settling.proofs.LastProposal.{later}
use Rattle.settling.proofs.Core.{none_done, core_later, core_receive, core_report, core_acts}

-- where one item taken leaves nothing, it was the last
without_nil : (n : ℕ) (l : List Item) (x : Item) → without n (l ++ (x ∷ [])) ≡ []
    → (n < length (l ++ (x ∷ []))) × (get_or (l ++ (x ∷ [])) n x ≡ x)
without_nil zero [] x e = (omega arith, refl)
without_nil (suc n) [] x e = let z : ◌≡◌ {A = ℕ} 0 1 = cc in absurd (omega arith)
without_nil zero (y ∷ l) x e = absurd (snoc_not_nil l x e)
without_nil (suc n) (y ∷ l) x e = let z : ◌≡◌ {A = ℕ} 0 1 = cc in absurd (omega arith)

-- h has at office i what the tests look at in g
record Like (g h : Offices) (i : ℕ) : Type 0 where
  of_mode : h.mode i ≡ g.mode i
  of_net : h.net i ≡ g.net i
  of_num : h.num i ≡ g.num i
  of_stored : (o : ℕ) → Match h i o → h.stored i o ≡ g.stored i o

module _ {g h : Offices} {i : ℕ} (k : Like g h i) where
  like_match : (o : ℕ) → Match h i o → Match g i o
  like_match o m =
      let e = k.of_stored o m in
      let n = k.of_net in
      (sym (ap (λ s. s.present) e) ∙ m.0, sym (ap (λ s. s.proposal.members.bits) e) ∙ m.1 ∙ n)

  like_agreed : Agreed h i → Agreed g i
  like_agreed a =
      record {
        busy = λ e. a.busy (k.of_mode ∙ e);
        every =
            λ o l s.
            let b = a.every o l (rw k.of_net s) in
            let e = k.of_stored o b.0 in (
              like_match o b.0,
              sym (ap (λ s. s.proposal.kind) e) ∙ b.1 ∙ ap kind_of k.of_mode,
              λ m. sym (ap (λ s. s.proposal.number) e) ∙ b.2 (k.of_mode ∙ m) ∙ k.of_num,
            );
      }

  like_silent : Silent g i → Silent h i
  like_silent s =
      record {
        busy = λ e. s.busy (sym k.of_mode ∙ e);
        no_slow =
            λ m o l n q r. s.no_slow (sym k.of_mode ∙ m) o l n (like_match o q)
            (sym (ap (λ s. s.proposal.kind) (k.of_stored o q)) ∙ r);
        not_used =
            λ o l n q r.
            s.not_used o l n (like_match o q) (sym (ap (λ s. used_for s.proposal i) (k.of_stored o q)) ∙ r
            ∙ k.of_num);
        not_above_lem =
            λ m o l n q r.
            let e = ap (λ s. s.proposal.number) (k.of_stored o q) in
            let f = k.of_num in
            let b = s.not_above_lem (sym k.of_mode ∙ m) o l n (like_match o q)
            (sym (ap (λ s. s.proposal.kind) (k.of_stored o q)) ∙ r) in
            omega arith;
      }

-- where the last reports before u have come
module _ (A : ℕ) (last : ℕ → ℕ) (u : ℕ) where
  like_tested : {g h : Offices} {i : ℕ} → Like g h i → AfterTests g i → AfterTests h i
  like_tested k s =
      record {
        in_mode_none = λ e o l n m. s.in_mode_none (sym k.of_mode ∙ e) o l n (like_match k o m);
        quiet = λ b. like_silent k (s.quiet (λ e. b (k.of_mode ∙ e)));
        not_agreed = λ a. s.not_agreed (like_agreed k a);
      }

  -- the tests have been run at the offices other than me, where their last reports have come
  abbrev Others : Offices → ℕ → Type 0
  Others g me = (i : ℕ) → (i ≡ me → ⊥) → Done A last u i → AfterTests g i

  renet_others : (g : Offices) (me x : ℕ) → Others g me → Others (renet g me x) me
  unfolding renet
  renet_others g me x f i n d =
      like_tested (record {
        of_mode = refl;
        of_net = upd_other g.net me x i n;
        of_num = refl;
        of_stored = λ o m. refl;
      }) (f i n d)

  propose_others : (g : Offices) (me : ℕ) (m : Mode) (p : Proposal) (t : ℕ) → Others g me
      → Others (propose g me m p t) me
  unfolding propose
  propose_others g me m p t f i n q =
      like_tested
      (record {
        of_mode = upd_other g.mode me m i n;
        of_net = refl;
        of_num = upd_other g.num me p.number i n;
        of_stored = λ o r. upd2_other g.stored me me (keeping p) i o (λ e k. n e);
      })
      (f i n q)

  receive_others : (g : Offices) (me j : ℕ) (p : Proposal) (l : List Item) → Others g me
      → Others (receive g me j p l) me
  unfolding receive
  receive_others g me j p l f i n q =
      like_tested
      (record {
        of_mode = refl;
        of_net = refl;
        of_num = refl;
        of_stored = λ o r. upd2_other g.stored me j (keeping p) i o (λ e k. n e);
      })
      (f i n q)

  conclude_others : (g : Offices) (me t : ℕ) → Others g me → Others (conclude g me t) me
  unfolding conclude
  conclude_others g me t f i n q =
      like_tested
      (record {
        of_mode = upd_other g.mode me None i n;
        of_net = refl;
        of_num = refl;
        of_stored = λ o r. ap (λ s. s o) (upd_other g.stored me _ i n);
      })
      (f i n q)

  slow_others : {t me : ℕ} {g h : Offices} → SlowTest t me g h → Others g me → Others h me
  slow_others {t} {me} {g} (not_called s) f = f
  slow_others {t} {me} {g} (called p c q r) f = propose_others g me Slow p t f

  agreement_others : {t me : ℕ} {g h : Offices} → AgreementTest t me g h → Others g me → Others h me
  agreement_others (not_agreed n) f = f
  agreement_others {t} {me} {g} (agreed a) f = conclude_others g me t f

  tests_others : {t me : ℕ} {g h : Offices} → Tests t me g h → Others g me → Others h me
  tests_others (both s a) f = agreement_others a (slow_others s f)

  -- what is stored for another office has a seat of that office
  abbrev Seated : Offices → ℕ → Type 0
  Seated g me = (o : ℕ) → o < 16 → (o ≡ me → ⊥) → (g.stored me o).present ≡ true
      → serves (other g me o).members.bits o ≡ true

  -- after the slow test of an office me of A whose last report has come, it is silent
  module _ {g : Offices} (c : Core A last u g) {me : ℕ} (a : OfA A me) where
    of_a : (o : ℕ) → last me < u → o < 16 → (o ≡ me → ⊥) → Match g me o → OfA A o
    of_a o e l n m = (l, rw (← c.book.net_a me (a, e), ← m.1) (c.numbers.with_seat me o a l n m.0))

    chosen_above : (n : ℕ) → g.num me < n → Chosen g me n → (o : ℕ) → o < 16 → (o ≡ me → ⊥) → Match g me o
        → (other g me o).kind ≡ slow
        → (other g me o).number ≤ n
    chosen_above n b r o l q m k = go (dec_lt (g.num me) (other g me o).number) r
      where
        go : Dec (g.num me < (other g me o).number) → Chosen g me n → (other g me o).number ≤ n
        go (yes j) (joins x y e f) = f o (l, q, m, k, j)
        go (yes j) (starts f) = absurd (f o (l, q, m, k, j))
        go (no j) r = omega arith

    propose_silent : (p : Proposal) (t : ℕ) → last me < u → Proposes g me slow p → Chosen g me p.number
        → Silent (propose g me Slow p t) me
    unfolding propose
    propose_silent p t e q r =
        record {
          busy = λ x. let z : ◌≡◌ {A = ℕ} 0 1 = cc (upd_same g.mode me Slow) in omega arith;
          no_slow = λ x. let z : ◌≡◌ {A = ℕ} 0 1 = cc (upd_same g.mode me Slow) in absurd (omega arith);
          not_used =
              λ o l n m u.
              let b = c.numbers.kept_used o me (of_a o e l n (match o n m)) a n (match o n m).0 in
              let v : used_for (other g me o) me ≡ p.number = sym (ap (λ s. used_for s.proposal me) (same o n)) ∙ u
              ∙ num in
              let w = q.above in
              omega arith;
          not_above_lem =
              λ x o l n m k.
              let b = chosen_above p.number q.above r o l n (match o n m)
              (sym (ap (λ s. s.proposal.kind) (same o n)) ∙ k) in
              let v = ap (λ s. s.proposal.number) (same o n) in
              let w = num in
              omega arith;
        }
      where
        num : upd g.num me p.number me ≡ p.number
        num = upd_same g.num me p.number

        same : (o : ℕ) → (o ≡ me → ⊥) → upd2 g.stored me me (keeping p) me o ≡ g.stored me o
        same o n = upd2_other g.stored me me (keeping p) me o (λ x. n)

        match : (o : ℕ) → (o ≡ me → ⊥) → Match (propose g me Slow p t) me o → Match g me o
        match o n m = (
          sym (ap (λ s. s.present) (same o n))
              ∙ m.0,
          sym (ap (λ s. s.proposal.members.bits) (same o n)) ∙ m.1,
        )

    slow_silent : {t : ℕ} {h : Offices} → SlowTest t me g h → last me < u → Silent h me
    slow_silent (not_called s) e = s
    slow_silent {t} (called p k q r) e = propose_silent p t e q r

    slow_seated : {t : ℕ} {h : Offices} → SlowTest t me g h → Seated h me
    unfolding propose
    slow_seated (not_called s) o l n = c.numbers.with_seat me o a l n
    slow_seated (called p k q r) o l n =
        subst (λ (s : Slot). s.present ≡ true → serves s.proposal.members.bits o ≡ true)
        (sym (upd2_other g.stored me me (keeping p) me o (λ x. n))) (c.numbers.with_seat me o a l n)

  conclude_tested : (g : Offices) (me t : ℕ) → Seated g me → AfterTests (conclude g me t) me
  unfolding conclude
  conclude_tested g me t f =
      record {
        in_mode_none =
            λ x o l n m.
            let e = ap (λ s. s o)
            (upd_same g.stored me (λ o. ifb (serves (g.net me) o) nothing (g.stored me o))) in
            empty o l n (sym (ap (λ s. s.present) e) ∙ m.0) (sym (ap (λ s. s.proposal.members.bits) e) ∙ m.1);
        quiet = λ x. absurd (x none);
        not_agreed = λ x. x.busy none;
      }
    where
      none : upd g.mode me None me ≡ None
      none = upd_same g.mode me None

      No : Slot → Type 0
      No s = s.present ≡ true → s.proposal.members.bits ≡ g.net me → ⊥

      empty : (o : ℕ) → o < 16 → (o ≡ me → ⊥) → No (ifb (serves (g.net me) o) nothing (g.stored me o))
      empty o l n =
          if_cases No (serves (g.net me) o) nothing (g.stored me o)
          (λ s q r. let z : ◌≡◌ {A = ℕ} 0 1 = cc in omega arith)
          (λ s q r. let y = f o l n q in let z : ◌≡◌ {A = ℕ} 0 1 = cc in omega arith)

  -- after both tests
  agreement_tested : {t me : ℕ} {g h : Offices} → Silent g me → Seated g me → AgreementTest t me g h → AfterTests h me
  agreement_tested q f (not_agreed n) =
      record { in_mode_none = λ m. absurd (q.busy m); quiet = λ b. q; not_agreed = n }
  agreement_tested {t} {me} {g} q f (agreed b) = conclude_tested g me t f

  tests_tested : {t me : ℕ} {g h : Offices} → Core A last u g → OfA A me → last me < u → Tests t me g h
      → AfterTests h me
  tests_tested c a e (both s b) = agreement_tested (slow_silent c a s e) (slow_seated c a s) b

  -- a used number of i's last proposal that is j's current number has not arrived
  abbrev Late : Offices → ℕ → ℕ → Type 0
  Late g i j = Done A last u i → Done A last u j → (i ≡ j → ⊥) → used_for (g.made i) j ≡ g.num j → g.link i j ≡ []
      → ⊥

  propose_late : (g : Offices) (me : ℕ) (m : Mode) (p : Proposal) (t : ℕ) {kind : ℕ} → Proposes g me kind p
      → (last me < u → g.net me ≡ A) → ((i : ℕ) → (i ≡ me → ⊥) → Done A last u i → used_for (g.made i) me ≤ g.num me)
      → ((i j : ℕ) → (i ≡ me → ⊥) → (j ≡ me → ⊥) → Late g i j) → (i j : ℕ) → Late (propose g me m p t) i j
  unfolding propose
  propose_late g me m p t q net below f i j = go (ℕ_discrete i me) (ℕ_discrete j me)
    where
      -- it is on its way to all others
      out : (j : ℕ) → Late (propose g me m p t) me j
      out j di dj n v k =
          let e : serves p.members.bits j ≡ true = rw (q.of_net, net di.1) dj.0.1 in
          let s : eqb j p.sender ≡ false = ne_eqb j p.sender (λ z. n (sym q.from ∙ sym z)) in
          let w : mail_to t p j ≡ record { proposal = p; sent = t } ∷ [] = rw (e, s) in
          let y = ap (λ f. f j) (upd_same g.link me (λ j. g.link me j ++ mail_to t p j)) in
          snoc_not_nil (g.link me j) (record { proposal = p; sent = t }) (rw w at (sym y ∙ k))

      -- its number is above what the others have used
      into : (i : ℕ) → (i ≡ me → ⊥) → Late (propose g me m p t) i me
      into i n di dj x v k =
          let b = below i n di in
          let y = ap (λ s. used_for s me) (upd_other g.made me p i n) in
          let e : used_for (g.made i) me ≡ p.number = sym y ∙ v ∙ upd_same g.num me p.number in
          let w = q.above in
          omega arith

      rest : (i ≡ me → ⊥) → (j ≡ me → ⊥) → Late (propose g me m p t) i j
      rest n r di dj x v k =
          f i j n r di dj x
          (ap (λ s. used_for s j) (sym (upd_other g.made me p i n)) ∙ v ∙ upd_other g.num me p.number j r)
          (ap (λ s. s j) (sym (upd_other g.link me (λ j. g.link me j ++ mail_to t p j) i n)) ∙ k)

      go : Dec (i ≡ me) → Dec (j ≡ me) → Late (propose g me m p t) i j
      go (yes e) r = rw e (out j)
      go (no n) (yes e) = rw e (into i n)
      go (no n) (no r) = rest n r

  conclude_late : (g : Offices) (me t : ℕ) → ((i j : ℕ) → Late g i j) → (i j : ℕ) → Late (conclude g me t) i j
  unfolding conclude
  conclude_late g me t f = f

  -- a proposal that arrives may be the last of its sender; the other links stay
  receive_late : (g : Offices) (me o : ℕ) (p : Proposal) (l : List Item) → ((i j : ℕ) → Late g i j)
      → (i j : ℕ) → (i ≡ o → j ≡ me → ⊥) → Late (receive g me o p l) i j
  unfolding receive
  receive_late g me o p l f i j n di dj x u k = f i j di dj x u (sym (upd2_other g.link o me l i j n) ∙ k)

  -- what leaves its link empty is the last proposal of its sender
  last_arrives : (g : Offices) (me i : ℕ) (p : Proposal) (l : List Item) → Core A last u g
      → Arrives (serves A) g me i p l → Done A last u i → l ≡ []
      → p ≡ g.made i
  last_arrives g me i p l c r d e = go (c.book.place i me d r.at_office r.others)
    where
      x : (x : Item) × (g.link i me ≡ x ∷ l) × (x.proposal ≡ p)
      x = r.oldest d.0

      tail : (y : Item) → y.proposal ≡ g.made i → ((l ≡ []) × (y ≡ x.0)) ⊎ ((m : List Item) × (l ≡ m ++ (y ∷ [])))
          → p ≡ g.made i
      tail y w (inl s) = sym x.2 ∙ ap (λ v. v.proposal) (sym s.1) ∙ w
      tail y w (inr s) = absurd (snoc_not_nil s.0 y (sym s.1 ∙ e))

      nil : g.link i me ≡ [] → ⊥
      nil q = snoc_not_nil [] x.0 (ap (λ k. x.0 ∷ k) (sym e) ∙ sym x.1 ∙ q)

      go : Place A last g i me → p ≡ g.made i
      go (on_its_way k y q w s) = tail y w (snoc_tail k y x.0 l (sym q ∙ x.1))
      go (is_stored q s) = absurd (nil q)
      go (counted q s u) = absurd (nil q)

  -- a lost item is not the last proposal
  relink_late : (g : Offices) (o v place : ℕ) → Core A last u g → {t : ℕ} → Losing A last g o v place t
      → ((i j : ℕ) → Late g i j)
      → (i j : ℕ) → Late (relink g o v (without place (g.link o v))) i j
  unfolding relink
  relink_late g o v place c s f i j = go (ℕ_discrete i o) (ℕ_discrete j v)
    where
      h : Offices
      h = relink g o v (without place (g.link o v))

      empty : Done A last u o → Done A last u v → used_for (g.made o) v ≡ g.num v → without place (g.link o v) ≡ []
          → Place A last g o v → ⊥
      empty di dj u k (on_its_way l x q w b) =
          let y = without_nil place l x (rw q at k) in
          let z = s.early dj.0 x (rw q y.0) (rw q y.1) in
          omega arith
      empty di dj u k (is_stored q w) = f o v di dj s.others u q
      empty di dj u k (counted q w b) = f o v di dj s.others u q

      lost : Late h o v
      lost di dj n u k =
          empty di dj u (sym (upd2_same g.link o v (without place (g.link o v))) ∙ k)
          (c.book.place o v di dj.0 s.others)

      rest : (i ≡ o → j ≡ v → ⊥) → Late h i j
      rest n di dj x u k = f i j di dj x u (sym (upd2_other g.link o v (without place (g.link o v)) i j n) ∙ k)

      go : Dec (i ≡ o) → Dec (j ≡ v) → Late h i j
      go (yes e) (yes r) = rw (e, r) lost
      go (yes e) (no r) = rest (λ x. r)
      go (no e) r = rest (λ x y. e x)

  -- if the last proposal of its sender arrives, its used number for me is not current
  receive_last : (g : Offices) (me o : ℕ) (p : Proposal) (l : List Item) → Core A last u g
      → Arrives (serves A) g me o p l → ((i j : ℕ) → Late g i j)
      → (Done A last u o → Done A last u me → p ≡ g.made o → used_for p me ≡ g.num me → ⊥) → (i j : ℕ)
      → Late (receive g me o p l) i j
  unfolding receive
  receive_last g me o p l c r f w i j = go (ℕ_discrete i o) (ℕ_discrete j me)
    where
      heard : Late (receive g me o p l) o me
      heard di dj n u k =
          let e = last_arrives g me o p l c r di (sym (upd2_same g.link o me l) ∙ k) in
          w di dj e (ap (λ q. used_for q me) e ∙ u)

      go : Dec (i ≡ o) → Dec (j ≡ me) → Late (receive g me o p l) i j
      go (yes e) (yes q) = rw (e, q) heard
      go (yes e) (no q) = receive_late g me o p l f i j (λ x. q)
      go (no e) q = receive_late g me o p l f i j (λ x y. e x)

  -- a called slow test makes a proposal, so what was on the links to me before it does not matter
  slow_late : {t me : ℕ} {g h : Offices} → Core A last u g → OfA A me → SlowTest t me g h
      → ((i j : ℕ) → (j ≡ me → ⊥) → Late g i j)
      → (Silent g me → (i j : ℕ) → Late g i j) → (i j : ℕ) → Late h i j
  slow_late c a (not_called s) f w = w s
  slow_late {t} {me} {g} c a (called p k q r) f w =
      propose_late g me Slow p t q (λ e. c.book.net_a me (a, e)) (λ i n d. c.book.made_used i me d a n)
      (λ i j n. f i j)

  agreement_late : {t me : ℕ} {g h : Offices} → AgreementTest t me g h → ((i j : ℕ) → Late g i j)
      → (i j : ℕ) → Late h i j
  agreement_late (not_agreed n) f = f
  agreement_late {t} {me} {g} (agreed b) f = conclude_late g me t f

  tests_late : {t me : ℕ} {g h : Offices} → Core A last u g → OfA A me → Tests t me g h
      → ((i j : ℕ) → (j ≡ me → ⊥) → Late g i j)
      → (Silent g me → (i j : ℕ) → Late g i j) → (i j : ℕ) → Late h i j
  tests_late c a (both s b) f w = agreement_late b (slow_late c a s f w)

  -- the invariant after an event at office me
  at_office : {g : Offices} (me : ℕ) → Core A last u g → Others g me → (Done A last u me → AfterTests g me)
      → ((i j : ℕ) → Late g i j) → Inv A last u g
  at_office {g} me c f w n = record { core = c; tested = λ i. go i (ℕ_discrete i me); not_arrived = n }
    where
      go : (i : ℕ) → Dec (i ≡ me) → Done A last u i → AfterTests g i
      go i (yes e) = rw e w
      go i (no n) = f i n

  after_tests : {t me : ℕ} {g h : Offices} → Core A last u g → Core A last u h → OfA A me → Tests t me g h
      → Others g me
      → ((i j : ℕ) → (j ≡ me → ⊥) → Late g i j) → (Silent g me → (i j : ℕ) → Late g i j) → Inv A last u h
  after_tests {me = me} c k a s o f w =
      at_office me k (tests_others s o) (λ d. tests_tested c a d.1 s) (tests_late c a s f w)

  leaves_inv : (g : Offices) (me x : ℕ) → Inv A last u g → Core A last u (renet g me x) → u ≤ last me
      → Inv A last u (renet g me x)
  unfolding renet
  leaves_inv g me x v c e =
      at_office me c (renet_others g me x (λ i n. v.tested i)) (λ d. let l = d.1 in absurd (omega arith))
      v.not_arrived

  stores_inv : (g : Offices) (me o : ℕ) (p : Proposal) (l : List Item) → Inv A last u g
      → Core A last u (receive g me o p l) → Arrives (serves A) g me o p l
      → (p.members.bits ≡ g.net me → ⊥) → Inv A last u (receive g me o p l)
  unfolding receive
  stores_inv g me o p l v c r n =
      at_office me c (receive_others g me o p l (λ i n. v.tested i)) (λ d. like_tested like (v.tested me d))
      (receive_last g me o p l v.core r v.not_arrived
      (λ di dj e u. n (ap (λ q. q.members.bits) e ∙ v.core.book.made_a o di ∙ sym (v.core.book.net_a me dj))))
    where
      same : (q : ℕ) → Dec (q ≡ o) → Match (receive g me o p l) me q
          → upd2 g.stored me o (keeping p) me q ≡ g.stored me q
      same q (yes e) m =
          let w : upd2 g.stored me o (keeping p) me q ≡ keeping p = rw e (upd2_same g.stored me o (keeping p)) in
          absurd (n (sym (ap (λ s. s.proposal.members.bits) w) ∙ m.1))
      same q (no e) m = upd2_other g.stored me o (keeping p) me q (λ x. e)

      like : Like g (receive g me o p l) me
      like = record { of_mode = refl; of_net = refl; of_num = refl; of_stored = λ q. same q (ℕ_discrete q o) }

  answers_inv : {t : ℕ} (g h : Offices) (me o : ℕ) (p : Proposal) (l : List Item) → Inv A last u g
      → Core A last u (receive g me o p l) → Core A last u h
      → Arrives (serves A) g me o p l → p.members.bits ≡ g.net me → Tests t me (receive g me o p l) h
      → Inv A last u h
  unfolding receive
  answers_inv g h me o p l v c k r n s =
      after_tests c k r.at_office s (receive_others g me o p l (λ i n. v.tested i))
      (λ i j n. receive_late g me o p l v.not_arrived i j (λ x. n))
      (λ q. receive_last g me o p l v.core r v.not_arrived (heard q))
    where
      heard : Silent (receive g me o p l) me → Done A last u o → Done A last u me → p ≡ g.made o
          → used_for p me ≡ g.num me → ⊥
      heard q di dj e u =
          let w = upd2_same g.stored me o (keeping p) in
          q.not_used o r.from_office r.others (
            ap (λ s. s.present) w,
            ap (λ s. s.proposal.members.bits) w
                ∙ n,
          )
          (ap (λ s. used_for s.proposal me) w ∙ u)

  loses_inv : (g : Offices) (i j place : ℕ) → Inv A last u g
      → Core A last u (relink g i j (without place (g.link i j))) → {t : ℕ} → Losing A last g i j place t
      → Inv A last u (relink g i j (without place (g.link i j)))
  unfolding relink
  loses_inv g i j place v c s =
      record {
        core = c;
        tested = λ o d. like_tested (record { of_mode = refl; of_net = refl; of_num = refl; of_stored = λ q m. refl })
            (v.tested o d);
        not_arrived = relink_late g i j place v.core s v.not_arrived;
      }

module _ (A : ℕ) (last : ℕ → ℕ) where
  inv_later : {t : ℕ} {g : Offices} → NoLast A last t → Inv A last t g → Inv A last (t + 1) g
  inv_later n v =
      record {
        core = core_later A last n v.core;
        tested = λ i d. v.tested i (later A last n i d);
        not_arrived = λ i j d e. v.not_arrived i j (later A last n i d) (later A last n j e);
      }

  -- a report: the invariant of the others, then the proposal, then the tests
  reports_inv : {t : ℕ} (g h : Offices) (me x : ℕ) (p : Proposal) → Inv A last t g → Core A last (t + 1) h
      → Reported A last g me x t p
      → Tests t me (propose (renet g me x) me Fast p t) h → Inv A last (t + 1) h
  unfolding renet
  reports_inv {t} g h me x p v k r s =
      let o = propose_others A last (t + 1) (renet g me x) me Fast p t
      (renet_others A last (t + 1) g me x (λ i n d. v.tested i (old i n d))) in
      after_tests A last (t + 1) (core_report A last v.core r) k r.at_office s o (λ i j n. late i j) (λ q. late)
    where
      old : (i : ℕ) → (i ≡ me → ⊥) → Done A last (t + 1) i → Done A last t i
      old i n d = let l = d.1 in let m : last i ≡ t → ⊥ = r.no_other i d.0 n in (d.0, omega arith)

      late : (i j : ℕ) → Late A last (t + 1) (propose (renet g me x) me Fast p t) i j
      late =
          propose_late A last (t + 1) (renet g me x) me Fast p t r.makes
          (λ l. upd_same g.net me x ∙ r.is_a (let m = r.open_yet in omega arith))
          (λ i n d. v.core.book.made_used i me (old i n d) r.at_office n)
          (λ i j n q d e. v.not_arrived i j (old i n d) (old j q e))

  -- where no last report has come
  pub inv_none : (t : ℕ) (g : Offices) → Core A last t g → ((i : ℕ) → Done A last t i → ⊥) → Inv A last t g
  inv_none t g c never =
      record { core = c; tested = λ i d. absurd (never i d); not_arrived = λ i j d e n u l. never i d }

  -- every event keeps the invariant
  pub inv_acts : {t n : ℕ} {g h : Offices} → Inv A last t g → HappensFairly A last t n g h → Inv A last (t + 1) h
  inv_acts v (fair_idle n) = inv_later n v
  inv_acts {t} {g = g} v (fair_loss i j place n s) =
      loses_inv A last (t + 1) g i j place (inv_later n v) (core_acts A last v.core (fair_loss i j place n s)) s
  inv_acts {t} v (fair_cut {h = h} me m ws o f u r) =
      inv_none (t + 1) (restart h me m ws t) (core_acts A last v.core (fair_cut me m ws o f u r))
      (none_done A last f)
  inv_acts {t} {g = g} v (fair_leave me x n a e) =
      let m : last me ≡ t → ⊥ = n me a in
      leaves_inv A last (t + 1) g me x (inv_later n v) (core_acts A last v.core (fair_leave me x n a e))
      (omega arith)
  inv_acts {t} {g = g} {h} v (fair_report me x p r s) =
      reports_inv g h me x p v (core_acts A last v.core (fair_report me x p r s)) r s
  inv_acts {t} {g = g} v (fair_store me i p l n r d) =
      stores_inv A last (t + 1) g me i p l (inv_later n v)
      (core_acts A last v.core (fair_store {g = g} me i p l n r d)) r d
  inv_acts {t} {g = g} {h} v (fair_answer me i p l n r d s) =
      answers_inv A last (t + 1) g h me i p l (inv_later n v) (core_later A last n (core_receive A last v.core r))
      (core_acts A last v.core (fair_answer me i p l n r d s)) r d s
