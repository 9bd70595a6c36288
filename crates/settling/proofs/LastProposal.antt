-- The last proposal of an office whose last report has come, after each part of an event: of A, and on its way,
-- stored or counted.
use mathlib.Core.Path.{◌≡◌, refl, sym, ap, ◌∙◌}
use mathlib.Core.Bool.{true, false}
use mathlib.Core.Logic.{◌⊎◌, ⊎_elim}
use mathlib.Core.List.{List, [], ◌∷◌, ◌++◌}
use Prim.Native.Nat.{ℕ, ◌+◌, ◌≤◌, ◌<◌}
use native.Mathlib.Omega.{arith}
use lib.Dec.{eqb}
use borrow.Author.Tests.{ne_eqb}
use Rattle.laws.proofs.Upd.{upd_cases}
use Rattle.laws.proofs.Fin.{true_false}
use Rattle.seats.specs.Offices.{serves}
use Rattle.records.specs.declared.Proposal.{Proposal}
use Rattle.rules.specs.State.{Mode, fast, slow, nothing, keeping, used_for, number_in}
use Rattle.runs.specs.World.{Item, without}
use Rattle.runs.proofs.Arrays.{Offices, mail_to, renet, propose, receive, conclude, relink, Arrives}
use Rattle.runs.proofs.Links.{snoc_tail, without_snoc}
use Rattle.runs.proofs.Proposals.{kinds}
use Rattle.runs.proofs.Numbers.{item_of, relink_cases, receive_cases, propose_cases, conclude_cases, said_stored}
use Rattle.runs.proofs.Numbers.{said_num, said_used, numbers_propose}
use Rattle.settling.specs.Statement.{OfA}
use Rattle.settling.proofs.Invariants.{Done, NoLast, Proposing, Concluding, Losing, Place, on_its_way}
use Rattle.settling.proofs.Invariants.{is_stored, counted, Book, Core}

module _ (A : ℕ) (last : ℕ → ℕ) where
  -- X holds of two offices i and j of A, where the last report of i has come before event t
  abbrev DoneTo : ℕ → ℕ → ℕ → Type 0 → Type 0
  DoneTo t i j X = Done A last t i → OfA A j → (i ≡ j → ⊥) → X

  -- where the parts of two offices that it speaks of are the same, so is the place
  place_same : (g k : Offices) (i j : ℕ) → k.link i j ≡ g.link i j → k.stored j i ≡ g.stored j i
      → k.used j i ≡ g.used j i
      → k.num i ≡ g.num i → k.made i ≡ g.made i → Place A last g i j → Place A last k i j
  place_same g k i j el es eu en em (on_its_way l x e m s) = on_its_way l x (el ∙ e) (m ∙ sym em) s
  place_same g k i j el es eu en em (is_stored e m) = is_stored (el ∙ e) (es ∙ m ∙ ap (λ p. keeping p) (sym em))
  place_same g k i j el es eu en em (counted e m u) = counted (el ∙ e) (ap (λ s. s.present) es ∙ m) (eu ∙ u ∙ sym en)

  -- no last report comes with event t
  pub later : {t : ℕ} → NoLast A last t → (i : ℕ) → Done A last (t + 1) i → Done A last t i
  later {t} n i d = let l = d.1 in let m : last i ≡ t → ⊥ = n i d.0 in (d.0, omega arith)

  pub book_later : {t : ℕ} {g : Offices} → NoLast A last t → Book A last t g → Book A last (t + 1) g
  book_later n b =
      record {
        net_a = λ i d. b.net_a i (later n i d);
        made_a = λ i d. b.made_a i (later n i d);
        made_num = λ i d. b.made_num i (later n i d);
        made_kind = λ i d. b.made_kind i (later n i d);
        place = λ i j d. b.place i j (later n i d);
        made_used = λ i j d. b.made_used i j (later n i d);
      }

  pub renet_book : (t : ℕ) (g : Offices) (me x : ℕ) → Core A last t g → t ≤ last me → Book A last t (renet g me x)
  unfolding renet
  renet_book t g me x h open_yet =
      record {
        net_a =
            λ i. upd_cases (λ (k y : ℕ). Done A last t k → y ≡ A) g.net me x i
            (λ d. let l = d.1 in absurd (omega arith))
            (λ n. h.book.net_a i);
        made_a = h.book.made_a;
        made_num = h.book.made_num;
        made_kind = h.book.made_kind;
        place = λ i j d oj n. place_same g (renet g me x) i j refl refl refl refl refl (h.book.place i j d oj n);
        made_used = h.book.made_used;
      }

  module _ (t : ℕ) (g : Offices) (i j n s : ℕ) (h : Core A last t g) (loss : Losing A last g i j n s) where
    abbrev lost : Offices
    lost = relink g i j (without n (g.link i j))

    lost_place : lost.link i j ≡ without n (g.link i j) → OfA A j → Place A last g i j → Place A last lost i j
    unfolding relink
    lost_place e oj (on_its_way l x w m s) =
        ⊎_elim
        (λ r. on_its_way r.0 x (e ∙ ap (λ k. without n k) w ∙ r.1) m s)
        (λ r. let early = loss.early oj x (rw w r.0) (rw w r.1) in absurd (omega arith))
        (without_snoc n l x)
    lost_place e oj (is_stored w m) = is_stored (e ∙ ap (λ k. without n k) w) m
    lost_place e oj (counted w m u) = counted (e ∙ ap (λ k. without n k) w) m u

    pub relink_book : Book A last t lost
    unfolding relink
    relink_book =
        record {
          net_a = h.book.net_a;
          made_a = h.book.made_a;
          made_num = h.book.made_num;
          made_kind = h.book.made_kind;
          place =
              λ a b. relink_cases g i j (without n (g.link i j))
              (λ a b l. lost.link a b ≡ l → DoneTo t a b (Place A last lost a b))
              (λ el d ob ne. lost_place el ob (h.book.place i j d ob ne))
              (λ a b el d ob ne. place_same g lost a b el refl refl refl refl (h.book.place a b d ob ne)) a b refl;
          made_used = h.book.made_used;
        }

  module _ (t : ℕ) (g : Offices) (me i : ℕ) (p : Proposal) (l : List Item) (h : Core A last t g)
      (arrives : Arrives (serves A) g me i p l) where
    abbrev got : Offices
    got = receive g me i p l

    not_empty : OfA A i → g.link i me ≡ [] → ⊥
    not_empty oi e = let z : ◌≡◌ {A = ℕ} 0 1 = cc (arrives.oldest oi).1 in omega arith

    got_place : got.stored me i ≡ keeping p → got.link i me ≡ l → OfA A i → Place A last g i me
        → Place A last got i me
    unfolding receive
    got_place es el oi (on_its_way k x e m s) =
        let y = arrives.oldest oi in
        ⊎_elim
        (λ r. is_stored (el ∙ r.0) (es ∙ ap (λ q. keeping q) (sym y.2 ∙ ap (λ z. z.proposal) (sym r.1) ∙ m)))
        (λ r. on_its_way r.0 x (el ∙ r.1) m s)
        (snoc_tail k x y.0 l (sym e ∙ y.1))
    got_place es el oi (is_stored e m) = absurd (not_empty oi e)
    got_place es el oi (counted e m u) = absurd (not_empty oi e)

    pub receive_book : Book A last t got
    unfolding receive
    receive_book =
        record {
          net_a = h.book.net_a;
          made_a = h.book.made_a;
          made_num = h.book.made_num;
          made_kind = h.book.made_kind;
          place =
              λ a b. receive_cases g me i p l
              (λ b a s n k. got.stored b a ≡ s → got.link a b ≡ k → DoneTo t a b (Place A last got a b))
              (λ es el d ob ne. got_place es el d.0 (h.book.place i me d ob ne))
              (λ b a es el d ob ne. place_same g got a b el es refl refl refl (h.book.place a b d ob ne)) b a refl
              refl;
          made_used = h.book.made_used;
        }

  -- made at event t, where before it the last reports before s had come
  module _ (s : ℕ) (g : Offices) (me : ℕ) (m : Mode) (p : Proposal) (t : ℕ) (h : Core A last s g)
      (makes : Proposing A last g me m p t)
      (before : (i : ℕ) → OfA A i → (i ≡ me → ⊥) → last i < t + 1 → last i < s) where
    abbrev said : Offices
    said = propose g me m p t

    said_mail : (b : ℕ) → last me ≤ t → OfA A b → (me ≡ b → ⊥) → g.link me b ++ mail_to t p b ≡ g.link me b
        ++ (item_of t p ∷ [])
    said_mail b e ob ne =
        let s : serves p.members.bits b ≡ true = rw (makes.makes.of_net, makes.is_a e) ob.1 in
        let z : eqb b p.sender ≡ false = ne_eqb b p.sender (λ q. ne (sym makes.makes.from ∙ sym q)) in
        rw (s, z)

    -- after the last report
    said_done : (P : ℕ → ℕ → Proposal → (ℕ → List Item) → Type 0)
        → (last me ≤ t → P me p.number p (λ j. g.link me j ++ mail_to t p j))
        → ((a : ℕ) → Done A last s a → P a (g.num a) (g.made a) (g.link a))
        → (a : ℕ) → Done A last (t + 1) a → P a (said.num a) (said.made a) (said.link a)
    said_done P at old a f =
        propose_cases g me m p t (λ a n q r. OfA A a → last a < t + 1 → P a n q r) (λ o e. at (omega arith))
        (λ a n o e. old a (o, before a o n e)) a f.0 f.1

    pub propose_book : Book A last (t + 1) said
    unfolding propose
    propose_book =
        record {
          net_a = said_done (λ a n q r. g.net a ≡ A) makes.is_a h.book.net_a;
          made_a = said_done (λ a n q r. q.members.bits ≡ A) (λ e. makes.makes.of_net ∙ makes.is_a e)
              h.book.made_a;
          made_num = said_done (λ a n q r. q.number ≡ n) (λ e. refl) h.book.made_num;
          made_kind =
              said_done (λ a n q r. (q.kind ≡ fast) ⊎ (q.kind ≡ slow))
              (λ e. rw makes.makes.of_kind (kinds m makes.busy)) h.book.made_kind;
          place =
              λ a b f. said_done
              (λ a n q r. said.num a ≡ n → said.made a ≡ q → said.link a ≡ r → OfA A b → (a ≡ b → ⊥)
              → Place A last said a b)
              (λ e en em el ob ne. on_its_way (g.link me b) (item_of t p) (ap (λ r. r b) el ∙ said_mail b e ob ne)
              (sym em) e)
              (λ a f en em el ob ne.
              let s = said_stored g me m p t (λ s. s ≡ g.stored b a) b a (λ q. ne (sym q)) refl in
              place_same g said a b (ap (λ r. r b) el) s refl en em (h.book.place a b f ob ne))
              a f refl refl refl;
          made_used =
              λ a b f. said_done (λ a n q r. OfA A b → (a ≡ b → ⊥) → used_for q b ≤ said.num b)
              (λ e ob ne. let u = said_used (serves A) g me m p t h.numbers makes.at_office
              makes.makes b ob ne in
              let n = (numbers_propose (serves A) g me m p t h.numbers makes.at_office
              makes.makes).top_num b ob in
              omega arith)
              (λ a f ob ne. let u = h.book.made_used a b f ob ne in let s = said_num g me m p t makes.makes b in
              omega arith)
              a f;
        }

  module _ (s : ℕ) (g : Offices) (me t : ℕ) (h : Core A last s g) (concludes : Concluding A last g me) where
    abbrev agreed : Offices
    agreed = conclude g me t

    agreed_place : (a : ℕ) → serves (g.net me) a ≡ true → agreed.stored me a ≡ nothing
        → agreed.used me a ≡ number_in (g.stored me a)
        → Done A last s a → Place A last g a me → Place A last agreed a me
    unfolding conclude
    agreed_place a v es eu d (on_its_way l x e m s) = on_its_way l x e m s
    agreed_place a v es eu d (is_stored e m) =
        counted e (ap (λ s. s.present) es) (eu ∙ ap (λ s. number_in s) m ∙ h.book.made_num a d)
    agreed_place a v es eu d (counted e m u) =
        absurd (true_false _ (concludes.all_agree.every a d.0.0 v).0.0 m)

    pub conclude_book : Book A last s agreed
    unfolding conclude
    conclude_book =
        record {
          net_a = h.book.net_a;
          made_a = h.book.made_a;
          made_num = h.book.made_num;
          made_kind = h.book.made_kind;
          place =
              λ a b. conclude_cases g me t
              (λ b a v u. agreed.stored b a ≡ v → agreed.used b a ≡ u → DoneTo s a b (Place A last agreed a b))
              (λ a v es eu d ob ne. agreed_place a v es eu d (h.book.place a me d ob ne))
              (λ b a es eu d ob ne. place_same g agreed a b refl es eu refl refl (h.book.place a b d ob ne)) b a
              refl refl;
          made_used = h.book.made_used;
        }
