-- The open round and the view that ended it, after each part of an event.
use mathlib.Core.Path.{◌≡◌, refl, sym, ap, ◌∙◌}
use mathlib.Core.Bool.{Bool, true, false, ◌&&◌, not}
use mathlib.Core.Logic.{inr}
use mathlib.Core.List.{List}
use Prim.Native.Nat.{ℕ, ◌+◌, ◌≤◌, ◌<◌}
use native.Mathlib.Omega.{arith}
use lib.Dec.{eqb}
use Rattle.laws.specs.Lists.{Every, none, more}
use Rattle.laws.proofs.Lists.{every_append, every_map, every_tail}
use Rattle.laws.specs.Upd.{ifb}
use Rattle.laws.proofs.Upd.{upd_same, upd_other}
use Rattle.laws.proofs.Fin.{and_l, if_cases}
use Rattle.seats.specs.Offices.{serves}
use Rattle.records.specs.declared.Proposal.{Proposal}
use Rattle.rules.specs.State.{Mode, None, Fast, Slow, slow, kind_of, keeping, used_for, number_in}
use Rattle.runs.specs.World.{Item, without}
use Rattle.laws.proofs.Grid.{split, row_same, row_other}
use Rattle.runs.proofs.Arrays.{Offices, mail_to, renet, propose, receive, conclude, relink, Arrives}
use Rattle.runs.proofs.Links.{every_without, rising_le, rising_last}
use Rattle.settling.specs.Statement.{OfA}
use Rattle.settling.proofs.Invariants.{Done, NoLast, Proposing, Concluding, Place, on_its_way, is_stored}
use Rattle.settling.proofs.Invariants.{counted, Rounds, Core}
use Rattle.settling.proofs.LastProposal.{later}

is_slow : (m : Mode) → kind_of m ≡ slow → m ≡ Slow
is_slow None e = cc
is_slow Fast e = cc
is_slow Slow e = refl

all_mail : {P : Item → Type 0} (t : ℕ) (p : Proposal) (j : ℕ)
    → (serves p.members.bits j ≡ true → P (record { proposal = p; sent = t })) → Every P (mail_to t p j)
all_mail {P} t p j f =
    if_cases (Every P) (serves p.members.bits j && not (eqb j p.sender)) _ _
    (λ b. more (f (and_l (serves p.members.bits j) _ b)) none) (λ b. none)

module _ (A : ℕ) (last : ℕ → ℕ) where
  pub rounds_later : {t : ℕ} {g : Offices} → NoLast A last t → Rounds A last t g → Rounds A last (t + 1) g
  rounds_later n r =
      record {
        own_stored = λ i d. r.own_stored i (later A last n i d);
        own_kind = λ i d. r.own_kind i (later A last n i d);
        own_used = λ i j d. r.own_used i j (later A last n i d);
        viewed = λ i d. r.viewed i (later A last n i d);
        viewed_own = λ i d. r.viewed_own i (later A last n i d);
        counts = λ i j d e. r.counts i j (later A last n i d) (later A last n j e);
        slow_used = λ i j d. r.slow_used i j (later A last n i d);
        not_behind = λ i j d. r.not_behind i j (later A last n i d);
        tells_above = λ i j d. r.tells_above i j (later A last n i d);
      }

  pub renet_rounds : (t : ℕ) (g : Offices) (me x : ℕ) → Core A last t g → Rounds A last t (renet g me x)
  unfolding renet
  renet_rounds t g me x h =
      record {
        own_stored = h.rounds.own_stored;
        own_kind = h.rounds.own_kind;
        own_used = h.rounds.own_used;
        viewed = h.rounds.viewed;
        viewed_own = h.rounds.viewed_own;
        counts = h.rounds.counts;
        slow_used = h.rounds.slow_used;
        not_behind = h.rounds.not_behind;
        tells_above = h.rounds.tells_above;
      }

  -- made at event t, where before it the last reports before s had come
  module _ (s : ℕ) (g : Offices) (me : ℕ) (m : Mode) (p : Proposal) (t : ℕ) (h : Core A last s g)
      (k : Proposing A last g me m p t)
      (before : (i : ℕ) → OfA A i → (i ≡ me → ⊥) → last i < t + 1 → last i < s) where
    old : (i : ℕ) → (i ≡ me → ⊥) → Done A last (t + 1) i → Done A last s i
    old i n d = (d.0, before i d.0 n d.1)

    -- nobody has used the new number
    unused : (j : ℕ) → OfA A j → (me ≡ j → ⊥) → g.used j me ≡ p.number → ⊥
    unused j dj n e =
        let a = h.numbers.used_acc me j k.at_office dj n in
        let b = rising_le (h.numbers.rising me j k.at_office dj n) in
        let u = h.numbers.acc_got me j k.at_office dj n in
        let v = h.numbers.top_num me k.at_office in
        let c = k.makes.above in
        omega arith

    -- nobody has been told of it
    untold : (j : ℕ) → OfA A j → (me ≡ j → ⊥)
        → Every (λ x. used_for x.proposal me ≡ p.number → p.number < x.proposal.number) (g.link j me)
    untold j dj n =
        let c = k.makes.above in
        let v = h.numbers.top_num me k.at_office in
        every_map (λ x l e. absurd (omega arith)) (h.numbers.told j me dj k.at_office (λ e. n (sym e)))

    -- where it tells of a slow proposal, it is above that
    tells : (i : ℕ) → Done A last s i → (i ≡ me → ⊥) → (g.made i).kind ≡ slow → serves p.members.bits i ≡ true
        → used_for p i ≡ g.num i → g.num i < p.number
    tells i di n s b e =
        let u : used_for p i ≡ g.used me i = k.makes.with_used_lem i di.0.0 ∙ rw (← k.makes.of_net, b) in
        let a = h.rounds.not_behind i me di k.at_office n s (sym u ∙ e) in
        let c = k.makes.above in
        omega arith

    rises : {a : ℕ} → a ≤ g.num me → a ≤ p.number
    rises l = let c = k.makes.above in omega arith

    pub propose_rounds : Rounds A last (t + 1) (propose g me m p t)
    unfolding propose
    propose_rounds =
        record {
          own_stored = split me (simp (row_same, upd_same) (λ a b. refl))
              (λ i n. simp (row_other, upd_other) (λ d. h.rounds.own_stored i (old i n d)));
          own_kind = split me (simp upd_same (λ a b. k.makes.of_kind))
              (λ i n. simp upd_other (λ d. h.rounds.own_kind i (old i n d)));
          own_used =
              split me
              (simp upd_same (λ j di dj n b.
              rw (k.makes.with_used_lem j dj.0, k.is_a (let l = di.1 in omega arith), dj.1)))
              (λ i n. simp upd_other (λ j d. h.rounds.own_used i j (old i n d)));
          viewed = split me (simp upd_same (λ a e. absurd (k.busy e)))
              (λ i n. simp upd_other (λ d. h.rounds.viewed i (old i n d)));
          viewed_own = split me (simp upd_same (λ a e. absurd (k.busy e)))
              (λ i n. simp upd_other (λ d. h.rounds.viewed_own i (old i n d)));
          counts =
              split me
              (simp upd_same (λ j di dj n b e. absurd (unused j dj.0 n e)))
              (λ i ni. split me (simp upd_same (λ di dj n b e. absurd (k.busy b)))
              (λ j nj. simp upd_other (λ di dj. h.rounds.counts i j (old i ni di) (old j nj dj))));
          slow_used = split me (simp upd_same (λ j di dj n e s. absurd (k.busy e)))
              (λ i n. simp upd_other (λ j d. h.rounds.slow_used i j (old i n d)));
          not_behind =
              split me
              (simp upd_same (λ j di dj n s e. absurd (unused j dj n e)))
              (λ i ni. split me
              (simp (upd_same, upd_other) (λ di dj n s e. rises (h.rounds.not_behind i me (old i ni di) dj n s e)))
              (λ j nj. simp upd_other (λ d. h.rounds.not_behind i j (old i ni d))));
          tells_above =
              split me
              (split me (λ di dj n s. absurd (n refl))
              (λ j nj. simp (upd_same, row_other) (λ di dj n s. untold j dj n)))
              (λ i ni. split me
              (simp (row_same, upd_other)
              (λ di dj n s. every_append (h.rounds.tells_above i me (old i ni di) dj n s)
              (all_mail t p i (tells i (old i ni di) n s))))
              (λ j nj. simp (row_other, upd_other) (λ d. h.rounds.tells_above i j (old i ni d))));
        }

  -- sent at event t
  module _ (g : Offices) (me t : ℕ) (h : Core A last (t + 1) g) (k : Concluding A last g me) where
    -- what the view counts with an office's own number is that office's last proposal
    is_made : (i : ℕ) → Done A last (t + 1) i → (i ≡ me → ⊥) → serves (g.net me) i ≡ true
        → number_in (g.stored me i) ≡ g.num i
        → g.stored me i ≡ keeping (g.made i)
    is_made i di n b e = go (h.book.place i me di k.at_office n)
      where
        there : (g.stored me i).present ≡ true
        there = (k.all_agree.every i di.0.0 b).0.0

        go : Place A last g i me → g.stored me i ≡ keeping (g.made i)
        go (on_its_way l x w f s) =
            let a = rising_last l x (rw w at (h.numbers.rising i me di.0 k.at_office n)) in
            let b = h.numbers.kept i me di.0 k.at_office n there in
            let u = h.numbers.acc_got i me di.0 k.at_office n in
            let m = ap (λ (p : Proposal). p.number) f ∙ h.book.made_num i di in
            let c : (g.stored me i).proposal.number ≡ g.num i = rw there at e in
            absurd (omega arith)
        go (is_stored w f) = f
        go (counted w f u) = let z : ◌≡◌ {A = ℕ} 0 1 = cc (f, there) in absurd (omega arith)

    -- it is of the kind of the round, and a slow one has the own number
    of_round : (i : ℕ) → Done A last (t + 1) i → (i ≡ me → ⊥) → serves (g.net me) i ≡ true
        → number_in (g.stored me i) ≡ g.num i
        → ((g.made i).kind ≡ kind_of (g.mode me)) × ((g.made i).kind ≡ slow → g.num i ≡ g.num me)
    of_round i di n b e =
        let a = k.all_agree.every i di.0.0 b in
        let f : (g.made i).kind ≡ kind_of (g.mode me) = ap (λ v. v.proposal.kind) (sym (is_made i di n b e))
        ∙ a.1 in
        (f, λ s. sym e ∙ rw a.0.0 (a.2 (is_slow (g.mode me) (sym f ∙ s))))

    -- the used numbers after the view
    abbrev now_used : ℕ → ℕ
    now_used o = ifb (serves (g.net me) o) (number_in (g.stored me o)) (g.used me o)

    me_counts : (i : ℕ) → Done A last (t + 1) i → Done A last (t + 1) me → (i ≡ me → ⊥) → now_used i ≡ g.num i
        → ((g.made i).kind ≡ (g.made me).kind) × ((g.made i).kind ≡ slow → g.num i ≡ g.num me)
        × ((g.stored me i).proposal.start ≡ (g.made i).start)
    me_counts i di dj n e =
        let b : serves (g.net me) i ≡ true = rw (h.book.net_a me dj) di.0.1 in
        let f = of_round i di n b (rw b at e) in (
          f.0 ∙ sym (h.rounds.own_kind me dj k.all_agree.busy),
          f.1,
          ap (λ v. v.proposal.start) (is_made i di n b (rw b at e)),
        )

    me_slow_used : (j : ℕ) → Done A last (t + 1) me → OfA A j → (g.made me).kind ≡ slow → now_used j ≡ g.num me
    me_slow_used j di dj s =
        let b : serves (g.net me) j ≡ true = rw (h.book.net_a me di) dj.1 in
        let a = k.all_agree.every j dj.0 b in
        rw (b, a.0.0) (a.2 (is_slow (g.mode me) (sym (h.rounds.own_kind me di k.all_agree.busy) ∙ s)))

    me_not_behind : (i : ℕ) (b : Bool) → serves (g.net me) i ≡ b → Done A last (t + 1) i → (i ≡ me → ⊥)
        → (g.made i).kind ≡ slow
        → ifb b (number_in (g.stored me i)) (g.used me i) ≡ g.num i → g.num i ≤ g.num me
    me_not_behind i true b di n s e = let f = (of_round i di n b e).1 s in omega arith
    me_not_behind i false b di n s e = h.rounds.not_behind i me di k.at_office n s e

    pub conclude_rounds : Rounds A last (t + 1) (conclude g me t)
    unfolding conclude
    conclude_rounds =
        record {
          own_stored = split me (simp (row_same, upd_same) (λ a b. absurd (b refl)))
              (λ i n. simp (row_other, upd_other) (h.rounds.own_stored i));
          own_kind = split me (simp upd_same (λ a b. absurd (b refl))) (λ i n. simp upd_other (h.rounds.own_kind i));
          own_used = split me (simp upd_same (λ j di dj n b. absurd (b refl)))
              (λ i n. simp (row_other, upd_other) (h.rounds.own_used i));
          viewed =
              split me
              (simp upd_same (λ di e. (t, g.shown me, rw (h.book.net_a me di), (let l = di.1 in omega arith))))
              (λ i n. simp upd_other (h.rounds.viewed i));
          viewed_own =
              split me
              (simp (row_same, upd_same) (λ di e. rw (h.rounds.own_stored me di k.all_agree.busy)))
              (λ i n. simp (row_other, upd_other) (h.rounds.viewed_own i));
          counts =
              λ i. split me
              (simp (row_same, upd_same) (λ di dj n z e. inr (me_counts i di dj n e)))
              (λ j n. simp (row_other, upd_other) (h.rounds.counts i j));
          slow_used =
              split me
              (simp (row_same, upd_same) (λ j di dj n z s. me_slow_used j di dj s))
              (λ i n. simp (row_other, upd_other) (h.rounds.slow_used i));
          not_behind =
              λ i. split me
              (simp row_same (λ di dj n s e. me_not_behind i (serves (g.net me) i) refl di n s e))
              (λ j n. simp row_other (h.rounds.not_behind i j));
          tells_above = h.rounds.tells_above;
        }

  -- items are taken off the link from j to i
  module _ (t : ℕ) (g : Offices) (j i : ℕ) (l : List Item) (h : Core A last t g) (f : OfA A j → (P : Item → Type 0)
      → Every P (g.link j i) → Every P l) where
    fewer_rounds : Rounds A last t (relink g j i l)
    unfolding relink
    fewer_rounds =
        record {
          own_stored = h.rounds.own_stored;
          own_kind = h.rounds.own_kind;
          own_used = h.rounds.own_used;
          viewed = h.rounds.viewed;
          viewed_own = h.rounds.viewed_own;
          counts = h.rounds.counts;
          slow_used = h.rounds.slow_used;
          not_behind = h.rounds.not_behind;
          tells_above =
              split i
              (split j (simp (row_same, upd_same) (λ di dj n s. f dj _ (h.rounds.tells_above i j di dj n s)))
              (λ b n. simp row_other (h.rounds.tells_above i b)))
              (λ a n. split j (simp (row_same, upd_other) (h.rounds.tells_above a j))
              (λ b n. simp row_other (h.rounds.tells_above a b)));
        }

  pub relink_rounds : (t : ℕ) (g : Offices) (i j place : ℕ) → Core A last t g
      → Rounds A last t (relink g i j (without place (g.link i j)))
  relink_rounds t g i j place h = fewer_rounds t g i j _ h (λ o P a. every_without place _ a)

  pub receive_rounds : (t : ℕ) (g : Offices) (me o : ℕ) (p : Proposal) (l : List Item) → Core A last t g
      → Arrives (serves A) g me o p l
      → Rounds A last t (receive g me o p l)
  unfolding receive relink
  receive_rounds t g me o p l h k =
      let r = fewer_rounds t g o me l h (λ f P a. every_tail (rw (k.oldest f).1 at a)) in
      record {
        own_stored =
            split me
            (simp (row_same, upd_other (g.stored me) o (keeping p) me (λ e. k.others (sym e)))
            (h.rounds.own_stored me))
            (λ i n. simp row_other (h.rounds.own_stored i));
        own_kind = h.rounds.own_kind;
        own_used = h.rounds.own_used;
        viewed = h.rounds.viewed;
        viewed_own = h.rounds.viewed_own;
        counts = h.rounds.counts;
        slow_used = h.rounds.slow_used;
        not_behind = h.rounds.not_behind;
        tells_above = r.tells_above;
      }
