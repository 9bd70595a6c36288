-- The numbers of the offices of F after each part of an event, and after every event.
use mathlib.Core.Path.{◌≡◌, refl, sym, ◌∙◌}
use mathlib.Core.Bool.{Bool, true, false, ◌&&◌, not}
use mathlib.Core.List.{List, [], ◌∷◌, ◌++◌, append-nil, append_assoc}
use Prim.Native.Nat.{ℕ, ◌≤◌, ◌<◌}
use native.Mathlib.Omega.{arith}
use native.Mathlib.Decide.{ℕ_discrete}
use lib.Dec.{eqb}
use Rattle.laws.specs.Lists.{Every, none, more}
use Rattle.laws.proofs.Lists.{every_append, every_head, every_map, every_tail}
use Rattle.laws.specs.Upd.{ifb, upd2}
use Rattle.laws.proofs.Upd.{upd_same, upd_other}
use Rattle.laws.proofs.Fin.{if_cases, true_false, anyb_in}
use Rattle.seats.specs.Offices.{serves}
use Rattle.records.specs.declared.Proposal.{Proposal}
use Rattle.rules.specs.State.{Mode, Fast, Slow, Slot, nothing, keeping, used_for, number_in}
use Rattle.rules.specs.Rules.{Written, has_recipient, receives}
use Rattle.runs.specs.World.{Item, World, WorldEvent, mail, without}
use Rattle.runs.specs.Begins.{InF, Rising}
use Rattle.laws.proofs.Grid.{upd2_cases, upd2_same, upd2_other}
use Rattle.runs.proofs.Arrays.{Offices, mail_to, renet, propose, receive, conclude, relink, other, Proposes, Agreed}
use Rattle.runs.proofs.Arrays.{Arrives, FromF, Numbers, restart, top_after, Restarts, Climbs, climbs_none}
use Rattle.runs.proofs.Arrays.{climbs_notice, climbs_view, climbs_proposal, TellsUsed, tells_none, tells_notice}
use Rattle.runs.proofs.Arrays.{tells_view, tells_proposal, takes_nothing, takes_front, SlowTest, not_called, called}
use Rattle.runs.proofs.Arrays.{AgreementTest, not_agreed, agreed, Tests, both, Happens, idles, refuses, repeated, loses}
use Rattle.runs.proofs.Arrays.{drops, leaves, reports, stores, answers, restarts_apart, restarts}
use Rattle.runs.proofs.Links.{every_without, rising_le, rising_low, rising_high, rising_snoc, rising_tail}
use Rattle.runs.proofs.Links.{rising_head, rising_without}

-- what a proposal p puts on the link to office j: itself or nothing
abbrev pub item_of : ℕ → Proposal → Item
item_of t p = record { proposal = p; sent = t }

pub mail_cases : (t : ℕ) (p : Proposal) (j : ℕ) (P : List Item → Type 0) → P (item_of t p ∷ []) → P []
    → P (mail_to t p j)
mail_cases t p j P at not_at =
    if_cases P (serves p.members.bits j && not (eqb j p.sender)) (item_of t p ∷ []) [] (λ e. at) (λ e. not_at)

-- the arrays that a part changes: where it acts, and elsewhere
module _ (g : Offices) where
  pub relink_cases : (i j : ℕ) (l : List Item) (P : ℕ → ℕ → List Item → Type 0) → P i j l
      → ((a b : ℕ) → P a b (g.link a b))
      → (a b : ℕ) → P a b ((relink g i j l).link a b)
  unfolding relink
  relink_cases i j l P at old a b = upd2_cases P g.link i j l a b at (λ n. old a b)

  -- what office a stores for office b, the number that it accepted from it and the link from b to a
  pub receive_cases : (me i : ℕ) (p : Proposal) (l : List Item) (P : ℕ → ℕ → Slot → ℕ → List Item → Type 0)
      → P me i (keeping p) p.number l
      → ((a b : ℕ) → P a b (g.stored a b) (g.acc a b) (g.link b a))
      → (a b : ℕ) → let h = receive g me i p l in P a b (h.stored a b) (h.acc a b) (h.link b a)
  unfolding receive
  receive_cases me i p l P at old a b =
      upd2_cases (λ (a b : ℕ) (s : Slot). P a b s (upd2 g.acc me i p.number a b) (upd2 g.link i me l b a))
      g.stored me i (keeping p) a b
      (rw (upd2_same g.acc me i p.number, upd2_same g.link i me l) at)
      (λ n. rw (upd2_other g.acc me i p.number a b n, upd2_other g.link i me l b a (λ e k. n k e)) (old a b))

  -- the last number accepted, the last one got and the link
  pub got_cases : (me i : ℕ) (p : Proposal) (l : List Item) (P : ℕ → ℕ → ℕ → ℕ → List Item → Type 0)
      → P me i p.number p.number l
      → ((a b : ℕ) → P a b (g.acc a b) (g.got a b) (g.link b a))
      → (a b : ℕ) → let h = receive g me i p l in P a b (h.acc a b) (h.got a b) (h.link b a)
  unfolding receive
  got_cases me i p l P at old a b =
      upd2_cases (λ (a b n : ℕ). P a b n (upd2 g.got me i p.number a b) (upd2 g.link i me l b a))
      g.acc me i p.number a b
      (rw (upd2_same g.got me i p.number, upd2_same g.link i me l) at)
      (λ n. rw (upd2_other g.got me i p.number a b n, upd2_other g.link i me l b a (λ e k. n k e)) (old a b))

  -- the own number, the largest that left and the links
  pub propose_tops : (me : ℕ) (m : Mode) (p : Proposal) (t : ℕ) (P : ℕ → ℕ → ℕ → (ℕ → List Item) → Type 0)
      → P me p.number (ifb (has_recipient p) p.number (g.top me)) (λ j. g.link me j ++ mail_to t p j)
      → ((a : ℕ) → (a ≡ me → ⊥) → P a (g.num a) (g.top a) (g.link a))
      → (a : ℕ) → let h = propose g me m p t in P a (h.num a) (h.top a) (h.link a)
  unfolding propose
  propose_tops me m p t P at old a = go (ℕ_discrete a me)
    where
      go : Dec (a ≡ me) → let h = propose g me m p t in P a (h.num a) (h.top a) (h.link a)
      go (yes e) = rw e (simp upd_same at)
      go (no n) = simp upd_other (old a n)

  -- the own number, the last proposal and the links
  pub propose_cases : (me : ℕ) (m : Mode) (p : Proposal) (t : ℕ) (P : ℕ → ℕ → Proposal → (ℕ → List Item) → Type 0)
      → P me p.number p (λ j. g.link me j ++ mail_to t p j)
      → ((a : ℕ) → (a ≡ me → ⊥) → P a (g.num a) (g.made a) (g.link a))
      → (a : ℕ) → let h = propose g me m p t in P a (h.num a) (h.made a) (h.link a)
  unfolding propose
  propose_cases me m p t P at old a = go (ℕ_discrete a me)
    where
      go : Dec (a ≡ me) → let h = propose g me m p t in P a (h.num a) (h.made a) (h.link a)
      go (yes e) = rw e (simp upd_same at)
      go (no n) = simp upd_other (old a n)

  -- what office a stores for office b and its used number: counted by the view, and elsewhere
  pub conclude_cases : (me t : ℕ) (P : ℕ → ℕ → Slot → ℕ → Type 0)
      → ((b : ℕ) → serves (g.net me) b ≡ true → P me b nothing (number_in (g.stored me b)))
      → ((a b : ℕ) → P a b (g.stored a b) (g.used a b)) → (a b : ℕ)
      → P a b ((conclude g me t).stored a b) ((conclude g me t).used a b)
  unfolding conclude
  conclude_cases me t P at old a b = go (ℕ_discrete a me)
    where
      test : (s : Bool) → serves (g.net me) b ≡ s
          → P me b (ifb s nothing (g.stored me b)) (ifb s (number_in (g.stored me b)) (g.used me b))
      test true e = at b e
      test false e = old me b

      go : Dec (a ≡ me) → P a b ((conclude g me t).stored a b) ((conclude g me t).used a b)
      go (yes e) = rw (e, upd_same, upd_same) (test (serves (g.net me) b) refl)
      go (no n) = rw (upd_other, upd_other) (old a b)

-- a proposal made: what another office stores, and the own number rises
module _ (g : Offices) (me : ℕ) (m : Mode) (p : Proposal) (t : ℕ) where
  pub said_stored : (P : Slot → Type 0) (a b : ℕ) → (a ≡ b → ⊥) → P (g.stored a b)
      → P ((propose g me m p t).stored a b)
  unfolding propose
  said_stored P a b ne q = rw (upd2_other g.stored me me (keeping p) a b (λ e k. ne (e ∙ sym k))) q

  pub said_num : {kind : ℕ} → Proposes g me kind p → (a : ℕ) → g.num a ≤ (propose g me m p t).num a
  unfolding propose
  said_num makes a = let l = makes.above in
      propose_cases g me m p t (λ a n q r. g.num a ≤ n) (omega arith) (λ a n. omega arith) a

-- what leaves while the numbers climb: the largest number that left rises, and so does a row that the mail joins
pub climbs_up : {hi n : ℕ} {ws : List Written} → hi ≤ n → Climbs n ws → hi ≤ top_after ws hi
climbs_up l climbs_none = omega arith
climbs_up l (climbs_notice c) = climbs_up l c
climbs_up l (climbs_view c) = climbs_up l c
climbs_up {hi} {n} l (climbs_proposal {p = p} lt c) = let u = climbs_up {hi = p.number} (omega arith) c in omega arith

pub climbs_row : {lo hi n : ℕ} {ws : List Written} {row : List Item} (t b : ℕ) → hi ≤ n → Climbs n ws
    → Rising lo hi row
    → Rising lo (top_after ws hi) (row ++ mail t b ws)
climbs_row {row = row} t b l climbs_none r = rw append-nil r
climbs_row t b l (climbs_notice c) r = climbs_row t b l c r
climbs_row t b l (climbs_view c) r = climbs_row t b l c r
climbs_row {lo} {hi} {n} {row = row} t b l (climbs_proposal {p = p} {ws = ws} lt c) r =
    go (receives p b) (λ (row : List Item) (r : Rising lo p.number row). climbs_row t b (omega arith) c r)
  where
    go : (u : Bool) → ((row : List Item) → Rising lo p.number row
        → Rising lo (top_after ws p.number) (row ++ mail t b ws))
        → Rising lo (top_after ws p.number) (row ++ ifb u (item_of t p ∷ mail t b ws) (mail t b ws))
    go true f = rw (append_assoc row (item_of t p ∷ []) (mail t b ws)) at
        (f (row ++ (item_of t p ∷ [])) (rising_snoc (item_of t p) (omega arith) r))
    go false f = f row (rising_high p.number (omega arith) r)

pub told_mail : {f : ℕ → ℕ} {ws : List Written} (t b x : ℕ) → b < 16 → f b ≤ x → TellsUsed f ws
    → Every (λ y. used_for y.proposal b ≤ x) (mail t b ws)
told_mail t b x lt l tells_none = none
told_mail t b x lt l (tells_notice c) = told_mail t b x lt l c
told_mail t b x lt l (tells_view c) = told_mail t b x lt l c
told_mail t b x lt l (tells_proposal {p = p} u c) =
    let r = told_mail t b x lt l c in
    let v = u b lt in
    if_cases (Every (λ y. used_for y.proposal b ≤ x)) (receives p b) _ _ (λ e. more (omega arith) r) (λ e. r)

module _ (F : ℕ → Bool) where
  -- X holds of two offices i and j of F
  abbrev OfTwo : ℕ → ℕ → Type 0 → Type 0
  OfTwo i j X = InF F i → InF F j → (i ≡ j → ⊥) → X

  pub numbers_renet : (g : Offices) (me x : ℕ) → Numbers F g → Numbers F (renet g me x)
  unfolding renet
  numbers_renet g me x h =
      record {
        rows = h.rows;
        rising = h.rising;
        top_num = h.top_num;
        acc_got = h.acc_got;
        told = h.told;
        kept = h.kept;
        kept_used = h.kept_used;
        used_acc = h.used_acc;
        with_seat = h.with_seat;
        own_kept = h.own_kept;
        own_used = h.own_used;
      }

  pub numbers_relink : (g : Offices) (i j n : ℕ) → Numbers F g → Numbers F (relink g i j (without n (g.link i j)))
  unfolding relink
  numbers_relink g i j n h =
      record {
        rows =
            relink_cases g i j (without n (g.link i j)) (λ a b l. FromF F a b → Rising 0 (g.top a) l)
            (λ f. rising_without n (g.link i j) (h.rows i j f)) h.rows;
        rising =
            relink_cases g i j (without n (g.link i j)) (λ a b l. OfTwo a b (Rising (g.got b a) (g.top a) l))
            (λ oi oj ne. rising_without n (g.link i j) (h.rising i j oi oj ne)) h.rising;
        top_num = h.top_num;
        acc_got = h.acc_got;
        told =
            relink_cases g i j (without n (g.link i j))
            (λ a b l. OfTwo a b (Every (λ x. used_for x.proposal b ≤ g.top b) l))
            (λ oi oj ne. every_without n (g.link i j) (h.told i j oi oj ne)) h.told;
        kept = h.kept;
        kept_used = h.kept_used;
        used_acc = h.used_acc;
        with_seat = h.with_seat;
        own_kept = h.own_kept;
        own_used = h.own_used;
      }

  module _ (g : Offices) (me i : ℕ) (p : Proposal) (l : List Item) (h : Numbers F g)
      (arrives : Arrives F g me i p l) where
    pub numbers_receive : Numbers F (receive g me i p l)
    unfolding receive
    numbers_receive =
        record {
          rows =
              λ a b. receive_cases g me i p l (λ b a s n k. FromF F a b → Rising 0 (g.top a) k)
              (λ f. let y = arrives.oldest f.0 in
              rising_low 0 (omega arith) (rising_tail (rw y.1 at (h.rows i me f))))
              (λ b a. h.rows a b) b a;
          rising =
              λ a b. got_cases g me i p l (λ b a m n k. OfTwo a b (Rising n (g.top a) k))
              (λ oi om ne. let y = arrives.oldest oi in
              rw y.2 at (rising_tail (rw y.1 at (h.rising i me oi om ne))))
              (λ b a. h.rising a b) b a;
          top_num = h.top_num;
          acc_got = λ a b. got_cases g me i p l (λ b a m n k. OfTwo a b (m ≤ n)) (λ oi om ne. omega arith)
              (λ b a. h.acc_got a b) b a;
          told =
              λ a b. receive_cases g me i p l
              (λ b a s n k. OfTwo a b (Every (λ x. used_for x.proposal b ≤ g.top b) k))
              (λ oi om ne. every_tail (rw (arrives.oldest oi).1 at (h.told i me oi om ne)))
              (λ b a. h.told a b) b a;
          kept =
              λ a b. receive_cases g me i p l
              (λ b a s n k. OfTwo a b (s.present ≡ true → s.proposal.number ≡ n))
              (λ oi om ne e. refl)
              (λ b a. h.kept a b) b a;
          kept_used =
              λ a b. receive_cases g me i p l
              (λ b a s n k. OfTwo a b (s.present ≡ true → used_for s.proposal b ≤ g.num b))
              (λ oi om ne e. let y = arrives.oldest oi in
              let u : used_for p me ≤ g.top me = rw y.2 at (every_head (rw y.1 at (h.told i me oi om ne))) in
              let v = h.top_num me om in
              omega arith)
              (λ b a. h.kept_used a b) b a;
          used_acc =
              λ a b. receive_cases g me i p l (λ b a s n k. OfTwo a b (g.used b a ≤ n))
              (λ oi om ne.
              let y = arrives.oldest oi in
              let r = rising_head (rw y.1 at (h.rising i me oi om ne)) in
              let u = h.used_acc i me oi om ne in
              let v = h.acc_got i me oi om ne in
              rw (← y.2) (omega arith))
              (λ b a. h.used_acc a b) b a;
          with_seat =
              λ a o. receive_cases g me i p l
              (λ a o s n k. InF F a → o < 16 → (o ≡ a → ⊥) → s.present ≡ true
              → serves s.proposal.members.bits o ≡ true)
              (λ om oi ne e. arrives.with_seat)
              (λ a o. h.with_seat a o) a o;
          own_kept =
              λ a. receive_cases g me i p l
              (λ a b s n k. b ≡ a → InF F a → s.present ≡ true → s.proposal.number ≤ g.num a)
              (λ e. absurd (arrives.others e))
              (λ a b e o. rw e (h.own_kept a o)) a a refl;
          own_used = h.own_used;
        }

  module _ (g : Offices) (me : ℕ) (m : Mode) (p : Proposal) (t : ℕ) (h : Numbers F g) (om : InF F me) {kind : ℕ}
      (makes : Proposes g me kind p) where
    abbrev said : Offices
    said = propose g me m p t

    -- the largest number that left rises with what leaves, up to the own number
    abbrev new_top : ℕ
    new_top = ifb (has_recipient p) p.number (g.top me)

    top_rises : (g.top me ≤ new_top) × (new_top ≤ p.number)
    top_rises =
        let n = h.top_num me om in
        let l = makes.above in
        if_cases (λ (x : ℕ). (g.top me ≤ x) × (x ≤ p.number)) (has_recipient p) p.number (g.top me)
        (λ e. (omega arith, omega arith)) (λ e. (omega arith, omega arith))

    said_top : (a : ℕ) → g.top a ≤ said.top a
    unfolding propose
    said_top a = propose_tops g me m p t (λ a n x r. g.top a ≤ x) top_rises.0 (λ a n. omega arith) a

    -- the numbers that it tells have left
    pub said_used : (b : ℕ) → InF F b → (me ≡ b → ⊥) → used_for p b ≤ said.top b
    said_used b ob ne =
        let u = h.used_acc b me ob om (λ e. ne (sym e)) in
        let v = h.acc_got b me ob om (λ e. ne (sym e)) in
        let r = rising_le (h.rising b me ob om (λ e. ne (sym e))) in
        let n = said_top b in
        rw (makes.with_used_lem b ob.0)
        (if_cases (λ x. x ≤ said.top b) (serves (g.net me) b) (g.used me b) 0 (λ e. omega arith) (λ e. omega arith))

    said_told : (a b : ℕ) → InF F a → InF F b → (a ≡ b → ⊥)
        → Every (λ x. used_for x.proposal b ≤ said.top b) (g.link a b)
    said_told a b oa ob ne = let n = said_top b in every_map (λ x u. omega arith) (h.told a b oa ob ne)

    -- a row that rises goes on rising
    said_row : (lo b : ℕ) → b < 16 → Rising lo (g.top me) (g.link me b)
        → Rising lo new_top (g.link me b ++ mail_to t p b)
    said_row lo b lt r =
        let l = makes.above in
        let n = h.top_num me om in
        if_cases (λ (k : List Item). Rising lo new_top (g.link me b ++ k))
        (serves p.members.bits b && not (eqb b p.sender)) (item_of t p ∷ []) []
        (λ e. let some : has_recipient p ≡ true = anyb_in 16 (receives p) b lt (unfold receives in e) in
        rw some (rising_snoc (item_of t p) (omega arith) r))
        (λ e. rw append-nil (rising_high new_top top_rises.0 r))

    said_own : (a : ℕ) → InF F a → (said.stored a a).present ≡ true → (said.stored a a).proposal.number ≤ said.num a
    unfolding propose
    said_own a oa = go (ℕ_discrete a me)
      where
        go : Dec (a ≡ me) → (said.stored a a).present ≡ true → (said.stored a a).proposal.number ≤ said.num a
        go (yes e) = rw (e, upd2_same g.stored me me (keeping p), upd_same g.num me p.number)
            (λ q. omega arith)
        go (no n) = rw (
          upd2_other g.stored me me (keeping p) a a (λ e k. n e),
          upd_other g.num me p.number a n,
        ) (h.own_kept a oa)

    pub numbers_propose : Numbers F said
    unfolding propose
    numbers_propose =
        record {
          rows = λ a b. propose_tops g me m p t (λ a n x r. FromF F a b → Rising 0 x (r b))
              (λ f. said_row 0 b f.1 (h.rows me b f)) (λ a n. h.rows a b) a;
          rising =
              λ a b. propose_tops g me m p t (λ a n x r. OfTwo a b (Rising (g.got b a) x (r b)))
              (λ om ob ne. said_row (g.got b me) b ob.0 (h.rising me b om ob ne)) (λ a n. h.rising a b) a;
          top_num = λ a. propose_tops g me m p t (λ a n x r. InF F a → x ≤ n) (λ om. top_rises.1)
              (λ a n. h.top_num a) a;
          acc_got = h.acc_got;
          told =
              λ a b. propose_tops g me m p t
              (λ a n x r. OfTwo a b (Every (λ x. used_for x.proposal b ≤ said.top b) (r b)))
              (λ om ob ne. every_append (said_told me b om ob ne)
              (mail_cases t p b (λ k. Every (λ x. used_for x.proposal b ≤ said.top b) k)
              (more (said_used b ob ne) none) none))
              (λ a n. said_told a b) a;
          kept =
              λ a b oa ob ne. said_stored g me m p t (λ s. s.present ≡ true → s.proposal.number ≡ g.acc b a) b a
              (λ e. ne (sym e)) (h.kept a b oa ob ne);
          kept_used =
              λ a b oa ob ne. said_stored g me m p t (λ s. s.present ≡ true → used_for s.proposal b ≤ said.num b)
              b a (λ e. ne (sym e))
              (λ e. let u = h.kept_used a b oa ob ne e in let n = said_num g me m p t makes b in omega arith);
          used_acc = h.used_acc;
          with_seat =
              λ a o oa lt ne. said_stored g me m p t (λ s. s.present ≡ true
              → serves s.proposal.members.bits o ≡ true) a o (λ e. ne (sym e))
              (h.with_seat a o oa lt ne);
          own_kept = said_own;
          own_used = λ a oa. let u = h.own_used a oa in let n = said_num g me m p t makes a in omega arith;
        }

  module _ (g : Offices) (me t : ℕ) (h : Numbers F g) (all_agree : Agreed g me) where
    -- what the view counts is there
    agreed_number : (a : ℕ) → a < 16 → serves (g.net me) a ≡ true → number_in (g.stored me a) ≡ (other g me a).number
    agreed_number a lt e = rw (all_agree.every a lt e).0.0

    pub numbers_conclude : Numbers F (conclude g me t)
    unfolding conclude
    numbers_conclude =
        record {
          rows = h.rows;
          rising = h.rising;
          top_num = h.top_num;
          acc_got = h.acc_got;
          told = h.told;
          kept =
              λ a b. conclude_cases g me t
              (λ b a s u. OfTwo a b (s.present ≡ true → s.proposal.number ≡ g.acc b a))
              (λ a v oa ob ne e. absurd (true_false false e refl))
              (λ b a. h.kept a b) b a;
          kept_used =
              λ a b. conclude_cases g me t
              (λ b a s u. OfTwo a b (s.present ≡ true → used_for s.proposal b ≤ g.num b))
              (λ a v oa ob ne e. absurd (true_false false e refl))
              (λ b a. h.kept_used a b) b a;
          used_acc =
              λ a b. conclude_cases g me t (λ b a s u. OfTwo a b (u ≤ g.acc b a))
              (λ a v oa ob ne.
              let n = agreed_number a oa.0 v in
              let k = h.kept a me oa ob ne (all_agree.every a oa.0 v).0.0 in
              omega arith)
              (λ b a. h.used_acc a b) b a;
          with_seat =
              λ a o. conclude_cases g me t
              (λ a o s u. InF F a → o < 16 → (o ≡ a → ⊥) → s.present ≡ true
              → serves s.proposal.members.bits o ≡ true)
              (λ o v oa lt ne e. absurd (true_false false e refl))
              (λ a o. h.with_seat a o) a o;
          own_kept =
              λ a. conclude_cases g me t (λ a b s u. b ≡ a → InF F a → s.present ≡ true
              → s.proposal.number ≤ g.num a)
              (λ b v e o q. absurd (true_false false q refl))
              (λ a b e o. rw e (h.own_kept a o)) a a refl;
          own_used =
              λ a. conclude_cases g me t (λ a b s u. b ≡ a → InF F a → u ≤ g.num a)
              (λ b v e o.
              let w : serves (g.net me) me ≡ true = rw e at v in
              let n = agreed_number me o.0 w in
              let k = h.own_kept me o (all_agree.every me o.0 w).0.0 in
              rw e (omega arith))
              (λ a b e o. rw e (h.own_used a o)) a a refl;
        }

  -- cut off when ws has left, begun again at m
  module _ (g : Offices) (me m : ℕ) (ws : List Written) (t : ℕ) (h : Numbers F g) (om : InF F me)
      (k : Restarts g me m ws) where
    abbrev again : Offices
    again = restart g me m ws t

    -- the parts of an office: of the one that is cut off, and of the others
    again_cases : (P : ℕ → ℕ → ℕ → (ℕ → Slot) → (ℕ → ℕ) → (ℕ → ℕ) → (ℕ → List Item) → Type 0)
        → P me m (top_after ws (g.top me)) (λ o. nothing) (λ o. 0) (λ o. 0) (λ j. g.link me j ++ mail t j ws)
        → ((a : ℕ) → (a ≡ me → ⊥) → P a (g.num a) (g.top a) (g.stored a) (g.acc a) (g.used a) (g.link a))
        → (a : ℕ) → P a (again.num a) (again.top a) (again.stored a) (again.acc a) (again.used a) (again.link a)
    unfolding restart
    again_cases P at old a = go (ℕ_discrete a me)
      where
        go : Dec (a ≡ me) → P a (again.num a) (again.top a) (again.stored a) (again.acc a) (again.used a)
            (again.link a)
        go (yes e) = rw e (simp upd_same at)
        go (no n) = simp upd_other (old a n)

    again_row : (lo b : ℕ) → Rising lo (g.top me) (g.link me b)
        → Rising lo (top_after ws (g.top me)) (g.link me b ++ mail t b ws)
    again_row lo b r = climbs_row t b (h.top_num me om) k.climbs r

    again_top : (a : ℕ) → InF F a → g.top a ≤ again.top a
    again_top a oa = again_cases (λ a n x s c u r. InF F a → g.top a ≤ x)
        (λ o. climbs_up (h.top_num me o) k.climbs) (λ a n o. omega arith) a oa

    again_told : (a b : ℕ) → InF F a → InF F b → (a ≡ b → ⊥)
        → Every (λ x. used_for x.proposal b ≤ again.top b) (g.link a b)
    again_told a b oa ob ne = let n = again_top b ob in every_map (λ x u. omega arith) (h.told a b oa ob ne)

    new_told : (b : ℕ) → InF F b → (me ≡ b → ⊥) → Every (λ x. used_for x.proposal b ≤ again.top b) (mail t b ws)
    new_told b ob ne =
        let u = h.used_acc b me ob om (λ e. ne (sym e)) in
        let v = h.acc_got b me ob om (λ e. ne (sym e)) in
        let r = rising_le (h.rising b me ob om (λ e. ne (sym e))) in
        let n = again_top b ob in
        told_mail t b (again.top b) ob.0 (omega arith) k.tells

    pub numbers_restart : Numbers F again
    unfolding restart
    numbers_restart =
        record {
          rows = λ a b. again_cases (λ a n x s c u r. FromF F a b → Rising 0 x (r b))
              (λ f. again_row 0 b (h.rows me b f)) (λ a n. h.rows a b) a;
          rising =
              λ a b. again_cases (λ a n x s c u r. OfTwo a b (Rising (g.got b a) x (r b)))
              (λ oa ob ne. again_row (g.got b me) b (h.rising me b oa ob ne))
              (λ a n. h.rising a b) a;
          top_num = λ a. again_cases (λ a n x s c u r. InF F a → x ≤ n) (λ o. k.above) (λ a n. h.top_num a) a;
          acc_got = λ a b. again_cases (λ b n x s c u r. OfTwo a b (c a ≤ g.got b a)) (λ oa ob ne. omega arith)
              (λ b n. h.acc_got a b) b;
          told =
              λ a b. again_cases (λ a n x s c u r. OfTwo a b
              (Every (λ x. used_for x.proposal b ≤ again.top b) (r b)))
              (λ oa ob ne. every_append (again_told me b oa ob ne) (new_told b ob ne)) (λ a n. again_told a b) a;
          kept =
              λ a b. again_cases (λ b n x s c u r. OfTwo a b ((s a).present ≡ true → (s a).proposal.number ≡ c a))
              (λ oa ob ne e. absurd (true_false false e refl)) (λ b n. h.kept a b) b;
          kept_used =
              λ a b. again_cases (λ b n x s c u r. OfTwo a b ((s a).present ≡ true → used_for (s a).proposal b ≤ n))
              (λ oa ob ne e. absurd (true_false false e refl)) (λ b n. h.kept_used a b) b;
          used_acc = λ a b. again_cases (λ b n x s c u r. OfTwo a b (u a ≤ c a)) (λ oa ob ne. omega arith)
              (λ b n. h.used_acc a b) b;
          with_seat =
              λ a o. again_cases (λ a n x s c u r. InF F a → o < 16 → (o ≡ a → ⊥) → (s o).present ≡ true
              → serves (s o).proposal.members.bits o ≡ true)
              (λ oa lt ne e. absurd (true_false false e refl)) (λ a n. h.with_seat a o) a;
          own_kept =
              λ a. again_cases (λ a n x s c u r. InF F a → (s a).present ≡ true → (s a).proposal.number ≤ n)
              (λ oa e. absurd (true_false false e refl))
              (λ a n. h.own_kept a) a;
          own_used = λ a. again_cases (λ a n x s c u r. InF F a → u a ≤ n) (λ oa. omega arith)
              (λ a n. h.own_used a) a;
        }

  pub numbers_slow_test : {t me : ℕ} {g h : Offices} → InF F me → Numbers F g → SlowTest t me g h → Numbers F h
  numbers_slow_test o n (not_called s) = n
  numbers_slow_test {t} {me} {g} o n (called p s k c) = numbers_propose g me Slow p t n o k

  pub numbers_agreement_test : {t me : ℕ} {g h : Offices} → Numbers F g → AgreementTest t me g h → Numbers F h
  numbers_agreement_test n (not_agreed _) = n
  numbers_agreement_test {t} {me} {g} n (agreed a) = numbers_conclude g me t n a

  pub numbers_tests : {t me : ℕ} {g h : Offices} → InF F me → Numbers F g → Tests t me g h → Numbers F h
  numbers_tests o n (both s a) = numbers_agreement_test (numbers_slow_test o n s) a

  -- every event keeps them
  pub numbers_acts : {w : World} {e : WorldEvent} {g h : Offices} → Numbers F g → Happens F w e g h → Numbers F h
  numbers_acts n (idles a) = n
  numbers_acts n (refuses o b) = n
  numbers_acts n (repeated o e) = n
  numbers_acts {g = g} n (loses {i = i} {j = j} {place = place} f) = numbers_relink g i j place n
  numbers_acts {g = g} n (drops {i = i} {j = j} f b) = numbers_relink g i j 0 n
  numbers_acts {g = g} n (leaves {me = me} x o c b) = numbers_renet g me x n
  numbers_acts {w} {g = g} n (reports {me = me} x p o c k s) =
      numbers_tests o (numbers_propose (renet g me x) me Fast p w.clock (numbers_renet g me x n) o k) s
  numbers_acts {g = g} n (stores {i = i} {me = me} p l a b) = numbers_receive g me i p l n a
  numbers_acts n (restarts_apart out takes_nothing) = n
  numbers_acts {g = g} n (restarts_apart {o = o} out (takes_front {i = i} f)) = numbers_relink g i o 0 n
  numbers_acts {w} n (restarts {h = h} {me = me} {m = m} ws o takes_nothing r) =
      numbers_restart h me m ws w.clock n o r
  numbers_acts {w} {g = g} n (restarts {h = h} {me = me} {m = m} ws o (takes_front {i = i} f) r) =
      numbers_restart h me m ws w.clock (numbers_relink g i me 0 n) o r
  numbers_acts {g = g} n (answers {i = i} {me = me} p l a b s) =
      numbers_tests a.at_office (numbers_receive g me i p l n a) s
