-- The bound on the deliveries. After T every proposal is slow. A round number is opened by an item sent before T or
-- by an office whose last proposal is fast; every other slow proposal joins a round, and no office makes two of the
-- same number.
use mathlib.Core.Path.{◌≡◌, refl, sym, ap, ◌∙◌}
use mathlib.Core.Bool.{Bool, true, false, ◌&&◌, not}
use mathlib.Core.Logic.{◌⊎◌, inl, inr}
use mathlib.Core.List.{List, [], ◌∷◌, ◌++◌, Memᴰ}
use Prim.Native.Nat.{ℕ, suc, ◌+◌, ◌-◌, ◌*◌, ◌≤◌, ◌<◌}
use native.Mathlib.Omega.{arith}
use native.Mathlib.Nat.{mul-le-mul_left}
use lib.ListN.{length, length-append}
use lib.Dec.{eqb, ltb}
use borrow.Author.Tests.{ltb-false, eqb-false, ne_eqb, not-true}
use Rattle.laws.specs.Lists.{Every, none, more}
use Rattle.laws.proofs.Lists.{every_append, every_head, every_map, every_tail}
use Rattle.laws.specs.Upd.{upd, ifb, upd2}
use Rattle.laws.proofs.Upd.{upd_same, upd_other, upd_cases, upd_both}
use Rattle.laws.proofs.Fin.{and_l, and_r, if_cases, if_le}
use Rattle.seats.specs.Offices.{serves, count_of}
use Rattle.records.specs.declared.Proposal.{Proposal}
use Rattle.rules.specs.State.{Slow, fast, slow}
use Rattle.runs.specs.World.{Item, without}
use Rattle.laws.proofs.Grid.{upd2_cases}
use Rattle.runs.proofs.Arrays.{Offices, mail_to, propose, receive, conclude, relink, Proposes, Calls, Chosen}
use Rattle.runs.proofs.Arrays.{SlowTest, not_called, called, AgreementTest, not_agreed, agreed, both}
use Rattle.runs.proofs.Links.{every_without}
use Rattle.settling.specs.Statement.{between, on_way, OfA}
use Rattle.settling.proofs.Invariants.{Losing, Inv, HappensFairly, fair_idle, fair_loss, fair_cut, fair_leave}
use Rattle.settling.proofs.Invariants.{fair_report, fair_store, fair_answer}
use Rattle.settling.proofs.Count.{total, total_link, total_else, total_grow, total_mono, total_length, over}
use Rattle.settling.proofs.Count.{over_one, over_bound, is_old, older, older_length, older_snoc, older_without}
use Rattle.settling.proofs.Count.{length_without, up_to, up_to_length, up_to_entered}
use Rattle.settling.proofs.Joined.{Matched, joined}

-- the rounds r become r', so that n is one of them; a new one costs one of c
data Round (n c : ℕ) (r : List ℕ) : List ℕ → Type 0 where
  known : Memᴰ n r → Round n c r r
  opens : 1 ≤ c → Round n c r (n ∷ r)

module _ {n c : ℕ} {r : List ℕ} where
  round_mem : {r' : List ℕ} → Round n c r r' → Memᴰ n r'
  round_mem (known m) = m
  round_mem (opens h) = mathlib.Core.List.Memᴰ.head refl

  round_keeps : {r' : List ℕ} {m : ℕ} → Round n c r r' → Memᴰ m r → Memᴰ m r'
  round_keeps (known _) e = e
  round_keeps (opens h) e = mathlib.Core.List.Memᴰ.tail e

  round_up_to : {r' : List ℕ} (m : ℕ) → Round n c r r' → up_to m r ≤ up_to m r'
  unfolding up_to
  round_up_to m (known _) = omega arith
  round_up_to m (opens h) = omega arith

  round_length : {r' : List ℕ} → Round n c r r' → length r' ≤ c + length r
  round_length (known _) = omega arith
  round_length (opens h) = omega arith

pub not_slow : Proposal → ℕ
not_slow p = ifb (eqb p.kind slow) 0 1

module _ (A : ℕ) (last : ℕ → ℕ) (T P : ℕ) (reported : (i : ℕ) → OfA A i → last i < T) where
  -- an item sent from T on is slow, of A and of one of the rounds r
  abbrev pub OfRound : List ℕ → Item → Type 0
  OfRound r x = T ≤ x.sent → (x.proposal.kind ≡ slow) × (x.proposal.members.bits ≡ A)
      × Memᴰ x.proposal.number r

  -- since T: the rounds r, the number s of slow proposals of each office, d deliveries; e more rounds may be opened
  -- now
  pub record Since (e : ℕ) (r : List ℕ) (s : ℕ → ℕ) (d : ℕ) (g : Offices) : Type 0 where
    of_round : (i j : ℕ) → OfA A i → OfA A j → (i ≡ j → ⊥) → Every (OfRound r) (g.link i j)
    rounds : e + length r + total A (older T) g.link + over A (λ i. not_slow (g.made i)) ≤ P + count_of A
    proposals : (i : ℕ) → OfA A i → s i ≤ up_to (g.num i) r
    moved : d + total A length g.link ≤ P + (count_of A - 1) * over A s

  -- a proposal of A goes to every other office of A
  mailed : (me t j : ℕ) (p : Proposal) → p.sender ≡ me → p.members.bits ≡ A → between A me j ≡ true
      → mail_to t p j ≡ record { proposal = p; sent = t } ∷ []
  mailed me t j p a b h =
      let there : serves A j ≡ true =
      and_r (serves A me) (serves A j) (and_l (serves A me && serves A j) (not (eqb me j)) h) in
      let ne = eqb-false me j (not-true (eqb me j) (and_r (serves A me && serves A j) (not (eqb me j)) h)) in
      rw (a, b, there, ne_eqb j me (λ e. ne (sym e)))

  module _ {e : ℕ} {r : List ℕ} {s : ℕ → ℕ} {d : ℕ} {g : Offices} where
    weaker : {e' d' : ℕ} → e' ≤ e → d' ≤ d → Since e r s d g → Since e' r s d' g
    weaker {e'} {d'} a b q =
        record {
          of_round = q.of_round;
          rounds = omega (arith, q.rounds);
          proposals = q.proposals;
          moved = omega (arith, q.moved);
        }

    -- one link changes, so that e' and d' are paid
    relinked : {e' d' : ℕ} (i j : ℕ) (l : List Item) → (OfA A i → OfA A j → (i ≡ j → ⊥) → Every (OfRound r) l)
        → e' + total A (older T) (upd2 g.link i j l) ≤ e + total A (older T) g.link
        → d' + total A length (upd2 g.link i j l) ≤ d + total A length g.link
        → Since e r s d g → Since e' r s d' (relink g i j l)
    unfolding relink
    relinked {e'} {d'} i j l all a b q =
        record {
          of_round = λ k m hk hm n. upd2_cases (λ k m l. OfA A k → OfA A m → (k ≡ m → ⊥) → Every (OfRound r) l)
              g.link i j l k m
              all (λ _. q.of_round k m) hk hm n;
          rounds = omega (arith, q.rounds);
          proposals = q.proposals;
          moved = omega (arith, q.moved);
        }

    lost : {t : ℕ} (i j place : ℕ) → Losing A last g i j place t → Since e r s d g
        → Since e r s d (relink g i j (without place (g.link i j)))
    lost i j place h q = go (serves A j) refl
      where
        l : List Item
        l = without place (g.link i j)

        go : (t : Bool) → serves A j ≡ t → Since e r s d (relink g i j l)
        go true v =
            let a = total_link A (older T) g.link i j l h.from_office (h.to_office, v) h.others in
            let b = total_link A length g.link i j l h.from_office (h.to_office, v) h.others in
            let c = older_without T place (g.link i j) in
            let f = length_without place (g.link i j) in
            relinked i j l (λ hi hj n. every_without place (g.link i j) (q.of_round i j hi hj n)) (omega arith)
            (omega arith) q
        go false v =
            let out : between A i j ≡ false = rw (h.from_office.1, v) in
            let a = total_else A (older T) g.link i j l h.from_office.0 h.to_office out in
            let b = total_else A length g.link i j l h.from_office.0 h.to_office out in
            relinked i j l (λ hi hj n. every_without place (g.link i j) (q.of_round i j hi hj n)) (omega arith)
            (omega arith) q

    -- an arrival is one delivery between offices of A, and takes an item away that may be old
    received : (me i : ℕ) (p : Proposal) (l : List Item) (x : Item) → OfA A me → OfA A i → (i ≡ me → ⊥)
        → g.link i me ≡ x ∷ l
        → Since e r s d g → Since (e + is_old T x) r s (d + 1) (receive g me i p l)
    unfolding receive relink older
    received me i p l x hm hi ne top q =
        let a = total_link A (older T) g.link i me l hi hm ne in
        let b = total_link A length g.link i me l hi hm ne in
        let c : older T (g.link i me) ≡ is_old T x + older T l = ap (older T) top in
        let f : length (g.link i me) ≡ suc (length l) = ap length top in
        let k : Since (e + is_old T x) r s (d + 1) (relink g i me l)
        = relinked i me l (λ hi hm n. every_tail (rw top at (q.of_round i me hi hm n))) (omega arith)
        (omega arith) q in
        record { of_round = k.of_round; rounds = k.rounds; proposals = k.proposals; moved = k.moved }

    -- or comes from elsewhere
    passed : (me i : ℕ) (p : Proposal) (l : List Item) → me < 16 → i < 16 → serves A i ≡ false
        → Since e r s d g → Since e r s d (receive g me i p l)
    unfolding receive relink
    passed me i p l hm hi out q =
        let apart : between A i me ≡ false = rw out in
        let a = total_else A (older T) g.link i me l hi hm apart in
        let b = total_else A length g.link i me l hi hm apart in
        let k : Since e r s d (relink g i me l)
        = relinked i me l (λ hi _ _. let z : ◌≡◌ {A = ℕ} 0 1 = cc hi.1 in absurd (omega arith)) (omega arith)
        (omega arith) q in
        record { of_round = k.of_round; rounds = k.rounds; proposals = k.proposals; moved = k.moved }

    -- a slow proposal, of a round that is known or may be opened
    proposed : (me t : ℕ) (p : Proposal) (r' : List ℕ) → OfA A me → T ≤ t → g.net me ≡ A → Proposes g me slow p
        → Round p.number (e + not_slow (g.made me)) r r'
        → Since e r s d g → Since 0 r' (upd s me (s me + 1)) d (propose g me Slow p t)
    unfolding propose not_slow
    proposed me t p r' hm ht net h n q =
        let new : Item = record { proposal = p; sent = t } in
        let row : ℕ → List Item = λ j. g.link me j ++ mail_to t p j in
        let mail : (j : ℕ) → between A me j ≡ true → mail_to t p j ≡ new ∷ [] =
        λ j b. mailed me t j p h.from (h.of_net ∙ net) b in
        let a = total_grow A (older T) g.link me row 0 hm
        (λ j b. rw (mail j b, older_snoc T (g.link me j) new ht) (omega arith)) in
        let b = total_grow A length g.link me row 1 hm
        (λ j b. rw (mail j b) (length-append (g.link me j) (new ∷ []))) in
        let c = over_one A (λ i. not_slow (upd g.made me p i)) (λ i. not_slow (g.made i)) me hm
        (λ k n. ap not_slow (upd_other g.made me p k n)) in
        let c' : not_slow (upd g.made me p me) ≡ 0 = rw (upd_same, h.of_kind) in
        let f = over_one A (upd s me (s me + 1)) s me hm (λ k n. upd_other s me (s me + 1) k n) in
        let f' : upd s me (s me + 1) me ≡ s me + 1 = upd_same s me (s me + 1) in
        let one_more : over A (upd s me (s me + 1)) ≡ over A s + 1 = omega arith in
        let z = round_length n in
        let keep : (i j : ℕ) → OfA A i → OfA A j → (i ≡ j → ⊥) → Every (OfRound r') (g.link i j)
        = λ i j hi hj ne. every_map (λ x f ge. let v = f ge in (v.0, v.1, round_keeps n v.2))
        (q.of_round i j hi hj ne) in
        record {
          of_round = λ i j hi hj ne. upd_cases (λ k row. OfA A k → (k ≡ j → ⊥) → Every (OfRound r') (row j))
              g.link me row i
              (λ hi ne. every_append (keep me j hi hj ne)
              (if_cases (Every (OfRound r')) (serves p.members.bits j && not (eqb j p.sender)) _ _
              (λ _. more (λ _. (h.of_kind, h.of_net ∙ net, round_mem n)) none) (λ _. none)))
              (λ _ hi ne. keep i j hi hj ne) hi ne;
          rounds = omega (arith, q.rounds);
          proposals = λ i hi. upd_both (λ v m. v ≤ up_to m r') s g.num me (s me + 1) p.number i
              (omega (arith, q.proposals me hm, round_up_to (g.num me) n, up_to_entered (round_mem n) h.above))
              (omega (arith, q.proposals i hi, round_up_to (g.num i) n));
          moved = rw one_more (omega (arith, q.moved));
        }

    -- a view moves nothing
    agreement_tested : {t me : ℕ} {h : Offices} → AgreementTest t me g h → Since e r s d g → Since e r s d h
    unfolding conclude
    agreement_tested (not_agreed _) q = q
    agreement_tested (agreed _) q =
        record { of_round = q.of_round; rounds = q.rounds; proposals = q.proposals; moved = q.moved }

  abbrev pub Goes : ℕ → Offices → Type 0
  Goes d g = (r : List ℕ) × (s : ℕ → ℕ) × Since 0 r s d g

  module _
      {r : List ℕ} {s : ℕ → ℕ} {d : ℕ} {g : Offices} {me i : ℕ} {p : Proposal} {l : List Item} {x : Item} {t : ℕ}
      (inv : Inv A last t g)
      (q : Since 0 r s d g) (a : Matched A last t g me i p l x)
    where
      -- the round of a proposal that answers the item x
      round_of : (n : ℕ) → Calls (receive g me i p l) me → Chosen (receive g me i p l) me n
          → (r' : List ℕ) × Round n (0 + is_old T x + not_slow (g.made me)) r r'
      unfolding not_slow
      round_of n c ch = go (ltb x.sent T) refl (inv.core.book.made_kind me a.at)
        where
          go : (t : Bool) → ltb x.sent T ≡ t → ((g.made me).kind ≡ fast) ⊎ ((g.made me).kind ≡ slow)
              → (r' : List ℕ) × Round n (0 + is_old T x + not_slow (g.made me)) r r'
          go true o k = let b : is_old T x ≡ 1 = rw o in (n ∷ r, opens (omega arith))
          go false o (inl k) = let b : not_slow (g.made me) ≡ 1 = rw k in (n ∷ r, opens (omega arith))
          go false o (inr k) =
              let v = every_head (rw a.oldest at (q.of_round i me a.from a.at.0 a.others))
              (ltb-false x.sent T o) in
              let b : p.kind ≡ slow = rw a.same at v.0 in
              let m : Memᴰ p.number r = rw a.same at v.2 in
              (r, known (rw (joined inv a b k c ch) m))

      slow_tested : {c : ℕ} {h : Offices} → T ≤ c → SlowTest c me (receive g me i p l) h → Goes (d + 1) h
      unfolding receive
      slow_tested ht (not_called _) = (
        _,
        _,
        weaker (omega arith) (omega arith)
            (received me i p l x a.at.0 a.from a.others a.oldest q),
      )
      slow_tested {c = v} ht (called p' c pr ch) =
          let n = round_of p'.number c ch in
          let k = received me i p l x a.at.0 a.from a.others a.oldest q in
          (n.0, _, proposed me v p' n.0 a.at.0 ht (inv.core.book.net_a me a.at) pr n.1 k)

  -- no report is left
  still : {t me : ℕ} → OfA A me → T ≤ t → t ≤ last me → ⊥
  still {me = me} a ht o = let b = reported me a in omega arith

  pub acted : {d t n : ℕ} {g h : Offices} → Inv A last t g → T ≤ t → HappensFairly A last t n g h → Goes d g
      → Goes (d + n) h
  acted inv ht (fair_idle _) (r, s, q) = (_, _, weaker (omega arith) (omega arith) q)
  acted inv ht (fair_loss i j place _ b) (r, s, q) = (_, _, weaker (omega arith) (omega arith) (lost i j place b q))
  acted inv ht (fair_cut me m ws o f u r) q = let x = f me o in absurd (still o ht (omega arith))
  acted inv ht (fair_leave me x _ a o) q = absurd (still a ht o)
  acted inv ht (fair_report me x p b u) q = absurd (still b.at_office ht b.open_yet)
  acted {d = d} {g = g} inv ht (fair_store me i p l _ b no-match) (r, s, q) = go (serves A i) refl
    where
      go : (t : Bool) → serves A i ≡ t → Goes (d + ifb t 1 0) (receive g me i p l)
      go true e = let o = b.oldest (b.from_office, e) in (
        _,
        _,
        weaker (omega arith) (omega arith)
            (received me i p l o.0 b.at_office (b.from_office, e) b.others o.1 q),
      )
      go false e = (_, _, weaker (omega arith) (omega arith) (passed me i p l b.at_office.0 b.from_office e q))
  acted {t = t} {g = g} inv ht (fair_answer me i p l _ b m (both u v)) (r, s, q) =
      let done : last me < t = let z = reported me b.at_office in omega arith in
      let e : serves A i ≡ true = rw (m ∙ inv.core.book.net_a me (b.at_office, done)) at b.with_seat in
      let o = b.oldest (b.from_office, e) in
      let a : Matched A last t g me i p l o.0
      = record {
        at = (b.at_office, done);
        from = (b.from_office, e);
        others = b.others;
        oldest = o.1;
        same = o.2;
        matches = m;
      } in
      let w = slow_tested inv q a ht u in
      (w.0, w.1, rw e (agreement_tested v w.2))

  -- what has been delivered so far
  pub deliveries_bound : {d : ℕ} {g : Offices} → Goes d g → d ≤ P + count_of A * (count_of A - 1) * (P + count_of A)
  deliveries_bound {d} {g} (r, s, q) =
      let a = over_bound A s (P + count_of A)
      (λ i hi. omega (arith, q.proposals i hi, up_to_length (g.num i) r, q.rounds)) in
      let b = mul-le-mul_left (count_of A - 1) a in
      omega (arith, q.moved)

-- at T
pub at_first_lem : (A : ℕ) (last : ℕ → ℕ) (T : ℕ) (reported : (i : ℕ) → OfA A i → last i < T) (g : Offices)
    → ((i j : ℕ) → OfA A i → OfA A j → (i ≡ j → ⊥) → Every (λ x. x.sent < T) (g.link i j))
    → Goes A last T (on_way A g.link) reported 0 g
unfolding not_slow
at_first_lem A last T reported g early =
    let a = total_length A g.link in
    let b = total_mono A (older T) length g.link (older_length T) in
    let c = over_bound A (λ i. not_slow (g.made i)) 1
    (λ i _. if_le (eqb (g.made i).kind slow) 0 1 1 (omega arith) (omega arith)) in (
      [],
      (λ _. 0),
      record {
        of_round = λ i j hi hj n. every_map (λ x lt ge. absurd (omega arith)) (early i j hi hj n);
        rounds = omega arith;
        proposals = λ i hi. omega arith;
        moved = omega arith;
      },
    )
