-- Quiet implies settled: where every last report has come and the links between the offices of A are empty, no round
-- is open, and every office of A has sent one and the same view since its last report.
use mathlib.Core.Path.{◌≡◌, refl, sym, ap, ◌∙◌}
use mathlib.Core.Bool.{true}
use mathlib.Core.Logic.{◌⊎◌, inl, inr}
use mathlib.Core.List.{List, [], ◌∷◌}
use Prim.Native.Nat.{ℕ, ◌≤◌, ◌<◌}
use native.Mathlib.Omega.{arith}
use native.Mathlib.Decide.{ℕ_discrete}
use Rattle.seats.specs.Offices.{serves}
use Rattle.rules.specs.State.{Mode, None, Fast, Slow, fast, slow, kind_of, keeping, used_for}
use Rattle.runs.specs.World.{SentView}
use Rattle.runs.proofs.Links.{snoc_not_nil}
use Rattle.runs.proofs.Arrays.{Offices, Match, Agrees, view_with}
use Rattle.runs.proofs.RulesArrays.{view_ext}
use Rattle.settling.specs.Statement.{OfA}
use Rattle.settling.proofs.Invariants.{Done, Inv, Place, on_its_way, is_stored, counted}

-- the last proposals of i and j are of one kind and round, and the last view of j has the start number of i
abbrev OneRound : Offices → ℕ → ℕ → Type 0
OneRound g i j =
    ((g.made i).kind ≡ (g.made j).kind) × ((g.made i).kind ≡ slow → g.num i ≡ g.num j)
    × (g.seen j i ≡ (g.made i).start)

-- an open round is fast or slow
fast_busy : {m : Mode} → m ≡ Fast → m ≡ None → ⊥
fast_busy e n = let z : ◌≡◌ {A = ℕ} 0 1 = cc in omega arith

slow_busy : {m : Mode} → m ≡ Slow → m ≡ None → ⊥
slow_busy e n = let z : ◌≡◌ {A = ℕ} 0 1 = cc in omega arith

module _ (A : ℕ) (last : ℕ → ℕ) (t : ℕ) (g : Offices) (v : Inv A last t g) (all : (i : ℕ) → OfA A i → Done A last t i)
    (empty : (i j : ℕ) → OfA A i → OfA A j → (i ≡ j → ⊥) → g.link i j ≡ []) where
  not_used : (i j : ℕ) → OfA A i → OfA A j → (i ≡ j → ⊥) → used_for (g.made i) j ≡ g.num j → ⊥
  not_used i j a b n e = v.not_arrived i j (all i a) (all j b) n e (empty i j a b n)

  -- the last proposal of i is stored at j, or counted there
  arrived : (i j : ℕ) → OfA A i → OfA A j → (i ≡ j → ⊥)
      → (g.stored j i ≡ keeping (g.made i)) ⊎ (g.used j i ≡ g.num i)
  arrived i j a b n = go (v.core.book.place i j (all i a) b n)
    where
      go : Place A last g i j → (g.stored j i ≡ keeping (g.made i)) ⊎ (g.used j i ≡ g.num i)
      go (on_its_way l x e p q) = absurd (snoc_not_nil l x (sym e ∙ empty i j a b n))
      go (is_stored e s) = inl s
      go (counted e s u) = inr u

  matches : (i j : ℕ) → OfA A i → OfA A j → g.stored i j ≡ keeping (g.made j) → Match g i j
  matches i j a b e = (
    ap (λ s. s.present) e,
    ap (λ s. s.proposal.members.bits) e ∙ v.core.book.made_a j (all j b)
        ∙ sym (v.core.book.net_a i (all i a)),
  )

  -- an open round has every last proposal
  open_has : (i j : ℕ) → OfA A i → OfA A j → (j ≡ i → ⊥) → (g.mode i ≡ None → ⊥) → g.stored i j ≡ keeping (g.made j)
  open_has i j a b n busy = go (arrived j i b a n)
    where
      go : (g.stored i j ≡ keeping (g.made j)) ⊎ (g.used i j ≡ g.num j) → g.stored i j ≡ keeping (g.made j)
      go (inl s) = s
      go (inr u) = absurd
          (not_used i j a b (λ e. n (sym e)) (v.core.rounds.own_used i j (all i a) b (λ e. n (sym e)) busy ∙ u))

  -- so if all are of its kind, and in a slow round of its number, it agrees
  no_round : (i : ℕ) → OfA A i → (g.mode i ≡ None → ⊥)
      → ((j : ℕ) → OfA A j → (j ≡ i → ⊥) → ((g.made j).kind ≡ kind_of (g.mode i))
      × (g.mode i ≡ Slow → g.num j ≡ g.num i)) → ⊥
  no_round i a busy f = (v.tested i (all i a)).not_agreed (record { busy = busy; every = every })
    where
      own : g.stored i i ≡ keeping (g.made i) → Agrees g i i
      own s = (
        matches i i a a s,
        ap (λ s. s.proposal.kind) s ∙ v.core.rounds.own_kind i (all i a) busy,
        λ m. ap (λ s. s.proposal.number) s ∙ v.core.book.made_num i (all i a),
      )

      each : (o : ℕ) → OfA A o → Dec (o ≡ i) → Agrees g i o
      each o b (yes e) = rw e (own (v.core.rounds.own_stored i (all i a) busy))
      each o b (no n) =
          let s = open_has i o a b n busy in
          let e : (g.stored i o).proposal.number ≡ g.num o = ap (λ s. s.proposal.number) s
          ∙ v.core.book.made_num o (all o b) in
          (matches i o a b s, ap (λ s. s.proposal.kind) s ∙ (f o b n).0, λ m. e ∙ (f o b n).1 m)

      every : (o : ℕ) → o < 16 → serves (g.net i) o ≡ true → Agrees g i o
      every o l s = each o (l, rw (v.core.book.net_a i (all i a)) at s) (ℕ_discrete o i)

  no_fast : (i : ℕ) → OfA A i → g.mode i ≡ Fast → ⊥
  no_fast i a m = no_round i a (fast_busy m)
      (λ j b n. (go j b n (v.core.book.made_kind j (all j b)), λ q. let z : Slow ≡ Fast = sym q ∙ m in cc))
    where
      go : (j : ℕ) → OfA A j → (j ≡ i → ⊥) → ((g.made j).kind ≡ fast) ⊎ ((g.made j).kind ≡ slow)
          → (g.made j).kind ≡ kind_of (g.mode i)
      go j b n (inl k) = rw m k
      go j b n (inr k) =
          let s = open_has i j a b n (fast_busy m) in
          absurd (((v.tested i (all i a)).quiet (fast_busy m)).no_slow m j b.0 n (matches i j a b s)
          (ap (λ s. s.proposal.kind) s ∙ k))

  -- two slow rounds have one number
  not_above_lem : (i j : ℕ) → OfA A i → OfA A j → (j ≡ i → ⊥) → g.mode i ≡ Slow → g.mode j ≡ Slow → g.num j ≤ g.num i
  not_above_lem i j a b n m q =
      let s = open_has i j a b n (slow_busy m) in
      let k = v.core.rounds.own_kind j (all j b) (slow_busy q) in
      let e : (g.stored i j).proposal.number ≡ g.num j = ap (λ s. s.proposal.number) s
      ∙ v.core.book.made_num j (all j b) in
      let h = ((v.tested i (all i a)).quiet (slow_busy m)).not_above_lem m j b.0 n (matches i j a b s)
      (ap (λ s. s.proposal.kind) s ∙ (rw q at k)) in
      omega arith

  -- a round that ended counted every last proposal, all of one kind and round
  ended : (i j : ℕ) → OfA A i → OfA A j → (i ≡ j → ⊥) → g.mode j ≡ None → OneRound g i j
  ended i j a b n m = go (arrived i j a b n)
    where
      new : (used_for (g.made j) i ≡ g.num i) ⊎ OneRound g i j → OneRound g i j
      new (inl u) = absurd (not_used j i b a (λ e. n (sym e)) u)
      new (inr c) = c

      go : (g.stored j i ≡ keeping (g.made i)) ⊎ (g.used j i ≡ g.num i) → OneRound g i j
      go (inl s) = absurd ((v.tested j (all j b)).in_mode_none m i a.0 n (matches j i b a s))
      go (inr u) = new (v.core.rounds.counts i j (all i a) (all j b) n m u)

  no_slow : (i : ℕ) → OfA A i → g.mode i ≡ Slow → ⊥
  no_slow i a m = no_round i a (slow_busy m) (λ j b n. rw m (go j b n (g.mode j) refl))
    where
      own_slow : (g.made i).kind ≡ slow
      own_slow = rw m at (v.core.rounds.own_kind i (all i a) (slow_busy m))

      go : (j : ℕ) → OfA A j → (j ≡ i → ⊥) → (q : Mode) → g.mode j ≡ q → ((g.made j).kind ≡ slow)
          × (Slow ≡ Slow → g.num j ≡ g.num i)
      go j b n None q = let c = ended i j a b (λ e. n (sym e)) q in (sym c.0 ∙ own_slow, λ x. sym (c.1 own_slow))
      go j b n Fast q = absurd (no_fast j b q)
      go j b n Slow q =
          let k = v.core.rounds.own_kind j (all j b) (slow_busy q) in
          let l = not_above_lem i j a b n m q in
          let r = not_above_lem j i b a (λ e. n (sym e)) q m in
          (rw q at k, λ x. omega arith)

  pub quiet_none : (i : ℕ) → OfA A i → g.mode i ≡ None
  quiet_none i a = go (g.mode i) refl
    where
      go : (q : Mode) → g.mode i ≡ q → g.mode i ≡ None
      go None q = q
      go Fast q = absurd (no_fast i a q)
      go Slow q = absurd (no_slow i a q)

  pub quiet_view : (i : ℕ) → OfA A i
      → (s : ℕ) × (vs : List SentView)
      × (g.shown i ≡ record { view = view_with A (λ o. (g.made o).start); sent = s } ∷ vs) × (last i ≤ s)
  quiet_view i a =
      let w = v.core.rounds.viewed i (all i a) (quiet_none i a) in
      let e = view_ext A (g.seen i) (λ o. (g.made o).start) (λ o l s. each o (l, s) (ℕ_discrete o i)) in
      (w.0, w.1, rw e at w.2, w.3)
    where
      each : (o : ℕ) → OfA A o → Dec (o ≡ i) → g.seen i o ≡ (g.made o).start
      each o b (yes e) = rw e (v.core.rounds.viewed_own i (all i a) (quiet_none i a))
      each o b (no n) = (ended o i b a n (quiet_none i a)).2
