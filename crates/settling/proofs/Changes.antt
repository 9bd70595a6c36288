-- The reports that change the net view of an office: where it changes there is one, and an office of A that ends with
-- A has a last one.
use mathlib.Core.Path.{◌≡◌, refl, sym, ap, subst, ◌∙◌}
use mathlib.Core.Bool.{false≢true}
use mathlib.Core.List.{List}
use mathlib.Core.Logic.{◌⊎◌, inl, inr, ⊎_elim}
use Prim.Native.Nat.{ℕ, ◌+◌, ◌-◌, ◌≤◌, ◌<◌}
use native.Mathlib.Omega.{arith}
use native.Mathlib.Decide.{ℕ_discrete, dec_lt}
use borrow.Author.Tests.{eq-eqb}
use lib.ListN.{length}
use lib.Seq.{take_all}
use Rattle.laws.proofs.Fin.{last_change}
use Rattle.seats.specs.Seats.{has}
use Rattle.seats.proofs.Laws.{has_empty}
use Rattle.seats.specs.Offices.{serves}
use Rattle.seats.proofs.OfficeLaws.{serves_seat}
use Rattle.rules.specs.State.{State}
use Rattle.runs.specs.World.{Item, WorldEvent, cut, at, Nth, net_by}
use Rattle.runs.proofs.NetView.{changing_report, net_next}
use Rattle.runs.proofs.Places.{nth, along}
use Rattle.settling.specs.Statement.{OfA, first, net_at, Changes, LastChange, CutAt, OutAndBack, CutsFirst}

module _ (A : ℕ) (states : ℕ → State) (links : ℕ → ℕ → List Item) (es : List WorldEvent) where
  abbrev net : ℕ → ℕ → ℕ
  net = net_at A states links es

  -- an event at which the net view changes is a report that changes it, or a cut of the office
  pub changes_at : (n i : ℕ) → n < length es → (net i (n + 1) ≡ net i n → ⊥)
      → Changes A states links es n i ⊎ CutAt A states links es n i
  changes_at n i lt d =
      let e = nth es n lt in
      ⊎_elim (λ r. inl ((r.0, r.1, subst (Nth es n) r.2 e.1), d))
      (λ r. inr (r.0, r.1, r.2, subst (Nth es n) r.3 e.1))
      (changing_report (at (first A states links es) es n) e.0 i (net i n)
      (λ z. d (net_next (first A states links es) es n e.0 i 0 e.1 ∙ z)))

  -- after a cut the net view is empty
  pub net_cut : (n i : ℕ) → CutAt A states links es n i → net i (n + 1) ≡ 0
  net_cut n i c =
      net_next (first A states links es) es n (cut i c.0 c.1 c.2) i 0 c.3 ∙ rw (eq-eqb i i refl)

  -- from its last report on, the net view stays, where no cut comes after it
  pub stays_after : (n i : ℕ) → LastChange A states links es i n → ((m : ℕ) → CutAt A states links es m i → m < n)
      → (k : ℕ) → n < k → k < length es
      → net i (k + 1) ≡ net i k
  stays_after n i h first k l lt = go (ℕ_discrete (net i (k + 1)) (net i k))
    where
      go : Dec (net i (k + 1) ≡ net i k) → net i (k + 1) ≡ net i k
      go (yes z) = z
      go (no z) = ⊎_elim (λ c. absurd (h.1 k l c)) (λ c. let m = first k c in absurd (omega arith))
          (changes_at k i lt z)

  -- at the end it is that of the whole list
  pub net_at_end : (i : ℕ) → net i (length es) ≡ net_by (first A states links es) es i 0
  net_at_end i = ap (λ (l : List WorldEvent). net_by (first A states links es) l i 0)
      (take_all (length es) es (omega arith))

  -- the hypothesis that there is a last report costs nothing
  pub a_change : (i : ℕ) → OfA A i → net_by (first A states links es) es i 0 ≡ A
      → (n : ℕ) × LastChange A states links es i n
  a_change i q e =
      let c = last_change (net i) (length es) (λ z. some_seat (sym (net_at_end i ∙ e) ∙ z)) in (
        c.0,
        (
          ⊎_elim (λ x. x) (λ x. absurd
              (some_seat (sym (net_at_end i ∙ e) ∙ sym (settled c.0 c.1 c.3) ∙ net_cut c.0 i x
              ∙ sym none))) (changes_at c.0 i c.1 c.2),
          λ m l x. x.1 (c.3 m l x.0.2.0),
        ),
      )
    where
      settled : (n : ℕ) → n < length es → ((m : ℕ) → n < m → m < length es → net i (m + 1) ≡ net i m)
          → net i (n + 1) ≡ net i (length es)
      settled n lt f =
          along (λ k. net i (n + 1) ≡ net i k) es (n + 1) (length es) (omega arith) (omega arith) refl
          (λ k x h y z. z ∙ sym (f k (omega arith) y.0))

      none : net i 0 ≡ 0
      none = unfold net_by in refl

      some_seat : A ≡ net i 0 → ⊥
      some_seat z =
          let w = serves_seat A i q.1 in
          false≢true (sym (has_empty w.0) ∙ ap (λ (x : ℕ). has x w.0) (sym (z ∙ none)) ∙ w.2)

  -- between two points at which the net view differs there is an event that changes it
  change_between : (i a b : ℕ) → a ≤ b → b ≤ length es → (net i b ≡ net i a → ⊥)
      → (c : ℕ) × (a ≤ c) × (c < b) × (net i (c + 1) ≡ net i c → ⊥)
  change_between i a b l h d =
      let e : a + (b - a) ≡ b = omega arith in
      let z : a + 0 ≡ a = omega arith in
      let c = last_change (λ k. net i (a + k)) (b - a) (λ q. d (ap (net i) (sym e) ∙ q ∙ ap (net i) z)) in
      let x = c.1 in
      let o : a + c.0 + 1 ≡ a + (c.0 + 1) = omega arith in
      (a + c.0, omega arith, omega arith, λ q. c.2 (ap (net i) (sym o) ∙ q))

  -- request 7's words give what is needed
  pub cuts_first_lem : (last : ℕ → ℕ) → ((i : ℕ) → OfA A i → LastChange A states links es i (last i))
      → OutAndBack A states links es last → CutsFirst A states links es last
  cuts_first_lem last has_last w n r i q p c = go (ℕ_discrete i r)
    where
      later : (k : ℕ) → n < k → (x : (Changes A states links es k i) ⊎ (CutAt A states links es k i)) → n < last i
      later k l (inl x) = go (dec_lt (last i) k)
        where
          go : Dec (last i < k) → n < last i
          go (yes y) = absurd ((has_last i p).1 k y x)
          go (no y) = omega arith
      later k l (inr x) = let y = w.before_last k i p x in omega arith

      go : Dec (i ≡ r) → n < last i
      go (yes e) = rw e (w.before_last n r q c)
      go (no d) =
          let x = w.out_and_back n r i q p d c in
          let t = x.4 in
          let b = x.5 in
          let lt = b.0.2.0 in
          let m = change_between i (x.0 + 1) (x.1 + 1) (let z = x.3 in omega arith) (omega arith)
          (λ z. false≢true (sym t.1 ∙ ap (λ (y : ℕ). serves y r) (sym z) ∙ b.1)) in
          let u = x.2 in
          let v = m.1 in
          let o = m.2 in
          later m.0 (omega arith) (changes_at m.0 i (omega arith) m.3)
