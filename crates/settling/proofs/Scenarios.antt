-- A scenario that fails no test meets the hypotheses of the settling rule.
use mathlib.Core.Path.{◌≡◌, refl, ap, subst, ◌∙◌}
use mathlib.Core.Bool.{Bool, true, false, ◌&&◌, ◌||◌, not, false≢true}
use mathlib.Core.Logic.{◌⊎◌, inl, inr, ⊎_elim}
use mathlib.Core.List.{List, [], ◌∷◌, ◌++◌}
use Prim.Native.Nat.{ℕ, zero, suc, ◌+◌, ◌-◌, ◌^◌, ◌<◌}
use native.Mathlib.Omega.{arith}
use native.Mathlib.Numerals.{add-one}
use lib.ListN.{length, take, get_or, get_or-map}
use lib.Dec.{eqb, ltb}
use borrow.Author.Tests.{ltb-true, eqb-true, eqb-false, eq-eqb, not-true}
use Rattle.laws.specs.Lists.{Every, none, more, runs}
use Rattle.laws.proofs.Fin.{allb_out, and_iff, and_l, and_r, or_cases, true_false}
use Rattle.laws.specs.Tab.{tab}
use Rattle.laws.proofs.Tab.{get_or_tab}
use Rattle.laws.specs.Upd.{ifb}
use Rattle.seats.specs.Offices.{serves}
use Rattle.laws.proofs.Loops.{same_entry}
use Rattle.records.specs.declared.Report.{Report}
use Rattle.rules.specs.Rules.{fresh}
use Rattle.rules.specs.Refusals.{Result, well_formed}
use Rattle.runs.specs.World.{net_one, net_by, Item, World, Underway, nothing_begun, begun_report, begun_delivery}
use Rattle.runs.specs.World.{BegunAmong, WorldEvent, cut, report, delivery, loss, next, at, Nth, Gives, to_report}
use Rattle.runs.specs.World.{to_proposal, Among}
use Rattle.runs.proofs.Places.{clock_first}
use Rattle.settling.specs.Statement.{OfA, LastChange, OutAndBack, CutsFirst, Assumed, AllReported}
use Rattle.settling.proofs.Changes.{changes_at}
use Rattle.settling.specs.Scenarios.{Scenario, NotFresh, Posted, state_in, link_in, opening, everywhere}
use Rattle.settling.specs.Scenarios.{begun_amongb, amongb, answers_not, older_at, loses_old, reports_to, cuts_early}
use Rattle.settling.specs.Scenarios.{cuts_first, cuts_off, back_in, out_and_back_in, after_cuts, Followed, not_yet}
use Rattle.settling.specs.Scenarios.{follow, followed, points, change_at, all_fresh, no_mail, passes, of_each}
use Rattle.settling.specs.Scenarios.{Hypothesis, some_seat, holds, assumed, of_cuts, failing, fails, reported_last}

not_or : (a b : Bool) → a ≡ true → not a || b ≡ true → b ≡ true
not_or true b t e = e
not_or false b t e = let z : false ≡ true = t in cc

differ : (a b : ℕ) → not (eqb a b) ≡ true → a ≡ b → ⊥
differ a b e = eqb-false a b (not-true (eqb a b) e)

everywhere_out : (t : World → WorldEvent → Bool) (w : World) (es : List WorldEvent) → everywhere t w es ≡ true
    → (n : ℕ) (e : WorldEvent) → Nth es n e → t (at w es n) e ≡ true
unfolding everywhere runs
everywhere_out t w [] h n e x = absurd (let q = x.0 in omega arith)
everywhere_out t w (a ∷ es) h zero e x = rw (← x.1) ((and_iff (t w a) (everywhere t (next w a) es)).0 h).0
everywhere_out t w (a ∷ es) h (suc n) e x =
    let q = x.0 in
    everywhere_out t (next w a) es ((and_iff (t w a) (everywhere t (next w a) es)).0 h).1 n e (omega arith, x.1)

of_each_lem : (x : ℕ) (t : ℕ → Bool) → of_each x t ≡ true → (i : ℕ) → i < 16 → serves x i ≡ true → t i ≡ true
of_each_lem x t h i lt s = not_or (serves x i) (t i) s (allb_out 16 (λ i. not (serves x i) || t i) h i lt)

two_offices : (i j : ℕ) → ltb i 16 && (ltb j 16 && not (eqb i j)) ≡ true → (i < 16) × (j < 16) × (i ≡ j → ⊥)
two_offices i j h =
    let a = (and_iff (ltb i 16) (ltb j 16 && not (eqb i j))).0 h in
    let b = (and_iff (ltb j 16) (not (eqb i j))).0 a.1 in
    (ltb-true i 16 a.0, ltb-true j 16 b.0, differ i j b.1)

begun_among : (o : ℕ) (b : Underway) → begun_amongb o b ≡ true → BegunAmong o b
begun_among o nothing_begun h = tt
begun_among o (begun_report r room) h =
    let a = (and_iff (ltb r.joining.bits (2 ^ 64)) (ltb r.leaving.bits (2 ^ 64))).0 h in
    (ltb-true _ (2 ^ 64) a.0, ltb-true _ (2 ^ 64) a.1)
begun_among o (begun_delivery i room) h =
    let a = (and_iff (ltb i 16) (not (eqb i o))).0 h in (ltb-true i 16 a.0, differ i o a.1)

is_among : (w : World) (e : WorldEvent) → amongb w e ≡ true → Among e
is_among w (report o r room) h =
    let x = r.joining.bits in
    let y = r.leaving.bits in
    let a = (and_iff (ltb o 16) (ltb x (2 ^ 64) && ltb y (2 ^ 64))).0 h in
    let b = (and_iff (ltb x (2 ^ 64)) (ltb y (2 ^ 64))).0 a.1 in
    (ltb-true o 16 a.0, ltb-true x (2 ^ 64) b.0, ltb-true y (2 ^ 64) b.1)
is_among w (delivery i j room) h = two_offices i j h
is_among w (loss i j place) h = two_offices i j h
is_among w (cut o b left m) h =
    let a = (and_iff (ltb o 16) (begun_amongb o b)).0 h in (ltb-true o 16 a.0, begun_among o b a.1)

never : (x c : ℕ) (w : World) (e : WorldEvent) → answers_not x c w e ≡ true
    → (i : ℕ) (r : Result) → serves x i ≡ true → Gives w e i r → r.refusal ≡ c → ⊥
never x c w e h i r s (to_report o q room) = differ _ c (not_or (serves x o) _ s h)
never x c w e h i r s (to_proposal a o room y l q) = differ _ c (rw q at (not_or (serves x o) _ s h))

older : (t n : ℕ) (l : List Item) → older_at t n l ≡ true → (y : Item) → n < length l → get_or l n y ≡ y → y.sent < t
older t n [] h y lt e = absurd (omega arith)
older t zero (z ∷ l) h y lt e = rw (← e) (ltb-true z.sent t h)
older t (suc n) (z ∷ l) h y lt e = older t n l h y (omega arith) e

-- event n of the list is a cut of office r
abbrev CutIn : List WorldEvent → ℕ → ℕ → Type 0
CutIn es n r = (b : Underway) × (left : ℕ) × (m : ℕ) × Nth es n (cut r b left m)

-- What office j hears of office r after its cuts.
module _ (j r : ℕ) where
  -- event n is a report to j, after which a seat of r is in its net view, or none is; it is x before the list
  abbrev Heard : World → List WorldEvent → ℕ → Bool → ℕ → Type 0
  Heard w es x t n = ((q : Report) × (room : ℕ) × Nth es n (report j q room))
      × (serves (net_by w (take (suc n) es) j x) r ≡ t)

  here : (w : World) (e : WorldEvent) (es : List WorldEvent) (x : ℕ) (t : Bool) → reports_to j e ≡ true
      → serves (net_one w e j x) r ≡ t → Heard w (e ∷ es) x t 0
  unfolding net_by
  here w (report o q room) es x t h s =
      ((q, room, (omega arith, ap (λ (o : ℕ). report o q room) (eqb-true o j h))), s)
  here w (delivery a b room) es x t h s = absurd (false≢true h)
  here w (loss a b place) es x t h s = absurd (false≢true h)
  here w (cut o b left m) es x t h s = absurd (false≢true h)

  later : (w : World) (e : WorldEvent) (es : List WorldEvent) (x : ℕ) (t : Bool) (n : ℕ)
      → Heard (next w e) es (net_one w e j x) t n → Heard w (e ∷ es) x t (suc n)
  unfolding net_by
  later w e es x t n h =
      let lt = h.0.2.0 in ((h.0.0, h.0.1, (omega arith, h.0.2.1)), h.1)

  back_in_lem : (w : World) (es : List WorldEvent) (x : ℕ) → back_in j r w es x ≡ true → (b : ℕ) × Heard w es x true b
  unfolding back_in
  back_in_lem w [] x h = absurd (false≢true h)
  back_in_lem w (e ∷ es) x h = go (or_cases (reports_to j e && serves y r) (back_in j r (next w e) es y) h)
      (back_in_lem (next w e) es y)
    where
      y : ℕ
      y = net_one w e j x

      go : (reports_to j e && serves y r ≡ true) ⊎ (back_in j r (next w e) es y ≡ true)
          → (back_in j r (next w e) es y ≡ true → (b : ℕ) × Heard (next w e) es y true b)
          → (b : ℕ) × Heard w (e ∷ es) x true b
      go (inl a) ih = let c = (and_iff (reports_to j e) (serves y r)).0 a in (0, here w e es x true c.0 c.1)
      go (inr a) ih = let c = ih a in (suc c.0, later w e es x true c.0 c.1)

  out_back_in : (w : World) (es : List WorldEvent) (x : ℕ) → out_and_back_in j r w es x ≡ true
      → (a b : ℕ) × (a < b) × Heard w es x false a × Heard w es x true b
  unfolding out_and_back_in
  out_back_in w [] x h = absurd (false≢true h)
  out_back_in w (e ∷ es) x h = go (or_cases (reports_to j e && out) (out_and_back_in j r (next w e) es y) h)
      (out_back_in (next w e) es y)
    where
      y : ℕ
      y = net_one w e j x

      out : Bool
      out = not (serves y r) && back_in j r (next w e) es y

      go : (reports_to j e && out ≡ true) ⊎ (out_and_back_in j r (next w e) es y ≡ true)
          → (out_and_back_in j r (next w e) es y ≡ true
          → (a b : ℕ) × (a < b) × Heard (next w e) es y false a × Heard (next w e) es y true b)
          → (a b : ℕ) × (a < b) × Heard w (e ∷ es) x false a × Heard w (e ∷ es) x true b
      go (inl a) ih =
          let c = (and_iff (reports_to j e) out).0 a in
          let d = (and_iff (not (serves y r)) (back_in j r (next w e) es y)).0 c.1 in
          let b = back_in_lem (next w e) es y d.1 in (
            0,
            suc b.0,
            omega arith,
            here w e es x false c.0 (not-true (serves y r) d.0),
            later w e es x true b.0 b.1,
          )
      go (inr a) ih =
          let c = ih a in
          let l = c.2 in
          (suc c.0, suc c.1, omega arith, later w e es x false c.0 c.3, later w e es x true c.1 c.4)

  after_cuts_lem : (w : World) (es : List WorldEvent) (x : ℕ) → after_cuts j r w es x ≡ true → (n : ℕ) → CutIn es n r
      → (a b : ℕ) × (n < a) × (a < b) × Heard w es x false a × Heard w es x true b
  unfolding after_cuts
  after_cuts_lem w [] x h n c = absurd (let q = c.3.0 in omega arith)
  after_cuts_lem w (e ∷ es) x h zero c =
      let y = net_one w e j x in
      let k : cuts_off r e ≡ true = rw c.3.1 (eq-eqb r r refl) in
      let a = and_l (not (cuts_off r e) || out_and_back_in j r (next w e) es y) (after_cuts j r (next w e) es y) h in
      let d = out_back_in (next w e) es y (not_or (cuts_off r e) _ k a) in
      let l = d.2 in (
        suc d.0,
        suc d.1,
        omega arith,
        omega arith,
        later w e es x false d.0 d.3,
        later w e es x true d.1 d.4,
      )
  after_cuts_lem w (e ∷ es) x h (suc n) c =
      let y = net_one w e j x in
      let q = c.3.0 in
      let i = and_r (not (cuts_off r e) || out_and_back_in j r (next w e) es y) (after_cuts j r (next w e) es y) h in
      let d = after_cuts_lem (next w e) es y i n (c.0, c.1, c.2, (omega arith, c.3.1)) in
      let l = d.2 in
      let m = d.3 in (
        suc d.0,
        suc d.1,
        omega arith,
        omega arith,
        later w e es x false d.0 d.4,
        later w e es x true d.1 d.5,
      )

-- The pass over the events, as one office sees it.
module _ (i : ℕ) where
  follow_on : World → List WorldEvent → ℕ → Followed → Followed
  follow_on w [] n c = c
  follow_on w (e ∷ es) n c = follow_on (next w e) es (n + 1) (follow w e n i c)

  in_pass : i < 16 → (w : World) (es : List WorldEvent) (n : ℕ) (cs : List Followed)
      → get_or (followed w es n cs) i not_yet ≡ follow_on w es n (get_or cs i not_yet)
  unfolding followed follow_on
  in_pass lt w [] n cs = refl
  in_pass lt w (e ∷ es) n cs =
      in_pass lt (next w e) es (n + 1) (tab 16 (λ k. follow w e n k (get_or cs k not_yet)))
      ∙ ap (follow_on (next w e) es (n + 1)) (get_or_tab 16 (λ k. follow w e n k (get_or cs k not_yet)) i not_yet lt)

  -- event k of the list changes the net view, which is x at first
  abbrev Moves : World → List WorldEvent → ℕ → ℕ → Type 0
  Moves w es x k = net_by w (take (suc k) es) i x ≡ net_by w (take k es) i x → ⊥

  -- where the pass ends: nothing has changed it, or event k was the last to do so
  data Ended (w : World) (es : List WorldEvent) (n : ℕ) (c d : Followed) : Type 0 where
    unchanged : d.point ≡ c.point → ((k : ℕ) → k < length es → Moves w es c.net k → ⊥) → Ended w es n c d
    changed : (k : ℕ) → k < length es → d.point ≡ n + k + 1 → Moves w es c.net k
        → ((m : ℕ) → m < length es → k < m → Moves w es c.net m → ⊥) → Ended w es n c d

  ended : (w : World) (es : List WorldEvent) (n : ℕ) (c : Followed) → Ended w es n c (follow_on w es n c)
  unfolding follow_on net_by
  ended w [] n c = unchanged refl (λ k lt. absurd (omega arith))
  ended w (e ∷ es) n c = go (ended (next w e) es (n + 1) (follow w e n i c))
    where
      x : ℕ
      x = net_one w e i c.net

      d : Followed
      d = follow_on (next w e) es (n + 1) (follow w e n i c)

      later : (P : ℕ → Type 0) → P 0 → ((k : ℕ) → k < length es → P (suc k)) → (k : ℕ) → k < suc (length es) → P k
      later P z f zero lt = z
      later P z f (suc k) lt = f k (omega arith)

      go : Ended (next w e) es (n + 1) (follow w e n i c) d → Ended w (e ∷ es) n c d
      go (changed k lt p m h) = changed (suc k) (omega arith) (omega arith) m
          (later (λ j. suc k < j → Moves w (e ∷ es) c.net j → ⊥) (λ l. absurd (omega arith))
          (λ j l q. h j l (omega arith)))
      go (unchanged p h) = split (eqb x c.net) refl
        where
          split : (t : Bool) → eqb x c.net ≡ t → Ended w (e ∷ es) n c d
          split true t = unchanged (p ∙ rw t)
              (later (λ j. Moves w (e ∷ es) c.net j → ⊥) (λ m. m (eqb-true x c.net t)) h)
          split false t = changed 0 (omega arith) (p ∙ rw t (omega arith)) (eqb-false x c.net t)
              (later (λ j. 0 < j → Moves w (e ∷ es) c.net j → ⊥) (λ l. absurd (omega arith)) (λ j l q. h j l))

-- so it finds the last report of every office
pub last_found : (p : Scenario) (i : ℕ) → i < 16 → (change_at p).has i ≡ true
    → LastChange p.set (state_in p.begun) (link_in p.posted) p.events i ((change_at p).place i)
unfolding change_at points
last_found p i lt h = go (ended i (opening p) es 0 not_yet)
  where
    es : List WorldEvent
    es = p.events

    -- the point of the office
    at_end : get_or (points p) i 0 ≡ (follow_on i (opening p) es 0 not_yet).point
    at_end = get_or-map (λ (c : Followed). c.point) (followed (opening p) es 0 (tab 16 (λ k. not_yet))) i not_yet
        ∙ ap (λ (c : Followed). c.point) (in_pass i lt (opening p) es 0 (tab 16 (λ k. not_yet))
        ∙ ap (follow_on i (opening p) es 0) (get_or_tab 16 (λ k. not_yet) i not_yet lt))

    Last : ℕ → Type 0
    Last = LastChange p.set (state_in p.begun) (link_in p.posted) es i

    -- there is such a point, and a report just before it
    found : (ltb 0 (get_or (points p) i 0) ≡ true)
        × (reports_to i (get_or es (get_or (points p) i 0 - 1) (loss 0 0 0)) ≡ true)
    found = (and_iff (ltb 0 (get_or (points p) i 0))
        (reports_to i (get_or es (get_or (points p) i 0 - 1) (loss 0 0 0)))).0 h

    -- so no cut
    no_cut : (k : ℕ) → k ≡ get_or (points p) i 0 - 1 → (b : Underway) (left m : ℕ) → Nth es k (cut i b left m) → ⊥
    no_cut k e b left m x =
        let t : reports_to i (get_or es k (loss 0 0 0)) ≡ true = rw e found.1 in
        let y : get_or es k (loss 0 0 0) ≡ cut i b left m =
        same_entry es k (loss 0 0 0) (cut i b left m) x.0 ∙ x.1 in
        true_false false (rw y at t) refl

    go : Ended i (opening p) es 0 not_yet (follow_on i (opening p) es 0 not_yet) → Last (get_or (points p) i 0 - 1)
    go (unchanged q n) = let a = ltb-true 0 (get_or (points p) i 0) found.0 in let b = at_end in absurd (omega arith)
    go (changed k l q m n) =
        let b = at_end in
        let e : k ≡ get_or (points p) i 0 - 1 = omega arith in
        subst Last e (
          ⊎_elim (λ c. c) (λ c. absurd (no_cut k e c.0 c.1 c.2 c.3))
              (changes_at p.set (state_in p.begun) (link_in p.posted) es k i l (rw add-one m)),
          λ j a x. n j x.0.2.0 a (rw add-one at x.1),
        )

-- the offices and links at first
module _ (x i : ℕ) (s : serves x i ≡ true) where
  other_office : (a : ℕ) → not (serves x a) ≡ true → eqb a i ≡ false
  other_office a h = go (eqb a i) refl
    where
      go : (t : Bool) → eqb a i ≡ t → t ≡ false
      go false e = refl
      go true e = let z = eqb-true a i e in let b = not-true (serves x a) h in let c : serves x i ≡ false =
          rw (← z) b in absurd (false≢true (cc))

  fresh_at : (bs : List NotFresh) → all_fresh x bs ≡ true → state_in bs i ≡ fresh i
  fresh_at [] h = refl
  fresh_at (b ∷ bs) h =
      let a = (and_iff (not (serves x b.office)) (all_fresh x bs)).0 h in
      rw (other_office b.office a.0) (fresh_at bs a.1)

  no_mail_from : (ys : List Posted) (j : ℕ) → no_mail x ys ≡ true → link_in ys i j ≡ []
  no_mail_from [] j h = refl
  no_mail_from (y ∷ ys) j h =
      let a = (and_iff (not (serves x y.proposal.sender)) (no_mail x ys)).0 h in
      rw (other_office y.proposal.sender a.0) (no_mail_from ys j a.1)

mail_from : (o j : ℕ) (ys : List Posted) → Every (λ x. x.proposal.sender ≡ o) (link_in ys o j)
mail_from o j [] = none
mail_from o j (y ∷ ys) = go (eqb y.proposal.sender o) (eqb y.to j) refl (mail_from o j ys)
  where
    Named : List Item → Type 0
    Named = Every (λ x. x.proposal.sender ≡ o)

    go : (s t : Bool) → eqb y.proposal.sender o ≡ s → Named (link_in ys o j)
        → Named (ifb (s && t) (record { proposal = y.proposal; sent = 0 } ∷ link_in ys o j) (link_in ys o j))
    go true true e l = more (eqb-true y.proposal.sender o e) l
    go true false e l = l
    go false t e l = l

none_failing : (t : Hypothesis → Bool) (xs : List Hypothesis) → failing t xs ≡ [] → (n : ℕ) → n < length xs
    → t (get_or xs n some_seat) ≡ true
none_failing t [] e n lt = absurd (omega arith)
none_failing t (x ∷ xs) e n lt = go (t x) refl n lt (none_failing t xs)
  where
    go : (b : Bool) → t x ≡ b → (n : ℕ) → n < length (x ∷ xs)
        → (failing t xs ≡ [] → (n : ℕ) → n < length xs → t (get_or xs n some_seat) ≡ true)
        → t (get_or (x ∷ xs) n some_seat) ≡ true
    go true q zero lt ih = q
    go true q (suc n) lt ih = ih (rw q at e) n (omega arith)
    go false q n lt ih = let z : x ∷ failing t xs ≡ [] = rw q at e in let y : ◌≡◌ {A = ℕ} 0 1 = cc in
        absurd (omega arith)

-- of two lists that fail none together, neither does by itself
both_none : (t : Hypothesis → Bool) (xs ys : List Hypothesis) → failing t (xs ++ ys) ≡ []
    → (failing t xs ≡ []) × (failing t ys ≡ [])
both_none t [] ys e = (refl, e)
both_none t (x ∷ xs) ys e = go (t x) refl (both_none t xs ys)
  where
    go : (b : Bool) → t x ≡ b → (failing t (xs ++ ys) ≡ [] → (failing t xs ≡ []) × (failing t ys ≡ []))
        → (failing t (x ∷ xs) ≡ []) × (failing t ys ≡ [])
    go true q ih = rw q (ih (rw q at e))
    go false q ih = let z : x ∷ failing t (xs ++ ys) ≡ [] = rw q at e in let y : ◌≡◌ {A = ℕ} 0 1 = cc in
        absurd (omega arith)

-- a scenario that fails none of the first hypotheses meets what the rule assumes of any list
module _ (p : Scenario) (e : failing (holds p (change_at p)) assumed ≡ []) where
  test : (n : ℕ) → ltb n 11 ≡ true → holds p (change_at p) (get_or assumed n some_seat) ≡ true
  test n lt = none_failing (holds p (change_at p)) assumed e n (ltb-true n 11 lt)

  abbrev A : ℕ
  A = p.set

  abbrev es : List WorldEvent
  es = p.events

  abbrev w : World
  w = opening p

  abbrev last : ℕ → ℕ
  last = (change_at p).place

  abbrev Of : ℕ → Type 0
  Of = OfA A

  passing : (o : ℕ) → o < 16 → (Of o → ⊥) → ((state_in p.begun o).own ≡ o)
      × (well_formed (state_in p.begun o) ≡ true)
  unfolding holds
  passing o lt h = go (serves A o) refl
      (allb_out 16 (λ o. serves A o || passes o (state_in p.begun o)) (test 3 refl) o lt)
    where
      go : (t : Bool) → serves A o ≡ t → t || passes o (state_in p.begun o) ≡ true
          → ((state_in p.begun o).own ≡ o) × (well_formed (state_in p.begun o) ≡ true)
      go true q u = absurd (h (lt, q))
      go false q u = let b = (and_iff (eqb (state_in p.begun o).own o) _).0 u in (eqb-true _ o b.0, b.1)

  kept : (n i j place : ℕ) → Of i → Of j → Nth es n (loss i j place)
      → older_at (last i) place ((at w es n).link i j) ≡ true
  unfolding holds
  kept n i j place a b x =
      let t = everywhere_out (loses_old A last) w es (test 10 refl) n (loss i j place) x in
      not_or (serves A j) _ b.1 (not_or (serves A i) _ a.1 t)

  pub meets : Assumed A (state_in p.begun) (link_in p.posted) es last
  unfolding holds
  meets =
      let s = (and_iff (ltb 0 A) (ltb A (2 ^ 64))).0 (test 0 refl) in
      record {
        some_seat = (ltb-true 0 A s.0, ltb-true A (2 ^ 64) s.1);
        starts_fresh = λ i o. fresh_at A i o.1 p.begun (test 1 refl);
        without_mail = λ i j o. no_mail_from A i o.1 p.posted j (test 2 refl);
        others_pass = passing;
        others_mail = λ o j lt h. mail_from o j p.posted;
        among = λ n e x. is_among (at w es n) e (everywhere_out amongb w es (test 5 refl) n e x);
        has_last = λ i o. last_found p i o.0 (of_each_lem A (change_at p).has (test 6 refl) i o.0 o.1);
        net_is_a = λ i o. eqb-true _ A (of_each_lem A (λ i. eqb (net_by w es i 0) A) (test 7 refl) i o.0 o.1);
        with_room = λ n i r e o x. never A 3 (at w es n) e (everywhere_out (answers_not A 3) w es (test 8 refl) n e x)
            i r o.1;
        no_ceiling = λ n i r e o x. never A 13 (at w es n) e
            (everywhere_out (answers_not A 13) w es (test 9 refl) n e x) i r o.1;
        none_lost = λ n i j place y a b x. older (last i) place ((at w es n).link i j) (kept n i j place a b x) y;
      }

-- one that fails none at all meets that and what the rule assumes of its cuts
module _ (p : Scenario) (e : fails p ≡ []) where
  apart : (failing (holds p (change_at p)) assumed ≡ []) × (failing (holds p (change_at p)) of_cuts ≡ [])
  unfolding fails
  apart = both_none (holds p (change_at p)) assumed of_cuts e

  pub meets_all : Assumed p.set (state_in p.begun) (link_in p.posted) p.events (change_at p).place
  meets_all = meets p apart.0

  cut_test : (n : ℕ) → ltb n 3 ≡ true → holds p (change_at p) (get_or of_cuts n some_seat) ≡ true
  cut_test n lt = none_failing (holds p (change_at p)) of_cuts apart.1 n (ltb-true n 3 lt)

  clock_is : (n : ℕ) → n < length p.events → (at (opening p) p.events n).clock ≡ n
  clock_is n lt = clock_first (state_in p.begun) (link_in p.posted) p.events n (omega arith)

  own_last : (n r : ℕ) → OfA p.set r → CutIn p.events n r → n < (change_at p).place r
  unfolding holds
  own_last n r q c =
      let x = p.set in
      let last = (change_at p).place in
      let t = everywhere_out (cuts_early x last) (opening p) p.events (cut_test 0 refl) n _ c.3 in
      let l = ltb-true _ (last r) (not_or (serves x r) _ q.1 t) in
      let k = clock_is n c.3.0 in omega arith

  every_last : CutsFirst p.set (state_in p.begun) (link_in p.posted) p.events (change_at p).place
  unfolding holds
  every_last n r i q o c =
      let x = p.set in
      let last = (change_at p).place in
      let t = everywhere_out (cuts_first x last) (opening p) p.events (cut_test 2 refl) n _ c.3 in
      let u = of_each_lem x (λ i. ltb (at (opening p) p.events n).clock (last i)) (not_or (serves x r) _ q.1 t) in
      let l = ltb-true _ (last i) (u i o.0 o.1) in
      let k = clock_is n c.3.0 in omega arith

  hears : (r j : ℕ) → OfA p.set r → OfA p.set j → (j ≡ r → ⊥)
      → after_cuts j r (opening p) p.events 0 ≡ true
  unfolding holds
  hears r j q o d =
      let heard : ℕ → ℕ → Bool = λ r j. eqb j r || after_cuts j r (opening p) p.events 0 in
      let u = of_each_lem p.set (λ r. of_each p.set (heard r)) (cut_test 1 refl) r q.0 q.1 in
      ⊎_elim (λ e. absurd (d (eqb-true j r e))) (λ t. t)
      (or_cases (eqb j r) _ (of_each_lem p.set (heard r) u j o.0 o.1))

  pub meets_cuts : OutAndBack p.set (state_in p.begun) (link_in p.posted) p.events (change_at p).place
      × CutsFirst p.set (state_in p.begun) (link_in p.posted) p.events (change_at p).place
  meets_cuts = (
    record {
      before_last = own_last;
      out_and_back = λ n r j q o d c.
          let x = after_cuts_lem j r (opening p) p.events 0 (hears r j q o d) n c in
          (x.0, x.1, x.2, x.3, (x.4.0, rw add-one x.4.1), (x.5.0, rw add-one x.5.1));
    },
    every_last,
  )

pub reported : (p : Scenario) (i : ℕ) → reported_last p i ≡ true
    → AllReported p.set (state_in p.begun) (link_in p.posted) p.events (change_at p).place
    ((change_at p).place i + 1)
unfolding reported_last
reported p i h =
    let a = (and_iff (ltb i 16) _).0 h in
    let b = (and_iff (serves p.set i) _).0 a.1 in
    let t : ℕ → Bool = λ j. ltb ((change_at p).place j) ((change_at p).place i + 1) in
    record {
      after = λ j o. ltb-true _ _ (of_each_lem p.set t b.1 j o.0 o.1);
      at_once = (i, (ltb-true i 16 a.0, b.0), refl);
    }
