-- The events of a list one by one: the event at a place, the clock, and the one induction over a run.
use mathlib.Core.Path.{◌≡◌, refl, sym, ap, subst, ◌∙◌}
use mathlib.Core.List.{List, [], ◌∷◌, ◌++◌}
use Prim.Native.Nat.{ℕ, zero, suc, ◌+◌, ◌-◌, ◌≤◌, ◌<◌}
use native.Mathlib.Omega.{arith}
use native.Mathlib.Numerals.{add-one}
use lib.ListN.{length, take, drop, get_or}
use lib.Seq.{take-suc, drop-cons, length-take-le}
use Rattle.laws.specs.Lists.{runs, Every, none, more}
use Rattle.laws.proofs.Lists.{runs_append}
use Rattle.laws.proofs.Loops.{same_entry}
use Rattle.rules.specs.State.{State}
use Rattle.runs.specs.World.{Item, World, at_first, Underway, nothing_begun, begun_report, begun_delivery}
use Rattle.runs.specs.World.{WorldEvent, report, delivery, loss, cut, taken_up, answered, with_link, idle}
use Rattle.runs.specs.World.{delivered, next, run, at, Nth}

-- the event at a place
pub nth : (es : List WorldEvent) (n : ℕ) → n < length es → (e : WorldEvent) × Nth es n e
nth es n lt = let e = get_or es n (loss 0 0 0) in (e, (lt, same_entry es n e (loss 0 0 0) lt))

-- what holds of every event of a list holds of the one at a place
pub every_nth : {P : WorldEvent → Type 0} (es : List WorldEvent) → Every P es → (n : ℕ) (e : WorldEvent) → Nth es n e
    → P e
every_nth [] none n e h = let l = h.0 in absurd (omega arith)
every_nth {P} (x ∷ es) (more p f) zero e h = subst P h.1 p
every_nth (x ∷ es) (more p f) (suc n) e h = let l = h.0 in every_nth es f n e (omega arith, h.1)

pub nth_same : (es : List WorldEvent) (n : ℕ) (a b : WorldEvent) → Nth es n a → Nth es n b → a ≡ b
nth_same es n a b p q = sym p.1 ∙ same_entry es n a b p.0 ∙ q.1

pub at_next : (w : World) (es : List WorldEvent) (n : ℕ) (e : WorldEvent) → Nth es n e
    → at w es (n + 1) ≡ next (at w es n) e
unfolding runs
at_next w es n e h =
    let a : take (n + 1) es ≡ take n es ++ (e ∷ []) = rw (add-one, take-suc es n e h.0, h.1) in
    ap (run w) a ∙ runs_append next w (take n es) (e ∷ [])

pub drop_next : (es : List WorldEvent) (n : ℕ) (e : WorldEvent) → Nth es n e → drop n es ≡ e ∷ drop (n + 1) es
drop_next es n e h = rw (add-one, drop-cons es n e h.0, h.1)

clock_next : (w : World) (e : WorldEvent) → (next w e).clock ≡ w.clock + 1
unfolding next answered idle with_link taken_up
clock_next w (report o r room) = refl
clock_next w (delivery i j room) = go (w.link i j)
  where
    go : (l : List Item) → (delivered w i j room l).clock ≡ w.clock + 1
    go [] = refl
    go (x ∷ l) = refl
clock_next w (loss i j place) = refl
clock_next w (cut o b left m) = go b
  where
    go : (b : Underway) → (taken_up w o b).clock + 1 ≡ w.clock + 1
    go nothing_begun = refl
    go (begun_report r room) = refl
    go (begun_delivery i room) = refl

clock_run : (w : World) (es : List WorldEvent) → (run w es).clock ≡ w.clock + length es
unfolding runs
clock_run w [] = omega arith
clock_run w (e ∷ es) = let a = clock_run (next w e) es in let b = clock_next w e in omega arith

clock_at : (w : World) (es : List WorldEvent) (n : ℕ) → w.clock ≡ 0 → n ≤ length es → (at w es n).clock ≡ n
clock_at w es n z h = let a = clock_run w (take n es) in let b = length-take-le n es h in omega arith

pub clock_first : (states : ℕ → State) (links : ℕ → ℕ → List Item) (es : List WorldEvent) (n : ℕ) → n ≤ length es
    → (at (at_first states links) es n).clock ≡ n
unfolding at_first
clock_first states links es n h = clock_at (at_first states links) es n refl h

-- the induction over a run: what holds at place n and is kept by every event after it holds at every later place
pub along : (P : ℕ → Type 0) (es : List WorldEvent) (n m : ℕ) → n ≤ m → m ≤ length es → P n
    → ((k : ℕ) (e : WorldEvent) → n ≤ k → Nth es k e → P k → P (k + 1)) → P m
along P es n m h l p keeps = let e : n + (m - n) ≡ m = omega arith in subst P e (go (m - n) (omega arith))
  where
    go : (d : ℕ) → n + d ≤ length es → P (n + d)
    go zero k = let e : n ≡ n + 0 = omega arith in subst P e p
    go (suc d) k =
        let e : n + d + 1 ≡ n + suc d = omega arith in
        let x = nth es (n + d) (omega arith) in
        subst P e (keeps (n + d) x.0 (omega arith) x.1 (go d (omega arith)))
