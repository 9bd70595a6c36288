-- Every run whose offices of F begin fresh: at each place arrays show the world and satisfy the invariants of the
-- numbers. So the numbers on each link rise, whatever is lost or refused.
use mathlib.Core.Path.{sym, subst}
use mathlib.Core.Bool.{Bool}
use mathlib.Core.List.{List}
use Prim.Native.Nat.{ℕ, ◌+◌, ◌≤◌}
use native.Mathlib.Omega.{arith}
use lib.ListN.{length}
use Rattle.laws.specs.Lists.{runs}
use Rattle.rules.specs.State.{State}
use Rattle.runs.specs.World.{Item, World, WorldEvent, at_first, at, Nth}
use Rattle.runs.specs.Begins.{Begins, AllAmong, RestartsAbove, Rising}
use Rattle.runs.proofs.Arrays.{Offices, FromF, Numbers, Happens}
use Rattle.runs.proofs.Links.{rising_high}
use Rattle.runs.proofs.Numbers.{numbers_acts}
use Rattle.runs.proofs.WorldArrays.{SeenAll, below_sixteen}
use Rattle.runs.proofs.Events.{world_acts}
use Rattle.runs.proofs.Places.{at_next, along}
use Rattle.runs.proofs.Start.{at_start, start_numbers, start_seen}

module _ (F : ℕ → Bool) (states : ℕ → State) (links : ℕ → ℕ → List Item) (es : List WorldEvent)
    (begins : Begins F states links)
    (among : AllAmong es) (above : RestartsAbove F (at_first states links) es) where
  -- the world before event n
  abbrev pub world : ℕ → World
  world n = at (at_first states links) es n

  -- arrays that show the world before event n, of which I holds besides
  abbrev pub Shown : (ℕ → Offices → Type 0) → ℕ → Type 0
  Shown I n = (g : Offices) × SeenAll F (world n) g × Numbers F g × I n g

  -- event n is a row of parts
  pub event_acts : (n : ℕ) (e : WorldEvent) → Nth es n e → (g : Offices) → SeenAll F (world n) g → Numbers F g
      → (h : Offices) × Happens F (world n) e g h × SeenAll F (world (n + 1)) h × Numbers F h
  event_acts n e k g s c =
      let a = world_acts F (world n) g e s c (among n e k) (above n e k) in (
        a.0,
        a.1,
        subst (λ (w : World). SeenAll F w a.0) (sym (at_next (at_first states links) es n e k)) a.2,
        numbers_acts F c a.1,
      )

  -- what the events keep of the arrays, from one place to a later one
  module _ (I : ℕ → Offices → Type 0)
      (keeps : (n : ℕ) (e : WorldEvent) → Nth es n e → (g h : Offices) → SeenAll F (world n) g → Numbers F g → I n g
      → Happens F (world n) e g h
      → SeenAll F (world (n + 1)) h → I (n + 1) h) where
    pub shown_along : (n m : ℕ) → n ≤ m → m ≤ length es → Shown I n → Shown I m
    shown_along n m h l = λ s. along (Shown I) es n m h l s one
      where
        one : (k : ℕ) (e : WorldEvent) → n ≤ k → Nth es k e → Shown I k → Shown I (k + 1)
        one k e lt x y =
            let a = event_acts k e x y.0 y.1 y.2 in
            (a.0, a.2, a.3, keeps k e x y.0 a.0 y.1 y.2 y.3 a.1 a.2)

    -- and from the start
    pub shown_at : I 0 at_start → (n : ℕ) → n ≤ length es → Shown I n
    unfolding runs
    shown_at i n l = shown_along 0 n (omega arith) l (at_start, start_seen F states links begins, start_numbers F, i)

  abbrev Whatever : ℕ → Offices → Type 0
  Whatever n g = 0 ≤ n

  any_time : (n : ℕ) → n ≤ length es → Shown Whatever n
  any_time = shown_at Whatever (λ n e k g h s c i a t. omega arith) (omega arith)

  -- the numbers of the proposals on a link from an office of F rise strictly
  pub rows_rise : (n : ℕ) → n ≤ length es → (i j : ℕ) → FromF F i j
      → Rising 0 ((world n).state i).number ((world n).link i j)
  rows_rise n l i j f =
      let s = any_time n l in
      rw (s.1.links i j f, (s.1.sim i f.0 (below_sixteen F f.0.0)).num)
      (rising_high _ (s.2.top_num i f.0) (s.2.rows i j f))
