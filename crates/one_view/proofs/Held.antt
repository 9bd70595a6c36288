-- At every place of a run of sixteen fresh offices: what is stored and on the links has left, and beside each office
-- stand the numbers that left it.
use mathlib.Core.Path.{refl, sym, subst}
use mathlib.Core.List.{List}
use Prim.Native.Nat.{ℕ, ◌+◌, ◌≤◌, ◌<◌}
use native.Mathlib.Omega.{arith}
use lib.ListN.{length}
use Rattle.laws.specs.Lists.{none, runs}
use Rattle.records.specs.declared.Proposal.{Proposal}
use Rattle.records.specs.declared.View.{View}
use Rattle.rules.specs.State.{State}
use Rattle.rules.specs.Rules.{Written}
use Rattle.rule_laws.proofs.Parts.{fresh_restarted}
use Rattle.runs.specs.Office.{Turn, left_at, next_turn}
use Rattle.runs.specs.World.{Item, World, WorldEvent, at_first, next, at, Nth}
use Rattle.runs.specs.Begins.{Begins, RestartsAbove}
use Rattle.runs.proofs.Arrays.{Offices, Numbers}
use Rattle.runs.proofs.OfficeGiven.{GivesOut, Stands, giving, nothing_given, fresh_stands, given_low, gives_none}
use Rattle.runs.proofs.OfficeRuns.{Beside}
use Rattle.runs.proofs.Places.{at_next, along}
use Rattle.runs.proofs.Runs.{shown_at}
use Rattle.runs.proofs.WorldArrays.{SeenAll, below_sixteen}
use Rattle.runs.proofs.WorldTurns.{sent_by, HasLeft, Owned, Turning, whose_turn, turn_beside, next_beside}
use Rattle.one_view.specs.Statement.{AllFresh, UsesAt, everyone}
use Rattle.one_view.proofs.Left.{Known, AllLeft, BeforeEvent, none_stored, still_left, next_left}

-- a run of sixteen fresh offices
pub record FreshRun : Type 0 where
  pub states : ℕ → State
  pub links : ℕ → ℕ → List Item
  pub events : List WorldEvent
  pub all_fresh_lem : AllFresh states links events
  pub above : RestartsAbove everyone (at_first states links) events

pub record Held (w : World) : Type 0 where
  pub left : AllLeft w
  -- beside office o stand the numbers that left it
  pub given : (o : ℕ) → o < 16 → Beside GivesOut Stands (nothing_given o) (sent_by (w.log o)) (w.state o)

module _ (run : FreshRun) where
  abbrev pub world : ℕ → World
  world n = at (at_first run.states run.links) run.events n

  -- office o uses p for office q in the view v at event n
  abbrev pub UseIn : ℕ → ℕ → ℕ → Proposal → View → Type 0
  UseIn = UsesAt run.states run.links run.events

  -- what is known before event n
  pub record Place (n : ℕ) : Type 0 where
    pub arrays : Offices
    pub seen : SeenAll everyone (world n) arrays
    pub numbers : Numbers everyone arrays
    pub held : Held (world n)

  begins : Begins everyone run.states run.links
  begins = record {
    starts_fresh = λ i q. run.all_fresh_lem.starts_fresh i q.0;
    without_mail = λ i j q. run.all_fresh_lem.without_mail i j q.0;
    others_own = λ o lt n. absurd (n (lt, refl));
    others_mail = λ o j lt n. absurd (n (lt, refl));
  }

  before_of : (n : ℕ) (e : WorldEvent) → Nth run.events n e → (g : Offices) → SeenAll everyone (world n) g
      → AllLeft (world n) → BeforeEvent (world n) e
  before_of n e k g s l =
      let own : Owned (world n) = λ o lt. s.owns o lt (below_sixteen everyone lt) in
      record {
        owned = own;
        named = s.named;
        left = l;
        whose = whose_turn (world n) own e (run.all_fresh_lem.among n e k);
      }

  next_held : (n : ℕ) (e : WorldEvent) → Nth run.events n e → BeforeEvent (world n) e → Held (world n)
      → Held (next (world n) e)
  next_held n e k b h =
      record {
        left = next_left b;
        given = λ o lt. next_beside giving (λ h. tt) (nothing_given o) (given_low o) everyone o (lt, refl) (world n) e
            b.whose (run.above n e k) (h.given o lt);
      }

  first_held : Held (at_first run.states run.links)
  unfolding at_first
  first_held = record {
    left = record {
      links = λ i j lt. rw (run.all_fresh_lem.without_mail i j lt) none;
      stored = λ j lt. rw (run.all_fresh_lem.starts_fresh j lt, fresh_restarted j)
          (none_stored (Known (at_first run.states run.links) j) j 0);
    };
    given = λ o lt. rw (run.all_fresh_lem.starts_fresh o lt)
        (record { then = nothing_given o; told = gives_none; holds = fresh_stands o lt });
  }

  pub place : (n : ℕ) → n ≤ length run.events → Place n
  unfolding runs
  place n l =
      let x = shown_at everyone run.states run.links run.events begins run.all_fresh_lem.among run.above
      (λ n g. Held (world n))
      (λ n e k g h s c a b t. subst Held (sym (at_next (at_first run.states run.links) run.events n e k))
      (next_held n e k (before_of n e k g s a.left) a)) first_held n l in
      record { arrays = x.0; seen = x.1; numbers = x.2; held = x.3 }

  -- event n
  module _ {n : ℕ} {e : WorldEvent} (h : Nth run.events n e) where
    pub here : Place n
    here = let lt = h.0 in place n (omega arith)

    pub before_event : BeforeEvent (world n) e
    before_event = before_of n e h here.arrays here.seen here.held.left

    -- what leaves an office at its turn goes on from what left it before
    pub given_now : {o : ℕ} {t : Turn} (u : Turning (world n) e o t)
        → Beside GivesOut Stands (here.held.given o u.office).then (left_at ((world n).state o) t)
        (next_turn ((world n).state o) t)
    given_now {o} {t} u =
        turn_beside giving (λ h. tt) (nothing_given o) (given_low o) everyone o (u.office, refl) (world n) e t u
        (run.above n e h) (here.held.given o u.office)

  -- what holds after event n, and stays over every later one, holds at every later place
  pub after : (P : World → Type 0) {n : ℕ} {e : WorldEvent} → Nth run.events n e → P (next (world n) e)
      → ((j : ℕ) (f : WorldEvent) → Nth run.events j f → P (world j) → P (next (world j) f))
      → (m : ℕ) → n < m → m ≤ length run.events → P (world m)
  after P {n} {e} h p keeps m lt l =
      along (λ j. P (world j)) run.events (n + 1) m (omega arith) l
      (subst P (sym (at_next (at_first run.states run.links) run.events n e h)) p)
      (λ j f b x y. subst P (sym (at_next (at_first run.states run.links) run.events j f x)) (keeps j f x y))

  pub stays_left : {n : ℕ} {e : WorldEvent} → Nth run.events n e → (m : ℕ) → n < m → m ≤ length run.events
      → (i : ℕ) (r : Written) → HasLeft (next (world n) e) i r → HasLeft (world m) i r
  stays_left h m lt l i r x = after (λ w. HasLeft w i r) h x (λ j f y. still_left (before_event y) i r) m lt l
