-- Runs of one office: what every answer keeps, of the office and of who is told what it sends, and of two entries of
-- the log the first and the second.
use mathlib.Core.Path.{◌≡◌, refl, sym, ap, ◌∙◌}
use mathlib.Core.Logic.{◌⊎◌, inl, inr}
use mathlib.Core.List.Memᴰ
use mathlib.Core.List.{List, [], ◌∷◌, ◌++◌, append_assoc, Memᴰ}
use Rattle.laws.specs.Lists.{runs, Every, none, more}
use Rattle.laws.proofs.Lists.{runs_keep}
use Rattle.rules.specs.State.{State}
use Rattle.rules.specs.Rules.{Written}
use Rattle.runs.specs.Office.{Input, answer_to, next_state, LogEntry, answer_of, state_after, log_of, sent_in, Before}
use Rattle.runs.specs.Office.{at_once, further}

-- the records of a log after a log
pub sent_append : (a b : List LogEntry) → sent_in (a ++ b) ≡ sent_in a ++ sent_in b
unfolding sent_in
sent_append [] b = refl
sent_append (e ∷ a) b = ap (λ (l : List Written). (answer_of e).written ++ l) (sent_append a b)
    ∙ sym (append_assoc (answer_of e).written (sent_in a) (sent_in b))

-- an invariant of the state that every answer keeps holds after every run, and before every entry of the log
module _ (P : State → Type 0) (keeps : (s : State) (h : Input) → P s → P (next_state s h)) where
  pub after_keeps : (s : State) → P s → (hs : List Input) → P (state_after s hs)
  after_keeps s p hs = runs_keep next_state P keeps s hs p

  pub log_keeps : (s : State) → P s → (hs : List Input) (e : LogEntry) → Memᴰ e (log_of s hs) → P e.before
  unfolding log_of
  log_keeps s p [] e m = absurd (Memᴰ.not-nil m)
  log_keeps s p (h ∷ hs) e m = go (log_keeps (next_state s h) (keeps s h p) hs e) (Memᴰ.cases_cons m)
    where
      go : (Memᴰ e (log_of (next_state s h) hs) → P e.before) → (e ≡ record { before = s; handed = h })
          ⊎ Memᴰ e (log_of (next_state s h) hs) → P e.before
      go later (inl q) = rw q p
      go later (inr q) = later q

-- Beside the office stands a companion that is told what it sends, as a seat is: T says what records make of the
-- companion. An invariant of the two that every answer keeps holds after every run; I is what is asked of what is
-- handed in.
module _ {C : Type 0} (T : C → List Written → C → Type 0) (P : C → State → Type 0) where
  pub record Beside (c : C) (sent : List Written) (s : State) : Type 0 where
    pub then : C
    pub told : T c sent then
    pub holds : P then s

  module _ (nothing_sent_lem : (c : C) → T c [] c) (and_more : (c d e : C) (a b : List Written) → T c a d → T d b e
      → T c (a ++ b) e)
      (I : Input → Type 0) (keeps : (c : C) (s : State) (h : Input) → I h → P c s
      → Beside c (answer_to s h).written (next_state s h)) where
    pub beside_run : (c : C) (s : State) (hs : List Input) → Every I hs → P c s
        → Beside c (sent_in (log_of s hs)) (state_after s hs)
    unfolding sent_in log_of runs
    beside_run c s [] none p = record { then = c; told = nothing_sent_lem c; holds = p }
    beside_run c s (h ∷ hs) (more i is) p =
        let x = keeps c s h i p in
        let y = beside_run x.then (next_state s h) hs is x.holds in
        record { then = y.then; told = and_more c x.then y.then _ _ x.told y.told; holds = y.holds }

-- of two entries the first is in the log, and the second in the log of the run from the state that the first left
module _ (e f : LogEntry) where
  none_before : Before e f [] → ⊥
  none_before b = elim b [ ]

  before_cases : {x : LogEntry} {l : List LogEntry} → Before e f (x ∷ l) → ((e ≡ x) × Memᴰ f l) ⊎ Before e f l
  before_cases (at_once q m) = inl (q, m)
  before_cases (further b) = inr b

  pub before_first : {l : List LogEntry} → Before e f l → Memᴰ e l
  before_first (at_once q m) = Memᴰ.head q
  before_first (further b) = Memᴰ.tail (before_first b)

  pub before_second : (s : State) (hs : List Input) → Before e f (log_of s hs) → (rest : List Input)
      × Memᴰ f (log_of (answer_of e).state rest)
  unfolding log_of
  before_second s [] b = absurd (none_before b)
  before_second s (h ∷ hs) b = go (before_second (next_state s h) hs) (before_cases b)
    where
      go : (Before e f (log_of (next_state s h) hs) → (rest : List Input) × Memᴰ f (log_of (answer_of e).state rest))
          → ((e ≡ record { before = s; handed = h }) × Memᴰ f (log_of (next_state s h) hs))
          ⊎ Before e f (log_of (next_state s h) hs)
          → (rest : List Input) × Memᴰ f (log_of (answer_of e).state rest)
      go later (inl q) = (hs, rw q.0 q.1)
      go later (inr q) = later q
