-- The settling rule (demand 3), stated over the world of crate runs: what is assumed, what is claimed. The proof
-- stands in proofs/; its end is `settles` in Settling.antt.
use Rattle.std.specs.Prelude.{◌≡◌, Bool, true, false, ◌&&◌, not, List, [], ◌∷◌, ℕ, ◌+◌, ◌-◌, ◌*◌, ◌^◌, ◌≤◌, ◌<◌, length}
use Rattle.std.specs.Prelude.{take, drop, get_or, eqb, ltb}
use Rattle.laws.specs.Lists.{Every}
use Rattle.laws.specs.Fin.{sum}
use Rattle.laws.specs.Upd.{ifb}
use Rattle.seats.specs.Offices.{serves, count_of}
use Rattle.records.specs.declared.Report.{Report}
use Rattle.records.specs.declared.View.{View}
use Rattle.rules.specs.State.{State}
use Rattle.rules.specs.Rules.{fresh}
use Rattle.rules.specs.Refusals.{Result, well_formed}
use Rattle.runs.specs.World.{Item, SentView, views_in, World, at_first, Underway, WorldEvent, report, delivery, loss}
use Rattle.runs.specs.World.{cut, next, at, Nth, Gives, net_by, Among}
use Rattle.runs.specs.Files.{FileEvent, filed_first, plainly}

-- i and j are two offices of A
abbrev pub between : ℕ → ℕ → ℕ → Bool
between A i j = serves A i && serves A j && not (eqb i j)

-- proposals on their way between the offices of A, counted once for each link
abbrev pub on_way : ℕ → (ℕ → ℕ → List Item) → ℕ
on_way A link = sum 16 (λ i. sum 16 (λ j. ifb (between A i j) (length (link i j)) 0))

-- the deliveries between offices of A in a list of events from the world w on
abbrev pub delivery_one : ℕ → World → WorldEvent → ℕ
delivery_one A w (report o r room) = 0
delivery_one A w (delivery i j room) = ifb (between A i j && ltb 0 (length (w.link i j))) 1 0
delivery_one A w (loss i j place) = 0
delivery_one A w (cut o b left m) = 0

unfoldable pub deliveries : ℕ → World → List WorldEvent → ℕ
deliveries A w [] = 0
deliveries A w (e ∷ es) = delivery_one A w e + deliveries A (next w e) es

-- office i is one of the k offices of A
abbrev pub OfA : ℕ → ℕ → Type 0
OfA A i = (i < 16) × (serves A i ≡ true)

-- A set A, the sixteen states and the links at first, a list of events
module _ (A : ℕ) (states : ℕ → State) (links : ℕ → ℕ → List Item) (es : List WorldEvent) where
  abbrev pub first : World
  first = at_first states links

  -- the net view of office i before event n: what its accepted reports, since it was last fresh, make of the empty set
  abbrev pub net_at : ℕ → ℕ → ℕ
  net_at i n = net_by first (take n es) i 0

  -- event n is a report to office i; one that changes its net view, which is judged before the event and after it;
  -- the last of those
  abbrev pub ReportTo : ℕ → ℕ → Type 0
  ReportTo n i = (r : Report) × (room : ℕ) × Nth es n (report i r room)

  abbrev pub Changes : ℕ → ℕ → Type 0
  Changes n i = ReportTo n i × (net_at i (n + 1) ≡ net_at i n → ⊥)

  abbrev pub LastChange : ℕ → ℕ → Type 0
  LastChange i n = Changes n i × ((m : ℕ) → n < m → Changes m i → ⊥)

  -- event n is a cut of office r
  abbrev pub CutAt : ℕ → ℕ → Type 0
  CutAt n r = (b : Underway) × (left : ℕ) × (m : ℕ) × Nth es n (cut r b left m)

  -- Cuts of offices of A, in request 7's words: each comes before the office's last report, and after it every other
  -- office of A gets a report that takes the office's seats out and one that brings them back. A report after which no
  -- seat of it is in the net view takes them out, also where none was in it before.
  abbrev pub TakesOut : ℕ → ℕ → ℕ → Type 0
  TakesOut n j r = ReportTo n j × (serves (net_at j (n + 1)) r ≡ false)

  abbrev pub BringsBack : ℕ → ℕ → ℕ → Type 0
  BringsBack n j r = ReportTo n j × (serves (net_at j (n + 1)) r ≡ true)

  pub record OutAndBack (last : ℕ → ℕ) : Type 0 where
    pub before_last : (n r : ℕ) → OfA A r → CutAt n r → n < last r
    pub out_and_back : (n r j : ℕ) → OfA A r → OfA A j → (j ≡ r → ⊥) → CutAt n r
        → (a b : ℕ) × (n < a) × (a < b) × TakesOut a j r × BringsBack b j r

  -- what is needed of them: every cut of an office of A comes before the last report of every office of A
  abbrev pub CutsFirst : (ℕ → ℕ) → Type 0
  CutsFirst last = (n r i : ℕ) → OfA A r → OfA A i → CutAt n r → n < last i

  -- no office is cut off
  abbrev pub Uncut : Type 0
  Uncut = (n r : ℕ) → CutAt n r → ⊥

  -- what is assumed; event last i is the last report that changes the net view of office i, its last report for short
  pub record Assumed (last : ℕ → ℕ) : Type 0 where
    -- A is a set of at least one seat
    pub some_seat : (0 < A) × (A < 2 ^ 64)
    -- the offices of A start fresh, with empty links to all others
    pub starts_fresh : (i : ℕ) → OfA A i → states i ≡ fresh i
    pub without_mail : (i j : ℕ) → OfA A i → links i j ≡ []
    -- any other office starts in any state with its own office number that passes check 2, its links holding any
    -- proposals that name it as sender
    pub others_pass : (o : ℕ) → o < 16 → (OfA A o → ⊥) → ((states o).own ≡ o) × (well_formed (states o) ≡ true)
    pub others_mail : (o j : ℕ) → o < 16 → (OfA A o → ⊥) → Every (λ x. x.proposal.sender ≡ o) (links o j)
    -- the events are of the sixteen offices and their links
    pub among : (n : ℕ) (e : WorldEvent) → Nth es n e → Among e
    -- each office of A has a last report, and A as its net view at the end
    pub has_last : (i : ℕ) → OfA A i → LastChange i (last i)
    pub net_is_a : (i : ℕ) → OfA A i → net_by first es i 0 ≡ A
    -- full output room and no ceiling: none of its events is answered 3 or 13
    pub with_room : (n i : ℕ) (r : Result) (e : WorldEvent) → OfA A i → Nth es n e → Gives (at first es n) e i r
        → r.refusal ≡ 3 → ⊥
    pub no_ceiling : (n i : ℕ) (r : Result) (e : WorldEvent) → OfA A i → Nth es n e → Gives (at first es n) e i r
        → r.refusal ≡ 13 → ⊥
    -- none of the proposals that it sends the others of A from its last report on is lost
    pub none_lost : (n i j place : ℕ) (x : Item) → OfA A i → OfA A j → Nth es n (loss i j place)
        → place < length ((at first es n).link i j) → get_or ((at first es n).link i j) place x ≡ x → x.sent < last i

  -- T is the point at which the last of these reports has been acted on
  pub record AllReported (last : ℕ → ℕ) (T : ℕ) : Type 0 where
    pub after : (i : ℕ) → OfA A i → last i < T
    pub at_once : (i : ℕ) × OfA A i × (T ≡ last i + 1)

  -- at point n the offices of A have settled on the view v
  pub record Settled (last : ℕ → ℕ) (n : ℕ) (v : View) : Type 0 where
    pub of_a : v.members.bits ≡ A
    -- each has sent a view since its last report, and its latest is v
    pub latest : (i : ℕ) → OfA A i → (t : ℕ) × (vs : List SentView)
        × (views_in ((at first es n).log i) ≡ record { view = v; sent = t } ∷ vs) × (last i ≤ t)
    -- they send no more
    pub no_more : (m i : ℕ) (r : Result) (e : WorldEvent) → n ≤ m → OfA A i → Nth es m e → Gives (at first es m) e i r
        → r.written ≡ []

  -- the settling rule, with a hypothesis on the cuts: P is what is on its way at T, k the number of the offices of A
  abbrev pub SettlesIf : ((ℕ → ℕ) → Type 0) → Type 0
  SettlesIf Cuts = (last : ℕ → ℕ) (T : ℕ) → Assumed last → Cuts last → AllReported last T
      → (deliveries A (at first es T) (drop T es)
      ≤ on_way A (at first es T).link + count_of A * (count_of A - 1) * (on_way A (at first es T).link + count_of A))
      × ((n : ℕ) → T ≤ n → n ≤ length es → on_way A (at first es n).link ≡ 0 → (v : View) × Settled last n v)

  -- demand 3 itself
  abbrev pub SettlesUncut : Type 0
  SettlesUncut = SettlesIf (λ last. Uncut)

  -- by request 7's words, and by what is needed
  abbrev pub Settles : Type 0
  Settles = SettlesIf OutAndBack

  abbrev pub SettlesAfterCuts : Type 0
  SettlesAfterCuts = SettlesIf CutsFirst

-- The same of lists in which an office is cut off after any byte written to its file and any record that left. The
-- files of the offices of A are empty at first.
abbrev pub NoMarks : ℕ → (ℕ → List ℕ) → Type 0
NoMarks A files = (i : ℕ) → OfA A i → files i ≡ []

abbrev pub SettlesWithFiles : ℕ → (ℕ → State) → (ℕ → ℕ → List Item) → (ℕ → List ℕ) → List FileEvent → Type 0
SettlesWithFiles A states links files fs = NoMarks A files → let es = plainly (filed_first states links files) fs in
    Settles A states links es × SettlesAfterCuts A states links es
