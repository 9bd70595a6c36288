-- The settling rule, proved: `settles` is the statement of Statement.antt.
use mathlib.Core.Path.{◌≡◌, refl, sym, ap, subst, ◌∙◌}
use mathlib.Core.List.{List, [], ◌∷◌}
use Prim.Native.Nat.{ℕ, ◌+◌, ◌-◌, ◌*◌, ◌≤◌, ◌<◌}
use native.Mathlib.Omega.{arith}
use native.Mathlib.Decide.{dec_lt}
use lib.ListN.{length, drop}
use lib.Seq.{drop-length}
use Rattle.laws.specs.Lists.{Every}
use Rattle.laws.proofs.Lists.{every_head}
use Rattle.seats.specs.Offices.{serves, count_of}
use Rattle.records.specs.declared.Report.{Report}
use Rattle.records.specs.declared.Proposal.{Proposal}
use Rattle.records.specs.declared.View.{View}
use Rattle.rules.specs.State.{State}
use Rattle.rules.specs.Refusals.{Result}
use Rattle.rule_laws.proofs.Steps.{Passes}
use Rattle.runs.specs.World.{Item, World, at_first, WorldEvent, report, delivery, loss, cut, next, at, Nth, Gives}
use Rattle.runs.specs.World.{to_report, to_proposal}
use Rattle.runs.specs.Begins.{Begins, RestartsAbove}
use Rattle.runs.specs.Files.{FileEvent, filed_first, plainly}
use Rattle.runs.proofs.FilesAbove.{restarts_above}
use Rattle.runs.proofs.Arrays.{Offices, Numbers, Happens, view_with}
use Rattle.runs.proofs.Accepting.{unheard}
use Rattle.runs.proofs.WorldArrays.{SeenAll, below_sixteen}
use Rattle.runs.proofs.Start.{at_start, start_numbers}
use Rattle.runs.proofs.Places.{nth_same, at_next, drop_next, clock_first, along}
use Rattle.runs.proofs.Runs.{Shown, shown_along, shown_at}
use Rattle.settling.specs.Statement.{on_way, delivery_one, deliveries, OfA, net_at, Changes, Assumed, AllReported}
use Rattle.settling.specs.Statement.{Settled, CutsFirst, SettlesUncut, Settles, SettlesAfterCuts, SettlesWithFiles}
use Rattle.settling.proofs.Invariants.{Done, Inv, HappensFairly}
use Rattle.settling.proofs.AfterTests.{inv_none, inv_acts}
use Rattle.settling.proofs.Core.{core_none}
use Rattle.settling.proofs.Quiet.{quiet_view}
use Rattle.settling.proofs.Bound.{Goes, at_first_lem, acted, deliveries_bound}
use Rattle.settling.proofs.Changes.{stays_after, net_at_end, cuts_first_lem}
use Rattle.settling.proofs.Fair.{Renewed, Fair, fair_acts}
use Rattle.runs.proofs.NetView.{unchanged_silent, net_at_lem}
use Rattle.settling.proofs.OnWay.{Empty, none_on_way, same_way, quiet_acts}

-- before the first event no last report has come
start_inv : (A : ℕ) (last : ℕ → ℕ) → Inv A last 0 at_start
start_inv A last = inv_none A last 0 at_start (core_none A last 0 at_start (start_numbers (serves A)) never) never
  where
    never : (i : ℕ) → Done A last 0 i → ⊥
    never i d = let l = d.1 in omega arith

module _ (A : ℕ) (states : ℕ → State) (links : ℕ → ℕ → List Item) (es : List WorldEvent) (last : ℕ → ℕ)
    (known : Assumed A states links es last)
    (cuts : CutsFirst A states links es last) (above : RestartsAbove (serves A) (at_first states links) es) where
  abbrev start : World
  start = at_first states links

  -- the world before event n
  abbrev world : ℕ → World
  world n = at start es n

  begins : Begins (serves A) states links
  begins = record {
    starts_fresh = known.starts_fresh;
    without_mail = known.without_mail;
    others_own = λ o lt n. (known.others_pass o lt n).0;
    others_mail = known.others_mail;
  }

  clock_is : (n : ℕ) → n ≤ length es → (world n).clock ≡ n
  clock_is = clock_first states links es

  abbrev net : ℕ → ℕ → ℕ
  net = net_at A states links es

  -- the net view of an office of A before event n and after it, as its reports make it
  net_is : (n i : ℕ) → OfA A i → ((world n).state i).net.bits ≡ net i n
  net_is n i q = net_at_lem states links es i known.among (known.starts_fresh i q) n

  net_left : (n i : ℕ) (e : WorldEvent) → OfA A i → Nth es n e → ((next (world n) e).state i).net.bits ≡ net i (n + 1)
  net_left n i e q h = ap (λ (w : World). (w.state i).net.bits) (sym (at_next start es n e h)) ∙ net_is (n + 1) i q

  -- after its last report no event changes it
  kept_after_lem : (n i : ℕ) (e : WorldEvent) → OfA A i → Nth es n e → last i < n
      → ((next (world n) e).state i).net.bits ≡ ((world n).state i).net.bits
  kept_after_lem n i e q h lt =
      net_left n i e q h ∙ stays_after A states links es (last i) i (known.has_last i q)
      (λ m c. cuts m i i q q c) n lt h.0 ∙ sym (net_is n i q)

  -- so it is A, for so it is at the end
  net_from : (n i : ℕ) → n ≤ length es → OfA A i → last i < n → net i n ≡ A
  net_from n i le q lt =
      along (λ k. net i n ≡ net i k) es n (length es) le (omega arith) refl
      (λ k e h x y. y ∙ sym
      (stays_after A states links es (last i) i (known.has_last i q) (λ m c. cuts m i i q q c) k (omega arith)
      x.0))
      ∙ net_at_end A states links es i ∙ known.net_is_a i q

  -- what is assumed of each event
  fair : (n : ℕ) (e : WorldEvent) → Nth es n e → Fair A last (world n) e
  fair n e h =
      let lt = h.0 in
      let c : (world n).clock ≡ n = clock_is n (omega arith) in
      record {
        answers = λ i r q g. (known.with_room n i r e q h g, known.no_ceiling n i r e q h g);
        keeps = λ i j place x a b k. known.none_lost n i j place x a b (subst (Nth es n) k h);
        not_after = λ i q. not_later i q c;
        is_last = λ i q k. the_report i q (k ∙ c);
        cuts_before = λ o b left m q k i p. let z = cuts n o i q p (b, left, m, subst (Nth es n) k h) in omega arith;
        final = λ i q k. net_left n i e q h ∙ net_from (n + 1) i (omega arith) q (omega arith);
      }
    where
      not_later : (i : ℕ) → OfA A i → (world n).clock ≡ n → Renewed (world n) e i → (world n).clock ≤ last i
      not_later i q c d = go (dec_lt (last i) n)
        where
          go : Dec (last i < n) → (world n).clock ≤ last i
          go (yes b) = absurd (d (kept_after_lem n i e q h b))
          go (no b) = omega arith

      the_report : (i : ℕ) → OfA A i → last i ≡ n → (r : Report) × (room : ℕ) × (e ≡ report i r room)
          × Renewed (world n) e i
      the_report i q k =
          let x = subst (λ (m : ℕ). Changes A states links es m i) k (known.has_last i q).0 in
          let r = x.0 in (
            r.0,
            r.1,
            nth_same es n e (report i r.0 r.1) h r.2,
            λ z. x.1 (sym (net_left n i e q h) ∙ z ∙ net_is n i q),
          )

  -- event n, where arrays g show the world before it
  step_acts : (n : ℕ) (e : WorldEvent) → Nth es n e → (g h : Offices) → SeenAll (serves A) (world n) g
      → Happens (serves A) (world n) e g h
      → SeenAll (serves A) (world (n + 1)) h → HappensFairly A last n (delivery_one A (world n) e) g h
  step_acts n e k g h s a v =
      let lt = k.0 in
      let c : (world n).clock ≡ n = clock_is n (omega arith) in
      subst (λ (t : ℕ). HappensFairly A last t (delivery_one A (world n) e) g h) c
      (fair_acts A last (world n) g s (known.among n e k) (fair n e k) a
      (subst (λ (w : World). SeenAll (serves A) w h) (at_next start es n e k) v))

  -- arrays that show the world before event n, with the invariants and with I besides
  abbrev Known : (ℕ → Offices → Type 0) → ℕ → Type 0
  Known I = Shown (serves A) states links es begins known.among above (λ n g. Inv A last n g × I n g)

  module _ (I : ℕ → Offices → Type 0)
      (keeps : (n : ℕ) (e : WorldEvent) → Nth es n e → (g h : Offices) → Inv A last n g → I n g
      → HappensFairly A last n (delivery_one A (world n) e) g h
      → I (n + 1) h) where
    one : (n : ℕ) (e : WorldEvent) → Nth es n e → (g h : Offices) → SeenAll (serves A) (world n) g
        → Numbers (serves A) g → Inv A last n g × I n g
        → Happens (serves A) (world n) e g h → SeenAll (serves A) (world (n + 1)) h → Inv A last (n + 1) h
        × I (n + 1) h
    one n e k g h s c i a v = let f = step_acts n e k g h s a v in
        (inv_acts A last i.0 f, keeps n e k g h i.0 i.1 f)

    known_along : (n m : ℕ) → n ≤ m → m ≤ length es → Known I n → Known I m
    known_along = shown_along (serves A) states links es begins known.among above
        (λ n g. Inv A last n g × I n g) one

    known_at : I 0 at_start → (n : ℕ) → n ≤ length es → Known I n
    known_at i = shown_at (serves A) states links es begins known.among above (λ n g. Inv A last n g × I n g) one
        (start_inv A last, i)

  abbrev Whatever : ℕ → Offices → Type 0
  Whatever n g = 0 ≤ n

  any_time : (n : ℕ) → n ≤ length es → Known Whatever n
  any_time = known_at Whatever (λ n e k g h v i a. omega arith) (omega arith)

module _ (A : ℕ) (states : ℕ → State) (links : ℕ → ℕ → List Item) (es : List WorldEvent) (last : ℕ → ℕ) (T : ℕ)
    (known : Assumed A states links es last) (cuts : CutsFirst A states links es last)
    (above : RestartsAbove (serves A) (at_first states links) es)
    (after : AllReported A states links es last T) where
  abbrev w_at : ℕ → World
  w_at n = at (at_first states links) es n

  all_done : (n : ℕ) → T ≤ n → (i : ℕ) → OfA A i → last i < n
  all_done n h i q = let a = after.after i q in omega arith

  T-in : T ≤ length es
  T-in = let j = after.at_once in let r = (known.has_last j.0 j.1).0.0.2.0 in let e = j.2 in omega arith

  -- the proposals on their way at T, and the deliveries from a place on
  abbrev P : ℕ
  P = on_way A (w_at T).link

  from : ℕ → ℕ
  from n = deliveries A (w_at n) (drop n es)

  -- d deliveries since T, and the rest to come
  Counted : ℕ → Offices → Type 0
  Counted n g = (T ≤ n) × (d : ℕ) × Goes A last T P after.after d g × (d + from n ≡ from T)

  count_one : (n : ℕ) (e : WorldEvent) → Nth es n e → (g h : Offices) → Inv A last n g → Counted n g
      → HappensFairly A last n (delivery_one A (w_at n) e) g h → Counted (n + 1) h
  unfolding Counted from deliveries
  count_one n e k g h v c a =
      let b : deliveries A (w_at n) (drop n es) ≡ delivery_one A (w_at n) e + deliveries A (w_at (n + 1))
      (drop (n + 1) es)
      = rw (drop_next es n e k, at_next (at_first states links) es n e k) in
      let l = c.0 in
      let q = c.3 in
      (omega arith, c.1 + delivery_one A (w_at n) e, acted A last T P after.after v c.0 a c.2, omega arith)

  bounded : from T ≤ P + count_of A * (count_of A - 1) * (P + count_of A)
  unfolding Counted from deliveries
  bounded =
      let s = any_time A states links es last known cuts above T T-in in
      let c : (w_at T).clock ≡ T = clock_is A states links es last known cuts above T T-in in
      let early : (i j : ℕ) → OfA A i → OfA A j → (i ≡ j → ⊥) → Every (λ x. x.sent < T) (s.0.link i j)
      = λ i j a b n. subst (λ (t : ℕ). Every (λ x. x.sent < t) (s.0.link i j)) c
      (rw (s.1.links i j (a, b.0, n)) at (s.1.stamped i j (a, b.0, n))) in
      let same : P ≡ on_way A s.0.link =
      same_way A (w_at T).link s.0.link (λ i j a b n. s.1.links i j (a, b.0, n)) in
      let first : Goes A last T P after.after 0 s.0
      = subst (λ (x : ℕ). Goes A last T x after.after 0 s.0) (sym same)
      (at_first_lem A last T after.after s.0 early) in
      let r = known_along A states links es last known cuts above Counted count_one T (length es) T-in (omega arith)
      (s.0, s.1, s.2, (s.3.0, (omega arith, 0, first, omega arith))) in
      let z : deliveries A (w_at (length es)) (drop (length es) es) ≡ 0 = rw (drop-length es) in
      let b = deliveries_bound A last T P after.after r.3.1.2 in
      let q = r.3.1.3 in
      omega arith

  -- nothing is on its way between the offices of A
  abbrev Still : ℕ → Offices → Type 0
  Still n g = (T ≤ n) × Empty A g.link

  abbrev Quiet : ℕ → Type 0
  Quiet n = Known A states links es last known cuts above Still n

  quiet_at : (n : ℕ) → T ≤ n → n ≤ length es → on_way A (w_at n).link ≡ 0 → Quiet n
  quiet_at n t h z =
      let s = any_time A states links es last known cuts above n h in (
        s.0,
        s.1,
        s.2,
        (
          s.3.0,
          (t, λ i j a b m. sym (s.1.links i j (a, b.0, m)) ∙ none_on_way A (w_at n).link z i j a b m),
        ),
      )

  quiet_on : (n m : ℕ) → n ≤ m → m ≤ length es → Quiet n → Quiet m
  quiet_on = known_along A states links es last known cuts above Still
      (λ n e k g h v s a. let l = s.0 in (omega arith, quiet_acts A last n (all_done n s.0) v s.1 a))

  -- what a quiet office of A answers: it writes nothing
  silent : (n : ℕ) → T ≤ n → Quiet n → (e : WorldEvent) → Nth es n e → (i : ℕ) (r : Result) → OfA A i
      → Gives (w_at n) e i r → r.written ≡ []
  silent n h q e k i r p (to_report o rep room) =
      unchanged_silent (w_at n) o room rep (known.among n (report o rep room) k)
      (kept_after_lem A states links es last known cuts above n o (report o rep room) p k (all_done n h o p))
  silent n h q e k j r p (to_proposal i o room x l front) = unheard (w_at n) o room x.proposal not_of_a
    where
      m : (i < 16) × (o < 16) × (i ≡ o → ⊥)
      m = known.among n (delivery i o room) k

      out : OfA A i → ⊥
      out a =
          let z : [] ≡ x ∷ l = sym (q.3.1.1 i o a p m.2) ∙ sym (q.1.links i o (a, p.0, m.2)) ∙ front in
          let y : ◌≡◌ {A = ℕ} 0 1 = cc in omega arith

      not_of_a : (r : Proposal) → Passes ((w_at n).state o) r → r.sender ≡ x.proposal.sender
          → r.members.bits ≡ ((w_at n).state o).net.bits → ⊥
      not_of_a r pass s e =
          let sender : r.sender ≡ i = s ∙ every_head (rw front at (q.1.named i o m.0 m.1)) in
          let net : ((w_at n).state o).net.bits ≡ A
          = (q.1.sim o p (below_sixteen (serves A) p.0)).net
          ∙ q.3.0.core.book.net_a o (p, all_done n h o p) in
          out (
            m.0,
            ap (λ (y : ℕ). serves y i) (sym (e ∙ net)) ∙ ap (serves r.members.bits) (sym sender)
                ∙ pass.seat,
          )

  settled : (n : ℕ) → T ≤ n → n ≤ length es → on_way A (w_at n).link ≡ 0
      → (v : View) × Settled A states links es last n v
  unfolding view_with
  settled n h k z =
      let q = quiet_at n h k z in
      let d : (i : ℕ) → OfA A i → Done A last n i = λ i a. (a, all_done n h i a) in (
        view_with A (λ o. (q.0.made o).start),
        record {
          of_a = refl;
          latest = λ i a. let y = quiet_view A last n q.0 q.3.0 d q.3.1.1 i a in
              (y.0, y.1, q.1.shown i a ∙ y.2, y.3);
          no_more = λ m i r e le a x g. silent m (omega arith) (quiet_on n m le (let l = x.0 in omega arith) q) e x i
              r a g;
        },
      )

-- the settling rule, where every cut comes before every last report
pub settles_after_cuts : (A : ℕ) (states : ℕ → State) (links : ℕ → ℕ → List Item) (es : List WorldEvent)
    → RestartsAbove (serves A) (at_first states links) es
    → SettlesAfterCuts A states links es
unfolding from
settles_after_cuts A states links es above last T known cuts after =
    (bounded A states links es last T known cuts above after, settled A states links es last T known cuts above after)

-- and by request 7's words
pub settles : (A : ℕ) (states : ℕ → State) (links : ℕ → ℕ → List Item) (es : List WorldEvent)
    → RestartsAbove (serves A) (at_first states links) es
    → Settles A states links es
settles A states links es above last T known cuts after =
    settles_after_cuts A states links es above last T known
    (cuts_first_lem A states links es last known.has_last cuts) after

-- demand 3 itself: without cuts nothing is asked of them
pub settles_uncut : (A : ℕ) (states : ℕ → State) (links : ℕ → ℕ → List Item) (es : List WorldEvent)
    → SettlesUncut A states links es
settles_uncut A states links es last T known uncut after =
    settles_after_cuts A states links es above last T known (λ n r i a b c. absurd (uncut n r c)) after
  where
    above : RestartsAbove (serves A) (at_first states links) es
    above n (report o r room) h = tt
    above n (delivery i j room) h = tt
    above n (loss i j place) h = tt
    above n (cut o b left m) h = absurd (uncut n o (b, left, m, h))

-- and where an office is cut off after any byte written to its file and after any record that left
pub settles_with_files : (A : ℕ) (states : ℕ → State) (links : ℕ → ℕ → List Item) (files : ℕ → List ℕ)
    (fs : List FileEvent) → SettlesWithFiles A states links files fs
settles_with_files A states links files fs empty =
    let es = plainly (filed_first states links files) fs in
    let above = restarts_above (serves A) states links files empty fs in
    (settles A states links es above, settles_after_cuts A states links es above)
