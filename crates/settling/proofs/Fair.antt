-- What is assumed of one event, and what it adds to what the event does in any run.
use mathlib.Core.Path.{◌≡◌, refl, sym, ap, subst, ◌∙◌}
use mathlib.Core.Bool.{Bool, true, false, ◌&&◌}
use mathlib.Core.Logic.{inl, inr}
use mathlib.Core.List.{List, [], ◌∷◌}
use Prim.Native.Nat.{ℕ, ◌≤◌, ◌<◌}
use native.Mathlib.Omega.{arith}
use native.Mathlib.Decide.{ℕ_discrete}
use lib.ListN.{length, get_or}
use lib.Dec.{ltb}
use borrow.Author.Tests.{lt-ltb, ne_eqb}
use Rattle.laws.proofs.Fin.{true_false}
use Rattle.laws.specs.Upd.{ifb}
use Rattle.laws.proofs.Upd.{upd_same}
use Rattle.seats.specs.Offices.{serves}
use Rattle.records.specs.declared.Report.{Report}
use Rattle.records.specs.declared.Proposal.{Proposal}
use Rattle.rules.specs.State.{Mode, Fast}
use Rattle.rules.specs.Refusals.{Result}
use Rattle.runs.specs.World.{Item, World, Underway, WorldEvent, report, delivery, loss, cut, next, Gives, to_report}
use Rattle.runs.specs.World.{Among}
use Rattle.runs.proofs.Arrays.{Offices, Barred, renet, propose, conclude, Arrives, Apart, SlowTest, not_called, called}
use Rattle.runs.proofs.Arrays.{AgreementTest, not_agreed, agreed, Tests, both, Happens, idles, refuses, repeated, loses}
use Rattle.runs.proofs.Arrays.{drops}
use Rattle.runs.proofs.Arrays.{leaves, reports, stores, answers, restarts_apart, restarts, takes_nothing, takes_front}
use Rattle.runs.proofs.WorldArrays.{SeenAll, below_sixteen}
use Rattle.settling.specs.Statement.{between, delivery_one, OfA}
use Rattle.settling.proofs.Invariants.{NoLast, NoLastBut, HappensFairly, fair_idle, fair_loss, fair_cut}
use Rattle.settling.proofs.Invariants.{fair_leave, fair_report, fair_store, fair_answer}

-- the tests leave the net view
slow_net : {t me : ℕ} {g h : Offices} → SlowTest t me g h → h.net ≡ g.net
unfolding propose
slow_net (not_called s) = refl
slow_net (called p c k n) = refl

agreement_net : {t me : ℕ} {g h : Offices} → AgreementTest t me g h → h.net ≡ g.net
unfolding conclude
agreement_net (not_agreed n) = refl
agreement_net (agreed a) = refl

tests_net : {t me : ℕ} {g h : Offices} → Tests t me g h → h.net ≡ g.net
tests_net (both s a) = agreement_net a ∙ slow_net s

renet_net : (g : Offices) (me x : ℕ) → (renet g me x).net me ≡ x
unfolding renet
renet_net g me x = upd_same g.net me x

propose_net : (g : Offices) (me : ℕ) (m : Mode) (p : Proposal) (t : ℕ) → (propose g me m p t).net ≡ g.net
unfolding propose
propose_net g me m p t = refl

-- the deliveries between offices of A that an event makes
module _ (A : ℕ) (w : World) (i j room : ℕ) where
  counted_in_lem : OfA A j → (i ≡ j → ⊥) → (serves A i ≡ true → (x : Item) × (l : List Item) × (w.link i j ≡ x ∷ l))
      → delivery_one A w (delivery i j room) ≡ ifb (serves A i) 1 0
  counted_in_lem b n some = go (serves A i) refl
    where
      go : (t : Bool) → serves A i ≡ t → delivery_one A w (delivery i j room) ≡ ifb t 1 0
      go false e = rw e
      go true e =
          let f = some e in
          let lt : ltb 0 (length (f.0 ∷ f.1)) ≡ true = lt-ltb 0 (length (f.0 ∷ f.1)) (omega arith) in
          rw (f.2, lt, e, b.1, ne_eqb i j n)

  counted_out : (OfA A i → OfA A j → w.link i j ≡ []) → i < 16 → j < 16 → delivery_one A w (delivery i j room) ≡ 0
  counted_out out li lj = go (serves A i) (serves A j) refl refl
    where
      none : (t : Bool) → ifb {A = ℕ} (t && false) 1 0 ≡ 0
      none true = refl
      none false = refl

      go : (s t : Bool) → serves A i ≡ s → serves A j ≡ t → delivery_one A w (delivery i j room) ≡ 0
      go false t e f = rw e
      go true false e f = rw (e, f)
      go true true e f = rw (out (li, e) (lj, f)) (none (between A i j))

-- the event gives office i another net view
abbrev pub Renewed : World → WorldEvent → ℕ → Type 0
Renewed w e i = ((next w e).state i).net.bits ≡ (w.state i).net.bits → ⊥

module _ (A : ℕ) (last : ℕ → ℕ) where
  -- what is assumed of an event e in the world w
  pub record Fair (w : World) (e : WorldEvent) : Type 0 where
    pub answers : (i : ℕ) (r : Result) → OfA A i → Gives w e i r → (r.refusal ≡ 3 → ⊥) × (r.refusal ≡ 13 → ⊥)
    pub keeps : (i j place : ℕ) (x : Item) → OfA A i → OfA A j → e ≡ loss i j place → place < length (w.link i j)
        → get_or (w.link i j) place x ≡ x → x.sent < last i
    pub not_after : (i : ℕ) → OfA A i → Renewed w e i → w.clock ≤ last i
    pub is_last : (i : ℕ) → OfA A i → last i ≡ w.clock → (r : Report) × (room : ℕ) × (e ≡ report i r room)
        × Renewed w e i
    pub final : (i : ℕ) → OfA A i → last i ≡ w.clock → ((next w e).state i).net.bits ≡ A
    pub cuts_before : (o : ℕ) (b : Underway) (left m : ℕ) → OfA A o → e ≡ cut o b left m → (i : ℕ) → OfA A i
        → w.clock < last i

  not_barred : {w : World} {e : WorldEvent} {i : ℕ} {r : Result} → Fair w e → OfA A i → Gives w e i r → Barred r → ⊥
  not_barred f o g (inl e) = (f.answers _ _ o g).0 e
  not_barred f o g (inr e) = (f.answers _ _ o g).1 e

  -- no last report is due at another event
  module _ (w : World) where
    due_at_report : (me : ℕ) (rep : Report) (room : ℕ) → Fair w (report me rep room) → NoLastBut A last me w.clock
    due_at_report me rep room f i q n e =
        let z = f.is_last i q e in
        n (same me i rep z.0 room z.1 z.2)
      where
        same : (a b : ℕ) (r q : Report) (x y : ℕ) → report a r x ≡ report b q y → b ≡ a
        same a b r q x y e = cc

    due_at_delivery : (i j room : ℕ) → Fair w (delivery i j room) → NoLast A last w.clock
    due_at_delivery i j room f a q e = let z = f.is_last a q e in never z.2
      where
        never : {r : Report} {a y : ℕ} → delivery i j room ≡ report a r y → ⊥
        never e = let z : ◌≡◌ {A = ℕ} 0 1 = cc in omega arith

    due_at_loss : (i j place : ℕ) → Fair w (loss i j place) → NoLast A last w.clock
    due_at_loss i j place f a q e = let z = f.is_last a q e in never z.2
      where
        never : {r : Report} {a y : ℕ} → loss i j place ≡ report a r y → ⊥
        never e = let z : ◌≡◌ {A = ℕ} 0 1 = cc in omega arith

    due_at_cut : (o : ℕ) (b : Underway) (left m : ℕ) → Fair w (cut o b left m) → NoLast A last w.clock
    due_at_cut o b left m f a q e = let z = f.is_last a q e in never z.2
      where
        never : {r : Report} {a y : ℕ} → cut o b left m ≡ report a r y → ⊥
        never e = let z : ◌≡◌ {A = ℕ} 0 1 = cc in omega arith

    -- of a report, where it is no last one of me either
    none_due : (me : ℕ) (rep : Report) (room : ℕ) → Fair w (report me rep room) → (OfA A me → last me ≡ w.clock → ⊥)
        → NoLast A last w.clock
    none_due me rep room f n i q e = go (ℕ_discrete i me)
      where
        go : Dec (i ≡ me) → ⊥
        go (yes k) = n (subst (OfA A) k q) (ap last (sym k) ∙ e)
        go (no k) = due_at_report me rep room f i q k e

  -- what an event does is what it does where the hypotheses hold
  module _ (w : World) (g : Offices) (s : SeenAll (serves A) w g) where
    -- an office of A as it stands in arrays before and after the event
    moved_net : (e : WorldEvent) (h : Offices) → SeenAll (serves A) (next w e) h → (me : ℕ) → OfA A me
        → h.net me ≡ ((next w e).state me).net.bits
    moved_net e h v me o = sym (v.sim me o (below_sixteen (serves A) o.0)).net

    same_net : (me : ℕ) → OfA A me → (w.state me).net.bits ≡ g.net me
    same_net me o = (s.sim me o (below_sixteen (serves A) o.0)).net

    renewed : (e : WorldEvent) (h : Offices) → SeenAll (serves A) (next w e) h → (me : ℕ) → OfA A me
        → (h.net me ≡ g.net me → ⊥) → Renewed w e me
    renewed e h v me o n z = n (moved_net e h v me o ∙ z ∙ same_net me o)

    -- the net view that the last report leaves
    net_after_lem : (e : WorldEvent) (h : Offices) → Fair w e → SeenAll (serves A) (next w e) h → (me : ℕ) → OfA A me
        → last me ≡ w.clock → h.net me ≡ A
    net_after_lem e h f v me o l = moved_net e h v me o ∙ f.final me o l

    untouched : (e : WorldEvent) → Among e → Fair w e → Apart (serves A) w e
        → HappensFairly A last w.clock (delivery_one A w e) g g
    untouched (report o r room) m f a = fair_idle (none_due w o r room f (λ q. absurd (a q)))
    untouched (delivery i j room) m f a =
        rw (counted_out A w i j room a m.0 m.1) (fair_idle (due_at_delivery w i j room f))
    untouched (loss i j place) m f a = fair_idle (due_at_loss w i j place f)
    untouched (cut o b left k) m f a = absurd a

    arrival : (i me room : ℕ) (p : Proposal) (l : List Item) → Arrives (serves A) g me i p l
        → delivery_one A w (delivery i me room) ≡ ifb (serves A i) 1 0
    arrival i me room p l a =
        counted_in_lem A w i me room a.at_office a.others
        (λ e. let o = a.oldest (a.from_office, e) in
        (o.0, l, s.links i me ((a.from_office, e), a.at_office.0, a.others) ∙ o.1))

    pub fair_acts : {e : WorldEvent} {h : Offices} → Among e → Fair w e → Happens (serves A) w e g h
        → SeenAll (serves A) (next w e) h
        → HappensFairly A last w.clock (delivery_one A w e) g h
    fair_acts {e} m f (idles a) v = untouched e m f a
    fair_acts m f (refuses o b) v = absurd (not_barred f o (to_report _ _ _) b)
    fair_acts m f (repeated {me = me} {room = room} {r = r} o k) v =
        fair_idle (none_due w me r room f (λ q l.
        (f.is_last me q l).3 (sym (moved_net (report me r room) g v me o) ∙ sym (same_net me o))))
    fair_acts m f (loses {i = i} {j = j} {place = place} k) v =
        let same = s.links i j k in
        fair_loss i j place (due_at_loss w i j place f)
        (record {
          from_office = k.0;
          to_office = k.1;
          others = k.2;
          early = λ oj x lt e. f.keeps i j place x k.0 oj refl (rw same lt) (rw same e);
        })
    fair_acts m f (drops {i = i} {j = j} {room = room} k b) v =
        let out : OfA A j → ⊥ = λ oj. let r = b oj in not_barred f oj r.1 r.2 in
        rw (counted_out A w i j room (λ a c. absurd (out c)) m.0 m.1)
        (fair_loss i j 0 (due_at_delivery w i j room f)
        (record { from_office = k.0; to_office = k.1; others = k.2; early = λ oj. absurd (out oj) }))
    fair_acts m f (restarts_apart {o = o} {left = left} {m = k} {b = b} out takes_nothing) v =
        fair_idle (due_at_cut w o b left k f)
    fair_acts m f (restarts_apart {o = o} {left = left} {m = k} {b = b} out (takes_front {i = i} from)) v =
        fair_loss i o 0 (due_at_cut w o b left k f)
        (record { from_office = from.0; to_office = from.1; others = from.2; early = λ oj. absurd (out oj) })
    fair_acts m f (restarts {me = me} {left = left} {m = k} {b = b} ws o u r) v =
        fair_cut me k ws o (f.cuts_before me b left k o refl) u r
    fair_acts {h = h} m f (leaves {me = me} {room = room} {r = r} x o c b) v =
        fair_leave me x (none_due w me r room f not_last) o
        (f.not_after me o (renewed (report me r room) (renet g me x) v me o (λ z. c (sym (renet_net g me x) ∙ z))))
      where
        not_last : OfA A me → last me ≡ w.clock → ⊥
        not_last q l =
            let a : x ≡ A = sym (renet_net g me x) ∙ net_after_lem (report me r room) (renet g me x) f v me o l in
            true_false _ (ap (λ (y : ℕ). serves y me) a ∙ o.1) b
    fair_acts {h = h} m f (reports {me = me} {room = room} {r = r} x p o c k t) v =
        let is_x : h.net me ≡ x =
        ap (λ (y : ℕ → ℕ). y me) (tests_net t ∙ propose_net (renet g me x) me Fast p w.clock)
        ∙ renet_net g me x in
        fair_report me x p (record {
          at_office = o;
          open_yet = f.not_after me o (renewed (report me r room) h v me o (λ z. c (sym is_x ∙ z)));
          makes = k;
          is_a = λ l. sym is_x ∙ net_after_lem (report me r room) h f v me o l;
          no_other = due_at_report w me r room f;
        }) t
    fair_acts m f (stores {i = i} {me = me} {room = room} p l a d) v =
        rw (arrival i me room p l a) (fair_store me i p l (due_at_delivery w i me room f) a d)
    fair_acts m f (answers {i = i} {me = me} {room = room} p l a d t) v =
        rw (arrival i me room p l a) (fair_answer me i p l (due_at_delivery w i me room f) a d t)
