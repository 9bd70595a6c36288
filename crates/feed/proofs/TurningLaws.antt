-- For the module turning: what each function of a turn shows, over plain values: the text that is due stays due.
use mathlib.Core.Path.{◌≡◌, refl, sym, ap, ◌∙◌}
use mathlib.Core.Bool.{Bool, true, false, not}
use mathlib.Core.Logic.{◌⊎◌, inl, inr, ⊎_elim}
use mathlib.Core.List.{List, [], ◌∷◌, ◌++◌, flatten, append-nil, append_assoc}
use Prim.Native.Nat.{ℕ, ◌+◌, ◌-◌, ◌≤◌, ◌<◌}
use native.Mathlib.Omega.{arith}
use native.Mathlib.Nat.{pos_of_ne-zero}
use lib.ListN.{length, take}
use lib.Seq.{length-take-le}
use lib.Dec.{eqb}
use borrow.Author.Tests.{eqb-false}
use Rattle.laws.proofs.Fin.{true_false}
use Rattle.laws.specs.Lists.{none, more}
use Rattle.records.specs.Run.{run_check}
use Rattle.records.specs.Layout.{room_of}
use Rattle.row.specs.Table.{table_of}
use Rattle.text.specs.Lines.{front_of, behind_of, answer_for, line_for}
use Rattle.feed.specs.TurnReady.{TurnReady}
use Rattle.buffers.specs.Place.{Within, window_of, unwritten_of, waits_of, Refilled}
use Rattle.buffers.specs.Room.{buffer_length, room_for}
use Rattle.feed.specs.Answered.{Answered}
use Rattle.buffers.specs.Progress.{sent_from, Emptied}
use Rattle.feed.specs.Turn.{Stand, stand_at, sent_at, Keeps, Advances, Turns}
use Rattle.buffers.specs.declared.input.Place.{Place}
use Rattle.buffers.specs.Place.{Grown}
use Rattle.feed.specs.Session.{Advanced}
use Rattle.records.proofs.RunLaws.{Front, nothing, other, short, whole, front}
use Rattle.records.proofs.Growing.{whole_long}
use Rattle.text.proofs.LineLaws.{front_behind, lines_nil, Decided, entire, last, marked, decided_text, came_whole}
use Rattle.buffers.proofs.Window.{window_left, front_fits, Waits, waits, ready, waits_cases}
use Rattle.buffers.proofs.Room.{room_none, room_nothing, nothing_due}

-- where a whole record stands in front, or the input has ended, nothing is waited for
unwaited : (ended : Bool) (w : List ℕ) → (run_check w ≡ 0) ⊎ (ended ≡ true) → 0 < length w → waits_of ended w ≡ true → ⊥
unwaited ended w e h t = go (waits_cases ended w)
  where
    go : Waits ended w → ⊥
    go (ready r f) = true_false (waits_of ended w) t f
    go (waits n few l g) = ⊎_elim (λ z. g (whole_long w h z) z) (λ y. true_false ended y n) e

-- what a stand is made of
same_stand : {ws : List ℕ} {ended ended' : Bool} {n n' : ℕ} {w w' u u' : List ℕ} → ended ≡ ended' → n ≡ n' → w ≡ w'
    → u ≡ u'
    → ◌≡◌ {A = Stand} (record { words = ws; ended = ended; number = n; window = w; unwritten = u })
    (record { words = ws; ended = ended'; number = n'; window = w'; unwritten = u' })
same_stand e n w u = rw (e, n, w, u)

module _ (traced : Bool) (office : ℕ) {ws : List ℕ} (p : Place) (i : List ℕ) {out : List ℕ} (o : List ℕ)
    (begins : TurnReady office ws p i out o) where
  -- more of the input
  pub advances_read : {i' : List ℕ} {r : Grown} → waits_of p.ended (window_of p i) ≡ true → Refilled p i r i'
      → Advances traced office ws p i o
      (record { more = not r.unread; unread = r.unread; place = r.place }) ws i' o
  unfolding unwritten_of flatten
  advances_read {i'} {r} t h = record {
    within = h.within;
    sound = begins.lent.sound;
    own = begins.lent.own;
    number = omega (arith, h.number);
    unread = λ y. (
      t,
      rw y,
      let w : window_of r.place i' ≡ window_of p i = h.window ∙ rw (h.unread y).0 (append-nil (window_of p i)) in
          let e : r.place.ended ≡ p.ended = (h.unread y).1 ∙ sym unended_false in
          same_stand e h.number w (ap (λ (k : ℕ). take k o) h.filled),
    );
    keeps = λ y. record {
      got = h.got;
      printed = [];
      buffer = rw h.filled (sym (append-nil (take p.filled o)));
      text = λ f e. rw (y, h.window, h.number, append_assoc (window_of p i) h.got f);
      takes = λ m. record {
        parts = [];
        whole = none;
        count = omega (arith, h.number);
        left = sym h.window;
        lines = λ f. rw h.number;
      };
      end = λ e. absurd (unended e);
      number = omega (arith, h.number);
      took = λ e l. absurd (unwaited p.ended (window_of p i) e l t);
      read = λ e. some y (eqb (length h.got) 0) refl;
      stops = λ e. absurd (unended e);
    };
  }
    where
      unended : p.ended ≡ true → ⊥
      unended e = go (waits_cases p.ended (window_of p i))
        where
          go : Waits p.ended (window_of p i) → ⊥
          go (ready y f) = true_false (waits_of p.ended (window_of p i)) t f
          go (waits n few l g) = true_false p.ended e n

      unended_false : p.ended ≡ false
      unended_false = go p.ended refl
        where
          go : (b : Bool) → p.ended ≡ b → p.ended ≡ false
          go true e = absurd (unended e)
          go false e = e

      some : r.unread ≡ false → (t : Bool) → eqb (length h.got) 0 ≡ t
          → (0 < length h.got) ⊎ (r.place.ended ≡ true)
      some y true e = inr (h.ended y ∙ e)
      some y false e = inl (pos_of_ne-zero (eqb-false (length h.got) 0 e))

  -- nothing is left, and nothing comes
  pub advances_stop : waits_of p.ended (window_of p i) ≡ false → length (window_of p i) ≡ 0
      → Advances traced office ws p i o (record { more = false; unread = false; place = p }) ws i o
  advances_stop t h = record {
    within = begins.within;
    sound = begins.lent.sound;
    own = begins.lent.own;
    number = omega arith;
    unread = λ y. absurd (true_false false y refl);
    keeps = λ y. record {
      got = [];
      printed = [];
      buffer = sym (append-nil (unwritten_of p o));
      text = λ f e. lines_nil traced office (table_of ws) p.number (window_of p i ++ f)
          (rw (e ended, append-nil (window_of p i)) h);
      takes = λ m. absurd (true_false false m refl);
      end = λ e. (e, refl);
      number = omega arith;
      took = λ e l. absurd (omega arith);
      read = λ e. absurd (true_false (waits_of p.ended (window_of p i)) e t);
      stops = λ e l. refl;
    };
  }
    where
      ended : p.ended ≡ true
      ended = go (waits_cases p.ended (window_of p i))
        where
          go : Waits p.ended (window_of p i) → p.ended ≡ true
          go (waits n few l g) = absurd (true_false (waits_of p.ended (window_of p i)) l t)
          go (ready (inl e) f) = e
          go (ready (inr e) f) = absurd (omega (arith, e.0))

  -- the record in front
  pub advances_answer : {ws' o' : List ℕ} {r : Advanced} → waits_of p.ended (window_of p i) ≡ false
      → 0 < length (window_of p i)
      → Answered traced office ws p (front_of (window_of p i)) o r ws' o'
      → Advances traced office ws p i o r ws' i o'
  unfolding flatten
  advances_answer {ws'} {o'} {r} t h a = record {
    within = record {
      unread = omega (arith, a.at, a.end, l);
      read = omega (arith, a.end, begins.within.read);
      unwritten = a.filled;
    };
    sound = a.sound;
    own = a.own;
    number = omega (arith, a.number);
    unread = λ y. absurd (true_false r.unread y a.unread);
    keeps = λ u. record {
      got = [];
      printed = line_for traced (p.number + 1) (room_of (front_of v)) (answer_for office (table_of ws) v);
      buffer = a.line;
      text = λ f z. decided_text traced office (table_of ws) p.number begins.lent.known v f h (decided f z)
          ∙ rw (left, a.more, a.number, a.table);
      takes = λ m.
          let k = came_whole traced office (table_of ws) p.number begins.lent.known v h (sym a.more ∙ m) in
          let e : front_of v ++ [] ≡ front_of v = append-nil (front_of v) in
          record {
            parts = front_of v ∷ [];
            whole = more k.0 none;
            count = a.number;
            left = rw (e, left, append-nil v) (sym (front_behind v));
            lines = λ f. rw (e, a.table, a.number) (k.1 f);
          };
      end = λ z. (a.ended ∙ z, refl);
      number = omega (arith, a.number);
      took = λ y z. (a.number, rw left (sym (front_behind v)));
      read = λ y. absurd (true_false (waits_of p.ended v) y t);
      stops = λ y z. absurd (omega arith);
    };
  }
    where
      v : List ℕ
      v = window_of p i

      l : p.at + length (front_of v) ≤ p.end
      l = front_fits p i begins.lent.input begins.within refl

      left : window_of r.place i ≡ behind_of v
      left = window_left p r.place i (front_of v) (behind_of v) begins.within.unread
          (rw begins.lent.input begins.within.read)
          (sym (front_behind v)) a.at a.end

      decided : (f : List ℕ) → (r.place.ended ≡ true → f ≡ []) → Decided v f
      decided f z = go (waits_cases p.ended v)
        where
          by_front : 2 ≤ length v → (run_check v ≡ 5 → ⊥) → Front v → Decided v f
          by_front two n (nothing y d) = absurd (omega arith)
          by_front two n (other y x d) = marked two d
          by_front two n (short y x d) = absurd (n d)
          by_front two n (whole y x d s) = entire d

          go : Waits p.ended v → Decided v f
          go (waits n few d g) = absurd (true_false (waits_of p.ended v) d t)
          go (ready (inl d) f) = last (z (a.ended ∙ d))
          go (ready (inr d) f) = by_front d.0 d.1 (front v)

keeps_from : {traced more : Bool} {office : ℕ} {ws ws' : List ℕ} {ended before ended' : Bool} {n m n' : ℕ}
    {w v w' u t u' : List ℕ}
    → ended ≡ before → n ≡ m → w ≡ v → u ≡ t → Keeps traced office ws ended n w u more ws' ended' n' w' u'
    → Keeps traced office ws before m v t more ws' ended' n' w' u'
keeps_from e n w u k = rw (e, n, w, u) at k

-- after a write a turn is as ready as before, and its window is the same
pub sent_ready : {office : ℕ} {ws : List ℕ} {p q : Place} {waiting : Bool} (i : List ℕ) {out : List ℕ} (o : List ℕ)
    {o₁ : List ℕ} → TurnReady office ws p i out o → Emptied p waiting o q o₁ → length o₁ ≡ length o
    → TurnReady office ws q i out o₁ × (waits_of p.ended (window_of p i) ≡ waits_of q.ended (window_of q i))
unfolding window_of
sent_ready {office} {ws} {p} {q} i {out} o {o₁} r h lo = go (p.filled - q.filled) h.place
  where
    w : Within p
    w = r.within

    go : (sent : ℕ) → q ≡ sent_from p sent
        → TurnReady office ws q i out o₁ × (waits_of p.ended (window_of p i) ≡ waits_of q.ended (window_of q i))
    go sent e = rw e (
      record {
        lent = record {
          known = r.lent.known;
          sound = r.lent.sound;
          own = r.lent.own;
          input = r.lent.input;
          room = r.lent.room;
          output = lo ∙ r.lent.output;
        };
        within = record { unread = w.unread; read = w.read; unwritten = omega (arith, w.unwritten) };
        number = r.number;
      },
      refl,
    )

module _ (p q : Place) (o o₁ : List ℕ) (in_place : Within p) (lo : length o ≡ buffer_length)
    {waiting : Bool} (h : Emptied p waiting o q o₁) where
  abbrev sent : ℕ
  sent = p.filled - q.filled

  unwritten_length : length (unwritten_of p o) ≡ p.filled
  unfolding unwritten_of
  unwritten_length = length-take-le p.filled o (rw lo in_place.unwritten)

  same_ended : q.ended ≡ p.ended
  same_ended = ap (λ (x : Place). x.ended) h.place

  same_number : q.number ≡ p.number
  same_number = ap (λ (x : Place). x.number) h.place

  same_window : (i : List ℕ) → window_of q i ≡ window_of p i
  unfolding window_of
  same_window i = rw (ap (λ (x : Place). x.at) h.place, ap (λ (x : Place). x.end) h.place)

  -- where the program stands after the write
  sent_stand : (ws i : List ℕ) → stand_at ws q i o₁ ≡ sent_at sent (stand_at ws p i o)
  sent_stand ws i = same_stand same_ended same_number (same_window i) h.unwritten

  pub turns_on : (traced : Bool) (office : ℕ) {ws : List ℕ} (i : List ℕ) {i' o' ws' : List ℕ} {r : Advanced}
      → waiting ≡ waits_of p.ended (window_of p i)
      → room_for q.filled waiting ≡ true → Advances traced office ws q i o₁ r ws' i' o'
      → Turns traced office ws p i o
      (record { more = r.more; failed = false; unread = r.unread; sent = sent; place = r.place }) ws' i' o'
  unfolding unwritten_of
  turns_on traced office {ws} i e room a = record {
    within = a.within;
    sound = a.sound;
    own = a.own;
    number = omega (arith, a.number, same_number);
    sent = omega (arith, unwritten_length);
    unasked = λ z. let n = h.unasked (rw e z) in omega arith;
    keeps = λ y z. keeps_from same_ended same_number (same_window i) h.unwritten (a.keeps z);
    shown = λ z t. sym h.unwritten ∙ none t;
    failed = λ z. absurd (true_false false z refl);
    unread = λ z.
        let w = ap (λ (s : Stand). waits_of s.ended s.window) (sym (sent_stand ws i)) in
        (refl, w ∙ (a.unread z).0, (a.unread z).1);
    stays = ⊎_elim (λ z. absurd (true_false false z refl)) (λ z. (a.unread z).2 ∙ sent_stand ws i);
  }
    where
      none : waits_of p.ended (window_of p i) ≡ true → unwritten_of q o₁ ≡ []
      none t = nothing_due o₁ q.filled (room_none q.filled waiting room (e ∙ t))

  pub turns_failed : (traced : Bool) (office : ℕ) {ws : List ℕ} (i : List ℕ) {out : List ℕ}
      → waiting ≡ waits_of p.ended (window_of p i) → TurnReady office ws q i out o₁
      → (room_for q.filled waiting ≡ true → ⊥)
      → Turns traced office ws p i o
      (record { more = true; failed = true; unread = false; sent = sent; place = q }) ws i o₁
  turns_failed traced office {ws} i e begins room = record {
    within = begins.within;
    sound = begins.lent.sound;
    own = begins.lent.own;
    number = omega (arith, same_number);
    sent = omega (arith, unwritten_length);
    unasked = λ z. let n = h.unasked (rw e z) in omega arith;
    keeps = λ z. absurd (true_false true refl z);
    shown = λ z. absurd (true_false true refl z);
    failed = λ z. omega (arith, unwritten_length, some, h.few);
    unread = λ z. absurd (true_false false z refl);
    stays = λ z. sent_stand ws i;
  }
    where
      some : 0 < q.filled
      some = pos_of_ne-zero (λ z. room (room_nothing q.filled waiting z))
