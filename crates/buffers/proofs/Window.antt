-- For the module input: laws of the input buffer.
use mathlib.Core.Path.{◌≡◌, refl, sym, ap, ◌∙◌}
use mathlib.Core.Bool.{Bool, true, false}
use mathlib.Core.Logic.{◌⊎◌, inl, inr}
use mathlib.Core.List.{List, ◌++◌}
use Prim.Native.Nat.{ℕ, ◌+◌, ◌-◌, ◌≤◌, ◌<◌}
use Rattle.std.specs.Prelude.{Result, Ok, Err, IfOk, IsErr}
use native.Mathlib.Omega.{arith}
use lib.ListN.{length, take, drop, length-drop, length-append}
use lib.Seq.{paste, sets-eq, sets, length-take-le, drop_at, drop-drop, take-append-add, take-append-le}
use lib.Dec.{eqb, ltb}
use borrow.Author.Tests.{eqb-true, eqb-false, ltb-true, ltb-false, lt-ltb, le-ltb, ne_eqb}
use Rattle.laws.proofs.Fin.{true_false}
use Rattle.laws.proofs.Big.{sets_front}
use Rattle.laws.proofs.Seqs.{drop_take}
use Rattle.records.specs.Run.{run_check, run_size}
use Rattle.buffers.specs.Room.{buffer_length}
use Rattle.buffers.specs.Place.{Within, window_of, waits_of, Read, read_of, ReadBy, grown_of, Refilled}
use Rattle.buffers.specs.declared.input.Place.{Place}
use borrow.Rule.Slice.PartMut.{put_mid, post_of}
use Rattle.text.specs.Lines.{front_of, behind_of}
use Rattle.records.proofs.RunLaws.{Front, nothing, other, short, whole, front, size_le}
use Rattle.records.proofs.Growing.{short_ends, whole_long}
use Rattle.text.proofs.LineLaws.{front_behind}

-- bytes pasted over the front
pub pasted : (o : List ℕ) (at n : ℕ) → at + n ≤ length o
    → paste o 0 (drop at o) (at + n - at) ≡ sets o 0 (take n (drop at o))
pasted o at n h =
    let b = take n (drop at o) in
    let z : at + n - at ≡ n = omega arith in
    let l : length b ≡ n = length-take-le n (drop at o) (simp length-drop (omega arith)) in
    rw z (sym (sets-eq b o 0 (omega (arith, l)) ∙ ap (λ (k : ℕ). take 0 o ++ (b ++ drop (0 + k) o)) l))

-- what a read answers where it moves no more bytes than fit
pub read_fits : {E : Type 0} {most : ℕ} (answer : Result ℕ E) → IfOk answer (λ n. n ≤ most)
    → ReadBy most (read_of answer)
read_fits (Ok n) h = record { fits = h; ended = λ f. refl; failed = λ f. absurd (true_false false f refl) }
read_fits (Err e) h =
    record { fits = omega arith; ended = λ f. absurd (true_false true refl f); failed = λ f. (refl, refl) }

pub window_length : (p : Place) (i : List ℕ) → p.at ≤ p.end → p.end ≤ length i
    → length (window_of p i) ≡ p.end - p.at
unfolding window_of
window_length p i h l = length-take-le (p.end - p.at) (drop p.at i) (simp length-drop (omega arith))

-- what is left of a window
pub window_left : (p p' : Place) (i a b : List ℕ) → p.at ≤ p.end → p.end ≤ length i → window_of p i ≡ a ++ b
    → p'.at ≡ p.at + length a → p'.end ≡ p.end → window_of p' i ≡ b
unfolding window_of
window_left p p' i a b h l e s t =
    let n = window_length p i h l in
    let k : length (window_of p i) ≡ length a + length b = ap length e ∙ length-append a b in
    let j : p.end - p.at ≡ length a + length b = sym n ∙ k in
    let m : p.end - (p.at + length a) ≡ length b = omega arith in
    let d : drop (length a) (take (length a + length b) (drop p.at i))
    ≡ take (length b) (drop (length a) (drop p.at i)) =
    drop_take (length a) (length b) (drop p.at i) (simp length-drop (omega arith)) in
    rw (s, t, m, ← drop-drop (length a) p.at i, ← d, ← j, e) (drop_at a b (length a) refl)

-- the test of waiting, and what it tells
pub waits_ended : (ended : Bool) (w : List ℕ) → ended ≡ true → false ≡ waits_of ended w
unfolding waits_of
waits_ended ended w e = rw e

pub waits_few : (ended : Bool) (w : List ℕ) → ended ≡ false → length w < 2 → true ≡ waits_of ended w
unfolding waits_of
waits_few ended w e h = rw (e, lt-ltb (length w) 2 h)

pub waits_short : (ended : Bool) (w : List ℕ) (n : ℕ) (b : Bool) → ended ≡ false → 2 ≤ length w → n ≡ run_check w
    → b ≡ eqb n 5 → b ≡ waits_of ended w
unfolding waits_of
waits_short ended w n b e h g t = rw (t, e, le-ltb (length w) 2 h, g)

-- for the function waits
pub ruleset waiting = (waits_ended, waits_few, waits_short)

pub data Waits (ended : Bool) (w : List ℕ) : Type 0 where
  waits : ended ≡ false → length w < buffer_length → waits_of ended w ≡ true → (2 ≤ length w → run_check w ≡ 0 → ⊥)
      → Waits ended w
  ready : (ended ≡ true) ⊎ ((2 ≤ length w) × (run_check w ≡ 5 → ⊥)) → waits_of ended w ≡ false → Waits ended w

pub waits_cases : (ended : Bool) (w : List ℕ) → Waits ended w
unfolding waits_of
waits_cases true w = ready (inl refl) refl
waits_cases false w = go (ltb (length w) 2) (eqb (run_check w) 5) refl refl
  where
    go : (s t : Bool) → ltb (length w) 2 ≡ s → eqb (run_check w) 5 ≡ t → Waits false w
    go true t d e = let h = ltb-true (length w) 2 d in waits refl (omega arith) (rw d) (λ l z. omega arith)
    go false true d e =
        let h = eqb-true (run_check w) 5 e in
        let few = short_ends w h in
        waits refl (omega arith) (rw (d, e)) (λ l z. omega arith)
    go false false d e = ready (inr (ltb-false (length w) 2 d, eqb-false (run_check w) 5 e)) (rw (d, e))

-- where the program waits, no whole record stands in front
pub waits_none : (ended : Bool) (w : List ℕ) → waits_of ended w ≡ true → run_size w ≡ 0
unfolding run_size
waits_none ended w t = go (waits_cases ended w)
  where
    by_front : (2 ≤ length w → run_check w ≡ 0 → ⊥) → Front w → run_size w ≡ 0
    by_front g (nothing l e) = let z = size_le w in omega arith
    by_front g (other l n e) = rw (ne_eqb (run_check w) 0 (λ z. omega arith))
    by_front g (short l n e) = rw (ne_eqb (run_check w) 0 (λ z. omega arith))
    by_front g (whole p l e s) = absurd (g (whole_long w (omega arith) e) e)

    go : Waits ended w → run_size w ≡ 0
    go (ready r f) = absurd (true_false (waits_of ended w) t f)
    go (waits n few l g) = by_front g (front w)

-- reading: the window goes to the front, what was read behind it
pub refilled : (p : Place) (i i₁ v : List ℕ) (b : Read) → Within p → length i ≡ buffer_length
    → i₁ ≡ sets i 0 (take (p.end - p.at) (drop p.at i)) → length i₁ ≡ length i
    → length v ≡ buffer_length - (p.end - p.at) → ReadBy (length v) b
    → Refilled p i
    (record {
      unread = b.failed;
      place = record {
        ended = b.ended;
        at = 0;
        end = p.end - p.at + b.got;
        filled = p.filled;
        number = p.number;
      };
    })
    (put_mid (p.end - p.at) (length i₁ - (p.end - p.at)) i₁ v)
unfolding window_of
refilled p i i₁ v b h l e le lv is = record {
  within = record {
    unread = omega arith;
    read = let a = h.unread in let b = h.read in omega arith;
    unwritten = h.unwritten;
  };
  number = refl;
  filled = refl;
  got = take got v;
  window = window;
  ended = λ f. rw (length-take-le got v g) (is.ended f);
  unread = λ f. (ap (λ (k : ℕ). take k v) (is.failed f).0, (is.failed f).1);
}
  where
    got : ℕ
    got = b.got

    g : got ≤ length v
    g = is.fits

    n : ℕ
    n = p.end - p.at

    w : List ℕ
    w = take n (drop p.at i)

    lw : length w ≡ n
    lw = window_length p i h.unread (rw l h.read)

    front_is : take n i₁ ≡ w
    front_is = ap (take n) e ∙ ap (λ (k : ℕ). take k (sets i 0 w)) (sym lw)
        ∙ sets_front i w (omega (arith, lw, l, h.read))

    window : take (n + got - 0) (put_mid n (length i₁ - n) i₁ v) ≡ w ++ take got v
    window =
        let z : n + got - 0 ≡ length w + got = omega (arith, lw) in
        rw (front_is, z) (take-append-add w (v ++ post_of n (length i₁ - n) i₁) got
        ∙ ap (λ (t : List ℕ). w ++ t) (take-append-le got v (post_of n (length i₁ - n) i₁) g))

-- a read that failed leaves the window at the front
pub refill_failed : {T E : Type 0} (p : Place) (i i₁ v : List ℕ) (r : Result T E) → Within p
    → length i ≡ buffer_length → i₁ ≡ sets i 0 (take (p.end - p.at) (drop p.at i)) → length i₁ ≡ length i
    → length v ≡ buffer_length - (p.end - p.at)
    → ReadBy (length v) (record { got = 0; ended = false; failed = true }) → IsErr r
    → Refilled p i
    (grown_of r (record { ended = false; at = 0; end = p.end - p.at; filled = p.filled; number = p.number }))
    (put_mid (p.end - p.at) (length i₁ - (p.end - p.at)) i₁ v)
refill_failed p i i₁ v (Ok t) h l e le lv is f = absurd (true_false false f refl)
refill_failed p i i₁ v (Err t) h l e le lv is f =
    let z : p.end - p.at + 0 ≡ p.end - p.at = omega arith in
    rw z at (refilled p i i₁ v _ h l e le lv is)

-- the record in front ends where the window does, or before
pub front_fits : (p : Place) (i : List ℕ) {b : List ℕ} → length i ≡ buffer_length → Within p
    → b ≡ front_of (window_of p i) → p.at + length b ≤ p.end
front_fits p i {b} li h e =
    let w = window_of p i in
    let n = window_length p i h.unread (rw li h.read) in
    let k = ap length (front_behind w) in
    let m = length-append (front_of w) (behind_of w) in
    let j = ap length e in
    let u = h.unread in
    omega arith

-- a window that waits leaves room to read into
pub read_room : (p : Place) (i : List ℕ) → length i ≡ buffer_length → Within p
    → waits_of p.ended (window_of p i) ≡ true → p.end - p.at < buffer_length
read_room p i li h t = go (waits_cases p.ended (window_of p i))
  where
    go : Waits p.ended (window_of p i) → p.end - p.at < buffer_length
    go (ready r f) = absurd (true_false (waits_of p.ended (window_of p i)) t f)
    go (waits n few l g) = let m = window_length p i h.unread (rw li h.read) in omega arith
