-- For run: laws of the reading of a run that grows: what more input leaves as it is.
use mathlib.Core.Path.{◌≡◌, refl, sym, ap, ◌∙◌}
use mathlib.Core.Bool.{Bool, true, false}
use mathlib.Core.List.{List, ◌++◌}
use Prim.Native.Nat.{ℕ, ◌≤◌, ◌<◌}
use native.Mathlib.Omega.{arith}
use lib.ListN.{length, length-append, get_or-append}
use lib.Seq.{take-append-le, drop-append-le}
use lib.Dec.{ltb}
use borrow.Author.Tests.{ltb-true, ltb-false, eq-eqb, ne_eqb, le-ltb}
use Rattle.records.proofs.CheckLaws.{long_mark, Marked, report_mark_lem, proposal_mark_lem, other_mark_lem, marked}
use Rattle.records.specs.Layout.{proposal_length, form_for, form_of, check_for, check_of}
use Rattle.records.specs.Run.{run_check, run_size, run_first, run_rest}
use Rattle.records.proofs.RunLaws.{Front, nothing, other, short, whole, front, form_none, size_le}

form_long : (w : List ℕ) → 0 < (form_of w).length → 2 ≤ length w
form_long w h = go (ltb (length w) 2) refl
  where
    go : (t : Bool) → ltb (length w) 2 ≡ t → 2 ≤ length w
    go true e = absurd (let z = form_none w (ltb-true (length w) 2 e) in omega arith)
    go false e = ltb-false (length w) 2 e

-- no mark calls for more
form_most : (w : List ℕ) → (form_of w).length ≤ proposal_length
form_most w = go (marked w)
  where
    go : Marked w → (form_of w).length ≤ proposal_length
    go (report_mark_lem m e) = rw e (omega arith)
    go (proposal_mark_lem m e) = rw e (omega arith)
    go (other_mark_lem e) = rw e (omega arith)

module _ (w f : List ℕ) where
  form_append : 2 ≤ length w → form_of (w ++ f) ≡ form_of w
  unfolding form_of
  form_append h = ap form_for
      (long_mark (w ++ f) (simp length-append (omega arith))
      ∙ rw (get_or-append w f 0 0 (omega arith), get_or-append w f 0 1 (omega arith)) (sym (long_mark w h)))

  whole_ends : 0 < (form_of (w ++ f)).length → (form_of (w ++ f)).length ≤ length w → run_check (w ++ f) ≡ 0
  unfolding run_check
  whole_ends h l =
      rw (
        ne_eqb (length (w ++ f)) 0 (λ e. let g = length-append w f in omega arith),
        ne_eqb (form_of (w ++ f)).length 0 (λ e. omega arith),
        le-ltb (length (w ++ f)) (form_of (w ++ f)).length (simp length-append (omega arith)),
      )

  -- a whole record in front stays
  pub whole_stays : 0 < length w → run_check w ≡ 0 → (run_check (w ++ f) ≡ 0) × (run_first (w ++ f) ≡ run_first w)
      × (run_rest (w ++ f) ≡ run_rest w ++ f)
  unfolding run_first run_rest
  whole_stays h z = go (front w)
    where
      go : Front w → (run_check (w ++ f) ≡ 0) × (run_first (w ++ f) ≡ run_first w) × (run_rest (w ++ f) ≡ run_rest w ++ f)
      go (nothing l e) = absurd (omega arith)
      go (other l n e) = absurd (omega arith)
      go (short l n e) = absurd (omega arith)
      go (whole p l e s) =
          let a = form_append (form_long w p) in
          let d : run_check (w ++ f) ≡ 0 = whole_ends (rw a p) (rw a l) in
          let k : run_size (w ++ f) ≡ run_size w = size (front (w ++ f)) d s a in
          let m = size_le w in
          (d, rw k (take-append-le (run_size w) w f m), rw k (drop-append-le (run_size w) w f m))
        where
          size : Front (w ++ f) → run_check (w ++ f) ≡ 0 → run_size w ≡ (form_of w).length → form_of (w ++ f) ≡ form_of w
              → run_size (w ++ f) ≡ run_size w
          size (nothing l e) d s a = absurd (let g = length-append w f in omega arith)
          size (other l n e) d s a = absurd (omega arith)
          size (short l n e) d s a = absurd (omega arith)
          size (whole p l e t) d s a = t ∙ rw a (sym s)

  -- and so does another mark
  pub other_stays : 2 ≤ length w → run_check w ≡ 4 → run_check (w ++ f) ≡ 4
  unfolding run_check
  other_stays h z = go (front w)
    where
      go : Front w → run_check (w ++ f) ≡ 4
      go (nothing l e) = absurd (omega arith)
      go (short l n e) = absurd (omega arith)
      go (whole p l e s) = absurd (omega arith)
      go (other l n e) =
          rw (
            ne_eqb (length (w ++ f)) 0 (λ e. let g = length-append w f in omega arith),
            form_append h,
            eq-eqb (form_of w).length 0 n,
          )

-- a whole record has two bytes at least
pub whole_long : (w : List ℕ) → 0 < length w → run_check w ≡ 0 → 2 ≤ length w
whole_long w h z = go (front w)
  where
    go : Front w → 2 ≤ length w
    go (nothing l e) = absurd (omega arith)
    go (other l n e) = absurd (omega arith)
    go (short l n e) = absurd (omega arith)
    go (whole p l e s) = form_long w p

-- a reading that ends with 4 ends with check 4
pub other_check : (w : List ℕ) → run_check w ≡ 4 → check_of w ≡ 4
unfolding check_of check_for
other_check w z = go (front w)
  where
    go : Front w → check_of w ≡ 4
    go (nothing l e) = absurd (omega arith)
    go (short l n e) = absurd (omega arith)
    go (whole p l e s) = absurd (omega arith)
    go (other l n e) = rw (eq-eqb (form_of w).length 0 n)

-- and one that ends with 5 with check 5
pub short_check : (w : List ℕ) → run_check w ≡ 5 → check_of w ≡ 5
unfolding check_of check_for
short_check w z = go (front w)
  where
    go : Front w → check_of w ≡ 5
    go (nothing l e) = absurd (omega arith)
    go (other l n e) = absurd (omega arith)
    go (whole p l e s) = absurd (omega arith)
    go (short l n e) =
        rw (ne_eqb (form_of w).length 0 (λ d. omega arith), ne_eqb (length w) (form_of w).length (λ d. omega arith))

-- it ends with 0, 4 or 5; with 5 fewer bytes than a proposal has are there
pub short_ends : (w : List ℕ) → run_check w ≡ 5 → length w < proposal_length
short_ends w z = go (front w)
  where
    go : Front w → length w < proposal_length
    go (nothing l e) = omega arith
    go (short l n e) = let m = form_most w in omega arith
    go (whole p l e s) = absurd (omega arith)
    go (other l n e) = absurd (omega arith)
