-- For run: laws of the reading of a run.
use mathlib.Core.Path.{◌≡◌, refl, sym, ap, ◌∙◌}
use mathlib.Core.Bool.{Bool, true, false}
use mathlib.Core.List.{List, [], ◌∷◌, ◌++◌, append_assoc, flatten}
use mathlib.Core.Logic.{◌⊎◌, inl, inr, ⊎_elim}
use Prim.Native.Nat.{ℕ, zero, suc, ◌≤◌, ◌<◌}
use native.Mathlib.Omega.{arith}
use native.Mathlib.Nat.{pos_of_ne-zero}
use lib.ListN.{length, take, drop, take-append-drop, length-drop, drop_of_length-le}
use lib.Seq.{get_or-take, length-take-le, take_all}
use lib.Dec.{eqb, ltb, leb}
use borrow.Author.Tests.{eqb-true, eqb-false, ltb-true, ltb-false, ne_eqb, lt-ltb, le-leb, lt-leb}
use Rattle.laws.proofs.Fin.{if_same}
use Rattle.laws.specs.Lists.{none, more}
use Rattle.records.proofs.CheckLaws.{long_mark, check_passes, length_is, length_some}
use Rattle.records.proofs.CheckLaws.{Marked, report_mark_lem, proposal_mark_lem, other_mark_lem, marked}
use Rattle.std.specs.Prelude.{Some}
use Rattle.records.specs.declared.RecordKind.{RecordKind as InCode}
use Rattle.records.specs.Layout.{form_as, other_form, mark_of, form_for, form_of, check_for, check_of}
use Rattle.records.specs.Kinds.{Form}
use Rattle.records.specs.Run.{too_few, run_check, fitting, run_size, run_first, run_rest}
use Rattle.records.specs.Run.{reading_in, reading_of, Ends, WholeReading}

-- what stands in front of a run: nothing, another mark, too few bytes, or a whole record
pub data Front (w : List ℕ) : Type 0 where
  nothing : length w ≡ 0 → run_check w ≡ 0 → Front w
  other : 0 < length w → (form_of w).length ≡ 0 → run_check w ≡ 4 → Front w
  short : 0 < length w → length w < (form_of w).length → run_check w ≡ 5 → Front w
  whole : 0 < (form_of w).length → (form_of w).length ≤ length w → run_check w ≡ 0 → run_size w ≡ (form_of w).length → Front w

pub front : (w : List ℕ) → Front w
unfolding run_size run_check
front w = go (eqb (length w) 0) (eqb n 0) (ltb (length w) n) refl refl refl
  where
    n : ℕ
    n = (form_of w).length

    go : (r s t : Bool) → eqb (length w) 0 ≡ r → eqb n 0 ≡ s → ltb (length w) n ≡ t → Front w
    go true s t d e f = nothing (eqb-true (length w) 0 d) (rw d)
    go false true t d e f = other (pos_of_ne-zero (eqb-false (length w) 0 d)) (eqb-true n 0 e) (rw (d, e))
    go false false true d e f =
        short (pos_of_ne-zero (eqb-false (length w) 0 d)) (ltb-true (length w) n f) (rw (d, e, f))
    go false false false d e f =
        whole (pos_of_ne-zero (eqb-false n 0 e)) (ltb-false (length w) n f) (rw (d, e, f)) (rw (d, e, f))

-- the number with which a run that has bytes ends here, by what code answers of the mark
module _ (b : List ℕ) (some : length b ≡ 0 → ⊥) where
  pub ends_kind : (k : InCode) → form_as (Some k) ≡ form_of b → (n : ℕ) → n ≡ (form_as (Some k)).length
      → too_few n b ≡ run_check b
  unfolding run_check
  ends_kind k is n long =
      let e = length_is b k is n long in
      rw (ne_eqb _ _ some, sym e, ne_eqb n 0 (length_some b k is n long)) refl

  pub ends_other : other_form ≡ form_of b → ◌≡◌ {A = ℕ} 4 (run_check b)
  unfolding run_check
  ends_other is = rw (ne_eqb _ _ some, sym is) refl

-- under two bytes are no mark
pub form_none : (w : List ℕ) → length w < 2 → (form_of w).length ≡ 0
unfolding form_of mark_of form_for
form_none w h = rw (lt-ltb (length w) 2 h)

empty : (b : List ℕ) → length b ≡ 0 → b ≡ []
empty [] h = refl
empty (x ∷ b) h = absurd (omega arith)

nothing_size : run_size [] ≡ 0
unfolding run_size run_check form_of mark_of form_for
nothing_size = refl

-- where nothing stands in front, or what is refused, there is no record
empty_size : (b : List ℕ) → length b ≡ 0 → run_size b ≡ 0
empty_size b h = rw (empty b h) nothing_size

refused_size : (b : List ℕ) → 0 < run_check b → run_size b ≡ 0
unfolding run_size
refused_size b h = rw (ne_eqb (run_check b) 0 (λ e. omega arith))

pub size_le : (b : List ℕ) → run_size b ≤ length b
size_le b = go (front b)
  where
    go : Front b → run_size b ≤ length b
    go (nothing l e) = omega (arith, empty_size b l)
    go (other l n e) = omega (arith, refused_size b (omega arith))
    go (short l n e) = omega (arith, refused_size b (omega arith))
    go (whole p l e s) = omega arith

-- it is the mark's length where the run has so many bytes
pub size_fitting : (b : List ℕ) → fitting (form_of b).length b ≡ run_size b
size_fitting b = go (front b)
  where
    none_fits : (form_of b).length ≡ 0 → run_size b ≡ 0 → fitting (form_of b).length b ≡ run_size b
    none_fits n s = rw (n, s) (if_same (leb 0 (length b)) 0)

    go : Front b → fitting (form_of b).length b ≡ run_size b
    go (nothing l e) = none_fits (form_none b (omega arith)) (empty_size b l)
    go (other l n e) = none_fits n (refused_size b (omega arith))
    go (short l n e) = rw (lt-leb (form_of b).length (length b) n) (sym (refused_size b (omega arith)))
    go (whole p l e s) = rw (le-leb (form_of b).length (length b) l) (sym s)

-- nothing stands in front where the mark is no record's
pub form_size : (b : List ℕ) → other_form ≡ form_of b → (0 ≡ run_size b) × (0 ≤ length b)
form_size b is =
    (sym (if_same (leb 0 (length b)) 0) ∙ ap (λ (n : ℕ). fitting n b) (ap (λ (f : Form). f.length) is) ∙ size_fitting b, omega arith)

-- the record in front and what follows it are the input
pub first_rest : (b : List ℕ) → run_first b ++ run_rest b ≡ b
unfolding run_first run_rest
first_rest b = take-append-drop (run_size b) b

pub rest_shorter : (b : List ℕ) → 0 < run_size b → length (run_rest b) < length b
unfolding run_rest
rest_shorter b h = let l = size_le b in omega (arith, length-drop (run_size b) b)

-- a mark calls for no less than itself
form_least : (b : List ℕ) → 0 < (form_of b).length → 2 ≤ (form_of b).length
form_least b h = go (marked b)
  where
    go : Marked b → 2 ≤ (form_of b).length
    go (report_mark_lem m e) = rw e (omega arith)
    go (proposal_mark_lem m e) = rw e (omega arith)
    go (other_mark_lem e) = absurd (let z = rw e at h in omega arith)

-- the front of a run has the run's mark
mark_take : (n : ℕ) (b : List ℕ) → 2 ≤ n → n ≤ length b → mark_of (take n b) ≡ mark_of b
mark_take n b h l =
    let k = length-take-le n b l in
    long_mark (take n b) (omega arith)
    ∙ rw (get_or-take n b 0 0 (omega arith), get_or-take n b 1 0 (omega arith)) (sym (long_mark b (omega arith)))

-- what is handed back as a record passes checks 4 and 5 by itself
pub first_passes : (b : List ℕ) → 0 < run_size b → check_of (run_first b) ≡ 0
unfolding run_first check_of form_of
first_passes b h = go (front b)
  where
    go : Front b → check_of (run_first b) ≡ 0
    go (nothing l e) = absurd (omega (arith, empty_size b l))
    go (other l n e) = absurd (omega (arith, refused_size b (omega arith)))
    go (short l n e) = absurd (omega (arith, refused_size b (omega arith)))
    go (whole p l e s) =
        let n = run_size b in
        let m = mark_take n b (let q = form_least b p in omega arith) (size_le b) in
        let f : (form_of (take n b)).length ≡ n = ap (λ (v : ℕ). (form_for v).length) m ∙ sym s in
        ap (λ (k : ℕ). check_for k (take n b)) f ∙ check_passes n (take n b) (length-take-le n b (size_le b)) h

-- where a record is handed back the reading does not end; where none is and it does not end, nothing remains
pub first_whole : (b : List ℕ) → 0 < length (run_first b) → run_check b ≡ 0
unfolding run_first
first_whole b h = go (front b)
  where
    l : length (take (run_size b) b) ≡ run_size b
    l = length-take-le (run_size b) b (size_le b)

    go : Front b → run_check b ≡ 0
    go (nothing m e) = e
    go (other m n e) = absurd (omega (arith, l, refused_size b (omega arith)))
    go (short m n e) = absurd (omega (arith, l, refused_size b (omega arith)))
    go (whole p m e s) = e

pub first_nothing : (b : List ℕ) → length (run_first b) ≡ 0 → run_check b ≡ 0 → run_first b ≡ b
unfolding run_first
first_nothing b h z = go (front b)
  where
    l : length (take (run_size b) b) ≡ run_size b
    l = length-take-le (run_size b) b (size_le b)

    go : Front b → take (run_size b) b ≡ b
    go (nothing m e) = take_all (run_size b) b (omega arith)
    go (other m n e) = absurd (omega arith)
    go (short m n e) = absurd (omega arith)
    go (whole p m e s) = absurd (omega (arith, l))

pub first_some : (b : List ℕ) → 0 < run_size b → 0 < length (run_first b)
unfolding run_first
first_some b h = let l = length-take-le (run_size b) b (size_le b) in omega arith

-- and by itself it is a run of one record
pub first_alone : (b : List ℕ) → 0 < run_size b → (run_check (run_first b) ≡ 0) × (run_first (run_first b) ≡ run_first b)
    × (run_rest (run_first b) ≡ [])
unfolding run_first run_rest form_of
first_alone b h = go (front b) (front (take n b))
  where
    n : ℕ
    n = run_size b

    l : length (take n b) ≡ n
    l = length-take-le n b (size_le b)

    go : Front b → Front (take n b) → (run_check (take n b) ≡ 0) × (take (run_size (take n b)) (take n b) ≡ take n b)
        × (drop (run_size (take n b)) (take n b) ≡ [])
    go (nothing m e) a = absurd (omega (arith, empty_size b m))
    go (other m k e) a = absurd (omega (arith, refused_size b (omega arith)))
    go (short m k e) a = absurd (omega (arith, refused_size b (omega arith)))
    go (whole p m e s) a = alone a
      where
        f : (form_of (take n b)).length ≡ n
        f =
            let m = mark_take n b (let q = form_least b p in omega arith) (size_le b) in
            ap (λ (v : ℕ). (form_for v).length) m ∙ sym s

        alone : Front (take n b) → (run_check (take n b) ≡ 0) × (take (run_size (take n b)) (take n b) ≡ take n b)
            × (drop (run_size (take n b)) (take n b) ≡ [])
        alone (nothing m e) = absurd (omega (arith, l))
        alone (other m k e) = absurd (omega (arith, f))
        alone (short m k e) = absurd (omega (arith, l, f))
        alone (whole q k d t) =
            let z : length (take n b) ≤ run_size (take n b) = omega (arith, t, f, l) in
            (d, take_all (run_size (take n b)) (take n b) z, drop_of_length-le (take n b) z)

end_nothing : run_check [] ≡ 0
unfolding run_check
end_nothing = refl

pub ends : (b : List ℕ) → run_size b ≡ 0 → Ends b
ends b h = record { none = h; number = go (front b) }
  where
    some : (run_check b ≡ 4) ⊎ (run_check b ≡ 5) → b ≡ [] → ⊥
    some e z = let y = ap run_check z ∙ end_nothing in ⊎_elim (λ q. omega arith) (λ q. omega arith) e

    go : Front b → ((b ≡ []) × (run_check b ≡ 0)) ⊎ ((b ≡ [] → ⊥) × ((run_check b ≡ 4) ⊎ (run_check b ≡ 5)))
    go (nothing l e) = inl (empty b l, e)
    go (other l n e) = inr (some (inl e), inl e)
    go (short l n e) = inr (some (inr e), inr e)
    go (whole p l e s) = absurd (omega arith)

reads_in : (n : ℕ) (b : List ℕ) → length b ≤ n → WholeReading b (reading_in n b)
unfolding reading_in flatten
reads_in zero b h =
    let l = size_le b in
    record { input = refl; records = none; ends = ends b (omega arith); number = refl }
reads_in (suc n) b h =
    go (eqb (run_size b) 0) refl (λ p. reads_in n (run_rest b) (let l = rest_shorter b p in omega arith))
  where
    go : (t : Bool) → eqb (run_size b) 0 ≡ t → (0 < run_size b → WholeReading (run_rest b) (reading_in n (run_rest b)))
        → WholeReading b (reading_in (suc n) b)
    go true e ih = rw e (record {
      input = refl;
      records = none;
      ends = ends b (eqb-true (run_size b) 0 e);
      number = refl;
    })
    go false e ih =
        let p = pos_of_ne-zero (eqb-false (run_size b) 0 e) in
        let r = ih p in
        rw e (record {
          input = append_assoc (run_first b) _ _ ∙ ap (λ (l : List ℕ). run_first b ++ l) r.input ∙ first_rest b;
          records = more (first_passes b p) r.records;
          ends = r.ends;
          number = r.number;
        })

pub reads : (b : List ℕ) → WholeReading b (reading_of b)
unfolding reading_of
reads b = reads_in (length b) b (omega arith)
