-- For leaving: what is answered at each exit, by what the readers and the checks tell, and what the output is then.
use Rattle.std.specs.Prelude.{Option, None, Some}
use mathlib.Core.Path.{◌≡◌, refl, sym, ap, ◌∙◌}
use mathlib.Core.Bool.{Bool, true, false}
use mathlib.Core.List.{List}
use Prim.Native.Nat.{ℕ, ◌≤◌, ◌<◌}
use native.Mathlib.Omega.{arith}
use lib.ListN.{length, take}
use lib.Seq.{length-take-le, get_or-take}
use lib.Dec.{eqb}
use borrow.Author.Tests.{eqb-false, ltb-false, lt-ltb, le-ltb, le-leb}
use Rattle.laws.specs.Checks.{first_of}
use Rattle.laws.specs.Upd.{ifb}
use Rattle.laws.proofs.Checks.{first_none}
use Rattle.records.specs.Layout.{notice_mark, proposal_mark, view_mark, notice_length, proposal_length, view_length}
use Rattle.records.specs.Layout.{high_length, value_of, mark_of, encode_high}
use Rattle.records.specs.Layout.{decode_notice, decode_proposal, decode_view}
use Rattle.records.specs.Write.{placed, Placed}
use Rattle.records.specs.declared.refusal.Refusal.{Refusal}
use Rattle.records.specs.Refusals.{number}
use Rattle.records.proofs.CheckLaws.{long_mark, sized_all}
use Rattle.records.proofs.Lengths.{high_length_lem}
use Rattle.rules.specs.Rules.{Written, notice, proposal, view}
use Rattle.rules.specs.MarkFile.{high_bytes}
use Rattle.rules.specs.Leaving.{largest_in}
use Rattle.events.proofs.ReadLaws.{reason_some}
use Rattle.restart.specs.declared.leaving.Kind.{Kind}
use Rattle.restart.specs.declared.leaving.Kind.TheVariants as kinds
use Rattle.restart.specs.Before.{leaving_length, front_length, leaving_record, front_largest}
use Rattle.restart.specs.Before.{leaving_kind, length_as, read_largest, DueMark}
use Rattle.restart.specs.Before.{short_output, no_record, cut_short, leaves_above, front_checks, before_checks}
use Rattle.restart.specs.Before.{mark_for, no_leave, before_of, out_before}

-- the kind has the length that the mark calls for, and its reader tells what the record is
length_kind : (m : ℕ) → length_as (leaving_kind m) ≡ leaving_length m
unfolding leaving_kind leaving_length
length_kind m = go (eqb m (value_of notice_mark)) (eqb m (value_of proposal_mark)) (eqb m (value_of view_mark))
  where
    go : (n p v : Bool)
        → length_as (ifb n (Some kinds.Notice) (ifb p (Some kinds.Proposal) (ifb v (Some kinds.View) None)))
        ≡ ifb n notice_length (ifb p proposal_length (ifb v view_length 0))
    go true p v = refl
    go false true v = refl
    go false false true = refl
    go false false false = refl

abbrev record_by : Kind → List ℕ → Written
record_by kinds.Notice b = notice (decode_notice b)
record_by kinds.Proposal b = proposal (decode_proposal b)
record_by kinds.View b = view (decode_view b)

record_kind : (b : List ℕ) (k : Kind) → leaving_kind (mark_of b) ≡ Some k → leaving_record b ≡ record_by k b
unfolding leaving_kind leaving_record
record_kind b k e =
    go (eqb (mark_of b) (value_of notice_mark)) (eqb (mark_of b) (value_of proposal_mark))
    (eqb (mark_of b) (value_of view_mark)) e
  where
    go : (n p v : Bool)
        → ifb n (Some kinds.Notice) (ifb p (Some kinds.Proposal) (ifb v (Some kinds.View) None)) ≡ Some k
        → ifb n (notice (decode_notice b)) (ifb p (proposal (decode_proposal b)) (view (decode_view b))) ≡ record_by k b
    go true p v e = let same : kinds.Notice ≡ k = cc in rw (← same) refl
    go false true v e = let same : kinds.Proposal ≡ k = cc in rw (← same) refl
    go false false true e = let same : kinds.View ≡ k = cc in rw (← same) refl
    go false false false e = absurd cc

read_kind : (k : Kind) (b : List ℕ) → length b ≡ length_as (Some k) → read_largest k b ≡ largest_in (record_by k b)
unfolding read_largest
read_kind kinds.Notice b l = rw (sized_all notice_length b l)
read_kind kinds.Proposal b l = rw (sized_all proposal_length b l)
read_kind kinds.View b l = rw (sized_all view_length b l)

kind_long : (k : Kind) → 2 ≤ length_as (Some k)
kind_long kinds.Notice = omega arith
kind_long kinds.Proposal = omega arith
kind_long kinds.View = omega arith

-- a front part has the same mark
pub part_mark : (n : ℕ) (b : List ℕ) → 2 ≤ n → n ≤ length b → mark_of (take n b) ≡ mark_of b
part_mark n b t l =
    let k = length-take-le n b l in
    long_mark (take n b) (omega arith)
    ∙ rw (get_or-take n b 0 0 (omega arith), get_or-take n b 1 0 (omega arith)) (sym (long_mark b (omega arith)))

-- the record in front, as its reader reads it
front_read : (rest : List ℕ) (k : Kind) → leaving_kind (mark_of rest) ≡ Some k → (n : ℕ) → n ≡ length_as (Some k)
    → n ≤ length rest → read_largest k (take n rest) ≡ largest_in (leaving_record (take n rest))
front_read rest k is n size l =
    let long = kind_long k in
    let e : mark_of (take n rest) ≡ mark_of rest = part_mark n rest (omega arith) l in
    read_kind k (take n rest) (length-take-le n rest l ∙ size)
    ∙ ap largest_in (sym (record_kind (take n rest) k (ap leaving_kind e ∙ is)))

-- none of the first three checks applies
pub record FrontFits (output n size : ℕ) : Type 0 where
  pub long_enough : short_output output ≡ false
  pub marked : no_record n ≡ false
  pub enough : cut_short n size ≡ false

-- what the list gives where r is what its rest gives
abbrev three : Bool → Bool → Bool → ℕ → ℕ
three a b c r = ifb a 3 (ifb b 4 (ifb c 5 r))

three_first : (a b c : Bool) (r : ℕ) → (three a b c 0 ≡ 0 → ⊥) → three a b c r ≡ three a b c 0
three_first true b c r h = refl
three_first false true c r h = refl
three_first false false true r h = refl
three_first false false false r h = absurd (h refl)

fits_out : (output n size : ℕ) → first_of (front_checks output n size) ≡ 0 → FrontFits output n size
unfolding front_checks
fits_out output n size z =
    let h = (first_none (short_output output) 2 _).0 z in
    let k = (first_none (no_record n) 3 _).0 h.1 in
    record { long_enough = h.0; marked = k.0; enough = ((first_none (cut_short n size) 4 _).0 k.1).0 }

module _ (last : ℕ) (rest : List ℕ) (output : ℕ) where
  first_3 : (r : ℕ) → r ≡ first_of (front_checks output (front_length rest) (length rest)) → (r ≡ 0 → ⊥)
      → first_of (before_checks last rest output) ≡ r
  unfolding before_checks front_checks
  first_3 r e h =
      three_first (short_output output) (no_record (front_length rest)) (cut_short (front_length rest) (length rest)) _
      (λ z. h (e ∙ z)) ∙ sym e

  pub first_8 : FrontFits output (front_length rest) (length rest)
      → first_of (before_checks last rest output) ≡ ifb (leaves_above last (front_largest rest)) 8 0
  unfolding before_checks front_checks
  first_8 f = rw (f.long_enough, f.marked, f.enough)

  pub before_leaves : FrontFits output (front_length rest) (length rest)
      → leaves_above last (front_largest rest) ≡ false
      → before_of last rest output
      ≡ record { refusal = 0; length = front_length rest; mark = mark_for last (front_largest rest) }
  unfolding before_of
  before_leaves f t = rw (first_8 f, t)

  -- the first of 3, 4 and 5, by the kind of the record in front
  front : (k : Option Kind) → k ≡ leaving_kind (mark_of rest) → length_as k ≡ front_length rest
  front k is = ap length_as is ∙ length_kind (mark_of rest)

  pub at_front : (k : Option Kind) → k ≡ leaving_kind (mark_of rest) → (r : Refusal)
      → number r ≡ first_of (front_checks output (length_as k) (length rest))
      → no_leave (number r) ≡ before_of last rest output
  unfolding before_of
  at_front k is r e =
      let first = e ∙ ap (λ (n : ℕ). first_of (front_checks output n (length rest))) (front k is) in
      rw (first_3 (number r) first (eqb-false _ _ (reason_some r)), reason_some r)

  -- none of them, and the kind
  module _ (o : Option Kind) (is_kind : o ≡ leaving_kind (mark_of rest)) (k : Kind) (some : o ≡ Some k)
      (is_first : 0 ≡ first_of (front_checks output (length_as o) (length rest)))
      (n : ℕ) (is_length : n ≡ length_as (Some k)) where
    size : n ≡ front_length rest
    size = is_length ∙ ap length_as (sym some) ∙ front o is_kind

    fits : FrontFits output (front_length rest) (length rest)
    fits =
        fits_out output (front_length rest) (length rest)
        (sym (is_first ∙ ap (λ (n : ℕ). first_of (front_checks output n (length rest))) (front o is_kind)))

    pub within_rest : n ≤ length rest
    within_rest = rw size (ltb-false _ _ fits.enough)

    module _ (x : ℕ) (is_largest : x ≡ read_largest k (take n rest)) where
      largest : x ≡ front_largest rest
      largest =
          is_largest ∙ front_read rest k (sym is_kind ∙ some) n is_length within_rest
          ∙ ap (λ (m : ℕ). largest_in (leaving_record (take m rest))) size

      pub at_above : leaves_above last x ≡ true → no_leave 8 ≡ before_of last rest output
      unfolding before_of
      at_above t = rw (first_8 fits, rw largest at t)

      pub at_leave : leaves_above last x ≡ false → (m : ℕ) → m ≡ mark_for last x
          → record { refusal = 0; length = n; mark = m } ≡ before_of last rest output
      at_leave t m e = rw (e, size, largest) (sym (before_leaves fits (rw largest at t)))

-- the output
module _ (last : ℕ) (rest out : List ℕ) (f : DueMark) (is_found : f ≡ before_of last rest (length out)) where
  found : (before_of last rest (length out)).mark ≡ f.mark
  found = ap (λ (x : DueMark). x.mark) (sym is_found)

  pub at_untouched : f.mark ≤ last → out ≡ out_before last rest out
  unfolding out_before
  at_untouched h = rw (found, le-ltb last f.mark h)

  -- a mark is due only where the output has a place for it
  due_fits : last < f.mark → high_length ≤ length out
  unfolding before_of before_checks front_checks
  due_fits h = go (short_output (length out)) refl
    where
      go : (t : Bool) → short_output (length out) ≡ t → high_length ≤ length out
      go true e = let z : (before_of last rest (length out)).mark ≡ 0 = rw e in let q = found in absurd (omega arith)
      go false e = ltb-false _ _ e

  pub at_marked : last < f.mark → (k : ℕ) (after : List ℕ)
      → Placed out 0 (encode_high (record { number = f.mark; again = f.mark })) k after
      → after ≡ out_before last rest out
  unfolding out_before high_bytes placed
  at_marked h k after p =
      rw (found, lt-ltb last f.mark h)
      (p.output ∙ rw (high_length_lem (record { number = f.mark; again = f.mark }), le-leb _ _ (due_fits h)))
