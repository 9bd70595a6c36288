-- The record in front of the bytes of an answer, as the call reads it: its length and its largest number.
use mathlib.Core.Path.{◌≡◌, sym, ap, ◌∙◌}
use mathlib.Core.Bool.{Bool, true, false}
use mathlib.Core.List.{List, [], ◌∷◌, ◌++◌, append-nil}
use Prim.Native.Nat.{ℕ, ◌^◌, ◌≤◌, ◌<◌}
use native.Mathlib.Omega.{arith}
use lib.ListN.{length, get_or, take, length-append}
use lib.Seq.{take_at}
use lib.Dec.{eqb, ltb}
use borrow.Author.Tests.{ne_eqb, le-ltb}
use Rattle.laws.specs.Big.{bytes4, bytes8, Below}
use Rattle.laws.specs.Fin.{largest}
use Rattle.laws.proofs.Big.{digits4, all_back}
use Rattle.laws.specs.Checks.{first_of}
use Rattle.laws.specs.Upd.{ifb}
use Rattle.laws.proofs.Fin.{if_cases, or_out, largest_le}
use Rattle.records.specs.Numbers.{limit}
use Rattle.records.specs.Layout.{notice_mark, proposal_mark, view_mark, notice_length, proposal_length, view_length}
use Rattle.records.specs.Layout.{high_length, value_of, mark_of, encode_notice, encode_proposal, encode_view}
use Rattle.records.specs.Layout.{decode_notice, decode_proposal, decode_view}
use Rattle.records.proofs.CheckLaws.{long_mark}
use Rattle.records.proofs.Lengths.{notice_length_lem, proposal_length_lem, view_length_lem}
use Rattle.records.proofs.NumberLaws.{sixteen_below}
use Rattle.rules.specs.Rules.{Written, notice, proposal, view}
use Rattle.rules.specs.Refusals.{bytes_of}
use Rattle.rules.specs.Leaving.{largest_in}
use Rattle.restart.specs.Before.{leaving_length, front_length, leaving_record, front_largest}
use Rattle.restart.specs.Before.{before_checks, mark_for, DueMark, before_of}
use Rattle.restart.specs.Caller.{HasSixteen}
use Rattle.restart.proofs.Exits.{FrontFits, before_leaves}

-- the value of its mark
abbrev mark_value : Written → ℕ
mark_value (notice n) = value_of notice_mark
mark_value (proposal p) = value_of proposal_mark
mark_value (view v) = value_of view_mark

-- sixteen numbers of which none is above L have room in four bytes each
sixteen_low : (l : List ℕ) → length l ≡ 16 → largest 16 (λ o. get_or l o 0) ≤ limit → Below (2 ^ 32) l
sixteen_low l n h = sixteen_below l n (λ o lt. let x = largest_le 16 (λ k. get_or l k 0) o lt in omega arith)

-- the bytes of a record of a room
module _ (room : ℕ) where
  mark_front : (w : Written) (behind : List ℕ) → mark_of (bytes_of room w ++ behind) ≡ mark_value w
  unfolding encode_notice encode_proposal encode_view
  mark_front (notice n) behind = long_mark (encode_notice room n ++ behind) (omega arith)
  mark_front (proposal p) behind = long_mark (encode_proposal room p ++ behind) (omega arith)
  mark_front (view v) behind = long_mark (encode_view room v ++ behind) (omega arith)

  mark_own : (w : Written) → mark_of (bytes_of room w) ≡ mark_value w
  mark_own w = rw (append-nil (bytes_of room w)) at (mark_front w [])

  -- what they are read as
  abbrev read_back : Written → Written
  read_back (notice n) = notice (decode_notice (encode_notice room n))
  read_back (proposal p) = proposal (decode_proposal (encode_proposal room p))
  read_back (view v) = view (decode_view (encode_view room v))

  read_back_lem : (w : Written) → leaving_record (bytes_of room w) ≡ read_back w
  unfolding leaving_record
  read_back_lem (notice n) = rw (mark_own (notice n))
  read_back_lem (proposal p) = rw (mark_own (proposal p))
  read_back_lem (view v) = rw (mark_own (view v))

  -- its numbers come back, whatever its members
  back_largest : (w : Written) → HasSixteen w → largest_in w ≤ limit → largest_in (read_back w) ≡ largest_in w
  unfolding encode_notice decode_notice encode_proposal decode_proposal encode_view decode_view
  back_largest (notice n) h l = digits4 n.start (omega arith)
  back_largest (proposal p) h l =
      rw (
        digits4 p.start (omega arith),
        digits4 p.number (omega arith),
        all_back
            (proposal_mark ++ (room ∷ p.sender ∷ p.kind ∷ []) ++ bytes8 p.members.bits
            ++ bytes4 p.start ++ bytes4 p.number)
            p.used 16 h (sixteen_low p.used h (omega arith)),
      )
  back_largest (view v) h l =
      rw (
        digits4 v.number (omega arith),
        all_back (view_mark ++ (room ∷ []) ++ bytes4 v.number ++ bytes8 v.members.bits) v.starts 16 h
            (sixteen_low v.starts h (omega arith)),
      )

  bytes_length : (w : Written) → HasSixteen w → length (bytes_of room w) ≡ leaving_length (mark_value w)
  unfolding leaving_length
  bytes_length (notice n) h = notice_length_lem room n
  bytes_length (proposal p) h = proposal_length_lem room p h
  bytes_length (view v) h = view_length_lem room v h

  pub bytes_some : (w : Written) → HasSixteen w → 0 < length (bytes_of room w)
  bytes_some (notice n) h = let e = notice_length_lem room n in omega arith
  bytes_some (proposal p) h = let e = proposal_length_lem room p h in omega arith
  bytes_some (view v) h = let e = view_length_lem room v h in omega arith

  -- with any bytes behind it
  module _ (w : Written) (h : HasSixteen w) (behind : List ℕ) where
    abbrev bytes : List ℕ
    bytes = bytes_of room w ++ behind

    pub front_length_lem : front_length bytes ≡ length (bytes_of room w)
    front_length_lem = ap leaving_length (mark_front w behind) ∙ sym (bytes_length w h)

    pub front_part : take (front_length bytes) bytes ≡ bytes_of room w
    front_part = take_at (bytes_of room w) behind (front_length bytes) (sym front_length_lem)

    pub front_largest_lem : largest_in w ≤ limit → front_largest bytes ≡ largest_in w
    front_largest_lem l = rw (front_part, read_back_lem w) (back_largest w h l)

    -- and where it has no number above L
    module _ (l : largest_in w ≤ limit) (last : ℕ) (low : last ≤ limit) (output : ℕ) (fits : high_length ≤ output) where
      passes : FrontFits output (front_length bytes) (length bytes)
      passes = record {
        long_enough = le-ltb _ _ fits;
        marked = ne_eqb (front_length bytes) 0 (λ z. let a = front_length_lem in let b = bytes_some w h in omega arith);
        enough = le-ltb (length bytes) (front_length bytes)
            (let a = front_length_lem in let b = length-append (bytes_of room w) behind in omega arith);
      }

      -- the call answers with its length and the mark that it asks for
      pub before_record : before_of last bytes output
          ≡ record { refusal = 0; length = length (bytes_of room w); mark = mark_for last (largest_in w) }
      before_record =
          let x = front_largest bytes in
          let low-too : x ≤ limit = rw (front_largest_lem l) l in
          before_leaves last bytes output passes
          (or_out (ltb limit last) (ltb limit x) (le-ltb limit last low) (le-ltb limit x low-too))
          ∙ rw (front_largest_lem l, front_length_lem)

-- no record that leaves is longer than a proposal
front_most : (m : ℕ) → leaving_length m ≤ proposal_length
unfolding leaving_length
front_most m = go (eqb m (value_of notice_mark)) (eqb m (value_of proposal_mark)) (eqb m (value_of view_mark))
  where
    go : (a b c : Bool) → ifb a notice_length (ifb b proposal_length (ifb c view_length 0)) ≤ proposal_length
    go true b c = omega arith
    go false true c = omega arith
    go false false true = omega arith
    go false false false = omega arith

pub before_length : (last : ℕ) (rest : List ℕ) (output : ℕ) → (before_of last rest output).length ≤ proposal_length
unfolding before_of
before_length last rest output =
    if_cases (λ (b : DueMark). b.length ≤ proposal_length) (eqb (first_of (before_checks last rest output)) 0) _ _
    (λ e. front_most (mark_of rest)) (λ e. omega arith)
