-- What must happen before the first record of what an answer wrote may leave: the mark that goes into the file.
use Rattle.std.specs.Prelude.{Bool, ◌||◌, Option, None, Some, Result, Ok, Err}
use Rattle.std.specs.Prelude.{List, [], ◌∷◌, ◌++◌, ℕ, length, take, eqb, ltb}
use Rattle.std.proofs.lemmas.List.Edits.{sets}
use Rattle.laws.specs.Checks.{Check, first_of}
use Rattle.laws.specs.Upd.{ifb}
use Rattle.records.specs.Numbers.{limit}
use Rattle.records.specs.Layout.{notice_mark, proposal_mark, view_mark, notice_length, proposal_length, view_length}
use Rattle.records.specs.Layout.{high_length, value_of, mark_of, decode_notice, decode_proposal, decode_view, sized}
use Rattle.rules.specs.Rules.{Written, notice, proposal, view}
use Rattle.rules.specs.MarkFile.{next_high, high_bytes}
use Rattle.rules.specs.Leaving.{largest_in}
use Rattle.records.specs.declared.refusal.Refusal.{Refusal}
use Rattle.records.specs.Refusals.{number}
use Rattle.restart.specs.declared.leaving.DueMark.{DueMark as InCode}
use Rattle.restart.specs.declared.leaving.Kind.{Kind}
use Rattle.restart.specs.declared.leaving.Kind.TheVariants as kinds

-- the length of a start notice, proposal or view, by the value of its mark; 0 where the mark is none of theirs
unfoldable pub leaving_length : ℕ → ℕ
leaving_length m =
    ifb (eqb m (value_of notice_mark)) notice_length
    (ifb (eqb m (value_of proposal_mark)) proposal_length (ifb (eqb m (value_of view_mark)) view_length 0))

abbrev pub front_length : List ℕ → ℕ
front_length rest = leaving_length (mark_of rest)

-- the record with such a mark
unfoldable pub leaving_record : List ℕ → Written
leaving_record b =
    ifb (eqb (mark_of b) (value_of notice_mark)) (notice (decode_notice b))
    (ifb (eqb (mark_of b) (value_of proposal_mark)) (proposal (decode_proposal b)) (view (decode_view b)))

-- the largest of its numbers of four bytes
abbrev pub front_largest : List ℕ → ℕ
front_largest rest = largest_in (leaving_record (take (front_length rest) rest))

-- what code answers of the mark's value: the kind of record, none where the mark is none of the three; its length
unfoldable pub leaving_kind : ℕ → Option Kind
leaving_kind m =
    ifb (eqb m (value_of notice_mark)) (Some kinds.Notice)
    (ifb (eqb m (value_of proposal_mark)) (Some kinds.Proposal)
    (ifb (eqb m (value_of view_mark)) (Some kinds.View) None))

abbrev pub length_as : Option Kind → ℕ
length_as None = 0
length_as (Some kinds.Notice) = notice_length
length_as (Some kinds.Proposal) = proposal_length
length_as (Some kinds.View) = view_length

-- and the largest number of bytes that hold such a record, by its reader
unfoldable pub read_largest : Kind → List ℕ → ℕ
read_largest kinds.Notice b = largest_in (notice (decode_notice (sized notice_length b)))
read_largest kinds.Proposal b = largest_in (proposal (decode_proposal (sized proposal_length b)))
read_largest kinds.View b = largest_in (view (decode_view (sized view_length b)))

-- 3: the output, of this length, has no place for a mark
abbrev pub short_output : ℕ → Bool
short_output output = ltb output high_length

-- 4: the mark is none of the three, so that it calls for no length
abbrev pub no_record : ℕ → Bool
no_record n = eqb n 0

-- 5: there are fewer bytes than the mark's length
abbrev pub cut_short : ℕ → ℕ → Bool
cut_short n size = ltb size n

-- 8: the last mark or the largest number of the record is above L
abbrev pub leaves_above : ℕ → ℕ → Bool
leaves_above last x = ltb limit last || ltb limit x

-- 3, 4 and 5, before the numbers are read
unfoldable pub front_checks : ℕ → ℕ → ℕ → List Check
front_checks output n size =
    record { number = 3; applies = short_output output } ∷ record { number = 4; applies = no_record n }
    ∷ record { number = 5; applies = cut_short n size } ∷ []

unfoldable pub before_checks : ℕ → List ℕ → ℕ → List Check
before_checks last rest output =
    front_checks output (front_length rest) (length rest)
    ++ (record { number = 8; applies = leaves_above last (front_largest rest) } ∷ [])

-- the last mark once a record with largest number x may leave
abbrev pub mark_for : ℕ → ℕ → ℕ
mark_for last x = ifb (ltb last x) (next_high x) last

-- the refusal or 0, the length of the record in front, and the last mark once it may leave; zeros with a refusal
pub record DueMark : Type 0 where
  pub refusal : ℕ
  pub length : ℕ
  pub mark : ℕ

abbrev pub no_leave : ℕ → DueMark
no_leave n = record { refusal = n; length = 0; mark = 0 }

abbrev pub due_of : Result InCode Refusal → DueMark
due_of (Ok d) = record { refusal = 0; length = d.length; mark = d.mark }
due_of (Err e) = no_leave (number e)

unfoldable pub before_of : ℕ → List ℕ → ℕ → DueMark
before_of last rest output =
    let n = first_of (before_checks last rest output) in
    ifb (eqb n 0) (record { refusal = 0; length = front_length rest; mark = mark_for last (front_largest rest) })
    (no_leave n)

-- the output is touched only where a mark is due, which then stands at its start
unfoldable pub out_before : ℕ → List ℕ → List ℕ → List ℕ
out_before last rest out =
    let m = (before_of last rest (length out)).mark in
    ifb (ltb last m) (sets out 0 (high_bytes m)) out
