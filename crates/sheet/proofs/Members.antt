-- Sheet: member by member, whose record is missing and who names the number: before all records, after one more.
use mathlib.Core.Path.{◌≡◌, refl}
use mathlib.Core.Bool.{Bool, true, false, not, ◌&&◌, ◌||◌, and-true, and-false}
use mathlib.Core.List.{List, [], ◌∷◌, ◌++◌}
use Prim.Native.Nat.{ℕ}
use lib.Dec.{eqb}
use borrow.Author.Tests.{eq-eqb}
use Rattle.seats.specs.Seats.{contains_of}
use Rattle.records.specs.declared.View.{View}
use Rattle.records.specs.declared.Sync.{Sync}
use Rattle.desk.specs.Views.{start_for}
use Rattle.sheet.specs.Sheet.{counts, record_for, missing, names, lacks_record, names_same}
use Rattle.sheet.proofs.First.{missing_next, names_next}

-- a record counts for its own seat by its start number
pub counts_seat : (v : View) (r : Sync) → counts v r.seat r ≡ eqb r.start (start_for v r.seat)
unfolding counts
counts_seat v r = rw (eq-eqb r.seat r.seat refl)

module _ (v : View) (previous s : ℕ) where
  pub lacks_none : lacks_record v [] s ≡ contains_of v.members.bits s
  unfolding lacks_record record_for
  lacks_none = and-true (contains_of v.members.bits s)

  pub same_none : names_same v previous [] s ≡ false
  unfolding names_same record_for
  same_none = and-false (contains_of v.members.bits s)

  module _ (rs : List Sync) (r : Sync) where
    pub lacks_next : lacks_record v (rs ++ (r ∷ [])) s ≡ lacks_record v rs s && not (counts v s r)
    unfolding lacks_record
    lacks_next = rw (missing_next v s rs r) (go (contains_of v.members.bits s))
      where
        go : (c : Bool)
            → c && (missing (record_for v s rs) && not (counts v s r))
            ≡ c && missing (record_for v s rs) && not (counts v s r)
        go true = refl
        go false = refl

    pub same_next : names_same v previous (rs ++ (r ∷ [])) s
        ≡ names_same v previous rs s || lacks_record v rs s && counts v s r && eqb r.previous previous
    unfolding lacks_record names_same
    same_next = rw (names_next v s previous rs r) (go (contains_of v.members.bits s))
      where
        go : (c : Bool)
            → c && (names previous (record_for v s rs)
            || missing (record_for v s rs) && counts v s r && eqb r.previous previous)
            ≡ c && names previous (record_for v s rs)
            || c && missing (record_for v s rs) && counts v s r && eqb r.previous previous
        go true = refl
        go false = refl
