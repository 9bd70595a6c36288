-- lib.rt: what is answered at each exit, by what the reader, the checks and the pass tell.
use Rattle.std.specs.Prelude.{None, Some}
use Rattle.std.proofs.lemmas.Option.{none-some, same_Some}
use mathlib.Core.Path.{◌≡◌, refl, sym, ap, ◌∙◌}
use mathlib.Core.Bool.{Bool, true, false, not}
use mathlib.Core.List.{List, map}
use Prim.Native.Nat.{ℕ, ◌^◌, ◌<◌}
use native.Mathlib.Omega.{arith}
use native.Mathlib.Decide.{dec_lt, ℕ_discrete}
use lib.ListN.{length}
use lib.Dec.{eqb, ltb}
use borrow.Author.Tests.{leb-true, leb-false, eqb-false, ne_eqb, lt-ltb}
use Rattle.laws.specs.Upd.{ifb}
use Rattle.laws.specs.Checks.{first_of}
use Rattle.laws.proofs.Lowest.{lowest_same, lowest_le, lowest_none, lowest_end}
use Rattle.seats.specs.Seats.{seat_count, has, lowest_seat, first_seat}
use Rattle.seats.proofs.Laws.{has_empty, same_seats}
use Rattle.seats.specs.Offices.{packed}
use Rattle.seats.proofs.OfficeLaws.{has_packed}
use Rattle.records.specs.Numbers.{room_count, room_above}
use Rattle.records.specs.Layout.{view_mark, view_length, check_own, room_of, decode_view, decode_sync}
use Rattle.records.specs.Refusals.{number}
use Rattle.records.specs.declared.InRoom.{InRoom}
use Rattle.records.specs.declared.View.{View}
use Rattle.records.specs.declared.Sync.{Sync}
use Rattle.records.specs.declared.refusal.Refusal.{Refusal}
use Rattle.desk.proofs.Refusals.{refusal_some}
use Rattle.sheet.specs.declared.Along.TheVariants as answers
use Rattle.sheet.specs.Sheet.{records_on, lacks_record, answer_from, ask_checks, first_bad, came_along}
use Rattle.sheet.proofs.Exits.{along_unread, along_20, along_asked, along_bad, along_good}
use Rattle.came_along.specs.declared.sheet_pass.Found.{Found}
use Rattle.came_along.specs.Pass.{Passed, found_after, nobody, pass_of}
use Rattle.came_along.specs.Found.{found_answer}

-- what was found after the records answers as they do
found_answers : (v : View) (previous : ℕ) (rs : List Sync)
    → found_answer (found_after v previous rs) ≡ answer_from v previous rs
unfolding found_answer found_after answer_from lowest_seat
found_answers v previous rs =
    rw (lowest_same seat_count (has (packed seat_count (lacks_record v rs))) (lacks_record v rs)
    (λ s l. has_packed seat_count (lacks_record v rs) s l))

-- a set has a lowest seat among the 64 unless it is empty
lowest_some : (x : ℕ) → x < 2 ^ 64 → ltb (lowest_seat x) seat_count ≡ not (eqb x 0)
unfolding lowest_seat
lowest_some x l = go (ℕ_discrete x 0) (dec_lt (lowest_seat x) seat_count)
  where
    go : Dec (x ≡ 0) → Dec (lowest_seat x < seat_count) → ltb (lowest_seat x) seat_count ≡ not (eqb x 0)
    go (yes z) d = rw (z, lowest_none seat_count (has 0) (λ s k. has_empty s))
    go (no n) (yes a) = rw (ne_eqb x 0 n, lt-ltb (lowest_seat x) seat_count a)
    go (no n) (no a) =
        let e = lowest_le seat_count (has x) in
        let none = lowest_end seat_count (has x) (omega arith) in
        absurd (n (same_seats x 0 l (omega arith) (λ s k. none s k ∙ sym (has_empty s))))

module _ (f : Found) (l : f.missing.bits < 2 ^ 64) where
  pub answer_some : (seat : ℕ) → Some seat ≡ first_seat f.missing.bits → answers.Missing seat ≡ found_answer f
  unfolding found_answer
  answer_some seat e = rw (lowest_some f.missing.bits l) (go (eqb f.missing.bits 0) e)
    where
      go : (t : Bool) → Some seat ≡ ifb t None (Some (lowest_seat f.missing.bits))
          → answers.Missing seat
          ≡ ifb (not t) (answers.Missing (lowest_seat f.missing.bits)) (answers.Members f.same)
      go true e = absurd (none-some _ (sym e))
      go false e = ap answers.Missing (same_Some _ _ e)

  pub answer_none : None ≡ first_seat f.missing.bits → answers.Members f.same ≡ found_answer f
  unfolding found_answer
  answer_none e = rw (lowest_some f.missing.bits l) (go (eqb f.missing.bits 0) e)
    where
      go : (t : Bool) → None ≡ ifb t None (Some (lowest_seat f.missing.bits))
          → answers.Members f.same
          ≡ ifb (not t) (answers.Missing (lowest_seat f.missing.bits)) (answers.Members f.same)
      go true e = refl
      go false e = absurd (none-some _ e)

-- a refusal is no 0
some : (e : Refusal) {n : ℕ} → number e ≡ n → n ≡ 0 → ⊥
some e is z = eqb-false _ _ (refusal_some e) (is ∙ z)

module _ (sheet view : List ℕ) (previous : ℕ) where
  pub at_view : (e : Refusal) → number e ≡ check_own view_mark view_length view
      → answers.Refused (number e) ≡ came_along sheet view previous
  at_view e is = rw is (sym (along_unread sheet view previous (some e is)))

  module _ (z : 0 ≡ check_own view_mark view_length view) (r : InRoom View)
      (is : r ≡ record { room = room_of view; «record» = decode_view view }) where
    pub at_20 : room_above r.room ≡ true → answers.Refused 20 ≡ came_along sheet view previous
    at_20 above =
        sym (along_20 sheet view previous (sym z) (leb-true room_count (room_of view) (rw is at above)))

    module _ (low : room_above r.room ≡ false) where
      below : room_of view < room_count
      below = leb-false room_count (room_of view) (rw is at low)

      pub at_asked : (e : Refusal) → number e ≡ first_of (ask_checks r.«record» previous (length sheet))
          → answers.Refused (number e) ≡ came_along sheet view previous
      at_asked e asked =
          let q : number e ≡ first_of (ask_checks (decode_view view) previous (length sheet)) = rw is at asked in
          rw q (sym (along_asked sheet view previous (sym z) below (some e q)))

      -- what is asked passes its checks: the records have the word
      module _ (asked : 0 ≡ first_of (ask_checks r.«record» previous (length sheet))) where
        passed : first_of (ask_checks (decode_view view) previous (length sheet)) ≡ 0
        passed = sym (rw is at asked)

        pub at_bad : (e : Refusal)
            → record { refusal = number e; found = nobody } ≡ pass_of r.«record» previous (records_on sheet)
            → answers.Refused (number e) ≡ came_along sheet view previous
        unfolding pass_of
        at_bad e p =
            let q : number e ≡ first_bad (records_on sheet) = ap (λ (x : Passed). x.refusal) p in
            rw q (sym (along_bad sheet view previous (sym z) below passed (some e q)))

        pub at_end : (f : Found) → record { refusal = 0; found = f } ≡ pass_of r.«record» previous (records_on sheet)
            → found_answer f ≡ came_along sheet view previous
        unfolding pass_of
        at_end f p =
            let q : first_bad (records_on sheet) ≡ 0 = sym (ap (λ (x : Passed). x.refusal) p) in
            let h : record { refusal = 0; found = f } ≡ pass_of (decode_view view) previous (records_on sheet) =
            rw is at p in
            ap (λ (x : Passed). found_answer x.found) h
            ∙ rw q (found_answers (decode_view view) previous (map decode_sync (records_on sheet)))
            ∙ sym (along_good sheet view previous (sym z) below passed q)

pub ruleset found_laws = (at_view, at_20, at_asked, at_bad, at_end)

pub ruleset answer_laws = (answer_some, answer_none)
