-- Answers: what an answer tells; and records that answer the same.
use mathlib.Core.Path.{◌≡◌, refl, sym, ap, ◌∙◌}
use mathlib.Core.Bool.{true, false, ◌&&◌}
use mathlib.Core.List.{List}
use mathlib.Core.Option.{Option, some}
use Prim.Native.Nat.{ℕ, ◌<◌}
use native.Mathlib.Omega.{arith}
use native.Mathlib.Decide.{dec_lt}
use lib.Dec.{eqb, ltb}
use borrow.Author.Tests.{ltb-true, lt-ltb, le-ltb}
use Rattle.laws.specs.Lowest.{lowest_below}
use Rattle.laws.specs.Upd.{ifb}
use Rattle.laws.proofs.Fin.{and_l, and_r}
use Rattle.laws.proofs.Lowest.{lowest_le, lowest_passes, lowest_first, lowest_end, lowest_same}
use Rattle.seats.specs.Seats.{seat_count, has, contains_of}
use Rattle.seats.proofs.Laws.{has_below}
use Rattle.seats.specs.Offices.{packed}
use Rattle.seats.proofs.OfficeLaws.{packed_lt, has_packed, packed_same}
use Rattle.records.specs.declared.View.{View}
use Rattle.records.specs.declared.Sync.{Sync}
use Rattle.sheet.specs.declared.Along.TheVariants as answers
use Rattle.sheet.specs.Sheet.{record_for, missing, names, lacks_record, names_same, set_of, answer_from}
use Rattle.sheet.specs.Answers.{Member, FirstFor, MissingSeat, CameSet, Tells, missing_seat, came_set}
use Rattle.sheet.proofs.First.{missing_none, first_found}

module _ (v : View) (rs : List Sync) where
  -- a member that does not lack its record has one
  has_first : (s : ℕ) → Member v s → lacks_record v rs s ≡ false
      → (f : FirstFor v rs s) × (record_for v s rs ≡ some f.it)
  unfolding lacks_record
  has_first s m e = first_found v s rs (rw m at e)

  lowest_missing : (seat : ℕ) → seat ≡ lowest_below seat_count (lacks_record v rs) → seat < seat_count
      → MissingSeat v rs seat
  unfolding lacks_record
  lowest_missing seat is l =
      let e : lacks_record v rs seat ≡ true =
      rw (← is) at (lowest_passes seat_count (lacks_record v rs) (rw (← is) l)) in
      record {
        member = and_l _ _ e;
        none_counts = missing_none v seat rs (and_r (contains_of v.members.bits seat) _ e);
        lower = λ s k m. (has_first s m (lowest_first seat_count (lacks_record v rs) s (rw (← is) k))).0;
      }

  -- where no member lacks its record
  none_missing : (previous : ℕ) → lowest_below seat_count (lacks_record v rs) ≡ seat_count
      → CameSet v rs previous (set_of (names_same v previous rs))
  unfolding names_same contains_of
  none_missing previous e = record { within = inside; each = named }
    where
      held : (s : ℕ) → s < seat_count → has (packed seat_count (names_same v previous rs)) s
          ≡ names_same v previous rs s
      held s l = has_packed seat_count (names_same v previous rs) s l

      inside : (s : ℕ) → has (packed seat_count (names_same v previous rs)) s ≡ true → Member v s
      inside s h = and_l _ _ (sym (held s (has_below _ s (packed_lt seat_count (names_same v previous rs)) h)) ∙ h)

      named : (s : ℕ) → Member v s
          → (f : FirstFor v rs s) ×
          (has (packed seat_count (names_same v previous rs)) s ≡ eqb f.it.previous previous)
      named s m =
          let l = ltb-true s seat_count (and_l _ _ m) in
          let w = has_first s m (lowest_end seat_count (lacks_record v rs) e s l) in
          (w.0, held s l ∙ rw (m, w.1))

  -- each answer says so
  pub tells : (previous : ℕ) → Tells v rs previous (answer_from v previous rs)
  unfolding answer_from
  tells previous = go (dec_lt seat seat_count)
    where
      seat : ℕ
      seat = lowest_below seat_count (lacks_record v rs)

      go : Dec (seat < seat_count)
          → Tells v rs previous
          (ifb (ltb seat seat_count) (answers.Missing seat) (answers.Members (set_of (names_same v previous rs))))
      go (yes l) = rw (lt-ltb seat seat_count l) (missing_seat (lowest_missing seat refl l))
      go (no n) =
          let le = lowest_le seat_count (lacks_record v rs) in
          rw (le-ltb seat seat_count (omega arith)) (came_set (none_missing previous (omega arith)))

-- records that are for each seat the same make the same answer
pub same_records : (v : View) (previous : ℕ) (rs qs : List Sync) → ((s : ℕ) → record_for v s rs ≡ record_for v s qs)
    → answer_from v previous rs ≡ answer_from v previous qs
unfolding answer_from lacks_record names_same
same_records v previous rs qs e =
    rw (
      lowest_same seat_count (lacks_record v rs) (lacks_record v qs)
          (λ s l. ap (λ (o : Option Sync). contains_of v.members.bits s && missing o) (e s)),
      packed_same seat_count (names_same v previous rs) (names_same v previous qs)
          (λ s l. ap (λ (o : Option Sync). contains_of v.members.bits s && names previous o) (e s)),
    )
