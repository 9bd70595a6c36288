-- Answers: sheets that answer the same: neighbours of different seats exchanged, and another record of a seat behind
-- one that counts.
use mathlib.Core.Path.{◌≡◌, sym, ap, ◌∙◌}
use mathlib.Core.Bool.{true}
use mathlib.Core.List.{List, ◌∷◌, ◌++◌, map, map-append}
use Prim.Native.Nat.{ℕ, ◌+◌, ◌*◌}
use native.Mathlib.Omega.{arith}
use lib.ListN.{length, length-append}
use Rattle.records.specs.Layout.{sync_length, decode_view, decode_sync}
use Rattle.records.specs.declared.View.{View}
use Rattle.sheet.specs.Sheet.{records_in, records_on, counts, record_for, first_bad, along_checks, came_along}
use Rattle.sheet.specs.Answers.{GoodRecord}
use Rattle.sheet.proofs.Bad.{bad_append, good_first}
use Rattle.sheet.proofs.First.{for_append, exchanged, decided}
use Rattle.sheet.proofs.AnswerLaws.{same_records}
use Rattle.sheet.proofs.Records.{on_join, on_front}

-- two records in front of a sheet
two : (r q b : List ℕ) → GoodRecord r → GoodRecord q → records_on (r ++ (q ++ b)) ≡ r ∷ q ∷ records_on b
two r q b gr gq = on_front r (q ++ b) gr.whole ∙ ap (λ (l : List (List ℕ)). r ∷ l) (on_front q b gq.whole)

two_long : (r q b : List ℕ) → length (r ++ (q ++ b)) ≡ length r + (length q + length b)
two_long r q b = length-append r (q ++ b) ∙ ap (λ (n : ℕ). length r + n) (length-append q b)

module _ (view : List ℕ) (previous : ℕ) where
  abbrev shown : View
  shown = decode_view view

  -- two sheets of one length whose first bad records have one number, and whose record for each seat is the same
  same_sheets : (s t : List ℕ) → length s ≡ length t → first_bad (records_on s) ≡ first_bad (records_on t)
      → ((seat : ℕ)
      → record_for shown seat (map decode_sync (records_on s)) ≡ record_for shown seat (map decode_sync (records_on t)))
      → came_along s view previous ≡ came_along t view previous
  unfolding came_along along_checks
  same_sheets s t l b e =
      rw (same_records shown previous (map decode_sync (records_on s)) (map decode_sync (records_on t)) e, b, l)

  -- two sheets with the same m records in front
  module _ (m : ℕ) (a : List ℕ) (whole : length a ≡ m * sync_length) where
    same_behind : (x y : List ℕ) → length x ≡ length y → first_bad (records_on x) ≡ first_bad (records_on y)
        → ((seat : ℕ)
        → record_for shown seat (map decode_sync (records_on x))
        ≡ record_for shown seat (map decode_sync (records_on y)))
        → came_along (a ++ x) view previous ≡ came_along (a ++ y) view previous
    same_behind x y l b e =
        same_sheets (a ++ x) (a ++ y) (length-append a x ∙ ap (λ (n : ℕ). length a + n) l ∙ sym (length-append a y))
        (rw (
          on_join m a x whole,
          on_join m a y whole,
          bad_append (records_in m a) (records_on x),
          bad_append (records_in m a) (records_on y),
          b,
        ))
        (λ seat. rw (
          on_join m a x whole,
          on_join m a y whole,
          map-append decode_sync (records_in m a) (records_on x),
          map-append decode_sync (records_in m a) (records_on y),
          for_append shown seat (map decode_sync (records_in m a)) (map decode_sync (records_on x)),
          for_append shown seat (map decode_sync (records_in m a)) (map decode_sync (records_on y)),
          e seat,
        ))

    -- exchanging neighbours of different seats changes nothing, whatever stands around the two
    pub exchange : (r q b : List ℕ) → GoodRecord r → GoodRecord q → ((decode_sync r).seat ≡ (decode_sync q).seat → ⊥)
        → came_along (a ++ (r ++ (q ++ b))) view previous ≡ came_along (a ++ (q ++ (r ++ b))) view previous
    exchange r q b gr gq n =
        same_behind (r ++ (q ++ b)) (q ++ (r ++ b)) (rw (two_long r q b, two_long q r b) (omega arith))
        (rw (
          two r q b gr gq,
          two q r b gq gr,
          good_first r (q ∷ records_on b) gr,
          good_first q (records_on b) gq,
          good_first q (r ∷ records_on b) gq,
          good_first r (records_on b) gr,
        ))
        (λ seat. rw (two r q b gr gq, two q r b gq gr)
        (exchanged shown seat (decode_sync r) (decode_sync q) (map decode_sync (records_on b)) n))

    -- of two records that count for a seat the first decides: the second may be any other record of that seat
    pub first_decides : (r p q b c : List ℕ) (n : ℕ) → length b ≡ n * sync_length → GoodRecord r → GoodRecord p
        → GoodRecord q
        → counts shown (decode_sync r).seat (decode_sync r) ≡ true → (decode_sync p).seat ≡ (decode_sync r).seat
        → (decode_sync q).seat ≡ (decode_sync r).seat
        → came_along (a ++ (r ++ (b ++ (p ++ c)))) view previous
        ≡ came_along (a ++ (r ++ (b ++ (q ++ c)))) view previous
    first_decides r p q b c n size gr gp gq d ep eq =
        same_behind (r ++ (b ++ (p ++ c))) (r ++ (b ++ (q ++ c))) same_length same_bad same_record
      where
        cut : (x : List ℕ) → GoodRecord x → records_on (r ++ (b ++ (x ++ c))) ≡ r ∷ records_in n b ++ (x ∷ records_on c)
        cut x g =
            on_front r (b ++ (x ++ c)) gr.whole
            ∙ ap (λ (l : List (List ℕ)). r ∷ l)
            (on_join n b (x ++ c) size ∙ ap (λ (l : List (List ℕ)). records_in n b ++ l) (on_front x c g.whole))

        long : (x : List ℕ) → GoodRecord x
            → length (r ++ (b ++ (x ++ c))) ≡ length r + (length b + (sync_length + length c))
        long x g = rw (length-append r (b ++ (x ++ c)), length-append b (x ++ c), length-append x c, g.whole)

        same_length : length (r ++ (b ++ (p ++ c))) ≡ length (r ++ (b ++ (q ++ c)))
        same_length = long p gp ∙ sym (long q gq)

        bad : (x : List ℕ) → GoodRecord x
            → first_bad (r ∷ records_in n b ++ (x ∷ records_on c)) ≡ first_bad (r ∷ records_in n b ++ records_on c)
        bad x g =
            rw (
              good_first r (records_in n b ++ (x ∷ records_on c)) gr,
              good_first r (records_in n b ++ records_on c) gr,
              bad_append (records_in n b) (x ∷ records_on c),
              bad_append (records_in n b) (records_on c),
              good_first x (records_on c) g,
            )

        same_bad : first_bad (records_on (r ++ (b ++ (p ++ c)))) ≡ first_bad (records_on (r ++ (b ++ (q ++ c))))
        same_bad = rw (cut p gp, cut q gq, bad p gp, bad q gq)

        same_record : (seat : ℕ)
            → record_for shown seat (map decode_sync (records_on (r ++ (b ++ (p ++ c)))))
            ≡ record_for shown seat (map decode_sync (records_on (r ++ (b ++ (q ++ c)))))
        same_record seat =
            rw (
              cut p gp,
              cut q gq,
              map-append decode_sync (records_in n b) (p ∷ records_on c),
              map-append decode_sync (records_in n b) (q ∷ records_on c),
            )
            (decided shown seat (decode_sync r) (decode_sync p) (decode_sync q) (map decode_sync (records_in n b))
            (map decode_sync (records_on c)) d ep eq)
