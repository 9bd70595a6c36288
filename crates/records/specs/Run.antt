-- The reading of a run of reports and proposals.
use Rattle.std.specs.Prelude.{◌≡◌, ◌⊎◌, ℕ, zero, suc, ◌+◌, length, take, drop, eqb, ltb, leb}
use mathlib.Core.List.{List, [], ◌∷◌, ◌++◌, flatten}
use Rattle.std.specs.Borrow.{Bor}
use Rattle.laws.specs.Lists.{Every}
use Rattle.laws.specs.Upd.{ifb}
use Rattle.records.specs.Layout.{form_of, check_of}

-- 5 where fewer than n bytes remain
abbrev pub too_few : ℕ → List ℕ → ℕ
too_few n b = ifb (ltb (length b) n) 5 0

-- the number with which a run ends here: 0 where nothing remains, else by checks 4 and 5, where 5 means that fewer
-- bytes remain than the mark's length; 0 too where a whole record stands in front
unfoldable pub run_check : List ℕ → ℕ
run_check b = ifb (eqb (length b) 0) 0 (ifb (eqb (form_of b).length 0) 4 (too_few (form_of b).length b))

-- n where a run has so many bytes, else 0
abbrev pub fitting : ℕ → List ℕ → ℕ
fitting n b = ifb (leb n (length b)) n 0

-- the length of the record in front; 0 where the run ends here
unfoldable pub run_size : List ℕ → ℕ
run_size b = ifb (eqb (run_check b) 0) (form_of b).length 0

-- the record in front, and what comes after it
unfoldable pub run_first : List ℕ → List ℕ
run_first b = take (run_size b) b

unfoldable pub run_rest : List ℕ → List ℕ
run_rest b = drop (run_size b) b

-- part is the part of whole that starts at a place, and holds bytes
pub record Part (whole part : Bor (List ℕ)) (at : ℕ) (bytes : List ℕ) : Type 0 where
  pub place : part.ref_ptr ≡ (whole.ref_ptr.0, at + whole.ref_ptr.1)
  pub is : part.now ≡ bytes

-- a whole reading: the records handed back, the number with which it ends, and the rest of the input
pub record Reading : Type 0 where
  pub parts : List (List ℕ)
  pub number : ℕ
  pub rest : List ℕ

abbrev pub before : List ℕ → Reading → Reading
before first r = record { parts = first ∷ r.parts; number = r.number; rest = r.rest }

-- at most n records
unfoldable pub reading_in : ℕ → List ℕ → Reading
reading_in zero b = record { parts = []; number = run_check b; rest = b }
reading_in (suc n) b =
    ifb (eqb (run_size b) 0) (record { parts = []; number = run_check b; rest = b })
    (before (run_first b) (reading_in n (run_rest b)))

-- the whole run: it has no more records than bytes
unfoldable pub reading_of : List ℕ → Reading
reading_of b = reading_in (length b) b

-- where no record stands in front, the run ends: with 0 if nothing remains, else with 4 or 5
pub record Ends (b : List ℕ) : Type 0 where
  pub none : run_size b ≡ 0
  pub number : ((b ≡ []) × (run_check b ≡ 0)) ⊎ ((b ≡ [] → ⊥) × ((run_check b ≡ 4) ⊎ (run_check b ≡ 5)))

-- what a whole reading of b is: the records handed back, in order, and the rest are b, and each record passes checks
-- 4 and 5; the run ends at the rest, with the number
pub record WholeReading (b : List ℕ) (r : Reading) : Type 0 where
  pub input : flatten r.parts ++ r.rest ≡ b
  pub records : Every (λ p. check_of p ≡ 0) r.parts
  pub ends : Ends r.rest
  pub number : r.number ≡ run_check r.rest
