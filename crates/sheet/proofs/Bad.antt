-- Sheet: the number of the first bad record.
use mathlib.Core.Path.{◌≡◌, refl}
use mathlib.Core.List.{List, [], ◌∷◌, ◌++◌}
use Prim.Native.Nat.{ℕ}
use native.Mathlib.Decide.{ℕ_discrete}
use lib.Dec.{eqb}
use borrow.Author.Tests.{ne_eqb}
use Rattle.laws.specs.Checks.{first_of}
use Rattle.laws.specs.Upd.{ifb}
use Rattle.sheet.specs.Sheet.{sync_checks, first_bad}
use Rattle.sheet.specs.Answers.{GoodRecord}

-- a bad record before others decides
pub bad_append : (a b : List (List ℕ)) → first_bad (a ++ b) ≡ ifb (eqb (first_bad a) 0) (first_bad b) (first_bad a)
unfolding first_bad
bad_append [] b = refl
bad_append (r ∷ a) b = go (ℕ_discrete (first_of (sync_checks r)) 0) (bad_append a b)
  where
    go : Dec (first_of (sync_checks r) ≡ 0) → first_bad (a ++ b) ≡ ifb (eqb (first_bad a) 0) (first_bad b) (first_bad a)
        → first_bad (r ∷ a ++ b) ≡ ifb (eqb (first_bad (r ∷ a)) 0) (first_bad b) (first_bad (r ∷ a))
    go (yes z) e = rw z e
    go (no n) e = rw (ne_eqb (first_of (sync_checks r)) 0 n, ne_eqb (first_of (sync_checks r)) 0 n)

-- a record that is not bad leaves it to the rest
pub good_first : (r : List ℕ) (bs : List (List ℕ)) → GoodRecord r → first_bad (r ∷ bs) ≡ first_bad bs
unfolding first_bad
good_first r bs g = rw g.sound

-- a record alone
pub bad_one : (r : List ℕ) → first_bad (r ∷ []) ≡ first_of (sync_checks r)
unfolding first_bad
bad_one r = go (ℕ_discrete (first_of (sync_checks r)) 0)
  where
    go : Dec (first_of (sync_checks r) ≡ 0)
        → ifb (eqb (first_of (sync_checks r)) 0) 0 (first_of (sync_checks r)) ≡ first_of (sync_checks r)
    go (yes e) = rw e
    go (no n) = rw (ne_eqb (first_of (sync_checks r)) 0 n)
