-- Sheet: a sheet cut into its records: some and then more, and a sheet in parts.
use mathlib.Core.Path.{◌≡◌, ap, ◌∙◌}
use mathlib.Core.List.{List, [], ◌∷◌, ◌++◌}
use Prim.Native.Nat.{ℕ, zero, suc, ◌+◌, ◌*◌, ◌/◌}
use native.Mathlib.Omega.{arith}
use lib.ListN.{length, take, drop, length-append, length-drop}
use lib.Seq.{take_all, take-append-le, drop-append-le, drop-drop}
use Rattle.records.specs.Layout.{sync_length}
use Rattle.laws.specs.Lists.{pieces}
use Rattle.sheet.specs.Sheet.{records_in, records_on}

-- m records, and n from there on
pub records_split : (m n : ℕ) (s : List ℕ)
    → records_in (m + n) s ≡ records_in m s ++ records_in n (drop (m * sync_length) s)
unfolding pieces
records_split zero n s = let z : 0 + n ≡ n = omega arith in rw z
records_split (suc m) n s =
    let z : suc m + n ≡ suc (m + n) = omega arith in
    let e : suc m * sync_length ≡ sync_length + m * sync_length = omega arith in
    rw (z, e, ← drop-drop (m * sync_length) sync_length s)
    (ap (λ (l : List (List ℕ)). take sync_length s ∷ l) (records_split m n (drop sync_length s)))

pub records_next : (n : ℕ) (s : List ℕ)
    → records_in (n + 1) s ≡ records_in n s ++ (take sync_length (drop (n * sync_length) s) ∷ [])
unfolding pieces
records_next n s = records_split n 1 s

records_join : (m n : ℕ) (a b : List ℕ) → length a ≡ m * sync_length
    → records_in (m + n) (a ++ b) ≡ records_in m a ++ records_in n b
unfolding pieces
records_join zero n [] b e = let z : 0 + n ≡ n = omega arith in rw z
records_join zero n (x ∷ a) b e = absurd (omega arith)
records_join (suc m) n a b e =
    let z : suc m + n ≡ suc (m + n) = omega arith in
    let l = length-drop sync_length a in
    rw (z, take-append-le sync_length a b (omega arith), drop-append-le sync_length a b (omega arith))
    (ap (λ (l : List (List ℕ)). take sync_length a ∷ l) (records_join m n (drop sync_length a) b (omega arith)))

-- a sheet whose first part is m records
pub on_join : (m : ℕ) (a b : List ℕ) → length a ≡ m * sync_length → records_on (a ++ b) ≡ records_in m a ++ records_on b
on_join m a b e =
    let l = length-append a b in
    let n : length (a ++ b) / sync_length ≡ m + length b / sync_length = omega arith in
    rw n (records_join m (length b / sync_length) a b e)

-- a sheet with a record in front
pub on_front : (r b : List ℕ) → length r ≡ sync_length → records_on (r ++ b) ≡ r ∷ records_on b
unfolding pieces
on_front r b e = on_join 1 r b (omega arith) ∙ rw (take_all sync_length r (omega arith))
