-- A file as its whole records and an unfinished one: what is read off it, and what a record more makes of it.
use mathlib.Core.Path.{◌≡◌, refl, sym, ap, ◌∙◌}
use mathlib.Core.Bool.{Bool, true, false, ◌&&◌, ◌||◌}
use mathlib.Core.List.{List, [], ◌∷◌, ◌++◌, append_assoc, append-nil}
use Prim.Native.Nat.{ℕ, ◌+◌, ◌*◌, ◌≤◌, ◌<◌}
use native.Mathlib.Omega.{arith}
use native.Mathlib.Decide.{dec_lt}
use lib.ListN.{length, take, drop, length-append}
use lib.Seq.{take_at, drop_at}
use lib.Dec.{eqb, ltb}
use borrow.Author.Tests.{eq-eqb, lt-ltb, le-leb}
use Rattle.laws.specs.Lists.{Every, none, more, pieces}
use Rattle.laws.proofs.Fin.{as-facts, if_cases}
use Rattle.laws.specs.Upd.{ifb}
use Rattle.laws.proofs.Big.{digits4}
use Rattle.records.specs.Numbers.{limit, within}
use Rattle.records.specs.Layout.{high_length, encode_high, decode_high}
use Rattle.rules.specs.MarkFile.{gap, file_limit, whole_count, whole_end, wholes, may_follow, high_number, is_high}
use Rattle.rules.specs.MarkFile.{all_high, last_in, last_high, good_file, next_high, high_bytes}

-- records end to end
abbrev pub flat : List (List ℕ) → List ℕ
flat [] = []
flat (b ∷ bs) = b ++ flat bs

-- the file f is the whole records bs and an unfinished one, t
pub record Whole (f : List ℕ) (bs : List (List ℕ)) (t : List ℕ) : Type 0 where
  pub is : f ≡ flat bs ++ t
  pub tens : Every (λ b. length b ≡ high_length) bs
  pub short : length t < high_length

pub flat_length : (bs : List (List ℕ)) → Every (λ b. length b ≡ high_length) bs
    → length (flat bs) ≡ high_length * length bs
flat_length [] none = refl
flat_length (b ∷ bs) (more e es) = let x = flat_length bs es in let y = length-append b (flat bs) in omega arith

pub flat_snoc : (bs : List (List ℕ)) (b : List ℕ) → flat (bs ++ (b ∷ [])) ≡ flat bs ++ b
flat_snoc [] b = append-nil b
flat_snoc (c ∷ bs) b = ap (λ (l : List ℕ). c ++ l) (flat_snoc bs b) ∙ sym (append_assoc c (flat bs) b)

pieces_flat : (bs : List (List ℕ)) (t : List ℕ) → Every (λ b. length b ≡ high_length) bs
    → pieces high_length (length bs) (flat bs ++ t) ≡ bs
unfolding pieces
pieces_flat [] t none = refl
pieces_flat (b ∷ bs) t (more e es) =
    let x : (b ++ flat bs) ++ t ≡ b ++ (flat bs ++ t) = append_assoc b (flat bs) t in
    let y : take high_length (b ++ (flat bs ++ t)) ≡ b = take_at b (flat bs ++ t) high_length e in
    let z : drop high_length (b ++ (flat bs ++ t)) ≡ flat bs ++ t = drop_at b (flat bs ++ t) high_length e in
    rw (x, y, z) (ap (λ (l : List (List ℕ)). b ∷ l) (pieces_flat bs t es))

module _ (f : List ℕ) (bs : List (List ℕ)) (t : List ℕ) (w : Whole f bs t) where
  pub whole_length : length f ≡ high_length * length bs + length t
  whole_length = ap length w.is ∙ length-append (flat bs) t
      ∙ ap (λ (n : ℕ). n + length t) (flat_length bs w.tens)

  pub whole_count_lem : whole_count f ≡ length bs
  whole_count_lem = let a = whole_length in let b = w.short in omega arith

  pub whole_end_lem : whole_end f ≡ length (flat bs)
  whole_end_lem = ap (λ (n : ℕ). high_length * n) whole_count_lem ∙ sym (flat_length bs w.tens)

  pub wholes_are : wholes f ≡ bs
  wholes_are = rw (whole_count_lem, w.is) (pieces_flat bs t w.tens)

  -- the last whole mark does not depend on what is unfinished
  pub whole_last : last_high f ≡ last_in 0 bs
  unfolding last_high
  whole_last = ap (last_in 0) wholes_are

  pub whole_good : length f ≤ file_limit → all_high 0 bs ≡ true → good_file f ≡ true
  unfolding good_file
  whole_good l a = rw wholes_are (simp as-facts (l, a))

pub good_length : (f : List ℕ) → good_file f ≡ true → length f ≤ file_limit
unfolding good_file
good_length f g = (simp as-facts at g).0

-- one mark more
pub last_snoc : (p : ℕ) (bs : List (List ℕ)) (b : List ℕ) → last_in p (bs ++ (b ∷ [])) ≡ high_number b
unfolding last_in
last_snoc p [] b = refl
last_snoc p (c ∷ bs) b = last_snoc (high_number c) bs b

pub all_high_snoc : (p : ℕ) (bs : List (List ℕ)) (b : List ℕ) → all_high p bs ≡ true → is_high (last_in p bs) b ≡ true
    → all_high p (bs ++ (b ∷ [])) ≡ true
unfolding last_in all_high
all_high_snoc p [] b a h = rw h
all_high_snoc p (c ∷ bs) b a h = let x = simp as-facts at a in
    simp as-facts (x.0, all_high_snoc (high_number c) bs b x.1 h)

-- what is written is such a mark
pub high_number_lem : (n : ℕ) → n ≤ limit → high_number (high_bytes n) ≡ n
unfolding high_bytes encode_high decode_high
high_number_lem n l = digits4 n (omega arith)

pub high_is : (p n : ℕ) → n ≤ limit → may_follow p n ≡ true → is_high p (high_bytes n) ≡ true
unfolding is_high high_bytes encode_high decode_high
high_is p n l h = rw (high_number_lem n l, eq-eqb n n refl) h

or_right : (b : Bool) → b || true ≡ true
or_right true = refl
or_right false = refl

-- a record whose largest number is above the last mark: the mark before it may follow
pub next_follows : (p x : ℕ) → p < x → x ≤ limit → (may_follow p (next_high x) ≡ true) × (x ≤ next_high x)
    × (next_high x ≤ limit)
unfolding may_follow
next_follows p x l h = (go (dec_lt limit (x + gap)), omega arith, omega arith)
  where
    n : ℕ
    n = next_high x

    near : x + gap ≤ limit → ltb (ifb (eqb p 0) 0 (p + gap)) n ≡ true
    near k = let e : n ≡ x + gap = omega arith in
        if_cases (λ (y : ℕ). ltb y n ≡ true) (eqb p 0) 0 (p + gap) (λ q. lt-ltb 0 n (omega arith))
        (λ q. lt-ltb (p + gap) n (omega arith))

    go : Dec (limit < x + gap) → within n && (ltb (ifb (eqb p 0) 0 (p + gap)) n || (eqb n limit && ltb p limit)) ≡ true
    go (no k) = rw (near (omega arith), le-leb n limit (omega arith))
    go (yes k) =
        let e : n ≡ limit = omega arith in
        rw (e, eq-eqb limit limit refl, lt-ltb p limit (omega arith))
        (or_right (ltb (ifb (eqb p 0) 0 (p + gap)) limit))

-- no mark is above L
pub last_within : (p : ℕ) (bs : List (List ℕ)) → p ≤ limit → all_high p bs ≡ true → last_in p bs ≤ limit
unfolding last_in all_high is_high may_follow
last_within p [] l a = l
last_within p (b ∷ bs) l a = let x = simp as-facts at a in last_within (high_number b) bs x.0.1.0 x.1
