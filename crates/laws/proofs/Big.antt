-- Laws of numbers as bytes, and of writes of bytes into a list.
use mathlib.Core.Path.{◌≡◌, refl, sym, ap, ◌∙◌, fun_ext}
use mathlib.Core.List.{List, [], ◌∷◌, ◌++◌}
use Prim.Native.Nat.{ℕ, zero, suc, ◌+◌, ◌*◌, ◌/◌, ◌%◌, ◌^◌, ◌≤◌, ◌<◌}
use native.Mathlib.Omega.{arith}
use native.Mathlib.Nat.{zero-add, add_assoc, div-add-mod', le_of_lt}
use lib.ListN.{length, get_or, take, drop}
use lib.Seq.{sets, sets-eq, get_or-append-add, take-suc, length-take-le, take-append_seam, drop-append_seam}
use native.Mathlib.Numerals.{add-one}
use Rattle.laws.specs.Tab.{tab}
use Rattle.laws.proofs.Tab.{filled}
use Rattle.laws.proofs.Seqs.{sets_append}
use Rattle.laws.specs.Big.{bytes4, big4, bytes8, big8, Below, four_at, bytes_all}

-- omega does better with the quotients as variables: no division is in sight here
flat4 : (x q r s a b c d : ℕ) → q * 256 + d ≡ x → r * 256 + c ≡ q → s * 256 + b ≡ r → a ≡ s
    → a * 2 ^ 24 + b * 2 ^ 16 + c * 2 ^ 8 + d ≡ x
flat4 x q r s a b c d e f g h = omega arith

pub digits4 : (x : ℕ) → x < 2 ^ 32
    → x / 2 ^ 24 % 256 * 2 ^ 24 + x / 2 ^ 16 % 256 * 2 ^ 16 + x / 2 ^ 8 % 256 * 2 ^ 8 + x % 256 ≡ x
digits4 x h =
    flat4 x (x / 2 ^ 8) (x / 2 ^ 16) (x / 2 ^ 24) _ _ _ _ (omega arith) (omega arith) (omega arith) (omega arith)

pub digits8 : (x : ℕ) → x < 2 ^ 64 → big8 (bytes8 x) 0 ≡ x
digits8 x h =
    ap (λ (u : ℕ). u * 2 ^ 32 + big4 (bytes8 x) 4) (digits4 (x / 2 ^ 32) (omega arith))
    ∙ ap (λ (u : ℕ). x / 2 ^ 32 * 2 ^ 32 + u) (digits4 (x % 2 ^ 32) (omega arith))
    ∙ div-add-mod' x (2 ^ 32)

-- the bytes of a number that is made of bytes
made4 : (a b c d : ℕ) → a < 256 → b < 256 → c < 256 → d < 256
    → bytes4 (a * 2 ^ 24 + b * 2 ^ 16 + c * 2 ^ 8 + d) ≡ a ∷ b ∷ c ∷ d ∷ []
made4 a b c d ha hb hc hd =
    let x = a * 2 ^ 24 + b * 2 ^ 16 + c * 2 ^ 8 + d in
    let ea : x / 2 ^ 24 % 256 ≡ a = omega arith in
    let eb : x / 2 ^ 16 % 256 ≡ b = omega arith in
    let ec : x / 2 ^ 8 % 256 ≡ c = omega arith in
    let ed : x % 256 ≡ d = omega arith in
    cc

pub both : {a b c d : List ℕ} → a ≡ b → c ≡ d → a ++ c ≡ b ++ d
both {a} {b} {c} {d} e f = ap (λ (l : List ℕ). l ++ c) e ∙ ap (λ (l : List ℕ). b ++ l) f

made8 : (u v : ℕ) → v < 2 ^ 32 → bytes8 (u * 2 ^ 32 + v) ≡ bytes4 u ++ bytes4 v
made8 u v h =
    let eu : (u * 2 ^ 32 + v) / 2 ^ 32 ≡ u = omega arith in
    let ev : (u * 2 ^ 32 + v) % 2 ^ 32 ≡ v = omega arith in
    both (ap bytes4 eu) (ap bytes4 ev)

module _ (b : List ℕ) (h : Below 256 b) where
  pub big4_below : (at : ℕ) → big4 b at < 2 ^ 32
  big4_below at = omega (arith, h at, h (at + 1), h (at + 2), h (at + 3))

  pub big8_below : (at : ℕ) → big8 b at < 2 ^ 64
  big8_below at = omega (arith, big4_below at, big4_below (at + 4))

  -- the bytes of the number at a place are those that stand there
  pub big4_back : (at : ℕ) → bytes4 (big4 b at) ≡ four_at b at
  big4_back at = made4 _ _ _ _ (h at) (h (at + 1)) (h (at + 2)) (h (at + 3))

  pub big8_back : (at : ℕ) → bytes8 (big8 b at) ≡ four_at b at ++ four_at b (at + 4)
  big8_back at =
      made8 (big4 b at) (big4 b (at + 4)) (big4_below (at + 4)) ∙ both (big4_back at) (big4_back (at + 4))

-- p is o with the bytes a written at a place
pub record Wrote (o : List ℕ) (at : ℕ) (a p : List ℕ) : Type 0 where
  pub is : p ≡ sets o at a

pub wrote_then : {o p q : List ℕ} {at : ℕ} {a : List ℕ} (b : List ℕ) → Wrote o at a p
    → q ≡ sets p (at + length a) b → Wrote o at (a ++ b) q
wrote_then {o} {p} {q} {at} {a} b e f = record {
  is = f ∙ ap (λ (l : List ℕ). sets l (at + length a) b) e.is ∙ sym (sets_append o at a b);
}

pub length_all : (l : List ℕ) → length (bytes_all l) ≡ 4 * length l
unfolding bytes_all
length_all [] = refl
length_all (x ∷ l) = let h = length_all l in omega arith

pub all_snoc : (l : List ℕ) (x : ℕ) → bytes_all (l ++ (x ∷ [])) ≡ bytes_all l ++ bytes4 x
unfolding bytes_all
all_snoc [] x = refl
all_snoc (y ∷ l) x = ap (λ (r : List ℕ). bytes4 y ++ r) (all_snoc l x)

-- one turn of a loop that writes a number
pub put_turn : (o : List ℕ) (at i : ℕ) (b : List ℕ) → i < length b
    → sets (sets o at (bytes_all (take i b))) (at + 4 * i) (bytes4 (get_or b i 0)) ≡ sets o at (bytes_all (take (i + 1) b))
put_turn o at i b h =
    let n : length (take i b) ≡ i = length-take-le i b (le_of_lt h) in
    let m : at + 4 * i ≡ at + length (bytes_all (take i b)) = omega (arith, length_all (take i b)) in
    rw (add-one, take-suc b i 0 h, all_snoc, sets_append, m)

-- what a write leaves: its bytes at the front, and the rest as it was
pub sets_front : (o v : List ℕ) → length v ≤ length o → take (length v) (sets o 0 v) ≡ v
sets_front o v h = ap (take (length v)) (sets-eq v o 0 (omega arith)) ∙ take-append_seam v _

pub sets_rest : (o v : List ℕ) → length v ≤ length o → drop (length v) (sets o 0 v) ≡ drop (length v) o
sets_rest o v h =
    ap (drop (length v)) (sets-eq v o 0 (omega arith)) ∙ drop-append_seam v _
    ∙ ap (λ (n : ℕ). drop n o) (zero-add (length v))

-- the numbers behind the bytes a, read back
big4_append : (a l : List ℕ) (i : ℕ) → big4 (a ++ l) (length a + i) ≡ big4 l i
big4_append a l i = rw (get_or-append-add a l i 0, at 1, at 2, at 3)
  where
    at : (j : ℕ) → get_or (a ++ l) (length a + i + j) 0 ≡ get_or l (i + j) 0
    at j = ap (λ (k : ℕ). get_or (a ++ l) k 0) (add_assoc (length a) i j) ∙ get_or-append-add a l (i + j) 0

all_at : (l : List ℕ) (k : ℕ) → k < length l → Below (2 ^ 32) l → big4 (bytes_all l) (4 * k) ≡ get_or l k 0
unfolding bytes_all
all_at [] k lt h = absurd (omega arith)
all_at (x ∷ l) zero lt h = digits4 x (h 0)
all_at (x ∷ l) (suc k) lt h =
    let e : 4 * suc k ≡ 4 + 4 * k = omega arith in
    ap (big4 (bytes_all (x ∷ l))) e ∙ big4_append (bytes4 x) (bytes_all l) (4 * k)
    ∙ all_at l k (omega arith) (λ j. h (suc j))

pub all_back : (a l : List ℕ) (n : ℕ) → length l ≡ n → Below (2 ^ 32) l
    → tab n (λ k. big4 (a ++ bytes_all l) (length a + 4 * k)) ≡ l
all_back a l n e h =
    sym (filled n (λ k. big4 (a ++ bytes_all l) (length a + 4 * k)) 0 l e
    (λ k lt. sym (big4_append a (bytes_all l) (4 * k) ∙ all_at l k (rw e lt) h)))

-- the bytes of the numbers at a place are those that stand there
pub bytes_back : (n at : ℕ) (b : List ℕ) → Below 256 b
    → bytes_all (tab n (λ k. big4 b (at + 4 * k))) ≡ tab (4 * n) (λ k. get_or b (at + k) 0)
unfolding bytes_all tab
bytes_back zero at b h = refl
bytes_back (suc n) at b h =
    let z : at + 0 ≡ at = omega arith in
    let e : suc (suc (suc (suc (4 * n)))) ≡ 4 * suc n = omega arith in
    let front : bytes4 (big4 b (at + 0)) ≡ tab 4 (λ k. get_or b (at + k) 0) = rw z (big4_back b h at) in
    let rest : bytes_all (tab n (λ k. big4 b (at + 4 * suc k))) ≡ tab (4 * n)
    (λ k. get_or b (at + suc (suc (suc (suc k)))) 0) =
    ap (λ (f : ℕ → ℕ). bytes_all (tab n f)) (fun_ext (λ (k : ℕ). ap (big4 b) (four k)))
    ∙ bytes_back n (at + 4) b h
    ∙ ap (tab (4 * n)) (fun_ext (λ (k : ℕ). ap (λ (j : ℕ). get_or b j 0) (one k))) in
    both front rest ∙ ap (λ (m : ℕ). tab m (λ k. get_or b (at + k) 0)) e
  where
    four : (k : ℕ) → at + 4 * suc k ≡ at + 4 + 4 * k
    four k = omega arith

    one : (k : ℕ) → at + 4 + k ≡ at + suc (suc (suc (suc k)))
    one k = omega arith

pub tab_below : (m n : ℕ) (f : ℕ → ℕ) → 0 < m → ((k : ℕ) → f k < m) → Below m (tab n f)
unfolding tab
tab_below m zero f z h k = z
tab_below m (suc n) f z h zero = h 0
tab_below m (suc n) f z h (suc k) = tab_below m n (λ j. f (suc j)) z (λ j. h (suc j)) k
