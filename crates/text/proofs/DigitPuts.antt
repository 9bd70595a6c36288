-- For the module digits: text put behind text, and one more of what a loop puts.
use mathlib.Core.Path.{◌≡◌, refl, sym, ap, ◌∙◌}
use mathlib.Core.List.{List, [], ◌∷◌, ◌++◌}
use Prim.Native.Nat.{ℕ, suc, ◌+◌, ◌*◌, ◌/◌, ◌%◌, ◌<◌}
use native.Mathlib.Omega.{arith}
use native.Mathlib.Numerals.{add-one}
use lib.ListN.{length, take, get_or, set, length-append}
use lib.Seq.{sets, take-suc, length-take-le}
use Rattle.laws.proofs.Seqs.{sets_append, set_behind}
use Rattle.text.specs.Digits.{glyph, decimal, last_digits, hex_of}
use Rattle.text.specs.Lengths.{number_length}
use Rattle.text.specs.Put.{Put, DigitCount}
use Rattle.text.proofs.Decimals.{digits_length, decimal_digits}

-- text behind text
pub put_then : {o p q : List ℕ} {at m n u v : ℕ} {a b : List ℕ} → Put u o at a m p → Put v p m b n q
    → Put (u + v) o at (a ++ b) n q
put_then {o} {p} {q} {at} {m} {n} {u} {v} {a} {b} f g = record {
  place = let e = length-append a b in omega (arith, f.place, g.place);
  output = g.output ∙ rw (f.output, f.place) (sym (sets_append o at a b));
  short = omega (arith, f.short, g.short);
}

-- a byte
pub put_byte : (o : List ℕ) (at x : ℕ) → Put 1 o at (x ∷ []) (at + 1) (set o at x)
put_byte o at x = record { place = refl; output = refl; short = omega arith }

-- one digit more is stored, and one fewer is due
pub spell_more : (o : List ℕ) (at left n : ℕ)
    → sets (set o (at + left) (48 + n % 10)) at (last_digits left (n / 10)) ≡ sets o at (last_digits (suc left) n)
unfolding last_digits
spell_more o at left n =
    let d = last_digits left (n / 10) in
    let l : length d ≡ left = digits_length left (n / 10) in
    sym (sets_append o at d ((48 + n % 10) ∷ [])
    ∙ ap (λ (k : ℕ). set (sets o at d) (at + k) (48 + n % 10)) l
    ∙ set_behind o at (at + left) (48 + n % 10) d (omega arith))

pub number_spelled : {o o' : List ℕ} {at : ℕ} (n k : ℕ) → DigitCount n k → o' ≡ sets o at (last_digits k n)
    → Put number_length o at (decimal n) (at + k) o'
number_spelled n k h e = rw (decimal_digits n k h) (record {
  place = let l = digits_length k n in omega arith;
  output = e;
  short = omega (arith, h.is, h.few);
})

pub hex_append : (a b : List ℕ) → hex_of (a ++ b) ≡ hex_of a ++ hex_of b
unfolding hex_of
hex_append [] b = refl
hex_append (x ∷ a) b = ap (λ (l : List ℕ). glyph (x / 16) ∷ glyph (x % 16) ∷ l) (hex_append a b)

pub hex_length : (a : List ℕ) → length (hex_of a) ≡ 2 * length a
unfolding hex_of
hex_length [] = refl
hex_length (x ∷ a) = let e = hex_length a in omega arith

-- one more byte in hexadecimal
pub hex_more : (o : List ℕ) (at i : ℕ) (b : List ℕ) → i < length b
    → set (set (sets o at (hex_of (take i b))) (at + 2 * i) (glyph (get_or b i 0 / 16)))
    (at + 2 * i + 1) (glyph (get_or b i 0 % 16))
    ≡ sets o at (hex_of (take (i + 1) b))
unfolding hex_of
hex_more o at i b h = sym
    (rw (add-one i, take-suc b i 0, hex_append)
    (sets_append o at (hex_of (take i b)) (hex_of (get_or b i 0 ∷ []))
    ∙ ap (λ (k : ℕ). sets (sets o at (hex_of (take i b))) (at + k) (hex_of (get_or b i 0 ∷ [])))
    (hex_length (take i b) ∙ ap (λ (k : ℕ). 2 * k) (length-take-le i b (omega arith)))
    ∙ rw (add-one (at + 2 * i))))

-- and all of them
pub hex_put : (o : List ℕ) (at : ℕ) (b : List ℕ) (o' : List ℕ) → o' ≡ sets o at (hex_of b)
    → Put (2 * length b) o at (hex_of b) (at + 2 * length b) o'
hex_put o at b o' e = record {
  place = let l = hex_length b in omega arith;
  output = e;
  short = let l = hex_length b in omega arith;
}
