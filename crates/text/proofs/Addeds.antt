-- For the methods of Text: texts put behind each other in one buffer.
use mathlib.Core.Path.{◌≡◌, refl, sym, ◌∙◌}
use mathlib.Core.List.{List, [], ◌∷◌, ◌++◌}
use Prim.Native.Nat.{ℕ, ◌+◌, ◌*◌, ◌<◌, ◌≤◌}
use native.Mathlib.Omega.{arith}
use native.Mathlib.Nat.{not-suc-le-zero}
use lib.ListN.{length}
use lib.Seq.{length-sets}
use Rattle.text.specs.Digits.{decimal, hex_of}
use Rattle.text.specs.Lengths.{number_length, numbers_length, trace_length, line_length}
use Rattle.text.specs.Text.{trace_of, numbers_of, line_of}
use Rattle.text.specs.declared.Text.{Text}
use Rattle.text.specs.Added.{Added}
use Rattle.text.proofs.Decimals.{decimal_one}
use Rattle.text.proofs.DigitPuts.{put_then}

module _ {x y : Text} {u : ℕ} {a : List ℕ} where
  -- the buffer keeps its length, so what was not taken is left
  pub room_left : (k : ℕ) → Added u a x y → x.at + u + k ≤ length x.bytes.now → y.at + k ≤ length y.bytes.now
  room_left k f h =
      let l : length y.bytes.now ≡ length x.bytes.now =
      rw f.put.output (length-sets x.bytes.now x.at a) in
      omega (arith, l, h, f.put.short)

  -- the same text, with more allowed
  pub added_as : {b : List ℕ} (v : ℕ) → a ≡ b → u ≤ v → Added u a x y → Added v b x y
  added_as v e l f = record {
    same = f.same;
    put = rw (← e) (record { place = f.put.place; output = f.put.output; short = omega (arith, f.put.short, l) });
  }

  pub added_then : {z : Text} {v : ℕ} {b : List ℕ} → Added u a x y → Added v b y z → Added (u + v) (a ++ b) x z
  added_then f g = record { same = g.same ∙ f.same; put = put_then f.put g.put }

pub trace_none : (x : Text) (b : List ℕ) → length b ≡ 0 → Added (trace_length (length b)) (trace_of b) x x
unfolding trace_of
trace_none x [] h = record { same = refl; put = record { place = omega arith; output = refl; short = omega arith } }
trace_none x (c ∷ b) h = let z : ⊥ = omega arith in absurd z

module _ {x y : Text} where
  pub one_digit : (n : ℕ) → n < 10 → Added 1 ((48 + n) ∷ []) x y → Added number_length (decimal n) x y
  one_digit n h f = added_as number_length (sym (decimal_one n h)) (omega arith) f

  pub trace_some : {z : Text} (b : List ℕ) → 0 < length b → Added 1 (32 ∷ []) x y → Added (2 * length b) (hex_of b) y z
      → Added (trace_length (length b)) (trace_of b) x z
  unfolding trace_of
  trace_some [] h f g = absurd (not-suc-le-zero h)
  trace_some (c ∷ b) h f g = added_as _ refl (omega arith) (added_then f g)

-- a line is its numbers, what is shown and its end
pub line_whole : {x y z w : Text} (number refusal written view : ℕ) (shown : List ℕ)
    → Added numbers_length (numbers_of number refusal written view) x y
    → Added (trace_length (length shown)) (trace_of shown) y z → Added 1 (10 ∷ []) z w
    → Added (line_length (length shown)) (line_of number refusal written view shown) x w
unfolding line_of
line_whole number refusal written view shown f g k =
    added_as _ refl (omega arith) (added_then f (added_then g k))
