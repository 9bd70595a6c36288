-- For opening and every later part: records written one after another.
use mathlib.Core.Path.{◌≡◌, refl, sym, ap, ◌∙◌}
use mathlib.Core.List.{List, [], ◌∷◌, ◌++◌}
use Prim.Native.Nat.{ℕ, ◌+◌}
use native.Mathlib.Omega.{arith}
use lib.ListN.{length}
use lib.Seq.{sets}
use Rattle.laws.proofs.Seqs.{sets_append}
use Rattle.rules.specs.Rules.{Written}
use Rattle.rules.specs.Refusals.{bytes_of, all_bytes, size}
use Rattle.rule_laws.proofs.Sizes.{bytes_append, size_append, bytes_one, size_bytes}
use Rattle.event_parts.specs.Did.{Appended}

-- no record
pub appended_none : {room : ℕ} (o : List ℕ) (at : ℕ) → Appended room o at [] at o
unfolding all_bytes
appended_none o at = record { place = omega arith; output = refl }

-- one record
pub appended_one : {room : ℕ} (o : List ℕ) (at : ℕ) (w : Written)
    → Appended room o at (w ∷ []) (at + length (bytes_of room w)) (sets o at (bytes_of room w))
appended_one {room} o at w =
    let e = bytes_one room w in
    let l : length (bytes_of room w) ≡ size (w ∷ []) = sym (ap length e) ∙ size_bytes room (w ∷ []) in
    record { place = ap (λ (k : ℕ). at + k) l; output = sym (ap (sets o at) e) }

-- more records after some
pub appended_then : {room : ℕ} {o p q : List ℕ} {at m n : ℕ} {a b : List Written} → Appended room o at a m p
    → Appended room p m b n q
    → Appended room o at (a ++ b) n q
appended_then {room} {o} {p} {q} {at} {m} {n} {a} {b} f g = record {
  place = let e = size_append a b in omega (arith, f.place, g.place);
  output = let l : m ≡ at + length (all_bytes room a) = rw (size_bytes room a) f.place in
      g.output
      ∙ rw (f.output, l)
      (sym (sets_append o at (all_bytes room a) (all_bytes room b)) ∙ sym (ap (sets o at) (bytes_append room a b)));
}
