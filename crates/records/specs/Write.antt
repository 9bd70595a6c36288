-- What a writer does with the bytes lent to it: the record stands at its place, or, where it has no room there,
-- nothing is written.
use Rattle.std.specs.Prelude.{◌≡◌, List, ℕ, ◌+◌, length, leb}
use Rattle.std.proofs.lemmas.List.Edits.{sets}
use Rattle.laws.specs.Upd.{ifb}

-- the output after
unfoldable pub placed : List ℕ → ℕ → List ℕ → List ℕ
placed out at bytes = ifb (leb (at + length bytes) (length out)) (sets out at bytes) out

-- how many bytes were written
unfoldable pub placed_count : List ℕ → ℕ → List ℕ → ℕ
placed_count out at bytes = ifb (leb (at + length bytes) (length out)) (length bytes) 0

-- n bytes were written, and after is what the output holds
pub record Placed (out : List ℕ) (at : ℕ) (bytes : List ℕ) (n : ℕ) (after : List ℕ) : Type 0 where
  pub count : n ≡ placed_count out at bytes
  pub output : after ≡ placed out at bytes
