-- For table: a loop over the rows of a table, one after another.
use mathlib.Core.Path.{◌≡◌, refl, sym, ap, ◌∙◌}
use mathlib.Core.Bool.{Bool, true, ◌&&◌}
use mathlib.Core.List.{List, ◌++◌}
use Prim.Native.Nat.{ℕ, ◌+◌, ◌-◌, ◌≤◌, ◌<◌}
use native.Mathlib.Omega.{arith}
use lib.ListN.{length, take, drop, length-drop, length-append}
use lib.Seq.{drop-drop, take_at, drop_at}
use Rattle.laws.specs.Fin.{allb}
use Rattle.laws.proofs.Loops.{all_one}
use Rattle.records.specs.Numbers.{room_count}
use Rattle.row.specs.Row.{row_length, sound_row}
use Rattle.row.specs.Table.{table_length, row_place, row_at, sound_table}
use Rattle.row.proofs.Tables.{sound_tests}

-- after the first n: what is left, and what was found
pub record Looked (ws : List ℕ) (n size : ℕ) (rest : List ℕ) (ok : Bool) : Type 0 where
  pub wide : size ≡ row_length
  pub left : rest ≡ drop (row_place n) ws
  pub few : n ≤ room_count
  pub found : ok ≡ allb n (λ k. sound_row (row_at ws k))

module _ (ws : List ℕ) (long : length ws ≡ table_length) where
  pub looked_none : (size : ℕ) (rest : List ℕ) → size ≡ row_length → rest ≡ ws → Looked ws 0 size rest true
  unfolding allb
  looked_none size rest e f = record { wide = e; left = f; few = omega arith; found = refl }

  module _ {n size : ℕ} {rest : List ℕ} {ok : Bool} (l : Looked ws n size rest ok) where
    left_length : length rest ≡ table_length - row_place n
    left_length = ap length l.left ∙ length-drop (row_place n) ws ∙ ap (λ (k : ℕ). k - row_place n) long

    pub looked_one : (size' : ℕ) (row rest' : List ℕ) (b : Bool) → size' ≡ size → rest ≡ row ++ rest'
        → length row ≡ size → b ≡ sound_row row → Looked ws (n + 1) size' rest' (b && ok)
    looked_one size' row rest' b same e f g = record {
      wide = same ∙ l.wide;
      left = sym (ap (drop row_length) e ∙ drop_at row rest' row_length (f ∙ l.wide))
          ∙ ap (drop row_length) l.left ∙ drop-drop row_length (row_place n) ws ∙ ap (λ (k : ℕ). drop k ws) next;
      few = let a = ap length e in let p = length-append row rest' in let q = left_length in let z = l.wide in
          omega arith;
      found = rw (g, is, l.found) (sym (all_one n (λ k. sound_row (row_at ws k))));
    }
      where
        next : row_place n + row_length ≡ row_place (n + 1)
        next = omega arith

        is : row ≡ row_at ws n
        is = sym (take_at row rest' row_length (f ∙ l.wide)) ∙ ap (take row_length) (sym e ∙ l.left)

    pub looked_all : length rest < size → ok ≡ sound_table ws
    looked_all short =
        let z = l.wide in
        let h = l.few in
        let q = left_length in
        let all : n ≡ room_count = omega arith in
        l.found ∙ rw all (sym (sound_tests ws long))
