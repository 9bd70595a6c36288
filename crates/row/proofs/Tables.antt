-- For table and the crates above: the row of each room in a table of words, written anew or beside that; the states
-- that the rows hold, and check 2 of all rooms.
use mathlib.Core.Path.{◌≡◌, refl, sym, ap, ◌∙◌}
use mathlib.Core.Bool.{true, false}
use mathlib.Core.List.{List, [], ◌∷◌, ◌++◌, flatten}
use Prim.Native.Nat.{ℕ, zero, suc, ◌+◌, ◌-◌, ◌*◌, ◌<◌}
use native.Mathlib.Omega.{arith}
use native.Mathlib.Decide.{ℕ_discrete}
use lib.ListN.{length, take, drop, length-drop, take-append-drop, length-append}
use lib.Dec.{eqb}
use lib.Seq.{length-sets, drop-drop, take_at, drop_at}
use borrow.Rule.Slice.PartMut.{put_mid}
use borrow.Author.Tests.{eq-eqb, ne_eqb, eqb-true}
use Rattle.laws.specs.Fin.{allb}
use Rattle.laws.specs.Tab.{tab}
use Rattle.laws.specs.Upd.{upd}
use Rattle.laws.proofs.Fin.{allb_out, allb_in, and_l, and_r, and_in}
use Rattle.laws.proofs.Upd.{upd_same, upd_other}
use Rattle.laws.proofs.Cuts.{put_part, part_self, part_length, part_written, part_beside}
use Rattle.records.specs.Numbers.{room_count}
use Rattle.rules.specs.Refusals.{well_formed}
use Rattle.rules.specs.Tables.{Table, well_table}
use Rattle.rule_laws.proofs.Tables.{room_well, well_rooms}
use Rattle.rule_laws.proofs.Shapes.{Shaped}
use Rattle.row.specs.Row.{row_length, Row, state_of, words_of, is_row, sound_row}
use Rattle.row.specs.Table.{table_length, row_place, row_at, with_row, table_of, table_words, is_table, sound_table}
use Rattle.row.specs.Table.{SoundTable}
use Rattle.row.proofs.Low.{row_is, is_row_lem, sound_row_lem, sound_well}
use Rattle.row.proofs.Words.{words_row, state_words}

-- the row of a room is as long as a row
pub row_length_lem : (ws : List ℕ) (room : ℕ) → length ws ≡ table_length → room < room_count
    → length (row_at ws room) ≡ row_length
row_length_lem ws room e l = part_length row_length (row_place room) ws (omega arith)

module _ (ws row : List ℕ) (room : ℕ) (long : length ws ≡ table_length) (l : room < room_count)
    (fits : length row ≡ row_length) where
  pub row_written : row_at (with_row ws room row) room ≡ row
  row_written = part_written 0 row_length (row_place room) ws row fits (omega arith)

  pub row_beside : (other : ℕ) → (other ≡ room → ⊥) → row_at (with_row ws room row) other ≡ row_at ws other
  row_beside other n = part_beside 0 row_length (row_place room) (row_place other) ws row (λ x y. n (omega arith))

  -- in the room the state of the new row, in the others what was there
  pub table_with : table_of (with_row ws room row) ≡ upd (table_of ws) room (state_of row)
  table_with = λ t other. at other t
    where
      at : (other : ℕ) → table_of (with_row ws room row) other ≡ upd (table_of ws) room (state_of row) other
      at other = go (ℕ_discrete other room)
        where
          go : Dec (other ≡ room) → table_of (with_row ws room row) other ≡ upd (table_of ws) room (state_of row) other
          go (yes e) = rw (e, row_written, upd_same (table_of ws) room (state_of row))
          go (no n) = rw (row_beside other n, upd_other (table_of ws) room (state_of row) other n)

-- where the row was lent and comes back changed
pub row_put : (ws row : List ℕ) (room : ℕ) → length ws ≡ table_length → room < room_count → length row ≡ row_length
    → put_mid (row_place room) (row_place room + row_length - row_place room) ws row ≡ with_row ws room row
row_put ws row room long l fits = put_part (row_place room) row_length ws row fits (omega arith)

-- a row whose state passes check 2
pub well_row : (row : List ℕ) → Row row → well_formed (state_of row) ≡ true → sound_row row ≡ true
unfolding sound_row
well_row row r w = and_in (is_row row) (well_formed (state_of row)) (is_row_lem row r) w

-- what check 2 of a table says
pub sound_length : (ws : List ℕ) → SoundTable ws → length ws ≡ table_length
unfolding sound_table
sound_length ws e = eqb-true (length ws) table_length (and_l (eqb (length ws) table_length) _ e)

pub sound_rows : (ws : List ℕ) → SoundTable ws → (room : ℕ) → room < room_count → sound_row (row_at ws room) ≡ true
unfolding sound_table
sound_rows ws e = allb_out room_count (λ room. sound_row (row_at ws room)) (and_r (eqb (length ws) table_length) _ e)

pub rows_sound : (ws : List ℕ) → length ws ≡ table_length
    → ((room : ℕ) → room < room_count → sound_row (row_at ws room) ≡ true) → SoundTable ws
unfolding sound_table
rows_sound ws long h = and_in (eqb (length ws) table_length) _ (eq-eqb (length ws) table_length long)
    (allb_in room_count (λ room. sound_row (row_at ws room)) h)

-- a table with a sound row anew is sound
pub with_sound : (ws row : List ℕ) (room : ℕ) → SoundTable ws → room < room_count → sound_row row ≡ true
    → SoundTable (with_row ws room row)
with_sound ws row room e l s =
    let long = sound_length ws e in
    let fits = (sound_row_lem row s).long in
    rows_sound (with_row ws room row) (length-sets ws (row_place room) row ∙ long)
    (λ other k. go other k (ℕ_discrete other room) long fits)
  where
    go : (other : ℕ) → other < room_count → Dec (other ≡ room) → length ws ≡ table_length → length row ≡ row_length
        → sound_row (row_at (with_row ws room row) other) ≡ true
    go other k (yes q) long fits = rw (q, row_written ws row room long l fits) s
    go other k (no n) long fits = rw (row_beside ws row room long l fits other n) (sound_rows ws e other k)

-- a sound table is one, and its states pass check 2
pub sound_is : (ws : List ℕ) → SoundTable ws → is_table ws ≡ true
unfolding is_table
sound_is ws e = and_in (eqb (length ws) table_length) _ (eq-eqb (length ws) table_length (sound_length ws e))
    (allb_in room_count (λ room. is_row (row_at ws room))
    (λ room l. is_row_lem (row_at ws room) (sound_row_lem (row_at ws room) (sound_rows ws e room l))))

-- and the other way round
pub table_is : (ws : List ℕ) → is_table ws ≡ true → (length ws ≡ table_length)
    × ((room : ℕ) → room < room_count → Row (row_at ws room))
unfolding is_table
table_is ws e = (
  eqb-true (length ws) table_length (and_l (eqb (length ws) table_length) _ e),
  λ room l. row_is (row_at ws room)
      (allb_out room_count (λ k. is_row (row_at ws k)) (and_r (eqb (length ws) table_length) _ e) room l),
)

pub well_sound : (ws : List ℕ) → is_table ws ≡ true → well_table (table_of ws) ≡ true → SoundTable ws
well_sound ws e w =
    let t = table_is ws e in
    rows_sound ws t.0 (λ room l. well_row (row_at ws room) (t.1 room l) (room_well (table_of ws) w room l))

pub sound_table_lem : (ws : List ℕ) → SoundTable ws → well_table (table_of ws) ≡ true
sound_table_lem ws e =
    well_rooms (table_of ws) (λ room l. sound_well (row_at ws room) (sound_rows ws e room l))

-- the tests of a table
pub long_not : (ws : List ℕ) → (length ws ≡ table_length → ⊥) → sound_table ws ≡ false
unfolding sound_table
long_not ws n = rw (ne_eqb (length ws) table_length n)

pub sound_tests : (ws : List ℕ) → length ws ≡ table_length
    → sound_table ws ≡ allb room_count (λ room. sound_row (row_at ws room))
unfolding sound_table
sound_tests ws e = rw (eq-eqb (length ws) table_length e)

-- the rows, in order, are the table
rows_all : (n k : ℕ) (l : List ℕ) (f : ℕ → List ℕ) → length l ≡ n * k
    → ((j : ℕ) → j < k → take n (drop (n * j) l) ≡ f j) → l ≡ flatten (tab k f)
unfolding tab flatten
rows_all n zero [] f e h = refl
rows_all n zero (x ∷ l) f e h = absurd (omega arith)
rows_all n (suc k) l f e h =
    let d = length-drop n l in
    let m : n * suc k ≡ n + n * k = omega arith in
    let z : n * 0 ≡ 0 = omega arith in
    let first : take n l ≡ f 0 = rw z at (h 0 (omega arith)) in
    let rest : drop n l ≡ flatten (tab k (λ j. f (suc j))) =
    rows_all n k (drop n l) (λ j. f (suc j)) (omega arith)
    (λ j lt.
    let q : n + n * j ≡ n * suc j = omega arith in
    ap (take n) (drop-drop (n * j) n l ∙ ap (λ (i : ℕ). drop i l) q) ∙ h (suc j) (omega arith))
    in
    sym (take-append-drop n l) ∙ rw (first, rest)

pub rows_words : (ws : List ℕ) (t : Table) → length ws ≡ table_length
    → ((room : ℕ) → room < room_count → row_at ws room ≡ words_of (t room)) → ws ≡ table_words t
unfolding table_words
rows_words ws t e h = rows_all row_length room_count ws (λ room. words_of (t room)) (omega arith) h

-- a loop that writes every row: one row more
pub rows_next : (ws row : List ℕ) (room : ℕ) (f : ℕ → List ℕ) → length ws ≡ table_length → room < room_count
    → length row ≡ row_length → row ≡ f room → ((k : ℕ) → k < room → row_at ws k ≡ f k)
    → (k : ℕ) → k < room + 1 → row_at (with_row ws room row) k ≡ f k
rows_next ws row room f long l fits e h k lt = go (ℕ_discrete k room)
  where
    go : Dec (k ≡ room) → row_at (with_row ws room row) k ≡ f k
    go (yes q) = rw q (row_written ws row room long l fits ∙ e)
    go (no n) = row_beside ws row room long l fits k n ∙ h k (omega arith)

-- and a table of states has each room's words in its row
flat_length : (n k : ℕ) (f : ℕ → List ℕ) → ((j : ℕ) → j < k → length (f j) ≡ n) → length (flatten (tab k f)) ≡ n * k
unfolding tab flatten
flat_length n zero f h = omega arith
flat_length n (suc k) f h =
    let a = length-append (f 0) (flatten (tab k (λ j. f (suc j)))) in
    let b = h 0 (omega arith) in
    let c = flat_length n k (λ j. f (suc j)) (λ j l. h (suc j) (omega arith)) in
    omega arith

flat_at : (n k : ℕ) (f : ℕ → List ℕ) → ((j : ℕ) → j < k → length (f j) ≡ n) → (j : ℕ) → j < k
    → take n (drop (n * j) (flatten (tab k f))) ≡ f j
unfolding tab flatten
flat_at n zero f h j l = absurd (omega arith)
flat_at n (suc k) f h zero l =
    let z : n * 0 ≡ 0 = omega arith in
    rw z (take_at (f 0) _ n (h 0 (omega arith)))
flat_at n (suc k) f h (suc j) l =
    let q : n * suc j ≡ n + n * j = omega arith in
    rw (
      q,
      ← drop-drop (n * j) n (f 0 ++ flatten (tab k (λ i. f (suc i)))),
      drop_at (f 0) (flatten (tab k (λ i. f (suc i)))) n
          (h 0 (omega arith)),
    )
    (flat_at n k (λ i. f (suc i)) (λ i m. h (suc i) (omega arith)) j (omega arith))

module _ (t : Table) (shaped : (room : ℕ) → room < room_count → Shaped (t room)) where
  long_rows : (room : ℕ) → room < room_count → length (words_of (t room)) ≡ row_length
  long_rows room l = (words_row (t room) (shaped room l)).long

  pub table_length_lem : length (table_words t) ≡ table_length
  unfolding table_words
  table_length_lem = flat_length row_length room_count (λ room. words_of (t room)) long_rows ∙ omega arith

  pub table_row : (room : ℕ) → room < room_count → row_at (table_words t) room ≡ words_of (t room)
  unfolding table_words
  table_row room l = flat_at row_length room_count (λ room. words_of (t room)) long_rows room l

  -- so a table of states comes back from its words
  pub table_back : (room : ℕ) → room < room_count → table_of (table_words t) room ≡ t room
  table_back room l = ap state_of (table_row room l) ∙ state_words (t room) (shaped room l)

  pub table_sound : well_table t ≡ true → SoundTable (table_words t)
  table_sound w = rows_sound (table_words t) table_length_lem (λ room l.
      rw (table_row room l) (well_row (words_of (t room)) (words_row (t room) (shaped room l))
      (rw (state_words (t room) (shaped room l)) (room_well t w room l))))

-- a row written where it stands
pub row_self : (ws : List ℕ) (room : ℕ) → length ws ≡ table_length → room < room_count
    → with_row ws room (row_at ws room) ≡ ws
row_self ws room long l = part_self row_length (row_place room) ws (omega arith)
