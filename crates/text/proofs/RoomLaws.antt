-- For the module lines: which records are of a room; the text looks at the eight rooms of a table, and at nothing else
-- that a table may hold.
use mathlib.Core.Path.{◌≡◌, refl, sym, ap, ◌∙◌}
use mathlib.Core.Bool.{Bool, true, false}
use mathlib.Core.List.{List, [], ◌∷◌}
use Prim.Native.Nat.{ℕ, zero, suc, ◌+◌, ◌<◌}
use native.Mathlib.Omega.{arith}
use native.Mathlib.Decide.{ℕ_discrete, dec_lt}
use lib.ListN.{length}
use lib.Dec.{eqb}
use borrow.Author.Tests.{ne_eqb}
use Rattle.laws.specs.Lists.{Every, none, more}
use Rattle.laws.specs.Upd.{ifb, upd}
use Rattle.laws.proofs.Fin.{if_cases, allb_ext, true_false}
use Rattle.laws.proofs.Upd.{upd_agree}
use Rattle.records.specs.Numbers.{room_count}
use Rattle.records.specs.Layout.{room_of, form_of, check_for, check_of}
use Rattle.rules.specs.Refusals.{full_room, well_formed, Result, step_of}
use Rattle.rules.specs.Tables.{Table, well_table, TableResult, refused_table, step_table}
use Rattle.rule_laws.proofs.TableSteps.{step_in_room, step_table_20, step_table_well}
use Rattle.text.specs.Lines.{front_of, behind_of, answer_for, roomless, view_for, line_for, lines_in, lines_of}
use Rattle.text.proofs.LineLaws.{step_ends}

-- 4 and 5 are of no room
unread_roomless : (b : List ℕ) → (check_of b ≡ 0 → ⊥) → roomless (check_of b) ≡ true
unfolding roomless check_of check_for
unread_roomless b =
    if_cases Known (eqb (form_of b).length 0) 4 _ (λ e n. refl)
    (λ e. if_cases Known (eqb (length b) (form_of b).length) 0 5 (λ f n. absurd (n refl)) (λ f n. refl))
  where
    Known : ℕ → Type 0
    Known n = (n ≡ 0 → ⊥) → roomless n ≡ true

-- the view number of the record's room is printed, and 0 at 4, 5 and 20
pub view_printed : (room : ℕ) (q : TableResult) → (q.refusal ≡ 4 → ⊥) → (q.refusal ≡ 5 → ⊥)
    → (q.refusal ≡ 20 → ⊥) → view_for room q ≡ (q.table room).view.number
unfolding view_for roomless
view_printed room q a b c = rw (ne_eqb q.refusal 4 a, ne_eqb q.refusal 5 b, ne_eqb q.refusal 20 c)

pub none_printed : (room : ℕ) (q : TableResult)
    → Every (λ n. q.refusal ≡ n → view_for room q ≡ 0) (4 ∷ 5 ∷ 20 ∷ [])
unfolding view_for roomless
none_printed room q = more (at 4 refl) (more (at 5 refl) (more (at 20 refl) none))
  where
    at : (n : ℕ) → roomless n ≡ true → q.refusal ≡ n → view_for room q ≡ 0
    at n r e = ap (λ (m : ℕ). ifb (roomless m) 0 (q.table room).view.number) e ∙ rw r

-- a record that names none of the rooms: it is refused for every table, with the same number
record Outside (office : ℕ) (b : List ℕ) : Type 0 where
  number : ℕ
  none : roomless number ≡ true
  is : (t : Table) → step_table office t b full_room ≡ refused_table number t

outside : (office : ℕ) (b : List ℕ) → office < 16 → (room_of b < room_count → ⊥) → Outside office b
unfolding roomless
outside office b known l = go (ℕ_discrete (check_of b) 0)
  where
    go : Dec (check_of b ≡ 0) → Outside office b
    go (yes c) = record {
      number = 20;
      none = refl;
      is = λ t. step_table_20 office t b full_room known c (omega arith);
    }
    go (no c) = record { number = check_of b; none = unread_roomless b c; is = λ t. step_ends office t b known c }

-- so a record that is answered with another number names one
pub room_named : (office : ℕ) (t : Table) (b : List ℕ) → office < 16
    → roomless (step_table office t b full_room).refusal ≡ false → room_of b < room_count
room_named office t b known k = go (dec_lt (room_of b) room_count)
  where
    go : Dec (room_of b < room_count) → room_of b < room_count
    go (yes l) = l
    go (no l) = let o = outside office b known l in absurd (true_false _ (rw (o.is t) o.none) k)

-- two tables that agree in every room
abbrev pub Alike : Table → Table → Type 0
Alike t u = (room : ℕ) → room < room_count → t room ≡ u room

-- what their answers have in common: all but what the tables may hold beside the rooms
record SameAnswer (room : ℕ) (q r : TableResult) : Type 0 where
  refusal : q.refusal ≡ r.refusal
  written : q.written ≡ r.written
  view : view_for room q ≡ view_for room r
  alike : Alike q.table r.table

same_answer : (office : ℕ) (t u : Table) → office < 16 → Alike t u → well_table t ≡ true → (b : List ℕ)
    → SameAnswer (room_of b) (step_table office t b full_room) (step_table office u b full_room)
unfolding view_for well_table
same_answer office t u known h w b = go (dec_lt (room_of b) room_count)
  where
    v : well_table u ≡ true
    v = allb_ext room_count _ _ (λ room l. ap well_formed (sym (h room l))) ∙ w

    q : Result
    q = step_of office (u (room_of b)) b full_room

    go : Dec (room_of b < room_count)
        → SameAnswer (room_of b) (step_table office t b full_room) (step_table office u b full_room)
    go (yes l) =
        let a : Alike (upd t (room_of b) q.state) (upd u (room_of b) q.state) =
        λ room m. upd_agree t u (room_of b) q.state room (h room m) in
        rw (step_in_room office t b full_room w l, step_in_room office u b full_room v l, h (room_of b) l)
        (record { refusal = refl; written = refl; view = rw (a (room_of b) l); alike = a })
    go (no l) =
        let o = outside office b known l in
        rw (o.is t, o.is u) (record { refusal = refl; written = refl; view = rw o.none; alike = h })

module _ (traced : Bool) (office : ℕ) (known : office < 16) where
  same_lines : (k : ℕ) (t u : Table) (n : ℕ) (b : List ℕ) → Alike t u → well_table t ≡ true
      → lines_in k traced office t n b ≡ lines_in k traced office u n b
  unfolding lines_in line_for
  same_lines zero t u n b h w = refl
  same_lines (suc k) t u n b h w =
      let a = same_answer office t u known h w (front_of b) in
      rw (
        a.view,
        a.refusal,
        a.written,
        same_lines k (answer_for office t b).table (answer_for office u b).table (n + 1) (behind_of b) a.alike
            (step_table_well office t (front_of b) full_room w),
      )

  -- tables that agree in every room, and pass check 2, have the same text
  pub lines_same : (t u : Table) (n : ℕ) (b : List ℕ) → Alike t u → well_table t ≡ true
      → lines_of traced office t n b ≡ lines_of traced office u n b
  unfolding lines_of
  lines_same t u n b h w = same_lines (length b) t u n b h w
