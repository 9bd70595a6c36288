-- For restarting: the table at each exit; for the crates above, what the words hold then.
use mathlib.Core.Path.{◌≡◌, refl, sym, ap, ◌∙◌}
use mathlib.Core.Bool.{Bool, true, false, not}
use mathlib.Core.List.{List, [], ◌∷◌, ◌++◌}
use Prim.Native.Nat.{ℕ, ◌≤◌, ◌<◌}
use native.Mathlib.Omega.{arith}
use native.Mathlib.Decide.{dec_lt}
use lib.ListN.{length}
use lib.Dec.{eqb, ltb}
use borrow.Author.Tests.{ne_eqb, eq-eqb, eqb-true, lt-ltb, le-ltb, ltb-false, lt-leb, le-leb, not-false}
use Rattle.laws.specs.Checks.{first_of}
use Rattle.laws.specs.Lists.{pieces}
use Rattle.laws.specs.Upd.{ifb}
use Rattle.laws.proofs.Checks.{first_none}
use Rattle.laws.proofs.Fin.{if_cases}
use Rattle.records.specs.Numbers.{room_count}
use Rattle.rules.specs.MarkFile.{all_high, last_in, last_high, good_file}
use Rattle.rules.specs.State.{State}
use Rattle.rules.specs.Rules.{fresh, restarted}
use Rattle.rules.specs.Refusals.{well_formed, made_of, restart_checks, restart_of}
use Rattle.rules.specs.Tables.{fresh_table, restarted_table, made_table, restart_table}
use Rattle.rule_laws.proofs.Parts.{fresh_restarted}
use Rattle.rule_laws.proofs.Shapes.{Shaped}
use Rattle.rule_laws.proofs.Steps.{fresh_well, restarted_well}
use Rattle.rule_laws.proofs.Tables.{well_rooms}
use Rattle.row.specs.Table.{table_length, row_at, table_words, SoundTable}
use Rattle.row.proofs.Words.{restarted_shaped}
use Rattle.row.proofs.Holds.{Holds, shaped_holds}
use Rattle.row.proofs.Tables.{table_row, table_sound}
use Rattle.step.specs.Fresh.{fresh_words}
use Rattle.restart.specs.Marks.{Marks, marks_of}
use Rattle.restart.specs.Restart.{restart_words}
use Rattle.restart.proofs.Answers.{good_is, last_is, good_last}

module _ (office : ℕ) (f : List ℕ) where
  abbrev number : ℕ
  number = (restart_of office f).refusal

  number_is : number ≡ first_of (restart_checks office (marks_of f).good)
  unfolding restart_of
  number_is = rw (good_is f)

  -- 2 where neither 1 nor 18 applies
  other_number : first_of (restart_checks office (good_file f) ++ (record { number = 2; applies = true } ∷ []))
      ≡ ifb (eqb number 0) 2 number
  unfolding restart_of restart_checks
  other_number = go (ltb 15 office) (not (good_file f))
    where
      go : (a b : Bool) → let n : ℕ = ifb a 1 (ifb b 18 0) in ifb a 1 (ifb b 18 2) ≡ ifb (eqb n 0) 2 n
      go true b = refl
      go false true = refl
      go false false = refl

  good_file_lem : number ≡ 0 → good_file f ≡ true
  unfolding restart_of restart_checks
  good_file_lem z =
      let x = (first_none (ltb 15 office) 0 (ifb (not (good_file f)) 18 0)).0 z in
      not-false (good_file f) ((first_none (not (good_file f)) 17 0).0 x.1).0

  module _ (ws : List ℕ) (m : Marks) (e : m ≡ marks_of f) (n : ℕ)
      (d : n ≡ first_of (restart_checks office m.good)) where
    is : n ≡ number
    is = d ∙ ap (λ (x : Marks). first_of (restart_checks office x.good)) e ∙ sym number_is

    module _ (other : length ws ≡ table_length → ⊥) where
      pub restart_refused_other : (n ≡ 0 → ⊥) → record { refusal = n; words = ws } ≡ restart_words office f ws
      unfolding restart_words
      restart_refused_other h = rw (ne_eqb (length ws) table_length other, other_number, ← is, ne_eqb n 0 h)

      pub restart_2 : n ≡ 0 → record { refusal = 2; words = ws } ≡ restart_words office f ws
      unfolding restart_words
      restart_2 z = rw (ne_eqb (length ws) table_length other, other_number, ← is, eq-eqb n 0 z)

    module _ (long : length ws ≡ table_length) (ws' : List ℕ) where
      pub restart_refuses : (n ≡ 0 → ⊥) → ws' ≡ table_words (restarted_table 0 0)
          → record { refusal = n; words = ws' } ≡ restart_words office f ws
      unfolding restart_words restart_table restart_of table_words
      restart_refuses h w = rw (w, eq-eqb (length ws) table_length long, ← is, ne_eqb n 0 h, fresh_restarted 0)

      pub restart_0 : n ≡ 0 → ws' ≡ table_words (restarted_table office m.last)
          → record { refusal = 0; words = ws' } ≡ restart_words office f ws
      unfolding restart_words restart_table restart_of table_words
      restart_0 z w =
          let i = is in
          let y : number ≡ 0 = omega arith in
          rw (w, e, last_is f (good_file_lem y), eq-eqb (length ws) table_length long, y)

  -- what is made again has the shape of a state, and passes check 2
  restart_shaped : Shaped (restart_of office f).state
  unfolding restart_of
  restart_shaped =
      if_cases Shaped (eqb number 0) (restarted office (last_high f)) (fresh 0)
      (λ q. restarted_shaped office (last_high f)) (λ q. rw (fresh_restarted 0) (restarted_shaped 0 0))

  restart_passes : well_formed (restart_of office f).state ≡ true
  unfolding restart_of restart_checks
  restart_passes =
      if_cases (λ (s : State). well_formed s ≡ true) (eqb number 0) (restarted office (last_high f)) (fresh 0)
      (λ q.
      let z = eqb-true number 0 q in
      let o = ltb-false 15 office ((first_none (ltb 15 office) 0 (ifb (not (good_file f)) 18 0)).0 z).0 in
      restarted_well office (last_high f) (omega arith) (good_last f (good_file_lem z)))
      (λ q. fresh_well 0 (omega arith))

  module _ (ws : List ℕ) where
    -- in words of a table's length the refusal is that of making a table again, and the words are that table's
    pub restart_refusal : length ws ≡ table_length
        → (restart_words office f ws).refusal ≡ (restart_table office f).refusal
    unfolding restart_words
    restart_refusal long = rw (eq-eqb (length ws) table_length long)

    pub restart_words_lem : length ws ≡ table_length
        → (restart_words office f ws).words ≡ table_words (restart_table office f).table
    unfolding restart_words
    restart_words_lem long = rw (eq-eqb (length ws) table_length long)

    -- every room holds the same state
    pub restart_holds : length ws ≡ table_length → (room : ℕ) → room < room_count
        → Holds (row_at (restart_words office f ws).words room) (restart_of office f).state
    unfolding restart_table
    restart_holds long room l =
        rw (restart_words_lem long, table_row (restart_table office f).table (λ k b. restart_shaped) room l)
        (shaped_holds (restart_of office f).state restart_shaped)

    -- and the table passes check 2
    pub restart_sound : length ws ≡ table_length → SoundTable (restart_words office f ws).words
    unfolding restart_table
    restart_sound long =
        rw (restart_words_lem long)
        (table_sound (restart_table office f).table (λ k b. restart_shaped) (well_rooms _ (λ k b. restart_passes)))

    -- 1 and 18 give the fresh table of office 0
    pub restart_refused : ((restart_words office f ws).refusal ≡ 0 → ⊥) → length ws ≡ table_length
        → (restart_words office f ws).words ≡ table_words (fresh_table 0)
    unfolding restart_table restart_of table_words
    restart_refused h long = restart_words_lem long ∙ rw (ne_eqb number 0 (λ z. h (restart_refusal long ∙ z)))

    -- words of another length stay
    pub restart_other : (length ws ≡ table_length → ⊥) → (restart_words office f ws).words ≡ ws
    unfolding restart_words
    restart_other h = rw (ne_eqb (length ws) table_length h)

-- an empty file starts fresh
pub restart_empty : (office : ℕ) (ws : List ℕ) → restart_words office [] ws ≡ fresh_words office ws
unfolding restart_words restart_table fresh_words made_table restart_of restart_checks made_of good_file last_high
    all_high last_in pieces table_words
restart_empty office ws = go (dec_lt 15 office)
  where
    go : Dec (15 < office) → restart_words office [] ws ≡ fresh_words office ws
    go (yes l) = rw (lt-ltb 15 office l, lt-leb office 15 l)
    go (no l) =
        let h : office ≤ 15 = omega arith in
        rw (le-ltb 15 office h, le-leb office 15 h, fresh_restarted office)
