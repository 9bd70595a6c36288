-- For making: the fresh table at each exit, and what the words hold then.
use Rattle.std.specs.Prelude.{Result, Ok, Err, is_ok}
use mathlib.Core.Path.{◌≡◌, refl, ap, ◌∙◌}
use mathlib.Core.Bool.{true, false}
use mathlib.Core.List.{List}
use Prim.Native.Nat.{ℕ, ◌≤◌, ◌<◌}
use native.Mathlib.Omega.{arith}
use native.Mathlib.Decide.{dec_lt}
use lib.ListN.{length}
use borrow.Author.Tests.{ne_eqb, eqb-false, eq-eqb, le-leb, lt-leb}
use Rattle.laws.proofs.Fin.{true_false}
use Rattle.records.specs.declared.refusal.Refusal.{Refusal}
use Rattle.records.specs.Refusals.{refusal_of}
use Rattle.records.specs.Numbers.{room_count}
use Rattle.rules.specs.Refusals.{Made, made_of}
use Rattle.rules.specs.Tables.{restarted_table, made_table}
use Rattle.rule_laws.proofs.Exits.{made_0, made_1, made_passes}
use Rattle.rule_laws.proofs.Parts.{fresh_restarted}
use Rattle.rule_laws.proofs.Shapes.{Shaped}
use Rattle.rule_laws.proofs.Tables.{well_rooms}
use Rattle.events.proofs.ReadLaws.{reason_some}
use Rattle.row.specs.Table.{table_length, table_words, table_of, SoundTable}
use Rattle.row.proofs.Words.{restarted_shaped}
use Rattle.row.proofs.Tables.{table_back, table_sound}
use Rattle.step.specs.Fresh.{fresh_words}

module _ (office : ℕ) (ws : List ℕ) (n : ℕ) (e : n ≡ (made_of office).refusal) where
  above : (n ≡ 0 → ⊥) → 15 < office
  above h = go (dec_lt 15 office)
    where
      go : Dec (15 < office) → 15 < office
      go (yes l) = l
      go (no l) = absurd (h (e ∙ ap (λ (m : Made). m.refusal) (made_0 office (omega arith))))

  most : n ≡ 0 → office ≤ 15
  most z = go (dec_lt 15 office)
    where
      go : Dec (15 < office) → office ≤ 15
      go (yes l) = let m : n ≡ 1 = e ∙ ap (λ (m : Made). m.refusal) (made_1 office l) in absurd (omega arith)
      go (no l) = omega arith

  is_1 : (n ≡ 0 → ⊥) → n ≡ 1
  is_1 h = e ∙ ap (λ (m : Made). m.refusal) (made_1 office (above h))

  module _ (other : length ws ≡ table_length → ⊥) where
    pub fresh_1_other : (n ≡ 0 → ⊥) → record { refusal = n; words = ws } ≡ fresh_words office ws
    unfolding fresh_words
    fresh_1_other h = rw (is_1 h, ne_eqb (length ws) table_length other, lt-leb office 15 (above h))

    pub fresh_2 : n ≡ 0 → record { refusal = 2; words = ws } ≡ fresh_words office ws
    unfolding fresh_words
    fresh_2 z = rw (ne_eqb (length ws) table_length other, le-leb office 15 (most z))

  module _ (long : length ws ≡ table_length) where
    pub fresh_1 : (n ≡ 0 → ⊥) → (ws' : List ℕ) → ws' ≡ table_words (restarted_table 0 0)
        → record { refusal = n; words = ws' } ≡ fresh_words office ws
    unfolding fresh_words made_table table_words
    fresh_1 h ws' d =
        rw (is_1 h, d, eq-eqb (length ws) table_length long, made_1 office (above h), fresh_restarted 0)

    pub fresh_0 : n ≡ 0 → (ws' : List ℕ) → ws' ≡ table_words (restarted_table office 0)
        → record { refusal = n; words = ws' } ≡ fresh_words office ws
    unfolding fresh_words made_table table_words
    fresh_0 z ws' d =
        rw (z, d, eq-eqb (length ws) table_length long, made_0 office (most z), fresh_restarted office)

-- whether a check passed, by its number
pub ok_zero : (m : Result Unit Refusal) → is_ok m ≡ true → refusal_of m ≡ 0
ok_zero (Ok u) t = refl
ok_zero (Err r) t = absurd (true_false _ t refl)

pub refused_some : (m : Result Unit Refusal) → is_ok m ≡ false → refusal_of m ≡ 0 → ⊥
refused_some (Ok u) f z = true_false _ refl f
refused_some (Err r) f z = eqb-false _ _ (reason_some r) z

made_shaped : (office : ℕ) → Shaped (made_of office).state
made_shaped office = go (dec_lt 15 office)
  where
    go : Dec (15 < office) → Shaped (made_of office).state
    go (yes l) = rw (made_1 office l) (rw (fresh_restarted 0) (restarted_shaped 0 0))
    go (no l) = rw (made_0 office (omega arith)) (rw (fresh_restarted office) (restarted_shaped office 0))

-- in words of a table's length
module _ (office : ℕ) (ws : List ℕ) (long : length ws ≡ table_length) where
  -- the refusal is that of making a table
  pub fresh_refusal : (fresh_words office ws).refusal ≡ (made_of office).refusal
  unfolding fresh_words made_table
  fresh_refusal = rw (eq-eqb (length ws) table_length long)

  -- every room holds the state that was made, and check 2 passes
  pub fresh_holds : (room : ℕ) → room < room_count
      → table_of (fresh_words office ws).words room ≡ (made_of office).state
  unfolding fresh_words made_table
  fresh_holds room l =
      rw (eq-eqb (length ws) table_length long)
      (table_back (λ room. (made_of office).state) (λ room l. made_shaped office) room l)

  pub fresh_sound : SoundTable (fresh_words office ws).words
  unfolding fresh_words made_table
  fresh_sound =
      rw (eq-eqb (length ws) table_length long)
      (table_sound (λ room. (made_of office).state) (λ room l. made_shaped office)
      (well_rooms (λ room. (made_of office).state) (λ room l. made_passes office)))
