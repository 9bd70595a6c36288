-- For make_table in the root: the words after a table is made.
use mathlib.Core.Path.{◌≡◌, refl, sym, ap, ◌∙◌, subst}
use mathlib.Core.Bool.{Bool, true, false}
use mathlib.Core.List.{List}
use Prim.Native.Nat.{ℕ, ◌<◌}
use native.Mathlib.Omega.{arith}
use native.Mathlib.Decide.{ℕ_discrete}
use lib.ListN.{length}
use lib.Dec.{eqb}
use borrow.Author.Tests.{eqb-true, ne_eqb}
use Rattle.laws.specs.Upd.{ifb}
use Rattle.records.specs.declared.refusal.Refusal.{Refusal}
use Rattle.records.specs.Refusals.{number}
use Rattle.std.specs.Prelude.{Err}
use Rattle.rules.specs.State.{State}
use Rattle.rules.specs.Refusals.{Made, made_of}
use Rattle.rule_laws.proofs.Exits.{made_0}
use Rattle.rule_laws.proofs.Parts.{fresh_reads}
use Rattle.row.specs.Table.{table_length, table_of, SoundTable}
use Rattle.row.proofs.Tables.{sound_table_lem}
use Rattle.step.specs.Fresh.{MadeWords, fresh_words}
use Rattle.step.proofs.FreshTables.{refused_some, fresh_refusal, fresh_holds, fresh_sound}
use Rattle.text.specs.Lines.{lines_of, no_office}
use Rattle.text.proofs.LineLaws.{text_made, made_known}
use Rattle.text.proofs.RoomLaws.{Alike, lines_same}
use Rattle.feed.specs.Made.{TableMade}

-- the state that is made is of the office
made_own : (office : ℕ) → office < 16 → (made_of office).state.own ≡ office
made_own office known =
    ap (λ (m : Made). m.state.own) (made_0 office (omega arith)) ∙ (fresh_reads office).own_is

-- the words of a table that is made hold its states
pub made : (office : ℕ) {n : ℕ} (ws : List ℕ) {ws' : List ℕ} → length ws ≡ table_length
    → ◌≡◌ {A = MadeWords} (record { refusal = n; words = ws' }) (fresh_words office ws)
    → TableMade office (eqb n 0) ws'
made office {n} ws {ws'} l e = record {
  known = known;
  sound = λ t. sound;
  own = λ t room r. ap (λ (s : State). s.own) (holds room r) ∙ made_own office (known t);
  text = λ traced f. text_made traced office f ∙ rw refusal (text traced f (ℕ_discrete (made_of office).refusal 0));
}
  where
    words : ws' ≡ (fresh_words office ws).words
    words = ap (λ (m : MadeWords). m.words) e

    refusal : n ≡ (made_of office).refusal
    refusal = ap (λ (m : MadeWords). m.refusal) e ∙ fresh_refusal office ws l

    known : eqb n 0 ≡ true → office < 16
    known t = made_known office (sym refusal ∙ eqb-true n 0 t)

    sound : SoundTable ws'
    sound = rw words (fresh_sound office ws l)

    holds : Alike (table_of ws') (λ room. (made_of office).state)
    holds = rw words (fresh_holds office ws l)

    text : (traced : Bool) (f : List ℕ) → Dec ((made_of office).refusal ≡ 0)
        → ifb (eqb (made_of office).refusal 0) (lines_of traced office (λ room. (made_of office).state) 0 f) no_office
        ≡ ifb (eqb (made_of office).refusal 0) (lines_of traced office (table_of ws') 0 f) no_office
    text traced f (yes z) =
        rw (lines_same traced office (made_known office z) (table_of ws') (λ room. (made_of office).state) 0 f holds
        (sound_table_lem ws' sound))
    text traced f (no d) = rw (ne_eqb (made_of office).refusal 0 d)

-- where it is refused, none is made
pub unmade : (office : ℕ) (ws : List ℕ) (r : Refusal) {ws' : List ℕ} → length ws ≡ table_length
    → ◌≡◌ {A = MadeWords} (record { refusal = number r; words = ws' }) (fresh_words office ws)
    → TableMade office false ws'
unmade office ws r {ws'} l e =
    subst (λ (t : Bool). TableMade office t ws') (ne_eqb (number r) 0 (refused_some (Err r) refl)) (made office ws l e)
