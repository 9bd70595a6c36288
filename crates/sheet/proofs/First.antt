-- Sheet: the first record that counts for a seat.
use mathlib.Core.Path.{◌≡◌, refl, sym, ap, ◌∙◌}
use mathlib.Core.Bool.{Bool, true, false, not, ◌&&◌, ◌||◌, or-false, true≢false}
use mathlib.Core.List.{List, [], ◌∷◌, ◌++◌}
use mathlib.Core.Option.{Option, none, some}
use Prim.Native.Nat.{ℕ}
use native.Mathlib.Decide.{ℕ_discrete}
use lib.Dec.{eqb}
use borrow.Author.Tests.{eqb-true, ne_eqb}
use Rattle.laws.specs.Lists.{none, more}
use Rattle.laws.specs.Upd.{ifb}
use Rattle.laws.proofs.Fin.{and_l}
use Rattle.records.specs.declared.View.{View}
use Rattle.records.specs.declared.Sync.{Sync}
use Rattle.sheet.specs.Sheet.{counts, record_for, missing, names}
use Rattle.sheet.specs.Answers.{NoneCounts, FirstFor}

-- the first of two parts that has one
abbrev or_else : Option Sync → Option Sync → Option Sync
or_else none o = o
or_else (some r) o = some r

module _ (v : View) (seat : ℕ) where
  pub for_append : (a b : List Sync) → record_for v seat (a ++ b) ≡ or_else (record_for v seat a) (record_for v seat b)
  unfolding record_for
  for_append [] b = refl
  for_append (r ∷ a) b = go (counts v seat r) (for_append a b)
    where
      go : (t : Bool) → record_for v seat (a ++ b) ≡ or_else (record_for v seat a) (record_for v seat b)
          → ifb t (some r) (record_for v seat (a ++ b))
          ≡ or_else (ifb t (some r) (record_for v seat a)) (record_for v seat b)
      go true e = refl
      go false e = e

  -- one record more: it is the seat's where it counts and none before it does
  pub missing_next : (rs : List Sync) (r : Sync)
      → missing (record_for v seat (rs ++ (r ∷ []))) ≡ missing (record_for v seat rs) && not (counts v seat r)
  unfolding record_for
  missing_next rs r = rw (for_append rs (r ∷ [])) (go (record_for v seat rs) (counts v seat r))
    where
      go : (o : Option Sync) (t : Bool) → missing (or_else o (ifb t (some r) none)) ≡ missing o && not t
      go none true = refl
      go none false = refl
      go (some q) t = refl

  pub names_next : (previous : ℕ) (rs : List Sync) (r : Sync)
      → names previous (record_for v seat (rs ++ (r ∷ [])))
      ≡ names previous (record_for v seat rs)
      || missing (record_for v seat rs) && counts v seat r && eqb r.previous previous
  unfolding record_for
  names_next previous rs r = rw (for_append rs (r ∷ [])) (go (record_for v seat rs) (counts v seat r))
    where
      go : (o : Option Sync) (t : Bool)
          → names previous (or_else o (ifb t (some r) none))
          ≡ names previous o || missing o && t && eqb r.previous previous
      go none true = refl
      go none false = refl
      go (some q) t = sym (or-false (eqb q.previous previous))

  -- no record counts where it is missing
  pub missing_none : (rs : List Sync) → missing (record_for v seat rs) ≡ true → NoneCounts v seat rs
  unfolding record_for
  missing_none [] e = none
  missing_none (r ∷ rs) e = go (counts v seat r) refl e (missing_none rs)
    where
      go : (t : Bool) → counts v seat r ≡ t → missing (ifb t (some r) (record_for v seat rs)) ≡ true
          → (missing (record_for v seat rs) ≡ true → NoneCounts v seat rs) → NoneCounts v seat (r ∷ rs)
      go true d e ih = absurd (true≢false (sym e))
      go false d e ih = more d (ih e)

  -- a record that is not missing is the first that counts
  pub first_found : (rs : List Sync) → missing (record_for v seat rs) ≡ false
      → (f : FirstFor v rs seat) × (record_for v seat rs ≡ some f.it)
  unfolding record_for
  first_found [] e = absurd (true≢false e)
  first_found (r ∷ rs) e = go (counts v seat r) refl e (first_found rs)
    where
      later : counts v seat r ≡ false → FirstFor v rs seat → FirstFor v (r ∷ rs) seat
      later d f = record {
        before = r ∷ f.before;
        it = f.it;
        after = f.after;
        on_sheet = ap (λ (l : List Sync). r ∷ l) f.on_sheet;
        none_before = more d f.none_before;
        it_counts = f.it_counts;
      }

      go : (t : Bool) → counts v seat r ≡ t → missing (ifb t (some r) (record_for v seat rs)) ≡ false
          → (missing (record_for v seat rs) ≡ false → (f : FirstFor v rs seat) × (record_for v seat rs ≡ some f.it))
          → (f : FirstFor v (r ∷ rs) seat) × (ifb t (some r) (record_for v seat rs) ≡ some f.it)
      go true d e ih =
          (record { before = []; it = r; after = rs; on_sheet = refl; none_before = none; it_counts = d }, refl)
      go false d e ih = let w = ih e in (later d w.0, w.1)

-- a record counts for its own seat alone
pub counts_own : (v : View) (seat : ℕ) (r : Sync) → counts v seat r ≡ true → r.seat ≡ seat
unfolding counts
counts_own v seat r e = eqb-true r.seat seat (and_l _ _ e)

pub counts_other : (v : View) (seat : ℕ) (r : Sync) → (r.seat ≡ seat → ⊥) → counts v seat r ≡ false
unfolding counts
counts_other v seat r n = rw (ne_eqb r.seat seat n)

module _ (v : View) (seat : ℕ) where
  -- neighbours of different seats may change places
  pub exchanged : (r q : Sync) (b : List Sync) → (r.seat ≡ q.seat → ⊥)
      → record_for v seat (r ∷ q ∷ b) ≡ record_for v seat (q ∷ r ∷ b)
  unfolding record_for
  exchanged r q b n = go (counts v seat r) (counts v seat q) refl refl
    where
      go : (s t : Bool) → counts v seat r ≡ s → counts v seat q ≡ t
          → ifb s (some r) (ifb t (some q) (record_for v seat b))
          ≡ ifb t (some q) (ifb s (some r) (record_for v seat b))
      go true true d e = absurd (n (counts_own v seat r d ∙ sym (counts_own v seat q e)))
      go true false d e = refl
      go false true d e = refl
      go false false d e = refl

  -- behind a record that counts for its seat, any other record of that seat may stand
  pub decided : (r p q : Sync) (b c : List Sync) → counts v r.seat r ≡ true → p.seat ≡ r.seat → q.seat ≡ r.seat
      → record_for v seat (r ∷ b ++ (p ∷ c)) ≡ record_for v seat (r ∷ b ++ (q ∷ c))
  unfolding record_for
  decided r p q b c d ep eq = go (ℕ_discrete r.seat seat)
    where
      go : Dec (r.seat ≡ seat) → record_for v seat (r ∷ b ++ (p ∷ c)) ≡ record_for v seat (r ∷ b ++ (q ∷ c))
      go (yes e) = let h : counts v seat r ≡ true = sym (ap (λ (s : ℕ). counts v s r) e) ∙ d in rw h
      go (no n) =
          rw (
            counts_other v seat r n,
            for_append v seat b (p ∷ c),
            for_append v seat b (q ∷ c),
            counts_other v seat p (λ e. n (sym ep ∙ e)),
            counts_other v seat q (λ e. n (sym eq ∙ e)),
          )
