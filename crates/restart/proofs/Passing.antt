-- For marks: the pass over a file at a record that is a mark, at the first that is none, and at its end.
use Rattle.std.specs.Prelude.{Option, None, Some}
use mathlib.Core.Path.{◌≡◌, refl, sym, ap, ◌∙◌}
use mathlib.Core.Bool.{Bool, true, false, ◌&&◌}
use mathlib.Core.List.{List, [], ◌∷◌, ◌++◌}
use Prim.Native.Nat.{ℕ, suc, ◌<◌}
use native.Mathlib.Omega.{arith}
use lib.ListN.{length, length-append}
use lib.Seq.{take_at, drop_at}
use lib.Dec.{eqb}
use borrow.Author.Tests.{eqb-false}
use Rattle.laws.specs.Lists.{pieces}
use Rattle.laws.specs.Upd.{ifb}
use Rattle.records.specs.declared.High.{High}
use Rattle.records.specs.declared.refusal.Refusal.{Refusal}
use Rattle.records.specs.Refusals.{number}
use Rattle.records.specs.Layout.{high_mark, high_length, value_of, check_own, decode_high}
use Rattle.records.proofs.CheckLaws.{own_4, long_mark}
use Rattle.events.proofs.ReadLaws.{reason_some}
use Rattle.rules.specs.MarkFile.{whole_count, wholes, may_follow, high_number, is_high, all_high, last_in, last_high}
use Rattle.restart.specs.Marks.{no_marks, high_after, marks_in}

-- a record of a mark's length, as it is read
module _ (p : ℕ) (b : List ℕ) (size : length b ≡ high_length) where
  marked : check_own high_mark high_length b ≡ ifb (eqb (value_of b) (value_of high_mark)) 0 4
  marked = own_4 high_mark high_length b size (omega arith) ∙ rw (long_mark b (omega arith))

  pub after_read : 0 ≡ check_own high_mark high_length b → (x : High) → x ≡ decode_high b → (t : Bool)
      → eqb x.number x.again && may_follow p x.number ≡ t → ifb {A = Option ℕ} t (Some x.number) None ≡ high_after p b
  unfolding high_after is_high
  after_read c x e t h = go (eqb (value_of b) (value_of high_mark)) refl
    where
      go : (u : Bool) → eqb (value_of b) (value_of high_mark) ≡ u
          → ifb {A = Option ℕ} t (Some x.number) None ≡ high_after p b
      go true d =
          let n : high_number b ≡ x.number = ap (λ (y : High). y.number) (sym e) in
          let again : (decode_high b).again ≡ x.again = ap (λ (y : High). y.again) (sym e) in
          rw (d, n, again) (ap (λ (u : Bool). ifb {A = Option ℕ} u (Some x.number) None) (sym h))
      go false d = let z : ◌≡◌ {A = ℕ} 0 4 = c ∙ marked ∙ rw d in absurd (omega arith)

  pub after_refused : (r : Refusal) → number r ≡ check_own high_mark high_length b → None ≡ high_after p b
  unfolding high_after is_high
  after_refused r c = go (eqb (value_of b) (value_of high_mark)) refl
    where
      go : (u : Bool) → eqb (value_of b) (value_of high_mark) ≡ u → None ≡ high_after p b
      go true d = let z : number r ≡ 0 = c ∙ marked ∙ rw d in absurd (eqb-false _ _ (reason_some r) z)
      go false d = rw d

-- a whole record in front
wholes_front : (b rest : List ℕ) → length b ≡ high_length → wholes (b ++ rest) ≡ b ∷ wholes rest
unfolding pieces
wholes_front b rest size =
    let l = length-append b rest in
    let n : whole_count (b ++ rest) ≡ suc (whole_count rest) = omega arith in
    rw (n, take_at b rest high_length size, drop_at b rest high_length size)

wholes_none : (rest : List ℕ) → length rest < high_length → wholes rest ≡ []
unfolding pieces
wholes_none rest l = let n : whole_count rest ≡ 0 = omega arith in rw n

-- the pass where the last mark is p and these bytes are left: they tell what the whole file does
pub record Going (f rest : List ℕ) (p : ℕ) : Type 0 where
  pub all : all_high p (wholes rest) ≡ all_high 0 (wholes f)
  pub end : last_in p (wholes rest) ≡ last_high f

pub going_none : (f : List ℕ) → Going f f 0
unfolding last_high
going_none f = record { all = refl; end = refl }

module _ (f b rest : List ℕ) (p : ℕ) (size : length b ≡ high_length) (g : Going f (b ++ rest) p) where
  pub going_next : (n : ℕ) → Some n ≡ high_after p b → Going f rest n
  unfolding high_after all_high last_in
  going_next n e = go (is_high p b) refl
    where
      go : (t : Bool) → is_high p b ≡ t → Going f rest n
      go true h =
          let is : Some n ≡ Some (high_number b) = rw h at e in
          let same : n ≡ high_number b = cc in
          rw same (record {
            all = rw (wholes_front b rest size, h) at g.all;
            end = rw (wholes_front b rest size) at g.end;
          })
      go false h = let none : Some n ≡ None = rw h at e in absurd cc

  pub pass_bad : None ≡ high_after p b → no_marks ≡ marks_in f
  unfolding high_after marks_in all_high
  pass_bad e = go (is_high p b) refl
    where
      go : (t : Bool) → is_high p b ≡ t → no_marks ≡ marks_in f
      go true h = let some : None ≡ Some (high_number b) = rw h at e in absurd cc
      go false h = rw (← g.all, wholes_front b rest size, h)

pub pass_end : (f rest : List ℕ) (p : ℕ) → length rest < high_length → Going f rest p
    → record { good = true; last = p } ≡ marks_in f
unfolding marks_in all_high last_in
pass_end f rest p l g = let z = wholes_none rest l in rw (← g.all, ← g.end, z)
