-- For restarts: the number for a file, by whether it is good.
use Rattle.std.specs.Prelude.{None, Some}
use mathlib.Core.Path.{◌≡◌, refl, ap, ◌∙◌}
use mathlib.Core.Bool.{Bool, true, false}
use mathlib.Core.List.{List}
use Prim.Native.Nat.{ℕ}
use Rattle.laws.specs.Upd.{ifb}
use Rattle.rules.specs.MarkFile.{good_file, last_high}
use Rattle.restart.specs.Marks.{Marks, marks_as, marks_of}
use Rattle.calls.specs.Number.{call_number}
use Rattle.calls.specs.RestartCalls.{last_mark_call}

-- the number for marks
number_for : Marks → ℕ
number_for m = ifb m.good (call_number m.last 0) (call_number 0 18)

last_call : (f : List ℕ) → number_for (marks_of f) ≡ last_mark_call f
unfolding marks_of last_mark_call number_for
last_call f = go (good_file f)
  where
    go : (t : Bool) → number_for (ifb t (record { good = true; last = last_high f }) (record { good = false; last = 0 }))
        ≡ ifb t (call_number (last_high f) 0) (call_number 0 18)
    go true = refl
    go false = refl

module _ (f : List ℕ) (n : ℕ) where
  pub last_mark_0 : (last : ℕ) → marks_as (Some last) ≡ marks_of f → n ≡ call_number last 0 → n ≡ last_mark_call f
  unfolding number_for
  last_mark_0 last e d = d ∙ ap number_for e ∙ last_call f

  pub last_mark_18 : marks_as None ≡ marks_of f → n ≡ call_number 0 18 → n ≡ last_mark_call f
  unfolding number_for
  last_mark_18 e d = d ∙ ap number_for e ∙ last_call f

pub ruleset last_laws = (last_mark_18)
