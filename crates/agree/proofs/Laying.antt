-- For new_view: the start numbers laid out one office after another, and their largest as a running value.
use mathlib.Core.Path.{◌≡◌, refl, sym, ◌∙◌}
use Prim.Native.Nat.{ℕ, ◌+◌, ◌≤◌, ◌<◌, max}
use native.Mathlib.Omega.{arith}
use native.Mathlib.Decide.{dec_lt}
use lib.Dec.{ltb}
use lib.ListN.{get_or, set}
use borrow.Author.Tests.{lt-ltb, le-ltb}
use Rattle.laws.specs.Fin.{largest}
use Rattle.laws.proofs.Fin.{largest_ext}
use Rattle.laws.proofs.Loops.{largest_one}
use Rattle.laws.specs.Tab.{tab}
use Rattle.laws.proofs.Tab.{get_or_tab, tab_ext, set_tab}
use Rattle.laws.specs.Upd.{ifb}
use Rattle.rules.specs.State.{State, zeros}
use Rattle.rules.specs.Rules.{start_of, view_of}
use Rattle.agree.specs.Starts.{lay_of, laid_of}

module _ (s : State) where
  -- before the first office: sixteen zeros, and 0
  pub laid_none : laid_of 0 s ≡ record { starts = zeros; largest = 0 }
  unfolding laid_of largest
  laid_none = rw (tab_ext 16 (λ o. ifb (ltb o 0) (start_of s o) 0) (λ o. 0) (λ o l. rw (le-ltb o 0 (omega arith))))

  -- an office that is copied has its number, and one that is not has 0
  pub laid_at : (n o : ℕ) → o < 16 → get_or (laid_of n s).starts o 0 ≡ ifb (ltb o n) (start_of s o) 0
  unfolding laid_of
  laid_at n o l = get_or_tab 16 (λ k. ifb (ltb k n) (start_of s k) 0) o 0 l

  -- at each office the largest is that of the numbers copied so far
  pub largest_so_far : (n : ℕ) → (laid_of n s).largest ≡ largest n (λ o. get_or (laid_of n s).starts o 0)
  unfolding laid_of
  largest_so_far n = refl

  -- and these are the start numbers of the first offices
  pub laid_largest : (n : ℕ) → n ≤ 16 → (laid_of n s).largest ≡ largest n (start_of s)
  laid_largest n h =
      largest_so_far n ∙ largest_ext n (λ o. get_or (laid_of n s).starts o 0) (start_of s)
      (λ o l. laid_at n o (omega arith) ∙ rw (lt-ltb o n l))

  -- one office more
  laid_set : (n : ℕ) → n < 16 → set (laid_of n s).starts n (start_of s n) ≡ (laid_of (n + 1) s).starts
  unfolding laid_of
  laid_set n h =
      rw (lt-ltb n (n + 1) (omega arith)) at
      (set_tab 16 (λ o. ifb (ltb o n) (start_of s o) 0) (λ o. ifb (ltb o (n + 1)) (start_of s o) 0) n h
      (λ o q. rw (other o q (dec_lt o n))))
    where
      other : (o : ℕ) → (o ≡ n → ⊥) → Dec (o < n) → ltb o n ≡ ltb o (n + 1)
      other o q (yes l) = lt-ltb o n l ∙ sym (lt-ltb o (n + 1) (omega arith))
      other o q (no l) = le-ltb o n (omega arith) ∙ sym (le-ltb o (n + 1) (omega arith))

  laid_larger : (n : ℕ) → n < 16 → max (start_of s n) (laid_of n s).largest ≡ (laid_of (n + 1) s).largest
  laid_larger n h = rw (laid_largest n (omega arith))
      (sym (laid_largest (n + 1) (omega arith) ∙ largest_one n (start_of s)))

  pub laid_one : (n : ℕ) → n < 16 → lay_of (laid_of n s) n (start_of s n) ≡ laid_of (n + 1) s
  laid_one n h = rw (laid_set n h, laid_larger n h)

  -- all sixteen copied: the view
  laid_all : (laid_of 16 s).starts ≡ tab 16 (start_of s)
  unfolding laid_of
  laid_all = tab_ext 16 (λ o. ifb (ltb o 16) (start_of s o) 0) (start_of s) (λ o l. rw (lt-ltb o 16 l))

  pub laid_view : record { number = 1 + (laid_of 16 s).largest; members = s.net; starts = (laid_of 16 s).starts } ≡
      view_of s
  unfolding view_of
  laid_view = rw (laid_largest 16 (omega arith), laid_all)
