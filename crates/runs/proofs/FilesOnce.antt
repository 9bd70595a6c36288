-- One office and its file: cut off after any byte written to it and any record that left, it gives out no number
-- twice, and its own file is never refused.
use mathlib.Core.Path.{◌≡◌, refl, ap, subst, ◌∙◌}
use mathlib.Core.Bool.{true}
use mathlib.Core.List.{List, [], ◌∷◌, ◌++◌}
use Prim.Native.Nat.{ℕ, ◌≤◌, ◌<◌}
use native.Mathlib.Omega.{arith}
use lib.ListN.{length, take}
use borrow.Author.Tests.{le-ltb}
use Rattle.laws.specs.Lists.{runs, Every, none, more}
use Rattle.laws.proofs.Lists.{every_append}
use Rattle.records.specs.Numbers.{limit}
use Rattle.rules.specs.MarkFile.{file_limit, last_high, good_file}
use Rattle.rule_laws.proofs.MarkFile.{good_length}
use Rattle.rules.specs.State.{State}
use Rattle.rules.specs.Rules.{Written, fresh, restarted}
use Rattle.rules.specs.Leaving.{largest_in, actions_of, file_after, left_in}
use Rattle.rules.specs.Refusals.{Made, restart_checks, restart_of}
use Rattle.rule_laws.proofs.Parts.{restarted_reads, fresh_reads}
use Rattle.rule_laws.proofs.Leaving.{take_largest, no_marks_lem, order_passes, Covering, covering_above, part_covers}
use Rattle.rule_laws.proofs.Leaving.{all_covers}
use Rattle.runs.specs.Office.{Input, answer_to, handed_at, next_turn, left_at, left_over, TurnAbove, TurnsAbove}
use Rattle.runs.specs.Office.{no_turn, a_turn, NumbersOnce}
use Rattle.runs.specs.Files.{KeptOffice, FileTurn, acts, cut_after, done, restart_after, next_kept, fresh_kept}
use Rattle.runs.specs.Files.{kept_after, left_kept, begins_with, turn_of, turns_of}
use Rattle.runs.proofs.OfficeViews.{answer_ends}
use Rattle.runs.proofs.OfficeGiven.{numbers_once}

-- such a file is never refused
pub good_restart : (own : ℕ) (f : List ℕ) → own < 16 → good_file f ≡ true
    → restart_of own f ≡ record { refusal = 0; state = restarted own (last_high f) }
unfolding restart_of restart_checks
good_restart own f lt g = rw (le-ltb 15 own (omega arith), g)

-- what is handed at its turns
pub kept_handed : (I : Input → Type 0) (k : KeptOffice) (ts : List FileTurn) → Every (λ t. I (begins_with t)) ts
    → Every (λ t. I (handed_at t)) (turns_of k ts)
unfolding turns_of
kept_handed I k [] none = none
kept_handed I k (acts h ∷ ts) (more i is) = more i (kept_handed I (next_kept k (acts h)) ts is)
kept_handed I k (cut_after h n ∷ ts) (more i is) = more i (kept_handed I (next_kept k (cut_after h n)) ts is)

module _ (own : ℕ) (lt : own < 16) where
  -- an office and its file, which covers all that has left
  pub record WellKept (k : KeptOffice) (l : List Written) : Type 0 where
    pub is_own : k.state.own ≡ own
    pub covers : Covering (λ w. w) k.file l

  module _ (k : KeptOffice) (l : List Written) (s : WellKept k l) where
    pub kept_passes : good_file k.file ≡ true
    kept_passes = order_passes k.file s.covers.order

    low : (h : Input) → Every (λ w. largest_in w ≤ limit) (answer_to k.state h).written
    unfolding answer_to
    low h = take_largest h.office k.state h.event h.room

    joined : (P : Written → Type 0) (us : List Written) → Every P us → Every P l → Every P (l ++ us)
    joined P us e d = every_append d e

    -- after a turn: what left, the file, and the state
    record After (t : FileTurn) : Type 0 where
      left : left_in (done k t) ≡ left_at k.state (turn_of k t)
      state : (next_kept k t).state ≡ next_turn k.state (turn_of k t)
      keeps : WellKept (next_kept k t) (l ++ left_at k.state (turn_of k t))
      above : TurnAbove k.state l (turn_of k t)

    after : (t : FileTurn) → After t
    unfolding next_kept done restart_after
    after (acts h) =
        let x = all_covers (λ w. w) l (λ us. l ++ us) joined k.file (answer_to k.state h).written s.covers
        (low h) in
        record {
          left = x.0;
          state = refl;
          keeps = record { is_own = (answer_ends k.state h).0.own ∙ s.is_own; covers = x.1 };
          above = tt;
        }
    after (cut_after h n) =
        let x = part_covers (λ w. w) l (λ us. l ++ us) joined k.file (answer_to k.state h).written s.covers
        (low h) n in
        let f = file_after k.file (take n (actions_of k.file (answer_to k.state h).written)) in
        let small : k.state.own < 16 = rw s.is_own lt in
        let st : (restart_of k.state.own f).state ≡ restarted k.state.own (last_high f)
        = ap (λ (m : Made). m.state) (good_restart k.state.own f small (order_passes f x.1.order)) in
        record {
          left = x.0;
          state = st;
          keeps = record {
            is_own = ap (λ (u : State). u.own) st ∙ (restarted_reads k.state.own (last_high f)).own_is ∙ s.is_own;
            covers = x.1;
          };
          above = covering_above (λ w. w) f _ x.1;
        }

    pub kept_next : (t : FileTurn) → (m : List Written) × WellKept (next_kept k t) m
    kept_next t = (l ++ left_at k.state (turn_of k t), (after t).keeps)

  pub fresh_kept_lem : WellKept (fresh_kept own) []
  fresh_kept_lem =
      record { is_own = (fresh_reads own).own_is; covers = record { order = no_marks_lem; covered = none } }

  -- the run is one of turns that begin again at or above all that left
  runs_above : (k : KeptOffice) (l : List Written) (ts : List FileTurn) → WellKept k l
      → (left_kept k ts ≡ left_over k.state (turns_of k ts)) × TurnsAbove k.state l (turns_of k ts)
  unfolding left_kept left_over turns_of
  runs_above k l [] s = (refl, no_turn)
  runs_above k l (t ∷ ts) s =
      let a = after k l s t in
      let x = runs_above (next_kept k t) (l ++ left_at k.state (turn_of k t)) ts a.keeps in
      let y = subst (λ (u : State). (left_kept (next_kept k t) ts ≡ left_over u (turns_of (next_kept k t) ts))
      × TurnsAbove u (l ++ left_at k.state (turn_of k t)) (turns_of (next_kept k t) ts)) a.state x in
      (rw (a.left, y.0), a_turn a.above y.1)

  keeps_after : (k : KeptOffice) (l : List Written) (ts : List FileTurn) → WellKept k l
      → (m : List Written) × WellKept (kept_after k ts) m
  unfolding runs
  keeps_after k l [] s = (l, s)
  keeps_after k l (t ∷ ts) s = keeps_after (next_kept k t) _ ts (after k l s t).keeps

  -- From a fresh office and an empty file.
  module _ (ts : List FileTurn) where
    pub kept_turns : let us = turns_of (fresh_kept own) ts in
        (left_kept (fresh_kept own) ts ≡ left_over (fresh own) us) × TurnsAbove (fresh own) [] us
    kept_turns = runs_above (fresh_kept own) [] ts fresh_kept_lem

    pub files_once : NumbersOnce (left_kept (fresh_kept own) ts)
    files_once = rw kept_turns.0 (numbers_once own lt (turns_of (fresh_kept own) ts) kept_turns.1)

    -- its own file, cut off wherever, passes 18: the office begins again at the last whole mark
    own_passes : good_file (kept_after (fresh_kept own) ts).file ≡ true
    own_passes = let x = keeps_after (fresh_kept own) [] ts fresh_kept_lem in kept_passes _ x.0 x.1

    pub own_file : let f = (kept_after (fresh_kept own) ts).file in
        restart_of own f ≡ record { refusal = 0; state = restarted own (last_high f) }
    own_file = good_restart own _ lt own_passes

    -- it never passes 20,010 bytes
    pub own_file_length : length (kept_after (fresh_kept own) ts).file ≤ file_limit
    own_file_length = good_length _ own_passes
