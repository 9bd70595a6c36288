-- Runs from a fresh office: every state has its office number and passes check 2.
use mathlib.Core.Path.{◌≡◌, ◌∙◌}
use mathlib.Core.Bool.{true}
use mathlib.Core.List.{List, Memᴰ}
use Prim.Native.Nat.{ℕ, ◌<◌}
use Rattle.rules.specs.State.{State}
use Rattle.rules.specs.Rules.{fresh}
use Rattle.rules.specs.Refusals.{well_formed}
use Rattle.rule_laws.proofs.Parts.{fresh_reads}
use Rattle.rule_laws.proofs.Steps.{take_well, fresh_well}
use Rattle.runs.specs.Office.{Input, answer_to, next_state, LogEntry, state_after, log_of}
use Rattle.runs.proofs.OfficeRuns.{after_keeps, log_keeps}
use Rattle.runs.proofs.OfficeViews.{answer_ends}

-- a state of this office that passes check 2
pub record Standing (own : ℕ) (s : State) : Type 0 where
  pub office : s.own ≡ own
  pub well : well_formed s ≡ true

fresh_standing : (own : ℕ) → own < 16 → Standing own (fresh own)
fresh_standing own lt = record { office = (fresh_reads own).own_is; well = fresh_well own lt }

standing_keeps : (own : ℕ) (s : State) (h : Input) → Standing own s → Standing own (next_state s h)
unfolding answer_to
standing_keeps own s h k =
    record {
      office = (answer_ends s h).0.own ∙ k.office;
      well = take_well h.office s h.event h.room k.well;
    }

module _ (own : ℕ) (lt : own < 16) (hs : List Input) where
  pub fresh_after : Standing own (state_after (fresh own) hs)
  fresh_after = after_keeps (Standing own) (standing_keeps own) (fresh own) (fresh_standing own lt) hs

  pub fresh_log : (e : LogEntry) → Memᴰ e (log_of (fresh own) hs) → Standing own e.before
  fresh_log = log_keeps (Standing own) (standing_keeps own) (fresh own) (fresh_standing own lt) hs
