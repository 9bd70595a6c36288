-- What the step answers: the bytes written, or the refusal; as numbers, the refusal or 0, and the bytes written.
use Rattle.std.specs.Prelude.{ℕ, Result, Ok, Err}
use Rattle.records.specs.declared.refusal.Refusal.{Refusal}
use Rattle.records.specs.Refusals.{refusal_of}

pub record Answer : Type 0 where
  pub refusal : ℕ
  pub written : ℕ

abbrev pub written_of : Result ℕ Refusal → ℕ
written_of (Ok n) = n
written_of (Err e) = 0

abbrev pub answer_of : Result ℕ Refusal → Answer
answer_of r = record { refusal = refusal_of r; written = written_of r }
