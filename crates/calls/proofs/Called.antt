-- office: what the step leaves, as a call. questions: the number of what is read.
use Rattle.std.specs.Prelude.{Result, Ok, Err}
use mathlib.Core.Path.{◌≡◌, ap, ◌∙◌}
use mathlib.Core.List.{List}
use Prim.Native.Nat.{ℕ, ◌≤◌}
use native.Mathlib.Omega.{arith}
use lib.ListN.{length}
use Rattle.records.specs.Layout.{room_of}
use Rattle.records.specs.declared.refusal.Refusal.{Refusal}
use Rattle.records.specs.Refusals.{refusal_of}
use Rattle.rules.specs.Refusals.{full_room}
use Rattle.rules.specs.Tables.{read_of}
use Rattle.events.specs.declared.Event.{Event}
use Rattle.events.specs.Events.{EventRead, read_event}
use Rattle.events.specs.Reading.{as_read}
use Rattle.events.proofs.ReadLaws.{read_number_lem}
use Rattle.step.specs.Step.{step_words, Stepped}
use Rattle.step.proofs.Holds.{words_size}
use Rattle.calls.specs.Number.{call_number}
use Rattle.calls.specs.OfficeCalls.{call_of}

module _ (office : ℕ) (ws b o : List ℕ) (refusal written : ℕ) (ws' o' : List ℕ)
    (h : Stepped (room_of b) (step_words office ws b (length o)) o refusal written ws' o') where
  pub step_fits : written ≤ full_room
  step_fits = let w = h.same_written in omega (arith, words_size office ws b (length o))

  pub call_is : (r : ℕ) → r ≡ call_number written refusal
      → record { answer = r; words = ws'; bytes = o' } ≡ call_of office ws b o
  unfolding call_of
  call_is r e = rw (e, h.same_refusal, h.same_written, h.same_words, h.same_out)

pub ruleset step_laws = (step_fits, call_is)

pub read_refusal : (office : ℕ) (b : List ℕ) (r : Result Event Refusal) → as_read r ≡ read_event office b
    → refusal_of r ≡ (read_of office b).refusal
read_refusal office b (Ok e) is = ap (λ (x : EventRead). x.refusal) is ∙ read_number_lem office b
read_refusal office b (Err e) is = ap (λ (x : EventRead). x.refusal) is ∙ read_number_lem office b
