-- The reasons to refuse by their numbers in the documents' list, 0 where nothing is refused.
use Rattle.std.specs.Prelude.{ℕ, Result, Ok, Err}
use Rattle.records.specs.declared.refusal.Refusal.{Refusal}
use Rattle.records.specs.declared.refusal.Refusal.TheVariants as reasons

abbrev pub number : Refusal → ℕ
number reasons.Office = 1
number reasons.State = 2
number reasons.Output = 3
number reasons.Mark = 4
number reasons.Length = 5
number reasons.Sender = 6
number reasons.Kind = 7
number reasons.Number = 8
number reasons.Members = 9
number reasons.Stray = 10
number reasons.OldProposal = 11
number reasons.Unreached = 12
number reasons.Ceiling = 13
number reasons.OldNotice = 14
number reasons.UnawaitedView = 15
number reasons.LowView = 16
number reasons.Sheet = 17
number reasons.File = 18
number reasons.SelfUse = 19
number reasons.Room = 20

abbrev pub refusal_of : {A : Type 0} → Result A Refusal → ℕ
refusal_of (Ok a) = 0
refusal_of (Err e) = number e
