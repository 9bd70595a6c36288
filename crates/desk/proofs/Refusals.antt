-- The numbers of the reasons to refuse: none is 0, and 4 is that of the mark alone.
use mathlib.Core.Path.{◌≡◌, refl, ◌∙◌}
use mathlib.Core.Bool.{true, false}
use lib.Dec.{eqb}
use borrow.Author.Tests.{eqb-true, eqb-false}
use denote.Enum.Bare.{sameb}
use Rattle.records.specs.contracts.refusal.Refusal.{the_type}
use Rattle.records.specs.declared.refusal.Refusal.{Refusal}
use Rattle.records.specs.declared.refusal.Refusal.TheVariants as reasons
use Rattle.records.specs.Refusals.{number}

pub refusal_some : (e : Refusal) → eqb (number e) 0 ≡ false
refusal_some reasons.Office = refl
refusal_some reasons.State = refl
refusal_some reasons.Output = refl
refusal_some reasons.Mark = refl
refusal_some reasons.Length = refl
refusal_some reasons.Sender = refl
refusal_some reasons.Kind = refl
refusal_some reasons.Number = refl
refusal_some reasons.Members = refl
refusal_some reasons.Stray = refl
refusal_some reasons.OldProposal = refl
refusal_some reasons.Unreached = refl
refusal_some reasons.Ceiling = refl
refusal_some reasons.OldNotice = refl
refusal_some reasons.UnawaitedView = refl
refusal_some reasons.LowView = refl
refusal_some reasons.Sheet = refl
refusal_some reasons.File = refl
refusal_some reasons.SelfUse = refl
refusal_some reasons.Room = refl

marks_4 : (e : Refusal) → eqb (number e) 4 ≡ sameb the_type e reasons.Mark
marks_4 reasons.Office = refl
marks_4 reasons.State = refl
marks_4 reasons.Output = refl
marks_4 reasons.Mark = refl
marks_4 reasons.Length = refl
marks_4 reasons.Sender = refl
marks_4 reasons.Kind = refl
marks_4 reasons.Number = refl
marks_4 reasons.Members = refl
marks_4 reasons.Stray = refl
marks_4 reasons.OldProposal = refl
marks_4 reasons.Unreached = refl
marks_4 reasons.Ceiling = refl
marks_4 reasons.OldNotice = refl
marks_4 reasons.UnawaitedView = refl
marks_4 reasons.LowView = refl
marks_4 reasons.Sheet = refl
marks_4 reasons.File = refl
marks_4 reasons.SelfUse = refl
marks_4 reasons.Room = refl

pub mark_4 : (e : Refusal) → sameb the_type e reasons.Mark ≡ true → number e ≡ 4
mark_4 e t = eqb-true _ _ (marks_4 e ∙ t)

pub other_4 : (e : Refusal) → sameb the_type e reasons.Mark ≡ false → number e ≡ 4 → ⊥
other_4 e f = eqb-false _ _ (marks_4 e ∙ f)
