-- For refusals: check 13 where an event makes no number, or every number is low, since it then makes none above L.
use mathlib.Core.Path.{◌≡◌, sym, ◌∙◌}
use mathlib.Core.Bool.{true, false}
use Prim.Native.Nat.{◌≤◌}
use Rattle.records.specs.declared.Report.{Report}
use Rattle.records.specs.declared.Proposal.{Proposal}
use Rattle.rules.specs.State.{State}
use lib.Dec.{eqb}
use borrow.Author.Tests.{le-leb}
use Rattle.laws.proofs.Fin.{and_in}
use Rattle.rules.specs.Rules.{received, report_rule, proposal_rule}
use Rattle.laws.specs.Checks.{first_of}
use Rattle.rules.specs.Refusals.{well_formed, proposal_checks, a_proposal}
use Rattle.rule_laws.proofs.Steps.{check_facts, well_facts}
use Rattle.rules.specs.Bounds.{Capped, low}
use Rattle.rule_laws.proofs.Bounds.{low_report, low_proposal}
use Rattle.step.proofs.Within.{made_is_well}

module _ (s : State) (well : well_formed s ≡ true) (h : Capped low low s) where
  pub report_stays : (r : Report) → well_formed (report_rule s r).state ≡ true
  report_stays r = low_report s r well h

  pub proposal_stays : (p : Proposal) → first_of (proposal_checks s p) ≡ 0 → p.start ≤ low → p.number ≤ low
      → well_formed (proposal_rule s p).state ≡ true
  proposal_stays p e a b = low_proposal s p well h a b (check_facts s p e).used

-- a proposal of other members is only stored
module _ (s : State) (well : well_formed s ≡ true) (p : Proposal) (passes : first_of (proposal_checks s p) ≡ 0) where
  pub other_stays : eqb p.members.bits s.net.bits ≡ false → well_formed (proposal_rule s p).state ≡ true
  unfolding proposal_rule received
  other_stays e =
      let f = well_facts s well in
      let w : well_formed (received s p) ≡ true = sym (rw e at (made_is_well s (a_proposal p) well passes))
      ∙ and_in _ _ (and_in _ _ (le-leb _ _ f.start) (le-leb _ _ f.number)) (le-leb _ _ f.view) in
      rw e w
