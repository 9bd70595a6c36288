use mathlib.Core.Path.{◌≡◌, refl, ap, ◌∙◌}
use Prim.Native.Nat.{ℕ}
use borrow.Author.Rules.{rules}
use Rattle.records.proofs.Lengths.{proposal_length_lem}
use Rattle.records.specs.declared.Proposal.{Proposal}
use Rattle.rules.specs.State.{State, Slow}
use Rattle.rules.specs.Rules.{proposal, slow_number, own_proposal, proposed, proposes_slow}
use Rattle.row.specs.Held.{held_mut}
use Rattle.event_parts.proofs.Dones.{done_wrote, one_fits}
use Rattle.event_parts.proofs.Made.{own_same, slow_written}
use Rattle.propose.proofs.Looks.{number_found, top_fits}
use Rattle.propose.proofs.slow_test.proposes_slow.Goals.{After-own_proposal-p}
use Rattle.propose.proofs.slow_test.proposes_slow.Goals as goal

-- the proposal is the one that the rules make
made : (s : State) (p : Proposal) (n : ℕ) → p ≡ own_proposal Slow n s → n ≡ slow_number s
    → p ≡ own_proposal Slow (slow_number s) s
made s p n e f = e ∙ ap (λ (k : ℕ). own_proposal Slow k s) f

is : (c : After-own_proposal-p)
    → c.own_proposal-p.result ≡ own_proposal Slow (slow_number (held_mut c.args.row.now)) (held_mut c.args.row.now)
is c =
    let e = c.get-held.ensures in
    made _ _ _ (rw e at c.own_proposal-p.ensures)
    (c.slow_number-n.ensures
    ∙ number_found _ _ _ (rw e at c.number.ensures) (rw e at c.look_at_all.ensures))

pub slow_number-n-requires : goal.slow_number-n-requires
slow_number-n-requires c =
    let e = c.get-held.ensures in
    top_fits _ _ _ c.requires.0 (rw e at c.number.ensures) (rw e at c.look_at_all.ensures)

pub keep_own-requires : goal.keep_own-requires
keep_own-requires c = own_same _ _ _ _ (is (goal.at.keep_own-requires c).After-own_proposal-p)

pub write-requires : goal.write-requires
write-requires c =
    let p = c.own_proposal-p.result in
    one_fits proposes_slow (proposed Slow p.number) (proposal p) c.args.row.now c.args.out.now
    (slow_written _ _ (is (goal.at.write-requires c).After-own_proposal-p)) (proposal_length_lem 0 p (search rules))
    c.requires.1

pub returns : goal.returns
returns c =
    done_wrote proposes_slow (proposal _) c.keep_own.ensures
    (slow_written _ _ (is (goal.at.returns c).After-own_proposal-p)) refl c.write.ensures
