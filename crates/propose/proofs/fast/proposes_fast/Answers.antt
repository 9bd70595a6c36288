use native.Mathlib.Omega.{arith}
use mathlib.Core.Path.{◌≡◌, refl, sym, ap, ◌∙◌}
use Prim.Native.Nat.{ℕ}
use borrow.Author.Rules.{rules}
use Rattle.records.proofs.Lengths.{proposal_length_lem}
use Rattle.records.specs.declared.Proposal.{Proposal}
use Rattle.rules.specs.State.{State, Fast}
use Rattle.rules.specs.Rules.{proposal, next_number, own_proposal, proposed, proposes_fast}
use Rattle.rule_laws.proofs.Recipients.{own_seated}
use Rattle.row.specs.Held.{held_mut}
use Rattle.event_parts.proofs.Dones.{one}
use Rattle.event_parts.proofs.Dones.{done_as, done_quiet, done_wrote, one_fits}
use Rattle.event_parts.proofs.Made.{own_same, own_sender, fast_alone, fast_written}
use Rattle.propose.proofs.fast.proposes_fast.Goals.{After-own_proposal-p, Else-not-has_recipient}
use Rattle.propose.proofs.fast.proposes_fast.Goals as goal

-- the proposal is the one that the rules make
made : (s : State) (p : Proposal) (n : ℕ) → p ≡ own_proposal Fast n s → n ≡ next_number s
    → p ≡ own_proposal Fast (next_number s) s
made s p n e f = e ∙ ap (λ (k : ℕ). own_proposal Fast k s) f

is : (c : After-own_proposal-p)
    → c.own_proposal-p.result ≡ own_proposal Fast (next_number (held_mut c.args.row.now)) (held_mut c.args.row.now)
is c =
    let e = c.get-held.ensures in
    made _ _ _ (rw e at c.own_proposal-p.ensures) (rw e at c.next_number.ensures)

pub keep_own-requires : goal.keep_own-requires
keep_own-requires c = own_same _ _ _ _ (is (goal.at.keep_own-requires c).After-own_proposal-p)

pub has_recipient-requires : goal.has_recipient-requires
has_recipient-requires c =
    let m = is (goal.at.has_recipient-requires c).After-own_proposal-p in
    let e = own_sender _ _ _ _ m in
    let l = c.args.row.now.office in
    (omega arith, own_seated _ _ _ _ m c.requires.2)

pub returns-then-not-has_recipient : goal.returns-then-not-has_recipient
returns-then-not-has_recipient c =
    done_as proposes_fast (done_quiet _ c.keep_own.ensures)
    (fast_alone _ _ (is (goal.at.returns-then-not-has_recipient c).After-own_proposal-p)
    (sym c.has_recipient.ensures ∙ c.if-not-has_recipient.true))

written : (c : Else-not-has_recipient)
    → c.own_proposal-p.result ≡ own_proposal Fast (next_number (held_mut c.args.row.now)) (held_mut c.args.row.now)
    → one (proposed Fast c.own_proposal-p.result.number) (proposal c.own_proposal-p.result) (held_mut c.args.row.now)
    ≡ proposes_fast (held_mut c.args.row.now)
written c m = fast_written _ _ m (sym c.has_recipient.ensures ∙ c.if-not-has_recipient.false)

pub write-requires : goal.write-requires
write-requires c =
    let p = c.own_proposal-p.result in
    one_fits proposes_fast (proposed Fast p.number) (proposal p) c.args.row.now c.args.out.now
    (written (goal.at.write-requires c).Else-not-has_recipient (is (goal.at.write-requires c).After-own_proposal-p))
    (proposal_length_lem 0 p (search rules)) c.requires.1

pub returns : goal.returns
returns c =
    done_wrote proposes_fast (proposal _) c.keep_own.ensures
    (written (goal.at.returns c).Else-not-has_recipient (is (goal.at.returns c).After-own_proposal-p)) refl
    c.write.ensures
