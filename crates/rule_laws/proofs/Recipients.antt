-- A proposal's sender has a seat among the members (step 2), so it has a recipient exactly where the members are of
-- more offices than one.
use mathlib.Core.Path.{◌≡◌, refl, sym, ◌∙◌}
use mathlib.Core.Bool.{true}
use Prim.Native.Nat.{ℕ, ◌+◌, ◌<◌}
use native.Mathlib.Omega.{arith}
use native.Mathlib.Decide.{dec_lt}
use lib.Dec.{ltb}
use borrow.Author.Tests.{lt-ltb, le-ltb}
use Rattle.laws.specs.Fin.{sum}
use Rattle.laws.specs.Upd.{ifb}
use Rattle.laws.proofs.Fin.{any_count}
use Rattle.seats.specs.Offices.{serves, count_of}
use Rattle.seats.proofs.Counts.{others_count}
use Rattle.records.specs.declared.Proposal.{Proposal}
use Rattle.rules.specs.State.{Mode, State}
use Rattle.rules.specs.Rules.{seated, opened, opens, own_proposal, receives, has_recipient}

pub seated_is : (s : State) → seated s ≡ serves s.net.bits s.own
unfolding seated
seated_is s = refl

-- a start notice leaves the seat, and the own proposal's members hold it
pub opens_seated : (s : State) → seated (opens s).state ≡ seated s
unfolding seated opens opened
opens_seated s = refl

pub own_seated : (s : State) (m : Mode) (n : ℕ) (p : Proposal) → p ≡ own_proposal m n s → seated s ≡ true
    → serves p.members.bits p.sender ≡ true
unfolding seated own_proposal
own_seated s m n p q e = rw q e

more_than_one : (a b : ℕ) → a + 1 ≡ b → ltb 0 a ≡ ltb 1 b
more_than_one a b e = go (dec_lt 0 a)
  where
    go : Dec (0 < a) → ltb 0 a ≡ ltb 1 b
    go (yes h) = lt-ltb 0 a h ∙ sym (lt-ltb 1 b (omega arith))
    go (no n) = le-ltb 0 a (omega arith) ∙ sym (le-ltb 1 b (omega arith))

pub recipient_count : (p : Proposal) → p.sender < 16 → serves p.members.bits p.sender ≡ true
    → has_recipient p ≡ ltb 1 (count_of p.members.bits)
unfolding receives
recipient_count p h e =
    any_count 16 (receives p)
    ∙ more_than_one (sum 16 (λ o. ifb (receives p o) 1 0)) (count_of p.members.bits)
    (others_count p.members.bits p.sender h e)
