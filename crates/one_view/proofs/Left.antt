-- At every place of a run: what is on a link has left its sender; what an office stores names the office that it is
-- stored for and has left it, a proposal of its own where it is slow. (A fast one of a single office is never sent.)
use mathlib.Core.Path.{◌≡◌, refl, sym, ap, subst, ◌∙◌}
use mathlib.Core.List.{List, Memᴰ}
use Prim.Native.Nat.{ℕ, ◌<◌}
use native.Mathlib.Decide.{ℕ_discrete}
use Rattle.laws.specs.Lists.{Every}
use Rattle.laws.proofs.Fin.{true_false}
use Rattle.laws.proofs.Lists.{every_head, every_map}
use Rattle.records.specs.declared.Proposal.{Proposal}
use Rattle.rules.specs.State.{Slot, slow}
use Rattle.rules.specs.Rules.{Written, proposal, restarted}
use Rattle.rules.specs.Refusals.{a_proposal}
use Rattle.rule_laws.proofs.Parts.{restarted_reads}
use Rattle.rule_laws.proofs.Stored.{AllStored, take_stored}
use Rattle.runs.specs.Office.{answer_to, Turn, entire, broken, handed_at, left_at, next_turn}
use Rattle.runs.specs.World.{World, WorldEvent, next}
use Rattle.runs.proofs.Proposals.{each_in}
use Rattle.runs.proofs.WorldArrays.{mail_all}
use Rattle.runs.proofs.WorldTurns.{HasLeft, Owned, Turning, WhoseTurn, nobodys, somebodys, own_state, other_state}
use Rattle.runs.proofs.WorldTurns.{turn_links, own_left, left_grows}

-- of the proposal p that office j stores for office k
abbrev pub Known : World → ℕ → ℕ → Proposal → Type 0
Known w j k p = (p.sender ≡ k) × ((k ≡ j → p.kind ≡ slow) → HasLeft w k (proposal p))

pub record AllLeft (w : World) : Type 0 where
  pub links : (i j : ℕ) → i < 16 → Every (λ x. HasLeft w i (proposal x.proposal)) (w.link i j)
  pub stored : (j : ℕ) → j < 16 → AllStored (Known w j) (w.state j)

-- a link holds proposals of the office that it comes from
abbrev pub Named : World → Type 0
Named w = (i j : ℕ) → i < 16 → j < 16 → Every (λ x. x.proposal.sender ≡ i) (w.link i j)

-- a restart stores nothing
pub none_stored : (R : ℕ → Proposal → Type 0) (own m : ℕ) → AllStored R (restarted own m)
none_stored R own m k l y =
    absurd (true_false _ y (ap (λ (v : Slot). v.present) ((restarted_reads own m).stored_is k l)))

-- what is known of the world before an event, and what the event is
pub record BeforeEvent (w : World) (e : WorldEvent) : Type 1 where
  pub owned : Owned w
  pub named : Named w
  pub left : AllLeft w
  pub whose : WhoseTurn w e

module _ {w : World} {e : WorldEvent} (b : BeforeEvent w e) where
  pub still_left : (i : ℕ) (r : Written) → HasLeft w i r → HasLeft (next w e) i r
  still_left = left_grows b.whose

  pub still_known : (j : ℕ) → j < 16 → AllStored (Known (next w e) j) (w.state j)
  still_known j lt k l y =
      let x = b.left.stored j lt k l y in (x.0, λ f. still_left k (proposal _) (x.1 f))

  -- a proposal that comes to an office at its turn, and one that it makes and sends
  module _ {o : ℕ} {t : Turn} (u : Turning w e o t) where
    pub came_from : (p : Proposal) (h : (handed_at t).event ≡ a_proposal p) → p.sender ≡ (u.came p h).from
    came_from p h =
        let c = u.came p h in
        sym (ap (λ (q : Proposal). q.sender) c.is)
        ∙ every_head (rw c.front at (b.named c.from o c.office u.office))

    pub came_known : (p : Proposal) → (handed_at t).event ≡ a_proposal p → Known (next w e) o p.sender p
    came_known p h =
        let c = u.came p h in
        let x = every_head (rw c.front at (b.left.links c.from o c.office)) in
        let has = subst (λ (q : Proposal). HasLeft w c.from (proposal q)) c.is x in (
          refl,
          λ f. subst (λ (i : ℕ). HasLeft (next w e) i (proposal p)) (sym (came_from p h))
              (still_left c.from (proposal p) has),
        )

    pub made_known : (ws : List Written) → left_at (w.state o) t ≡ ws → (p : Proposal) → p.sender ≡ (w.state o).own
        → (p.kind ≡ slow → Memᴰ (proposal p) ws) → Known (next w e) o (w.state o).own p
    made_known ws is p n h =
        let own = b.owned o u.office in (
          n,
          λ f. subst (λ (i : ℕ). HasLeft (next w e) i (proposal p)) (sym own)
              (own_left u (proposal p) (subst (Memᴰ (proposal p)) (sym is) (h (f own)))),
        )

  turn_stored : (o : ℕ) (t : Turn) → Turning w e o t → AllStored (Known (next w e) o) (next_turn (w.state o) t)
  unfolding answer_to
  turn_stored o (entire h) u =
      take_stored (Known (next w e) o) (w.state o) h.event (still_known o u.office) (came_known u) h.office
      h.room (made_known u _ refl)
  turn_stored o (broken h left m) u = none_stored (Known (next w e) o) (w.state o).own m

  pub next_left : AllLeft (next w e)
  next_left = go b.whose
    where
      go : WhoseTurn w e → AllLeft (next w e)
      go (nobodys l) = record {
        links = λ i j lt. rw l.logs (l.links i j _ (b.left.links i j lt));
        stored = λ j lt. rw (l.states, l.logs) (b.left.stored j lt);
      }
      go (somebodys o t u) = record { links = sent_links; stored = λ j lt. at_office j lt (ℕ_discrete j o) }
        where
          sent_links : (i j : ℕ) → i < 16
              → Every (λ x. HasLeft (next w e) i (proposal x.proposal)) ((next w e).link i j)
          sent_links i j lt =
              turn_links u (λ i x. HasLeft (next w e) i (proposal x.proposal)) i j
              (u.lesser.links i j _ (every_map (λ x h. still_left i (proposal x.proposal) h)
              (b.left.links i j lt)))
              (mail_all (λ p. HasLeft (next w e) o (proposal p)) _ j (left_at (w.state o) t)
              (each_in (left_at (w.state o) t) (λ p m r. own_left u (proposal p) m)))

          at_office : (j : ℕ) → j < 16 → Dec (j ≡ o) → AllStored (Known (next w e) j) ((next w e).state j)
          at_office j lt (no n) = rw (other_state u j n) (still_known j lt)
          at_office j lt (yes z) =
              subst (λ (i : ℕ). AllStored (Known (next w e) i) ((next w e).state i)) (sym z)
              (rw (own_state u) (turn_stored o t u))
