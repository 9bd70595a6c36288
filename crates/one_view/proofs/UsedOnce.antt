-- No office uses one proposal for two views. Its own: the view that left is above the proposal's start number, and a
-- later view has an own start number that is not below it. Another's: once used it is past, since all that is on the
-- link or stored for that office has a higher number from then on.
use mathlib.Core.Path.{◌≡◌, refl, sym, ap, subst, ◌∙◌}
use mathlib.Core.List.{List, [], Memᴰ}
use Prim.Native.Nat.{ℕ, ◌<◌}
use native.Mathlib.Omega.{arith}
use native.Mathlib.Decide.{ℕ_discrete, dec_lt}
use lib.ListN.{get_or}
use Rattle.laws.specs.Lists.{Every}
use Rattle.laws.proofs.Fin.{true_false}
use Rattle.laws.proofs.Lists.{every_head, every_map}
use Rattle.records.specs.declared.Proposal.{Proposal}
use Rattle.records.specs.declared.View.{View}
use Rattle.rules.specs.State.{Slot, State, stored_at}
use Rattle.rules.specs.Rules.{proposal, view, in_slot, view_of}
use Rattle.rules.specs.Refusals.{a_proposal}
use Rattle.rule_laws.proofs.Stored.{AllStored, kept_stored, take_stored}
use Rattle.runs.specs.Office.{Input, answer_to, tested_at, Turn, entire, broken, handed_at, left_at, next_turn}
use Rattle.runs.specs.World.{Item, World, WorldEvent, next, Nth}
use Rattle.runs.specs.Turns.{TurnAt, on_report, on_delivery, on_cut_report, on_cut_delivery}
use Rattle.runs.specs.Begins.{Rising}
use Rattle.runs.specs.Files.{FileEvent, filed_first, plainly}
use Rattle.runs.proofs.FilesAbove.{restarts_above}
use Rattle.runs.proofs.Links.{rising_every, rising_tail}
use Rattle.runs.proofs.OfficeGiven.{gives_office, gives_proposed, gives_viewed}
use Rattle.runs.proofs.OfficeViews.{counted_start, counted_above, counted_gone}
use Rattle.runs.proofs.Places.{nth_same}
use Rattle.runs.proofs.Proposals.{each_in}
use Rattle.runs.proofs.WorldArrays.{below_sixteen, mail_all}
use Rattle.runs.proofs.WorldTurns.{HasLeft, Turning, WhoseTurn, nobodys, somebodys, own_state, other_state, turn_links}
use Rattle.runs.proofs.WorldTurns.{own_left}
use Rattle.one_view.specs.Statement.{UsedOnce, UsedWellAbove, UsedWellWithFiles, everyone}
use Rattle.one_view.proofs.Left.{BeforeEvent, none_stored, still_left, came_from}
use Rattle.one_view.proofs.Held.{FreshRun, world, UseIn, Place, here, before_event, given_now, after, stays_left}
use Rattle.one_view.proofs.OneView.{entry, tested, shown, turns, used_known, one_view}

-- an event hands an office one thing
one_turn_by : {w : World} {e d : WorldEvent} {o b : ℕ} {t u : Turn} → TurnAt w e o t → TurnAt w d b u → e ≡ d
    → handed_at t ≡ handed_at u
one_turn_by (on_report o r room) (on_report o' r' room') q = cc
one_turn_by (on_delivery i o room x l f) (on_delivery i' o' room' y m g) q = cc
one_turn_by (on_cut_report o r room n m) (on_cut_report o' r' room' n' m') q = cc
one_turn_by (on_cut_delivery i o room n m x l f) (on_cut_delivery i' o' room' n' m' y k g) q = cc
one_turn_by t u q = cc

one_turn : {w : World} {e : WorldEvent} {o : ℕ} {t u : Turn} → TurnAt w e o t → TurnAt w e o u
    → handed_at t ≡ handed_at u
one_turn t u = one_turn_by t u refl

module _ (run : FreshRun) where
  -- its own proposal
  own_once : (n k o : ℕ) (p : Proposal) (v x : View) → n < k → UseIn run n o o p v → UseIn run k o o p x → ⊥
  own_once n k o p v x lt a b =
      let t = turns run a in
      let lk = b.1.0 in
      let m = stays_left run a.1 k lt (omega arith) o (view v) (own_left t (view v) a.2.has_left) in
      let c = (here run b.1).held.given o (turns run b).office in
      let low = (gives_viewed v c.told m).1 in
      let high = (gives_viewed x (given_now run b.1 (turns run b)).told b.2.has_left).0 in
      let is : get_or x.starts c.then.office 0 ≡ p.start =
      ap (λ (i : ℕ). get_or x.starts i 0) (gives_office c.told)
      ∙ sym (ap (λ (y : View). get_or y.starts o 0) b.2.is_view)
      ∙ counted_start (entry run b) o p b.2.counted in
      let up = counted_above (entry run a) o p a.2.counted in
      let seen = ap (λ (y : View). y.number) a.2.is_view in
      omega arith

  -- a proposal p of office q, at another office o
  module _ (o q : ℕ) (p : Proposal) (lo : o < 16) (lq : q < 16) (other : q ≡ o → ⊥) where
    abbrev Above : Item → Type 0
    Above x = p.number < x.proposal.number

    abbrev Later : ℕ → Proposal → Type 0
    Later k r = k ≡ q → p.number < r.number

    record Past (w : World) : Type 0 where
      row : Every Above (w.link q o)
      slot : AllStored Later (w.state o)
      has_left : HasLeft w q (proposal p)

    not_own : (s : State) → s.own ≡ o → (r : Proposal) → Later s.own r
    not_own s e r z = absurd (other (sym z ∙ e))

    -- event n
    module _ {n : ℕ} {e : WorldEvent} (h : Nth run.events n e) where
      abbrev w : World
      w = world run n

      abbrev c : Place run n
      c = here run h

      abbrev y : BeforeEvent w e
      y = before_event run h

      -- what comes to o where p is past
      came_later : Past w → {t : Turn} (u : Turning w e o t) (r : Proposal) → (handed_at t).event ≡ a_proposal r
          → Later r.sender r
      came_later past u r x z =
          let k = u.came r x in
          let row = subst (λ (i : ℕ). Every Above (w.link i o)) (sym z ∙ came_from y u r x) past.row in
          let front = every_head (rw k.front at row) in
          let is = ap (λ (s : Proposal). s.number) k.is in
          omega arith

      -- what q sends is above what has left it
      sent_later : HasLeft w q (proposal p) → {j : ℕ} {t : Turn} → Turning w e j t → j ≡ q → (r : Proposal)
          → Memᴰ (proposal r) (left_at (w.state j) t) → p.number < r.number
      sent_later left {j} u z r i =
          let v = subst (λ (k : ℕ). HasLeft w k (proposal p)) (sym z) left in
          let a = (gives_proposed p (c.held.given j u.office).told v).1 in
          let b = (gives_proposed r (given_now run h u).told i).0 in
          omega arith

      next_row : {j : ℕ} {t : Turn} (u : Turning w e j t) → (j ≡ q → HasLeft w q (proposal p))
          → Every Above (u.before.link q o) → Every Above ((next w e).link q o)
      next_row {j} {t} u left old =
          every_map (λ x k. k refl)
          (turn_links u (λ i x. i ≡ q → Above x) q o (every_map (λ x k z. k) old)
          (mail_all (λ r. j ≡ q → p.number < r.number) _ o (left_at (w.state j) t)
          (each_in (left_at (w.state j) t) (λ r i b z. sent_later (left z) u z r i))))

      -- it stays past
      past_next : Past w → Past (next w e)
      past_next past = go y.whose
        where
          has_left_still : HasLeft (next w e) q (proposal p)
          has_left_still = still_left y q (proposal p) past.has_left

          slot_next : (t : Turn) → Turning w e o t → AllStored Later (next_turn (w.state o) t)
          slot_next (entire i) u = unfold answer_to in
              take_stored Later (w.state o) i.event past.slot (came_later past u) i.office i.room
              (λ r b d. not_own (w.state o) (y.owned o lo) r)
          slot_next (broken i left k) u = none_stored Later (w.state o).own k

          go : WhoseTurn w e → Past (next w e)
          go (nobodys l) = record {
            row = l.links q o _ past.row;
            slot = rw l.states past.slot;
            has_left = has_left_still;
          }
          go (somebodys j t u) = record {
            row = next_row u (λ z. past.has_left) (u.lesser.links q o _ past.row);
            slot = at_office (ℕ_discrete o j);
            has_left = has_left_still;
          }
            where
              at_office : Dec (o ≡ j) → AllStored Later ((next w e).state o)
              at_office (no d) = rw (other_state u o d) past.slot
              at_office (yes z) =
                  let v : Turning w e o t = subst (λ (k : ℕ). Turning w e k t) (sym z) u in
                  rw (own_state v) (slot_next t v)

      -- what is stored for another office is below all that is on the link from it
      rises : (k : ℕ) → k < 16 → (k ≡ o → ⊥) → Rising (c.arrays.got o k) (c.arrays.top k) (w.link k o)
      rises k l d = rw (c.seen.links k o ((l, refl), lo, d)) (c.numbers.rising k o (l, refl) (lo, refl) d)

      abbrev BelowRow : World → ℕ → Proposal → Type 0
      BelowRow v k r = (k ≡ o → ⊥) → Every (λ x. r.number < x.proposal.number) (v.link k o)

      stored_below : AllStored (BelowRow w) (w.state o)
      stored_below k l there d =
          let s = (c.seen.sim o (lo, refl) (below_sixteen everyone lo)).stored k l in
          let i = c.numbers.kept k o (l, refl) (lo, refl) d (sym (ap (λ (v : Slot). v.present) s) ∙ there) in
          let a = c.numbers.acc_got k o (l, refl) (lo, refl) d in
          let b = ap (λ (v : Slot). v.proposal.number) s in
          rising_every (in_slot (w.state o) k).number (w.link k o) (omega arith) (rises k l d)

      -- and what comes is below all that is behind it
      came_below : {t : Turn} (u : Turning w e o t) (r : Proposal) → (handed_at t).event ≡ a_proposal r
          → BelowRow u.before r.sender r
      came_below u r x d =
          let k = u.came r x in
          let i = ap (λ (s : Proposal). s.number) k.is in
          rw (came_from y u r x, k.left)
          (rising_every r.number k.rest (omega arith)
          (rising_tail (rw k.front at (rises k.from k.office k.other))))

    -- a use makes it past
    module _ {n : ℕ} {v : View} (a : UseIn run n o q p v) where
      abbrev u : Turning (world run n) a.0 o a.2.turn
      u = turns run a

      below : Every Above (u.before.link q o)
      below =
          let all = kept_stored (BelowRow a.1 u.before) ((world run n).state o) (entry run a).handed.event
          (λ k l there d. u.lesser.links k o _ (stored_below a.1 k l there d)) (came_below a.1 u)
          (tested run a) (shown run a).keeps (λ r i j d. absurd (d ((before_event run a.1).owned o lo))) in
          let stored = a.2.counted.stored in
          subst (λ (r : Proposal). Every (λ x. r.number < x.proposal.number) (u.before.link q o))
          (ap (λ (s : Slot). s.proposal) stored) (all q lq (ap (λ (s : Slot). s.present) stored) other)

      emptied : (t : Turn) → a.2.turn ≡ t → AllStored Later (next_turn ((world run n).state o) t)
      emptied (broken i left k) z = none_stored Later ((world run n).state o).own k
      emptied (entire i) z = λ k l there j.
          absurd (true_false _ there
          (ap (λ (x : ℕ). (stored_at (answer_to ((world run n).state o) i).state x).present) j
          ∙ ap (λ (t : Turn). (stored_at (answer_to ((world run n).state o) (handed_at t)).state q).present) (sym z)
          ∙ counted_gone (entry run a) q p a.2.counted))

      used_past : Past (next (world run n) a.0)
      used_past = record {
        row = next_row a.1 u (λ z. absurd (other (sym z))) below;
        slot = rw (own_state u) (emptied a.2.turn refl);
        has_left = (used_known run a).1 (λ z. absurd (other z));
      }

    others_once : (n k : ℕ) (v x : View) → n < k → UseIn run n o q p v → UseIn run k o q p x → ⊥
    others_once n k v x lt a b =
        let lk = b.1.0 in
        let past = after run Past a.1 (used_past a) (λ j f i. past_next i) k lt (omega arith) in
        let stored = b.2.counted.stored in
        let up = kept_stored Later ((world run k).state o) (entry run b).handed.event past.slot
        (came_later b.1 past (turns run b)) (tested run b) (shown run b).keeps
        (λ r i j. not_own ((world run k).state o) ((before_event run b.1).owned o lo) r) q lq
        (ap (λ (s : Slot). s.present) stored) refl in
        let is = ap (λ (s : Slot). s.proposal.number) stored in
        omega arith

  -- so no use comes after another
  not_after : (n k o q r : ℕ) (p : Proposal) (v x : View) → n < k → UseIn run n o q p v → UseIn run k o r p x → ⊥
  not_after n k o q r p v x lt a b = go (ℕ_discrete q o)
    where
      b' : UseIn run k o q p x
      b' = subst (λ (j : ℕ). UseIn run k o j p x) (sym (used_known run b).0 ∙ (used_known run a).0) b

      go : Dec (q ≡ o) → ⊥
      go (yes z) = own_once n k o p v x lt (subst (λ (j : ℕ). UseIn run n o j p v) z a)
          (subst (λ (j : ℕ). UseIn run k o j p x) z b')
      go (no d) = others_once o q p (turns run a).office a.2.counted.office d n k v x lt a b'

  -- and one event makes one view
  one_event : (n o q r : ℕ) (p : Proposal) (v x : View) → UseIn run n o q p v → UseIn run n o r p x → v ≡ x
  one_event n o q r p v x a b =
      let s = (world run n).state o in
      let e : b.0 ≡ a.0 = nth_same run.events n b.0 a.0 b.1 a.1 in
      let t = subst (λ (f : WorldEvent). TurnAt (world run n) f o b.2.turn) e b.2.takes in
      sym a.2.is_view ∙ (shown run a).is
      ∙ ap (λ (h : Input). view_of (tested_at (record { before = s; handed = h }))) (one_turn a.2.takes t)
      ∙ sym (shown run b).is ∙ b.2.is_view

  pub used_once : UsedOnce run.states run.links run.events
  used_once n k o q r p v x a b = go (dec_lt n k) (dec_lt k n)
    where
      go : Dec (n < k) → Dec (k < n) → (n ≡ k) × (v ≡ x)
      go (yes l) m = absurd (not_after n k o q r p v x l a b)
      go (no l) (yes m) = absurd (not_after k n o r q p x v m b a)
      go (no l) (no m) =
          let z : n ≡ k = omega arith in
          (z, one_event n o q r p v x a (subst (λ (j : ℕ). UseIn run j o r p x) (sym z) b))

pub used_well : (states : ℕ → State) (links : ℕ → ℕ → List Item) (es : List WorldEvent) → UsedWellAbove states links es
used_well states links es all above =
    let run : FreshRun = record { states = states; links = links; events = es; all_fresh_lem = all; above = above } in
    record { one_view = one_view run; used_once = used_once run }

-- and with files that are empty at first
pub used_well_with_files : (states : ℕ → State) (links : ℕ → ℕ → List Item) (fs : List FileEvent)
    → UsedWellWithFiles states links fs
used_well_with_files states links fs all =
    used_well states links (plainly (filed_first states links (λ i. [])) fs) all
    (restarts_above everyone states links (λ i. []) (λ i q. refl) fs)
