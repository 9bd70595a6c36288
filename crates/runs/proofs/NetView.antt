-- The net view of an office is what its accepted reports make of it.
use mathlib.Core.Path.{◌≡◌, refl, sym, ap, ◌∙◌}
use mathlib.Core.Bool.{Bool, true, false, ◌&&◌}
use mathlib.Core.Logic.{◌⊎◌, inl, inr}
use mathlib.Core.List.{List, [], ◌∷◌, ◌++◌}
use Prim.Native.Nat.{ℕ, suc, ◌+◌}
use native.Mathlib.Omega.{arith}
use native.Mathlib.Decide.{ℕ_discrete}
use native.Mathlib.Numerals.{add-one}
use lib.ListN.{take, length-take}
use lib.Seq.{take-suc, get_or-take}
use lib.Dec.{eqb}
use borrow.Author.Tests.{eq-eqb, ne_eqb, eqb-true}
use Rattle.laws.specs.Lists.{runs}
use Rattle.laws.specs.Upd.{ifb, upd}
use Rattle.laws.proofs.Fin.{if_same}
use Rattle.laws.proofs.Upd.{upd_same, upd_other, upd_cases}
use Rattle.records.specs.declared.Report.{Report}
use Rattle.records.specs.declared.Proposal.{Proposal}
use Rattle.rules.specs.State.{State}
use Rattle.rules.specs.Rules.{Outcome, net_after, fresh, restarted, report_rule}
use Rattle.rules.specs.Refusals.{Event, a_report, a_proposal, rule_of, Result, take_of, accepted}
use Rattle.rule_laws.proofs.Steps.{Refused, Takes, take_accepts, take_cases}
use Rattle.rule_laws.proofs.Repeats.{net_repeat, repeat_rule}
use Rattle.rule_laws.proofs.Parts.{fresh_reads, restarted_reads}
use Rattle.runs.specs.World.{Item, World, at_first, Underway, nothing_begun, begun_report, begun_delivery, WorldEvent}
use Rattle.runs.specs.World.{report, delivery, loss, cut, taken_up, cut_answer, answered, with_link, idle, delivered}
use Rattle.runs.specs.World.{report_answer, proposal_answer, next, run, at, Nth, net_one, net_by, Among}
use Rattle.runs.specs.Begins.{AllAmong}
use Rattle.runs.proofs.Proposals.{report_net, proposal_net}

-- the net view after a step
step_net : (office : ℕ) (s : State) (e : Event) (room net : ℕ) → (rule_of s e).state.net.bits ≡ net
    → (take_of office s e room).state.net.bits ≡ ifb (eqb (take_of office s e room).refusal 0) net s.net.bits
step_net office s e room net f = go (take_cases office s e room)
  where
    go : Refused s (take_of office s e room) ⊎ Takes office s e room
        → (take_of office s e room).state.net.bits ≡ ifb (eqb (take_of office s e room).refusal 0) net s.net.bits
    go (inl r) = rw (ne_eqb (take_of office s e room).refusal 0 r.reason)
        (ap (λ (q : Result). q.state.net.bits) r.is)
    go (inr a) = rw (take_accepts office s e room a) f

step_report_net : (office : ℕ) (s : State) (r : Report) (room : ℕ)
    → (take_of office s (a_report r) room).state.net.bits ≡ ifb (eqb (take_of office s (a_report r) room).refusal 0)
    (net_after s.net.bits r) s.net.bits
step_report_net office s r room = step_net office s (a_report r) room _ (report_net s r)

step_proposal_net : (office : ℕ) (s : State) (p : Proposal) (room : ℕ)
    → (take_of office s (a_proposal p) room).state.net.bits ≡ s.net.bits
step_proposal_net office s p room =
    step_net office s (a_proposal p) room s.net.bits (proposal_net s p)
    ∙ if_same (eqb (take_of office s (a_proposal p) room).refusal 0) s.net.bits

-- an event gives office i the net view that the statement counts
net_one_lem : (w : World) (e : WorldEvent) (i : ℕ) → Among e
    → ((next w e).state i).net.bits ≡ net_one w e i (w.state i).net.bits
unfolding next answered report_answer cut_answer
net_one_lem w (report o r room) i a = go (ℕ_discrete i o)
  where
    go : Dec (i ≡ o) → (upd w.state o (take_of o (w.state o) (a_report r) room).state i).net.bits
        ≡ ifb (eqb o i && eqb (take_of o (w.state o) (a_report r) room).refusal 0) (net_after (w.state i).net.bits r)
        (w.state i).net.bits
    go (yes e) =
        rw (e, upd_same w.state o (take_of o (w.state o) (a_report r) room).state, eq-eqb o o refl)
        (step_report_net o (w.state o) r room)
    go (no n) = rw (
      upd_other w.state o (take_of o (w.state o) (a_report r) room).state i n,
      ne_eqb o i (λ e. n (sym e)),
    )
net_one_lem w (delivery a b room) i m = go (w.link a b)
  where
    go : (l : List Item) → ((delivered w a b room l).state i).net.bits ≡ (w.state i).net.bits
    go [] = unfold idle in refl
    go (x ∷ l) = unfold proposal_answer with_link in
        upd_cases (λ (i : ℕ) (s : State). s.net.bits ≡ (w.state i).net.bits) w.state b _ i
        (step_proposal_net b (w.state b) x.proposal room) (λ n. refl)
net_one_lem w (loss a b place) i m = unfold idle with_link in refl
net_one_lem w (cut o b left m) i a = go b (ℕ_discrete i o)
  where
    go : (b : Underway) → Dec (i ≡ o)
        → (upd (taken_up w o b).state o (restarted o m) i).net.bits ≡ ifb (eqb o i) 0 (w.state i).net.bits
    go b (yes e) = rw (e, upd_same (taken_up w o b).state o (restarted o m), eq-eqb o o refl)
        (restarted_reads o m).net_is
    go b (no n) = rw (upd_other (taken_up w o b).state o (restarted o m) i n, ne_eqb o i (λ e. n (sym e))) (same b)
      where
        same : (b : Underway) → ((taken_up w o b).state i).net.bits ≡ (w.state i).net.bits
        same nothing_begun = unfold taken_up in refl
        same (begun_report r room) = unfold taken_up in refl
        same (begun_delivery j room) = unfold taken_up with_link in refl

net_run : (w : World) (es : List WorldEvent) (i : ℕ) → AllAmong es
    → ((run w es).state i).net.bits ≡ net_by w es i (w.state i).net.bits
unfolding runs net_by
net_run w [] i m = refl
net_run w (e ∷ es) i m =
    net_run (next w e) es i (λ n f h. m (suc n) f (let a = h.0 in omega arith, h.1))
    ∙ ap (net_by (next w e) es i) (net_one_lem w e i (m 0 e (omega arith, refl)))

-- what changes it is a report to the office, or a cut of it
abbrev pub ReportOf : WorldEvent → ℕ → Type 0
ReportOf e i = (r : Report) × (room : ℕ) × (e ≡ report i r room)

abbrev pub CutOf : WorldEvent → ℕ → Type 0
CutOf e i = (b : Underway) × (left : ℕ) × (m : ℕ) × (e ≡ cut i b left m)

pub changing_report : (w : World) (e : WorldEvent) (i x : ℕ) → (net_one w e i x ≡ x → ⊥) → ReportOf e i ⊎ CutOf e i
changing_report w (delivery a b room) i x n = absurd (n refl)
changing_report w (loss a b place) i x n = absurd (n refl)
changing_report w (report o r room) i x n = go (eqb o i) refl
  where
    go : (t : Bool) → eqb o i ≡ t → ReportOf (report o r room) i ⊎ CutOf (report o r room) i
    go true e = inl (r, room, ap (λ (y : ℕ). report y r room) (eqb-true o i e))
    go false e = absurd (n (rw e))
changing_report w (cut o b left m) i x n = go (eqb o i) refl
  where
    go : (t : Bool) → eqb o i ≡ t → ReportOf (cut o b left m) i ⊎ CutOf (cut o b left m) i
    go true e = inr (b, left, m, ap (λ (y : ℕ). cut y b left m) (eqb-true o i e))
    go false e = absurd (n (rw e))

-- a report that leaves it writes nothing
pub unchanged_silent : (w : World) (o room : ℕ) (r : Report) → Among (report o r room)
    → ((next w (report o r room)).state o).net.bits ≡ (w.state o).net.bits → (report_answer w o r room).written ≡ []
unfolding next answered report_answer
unchanged_silent w o room r m e = go (take_cases o s (a_report r) room)
  where
    s : State
    s = w.state o

    go : Refused s (take_of o s (a_report r) room) ⊎ Takes o s (a_report r) room
        → (take_of o s (a_report r) room).written ≡ []
    go (inl f) = ap (λ (q : Result). q.written) f.is
    go (inr a) =
        let did : take_of o s (a_report r) room ≡ accepted (report_rule s r) = take_accepts o s (a_report r) room a in
        let same : net_after s.net.bits r ≡ s.net.bits
        = sym (report_net s r) ∙ ap (λ (q : Result). q.state.net.bits) (sym did)
        ∙ ap (λ (t : State). t.net.bits) (sym (upd_same w.state o (take_of o s (a_report r) room).state)) ∙ e in
        ap (λ (q : Result). q.written) did ∙ ap (λ (u : Outcome). u.written) (repeat_rule s r (net_repeat s r same))

-- by the reports of the list up to event n, and one event more
net_snoc : (w : World) (es : List WorldEvent) (e : WorldEvent) (i x : ℕ)
    → net_by w (es ++ (e ∷ [])) i x ≡ net_one (run w es) e i (net_by w es i x)
unfolding runs net_by
net_snoc w [] e i x = refl
net_snoc w (f ∷ es) e i x = net_snoc (next w f) es e i (net_one w f i x)

pub net_next : (w : World) (es : List WorldEvent) (n : ℕ) (e : WorldEvent) (i x : ℕ) → Nth es n e
    → net_by w (take (n + 1) es) i x ≡ net_one (at w es n) e i (net_by w (take n es) i x)
net_next w es n e i x h = rw (add-one, take-suc es n e h.0, h.1) (net_snoc w (take n es) e i x)

among_take : (es : List WorldEvent) (n : ℕ) → AllAmong es → AllAmong (take n es)
among_take es n m k e h =
    let a = length-take n es in
    let l = h.0 in
    m k e (omega arith, sym (get_or-take n es k e (omega arith)) ∙ h.1)

-- before event n of a run that the office began fresh
pub net_at_lem : (states : ℕ → State) (links : ℕ → ℕ → List Item) (es : List WorldEvent) (i : ℕ) → AllAmong es
    → states i ≡ fresh i
    → (n : ℕ) → ((at (at_first states links) es n).state i).net.bits ≡ net_by (at_first states links) (take n es) i 0
unfolding at_first
net_at_lem states links es i m f n =
    net_run (at_first states links) (take n es) i (among_take es n m)
    ∙ ap (net_by (at_first states links) (take n es) i) (ap (λ (s : State). s.net.bits) f ∙ (fresh_reads i).net_is)
