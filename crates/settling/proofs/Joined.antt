-- A slow proposal that answers a slow one joins its round.
use mathlib.Core.Path.{◌≡◌, refl, sym, ap}
use mathlib.Core.List.{List, ◌∷◌}
use Prim.Native.Nat.{ℕ, ◌≤◌, ◌<◌}
use native.Mathlib.Omega.{arith}
use native.Mathlib.Decide.{ℕ_discrete}
use Rattle.laws.proofs.Lists.{every_head}
use Rattle.laws.proofs.Upd.{upd_same, upd_other}
use Rattle.records.specs.declared.Proposal.{Proposal}
use Rattle.rules.specs.State.{Mode, None, Fast, Slow, fast, slow, kind_of, keeping, used_for}
use Rattle.runs.specs.World.{Item}
use Rattle.runs.proofs.Arrays.{Offices, receive, Match, other, Calls, in_mode_none, heard_slow, is_used, heard_above}
use Rattle.runs.proofs.Arrays.{Joinable, Chosen, joins, starts}
use Rattle.settling.specs.Statement.{OfA}
use Rattle.settling.proofs.Invariants.{Done, Inv}
use Rattle.runs.proofs.Links.{rising_head}

-- what is stored after an arrival
arrived : (g : Offices) (me i : ℕ) (p : Proposal) (l : List Item) → (receive g me i p l).stored me i ≡ keeping p
unfolding receive
arrived g me i p l = rw (upd_same g.stored me, upd_same (g.stored me) i (keeping p))

arrived_else : (g : Offices) (me i : ℕ) (p : Proposal) (l : List Item) (o : ℕ) → (o ≡ i → ⊥)
    → (receive g me i p l).stored me o ≡ g.stored me o
unfolding receive
arrived_else g me i p l o n = rw (upd_same g.stored me, upd_other (g.stored me) i (keeping p) o n)

-- the item x arrives at office me from office i of A, and matches
pub record Matched (A : ℕ) (last : ℕ → ℕ) (t : ℕ) (g : Offices) (me i : ℕ) (p : Proposal) (l : List Item)
    (x : Item) : Type 0 where
  pub at : Done A last t me
  pub from : OfA A i
  pub others : i ≡ me → ⊥
  pub oldest : g.link i me ≡ x ∷ l
  pub same : x.proposal ≡ p
  pub matches : p.members.bits ≡ g.net me

module _
    {A : ℕ} {last : ℕ → ℕ} {t : ℕ} {g : Offices} {me i : ℕ} {p : Proposal} {l : List Item} {x : Item}
    (inv : Inv A last t g)
    (a : Matched A last t g me i p l x) (its-kind : p.kind ≡ slow) (own_kind : (g.made me).kind ≡ slow)
  where
    abbrev after : Offices
    after = receive g me i p l

    busy : g.mode me ≡ Slow → g.mode me ≡ None → ⊥
    busy e n = let z : ◌≡◌ {A = ℕ} 0 1 = cc in omega arith

    not_fast : g.mode me ≡ Fast → ⊥
    not_fast e =
        let n : (g.mode me ≡ None → ⊥) = λ n. let z : ◌≡◌ {A = ℕ} 0 1 = cc in omega arith in
        let c = inv.core.rounds.own_kind me a.at n in
        let b : kind_of (g.mode me) ≡ fast = ap kind_of e in
        omega arith

    -- no other stored proposal calls or can be joined
    others_low : (o : ℕ) → o < 16 → (o ≡ me → ⊥) → Match g me o → (other g me o).kind ≡ slow
        → (other g me o).number ≤ g.num me
    others_low o ho n m k = go (g.mode me) refl
      where
        go : (v : Mode) → g.mode me ≡ v → (other g me o).number ≤ g.num me
        go None e = absurd ((inv.tested me a.at).in_mode_none e o ho n m)
        go Fast e = absurd (not_fast e)
        go Slow e = ((inv.tested me a.at).quiet (busy e)).not_above_lem e o ho n m k

    others_unused : (o : ℕ) → o < 16 → (o ≡ me → ⊥) → Match g me o → used_for (other g me o) me ≡ g.num me → ⊥
    others_unused o ho n m u = go (g.mode me) refl
      where
        go : (v : Mode) → g.mode me ≡ v → ⊥
        go None e = (inv.tested me a.at).in_mode_none e o ho n m
        go Fast e = not_fast e
        go Slow e = ((inv.tested me a.at).quiet (busy e)).not_used o ho n m u

    -- the item is above the own number
    x_above : Calls after me → g.num me < p.number
    unfolding receive
    x_above (in_mode_none e) =
        let u = inv.core.rounds.slow_used me i a.at a.from (λ z. a.others (sym z)) e own_kind in
        let b = inv.core.numbers.used_acc i me a.from a.at.0 a.others in
        let v = inv.core.numbers.acc_got i me a.from a.at.0 a.others in
        let c = rising_head (rw a.oldest at (inv.core.numbers.rising i me a.from a.at.0 a.others)) in
        let d : x.proposal.number ≡ p.number = ap (λ (q : Proposal). q.number) a.same in
        omega arith
    x_above (heard_slow e o ho n m k) = absurd (not_fast e)
    x_above (is_used o ho n m u) = go (ℕ_discrete o i)
      where
        go : Dec (o ≡ i) → g.num me < p.number
        go (yes e) =
            let s : after.stored me o ≡ keeping p = rw e (arrived g me i p l) in
            let f = every_head
            (rw a.oldest at (inv.core.rounds.tells_above me i a.at a.from (λ z. a.others (sym z))
            own_kind)) in
            let b : used_for p me ≡ g.num me = rw (s, other) at u in
            rw a.same at (f (rw a.same b))
        go (no e) = absurd
            (others_unused o ho n (rw (arrived_else g me i p l o e) at m)
            (rw (arrived_else g me i p l o e, other) at u))
    x_above (heard_above e o ho n m k c) = go (ℕ_discrete o i)
      where
        go : Dec (o ≡ i) → g.num me < p.number
        go (yes e) =
            let s : after.stored me o ≡ keeping p = rw e (arrived g me i p l) in
            rw (s, other) at c
        go (no e) =
            let b = others_low o ho n (rw (arrived_else g me i p l o e) at m)
            (rw (arrived_else g me i p l o e, other) at k) in
            let d : g.num me < (other g me o).number = rw (arrived_else g me i p l o e, other) at c in
            omega arith

    only_x : (o : ℕ) → Joinable after me o → o ≡ i
    unfolding receive
    only_x o j = go (ℕ_discrete o i)
      where
        go : Dec (o ≡ i) → o ≡ i
        go (yes e) = e
        go (no e) =
            let j' : Joinable g me o = rw (arrived_else g me i p l o e, other) at j in
            let b = others_low o j'.0 j'.1 j'.2 j'.3 in
            let c = j'.4 in
            omega arith

    -- so it is joined
    pub joined : {n : ℕ} → Calls after me → Chosen after me n → n ≡ p.number
    unfolding receive
    joined c (joins o j e max) =
        let s : after.stored me o ≡ keeping p = rw (only_x o j) (arrived g me i p l) in
        rw (s, other) at e
    joined c (starts z) =
        let j : Joinable after me i =
        rw (arrived g me i p l, other) (a.from.0, a.others, (refl, a.matches), its-kind, x_above c) in
        absurd (z i j)
