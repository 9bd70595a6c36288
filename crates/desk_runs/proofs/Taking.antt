-- A seat that takes records of a room one after another and refuses none.
use mathlib.Core.Path.{◌≡◌, refl, ap, ◌∙◌}
use mathlib.Core.Bool.{true, false}
use mathlib.Core.List.{List, [], ◌∷◌, ◌++◌}
use Prim.Native.Nat.{ℕ, zero, suc, ◌≤◌, max}
use native.Mathlib.Omega.{arith}
use lib.ListN.{take}
use Rattle.laws.specs.Lists.{runs, Every, none, more}
use Rattle.rules.specs.Rules.{Written}
use Rattle.rules.specs.Leaving.{own_number}
use Rattle.rules.specs.Refusals.{bytes_of}
use Rattle.desk.specs.declared.checks.Desk.{Desk}
use Rattle.desk.specs.Hearing.{Heard, hear_of}
use Rattle.desk_runs.specs.Sent.{for_seat, sent_to, hearings, desk_after}

-- of a record the seat takes no number above the one that it gives out
pub record Notes (d : Desk) (w : Written) (e : Desk) : Type 0 where
  pub seat : e.seat ≡ d.seat
  pub start : e.start ≤ max d.start (own_number w)
  pub view : e.view ≤ max d.view (own_number w)

-- no number of the seat is above m
pub record DeskUpTo (seat : ℕ) (d : Desk) (m : ℕ) : Type 0 where
  pub is_seat_lem : d.seat ≡ seat
  pub start : d.start ≤ m
  pub view : d.view ≤ m

module _ (room seat : ℕ) where
  -- the seat d hears what is for it of the records, each is accepted, and it is e then
  pub data Hears : Desk → List Written → Desk → Type 0 where
    at_end : {d : Desk} → Hears d [] d
    passes : {d e : Desk} {w : Written} {ws : List Written} → for_seat seat w ≡ false → Hears d ws e
        → Hears d (w ∷ ws) e
    accepts : {d e f : Desk} {w : Written} {ws : List Written} → for_seat seat w ≡ true
        → hear_of d (bytes_of room w) ≡ record { refusal = 0; desk = e } → Notes d w e → Hears e ws f
        → Hears d (w ∷ ws) f

  pub hears_then : {d e f : Desk} {a b : List Written} → Hears d a e → Hears e b f → Hears d (a ++ b) f
  hears_then at_end q = q
  hears_then (passes n h) q = passes n (hears_then h q)
  hears_then (accepts y e n h) q = accepts y e n (hears_then h q)

  -- a front part of what is heard is heard
  pub hears_take : {d e : Desk} {ws : List Written} (k : ℕ) → Hears d ws e → (f : Desk) × Hears d (take k ws) f
  hears_take {d} zero h = (d, at_end)
  hears_take {d} (suc k) at_end = (d, at_end)
  hears_take (suc k) (passes n h) = let x = hears_take k h in (x.0, passes n x.1)
  hears_take (suc k) (accepts y e n h) = let x = hears_take k h in (x.0, accepts y e n x.1)

  -- a seat knows no number above those of the records
  pub hears_up_to : {d e : Desk} {ws : List Written} (m : ℕ) → Hears d ws e → DeskUpTo seat d m
      → Every (λ w. own_number w ≤ m) ws → DeskUpTo seat e m
  hears_up_to m at_end u none = u
  hears_up_to m (passes n h) u (more l ls) = hears_up_to m h u ls
  hears_up_to m (accepts y e n h) u (more l ls) =
      let a = u.start in
      let b = u.view in
      let c = n.start in
      let d = n.view in
      hears_up_to m h (record { is_seat_lem = n.seat ∙ u.is_seat_lem; start = omega arith; view = omega arith }) ls

  pub all_accepted : {d e : Desk} {ws : List Written} → Hears d ws e
      → Every (λ h. h.refusal ≡ 0) (hearings room d (sent_to seat ws))
  unfolding hearings sent_to
  all_accepted at_end = none
  all_accepted (passes n h) = rw n (all_accepted h)
  all_accepted (accepts y e n h) = rw (y, e) (more refl (all_accepted h))

  pub desk_then : {d e : Desk} {ws : List Written} → Hears d ws e → desk_after room d (sent_to seat ws) ≡ e
  unfolding sent_to runs
  desk_then at_end = refl
  desk_then (passes n h) = rw n (desk_then h)
  desk_then (accepts {ws} y e n h) =
      rw y (ap (λ (x : Heard). desk_after room x.desk (sent_to seat ws)) e ∙ desk_then h)
