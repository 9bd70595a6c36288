-- Rows of things of several rooms, and what one room sees of them.
use mathlib.Core.Path.{◌≡◌, refl, ap}
use mathlib.Core.Bool.{Bool, true, false}
use mathlib.Core.List.{List, [], ◌∷◌, ◌++◌}
use Prim.Native.Nat.{ℕ}
use lib.Dec.{eqb}
use borrow.Author.Tests.{eq-eqb, ne_eqb}
use Rattle.laws.specs.Lists.{Every, none, more}
use Rattle.laws.specs.Upd.{ifb}
use Rattle.rooms.specs.Roomed.{Roomed, roomed, of_room}

module _ {A : Type 0} where
  -- what holds of each holds with any room
  pub every_roomed : {P : A → Type 0} (m : ℕ) {l : List A} → Every P l → Every (λ x. P x.what) (roomed m l)
  every_roomed m none = none
  every_roomed m (more h hs) = more h (every_roomed m hs)

module _ {A : Type 0} (k : ℕ) where
  pub room_append : (a b : List (Roomed A)) → of_room k (a ++ b) ≡ of_room k a ++ of_room k b
  unfolding of_room
  room_append [] b = refl
  room_append (x ∷ a) b = go (room_append a b) (eqb x.room k) refl
    where
      go : of_room k (a ++ b) ≡ of_room k a ++ of_room k b → (t : Bool) → eqb x.room k ≡ t
          → of_room k ((x ∷ a) ++ b) ≡ of_room k (x ∷ a) ++ of_room k b
      go h true e = rw e (ap (λ (l : List A). x.what ∷ l) h)
      go h false e = rw e h

  -- all are of room k; none is
  pub room_same : (m : ℕ) → m ≡ k → (l : List A) → of_room k (roomed m l) ≡ l
  unfolding of_room
  room_same m q [] = refl
  room_same m q (x ∷ l) = rw (eq-eqb m k q) (ap (λ (r : List A). x ∷ r) (room_same m q l))

  pub room_other : (m : ℕ) → (m ≡ k → ⊥) → (l : List A) → of_room k (roomed m l) ≡ []
  unfolding of_room
  room_other m n [] = refl
  room_other m n (x ∷ l) = rw (ne_eqb m k n) (room_other m n l)

  -- what holds of all holds of those of room k
  pub room_every : {P : A → Type 0} (l : List (Roomed A)) → Every (λ x. P x.what) l → Every P (of_room k l)
  unfolding of_room
  room_every [] none = none
  room_every {P} (x ∷ l) (more h hs) = go (room_every l hs) (eqb x.room k) refl
    where
      go : Every P (of_room k l) → (t : Bool) → eqb x.room k ≡ t
          → Every P (ifb (eqb x.room k) (x.what ∷ of_room k l) (of_room k l))
      go r true e = rw e (more h r)
      go r false e = rw e r
