-- Counting: over the links between offices of A, over the offices of A, over round numbers.
use mathlib.Core.Path.{◌≡◌, refl, sym, ap}
use mathlib.Core.Bool.{Bool, true, false, ◌&&◌, not}
use mathlib.Core.List.{List, [], ◌∷◌, ◌++◌, Memᴰ}
use Prim.Native.Nat.{ℕ, zero, suc, ◌+◌, ◌-◌, ◌*◌, ◌≤◌, ◌<◌}
use native.Mathlib.Omega.{arith}
use native.Mathlib.Decide.{ℕ_discrete}
use lib.ListN.{length}
use lib.Dec.{eqb, ltb}
use borrow.Author.Tests.{ltb-true, ltb-false, ne_eqb, lt-ltb, le-ltb}
use Rattle.laws.specs.Upd.{upd, ifb, upd2}
use Rattle.laws.proofs.Upd.{upd_same, upd_other}
use Rattle.laws.specs.Fin.{sum}
use Rattle.laws.proofs.Fin.{sum_ext, sum_one, sum_add, sum_times, sum_mono, if_le}
use Rattle.seats.specs.Offices.{serves, count_of}
use Rattle.seats.proofs.Counts.{count_sum, others_count}
use Rattle.runs.specs.World.{Item, without}
use Rattle.settling.specs.Statement.{between, on_way}

-- from an office of A there is a link to each of the others
links_count : (A me : ℕ) → (me < 16) × (serves A me ≡ true) → sum 16 (λ j. ifb (between A me j) 1 0) ≡ count_of A - 1
links_count A me h =
    let z = others_count A me h.0 h.1 in
    let e = sum_ext 16 (λ j. ifb (between A me j) 1 0) (λ j. ifb (serves A j && not (eqb j me)) 1 0)
    (λ j l. same j (ℕ_discrete j me)) in
    omega arith
  where
    same : (j : ℕ) → Dec (j ≡ me) → ifb {A = ℕ} (between A me j) 1 0 ≡ ifb (serves A j && not (eqb j me)) 1 0
    same j (yes e) = rw (h.1, e)
    same j (no n) = rw (h.1, ne_eqb me j (λ e. n (sym e)), ne_eqb j me n)

module _ (A : ℕ) (w : List Item → ℕ) where
  -- a measure w of the links from i to the other offices of A, and of all links between offices of A
  row_of : ℕ → (ℕ → List Item) → ℕ
  row_of i row = sum 16 (λ j. ifb (between A i j) (w (row j)) 0)

  pub total : (ℕ → ℕ → List Item) → ℕ
  total link = sum 16 (λ i. row_of i (link i))

  -- where the links from one office change
  total_row : (link : ℕ → ℕ → List Item) (me : ℕ) (row : ℕ → List Item) → me < 16
      → total (upd link me row) + row_of me (link me) ≡ total link + row_of me row
  unfolding total
  total_row link me row h =
      let e = sum_one 16 (λ i. row_of i (upd link me row i)) (λ i. row_of i (link i)) me h
      (λ k lt n. ap (row_of k) (upd_other link me row k n)) in
      let a : row_of me (upd link me row me) ≡ row_of me row = ap (row_of me) (upd_same link me row) in
      omega arith

  -- where one link changes
  total_at : (link : ℕ → ℕ → List Item) (i j : ℕ) (l : List Item) → i < 16 → j < 16
      → total (upd2 link i j l) + ifb (between A i j) (w (link i j)) 0 ≡ total link + ifb (between A i j) (w l) 0
  unfolding row_of
  total_at link i j l hi hj =
      let a = total_row link i (upd (link i) j l) hi in
      let term : ℕ → List Item → ℕ = λ k x. ifb (between A i k) (w x) 0 in
      let b = sum_one 16 (λ k. term k (upd (link i) j l k)) (λ k. term k (link i k)) j hj
      (λ k lt n. ap (term k) (upd_other (link i) j l k n)) in
      let c : term j (upd (link i) j l j) ≡ term j l = ap (term j) (upd_same (link i) j l) in
      omega arith

  pub total_link : (link : ℕ → ℕ → List Item) (i j : ℕ) (l : List Item) → (i < 16) × (serves A i ≡ true)
      → (j < 16) × (serves A j ≡ true)
      → (i ≡ j → ⊥) → total (upd2 link i j l) + w (link i j) ≡ total link + w l
  total_link link i j l hi hj n =
      let b : between A i j ≡ true = rw (hi.1, hj.1, ne_eqb i j n) in
      rw b at (total_at link i j l hi.0 hj.0)

  pub total_else : (link : ℕ → ℕ → List Item) (i j : ℕ) (l : List Item) → i < 16 → j < 16 → between A i j ≡ false
      → total (upd2 link i j l) ≡ total link
  total_else link i j l hi hj a = let e : total (upd2 link i j l) + 0 ≡ total link + 0 =
      rw a at (total_at link i j l hi hj) in omega arith

  -- where each link from one office to another grows by c
  pub total_grow : (link : ℕ → ℕ → List Item) (me : ℕ) (row : ℕ → List Item) (c : ℕ) → (me < 16) × (serves A me ≡ true)
      → ((j : ℕ) → between A me j ≡ true → w (row j) ≡ w (link me j) + c)
      → total (upd link me row) ≡ total link + (count_of A - 1) * c
  unfolding row_of
  total_grow link me row c h e =
      let a = total_row link me row h.0 in
      let b : sum 16 (λ j. ifb (between A me j) (w (row j)) 0)
      ≡ sum 16 (λ j. ifb (between A me j) (w (link me j)) 0 + ifb (between A me j) c 0)
      = sum_ext 16 _ _ (λ j lt. each j (between A me j) (e j)) in
      let d = sum_add 16 (λ j. ifb (between A me j) (w (link me j)) 0) (λ j. ifb (between A me j) c 0) in
      let f : sum 16 (λ j. ifb (between A me j) c 0) ≡ (count_of A - 1) * c =
      rw (links_count A me h) at (sum_times 16 (between A me) c) in
      omega arith
    where
      each : (j : ℕ) (t : Bool) → (t ≡ true → w (row j) ≡ w (link me j) + c)
          → ifb t (w (row j)) 0 ≡ ifb t (w (link me j)) 0 + ifb t c 0
      each j true e = e refl
      each j false e = omega arith

module _ (A : ℕ) where
  pub total_mono : (w v : List Item → ℕ) (link : ℕ → ℕ → List Item) → ((l : List Item) → w l ≤ v l)
      → total A w link ≤ total A v link
  unfolding total row_of
  total_mono w v link h = sum_mono 16 _ _ (λ i hi. sum_mono 16 _ _ (λ j hj. each i j (between A i j)))
    where
      each : (i j : ℕ) (t : Bool) → ifb t (w (link i j)) 0 ≤ ifb t (v (link i j)) 0
      each i j true = h (link i j)
      each i j false = omega arith

  pub total_length : (link : ℕ → ℕ → List Item) → total A length link ≡ on_way A link
  unfolding total row_of
  total_length link = refl

  -- a sum over the offices of A
  pub over : (ℕ → ℕ) → ℕ
  over f = sum 16 (λ i. ifb (serves A i) (f i) 0)

  -- where one office changes
  pub over_one : (f g : ℕ → ℕ) (me : ℕ) → (me < 16) × (serves A me ≡ true) → ((k : ℕ) → (k ≡ me → ⊥) → f k ≡ g k)
      → over f + g me ≡ over g + f me
  unfolding over
  over_one f g me h e =
      let a = sum_one 16 (λ i. ifb (serves A i) (f i) 0) (λ i. ifb (serves A i) (g i) 0) me h.0
      (λ k lt n. ap (λ (v : ℕ). ifb (serves A k) v 0) (e k n)) in
      let b : ifb (serves A me) (f me) 0 ≡ f me = rw h.1 in
      let c : ifb (serves A me) (g me) 0 ≡ g me = rw h.1 in
      omega arith

  pub over_bound : (f : ℕ → ℕ) (c : ℕ) → ((i : ℕ) → (i < 16) × (serves A i ≡ true) → f i ≤ c) → over f ≤ count_of A * c
  unfolding over
  over_bound f c h =
      let a = sum_mono 16 (λ i. ifb (serves A i) (f i) 0) (λ i. ifb (serves A i) c 0)
      (λ i hi. each i (serves A i) (λ s. h i (hi, s))) in
      let b : sum 16 (λ i. ifb (serves A i) c 0) ≡ count_of A * c = rw (← count_sum A) at (sum_times 16 (serves A) c) in
      omega arith
    where
      each : (i : ℕ) (t : Bool) → (t ≡ true → f i ≤ c) → ifb t (f i) 0 ≤ ifb t c 0
      each i true h = h refl
      each i false h = omega arith

-- the items sent before T
module _ (T : ℕ) where
  abbrev pub is_old : Item → ℕ
  is_old x = ifb (ltb x.sent T) 1 0

  unfoldable pub older : List Item → ℕ
  older [] = 0
  older (x ∷ l) = is_old x + older l

  pub older_length : (l : List Item) → older l ≤ length l
  unfolding older
  older_length [] = omega arith
  older_length (x ∷ l) = let a = older_length l in
      let b = if_le (ltb x.sent T) 1 0 1 (omega arith) (omega arith) in omega arith

  -- what is added now is not old
  pub older_snoc : (l : List Item) (x : Item) → T ≤ x.sent → older (l ++ (x ∷ [])) ≡ older l
  unfolding older
  older_snoc [] x h = rw (le-ltb x.sent T h)
  older_snoc (y ∷ l) x h = let a = older_snoc l x h in omega arith

  pub older_without : (n : ℕ) (l : List Item) → older (without n l) ≤ older l
  unfolding older
  older_without n [] = omega arith
  older_without zero (x ∷ l) = omega arith
  older_without (suc n) (x ∷ l) = let a = older_without n l in omega arith

pub length_without : (n : ℕ) (l : List Item) → length (without n l) ≤ length l
length_without n [] = omega arith
length_without zero (x ∷ l) = omega arith
length_without (suc n) (x ∷ l) = let a = length_without n l in omega arith

-- the entries of a list that are at most n
unfoldable pub up_to : ℕ → List ℕ → ℕ
up_to n [] = 0
up_to n (m ∷ r) = ifb (ltb n m) 0 1 + up_to n r

pub up_to_length : (n : ℕ) (r : List ℕ) → up_to n r ≤ length r
unfolding up_to
up_to_length n [] = omega arith
up_to_length n (m ∷ r) = let a = up_to_length n r in let b = if_le (ltb n m) 0 1 1 (omega arith) (omega arith) in
    omega arith

up_to_entry : (n m x : ℕ) → n ≤ m → ifb {A = ℕ} (ltb n x) 0 1 ≤ ifb (ltb m x) 0 1
up_to_entry n m x h = go (ltb n x) (ltb m x) refl refl
  where
    go : (s t : Bool) → ltb n x ≡ s → ltb m x ≡ t → ifb {A = ℕ} s 0 1 ≤ ifb t 0 1
    go true t a b = omega arith
    go false false a b = omega arith
    go false true a b = absurd (omega (arith, ltb-false, ltb-true))

up_to_mono : (n m : ℕ) (r : List ℕ) → n ≤ m → up_to n r ≤ up_to m r
unfolding up_to
up_to_mono n m [] h = omega arith
up_to_mono n m (x ∷ r) h = let a = up_to_mono n m r h in let b = up_to_entry n m x h in omega arith

-- one more, up to an entry
pub up_to_entered : {n m : ℕ} {r : List ℕ} → Memᴰ m r → n < m → 1 + up_to n r ≤ up_to m r
unfolding up_to
up_to_entered {n} {m} (Memᴰ.head {x = x} {xs = r} e) h =
    let a : ifb {A = ℕ} (ltb n x) 0 1 ≡ 0 = rw (lt-ltb n x (omega arith)) in
    let b : ifb {A = ℕ} (ltb m x) 0 1 ≡ 1 = rw (le-ltb m x (omega arith)) in
    let c : n ≤ m = omega arith in
    let d = up_to_mono n m r c in
    omega arith
up_to_entered {n} {m} (Memᴰ.tail {x = x} e) h =
    let a = up_to_entered e h in
    let c : n ≤ m = omega arith in
    let b = up_to_entry n m x c in
    omega arith
