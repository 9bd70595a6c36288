-- What actions make of a file: after any of them it is the whole marks and an unfinished one, and no record that left
-- has a number above the last.
use mathlib.Core.Path.{◌≡◌, refl, sym, ap, subst, ◌∙◌}
use mathlib.Core.Bool.{Bool, true, false}
use mathlib.Core.List.{List, [], ◌∷◌, ◌++◌, append_assoc, append-nil}
use Prim.Native.Nat.{ℕ, zero, suc, ◌+◌, ◌-◌, ◌≤◌, ◌<◌}
use native.Mathlib.Omega.{arith}
use native.Mathlib.Decide.{dec_lt}
use native.Mathlib.Numerals.{add-one}
use lib.ListN.{get_or, length, take, drop, length-append, length-take, length-drop, drop_of_length-le}
use lib.Seq.{take_at, take_all}
use lib.Dec.{ltb}
use borrow.Author.Tests.{ltb-true, ltb-false}
use Rattle.laws.specs.Lists.{Every, none, more}
use Rattle.laws.proofs.Lists.{every_append, every_map}
use Rattle.laws.specs.Upd.{ifb}
use Rattle.laws.proofs.Fin.{largest_below}
use Rattle.records.specs.Numbers.{limit}
use Rattle.records.specs.Layout.{high_length, encode_high}
use Rattle.rules.specs.MarkFile.{whole_end, all_high, last_in, last_high, good_file, next_high, high_bytes}
use Rattle.rule_laws.proofs.MarkFile.{flat, Whole, flat_snoc, last_snoc, all_high_snoc, high_number_lem, high_is}
use Rattle.rule_laws.proofs.MarkFile.{next_follows, whole_last, whole_end_lem, last_within}
use Rattle.rule_laws.proofs.MarkCount.{whole_passes}
use Rattle.rules.specs.State.{State, used_for}
use Rattle.rules.specs.Rules.{Written, notice, proposal, view}
use Rattle.rules.specs.Refusals.{Event, take_of}
use Rattle.rule_laws.proofs.Written.{RecordWithin, take_within}
use Rattle.rules.specs.Leaving.{largest_in, own_number, Action, puts, leaves, puts_all, actions_from, with_byte}
use Rattle.rules.specs.Leaving.{file_after, actions_of, left_in}

-- actions one after another
file_append : (f : List ℕ) (a b : List Action) → file_after f (a ++ b) ≡ file_after (file_after f a) b
unfolding file_after
file_append f [] b = refl
file_append f (puts p x ∷ a) b = file_append (with_byte f p x) a b
file_append f (leaves w ∷ a) b = file_append f a b

left_append : (a b : List Action) → left_in (a ++ b) ≡ left_in a ++ left_in b
unfolding left_in
left_append [] b = refl
left_append (puts p x ∷ a) b = left_append a b
left_append (leaves w ∷ a) b = ap (λ (l : List Written). w ∷ l) (left_append a b)

left_puts : (p : ℕ) (c : List ℕ) → left_in (puts_all p c) ≡ []
unfolding left_in puts_all
left_puts p [] = refl
left_puts p (x ∷ c) = left_puts (p + 1) c

length_puts : (p : ℕ) (c : List ℕ) → length (puts_all p c) ≡ length c
unfolding puts_all
length_puts p [] = refl
length_puts p (x ∷ c) = ap suc (length_puts (p + 1) c)

take_puts : (n p : ℕ) (c : List ℕ) → take n (puts_all p c) ≡ puts_all p (take n c)
unfolding puts_all
take_puts zero p c = refl
take_puts (suc n) p [] = refl
take_puts (suc n) p (x ∷ c) = ap (λ (l : List Action). puts p x ∷ l) (take_puts n (p + 1) c)

drop_more : (n : ℕ) (v : List ℕ) → drop n (drop 1 v) ≡ drop (suc n) v
drop_more zero [] = refl
drop_more (suc n) [] = refl
drop_more n (x ∷ v) = refl

-- bytes put one after another behind p overwrite what stood there
over_puts : (c p v : List ℕ) → file_after (p ++ v) (puts_all (length p) c) ≡ p ++ (c ++ drop (length c) v)
unfolding file_after puts_all
over_puts [] p v = refl
over_puts (x ∷ c) p v =
    let one : length (p ++ (x ∷ [])) ≡ length p + 1 = length-append p (x ∷ []) in
    let byte : with_byte (p ++ v) (length p) x ≡ (p ++ (x ∷ [])) ++ drop 1 v
    = rw (take_at p v (length p) refl, add-one (length p), drop_behind p v)
    (sym (append_assoc p (x ∷ []) (drop 1 v))) in
    ap (λ (f : List ℕ). file_after f (puts_all (length p + 1) c)) byte
    ∙ ap (λ (n : ℕ). file_after ((p ++ (x ∷ [])) ++ drop 1 v) (puts_all n c)) (sym one)
    ∙ over_puts c (p ++ (x ∷ [])) (drop 1 v)
    ∙ append_assoc p (x ∷ []) (c ++ drop (length c) (drop 1 v))
    ∙ ap (λ (l : List ℕ). p ++ (x ∷ (c ++ l))) (drop_more (length c) v)
  where
    drop_behind : (p v : List ℕ) → drop (suc (length p)) (p ++ v) ≡ drop 1 v
    drop_behind [] v = refl
    drop_behind (y ∷ p) v = drop_behind p v

-- the mark of a number, all of it and a part of it
module _ (f : List ℕ) (bs : List (List ℕ)) (t : List ℕ) (w : Whole f bs t) (n : ℕ) where
  abbrev mark : List ℕ
  mark = high_bytes n

  mark_length : length mark ≡ high_length
  unfolding high_bytes encode_high
  mark_length = refl

  part_put : (k : ℕ) → k < high_length
      → Whole (file_after f (puts_all (length (flat bs)) (take k mark))) bs (take k mark ++ drop k t)
  part_put k l =
      let e : length (take k mark) ≡ k = let a = length-take k mark in let b = mark_length in omega arith in
      record {
        is = ap (λ (x : List ℕ). file_after x (puts_all (length (flat bs)) (take k mark))) w.is
            ∙ over_puts (take k mark) (flat bs) t
            ∙ ap (λ (j : ℕ). flat bs ++ (take k mark ++ drop j t)) e;
        tens = w.tens;
        short = let a = length-append (take k mark) (drop k t) in let b = length-drop k t in let c = w.short in
            omega arith;
      }

  all_put : Whole (file_after f (puts_all (length (flat bs)) mark)) (bs ++ (mark ∷ [])) []
  all_put =
      let low : length t ≤ length mark = let a = w.short in let b = mark_length in omega arith in
      let gone : drop (length mark) t ≡ [] = drop_of_length-le t low in
      record {
        is = ap (λ (x : List ℕ). file_after x (puts_all (length (flat bs)) mark)) w.is ∙ over_puts mark (flat bs) t
            ∙ ap (λ (l : List ℕ). flat bs ++ (mark ++ l)) gone ∙ ap (λ (l : List ℕ). flat bs ++ l) (append-nil mark)
            ∙ sym (flat_snoc bs mark)
            ∙ sym (append-nil (flat (bs ++ (mark ∷ []))));
        tens = every_append w.tens (more mark_length none);
        short = omega arith;
      }

take_none : (n : ℕ) → take {A = Action} n [] ≡ []
take_none zero = refl
take_none (suc n) = refl

take_front : (n : ℕ) (a b : List Action) → n ≤ length a → take n (a ++ b) ≡ take n a
take_front zero a b l = refl
take_front (suc n) [] b l = absurd (omega arith)
take_front (suc n) (x ∷ a) b l = ap (λ (k : List Action). x ∷ k) (take_front n a b (omega arith))

take_past : (n : ℕ) (a b : List Action) → take (length a + n) (a ++ b) ≡ a ++ take n b
take_past n [] b = let e : 0 + n ≡ n = omega arith in rw e
take_past n (x ∷ a) b = let e : suc (length a) + n ≡ suc (length a + n) = omega arith in
    rw e (ap (λ (k : List Action). x ∷ k) (take_past n a b))

-- after some actions for the records ws: the marks, what is unfinished, and which records have left
record LeavesFrom (f : List ℕ) (last : ℕ) (ws : List Written) (done : List Action) : Type 0 where
  marks : List (List ℕ)
  rest : List ℕ
  whole : Whole (file_after f done) marks rest
  good : all_high 0 marks ≡ true
  ended : last_in 0 marks ≡ limit → rest ≡ []
  rises : last ≤ last_in 0 marks
  front : left_in done ≡ take (length (left_in done)) ws
  covered : Every (λ w. largest_in w ≤ last_in 0 marks) (left_in done)

-- behind bytes that were put
after_puts : (f : List ℕ) (place : ℕ) (c : List ℕ) (low last : ℕ) (ws : List Written) (done : List Action) → low ≤ last
    → LeavesFrom (file_after f (puts_all place c)) last ws done → LeavesFrom f low ws (puts_all place c ++ done)
after_puts f place c low last ws done l x =
    let e : left_in (puts_all place c ++ done) ≡ left_in done = left_append (puts_all place c) done
    ∙ ap (λ (k : List Written). k ++ left_in done) (left_puts place c) in
    let r = x.rises in
    record {
      marks = x.marks;
      rest = x.rest;
      whole = rw (file_append f (puts_all place c) done) x.whole;
      good = x.good;
      ended = x.ended;
      rises = omega arith;
      front = rw e x.front;
      covered = rw e x.covered;
    }

-- whatever number of actions is done
leaves_from : (ws : List Written) (f : List ℕ) (bs : List (List ℕ)) (t : List ℕ) → Whole f bs t
    → all_high 0 bs ≡ true → (last_in 0 bs ≡ limit → t ≡ [])
    → Every (λ w. largest_in w ≤ limit) ws → (n : ℕ)
    → LeavesFrom f (last_in 0 bs) ws (take n (actions_from (last_in 0 bs) (length (flat bs)) ws))
unfolding actions_from file_after left_in
leaves_from [] f bs t w g z none n =
    rw (take_none n) (record {
      marks = bs;
      rest = t;
      whole = w;
      good = g;
      ended = z;
      rises = omega arith;
      front = refl;
      covered = none;
    })
leaves_from (v ∷ ws) f bs t w g z (more l ls) n =
    go (ltb last (largest_in v)) refl
    (λ (f : List ℕ) (bs : List (List ℕ)) (t : List ℕ) (w : Whole f bs t) (g : all_high 0 bs ≡ true)
    (z : last_in 0 bs ≡ limit → t ≡ []) (n : ℕ). leaves_from ws f bs t w g z ls n) n
  where
    last : ℕ
    last = last_in 0 bs

    m : ℕ
    m = next_high (largest_in v)

    place : ℕ
    place = length (flat bs)

    Later : Type 0
    Later = (f : List ℕ) (bs : List (List ℕ)) (t : List ℕ) → Whole f bs t → all_high 0 bs ≡ true
        → (last_in 0 bs ≡ limit → t ≡ []) → (n : ℕ)
        → LeavesFrom f (last_in 0 bs) ws (take n (actions_from (last_in 0 bs) (length (flat bs)) ws))

    -- the record leaves, where the last mark is not below its numbers
    one : (f : List ℕ) (bs : List (List ℕ)) (t : List ℕ) → Whole f bs t → all_high 0 bs ≡ true
        → (last_in 0 bs ≡ limit → t ≡ []) → largest_in v ≤ last_in 0 bs → Later → (n : ℕ)
        → LeavesFrom f (last_in 0 bs) (v ∷ ws) (take n (leaves v ∷ actions_from (last_in 0 bs) (length (flat bs)) ws))
    one f bs t w g z h later zero =
        record {
          marks = bs;
          rest = t;
          whole = w;
          good = g;
          ended = z;
          rises = omega arith;
          front = refl;
          covered = none;
        }
    one f bs t w g z h later (suc n) =
        let x = later f bs t w g z n in
        let r = x.rises in
        let c : largest_in v ≤ last_in 0 x.marks = omega arith in
        record {
          marks = x.marks;
          rest = x.rest;
          whole = x.whole;
          good = x.good;
          ended = x.ended;
          rises = x.rises;
          front = ap (λ (k : List Written). v ∷ k) x.front;
          covered = more c x.covered;
        }

    -- a mark goes before it
    marked : last < largest_in v → Later → (n : ℕ)
        → LeavesFrom f last (v ∷ ws)
        (take n (puts_all place (high_bytes m) ++ (leaves v ∷ actions_from m (place + high_length) ws)))
    marked h later n = by (dec_lt n high_length)
      where
        rest_of : List Action
        rest_of = leaves v ∷ actions_from m (place + high_length) ws

        ten : length (puts_all place (high_bytes m)) ≡ high_length
        ten = length_puts place (high_bytes m) ∙ mark_length f bs t w m

        next : (all_high 0 (bs ++ (high_bytes m ∷ [])) ≡ true) × (last_in 0 (bs ++ (high_bytes m ∷ [])) ≡ m)
            × (length (flat (bs ++ (high_bytes m ∷ []))) ≡ place + high_length)
        next =
            let f = next_follows last (largest_in v) h l in (
              all_high_snoc 0 bs (high_bytes m) g (high_is last m f.2 f.0),
              last_snoc 0 bs (high_bytes m) ∙ high_number_lem m f.2,
              ap length (flat_snoc bs (high_bytes m)) ∙ length-append (flat bs) (high_bytes m)
                  ∙ ap (λ (k : ℕ). place + k) (mark_length f' bs t w m),
            )
          where
            f' : List ℕ
            f' = f

        by : Dec (n < high_length) → LeavesFrom f last (v ∷ ws) (take n (puts_all place (high_bytes m) ++ rest_of))
        by (yes k) =
            rw (
              take_front n (puts_all place (high_bytes m)) rest_of (let a = ten in omega arith),
              take_puts n place (high_bytes m),
            )
            (record {
              marks = bs;
              rest = take n (high_bytes m) ++ drop n t;
              whole = part_put f bs t w m n k;
              good = g;
              ended = λ e. absurd (omega arith);
              rises = omega arith;
              front = rw (left_puts place (take n (high_bytes m)));
              covered = rw (left_puts place (take n (high_bytes m))) none;
            })
        by (no k) =
            let j = n - high_length in
            let a = ten in
            let e : n ≡ length (puts_all place (high_bytes m)) + j = omega arith in
            let nx = next in
            let q = next_follows last (largest_in v) h l in
            let q1 = q.1 in
            let bs2 = bs ++ (high_bytes m ∷ []) in
            let e1 = nx.1 in
            let x = one (file_after f (puts_all place (high_bytes m))) bs2 [] (all_put f bs t w m) nx.0 (λ e. refl)
            (omega arith) later j in
            let y : LeavesFrom (file_after f (puts_all place (high_bytes m))) m (v ∷ ws) (take j rest_of)
            = rw (nx.1, nx.2) at x in
            rw (e, take_past j (puts_all place (high_bytes m)) rest_of)
            (after_puts f place (high_bytes m) last m (v ∷ ws) (take j rest_of) (omega arith) y)

    go : (u : Bool) → ltb last (largest_in v) ≡ u → Later → (n : ℕ)
        → LeavesFrom f last (v ∷ ws)
        (take n (ifb u (puts_all place (high_bytes m) ++ (leaves v ∷ actions_from m (place + high_length) ws))
        (leaves v ∷ actions_from last place ws)))
    go true e later n = marked (ltb-true last (largest_in v) e) later n
    go false e later n = one f bs t w g z (ltb-false last (largest_in v) e) later n

-- all of them: every record leaves
left_all : (last place : ℕ) (ws : List Written) → left_in (actions_from last place ws) ≡ ws
unfolding actions_from left_in
left_all last place [] = refl
left_all last place (v ∷ ws) =
    go (ltb last (largest_in v)) (left_all (next_high (largest_in v)) (place + high_length) ws)
    (left_all last place ws)
  where
    m : ℕ
    m = next_high (largest_in v)

    go : (u : Bool) → left_in (actions_from m (place + high_length) ws) ≡ ws → left_in (actions_from last place ws) ≡ ws
        → left_in (ifb u (puts_all place (high_bytes m) ++ (leaves v ∷ actions_from m (place + high_length) ws))
        (leaves v ∷ actions_from last place ws)) ≡ v ∷ ws
    go true x y = left_append (puts_all place (high_bytes m)) _
        ∙ ap (λ (k : List Written). k ++ (v ∷ left_in (actions_from m (place + high_length) ws)))
        (left_puts place (high_bytes m))
        ∙ ap (λ (k : List Written). v ∷ k) x
    go false x y = ap (λ (k : List Written). v ∷ k) y

-- A file as an office keeps it: whole marks, each such a mark, and an unfinished one, none behind L.
pub record MarksInOrder (f : List ℕ) : Type 0 where
  pub marks : List (List ℕ)
  pub rest : List ℕ
  pub whole : Whole f marks rest
  pub good : all_high 0 marks ≡ true
  pub ended : last_in 0 marks ≡ limit → rest ≡ []

pub no_marks_lem : MarksInOrder []
no_marks_lem = record {
  marks = [];
  rest = [];
  whole = record { is = refl; tens = none; short = omega arith };
  good = unfold all_high in refl;
  ended = λ e. refl;
}

module _ (f : List ℕ) (o : MarksInOrder f) where
  -- it passes 18, and its last mark is not above L
  pub order_passes : good_file f ≡ true
  order_passes = whole_passes f o.marks o.rest o.whole o.good o.ended

  order_last : last_high f ≡ last_in 0 o.marks
  order_last = whole_last f o.marks o.rest o.whole

  pub order_within : last_high f ≤ limit
  order_within = rw order_last (last_within 0 o.marks (omega arith) o.good)

-- after some actions: the file is in order, its last mark has not fallen, what left is a front part of the answer, and
-- no number of it is above the last mark
record SomeLeft (f : List ℕ) (ws : List Written) (done : List Action) : Type 0 where
  order : MarksInOrder (file_after f done)
  rises : last_high f ≤ last_high (file_after f done)
  front : left_in done ≡ take (length (left_in done)) ws
  covered : Every (λ w. largest_in w ≤ last_high (file_after f done)) (left_in done)

-- whatever number of actions is done
some_left : (f : List ℕ) (ws : List Written) → MarksInOrder f → Every (λ w. largest_in w ≤ limit) ws → (n : ℕ)
    → SomeLeft f ws (take n (actions_of f ws))
some_left f ws o low n =
    let g = file_after f (take n (actions_of f ws)) in
    let b = order_last f o in
    let x : LeavesFrom f (last_in 0 o.marks) ws (take n (actions_of f ws))
    = rw (b, whole_end_lem f o.marks o.rest o.whole)
    (leaves_from ws f o.marks o.rest o.whole o.good o.ended low n) in
    let after : MarksInOrder g
    = record { marks = x.marks; rest = x.rest; whole = x.whole; good = x.good; ended = x.ended } in
    let a = order_last g after in
    let r = x.rises in
    record {
      order = after;
      rises = omega arith;
      front = x.front;
      covered = rw a x.covered;
    }

-- the number that a record gives out is one of its numbers, and none of a record that an event taken writes is above L
pub own_largest : (w : Written) → own_number w ≤ largest_in w
own_largest (notice n) = omega arith
own_largest (proposal p) = omega arith
own_largest (view v) = omega arith

pub take_largest : (office : ℕ) (s : State) (e : Event) (output : ℕ)
    → Every (λ w. largest_in w ≤ limit) (take_of office s e output).written
take_largest office s e output = every_map within (take_within office s e output)
  where
    within : (w : Written) → RecordWithin w → largest_in w ≤ limit
    within (notice n) h = h
    within (proposal p) h = let a = h.start in let b = h.number in
        let c = largest_below 16 (used_for p) limit h.used in omega arith
    within (view v) h = let a = h.0 in let c = largest_below 16 (λ o. get_or v.starts o 0) limit h.1 in
        omega arith

-- Of all that has left, l, no number is above the last mark of the file.
pub record Covering {X : Type 0} (what : X → Written) (f : List ℕ) (l : List X) : Type 0 where
  pub order : MarksInOrder f
  pub covered : Every (λ x. largest_in (what x) ≤ last_high f) l

-- so an office begins again at or above every number that it gave out, and not above L
pub covering_above : {X : Type 0} (what : X → Written) (f : List ℕ) (l : List X) → Covering what f l
    → Every (λ x. own_number (what x) ≤ last_high f) l × (last_high f ≤ limit)
covering_above what f l c =
    (every_map (λ x e. let o = own_largest (what x) in omega arith) c.covered, order_within f c.order)

-- Some or all of an answer leave: they join what had left, l, in whatever form that is kept, and the file covers them.
module _ {X : Type 0} (what : X → Written) (l : List X) (join : List Written → List X)
    (joins : (P : Written → Type 0) (us : List Written) → Every P us → Every (λ x. P (what x)) l
    → Every (λ x. P (what x)) (join us))
    (f : List ℕ) (ws : List Written) (c : Covering what f l) (low : Every (λ w. largest_in w ≤ limit) ws) where
  pub part_covers : (n : ℕ) → let done = take n (actions_of f ws) in (left_in done ≡ take (length (left_in done)) ws)
      × Covering what (file_after f done) (join (take (length (left_in done)) ws))
  part_covers n =
      let x = some_left f ws c.order low n in
      let r = x.rises in
      let P : Written → Type 0 = λ w. largest_in w ≤ last_high (file_after f (take n (actions_of f ws))) in (
        x.front,
        record {
          order = x.order;
          covered = joins P _ (subst (Every P) x.front x.covered) (every_map (λ y e. omega arith) c.covered);
        },
      )

  pub all_covers : (left_in (actions_of f ws) ≡ ws) × Covering what (file_after f (actions_of f ws)) (join ws)
  all_covers =
      let n = length (actions_of f ws) in
      let e : take n (actions_of f ws) ≡ actions_of f ws = take_all n (actions_of f ws) (omega arith) in
      let left : left_in (actions_of f ws) ≡ ws = left_all (last_high f) (whole_end f) ws in
      let y : take (length ws) ws ≡ ws = take_all (length ws) ws (omega arith) in
      (left, rw (e, left, y) at (part_covers n).1)
