-- sheet_pass: a record that counts, and what is found after one record more.
use mathlib.Core.Path.{◌≡◌, refl, sym, ◌∙◌}
use mathlib.Core.Bool.{Bool, true, false, not, ◌&&◌, ◌||◌, and-true, and-false, or-false}
use mathlib.Core.List.{List, [], ◌∷◌, ◌++◌}
use Prim.Native.Nat.{ℕ, ◌^◌, ◌<◌}
use native.Mathlib.Omega.{arith}
use native.Mathlib.Decide.{ℕ_discrete}
use lib.Dec.{eqb}
use borrow.Author.Tests.{eq-eqb, ne_eqb}
use Rattle.laws.specs.Upd.{ifb}
use Rattle.laws.proofs.Fin.{if_cases}
use Rattle.seats.specs.Seats.{seat_count, has, insert_of, remove_of}
use Rattle.seats.specs.declared.SeatSet.{SeatSet}
use Rattle.seats.proofs.Laws.{has_insert, has_remove, has_empty, contains_has, insert_lt, remove_lt, same_seats}
use Rattle.seats.specs.Offices.{packed}
use Rattle.seats.proofs.OfficeLaws.{packed_lt, has_packed}
use Rattle.records.specs.declared.View.{View}
use Rattle.records.specs.declared.Sync.{Sync}
use Rattle.desk.specs.Views.{start_for}
use Rattle.sheet.specs.Sheet.{counts, lacks_record, names_same}
use Rattle.sheet.proofs.First.{counts_other}
use Rattle.sheet.proofs.Members.{counts_seat, lacks_none, same_none, lacks_next, same_next}
use Rattle.came_along.specs.declared.sheet_pass.Found.{Found}
use Rattle.came_along.specs.Pass.{found_after, counted_in, count_record}

-- a choice of sets
has_if : (t : Bool) (x y s : ℕ) → has (ifb t x y) s ≡ ifb t (has x s) (has y s)
has_if true x y s = refl
has_if false x y s = refl

-- a set below 2 ^ 64 by its seats
set_is : (x : ℕ) (p : ℕ → Bool) → x < 2 ^ 64 → ((s : ℕ) → s < seat_count → has x s ≡ p s) → x ≡ packed seat_count p
set_is x p l e =
    same_seats x (packed seat_count p) l (packed_lt seat_count p) (λ s k. e s k ∙ sym (has_packed seat_count p s k))

-- a record that counts, at each of its exits
module _ (previous : ℕ) (f : Found) (r : Sync) (m : SeatSet)
    (left : m.bits ≡ remove_of f.missing.bits r.seat) where
  pub counted_other : (r.previous ≡ previous → ⊥) → record { missing = m; same = f.same } ≡ counted_in previous f r
  counted_other n = rw (ne_eqb r.previous previous n, ← left)

  pub counted_same : r.previous ≡ previous → (s : SeatSet) → s.bits ≡ insert_of f.same.bits r.seat
      → record { missing = m; same = s } ≡ counted_in previous f r
  counted_same q s more = rw (eq-eqb r.previous previous q, ← left, ← more)

module _ (v : View) (previous : ℕ) where
  -- before the first record
  pub found_none : v.members.bits < 2 ^ 64
      → record { missing = v.members; same = record { bits = 0 } } ≡ found_after v previous []
  unfolding found_after
  found_none l =
      rw (
        ← set_is v.members.bits (lacks_record v []) l
            (λ s k. sym (contains_has v.members.bits s l) ∙ sym (lacks_none v previous s)),
        ← set_is 0 (names_same v previous []) (omega arith) (λ s k. has_empty s ∙ sym (same_none v previous s)),
      )

  -- one record more, seat by seat
  module _ (rs : List Sync) (r : Sync) where
    module _ (seat : r.seat < seat_count) where
      abbrev waited : ℕ
      waited = packed seat_count (lacks_record v rs)

      abbrev same : ℕ
      same = packed seat_count (names_same v previous rs)

      -- the record counts, and its seat's is missing so far
      abbrev first : Bool
      first = lacks_record v rs r.seat && eqb r.start (start_for v r.seat)

      missing_seat : (s : ℕ) → s < seat_count
          → has (ifb first (remove_of waited r.seat) waited) s ≡ lacks_record v (rs ++ (r ∷ [])) s
      missing_seat s l =
          rw (
            has_if first (remove_of waited r.seat) waited s,
            has_remove waited r.seat s seat l,
            has_packed seat_count (lacks_record v rs) s l,
            lacks_next v previous s rs r,
          )
          (go (ℕ_discrete s r.seat))
        where
          own : (a e : Bool) → ifb (a && e) (a && false) a ≡ a && not e
          own true true = refl
          own true false = refl
          own false e = refl

          other : (t a : Bool) → ifb t (a && true) a ≡ a && true
          other true a = refl
          other false a = sym (and-true a)

          go : Dec (s ≡ r.seat)
              → ifb first (lacks_record v rs s && not (eqb s r.seat)) (lacks_record v rs s)
              ≡ lacks_record v rs s && not (counts v s r)
          go (yes e) =
              rw (e, counts_seat v r, eq-eqb r.seat r.seat refl)
              (own (lacks_record v rs r.seat) (eqb r.start (start_for v r.seat)))
          go (no n) = rw (ne_eqb s r.seat n, counts_other v s r (λ e. n (sym e))) (other first (lacks_record v rs s))

      same_seat : (s : ℕ) → s < seat_count
          → has (ifb first (ifb (eqb r.previous previous) (insert_of same r.seat) same) same) s
          ≡ names_same v previous (rs ++ (r ∷ [])) s
      same_seat s l =
          rw (
            has_if first (ifb (eqb r.previous previous) (insert_of same r.seat) same) same s,
            has_if (eqb r.previous previous) (insert_of same r.seat) same s,
            has_insert same r.seat s seat,
            has_packed seat_count (names_same v previous rs) s l,
            same_next v previous s rs r,
          )
          (go (ℕ_discrete s r.seat))
        where
          own : (a e p n : Bool) → ifb (a && e) (ifb p (n || true) n) n ≡ n || a && e && p
          own true true true n = refl
          own true true false n = sym (or-false n)
          own true false p n = sym (or-false n)
          own false e p n = sym (or-false n)

          other : (t p n : Bool) → ifb t (ifb p (n || false) n) n ≡ n || false
          other true true n = refl
          other true false n = sym (or-false n)
          other false p n = sym (or-false n)

          go : Dec (s ≡ r.seat)
              → ifb first
              (ifb (eqb r.previous previous) (names_same v previous rs s || eqb s r.seat)
              (names_same v previous rs s)) (names_same v previous rs s)
              ≡ names_same v previous rs s || lacks_record v rs s && counts v s r && eqb r.previous previous
          go (yes e) =
              rw (e, counts_seat v r, eq-eqb r.seat r.seat refl)
              (own (lacks_record v rs r.seat) (eqb r.start (start_for v r.seat)) (eqb r.previous previous)
              (names_same v previous rs r.seat))
          go (no n) =
              rw (ne_eqb s r.seat n, counts_other v s r (λ e. n (sym e)), and-false (lacks_record v rs s))
              (other first (eqb r.previous previous) (names_same v previous rs s))

      pub found_next : count_record v.starts previous (found_after v previous rs) r
          ≡ found_after v previous (rs ++ (r ∷ []))
      unfolding count_record found_after
      found_next =
          rw (
            contains_has waited r.seat (packed_lt seat_count (lacks_record v rs)),
            has_packed seat_count (lacks_record v rs) r.seat seat,
          )
          (go first (set_is _ (lacks_record v (rs ++ (r ∷ []))) low_missing missing_seat)
          (set_is _ (names_same v previous (rs ++ (r ∷ []))) low_same same_seat))
        where
          low_missing : ifb first (remove_of waited r.seat) waited < 2 ^ 64
          low_missing =
              if_cases (λ (x : ℕ). x < 2 ^ 64) first _ _
              (λ e. remove_lt waited r.seat (packed_lt seat_count (lacks_record v rs)))
              (λ e. packed_lt seat_count (lacks_record v rs))

          low : same < 2 ^ 64
          low = packed_lt seat_count (names_same v previous rs)

          low_same : ifb first (ifb (eqb r.previous previous) (insert_of same r.seat) same) same < 2 ^ 64
          low_same =
              if_cases (λ (x : ℕ). x < 2 ^ 64) first _ _
              (λ e. if_cases (λ (x : ℕ). x < 2 ^ 64) (eqb r.previous previous) _ _
              (λ f. insert_lt same r.seat low) (λ f. low)) (λ e. low)

          go : (t : Bool) {a b : ℕ} → ifb t (remove_of waited r.seat) waited ≡ a
              → ifb t (ifb (eqb r.previous previous) (insert_of same r.seat) same) same ≡ b
              → ifb t (counted_in previous (found_after v previous rs) r) (found_after v previous rs)
              ≡ record { missing = record { bits = a }; same = record { bits = b } }
          go true e f = rw (e, f)
          go false e f = rw (e, f)

pub ruleset counted_laws = (counted_other, counted_same)
