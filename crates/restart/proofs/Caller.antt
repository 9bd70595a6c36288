-- The caller's moves over the bytes of an answer are what the rules say that the office does, in bytes.
use mathlib.Core.Path.{◌≡◌, refl, ap, subst, ◌∙◌}
use mathlib.Core.Bool.{Bool, true, false}
use mathlib.Core.List.{List, [], ◌∷◌, ◌++◌, map, map-append}
use Prim.Native.Nat.{ℕ, zero, suc, ◌+◌, ◌≤◌, ◌<◌}
use native.Mathlib.Omega.{arith}
use lib.ListN.{length, take, length-append}
use lib.Seq.{sets, length-sets, take_at, drop_at}
use lib.Dec.{eqb, ltb}
use borrow.Author.Tests.{ltb-true, ltb-false, lt-ltb, le-ltb}
use Rattle.laws.specs.Lists.{Every, none, more}
use Rattle.laws.proofs.Big.{sets_front}
use Rattle.laws.proofs.Tab.{length_tab}
use Rattle.records.specs.Numbers.{limit}
use Rattle.records.specs.Layout.{high_length, mark_of, room_of, encode_high}
use Rattle.rules.specs.State.{State}
use Rattle.rules.specs.Rules.{Written, own_proposal, view_of}
use Rattle.rules.specs.MarkFile.{whole_end, last_high, good_file, next_high, high_bytes}
use Rattle.rules.specs.Refusals.{Event, Result, take_of, step_of, bytes_of, all_bytes}
use Rattle.rules.specs.Tables.{Table, step_table}
use Rattle.rules.specs.Leaving.{largest_in, Action, puts, leaves, puts_all, actions_from, actions_of, with_byte}
use Rattle.rules.specs.Leaving.{file_after, left_in}
use Rattle.rule_laws.proofs.Steps.{step_accepts, step_by, take_by}
use Rattle.rule_laws.proofs.TableSteps.{table_by_lem}
use Rattle.rule_laws.proofs.Written.{EachMade, every_written}
use Rattle.rule_laws.proofs.Leaving.{take_largest}
use Rattle.restart.specs.Before.{leaving_length, front_checks, before_checks, before_of, out_before}
use Rattle.restart.specs.Caller.{sends, writes_all, moves_in, moves_of, caller_moves, filed_by, sent_by, move_of}
use Rattle.restart.specs.Caller.{MovesAs, HasSixteen}
use Rattle.restart.proofs.Answers.{good_last}
use Rattle.restart.proofs.Front.{bytes_some, before_record}

-- every record that an office writes has its sixteen numbers
sixteen_each : EachMade HasSixteen
unfolding own_proposal view_of
sixteen_each = record {
  notices = λ s. tt;
  proposals = λ s m n b l. length_tab 16 _;
  views = λ s a. length_tab 16 _;
}

take_sixteen : (office : ℕ) (s : State) (e : Event) (output : ℕ)
    → Every HasSixteen (take_of office s e output).written
take_sixteen office s e output =
    take_by office s e output (λ ws t. Every HasSixteen ws) none (λ a. every_written sixteen_each s e)

mark_bytes : (n : ℕ) → length (high_bytes n) ≡ high_length
unfolding high_bytes encode_high
mark_bytes n = refl

-- no bytes: the call refuses
nothing_left : (last output : ℕ) → eqb (before_of last [] output).refusal 0 ≡ false
unfolding before_of before_checks front_checks leaving_length mark_of
nothing_left last output = go (ltb output high_length) refl
  where
    go : (t : Bool) → ltb output high_length ≡ t → eqb (before_of last [] output).refusal 0 ≡ false
    go true e = rw e
    go false e = rw e

-- no record is without a byte, so there are no more records than bytes
count_le : (room : ℕ) (ws : List Written) → Every HasSixteen ws → length ws ≤ length (all_bytes room ws)
unfolding all_bytes
count_le room [] none = omega arith
count_le room (w ∷ ws) (more h hs) =
    let a = bytes_some room w h in
    let b = count_le room ws hs in
    let c = length-append (bytes_of room w) (all_bytes room ws) in
    omega arith

-- in a room
module _ (room : ℕ) where
  -- one record, with any bytes behind it
  module _ (w : Written) (h : HasSixteen w) (l : largest_in w ≤ limit) (behind : List ℕ) (last : ℕ) (low : last ≤ limit)
      (out : List ℕ) (fits : high_length ≤ length out) (place n : ℕ) where
    abbrev bytes : List ℕ
    bytes = bytes_of room w

    moves_marked : last < largest_in w → let m = next_high (largest_in w) in
        moves_in (suc n) out last place (bytes ++ behind)
        ≡ writes_all place (high_bytes m)
        ++ (sends bytes ∷ moves_in n (sets out 0 (high_bytes m)) m (place + high_length) behind)
    unfolding moves_in out_before
    moves_marked d =
        let m = next_high (largest_in w) in
        let e = mark_bytes m in
        let front : take high_length (sets out 0 (high_bytes m)) ≡ high_bytes m =
        rw e at (sets_front out (high_bytes m) (omega arith)) in
        rw (
          before_record room w h behind l last low (length out) fits,
          lt-ltb last (largest_in w) d,
          lt-ltb last m (omega arith),
          take_at bytes behind (length bytes) refl,
          drop_at bytes behind (length bytes) refl,
          front,
        )

    moves_plain : largest_in w ≤ last → moves_in (suc n) out last place (bytes ++ behind)
        ≡ sends bytes ∷ moves_in n out last place behind
    unfolding moves_in out_before
    moves_plain d =
        rw (
          before_record room w h behind l last low (length out) fits,
          le-ltb last (largest_in w) d,
          le-ltb last last (omega arith),
          take_at bytes behind (length bytes) refl,
          drop_at bytes behind (length bytes) refl,
        )

  writes_puts : (place : ℕ) (b : List ℕ) → writes_all place b ≡ map (move_of room) (puts_all place b)
  unfolding writes_all puts_all
  writes_puts place [] = refl
  writes_puts place (x ∷ b) = rw (writes_puts (place + 1) b)

  -- the records of an answer, with any count that is not below theirs
  abbrev Moves : List Written → Type 0
  Moves ws = (n : ℕ) → length ws ≤ n → (out : List ℕ) → high_length ≤ length out → (last : ℕ) → last ≤ limit
      → (place : ℕ) → moves_in n out last place (all_bytes room ws) ≡ map (move_of room) (actions_from last place ws)

  moves_in_lem : (ws : List Written) → Every HasSixteen ws → Every (λ w. largest_in w ≤ limit) ws → Moves ws
  unfolding actions_from all_bytes moves_in
  moves_in_lem [] none none zero f out fits last low place = refl
  moves_in_lem [] none none (suc n) f out fits last low place = rw (nothing_left last (length out))
  moves_in_lem (w ∷ ws) (more h hs) (more l ls) zero f out fits last low place = absurd (omega arith)
  moves_in_lem (w ∷ ws) (more h hs) (more l ls) (suc n) f out fits last low place =
      go (ltb last (largest_in w)) refl (moves_in_lem ws hs ls)
    where
      m : ℕ
      m = next_high (largest_in w)

      rest : List ℕ
      rest = all_bytes room ws

      go : (t : Bool) → ltb last (largest_in w) ≡ t → Moves ws
          → moves_in (suc n) out last place (bytes_of room w ++ rest)
          ≡ map (move_of room) (actions_from last place (w ∷ ws))
      go true e later =
          let o = sets out 0 (high_bytes m) in
          let s : length o ≡ length out = length-sets out 0 (high_bytes m) in
          let r = later n (omega arith) o (omega arith) m (omega arith) (place + high_length) in
          rw (e, map-append) (moves_marked w h l rest last low out fits place n (ltb-true _ _ e)
          ∙ rw (writes_puts place (high_bytes m), r))
      go false e later =
          rw e (moves_plain w h l rest last low out fits place n (ltb-false _ _ e)
          ∙ rw (later n (omega arith) out fits last low place))

  pub caller_leaves : (ws : List Written) → Every HasSixteen ws → Every (λ w. largest_in w ≤ limit) ws
      → (out : List ℕ) → high_length ≤ length out → (last : ℕ) → last ≤ limit → (place : ℕ)
      → moves_of out last place (all_bytes room ws) ≡ map (move_of room) (actions_from last place ws)
  caller_leaves ws hs ls = moves_in_lem ws hs ls (length (all_bytes room ws)) (count_le room ws hs)

  -- moves that stand for actions do to the file what these do, and send what leaves with these
  pub filed_as : (f : List ℕ) (a : List Action) → filed_by f (map (move_of room) a) ≡ file_after f a
  unfolding filed_by file_after
  filed_as f [] = refl
  filed_as f (puts place x ∷ a) = filed_as (with_byte f place x) a
  filed_as f (leaves w ∷ a) = filed_as f a

  pub sent_as : (a : List Action) → sent_by (map (move_of room) a) ≡ map (bytes_of room) (left_in a)
  unfolding sent_by left_in
  sent_as [] = refl
  sent_as (puts place x ∷ a) = sent_as a
  sent_as (leaves w ∷ a) = rw (sent_as a)

  pub take_moves : (n : ℕ) (a : List Action) → take n (map (move_of room) a) ≡ map (move_of room) (take n a)
  take_moves zero a = refl
  take_moves (suc n) [] = refl
  take_moves (suc n) (x ∷ a) = rw (take_moves n a)

  -- with a file that passes 18, and an output with a place for a mark
  module _ (f : List ℕ) (good : good_file f ≡ true) (out : List ℕ) (fits : high_length ≤ length out) where
    abbrev Leaves : List Written → Type 0
    Leaves ws = MovesAs room f ws (caller_moves f out (all_bytes room ws))

    moves_as : (ws : List Written) → Every HasSixteen ws → Every (λ w. largest_in w ≤ limit) ws → Leaves ws
    moves_as ws hs ls =
        let a = actions_of f ws in
        let e = caller_leaves ws hs ls out fits (last_high f) (good_last f good) (whole_end f) in
        let cut : (n : ℕ) → take n (caller_moves f out (all_bytes room ws)) ≡ map (move_of room) (take n a) =
        λ n. ap (take n) e ∙ take_moves n a in
        record {
          moves = e;
          file = λ n. ap (filed_by f) (cut n) ∙ filed_as f (take n a);
          left = λ n. ap sent_by (cut n) ∙ sent_as (take n a);
        }

    -- nothing written, and the records of every answer
    pub none_leaves : Leaves []
    none_leaves = moves_as [] none none

    pub take_leaves : (office : ℕ) (s : State) (e : Event) (output : ℕ) → Leaves (take_of office s e output).written
    take_leaves office s e output =
        moves_as (take_of office s e output).written (take_sixteen office s e output) (take_largest office s e output)

    pub step_leaves : (office : ℕ) (s : State) (b : List ℕ) (output : ℕ) → Leaves (step_of office s b output).written
    step_leaves office s b output =
        step_by office s b output (λ ws t. Leaves ws) none_leaves (λ e. take_leaves office s e output)

    pub table_leaves : (office : ℕ) (t : Table) (b : List ℕ) (output : ℕ)
        → Leaves (step_table office t b output).written
    table_leaves office t b output =
        table_by_lem office t b output (λ q. Leaves q.written) (λ n d. none_leaves)
        (λ a. subst (λ (q : Result). Leaves q.written) (step_accepts office (t (room_of b)) b output a.accepts)
        (step_leaves office (t (room_of b)) b output))
