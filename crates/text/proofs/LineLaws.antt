-- For the module lines: more than enough records change nothing; where the reading ends; a text is its first line,
-- then that of the rest.
use mathlib.Core.Path.{◌≡◌, refl, sym, ap, ◌∙◌}
use mathlib.Core.Bool.{Bool, true, false}
use mathlib.Core.List.{List, [], ◌∷◌, ◌++◌, append-nil}
use Prim.Native.Nat.{ℕ, zero, suc, ◌+◌, ◌≤◌, ◌<◌}
use native.Mathlib.Omega.{arith}
use native.Mathlib.Nat.{pos_of_ne-zero}
use native.Mathlib.Decide.{dec_lt}
use lib.ListN.{length, length-append}
use lib.Dec.{eqb}
use borrow.Author.Tests.{eqb-true, eqb-false, eq-eqb, ne_eqb, le-ltb}
use Rattle.laws.specs.Checks.{Check}
use Rattle.laws.specs.Lists.{Every, none, more}
use Rattle.laws.specs.Upd.{ifb}
use Rattle.laws.proofs.Checks.{first_by}
use Rattle.laws.proofs.Lists.{every_append, every_map}
use Rattle.records.specs.Run.{run_check, run_size, run_first, run_rest}
use Rattle.records.proofs.RunLaws.{Front, nothing, other, short, whole, front, first_rest, rest_shorter}
use Rattle.records.proofs.RunLaws.{first_some, first_whole, first_nothing, first_passes, first_alone}
use Rattle.records.proofs.Growing.{whole_stays, other_stays, other_check, short_check}
use Rattle.records.specs.Layout.{check_of, room_of}
use Rattle.rules.specs.State.{State}
use Rattle.rules.specs.Refusals.{Made, made_of, full_room, read_check, Event, a_report, a_proposal, event_of, read_number}
use Rattle.rules.specs.Refusals.{all_bytes}
use Rattle.rules.specs.Tables.{Table, TableResult, refused_table, made_table, read_of, step_table}
use Rattle.rules.specs.Turns.{forms_of, office_checks, states_of, read_order, turn_checks}
use Rattle.rule_laws.proofs.Exits.{made_1}
use Rattle.rule_laws.proofs.TableSteps.{read_refusal, step_unread}
use Rattle.rule_laws.proofs.Turns.{turn_order}
use Rattle.text.specs.Lines.{front_of, behind_of, answer_for, goes_on, roomless, view_for, line_for, lines_in, lines_of}
use Rattle.text.specs.Lines.{no_office, text_of}

module _ (b : List ℕ) where
  -- the record in front of a reading that does not end, and of one that does
  pub front_first : run_check b ≡ 0 → front_of b ≡ run_first b
  unfolding front_of
  front_first e = rw (eq-eqb (run_check b) 0 e)

  pub front_all : (run_check b ≡ 0 → ⊥) → front_of b ≡ b
  unfolding front_of
  front_all n = rw (ne_eqb (run_check b) 0 n)

  -- the same by the record that is handed back, which is empty where the reading ends
  pub front_by : 0 < length (run_first b) → front_of b ≡ run_first b
  front_by h = front_first (first_whole b h)

  pub front_none : length (run_first b) ≡ 0 → front_of b ≡ b
  front_none h = go (eqb (run_check b) 0) refl
    where
      go : (t : Bool) → eqb (run_check b) 0 ≡ t → front_of b ≡ b
      go true e = let z = eqb-true (run_check b) 0 e in front_first z ∙ first_nothing b h z
      go false e = front_all (eqb-false (run_check b) 0 e)

  behind_rest : run_check b ≡ 0 → behind_of b ≡ run_rest b
  unfolding behind_of
  behind_rest e = rw (eq-eqb (run_check b) 0 e)

  behind_none : (run_check b ≡ 0 → ⊥) → behind_of b ≡ []
  unfolding behind_of
  behind_none n = rw (ne_eqb (run_check b) 0 n)

  -- the record in front and what is behind it are the input
  pub front_behind : front_of b ++ behind_of b ≡ b
  front_behind = go (eqb (run_check b) 0) refl
    where
      go : (t : Bool) → eqb (run_check b) 0 ≡ t → front_of b ++ behind_of b ≡ b
      go true e = let z = eqb-true (run_check b) 0 e in rw (front_first z, behind_rest z) (first_rest b)
      go false e = let z = eqb-false (run_check b) 0 e in rw (front_all z, behind_none z) (append-nil b)

  behind_shorter : 0 < length b → length (behind_of b) < length b
  behind_shorter h = go (front b)
    where
      none : (run_check b ≡ 0 → ⊥) → length (behind_of b) < length b
      none n = rw (behind_none n) h

      go : Front b → length (behind_of b) < length b
      go (nothing l e) = absurd (omega arith)
      go (other l n e) = none (λ z. omega arith)
      go (short l n e) = none (λ z. omega arith)
      go (whole p l e s) = rw (behind_rest e) (rest_shorter b (omega arith))

module _ (traced : Bool) (office : ℕ) where
  lines_none : (k : ℕ) (t : Table) (n : ℕ) (b : List ℕ) → length b ≡ 0 → lines_in k traced office t n b ≡ []
  unfolding lines_in
  lines_none zero t n b h = refl
  lines_none (suc k) t n b h = rw (eq-eqb (length b) 0 h)

  -- any number of records that is enough
  enough : (k j : ℕ) (t : Table) (n : ℕ) (b : List ℕ) → length b ≤ k → length b ≤ j
      → lines_in k traced office t n b ≡ lines_in j traced office t n b
  unfolding lines_in
  enough zero j t n b h l = sym (lines_none j t n b (omega arith))
  enough (suc k) zero t n b h l = lines_none (suc k) t n b (omega arith)
  enough (suc k) (suc j) t n b h l = go (eqb (length b) 0) refl (λ p. let m = behind_shorter b p in
      enough k j a (n + 1) (behind_of b) (omega arith) (omega arith))
    where
      a : Table
      a = (answer_for office t b).table

      go : (c : Bool) → eqb (length b) 0 ≡ c
          → (0 < length b → lines_in k traced office a (n + 1) (behind_of b)
          ≡ lines_in j traced office a (n + 1) (behind_of b))
          → lines_in (suc k) traced office t n b ≡ lines_in (suc j) traced office t n b
      go true e ih = rw e
      go false e ih = rw (e, ih (pos_of_ne-zero (eqb-false (length b) 0 e)))

  pub lines_nil : (t : Table) (n : ℕ) (b : List ℕ) → length b ≡ 0 → lines_of traced office t n b ≡ []
  unfolding lines_of
  lines_nil t n b h = lines_none (length b) t n b h

  one_more : (k : ℕ) (t : Table) (n : ℕ) (b : List ℕ) → 0 < length b
      → let a = answer_for office t b in
      lines_in (suc k) traced office t n b
      ≡ line_for traced (n + 1) (room_of (front_of b)) a
      ++ ifb (goes_on a.refusal) (lines_in k traced office a.table (n + 1) (behind_of b)) []
  unfolding lines_in
  one_more k t n b h = rw (ne_eqb (length b) 0 (λ z. omega arith))

  -- the first record's line, then the rest where the program goes on
  lines_first : (t : Table) (n : ℕ) (b : List ℕ) → 0 < length b
      → let a = answer_for office t b in
      lines_of traced office t n b
      ≡ line_for traced (n + 1) (room_of (front_of b)) a
      ++ ifb (goes_on a.refusal) (lines_of traced office a.table (n + 1) (behind_of b)) []
  unfolding lines_of
  lines_first t n b h = go (length b) refl
    where
      a : TableResult
      a = answer_for office t b

      go : (k : ℕ) → length b ≡ k
          → lines_in (length b) traced office t n b ≡ line_for traced (n + 1) (room_of (front_of b)) a
          ++ ifb (goes_on a.refusal) (lines_in (length (behind_of b)) traced office a.table (n + 1) (behind_of b)) []
      go zero e = absurd (omega arith)
      go (suc k) e =
          let m = behind_shorter b h in
          enough (length b) (suc k) t n b (omega arith) (omega arith)
          ∙ one_more k t n b h
          ∙ rw (enough k (length (behind_of b)) a.table (n + 1) (behind_of b) (omega arith) (omega arith))

-- bytes that 4 or 5 refuse, whatever the table
pub step_ends : (office : ℕ) (t : Table) (b : List ℕ) → office < 16 → (check_of b ≡ 0 → ⊥)
    → step_table office t b full_room ≡ refused_table (check_of b) t
unfolding read_number read_check
step_ends office t b known n =
    step_unread office t b full_room (λ z. n (sym number ∙ z)) ∙ ap (λ (k : ℕ). refused_table k t) number
  where
    number : (read_of office b).refusal ≡ check_of b
    number =
        let d = ne_eqb (check_of b) 0 n in
        let low : office ≤ 15 = omega arith in
        read_refusal office b ∙ rw (le-ltb 15 office low, d, d)

-- bytes that pass 4 and 5 get neither of them
step_passes : (office : ℕ) (t : Table) (b : List ℕ) → check_of b ≡ 0
    → goes_on (step_table office t b full_room).refusal ≡ true
unfolding goes_on turn_checks read_order
step_passes office t b c =
    ap goes_on (turn_order office t b full_room)
    ∙ first_by (λ n. goes_on n ≡ true) refl (turn_checks office t b full_room) (every_map (λ k g a. g) each)
  where
    s : State
    s = t (room_of b)

    On : List Check → Type 0
    On = Every (λ k. goes_on k.number ≡ true)

    forms : (e : Event) → On (forms_of office e)
    forms (a_report r) = none
    forms (a_proposal p) = more refl (more refl (more refl (more refl (more refl (more refl none)))))

    offices : (e : Event) → On (office_checks s.own e)
    offices (a_report r) = none
    offices (a_proposal p) = more refl (more refl none)

    states : (e : Event) → On (states_of s e)
    states (a_report r) = none
    states (a_proposal p) = more refl (more refl none)

    each : On (turn_checks office t b full_room)
    each = more refl (more (ap goes_on c) (more refl (every_append (forms (event_of b)) (more refl (more refl
        (every_append (offices (event_of b)) (every_append (states (event_of b)) (more refl none))))))))

-- the program goes on behind a whole record, and nowhere else
pub goes_on_where : (office : ℕ) (t : Table) (b : List ℕ) → office < 16 → 0 < length b
    → goes_on (answer_for office t b).refusal ≡ eqb (run_check b) 0
unfolding goes_on
goes_on_where office t b known h = go (front b)
  where
    ends : {n : ℕ} → (n ≡ 0 → ⊥) → goes_on n ≡ false → run_check b ≡ n → check_of b ≡ n
        → goes_on (answer_for office t b).refusal ≡ eqb (run_check b) 0
    ends {n} d g r c =
        rw (front_all b (λ y. d (sym r ∙ y)), step_ends office t b known (λ y. d (sym c ∙ y)), c, g, r)
        (sym (ne_eqb n 0 d))

    go : Front b → goes_on (answer_for office t b).refusal ≡ eqb (run_check b) 0
    go (nothing l e) = absurd (omega arith)
    go (other l z e) = ends (λ y. omega arith) refl e (other_check b e)
    go (short l z e) = ends (λ y. omega arith) refl e (short_check b e)
    go (whole p l e z) =
        rw (front_first b e, step_passes office t (run_first b) (first_passes b (omega arith)), e)

-- the line of a record that 4 refuses names no room
unread_line : (traced : Bool) (n room room' : ℕ) (t : Table)
    → line_for traced n room (refused_table 4 t) ≡ line_for traced n room' (refused_table 4 t)
unfolding line_for view_for roomless all_bytes
unread_line traced n room room' t = refl

stops : goes_on 4 ≡ false
unfolding goes_on
stops = refl

-- What a record is answered is not changed by later bytes f: where it is whole, where no byte comes later, or where
-- its mark is no record's, of which two bytes tell.
pub data Decided (w f : List ℕ) : Type 0 where
  entire : run_check w ≡ 0 → Decided w f
  last : f ≡ [] → Decided w f
  marked : 2 ≤ length w → run_check w ≡ 4 → Decided w f

module _ (traced : Bool) (office : ℕ) (t : Table) (n : ℕ) (known : office < 16) (w f : List ℕ) (h : 0 < length w) where
  abbrev FirstLine : Type 0
  FirstLine =
      let a = answer_for office t w in
      lines_of traced office t n (w ++ f) ≡ line_for traced (n + 1) (room_of (front_of w)) a
      ++ ifb (goes_on a.refusal) (lines_of traced office a.table (n + 1) (behind_of w ++ f)) []

  first :
      let a = answer_for office t (w ++ f) in
      lines_of traced office t n (w ++ f) ≡ line_for traced (n + 1) (room_of (front_of (w ++ f))) a
      ++ ifb (goes_on a.refusal) (lines_of traced office a.table (n + 1) (behind_of (w ++ f))) []
  first = lines_first traced office t n (w ++ f) (let g = length-append w f in omega arith)

  same : front_of (w ++ f) ≡ front_of w → behind_of (w ++ f) ≡ behind_of w ++ f → FirstLine
  same a b = first ∙ rw (a, b)

  pub decided_text : Decided w f → FirstLine
  decided_text (entire e) =
      let k = whole_stays w f h e in
      same (front_first (w ++ f) k.0 ∙ k.1 ∙ sym (front_first w e))
      (behind_rest (w ++ f) k.0 ∙ k.2 ∙ ap (λ (l : List ℕ). l ++ f) (sym (behind_rest w e)))
  decided_text (last e) =
      rw e (lines_first traced office t n (w ++ []) (rw (append-nil w) h) ∙ rw (append-nil w, append-nil (behind_of w)))
  decided_text (marked l e) =
      let d = other_stays w f l e in
      let a : answer_for office t (w ++ f) ≡ refused_table 4 t = stopped (w ++ f) d in
      let b : answer_for office t w ≡ refused_table 4 t = stopped w e in
      first ∙ rw (a, b, stops) (ap (λ (l : List ℕ). l ++ []) (unread_line traced (n + 1) _ _ t))
    where
      stopped : (b : List ℕ) → run_check b ≡ 4 → answer_for office t b ≡ refused_table 4 t
      stopped b z =
          let k = other_check b z in
          rw (front_all b (λ y. omega arith)) (step_ends office t b known (λ y. omega arith) ∙ rw k)

-- a record after which the program goes on came whole: it passes checks 4 and 5 by itself, and has its line by itself
module _ (traced : Bool) (office : ℕ) (t : Table) (n : ℕ) (known : office < 16) (w : List ℕ) (h : 0 < length w)
    (on : goes_on (answer_for office t w).refusal ≡ true) where
  abbrev Whole : Type 0
  Whole =
      let a = answer_for office t w in
      (check_of (front_of w) ≡ 0) × ((f : List ℕ) → lines_of traced office t n (front_of w ++ f)
      ≡ line_for traced (n + 1) (room_of (front_of w)) a ++ lines_of traced office a.table (n + 1) f)

  alone : 0 < run_size w → run_check w ≡ 0 → Whole
  alone p e =
      let a = first_alone w p in
      let b = front_first w e in
      let c : front_of (front_of w) ≡ front_of w = rw b (front_first (run_first w) a.0 ∙ a.1) in
      let d : behind_of (front_of w) ≡ [] = rw b (behind_rest (run_first w) a.0 ∙ a.2) in
      let q = first_passes w p in (
        rw b q,
        λ f. decided_text traced office t n known (front_of w) f (rw b (first_some w p)) (entire (rw b a.0))
            ∙ rw (c, on, d),
      )

  pub came_whole : Whole
  came_whole = go (front w) (eqb-true (run_check w) 0 (sym (goes_on_where office t w known h) ∙ on))
    where
      go : Front w → run_check w ≡ 0 → Whole
      go (nothing l e) z = absurd (omega arith)
      go (other l d e) z = absurd (omega arith)
      go (short l d e) z = absurd (omega arith)
      go (whole p l e d) z = alone (omega arith) z

-- where no office byte came, the text is that for an office that is none
pub office_missing : (traced : Bool) (f : List ℕ) → text_of traced [] ≡ text_of traced (16 ∷ f)
unfolding text_of made_table made_of
office_missing traced f = refl

-- the first byte makes a table, with the same state in every room, or the one line is the text
pub text_made : (traced : Bool) (office : ℕ) (f : List ℕ)
    → text_of traced (office ∷ f)
    ≡ ifb (eqb (made_of office).refusal 0) (lines_of traced office (λ room. (made_of office).state) 0 f) no_office
unfolding text_of made_table
text_made traced office f = refl

-- the office is then one of the sixteen
pub made_known : (office : ℕ) → (made_of office).refusal ≡ 0 → office < 16
made_known office z = go (dec_lt office 16)
  where
    go : Dec (office < 16) → office < 16
    go (yes l) = l
    go (no l) = let e = ap (λ (m : Made). m.refusal) (made_1 office (omega arith)) in absurd (omega arith)
