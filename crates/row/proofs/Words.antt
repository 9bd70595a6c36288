-- For the crates above: words and state determine each other. A row is the words of its state, and the words of a
-- state that has its lengths hold that state.
use mathlib.Core.Path.{◌≡◌, refl, sym, ap, ◌∙◌}
use mathlib.Core.List.{List, [], ◌∷◌, ◌++◌}
use Prim.Native.Nat.{ℕ, zero, suc, ◌+◌, ◌-◌, ◌*◌, ◌/◌, ◌%◌, ◌<◌, ◌≤◌}
use native.Mathlib.Omega.{arith}
use native.Mathlib.Decide.{dec_lt}
use lib.ListN.{length, get_or, length-append, get_or-append, get_or-eq_default}
use lib.Seq.{get_or-append-add}
use Rattle.laws.specs.Tab.{tab}
use Rattle.seats.specs.Seats.{has}
use Rattle.laws.proofs.Tab.{tab_ext, length_tab, get_or_tab, filled}
use Rattle.laws.proofs.Seqs.{tab_add, tab_self}
use Rattle.rules.specs.State.{Mode, None, Fast, Slow, Slot, State, kind_of, zeros, nothing, stored_at}
use Rattle.rules.specs.Rules.{restarted}
use Rattle.rule_laws.proofs.Shapes.{Shaped}
use Rattle.row.specs.Row.{word, own_place, mode_place, net_place, members_place, present_place, slot_length}
use Rattle.row.specs.Row.{slot_place, start_place, number_place, view_place, starts_place, accepted_place, used_place}
use Rattle.row.specs.Row.{stored_length, numbers_place, row_length, set_at, mode_of, sixteen_words, slot_of, state_of}
use Rattle.row.specs.Row.{presence, set_words, slot_words, slot_numbers, each, words_of, Row}
use Rattle.row.proofs.Parts.{by_parts, view_at, row_stored, mode_word_lem, mode_back, set_read}
use Rattle.row.proofs.Parts.{sixteen_read, slot_read}
use Rattle.row.proofs.Presence.{row_presence, has_presence, presence_lt}

-- how many words of a row there are from a place on
abbrev rest : ℕ → ℕ
rest p = row_length - p

-- A row in parts: the n words of g from p on.
abbrev run : (ℕ → ℕ) → ℕ → ℕ → List ℕ
run g p n = tab n (λ k. g (p + k))

join : (g : ℕ → ℕ) (p a q b : ℕ) → q ≡ p + a → run g p a ++ run g q b ≡ run g p (a + b)
join g p a q b e =
    ap (λ (l : List ℕ). run g p a ++ l)
    (tab_ext b (λ k. g (q + k)) (λ k. g (p + (a + k))) (λ k h. let x : q + k ≡ p + (a + k) = omega arith in ap g x))
    ∙ sym (tab_add a b (λ k. g (p + k)))

-- the parts of the entries of a table, side by side
each_run : {A : Type 0} (f : A → List ℕ) (g : ℕ → ℕ) (m n at : ℕ) (h : ℕ → A)
    → ((o : ℕ) → o < n → f (h o) ≡ run g (at + m * o) m)
    → each f (tab n h) ≡ run g at (m * n)
unfolding tab
each_run f g m zero at h e = let x : m * 0 ≡ 0 = omega arith in rw x
each_run {A} f g m (suc n) at h e =
    let x : m + m * n ≡ m * suc n = omega arith in
    let y : at + m * 0 ≡ at = omega arith in
    let first : f (h 0) ≡ run g at m = e 0 (omega arith) ∙ ap (λ (p : ℕ). run g p m) y in
    let rest : each f (tab n (λ o. h (suc o))) ≡ run g (at + m) (m * n) =
    each_run f g m n (at + m) (λ o. h (suc o))
    (λ o l. e (suc o) (omega arith) ∙ ap (λ (p : ℕ). run g p m) (omega arith)) in
    ap (λ (l : List ℕ). l ++ each f (tab n (λ o. h (suc o)))) first ∙ ap (λ (l : List ℕ). run g at m ++ l) rest
    ∙ join g at m (at + m) (m * n) refl ∙ ap (λ (k : ℕ). run g at k) x

two : (f : ℕ → ℕ) (l : List ℕ) → f 0 ∷ f 1 ∷ l ≡ tab 2 f ++ l
unfolding tab
two f l = refl

three : (f : ℕ → ℕ) (l : List ℕ) → f 0 ∷ f 1 ∷ f 2 ∷ l ≡ tab 3 f ++ l
unfolding tab
three f l = refl

one : (f : ℕ → ℕ) (l : List ℕ) → f 0 ∷ l ≡ tab 1 f ++ l
unfolding tab
one f l = refl

module _ (ws : List ℕ) (r : Row ws) (s : (k : ℕ) → get_or ws k 0 < word) where
  abbrev g : ℕ → ℕ
  g k = get_or ws k 0

  set_words_lem : (at : ℕ) → set_words (set_at ws at) ≡ g at ∷ g (at + 1) ∷ []
  unfolding set_at
  set_words_lem at =
      let l = s at in
      let a : (g at + word * g (at + 1)) % word ≡ g at = omega arith in
      let b : (g at + word * g (at + 1)) / word ≡ g (at + 1) = omega arith in
      rw (a, b)

  slot_words_lem : (o : ℕ) → slot_words (slot_of ws o) ≡ run g (slot_place o) slot_length
  unfolding slot_of tab
  slot_words_lem o =
      let a : slot_place o + 0 ≡ slot_place o = omega arith in
      let b : slot_place o + 2 + 1 ≡ slot_place o + 3 = omega arith in
      rw (set_words_lem (slot_place o + 2), a, b)

  slot_numbers_lem : (o : ℕ) → slot_numbers (slot_of ws o) ≡ run g (numbers_place o) stored_length
  unfolding slot_of tab
  slot_numbers_lem o =
      let a : numbers_place o + 0 ≡ numbers_place o = omega arith in
      rw a (ap (λ (l : List ℕ). g (numbers_place o) ∷ g (numbers_place o + 1) ∷ l)
      (tab_ext 16 (λ k. g (numbers_place o + 2 + k)) (λ k. g (numbers_place o + suc (suc k)))
      (λ k h. let x : numbers_place o + 2 + k ≡ numbers_place o + suc (suc k) = omega arith in ap g x)))

  -- from the end: the words from each part's place on
  from_numbers : each slot_numbers (tab 16 (slot_of ws)) ≡ run g (numbers_place 0) (rest (numbers_place 0))
  from_numbers = each_run slot_numbers g stored_length 16 (numbers_place 0) (slot_of ws) (λ o h. slot_numbers_lem o)

  sixteen_on : (at n : ℕ) (l : List ℕ) → l ≡ run g (at + 16) n → sixteen_words ws at ++ l ≡ run g at (16 + n)
  sixteen_on at n l e = ap (λ (x : List ℕ). sixteen_words ws at ++ x) e ∙ join g at 16 (at + 16) n refl

  set_on : (at n : ℕ) (l : List ℕ) → l ≡ run g (at + 2) n → set_words (set_at ws at) ++ l ≡ run g at (2 + n)
  set_on at n l e =
      let x : at + 0 ≡ at = omega arith in
      ap (λ (x : List ℕ). x ++ l) (set_words_lem at) ∙ ap (λ (k : ℕ). g k ∷ g (at + 1) ∷ l) (sym x)
      ∙ two (λ k. g (at + k)) l
      ∙ ap (λ (x : List ℕ). run g at 2 ++ x) e ∙ join g at 2 (at + 2) n refl

  slots_on : (l : List ℕ) → l ≡ run g start_place (rest start_place)
      → each slot_words (tab 16 (slot_of ws)) ++ l ≡ run g (slot_place 0) (rest (slot_place 0))
  slots_on l e =
      ap (λ (x : List ℕ). x ++ l)
      (each_run slot_words g slot_length 16 (slot_place 0) (slot_of ws) (λ o h. slot_words_lem o))
      ∙ ap (λ (x : List ℕ). run g (slot_place 0) (slot_length * 16) ++ x) e
      ∙ join g (slot_place 0) (slot_length * 16) start_place (rest start_place) refl

  present_on : (l : List ℕ) → l ≡ run g (slot_place 0) (rest (slot_place 0))
      → presence (state_of ws) ∷ l ≡ run g present_place (rest present_place)
  present_on l e =
      ap (λ (w : ℕ). w ∷ l) (sym (row_presence ws r)) ∙ one (λ k. g (present_place + k)) l
      ∙ ap (λ (x : List ℕ). run g present_place 1 ++ x) e
      ∙ join g present_place 1 (slot_place 0) (rest (slot_place 0)) refl

  three_on : (l : List ℕ) → l ≡ run g starts_place (rest starts_place) → g start_place ∷ g number_place ∷ g view_place
      ∷ l ≡ run g start_place (rest start_place)
  three_on l e = three (λ k. g (start_place + k)) l ∙ ap (λ (x : List ℕ). run g start_place 3 ++ x) e
      ∙ join g start_place 3 starts_place (rest starts_place) refl

  head_on : (l : List ℕ) → l ≡ run g net_place (rest net_place) → g own_place ∷ kind_of (mode_of (g mode_place))
      ∷ l ≡ run g own_place row_length
  head_on l e =
      ap (λ (m : ℕ). g own_place ∷ m ∷ l) (mode_word_lem (g mode_place) r.mode) ∙ two (λ k. g (own_place + k)) l
      ∙ ap (λ (x : List ℕ). run g own_place 2 ++ x) e ∙ join g own_place 2 net_place (rest net_place) refl

  whole : run g own_place row_length ≡ ws
  whole = tab_ext row_length (λ k. g (own_place + k)) g (λ k h. let x : own_place + k ≡ k = omega arith in ap g x)
      ∙ sym (tab_self row_length 0 ws r.long)

  pub words_state : words_of (state_of ws) ≡ ws
  unfolding words_of state_of
  words_state =
      let u = sixteen_on used_place (rest (numbers_place 0)) _ from_numbers in
      let a = sixteen_on starts_place (rest accepted_place) _ (sixteen_on accepted_place (rest used_place) _ u) in
      head_on _ (set_on net_place (rest members_place) _
      (set_on members_place (rest present_place) _ (present_on _ (slots_on _ (three_on _ a))))) ∙ whole

pub row_words : (ws : List ℕ) (t : State) → Row ws → ((k : ℕ) → get_or ws k 0 < word) → state_of ws ≡ t
    → ws ≡ words_of t
row_words ws t r s e = sym (words_state ws r s) ∙ ap words_of e

-- The other way round. All that is asked of a state is that its lists have their lengths.
module _ {A : Type 0} (f : A → List ℕ) (m : ℕ) (d : A) where
  each_long : (l : List A) → ((i : ℕ) → length (f (get_or l i d)) ≡ m) → length (each f l) ≡ m * length l
  each_long [] h = omega arith
  each_long (x ∷ l) h =
      let a = length-append (f x) (each f l) in
      let b = h 0 in
      let c = each_long l (λ i. h (suc i)) in
      omega arith

  each_place : (l : List A) (o j : ℕ) → ((i : ℕ) → length (f (get_or l i d)) ≡ m) → o < length l → j < m
      → get_or (each f l) (m * o + j) 0 ≡ get_or (f (get_or l o d)) j 0
  each_place [] o j h lt k = absurd (omega arith)
  each_place (x ∷ l) zero j h lt k =
      let n = h 0 in
      let e : m * 0 + j ≡ j = omega arith in
      rw e (get_or-append (f x) (each f l) 0 j (omega arith))
  each_place (x ∷ l) (suc o) j h lt k =
      let n = h 0 in
      let e : m * suc o + j ≡ length (f x) + (m * o + j) = omega arith in
      rw e (get_or-append-add (f x) (each f l) (m * o + j) 0 ∙ each_place l o j (λ i. h (suc i)) (omega arith) k)

kind_le : (m : Mode) → kind_of m ≤ 2
kind_le None = omega arith
kind_le Fast = omega arith
kind_le Slow = omega arith

module _ (s : State) (h : Shaped s) where
  abbrev from_used : List ℕ
  from_used = s.used ++ each slot_numbers s.stored

  abbrev from_accepted : List ℕ
  from_accepted = s.accepted ++ from_used

  abbrev from_starts : List ℕ
  from_starts = s.view.starts ++ from_accepted

  abbrev from_start : List ℕ
  from_start = s.start ∷ s.number ∷ s.view.number ∷ from_starts

  slots_long : length (each slot_words s.stored) ≡ slot_length * 16
  slots_long = let z = h.stored in let e = each_long slot_words slot_length nothing s.stored (λ i. refl) in
      omega arith

  numbers_long : length (each slot_numbers s.stored) ≡ stored_length * 16
  numbers_long = let z = h.stored in
      let e = each_long slot_numbers stored_length nothing s.stored (λ i. let n = h.slots i in omega arith) in
      omega arith

  at_slots : (k : ℕ) → get_or (words_of s) (slot_place 0 + k) 0 ≡ get_or (each slot_words s.stored ++ from_start) k 0
  unfolding words_of
  at_slots k = let e : slot_place 0 + k ≡ suc (suc (suc (suc (suc (suc (suc k)))))) = omega arith in rw e

  at_present : get_or (words_of s) present_place 0 ≡ presence s
  unfolding words_of
  at_present = refl

  at_start_lem : (k : ℕ) → get_or (words_of s) (start_place + k) 0 ≡ get_or from_start k 0
  at_start_lem k =
      let z = slots_long in
      let e : start_place + k ≡ slot_place 0 + (length (each slot_words s.stored) + k) = omega arith in
      rw e (at_slots (length (each slot_words s.stored) + k)
      ∙ get_or-append-add (each slot_words s.stored) from_start k 0)

  at_starts : (k : ℕ) → get_or (words_of s) (starts_place + k) 0 ≡ get_or from_starts k 0
  at_starts k = let e : starts_place + k ≡ start_place + suc (suc (suc k)) = omega arith in
      rw e (at_start_lem (suc (suc (suc k))))

  at_accepted : (k : ℕ) → get_or (words_of s) (accepted_place + k) 0 ≡ get_or from_accepted k 0
  at_accepted k =
      let z = h.starts in
      let e : accepted_place + k ≡ starts_place + (length s.view.starts + k) = omega arith in
      rw e (at_starts (length s.view.starts + k) ∙ get_or-append-add s.view.starts from_accepted k 0)

  at_used : (k : ℕ) → get_or (words_of s) (used_place + k) 0 ≡ get_or from_used k 0
  at_used k =
      let z = h.accepted in
      let e : used_place + k ≡ accepted_place + (length s.accepted + k) = omega arith in
      rw e (at_accepted (length s.accepted + k) ∙ get_or-append-add s.accepted from_used k 0)

  at_numbers : (k : ℕ) → get_or (words_of s) (numbers_place 0 + k) 0 ≡ get_or (each slot_numbers s.stored) k 0
  at_numbers k =
      let z = h.used in
      let e : numbers_place 0 + k ≡ used_place + (length s.used + k) = omega arith in
      rw e (at_used (length s.used + k) ∙ get_or-append-add s.used (each slot_numbers s.stored) k 0)

  slot_word : (o : ℕ) → o < 16 → (p j : ℕ) → p ≡ slot_place o + j → j < slot_length
      → get_or (words_of s) p 0 ≡ get_or (slot_words (stored_at s o)) j 0
  slot_word o l p j q m =
      let z = h.stored in
      let y = slots_long in
      let e : p ≡ slot_place 0 + (slot_length * o + j) = omega arith in
      rw e (at_slots (slot_length * o + j) ∙ get_or-append (each slot_words s.stored) from_start 0
      (slot_length * o + j) (omega arith)
      ∙ each_place slot_words slot_length nothing s.stored o j (λ i. refl) (omega arith) m)

  slot_number : (o : ℕ) → o < 16 → (p j : ℕ) → p ≡ numbers_place o + j → j < stored_length
      → get_or (words_of s) p 0 ≡ get_or (slot_numbers (stored_at s o)) j 0
  slot_number o l p j q m =
      let z = h.stored in
      let e : p ≡ numbers_place 0 + (stored_length * o + j) = omega arith in
      rw e (at_numbers (stored_length * o + j)
      ∙ each_place slot_numbers stored_length nothing s.stored o j (λ i. let n = h.slots i in omega arith)
      (omega arith) m)

  words_long : length (words_of s) ≡ row_length
  unfolding words_of
  words_long =
      let a = length-append (each slot_words s.stored) from_start in
      let b = length-append s.view.starts from_accepted in
      let c = length-append s.accepted from_used in
      let d = length-append s.used (each slot_numbers s.stored) in
      let e = slots_long in
      let f = numbers_long in
      let x = h.starts in
      let y = h.accepted in
      let z = h.used in
      omega arith

  kind_word : get_or (words_of s) mode_place 0 ≡ kind_of s.mode
  unfolding words_of
  kind_word = refl

  pub words_row : Row (words_of s)
  words_row = record {
    long = words_long;
    present = rw at_present (presence_lt s);
    mode = rw kind_word (kind_le s.mode);
  }

  members_back : set_at (words_of s) members_place ≡ s.view.members
  unfolding words_of
  members_back = set_read (words_of s) members_place s.view.members refl refl

  view_back : view_at (words_of s) ≡ s.view
  view_back =
      let z = h.starts in
      rw (
        members_back,
        at_start_lem 2,
        sixteen_read (words_of s) starts_place s.view.starts z
            (λ j l. at_starts j ∙ get_or-append s.view.starts from_accepted 0 j (omega arith)),
      )

  pub state_words : state_of (words_of s) ≡ s
  unfolding words_of
  state_words =
      let x = h.accepted in
      let y = h.used in
      by_parts (words_of s) s (record {
        own = refl;
        mode = mode_back s.mode;
        net = set_read (words_of s) net_place s.net refl refl;
        stored = sym (filled 16 (slot_of (words_of s)) nothing s.stored h.stored
            (λ o l. sym (slot_read (words_of s) o (stored_at s o) (h.slots o)
            (ap (λ (w : ℕ). has w o) at_present ∙ has_presence s o l) (slot_word o l) (slot_number o l))));
        accepted = sixteen_read (words_of s) accepted_place s.accepted x
            (λ j l. at_accepted j ∙ get_or-append s.accepted from_used 0 j (omega arith));
        view = view_back;
        start = at_start_lem 0;
        number = at_start_lem 1;
        used = sixteen_read (words_of s) used_place s.used y
            (λ j l. at_used j ∙ get_or-append s.used (each slot_numbers s.stored) 0 j (omega arith));
      })

-- what is read off words is shaped, whatever they are
nothing_long : length zeros ≡ 16
nothing_long = length_tab 16 (λ o. 0)

slot_long : (ws : List ℕ) (o : ℕ) → length (slot_of ws o).proposal.used ≡ 16
unfolding slot_of
slot_long ws o = length_tab 16 (λ k. get_or ws (numbers_place o + 2 + k) 0)

pub state_shaped : (ws : List ℕ) → Shaped (state_of ws)
unfolding state_of
state_shaped ws = record {
  stored = length_tab 16 (slot_of ws);
  accepted = length_tab 16 (λ o. get_or ws (accepted_place + o) 0);
  used = length_tab 16 (λ o. get_or ws (used_place + o) 0);
  starts = length_tab 16 (λ o. get_or ws (starts_place + o) 0);
  slots = λ o. slot o (dec_lt o 16);
}
  where
    slot : (o : ℕ) → Dec (o < 16) → length (stored_at (state_of ws) o).proposal.used ≡ 16
    slot o (yes l) = rw (row_stored ws o l) (slot_long ws o)
    slot o (no l) = let z = length_tab 16 (slot_of ws) in
        rw (get_or-eq_default (tab 16 (slot_of ws)) nothing {n = o} (omega arith)) nothing_long

pub restarted_shaped : (o m : ℕ) → Shaped (restarted o m)
unfolding restarted tab
restarted_shaped o m = record {
  stored = refl;
  accepted = refl;
  used = refl;
  starts = refl;
  slots = λ k. slot k (dec_lt k 16);
}
  where
    slot : (k : ℕ) → Dec (k < 16) → length (stored_at (restarted o m) k).proposal.used ≡ 16
    slot k (yes l) = rw (get_or_tab 16 (λ i. nothing) k nothing l) nothing_long
    slot k (no l) = let z = length_tab {A = Slot} 16 (λ i. nothing) in
        rw (get_or-eq_default (tab 16 (λ i. nothing)) nothing {n = k} (omega arith)) nothing_long
