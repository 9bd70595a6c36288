-- For changes and slots: the stores of a row, as changes of the state that it holds, once for each family of places.
use mathlib.Core.Path.{◌≡◌, refl, sym, ap, ◌∙◌}
use mathlib.Core.Bool.{Bool}
use mathlib.Core.List.{List, [], ◌∷◌}
use Prim.Native.Nat.{ℕ, suc, ◌+◌, ◌<◌, ◌≤◌}
use native.Mathlib.Omega.{arith}
use native.Mathlib.Decide.{ℕ_discrete}
use lib.ListN.{length, get_or, set}
use lib.Seq.{sets, get_or-set_same, get_or-set_other}
use lib.Dec.{eqb}
use borrow.Author.Tests.{eq-eqb, ne_eqb}
use Rattle.laws.specs.Tab.{tab}
use Rattle.laws.proofs.Tab.{tab_ext, get_or_tab}
use Rattle.laws.specs.Upd.{ifb, upd}
use Rattle.laws.proofs.Upd.{upd_same, upd_other}
use Rattle.seats.specs.declared.SeatSet.{SeatSet}
use Rattle.seats.specs.Seats.{has}
use Rattle.seats.specs.Offices.{packed}
use Rattle.records.specs.declared.Proposal.{Proposal}
use Rattle.records.specs.declared.View.{View}
use Rattle.rules.specs.State.{State, Slot, nothing, stored_at}
use Rattle.rules.specs.Rules.{restarted}
use Rattle.row.specs.Row.{own_place, mode_place, net_place, members_place, present_place, slot_length, slot_place}
use Rattle.row.specs.Row.{start_place, number_place, view_place, starts_place, accepted_place, used_place}
use Rattle.row.specs.Row.{stored_length}
use Rattle.row.specs.Row.{numbers_place, row_length, set_words, slot_words, slot_numbers, mode_of, sixteen_words}
use Rattle.row.specs.Row.{slot_of, state_of, words_of, Row}
use Rattle.row.specs.Changes.{Changed, flagging, filling}
use Rattle.rules.specs.State.{with_mode, with_net_set, with_start, with_number, with_view, with_stored, with_accepted}
use Rattle.rules.specs.State.{with_used}
use Rattle.row.proofs.Parts.{view_at, by_parts, row_stored, set_read, sixteen_read, slot_read}
use Rattle.row.proofs.Presence.{row_present, Flagged}
use Rattle.row.proofs.Kept.{kept, in_first, in_second, stores_long, word_kept, slot_kept, slot_same}
use Rattle.row.proofs.Kept.{proposal_kept}

-- one change after another
pub then : {f g : State → State} {a b c : List ℕ} → Changed f a b → Changed g b c → Changed (λ s. g (f s)) a c
then {f} {g} p q = record { is = q.is ∙ ap g p.is; row = q.row }

-- one number of sixteen
sixteen_set : (ws : List ℕ) (k o n : ℕ) → k + 16 ≤ length ws → o < 16
    → sixteen_words (set ws (k + o) n) k ≡ tab 16 (upd (λ j. get_or (sixteen_words ws k) j 0) o n)
sixteen_set ws k o n z lt =
    tab_ext 16 (λ j. get_or (set ws (k + o) n) (k + j) 0) (upd (λ j. get_or (sixteen_words ws k) j 0) o n)
    (λ j h. go j h (ℕ_discrete j o))
  where
    go : (j : ℕ) → j < 16 → Dec (j ≡ o)
        → get_or (set ws (k + o) n) (k + j) 0 ≡ upd (λ j. get_or (sixteen_words ws k) j 0) o n j
    go j h (yes e) = rw (e, upd_same (λ j. get_or (sixteen_words ws k) j 0) o n)
        (get_or-set_same ws (k + o) n 0 (omega arith))
    go j h (no q) =
        rw (upd_other (λ j. get_or (sixteen_words ws k) j 0) o n j q)
        (get_or-set_other ws (k + o) (k + j) n 0 (λ e. q (omega arith))
        ∙ sym (get_or_tab 16 (λ j. get_or ws (k + j) 0) j 0 h))

pub mode_changed : (ws : List ℕ) (n : ℕ) → Row ws → n ≤ 2
    → Changed (with_mode (mode_of n)) ws (set ws mode_place n)
unfolding state_of
mode_changed ws n r h =
    let z = r.long in
    let k = kept ws mode_place (n ∷ []) 0 [] mode_place net_place 0 0 (omega arith) (omega arith) (omega arith)
    (omega arith) in
    record {
      is = by_parts (set ws mode_place n) (with_mode (mode_of n) (state_of ws)) (record {
        own = k.own refl;
        mode = ap mode_of (get_or-set_same ws mode_place n 0 (omega arith));
        net = k.net refl;
        stored = k.stored refl;
        accepted = k.accepted refl;
        view = k.view refl;
        start = k.start refl;
        number = k.number refl;
        used = k.used refl;
      });
      row = record {
        long = stores_long ws mode_place (n ∷ []) 0 [] ∙ z;
        present = k.present refl r;
        mode = rw (get_or-set_same ws mode_place n 0 (omega arith)) h;
      };
    }

pub start_changed : (ws : List ℕ) (n : ℕ) → Row ws
    → Changed (with_start n) ws (set ws start_place n)
unfolding state_of
start_changed ws n r =
    let z = r.long in
    let k = kept ws start_place (n ∷ []) 0 [] start_place number_place 0 0 (omega arith) (omega arith) (omega arith)
    (omega arith) in
    record {
      is = by_parts (set ws start_place n) (with_start n (state_of ws)) (record {
        own = k.own refl;
        mode = k.mode refl;
        net = k.net refl;
        stored = k.stored refl;
        accepted = k.accepted refl;
        view = k.view refl;
        start = get_or-set_same ws start_place n 0 (omega arith);
        number = k.number refl;
        used = k.used refl;
      });
      row = record {
        long = stores_long ws start_place (n ∷ []) 0 [] ∙ z;
        present = k.present refl r;
        mode = k.mode_word refl r;
      };
    }

pub number_changed : (ws : List ℕ) (n : ℕ) → Row ws
    → Changed (with_number n) ws (set ws number_place n)
unfolding state_of
number_changed ws n r =
    let z = r.long in
    let k = kept ws number_place (n ∷ []) 0 [] number_place view_place 0 0 (omega arith) (omega arith) (omega arith)
    (omega arith) in
    record {
      is = by_parts (set ws number_place n) (with_number n (state_of ws)) (record {
        own = k.own refl;
        mode = k.mode refl;
        net = k.net refl;
        stored = k.stored refl;
        accepted = k.accepted refl;
        view = k.view refl;
        start = k.start refl;
        number = get_or-set_same ws number_place n 0 (omega arith);
        used = k.used refl;
      });
      row = record {
        long = stores_long ws number_place (n ∷ []) 0 [] ∙ z;
        present = k.present refl r;
        mode = k.mode_word refl r;
      };
    }

pub accepted_changed : (ws : List ℕ) (o n : ℕ) → Row ws → o < 16
    → Changed (with_accepted o n) ws (set ws (accepted_place + o) n)
unfolding state_of
accepted_changed ws o n r lt =
    let z = r.long in
    let k = kept ws (accepted_place + o) (n ∷ []) 0 [] accepted_place used_place 0 0 (omega arith) (omega arith)
    (omega arith) (omega arith) in
    record {
      is = by_parts (set ws (accepted_place + o) n) (with_accepted o n (state_of ws)) (record {
        own = k.own refl;
        mode = k.mode refl;
        net = k.net refl;
        stored = k.stored refl;
        accepted = sixteen_set ws accepted_place o n (omega arith) lt;
        view = k.view refl;
        start = k.start refl;
        number = k.number refl;
        used = k.used refl;
      });
      row = record {
        long = stores_long ws (accepted_place + o) (n ∷ []) 0 [] ∙ z;
        present = k.present refl r;
        mode = k.mode_word refl r;
      };
    }

pub used_changed : (ws : List ℕ) (o n : ℕ) → Row ws → o < 16
    → Changed (with_used o n) ws (set ws (used_place + o) n)
unfolding state_of
used_changed ws o n r lt =
    let z = r.long in
    let k = kept ws (used_place + o) (n ∷ []) 0 [] used_place (numbers_place 0) 0 0 (omega arith) (omega arith)
    (omega arith) (omega arith) in
    record {
      is = by_parts (set ws (used_place + o) n) (with_used o n (state_of ws)) (record {
        own = k.own refl;
        mode = k.mode refl;
        net = k.net refl;
        stored = k.stored refl;
        accepted = k.accepted refl;
        view = k.view refl;
        start = k.start refl;
        number = k.number refl;
        used = sixteen_set ws used_place o n (omega arith) lt;
      });
      row = record {
        long = stores_long ws (used_place + o) (n ∷ []) 0 [] ∙ z;
        present = k.present refl r;
        mode = k.mode_word refl r;
      };
    }

pub net_changed : (ws : List ℕ) (x : SeatSet) → Row ws
    → Changed (with_net_set x) ws (sets ws net_place (set_words x))
unfolding state_of
net_changed ws x r =
    let z = r.long in
    let at : (p k : ℕ) → p ≡ net_place + k → k < 2
    → get_or (sets ws net_place (set_words x)) p 0 ≡ get_or (set_words x) k 0 =
    λ p k e l. in_first ws net_place (set_words x) 0 [] p k e l (omega arith) (λ a b. omega arith) in
    let k = kept ws net_place (set_words x) 0 [] net_place members_place 0 0 (omega arith) (omega arith) (omega arith)
    (omega arith) in
    record {
      is = by_parts (sets ws net_place (set_words x)) (with_net_set x (state_of ws)) (record {
        own = k.own refl;
        mode = k.mode refl;
        net = set_read (sets ws net_place (set_words x)) net_place x (at net_place 0 (omega arith) (omega arith))
            (at (net_place + 1) 1 (omega arith) (omega arith));
        stored = k.stored refl;
        accepted = k.accepted refl;
        view = k.view refl;
        start = k.start refl;
        number = k.number refl;
        used = k.used refl;
      });
      row = record {
        long = stores_long ws net_place (set_words x) 0 [] ∙ z;
        present = k.present refl r;
        mode = k.mode_word refl r;
      };
    }

view_stored : (ws : List ℕ) (v : View) → length ws ≡ row_length → length v.starts ≡ 16
    → view_at (sets (sets ws members_place (set_words v.members)) view_place (v.number ∷ v.starts)) ≡ v
view_stored ws v z n =
    rw (
      set_read (sets (sets ws members_place (set_words v.members)) view_place (v.number ∷ v.starts)) members_place
          v.members
          (in_first ws members_place (set_words v.members) view_place (v.number ∷ v.starts) members_place 0
          (omega arith) (omega arith) (omega arith) (λ a b. omega arith))
          (in_first ws members_place (set_words v.members) view_place (v.number ∷ v.starts) (members_place + 1) 1
          (omega arith) (omega arith) (omega arith) (λ a b. omega arith)),
      in_second ws members_place (set_words v.members) view_place (v.number ∷ v.starts) view_place 0 (omega arith)
          (omega arith) (omega arith),
      sixteen_read (sets (sets ws members_place (set_words v.members)) view_place (v.number ∷ v.starts)) starts_place
          v.starts n
          (λ j h. in_second ws members_place (set_words v.members) view_place (v.number ∷ v.starts)
          (starts_place + j) (suc j) (omega arith) (omega arith) (omega arith)),
    )

pub view_changed : (ws : List ℕ) (v : View) → Row ws → length v.starts ≡ 16
    → Changed (with_view v) ws (sets (sets ws members_place (set_words v.members)) view_place (v.number ∷ v.starts))
unfolding state_of
view_changed ws v r n =
    let z = r.long in
    let k = kept ws members_place (set_words v.members) view_place (v.number ∷ v.starts) members_place
    present_place view_place accepted_place (omega arith) (omega arith) (omega arith) (omega arith) in
    record {
      is = by_parts (sets (sets ws members_place (set_words v.members)) view_place (v.number ∷ v.starts))
          (with_view v (state_of ws)) (record {
            own = k.own refl;
            mode = k.mode refl;
            net = k.net refl;
            stored = k.stored refl;
            accepted = k.accepted refl;
            view = view_stored ws v z n;
            start = k.start refl;
            number = k.number refl;
            used = k.used refl;
          });
      row = record {
        long = stores_long ws members_place (set_words v.members) view_place (v.number ∷ v.starts) ∙ z;
        present = k.present refl r;
        mode = k.mode_word refl r;
      };
    }

-- whether something is stored for an office: w' is the presence word with that bit
module _ (ws : List ℕ) (o : ℕ) (b : Bool) (w' : ℕ) (r : Row ws) (lt : o < 16)
    (f : Flagged (get_or ws present_place 0) o b w') where
  abbrev flag_stored : List ℕ
  flag_stored = set ws present_place w'

  flag_here : get_or flag_stored present_place 0 ≡ w'
  flag_here = let z = r.long in get_or-set_same ws present_place w' 0 (omega arith)

  flag_present : (k : ℕ) → k < 16
      → (slot_of flag_stored k).present ≡ ifb (eqb k o) b (has (get_or ws present_place 0) k)
  unfolding slot_of
  flag_present k h = rw flag_here (f.1 k h)

  flag_proposal : (k : ℕ) → (slot_of flag_stored k).proposal ≡ (slot_of ws k).proposal
  flag_proposal k = proposal_kept ws present_place (w' ∷ []) 0 [] k (λ p q. omega arith, λ p q. omega arith)
      (λ p q. omega arith, λ p q. omega arith)

  flag_at : (k : ℕ) → k < 16
      → slot_of flag_stored k
      ≡ upd (stored_at (state_of ws)) o (record { present = b; proposal = (stored_at (state_of ws) o).proposal }) k
  flag_at k h = go (ℕ_discrete k o)
    where
      v : Slot
      v = record { present = b; proposal = (stored_at (state_of ws) o).proposal }

      go : Dec (k ≡ o) → slot_of flag_stored k ≡ upd (stored_at (state_of ws)) o v k
      go (yes e) = rw (e, upd_same (stored_at (state_of ws)) o v)
          (slot_same (slot_of flag_stored o) v (flag_present o lt ∙ rw (eq-eqb o o refl))
          (flag_proposal o ∙ ap (λ (x : Slot). x.proposal) (sym (row_stored ws o lt))))
      go (no q) = rw (upd_other (stored_at (state_of ws)) o v k q)
          (slot_same (slot_of flag_stored k) (stored_at (state_of ws) k)
          (flag_present k h ∙ rw (ne_eqb k o q) (sym (row_present ws k h)))
          (flag_proposal k ∙ ap (λ (x : Slot). x.proposal) (sym (row_stored ws k h))))

  pub flag_changed : Changed (flagging o b) ws flag_stored
  unfolding state_of flagging
  flag_changed =
      let z = r.long in
      let k = kept ws present_place (w' ∷ []) 0 [] present_place (slot_place 0) 0 0 (omega arith) (omega arith)
      (omega arith) (omega arith) in
      record {
        is = by_parts flag_stored (flagging o b (state_of ws)) (record {
          own = k.own refl;
          mode = k.mode refl;
          net = k.net refl;
          stored = tab_ext 16 (slot_of flag_stored) _ flag_at;
          accepted = k.accepted refl;
          view = k.view refl;
          start = k.start refl;
          number = k.number refl;
          used = k.used refl;
        });
        row = record {
          long = stores_long ws present_place (w' ∷ []) 0 [] ∙ z;
          present = rw flag_here f.0;
          mode = k.mode_word refl r;
        };
      }

-- the proposal stored for an office; whether there is one stays
module _ (ws : List ℕ) (o : ℕ) (v : Slot) (z : length ws ≡ row_length) (lt : o < 16)
    (n : length v.proposal.used ≡ 16) (e : has (get_or ws present_place 0) o ≡ v.present) where
  abbrev slot_stored : List ℕ
  slot_stored = sets (sets ws (slot_place o) (slot_words v)) (numbers_place o) (slot_numbers v)

  slot_word : (p k : ℕ) → p ≡ slot_place o + k → k < slot_length → get_or slot_stored p 0 ≡ get_or (slot_words v) k 0
  slot_word p k e l = in_first ws (slot_place o) (slot_words v) (numbers_place o) (slot_numbers v) p k e (omega arith)
      (omega arith) (λ a b. omega arith)

  slot_number : (p k : ℕ) → p ≡ numbers_place o + k → k < stored_length
      → get_or slot_stored p 0 ≡ get_or (slot_numbers v) k 0
  slot_number p k e l =
      in_second ws (slot_place o) (slot_words v) (numbers_place o) (slot_numbers v) p k e (omega arith)
      (omega arith)

  presence_kept : get_or slot_stored present_place 0 ≡ get_or ws present_place 0
  presence_kept = word_kept ws (slot_place o) (slot_words v) (numbers_place o) (slot_numbers v) present_place
      (λ a b. omega arith, λ a b. omega arith)

  slot_here : slot_of slot_stored o ≡ v
  slot_here = slot_read slot_stored o v n (ap (λ (w : ℕ). has w o) presence_kept ∙ e) slot_word slot_number

  slot_at : (k : ℕ) → k < 16 → slot_of slot_stored k ≡ upd (stored_at (state_of ws)) o v k
  slot_at k h = go (ℕ_discrete k o)
    where
      go : Dec (k ≡ o) → slot_of slot_stored k ≡ upd (stored_at (state_of ws)) o v k
      go (yes e) = rw (e, upd_same (stored_at (state_of ws)) o v) slot_here
      go (no q) = rw (upd_other (stored_at (state_of ws)) o v k q, row_stored ws k h)
          (slot_kept ws (slot_place o) (slot_words v) (numbers_place o) (slot_numbers v) k
          (λ a b. omega arith, λ a b. omega arith)
          (λ a b. q (omega arith), λ a b. omega arith) (λ a b. omega arith, λ a b. q (omega arith)))

  slot_changed : Row ws → Changed (with_stored o v) ws slot_stored
  unfolding state_of
  slot_changed r =
      let k = kept ws (slot_place o) (slot_words v) (numbers_place o) (slot_numbers v) (slot_place 0) start_place
      (numbers_place 0) row_length (omega arith) (omega arith) (omega arith) (omega arith) in
      record {
        is = by_parts slot_stored (with_stored o v (state_of ws)) (record {
          own = k.own refl;
          mode = k.mode refl;
          net = k.net refl;
          stored = tab_ext 16 (slot_of slot_stored) (upd (stored_at (state_of ws)) o v) slot_at;
          accepted = k.accepted refl;
          view = k.view refl;
          start = k.start refl;
          number = k.number refl;
          used = k.used refl;
        });
        row = record {
          long = stores_long ws (slot_place o) (slot_words v) (numbers_place o) (slot_numbers v) ∙ z;
          present = k.present refl r;
          mode = k.mode_word refl r;
        };
      }

pub filled_changed : (ws : List ℕ) (o : ℕ) (p : Proposal) → Row ws → o < 16 → length p.used ≡ 16
    → Changed (filling o p) ws
    (sets (sets ws (slot_place o) (p.sender ∷ p.kind ∷ set_words p.members)) (numbers_place o)
    (p.start ∷ p.number ∷ p.used))
unfolding filling
filled_changed ws o p r lt n =
    let c = slot_changed ws o (record { present = (stored_at (state_of ws) o).present; proposal = p }) r.long lt n
    (sym (row_present ws o lt)) r in
    record { is = c.is; row = c.row }

-- both, one after the other
flagged_filled : (s : State) (o : ℕ) (b : Bool) (p : Proposal) → o < 16
    → filling o p (flagging o b s) ≡ with_stored o (record { present = b; proposal = p }) s
unfolding filling flagging
flagged_filled s o b p lt = rw (tab_ext 16 _ _ (λ k h. go k h (ℕ_discrete k o)))
  where
    u : Slot
    u = record { present = b; proposal = (stored_at s o).proposal }

    v : Slot
    v = record { present = b; proposal = p }

    once : State
    once = with_stored o u s

    here : stored_at once o ≡ u
    here = get_or_tab 16 (upd (stored_at s) o u) o nothing lt ∙ upd_same (stored_at s) o u

    w : Slot
    w = record { present = (stored_at once o).present; proposal = p }

    same : w ≡ v
    same = rw here

    go : (k : ℕ) → k < 16 → Dec (k ≡ o) → upd (stored_at once) o w k ≡ upd (stored_at s) o v k
    go k h (yes e) = rw (e, upd_same (stored_at once) o w, upd_same (stored_at s) o v) same
    go k h (no q) =
        rw (upd_other (stored_at once) o w k q, upd_other (stored_at s) o v k q)
        (get_or_tab 16 (upd (stored_at s) o u) k nothing h ∙ upd_other (stored_at s) o u k q)

pub stored_changed : {a b c : List ℕ} (o : ℕ) (t : Bool) (p : Proposal) → o < 16
    → Changed (flagging o t) a b → Changed (filling o p) b c
    → Changed (with_stored o (record { present = t; proposal = p })) a c
stored_changed {a} o t p lt x y = record {
  is = y.is ∙ ap (filling o p) x.is ∙ flagged_filled (state_of a) o t p lt;
  row = y.row;
}

-- zeros, the own office and one number three times: a state that begins again
pub restarted_words : (o m : ℕ)
    → set (set (set (set (tab row_length (λ k. 0)) own_place o) start_place m) number_place m) view_place m
    ≡ words_of (restarted o m)
unfolding tab words_of restarted packed
restarted_words o m = refl
