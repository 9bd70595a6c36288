-- desks: the words that are written, the calls at each exit, and what the words hold then.
use Rattle.std.specs.Prelude.{Result, Ok, Err}
use Rattle.std.specs.Result.{result_unwrap_or}
use mathlib.Core.Path.{◌≡◌, refl, sym, ap, ◌∙◌}
use mathlib.Core.Bool.{Bool, true, false, not}
use mathlib.Core.List.{List, [], ◌∷◌}
use Prim.Native.Nat.{ℕ, zero, suc, ◌+◌, ◌*◌, ◌≤◌, ◌<◌}
use native.Mathlib.Omega.{arith}
use native.Mathlib.Decide.{ℕ_discrete, dec_lt}
use lib.Dec.{eqb}
use lib.ListN.{length, length-append, set, get_or, get_or-append, get_or-eq_default}
use lib.Seq.{sets, length-sets, get_or-append-add}
use mir.Val.{bool_byte}
use borrow.Author.Tests.{eqb-true, ne_eqb, leb-true, leb-false}
use Rattle.laws.specs.Upd.{ifb}
use Rattle.laws.proofs.Loops.{flag}
use Rattle.laws.proofs.Seqs.{sets_append, sets_all, get_or_sets_out, get_or_sets_at}
use Rattle.records.specs.Numbers.{room_count, room_above}
use Rattle.records.specs.Layout.{room_of}
use Rattle.records.specs.declared.refusal.Refusal.{Refusal}
use Rattle.records.specs.Refusals.{number, refusal_of}
use Rattle.desk.specs.declared.checks.Desk.{Desk}
use Rattle.desk.specs.Hearing.{Heard, heard_as, fresh_desk, made_desk, hear_of}
use Rattle.desk.proofs.Refusals.{refusal_some}
use Rattle.desk.specs.Syncing.{sync_bytes}
use Rattle.desk.specs.Rooms.{SeatMachine, RoomsDesk, RoomsHeard, desk_in, machine_of, in_every_room, made_rooms}
use Rattle.desk.specs.Rooms.{hear_rooms}
use Rattle.desk.proofs.RoomsLaws.{room_refusal, room_machine, others_stay, refusal_stays, room_accepted}
use Rattle.desk.proofs.RoomsLaws.{no_sync_in, sync_in_lem}
use Rattle.calls.specs.DeskWords.{desk_length, is_desk, machine_place, machine_at, desk_of, machine_words}
use Rattle.calls.specs.DeskWords.{machines_words, desk_words, fresh_in_words, heard_in_words, hear_in_words}
use Rattle.calls.specs.DeskWords.{InWords, sync_in_words}

pub length_machines : (n : ℕ) (machine : ℕ → SeatMachine) → length (machines_words n machine) ≡ 3 * n
unfolding machines_words
length_machines zero machine = refl
length_machines (suc n) machine =
    let h = length_machines n machine in
    length-append (machines_words n machine) (machine_words (machine n)) ∙ omega arith

-- the machines of the first n rooms written behind the seat, in words that are a desk
pub record Machines (ws : List ℕ) (n : ℕ) (machine : ℕ → SeatMachine) (ws' : List ℕ) : Type 0 where
  pub whole : length ws ≡ desk_length
  pub is : ws' ≡ sets ws 1 (machines_words n machine)

pub still_whole : {ws ws' : List ℕ} {n : ℕ} {machine : ℕ → SeatMachine} → Machines ws n machine ws'
    → length ws' ≡ desk_length
still_whole {ws} {ws'} {n} {machine} m =
    ap length m.is ∙ length-sets ws 1 (machines_words n machine) ∙ m.whole

-- none, and one more
pub no_machines : (ws : List ℕ) (machine : ℕ → SeatMachine) → length ws ≡ desk_length → Machines ws 0 machine ws
unfolding machines_words
no_machines ws machine l = record { whole = l; is = refl }

pub machines_then : {ws ws' ws'' : List ℕ} {n : ℕ} {machine : ℕ → SeatMachine} → Machines ws n machine ws'
    → ws'' ≡ sets ws' (machine_place n) (machine_words (machine n)) → Machines ws (n + 1) machine ws''
unfolding machines_words
machines_then {ws} {ws'} {ws''} {n} {machine} m e =
    let h = length_machines n machine in
    let place : 1 + length (machines_words n machine) ≡ machine_place n = omega arith in
    let one : n + 1 ≡ suc n = omega arith in
    record {
      whole = m.whole;
      is = rw one (e ∙ rw (m.is, ← place)
          (sym (sets_append ws 1 (machines_words n machine) (machine_words (machine n)))));
    }

-- the three words of a machine, written and read at its place
module _ (ws : List ℕ) (room at : ℕ) (place : at ≡ machine_place room) where
  first : at + 0 ≡ machine_place room
  first = omega arith

  pub machine_written : (d : Desk)
      → set (set (set ws (at + 0) d.start) (at + 1) d.view) (at + 2) (bool_byte d.changing)
      ≡ sets ws (machine_place room) (machine_words (machine_of d))
  machine_written d =
      let second : at + 1 ≡ suc (machine_place room) = omega arith in
      let third : at + 2 ≡ suc (suc (machine_place room)) = omega arith in
      rw (first, second, third, flag d.changing)

  pub machine_read :
      record {
        seat = get_or ws 0 0;
        start = get_or ws (at + 0) 0;
        view = get_or ws (at + 1) 0;
        changing = not (eqb (get_or ws (at + 2) 0) 0);
      }
      ≡ desk_in (desk_of ws) room
  unfolding desk_of
  machine_read = rw (first, place)

-- all of them behind the seat are the desk's words
pub all_written : (ws : List ℕ) {ws' : List ℕ} (d : RoomsDesk) → length ws ≡ desk_length
    → Machines (set ws 0 d.seat) room_count d.machine ws' → ws' ≡ desk_words d
unfolding desk_words
all_written ws d l m =
    m.is ∙ sets_all (d.seat ∷ machines_words room_count d.machine) ws
    (l ∙ ap suc (sym (length_machines room_count d.machine)))

-- a room above 7 has no words
pub no_words : (ws : List ℕ) (room : ℕ) → length ws ≡ desk_length → room_count ≤ room
    → record { seat = get_or ws 0 0; start = 0; view = 0; changing = false } ≡ desk_in (desk_of ws) room
unfolding desk_of
no_words ws room l above =
    rw (
      past (machine_place room) (omega arith),
      past (machine_place room + 1) (omega arith),
      past (machine_place room + 2) (omega arith),
    )
  where
    past : (i : ℕ) → desk_length ≤ i → get_or ws i 0 ≡ 0
    past i h = get_or-eq_default ws 0 {n = i} (omega arith)

-- words of another length
module _ (ws : List ℕ) (other : false ≡ is_desk ws) where
  pub fresh_other : (seat : ℕ) → record { refusal = 6; words = ws } ≡ fresh_in_words seat ws
  unfolding fresh_in_words
  fresh_other seat = rw (sym other)

  pub sync_other : (room : ℕ) → sync_in_words ws room ≡ []
  unfolding sync_in_words
  sync_other room = rw (sym other)

  pub hear_other : (b : List ℕ) → record { refusal = 6; words = ws } ≡ hear_in_words ws b
  unfolding hear_in_words
  hear_other b = rw (sym other)

-- a refused seat leaves the desk of zeros, which is the fresh seat 0
zeros : (s t v : ℕ) (c : Bool) → s ≡ 0 → t ≡ 0 → v ≡ 0 → c ≡ false
    → record { seat = s; start = t; view = v; changing = c } ≡ fresh_desk 0
unfolding fresh_desk
zeros s t v c d e f g = rw (d, e, f, g)

pub default_left : (m : Result Desk Refusal) (z : Desk) → z.seat ≡ 0 → z.start ≡ 0 → z.view ≡ 0 → z.changing ≡ false
    → result_unwrap_or m z ≡ (heard_as (fresh_desk 0) m).desk
default_left (Ok e) z a b c d = refl
default_left (Err r) z a b c d = zeros _ _ _ _ a b c d

module _ (ws : List ℕ) (is : true ≡ is_desk ws) where
  whole : is_desk ws ≡ true
  whole = sym is

  pub desk_whole : length ws ≡ desk_length
  desk_whole = eqb-true (length ws) desk_length whole

  -- made, or the fresh seat 0 with the refusal
  pub fresh_made : (seat : ℕ) (m : Result Desk Refusal) → heard_as (fresh_desk 0) m ≡ made_desk seat → (d : Desk)
      → d ≡ (heard_as (fresh_desk 0) m).desk → (n : ℕ) → n ≡ refusal_of m → (ws' : List ℕ)
      → ws' ≡ desk_words (in_every_room d)
      → record { refusal = n; words = ws' } ≡ fresh_in_words seat ws
  unfolding fresh_in_words made_rooms
  fresh_made seat m e d q n z ws' w = rw (whole, w, q, z, ← e) (same m)
    where
      same : (m : Result Desk Refusal) → ◌≡◌ {A = InWords}
          (record { refusal = refusal_of m; words = desk_words (in_every_room (heard_as (fresh_desk 0) m).desk) })
          (record {
            refusal = (heard_as (fresh_desk 0) m).refusal;
            words = desk_words (in_every_room (heard_as (fresh_desk 0) m).desk);
          })
      same (Ok e) = refl
      same (Err r) = refl

  pub sync_above_lem : (room : ℕ) → room_above room ≡ true → sync_in_words ws room ≡ []
  unfolding sync_in_words
  sync_above_lem room a = rw whole (no_sync_in (desk_of ws) room (leb-true room_count room a))

  pub sync_words : (room : ℕ) → room_above room ≡ false → sync_in_words ws room ≡ sync_bytes (desk_in (desk_of ws) room)
  unfolding sync_in_words
  sync_words room a = rw whole (sync_in_lem (desk_of ws) room (leb-false room_count room a))

  module _ (b : List ℕ) where
    abbrev before : Desk
    before = desk_in (desk_of ws) (room_of b)

    pub hear_kept : (e : Refusal) → record { refusal = number e; desk = before } ≡ hear_of before b
        → record { refusal = number e; words = ws } ≡ hear_in_words ws b
    unfolding hear_in_words
    hear_kept e is =
        let q : number e ≡ (hear_of before b).refusal = ap (λ (x : Heard). x.refusal) is in
        rw (whole, room_refusal (desk_of ws) b, ← q, refusal_some e)

    -- what is accepted is of one of the eight rooms
    module _ (after : Desk) (heard : record { refusal = 0; desk = after } ≡ hear_of before b) where
      accepted : (hear_rooms (desk_of ws) b).refusal ≡ 0
      accepted = room_refusal (desk_of ws) b ∙ ap (λ (x : Heard). x.refusal) (sym heard)

      pub room_in : room_of b < room_count
      room_in = room_accepted (desk_of ws) b accepted

      pub hear_changed : (ws' : List ℕ)
          → ws' ≡ sets ws (machine_place (room_of b)) (machine_words (machine_of after))
          → record { refusal = 0; words = ws' } ≡ hear_in_words ws b
      unfolding hear_in_words
      hear_changed ws' d = rw (whole, accepted, d, room_machine (desk_of ws) b, ← heard)

-- what a word of a written flag says
flag_back : (b : Bool) → not (eqb (ifb {A = ℕ} b 1 0) 0) ≡ b
flag_back true = refl
flag_back false = refl

-- the words of a desk hold it in each room
machines_back : (n : ℕ) (machine : ℕ → SeatMachine) (room : ℕ) → room < n → (j : ℕ) → j < 3
    → get_or (machines_words n machine) (3 * room + j) 0 ≡ get_or (machine_words (machine room)) j 0
unfolding machines_words
machines_back zero machine room l j k = absurd (omega arith)
machines_back (suc n) machine room l j k = go (dec_lt room n) (λ a. machines_back n machine room a j k)
  where
    len : length (machines_words n machine) ≡ 3 * n
    len = length_machines n machine

    go : Dec (room < n) → (room < n → get_or (machines_words n machine) (3 * room + j) 0
        ≡ get_or (machine_words (machine room)) j 0)
        → get_or (machines_words (suc n) machine) (3 * room + j) 0 ≡ get_or (machine_words (machine room)) j 0
    go (yes lower) before =
        get_or-append (machines_words n machine) (machine_words (machine n)) 0 (3 * room + j)
        (let e = len in omega arith) ∙ before lower
    go (no not_lower) before =
        let last : n ≡ room = omega arith in
        let at : 3 * room + j ≡ length (machines_words n machine) + j = let e = len in omega arith in
        rw at (get_or-append-add (machines_words n machine) (machine_words (machine n)) j 0)
        ∙ ap (λ (k : ℕ). get_or (machine_words (machine k)) j 0) last

pub desk_back : (d : RoomsDesk) (room : ℕ) → room < room_count → desk_in (desk_of (desk_words d)) room ≡ desk_in d room
unfolding desk_of desk_words
desk_back d room l =
    rw (
      word 0 (machine_place room) (omega arith) (omega arith),
      word 1 (machine_place room + 1) (omega arith) (omega arith),
      word 2 (machine_place room + 2) (omega arith) (omega arith),
      flag_back (d.machine room).changing,
    )
  where
    word : (j at : ℕ) → at ≡ suc (3 * room + j) → j < 3
        → get_or (d.seat ∷ machines_words room_count d.machine) at 0 ≡ get_or (machine_words (d.machine room)) j 0
    word j at e k = rw e (machines_back room_count d.machine room l j k)

-- three words at a place are the machine that was written there
at_place : (ws : List ℕ) (at : ℕ) (m : SeatMachine) → at + 3 ≤ length ws
    → machine_at (sets ws at (machine_words m)) at ≡ m
at_place ws at m l =
    let s : get_or (sets ws at (machine_words m)) at 0 ≡ m.start =
    rw zero_on at (get_or_sets_at (machine_words m) ws at 0 0 (omega arith) l) in
    let v = get_or_sets_at (machine_words m) ws at 1 0 (omega arith) l in
    let c = get_or_sets_at (machine_words m) ws at 2 0 (omega arith) l in
    rw (s, v, c, flag_back m.changing)
  where
    zero_on : at + 0 ≡ at
    zero_on = omega arith

-- what comes of bytes in words that are a desk
module _ (ws b : List ℕ) (whole : is_desk ws ≡ true) where
  abbrev h : RoomsHeard
  h = hear_rooms (desk_of ws) b

  -- every word outside the three of the record's room stays, and all of them where it is refused
  pub words_stay : (i : ℕ) → (machine_place (room_of b) ≤ i → i < machine_place (room_of b) + 3 → ⊥)
      → get_or (hear_in_words ws b).words i 0 ≡ get_or ws i 0
  unfolding hear_in_words
  words_stay i out = rw whole (go (ℕ_discrete h.refusal 0))
    where
      go : Dec (h.refusal ≡ 0) → get_or (heard_in_words ws (room_of b) h).words i 0 ≡ get_or ws i 0
      go (yes z) =
          rw z (get_or_sets_out (machine_words (h.desk.machine (room_of b))) ws (machine_place (room_of b)) i 0 out)
      go (no n) = rw (ne_eqb h.refusal 0 n)

  -- so they hold in each room what the desk that they held has there then
  pub hear_holds : (room : ℕ) → room < room_count
      → (desk_of (hear_in_words ws b).words).machine room ≡ h.desk.machine room
  unfolding hear_in_words desk_of
  hear_holds room l = go (ℕ_discrete h.refusal 0) (ℕ_discrete room (room_of b))
    where
      Holds : Type 0
      Holds = (desk_of (hear_in_words ws b).words).machine room ≡ h.desk.machine room

      stays : ((i : ℕ) → machine_place room ≤ i → i < machine_place room + 3
          → get_or (hear_in_words ws b).words i 0 ≡ get_or ws i 0) → (desk_of ws).machine room ≡ h.desk.machine room
          → Holds
      stays w e =
          rw (
            w (machine_place room) (omega arith) (omega arith),
            w (machine_place room + 1) (omega arith) (omega arith),
            w (machine_place room + 2) (omega arith) (omega arith),
          ) e

      go : Dec (h.refusal ≡ 0) → Dec (room ≡ room_of b) → Holds
      go (yes z) (yes q) =
          rw (whole, z, ← q) (at_place ws (machine_place room) (h.desk.machine room)
          (let e = eqb-true (length ws) desk_length whole in omega arith))
      go (yes z) (no n) =
          stays (λ i a c. words_stay i (λ x y. n (omega arith))) (sym (others_stay (desk_of ws) b room n))
      go (no n) q =
          stays (λ i a c. rw (whole, ne_eqb h.refusal 0 n))
          (sym (refusal_stays (desk_of ws) b n room))

-- what the code's proofs take from here
pub ruleset read_laws = (no_words, machine_read)

pub ruleset rooms_laws = (no_machines, machines_then, still_whole, all_written)

pub ruleset fresh_laws = (fresh_other, fresh_made, desk_whole)

pub ruleset hear_laws = (hear_other, hear_kept, room_in, hear_changed, desk_whole)

pub ruleset sync_laws = (sync_words, desk_whole)
