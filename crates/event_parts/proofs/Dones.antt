-- For opening and every later part: parts of an event one after another, on a row and an output that are lent.
use mathlib.Core.Path.{◌≡◌, refl, ap, ◌∙◌}
use mathlib.Core.List.{List, [], ◌∷◌}
use Prim.Native.Nat.{ℕ, ◌+◌, ◌≤◌}
use native.Mathlib.Omega.{arith}
use lib.ListN.{length}
use lib.Seq.{length-sets}
use Rattle.rules.specs.State.{State}
use Rattle.rules.specs.Rules.{Written, Outcome, nothing_written, and_then}
use Rattle.rules.specs.Refusals.{Event, rule_of, bytes_of, size, full_room}
use Rattle.rule_laws.proofs.Sizes.{size_append, bytes_one, event_size}
use Rattle.row.specs.declared.lent.RowMut.{RowMut}
use Rattle.row.specs.Held.{held_mut}
use Rattle.row.specs.Moved.{Moved}
use Rattle.row.proofs.StoreLaws.{then}
use Rattle.event_parts.specs.declared.output.Output.{Output}
use Rattle.event_parts.specs.Done.{Done, HasFullRoom, HasRoom}
use Rattle.event_parts.specs.Wrote.{Wrote}
use Rattle.event_parts.proofs.Appended.{appended_none, appended_one, appended_then}

-- one change after another, and a change that is another on this row
pub moved_then : {f g : State → State} {a b c : RowMut} → Moved f a b → Moved g b c → Moved (λ s. g (f s)) a c
moved_then p q = record { same = q.same ∙ p.same; changed = then p.changed q.changed }

pub moved_as : {f : State → State} {a b : RowMut} (g : State → State) → Moved f a b → f (held_mut a) ≡ g (held_mut a)
    → Moved g a b
moved_as g x e = record { same = x.same; changed = record { is = x.changed.is ∙ e; row = x.changed.row } }

-- a change and one record
abbrev pub one : (State → State) → Written → State → Outcome
one h w s = record { state = h s; written = w ∷ [] }

module _ {r r' : RowMut} {o o' : Output} where
  -- a part that is another on this row
  pub done_as : {f : State → Outcome} (g : State → Outcome) → Done f r o r' o' → f (held_mut r) ≡ g (held_mut r)
      → Done g r o r' o'
  done_as g d e = record {
    same_row = d.same_row;
    same_out = d.same_out;
    room = d.room;
    did = record {
      is = d.did.is ∙ ap (λ (x : Outcome). x.state) e;
      row = d.did.row;
      written = rw (← e) d.did.written;
    };
  }

  -- one part after another
  pub done_then : {f g : State → Outcome} {r'' : RowMut} {o'' : Output} → Done f r o r' o' → Done g r' o' r'' o''
      → Done (λ s. and_then (f s) g) r o r'' o''
  unfolding and_then
  done_then {f} {g} a b = record {
    same_row = b.same_row ∙ a.same_row;
    same_out = b.same_out ∙ a.same_out;
    room = b.room ∙ a.room;
    did = record {
      is = b.did.is ∙ ap (λ (s : State). (g s).state) a.did.is;
      row = b.did.row;
      written = appended_then a.did.written (rw (a.room, a.did.is) at b.did.written);
    };
  }

  -- a part after a change
  pub done_after : {h : State → State} {f : State → Outcome} {r₀ : RowMut} → Moved h r₀ r → Done f r o r' o'
      → Done (λ s. f (h s)) r₀ o r' o'
  done_after {h} {f} x d = record {
    same_row = d.same_row ∙ x.same;
    same_out = d.same_out;
    room = d.room;
    did = record {
      is = d.did.is ∙ ap (λ (s : State). (f s).state) x.changed.is;
      row = d.did.row;
      written = rw x.changed.is at d.did.written;
    };
  }

  -- a part that on this row is a change and one record
  pub done_wrote : (part : State → Outcome) {h : State → State} {b : List ℕ} (w : Written) → Moved h r r'
      → one h w (held_mut r) ≡ part (held_mut r) → b ≡ bytes_of o.room w → Wrote b o o' → Done part r o r' o'
  done_wrote part {h} w x e f p =
      done_as {f = one h w} part (record {
        same_row = x.same;
        same_out = p.same;
        room = p.room;
        did = record {
          is = x.changed.is;
          row = x.changed.row;
          written = rw (p.at, p.output, f) (appended_one o.bytes.now o.at w);
        };
      }) e

-- a change and no record, and no change at all
pub done_quiet : {h : State → State} {r r' : RowMut} (o : Output) → Moved h r r'
    → Done (λ s. nothing_written (h s)) r o r' o
done_quiet o x = record {
  same_row = x.same;
  same_out = refl;
  room = refl;
  did = record { is = x.changed.is; row = x.changed.row; written = appended_none o.bytes.now o.at };
}

pub done_none : (r : RowMut) (o : Output) → Done nothing_written r o r o
done_none r o = record {
  same_row = refl;
  same_out = refl;
  room = refl;
  did = record { is = refl; row = r.is; written = appended_none o.bytes.now o.at };
}

-- what a part writes has room where what another part writes on this row has it
pub room_as : (f g : State → Outcome) (r : RowMut) (o : Output) → f (held_mut r) ≡ g (held_mut r) → HasRoom g r o
    → HasRoom f r o
room_as f g r o e fits = rw e fits

-- where two parts have room, the first has it, and then the second
module _ (f g : State → Outcome) (r : RowMut) (o : Output) (fits : HasRoom (λ s. and_then (f s) g) r o) where
  both : size (and_then (f (held_mut r)) g).written ≡ size (f (held_mut r)).written + size
      (g (f (held_mut r)).state).written
  unfolding and_then
  both = size_append (f (held_mut r)).written (g (f (held_mut r)).state).written

  pub room_first : HasRoom f r o
  room_first = let e = both in omega arith

  pub room_second : {r' : RowMut} {o' : Output} → Done f r o r' o' → HasRoom g r' o'
  room_second {r'} {o'} d =
      let e = both in
      let p = d.did.written.place in
      let l : length o'.bytes.now ≡ length o.bytes.now = ap length d.did.written.output ∙ simp length-sets in
      rw d.did.is (omega arith)

-- a part that writes what a rule does has it in the full room
pub part_room : (part : State → Outcome) (r : RowMut) (u : Outcome) (o : Output) → part (held_mut r) ≡ u
    → size u.written ≤ full_room → HasFullRoom o → HasRoom part r o
part_room part r u o q h le = let f = ap (λ (x : Outcome). size x.written) q in omega arith

pub event_room : (part : State → Outcome) (s : State) (r : RowMut) (e : Event) (o : Output)
    → part (held_mut r) ≡ rule_of s e → HasFullRoom o → HasRoom part r o
event_room part s r e o q = part_room part r (rule_of s e) o q (event_size s e)

-- and a part that on this row writes one record has room for its bytes
pub one_fits : (part : State → Outcome) (h : State → State) (w : Written) {n : ℕ} (r : RowMut) (o : Output)
    → one h w (held_mut r) ≡ part (held_mut r) → length (bytes_of 0 w) ≡ n → HasRoom part r o
    → o.at + n ≤ length o.bytes.now
one_fits part h w r o e l fits =
    let f : size (w ∷ []) ≡ size (part (held_mut r)).written = ap (λ (x : Outcome). size x.written) e in
    let g = ap length (bytes_one 0 w) in
    omega arith
