-- For the module output: laws of the output buffer.
use mathlib.Core.Path.{◌≡◌, refl, ap, ◌∙◌}
use mathlib.Core.Bool.{Bool, true, false}
use mathlib.Core.List.{List, [], ◌++◌}
use Prim.Native.Nat.{ℕ, ◌+◌, ◌-◌, ◌≤◌}
use native.Mathlib.Omega.{arith}
use lib.ListN.{length, take, drop, length-append}
use lib.Seq.{sets-eq, length-take-le, take_at}
use lib.Dec.{eqb, leb}
use borrow.Author.Tests.{eqb-true, leb-true}
use Rattle.laws.proofs.Fin.{true_false}
use Rattle.text.specs.Put.{Put}
use Rattle.buffers.specs.Room.{buffer_length, most_line, room_for}

-- the test of room
pub room_waiting : (filled : ℕ) (t : Bool) → t ≡ true → eqb filled 0 ≡ room_for filled t
unfolding room_for
room_waiting filled t e = rw e

pub room_line : (filled : ℕ) (t : Bool) → t ≡ false → leb filled (buffer_length - most_line) ≡ room_for filled t
unfolding room_for
room_line filled t e = rw e

pub room_nothing : (filled : ℕ) (t : Bool) → filled ≡ 0 → room_for filled t ≡ true
unfolding room_for
room_nothing filled true e = rw e
room_nothing filled false e = rw e

pub room_none : (filled : ℕ) (t : Bool) → room_for filled t ≡ true → t ≡ true → filled ≡ 0
unfolding room_for
room_none filled true h e = eqb-true filled 0 h
room_none filled false h e = absurd (true_false false e refl)

pub room_fits : (filled : ℕ) (t : Bool) → room_for filled t ≡ true → filled + most_line ≤ buffer_length
unfolding room_for
room_fits filled true h = let z = eqb-true filled 0 h in omega arith
room_fits filled false h = let z = leb-true filled (buffer_length - most_line) h in omega arith

-- text put behind what is unwritten
pub put_behind : {most at next : ℕ} {o o' text : List ℕ} → Put most o at text next o' → at + length text ≤ length o
    → take next o' ≡ take at o ++ text
put_behind {most} {at} {next} {o} {o'} {text} p h =
    let n : length (take at o) ≡ at = length-take-le at o (omega arith) in
    let l : length (take at o ++ text) ≡ at + length text = length-append (take at o) text ∙ omega arith in
    rw (p.output, p.place, sets-eq text o at h)
    (take_at (take at o ++ text) (drop (at + length text) o) (at + length text) l)

-- of what is due, no more is sent than there is
pub due_few : {filled sent : ℕ} (o : List ℕ) {part : List ℕ} → filled ≤ length o → part ≡ take filled o
    → sent ≤ length part → sent ≤ filled
due_few {filled} o l e s = let n = ap length e ∙ length-take-le filled o l in omega arith

pub nothing_due : (o : List ℕ) (n : ℕ) → n ≡ 0 → take n o ≡ []
nothing_due o n h = rw h
