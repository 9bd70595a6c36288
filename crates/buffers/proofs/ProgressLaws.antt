-- For the module progress: what was sent, and the line behind what is unwritten.
use mathlib.Core.Path.{◌≡◌, refl, sym, ap, ◌∙◌}
use mathlib.Core.Bool.{Bool, false}
use mathlib.Core.List.{List}
use Prim.Native.Nat.{ℕ, ◌+◌, ◌-◌, ◌≤◌}
use native.Mathlib.Omega.{arith}
use lib.ListN.{length, take, drop, length-drop}
use lib.Seq.{sets, length-take-le}
use Rattle.laws.specs.Upd.{ifb}
use Rattle.laws.proofs.Big.{sets_front}
use Rattle.laws.proofs.Fin.{true_false}
use Rattle.laws.proofs.Seqs.{drop_take}
use Rattle.text.specs.Text.{line_of}
use Rattle.text.specs.Put.{Put}
use Rattle.buffers.specs.Place.{unwritten_of}
use Rattle.buffers.specs.declared.input.Place.{Place}
use Rattle.buffers.specs.Room.{buffer_length, room_for}
use Rattle.buffers.proofs.Room.{put_behind}
use Rattle.step.specs.Answers.{Answer}
use Rattle.buffers.specs.Progress.{sent_from, Emptied, Told}

-- nothing is written where the program may go on
pub emptied_none : (p : Place) (waiting : Bool) (o : List ℕ) → Emptied p waiting o p o
emptied_none p waiting o =
    let z : p.filled - p.filled ≡ 0 = omega arith in
    let y : p.filled - 0 ≡ p.filled = omega arith in
    record { few = omega arith; place = rw (z, y); unasked = λ e. refl; unwritten = rw z }

-- what was not sent goes to the front
pub emptied_some : (p : Place) {waiting may : Bool} (o : List ℕ) {o' : List ℕ} (sent : ℕ) → p.filled ≤ length o
    → may ≡ room_for p.filled waiting → may ≡ false → sent ≤ p.filled
    → o' ≡ sets o 0 (take (p.filled - sent) (drop sent o)) → Emptied p waiting o (sent_from p sent) o'
unfolding unwritten_of
emptied_some p {waiting} o {o'} sent l r f s e =
    let back : p.filled - (p.filled - sent) ≡ sent = omega arith in
    record {
      few = omega arith;
      place = rw back;
      unasked = λ t. absurd (true_false _ (r ∙ t) f);
      unwritten = rw back (front ∙ sym (ap (λ (k : ℕ). drop sent (take k o)) sum
          ∙ drop_take sent left o (omega arith)));
    }
  where
    left : ℕ
    left = p.filled - sent

    sum : p.filled ≡ sent + left
    sum = omega arith

    rest : List ℕ
    rest = take left (drop sent o)

    size : length rest ≡ left
    size = length-take-le left (drop sent o) (simp length-drop (omega arith))

    front : take left o' ≡ rest
    front = ap (take left) e ∙ ap (λ (k : ℕ). take k (sets o 0 rest)) (sym size)
        ∙ sets_front o rest (omega (arith, size))

-- a line put; given is the output once it is handed back
pub told : (traced : Bool) (p : Place) (taken : ℕ) (a : Answer) (view : ℕ) (out : List ℕ)
    {o o' given : List ℕ} {refusal written k next most : ℕ} → refusal ≡ a.refusal → written ≡ a.written
    → k ≡ ifb traced written 0
    → Put most o p.filled (line_of (p.number + 1) refusal written view (take k out)) next o'
    → o' ≡ given → p.filled + most ≤ buffer_length → length o ≡ buffer_length
    → Told traced p taken a view out o
    (record { ended = p.ended; at = p.at + taken; end = p.end; filled = next; number = p.number + 1 }) given
unfolding unwritten_of
told traced p taken a view out f w k put e room lo = rw (← e) (record {
  place = refl;
  filled = omega (arith, put.short);
  line = put_behind put (omega (arith, put.short, put.place)) ∙ rw (k, f, w);
})
