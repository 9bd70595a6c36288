-- For the module answering: the line of a record that was answered.
use mathlib.Core.Path.{◌≡◌, refl, sym, ap, ◌∙◌, subst}
use mathlib.Core.Bool.{Bool, true, false}
use mathlib.Core.List.{List, []}
use Prim.Native.Nat.{ℕ, ◌≤◌, ◌<◌}
use native.Mathlib.Omega.{arith}
use lib.ListN.{length, take}
use Rattle.laws.specs.Upd.{ifb}
use Rattle.laws.proofs.Big.{sets_front}
use Rattle.records.specs.Numbers.{room_count}
use Rattle.records.specs.Layout.{room_of}
use Rattle.rules.specs.Refusals.{full_room, all_bytes, size}
use Rattle.rules.specs.Tables.{Table, TableResult, step_table}
use Rattle.rule_laws.proofs.Sizes.{size_bytes}
use Rattle.rule_laws.proofs.TableSteps.{table_size}
use Rattle.row.specs.Table.{table_of}
use Rattle.text.specs.Lines.{goes_on, roomless, view_for, line_for}
use Rattle.text.proofs.RoomLaws.{room_named}
use Rattle.step.specs.Held.{HeldStep}
use Rattle.feed.specs.Answered.{Answered}
use Rattle.buffers.specs.declared.input.Place.{Place}
use Rattle.step.specs.Answers.{Answer}
use Rattle.buffers.specs.Progress.{Told}

-- the bytes shown are those that the step wrote, or none
shown_bytes : {office room : ℕ} {q : TableResult} {out out' ws' : List ℕ} {n w : ℕ}
    → HeldStep office room q out n w ws' out' → size q.written ≤ length out
    → (traced : Bool) → take (ifb traced w 0) out' ≡ ifb traced (all_bytes room q.written) []
shown_bytes {room = room} {q} {out} h l true =
    let e = size_bytes room q.written in
    rw (h.same_written, h.same_out, sym e) (sets_front out (all_bytes room q.written) (omega arith))
shown_bytes h l false = refl

pub written_short : (office : ℕ) {room : ℕ} {o o' ws' : List ℕ} {n w : ℕ} (t : Table) (b : List ℕ) (output : ℕ)
    → HeldStep office room (step_table office t b output) o n w ws' o' → w ≤ full_room
written_short office t b output h = omega (arith, h.same_written, table_size office t b output)

-- the lent output is the least that every event has room in
pub in_full : (office : ℕ) (t : Table) (b : List ℕ) {room n w : ℕ} {out out' ws' : List ℕ} → length out ≡ full_room
    → HeldStep office room (step_table office t b (length out)) out n w ws' out'
    → HeldStep office room (step_table office t b full_room) out n w ws' out'
in_full office t b {room} {n} {w} {out} {out'} {ws'} l h =
    subst (λ (k : ℕ). HeldStep office room (step_table office t b k) out n w ws' out') l h

-- the view number of its room is asked for only where it names one
pub room_known : (office : ℕ) (ws b : List ℕ) {out out' ws' : List ℕ} {n w : ℕ} → office < 16
    → HeldStep office (room_of b) (step_table office (table_of ws) b full_room) out n w ws' out' → roomless n ≡ false
    → room_of b < room_count
room_known office ws b known h k =
    room_named office (table_of ws) b known (ap roomless (sym h.same_refusal) ∙ k)

-- the line of a record stands behind what is unwritten
pub answered : (traced : Bool) (office : ℕ) {ws : List ℕ} (p : Place) (b : List ℕ) {o o' out out' ws' : List ℕ}
    {a : Answer} {view : ℕ} {more : Bool} {r : Place}
    → HeldStep office (room_of b) (step_table office (table_of ws) b full_room) out a.refusal a.written ws' out'
    → length out ≡ full_room
    → view ≡ ifb (roomless a.refusal) 0 (table_of ws' (room_of b)).view.number
    → Told traced p (length b) a view out' o r o' → more ≡ goes_on a.refusal
    → Answered traced office ws p b o (record { more = more; unread = false; place = r }) ws' o'
unfolding line_for view_for
answered traced office {ws} p b h l v t m = record {
  sound = h.sound;
  own = h.of_office;
  table = h.same_table;
  more = m ∙ ap goes_on h.same_refusal;
  unread = refl;
  ended = ap (λ (x : Place). x.ended) t.place;
  at = ap (λ (x : Place). x.at) t.place;
  end = ap (λ (x : Place). x.end) t.place;
  filled = t.filled;
  number = ap (λ (x : Place). x.number) t.place;
  line =
      let shown = shown_bytes h (rw l (table_size office (table_of ws) b full_room)) traced in
      let state = ap (λ (x : Table). x (room_of b)) h.same_table in
      t.line ∙ rw (shown, v, state, h.same_refusal, h.same_written);
}
