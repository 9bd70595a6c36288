-- The result of an event in the row of its room, and in the table behind checks 2, 3 and 20 and those of its form.
use Rattle.std.specs.Prelude.{Result, IsErrAnd}
use mathlib.Core.Path.{◌≡◌, refl, sym, ap, ◌∙◌}
use mathlib.Core.Bool.{Bool, true, false}
use mathlib.Core.Logic.{◌⊎◌, inl, inr}
use mathlib.Core.List.{List}
use Prim.Native.Nat.{ℕ, ◌<◌}
use native.Mathlib.Omega.{arith}
use lib.ListN.{get_or}
use lib.Dec.{eqb}
use borrow.Author.Tests.{eqb-false}
use Rattle.laws.specs.Upd.{ifb}
use Rattle.laws.proofs.Upd.{upd_same}
use Rattle.records.specs.declared.refusal.Refusal.{Refusal}
use Rattle.records.specs.Refusals.{number, refusal_of}
use Rattle.rules.specs.State.{State}
use Rattle.rules.specs.Refusals.{Event, rule_of, act_of}
use Rattle.rules.specs.Refusals.{Result as RuleResult}
use Rattle.rules.specs.Tables.{RoomEvent, in_table}
use Rattle.rule_laws.proofs.Steps.{Refused, AcceptsEvent, act_cases, act_accepts}
use Rattle.rule_laws.proofs.Tables.{act_in_room}
use Rattle.rule_laws.proofs.Exits.{no_bytes}
use Rattle.events.proofs.ReadLaws.{reason_some, handed}
use Rattle.row.specs.Row.{state_of, words_of, word}
use Rattle.row.specs.Table.{row_at, with_row, table_of}
use Rattle.row.proofs.Words.{row_words}
use Rattle.row.proofs.Tables.{sound_length, sound_rows, sound_is, sound_table_lem, row_self}
use Rattle.row.specs.declared.lent.RowMut.{RowMut}
use Rattle.event_parts.specs.declared.output.Output.{Output}
use Rattle.event_parts.specs.Did.{Did}
use Rattle.step.specs.Answers.{written_of}
use Rattle.step.specs.Step.{WordsResult, in_row, act_row, in_words, kept, act_words, Stepped, SteppedRow, Ready}
use Rattle.step.specs.Step.{ReadyEvent}

pub refuse_meets : (room : ℕ) (q : WordsResult) (n : ℕ) (ws o : List ℕ) → q ≡ kept n ws → Stepped room q o n 0 ws o
refuse_meets room q n ws o d =
    rw d (record {
      same_refusal = refl;
      same_written = rw (no_bytes 0);
      same_words = refl;
      same_out = rw (no_bytes room);
    })

-- what leaves by a `?` has done nothing
pub handed_meets : (room : ℕ) (q : WordsResult) (r : Refusal) (ws o : List ℕ) (a : Result ℕ Refusal)
    → IsErrAnd a (λ y. y ≡ r) → q ≡ kept (number r) ws → Stepped room q o (refusal_of a) (written_of a) ws o
handed_meets room q r ws o a h d = rw (handed a r h) (refuse_meets room q (number r) ws o d)

-- an event in a row, and the refusal that was found for it
module _ (ws : List ℕ) (e : Event) where
  pub exit_refused : (r : Refusal) → number r ≡ (act_of (state_of ws) e).refusal → act_row ws e ≡ kept (number r) ws
  unfolding act_row
  exit_refused r found = go (act_cases (state_of ws) e)
    where
      go : Refused (state_of ws) (act_of (state_of ws) e) ⊎ AcceptsEvent (state_of ws) e
          → in_row ws (act_of (state_of ws) e) ≡ kept (number r) ws
      go (inl d) = rw (d.is, ← found, reason_some r)
      go (inr a) =
          let z = found ∙ ap (λ (q : RuleResult). q.refusal) (act_accepts (state_of ws) e a) in
          absurd (eqb-false _ _ (reason_some r) z)

  module _ (z : 0 ≡ (act_of (state_of ws) e).refusal) where
    pub accepts_event : AcceptsEvent (state_of ws) e
    accepts_event = go (act_cases (state_of ws) e)
      where
        go : Refused (state_of ws) (act_of (state_of ws) e) ⊎ AcceptsEvent (state_of ws) e
            → AcceptsEvent (state_of ws) e
        go (inl r) = absurd (r.reason (sym z))
        go (inr a) = a

    -- accepted: the words are those of the state left
    pub accept_meets : (room : ℕ) (k : ℕ) (o ws' o' : List ℕ) → Did room (λ s. rule_of s e) ws o 0 ws' o' k
        → ((k : ℕ) → get_or ws' k 0 < word) → Stepped room (act_row ws e) o 0 k ws' o'
    unfolding act_row
    accept_meets room k o ws' o' d below =
        rw (act_accepts (state_of ws) e accepts_event) (record {
          same_refusal = refl;
          same_written = let p = d.written.place in omega arith;
          same_words = row_words ws' (rule_of (state_of ws) e).state d.row below d.is;
          same_out = d.written.output;
        })

-- the words and bytes that a row and an output were made of, once these are given back
pub given_back : {e : Event} {r r' : RowMut} {o o' : Output} {n w : ℕ} (ws' bytes' : List ℕ)
    → SteppedRow e r o n w r' o' → r'.words.now ≡ ws' → o'.bytes.now ≡ bytes' → ((k : ℕ) → get_or ws' k 0 < word)
    → Stepped o.room (act_row r.words.now e) o.bytes.now n w ws' bytes'
given_back ws' bytes' d x y below = rw (← y, ← x) (d.stepped (rw x below))

-- an event in the table, behind checks 2, 3 and 20 and those of its form: what it does in the row of its room
module _ (ws : List ℕ) (e : RoomEvent) (output : ℕ) (r : ReadyEvent ws e output) where
  abbrev room : ℕ
  room = e.room

  pub row_ready : Ready (row_at ws room) output
  row_ready = record { sound = sound_rows ws r.ready.sound room r.in_room; fits = r.ready.fits }

  abbrev q : RuleResult
  q = act_of (table_of ws room) e.what

  acted : act_words ws e output ≡ in_words ws room (in_table (table_of ws) room q)
  unfolding act_words
  acted = rw (
    sound_is ws r.ready.sound,
    act_in_room (table_of ws) e output (sound_table_lem ws r.ready.sound) r.ready.fits r.in_room,
  )

  -- the words of the table are those with that row anew
  same_table : with_row ws room (ifb (eqb q.refusal 0) (words_of q.state) (row_at ws room))
      ≡ ifb (eqb q.refusal 0) (with_row ws room (words_of ((in_table (table_of ws) room q).table room))) ws
  same_table = go (eqb q.refusal 0) refl
    where
      go : (t : Bool) → eqb q.refusal 0 ≡ t
          → with_row ws room (ifb (eqb q.refusal 0) (words_of q.state) (row_at ws room))
          ≡ ifb (eqb q.refusal 0) (with_row ws room (words_of ((in_table (table_of ws) room q).table room))) ws
      go true e = rw e (ap (λ (s : State). with_row ws room (words_of s)) (sym (upd_same (table_of ws) room q.state)))
      go false e = rw e (row_self ws room (sound_length ws r.ready.sound) r.in_room)

  pub room_meets : (o row' o' : List ℕ) (n k : ℕ) → Stepped room (act_row (row_at ws room) e.what) o n k row' o'
      → Stepped room (act_words ws e output) o n k (with_row ws room row') o'
  unfolding act_row
  room_meets o row' o' n k s =
      rw acted (record {
        same_refusal = s.same_refusal;
        same_written = s.same_written;
        same_words = ap (with_row ws room) s.same_words ∙ same_table;
        same_out = s.same_out;
      })
