-- For the root of the crate: turns that each keep the text that is due make up the whole text.
use mathlib.Core.Path.{◌≡◌, refl, sym, ap, ◌∙◌, subst}
use mathlib.Core.Bool.{Bool, true, false}
use mathlib.Core.List.{List, [], ◌∷◌, ◌++◌, append-nil, append_assoc, flatten}
use mathlib.Core.Logic.{◌⊎◌, inl, inr, ⊎_elim}
use Prim.Native.Nat.{ℕ, ◌+◌, ◌-◌, ◌^◌, ◌<◌}
use native.Mathlib.Omega.{arith}
use lib.ListN.{length, take, drop, take-append-drop, length-append}
use Rattle.laws.proofs.Fin.{true_false}
use Rattle.laws.specs.Lists.{Every, none}
use Rattle.laws.specs.Upd.{ifb}
use Rattle.laws.proofs.Lists.{every_append, flatten_append}
use Rattle.records.specs.Layout.{check_of}
use Rattle.row.specs.Table.{table_of, SoundTable}
use Rattle.step.specs.Held.{OfOffice}
use Rattle.text.specs.Lines.{lines_of, text_of}
use Rattle.text.proofs.LineLaws.{lines_nil}
use Rattle.records.proofs.RunLaws.{ends}
use Rattle.feed.specs.Made.{TableMade}
use Rattle.buffers.specs.Place.{window_of, unwritten_of, waits_of}
use Rattle.feed.specs.Turn.{Stand, stand_at, Takes, Turns}
use Rattle.feed.specs.Whole.{Run, begun, turned, Reached, Broken, written_by, Ran, Answers}
use Rattle.buffers.specs.declared.input.Place.{Place}
use Rattle.buffers.proofs.Window.{waits_none}
use Rattle.feed.specs.Session.{Turned, Same, more_of, failed_of}
use Rattle.feed.specs.Steps.{TurnsTo, RanTo}
use Rattle.feed.specs.TurnReady.{Lent}
use Rattle.feed.specs.declared.session.Session.{Session}
use Rattle.feed.specs.declared.session.Fault.{Fault}
use Rattle.std.specs.Prelude.{Result, Ok}

-- what is due at a place, where f is still to come
abbrev due : Bool → ℕ → Bool → Stand → List ℕ → List ℕ
due traced office more b f =
    b.unwritten ++ ifb more (lines_of traced office (table_of b.words) b.number (b.window ++ f)) []

regroup : (o t r p x : List ℕ) → o ++ ((t ++ r) ++ (p ++ x)) ≡ (o ++ t) ++ ((r ++ p) ++ x)
regroup o t r p x = simp append_assoc

regroup' : (o t r p x : List ℕ) → (o ++ (t ++ r)) ++ (p ++ x) ≡ ((o ++ t) ++ (r ++ p)) ++ x
regroup' o t r p x = simp append_assoc

-- whatever comes later, what was written and what is due are the text for the input
run_text : {traced : Bool} {office : ℕ} {ws : List ℕ} {more : Bool} {n : ℕ} {input output : List ℕ} {b : Stand}
    → Run traced office ws n input output more b
    → (f : List ℕ) → (b.ended ≡ true → f ≡ [])
    → lines_of traced office (table_of ws) 0 (input ++ f) ≡ output ++ due traced office more b f
run_text begun f e = refl
run_text {traced} {office} {ws} (turned {n} {input} {output} {a} sent {more} {b} r k) f e =
    rw (append_assoc input k.got f) (run_text r (k.got ++ f) later
    ∙ rw (k.text f e, k.buffer)
    (ap (λ (u : List ℕ). output ++ (u ++ (k.printed ++ rest))) (sym (take-append-drop sent a.unwritten))
    ∙ regroup output (take sent a.unwritten) (drop sent a.unwritten) k.printed rest))
  where
    rest : List ℕ
    rest = ifb more (lines_of traced office (table_of b.words) b.number (b.window ++ f)) []

    later : a.ended ≡ true → k.got ++ f ≡ []
    later h = let z = k.end h in rw (z.1, e z.0)

-- where the program stops, what was written and what is unwritten are the whole text, whatever of the input is unread
pub whole_text : {traced : Bool} {office n : ℕ} {ws input output : List ℕ} {b : Stand} → TableMade office true ws
    → Run traced office ws n input output false b
    → (f : List ℕ) → (b.ended ≡ true → f ≡ []) → text_of traced (office ∷ (input ++ f)) ≡ output ++ b.unwritten
whole_text {traced} {office} {ws} {input} {output} {b} m r f e =
    m.text traced (input ++ f) ∙ run_text r f e ∙ rw (append-nil b.unwritten)

-- what has been answered so far, whatever comes behind it
record Sofar (traced : Bool) (office : ℕ) (ws input output : List ℕ) (b : Stand) : Type 0 where
  parts : List (List ℕ)
  whole : Every (λ p. check_of p ≡ 0) parts
  count : b.number ≡ length parts
  read : input ≡ flatten parts ++ b.window
  lines : (f : List ℕ) → lines_of traced office (table_of ws) 0 (flatten parts ++ f)
      ≡ (output ++ b.unwritten) ++ lines_of traced office (table_of b.words) b.number f

run_sofar : {traced : Bool} {office : ℕ} {ws : List ℕ} {more : Bool} {n : ℕ} {input output : List ℕ} {b : Stand}
    → Run traced office ws n input output more b → more ≡ true → Sofar traced office ws input output b
unfolding flatten
run_sofar begun m = record { parts = []; whole = none; count = refl; read = refl; lines = λ f. refl }
run_sofar {traced} {office} {ws} (turned {n} {input} {output} {a} sent {more} {b} r k) m =
    go (run_sofar r refl) (k.takes m)
  where
    go : Sofar traced office ws input output a
        → Takes traced office a.words a.number (a.window ++ k.got) k.printed b.words b.number
        b.window
        → Sofar traced office ws (input ++ k.got) (output ++ take sent a.unwritten) b
    go s t = record {
      parts = s.parts ++ t.parts;
      whole = every_append s.whole t.whole;
      count = t.count ∙ omega (arith, s.count, length-append s.parts t.parts);
      read = ap (λ (l : List ℕ). l ++ k.got) s.read ∙ append_assoc (flatten s.parts) a.window k.got
          ∙ ap (λ (l : List ℕ). flatten s.parts ++ l) t.left
          ∙ sym (append_assoc (flatten s.parts) (flatten t.parts) b.window)
          ∙ ap (λ (l : List ℕ). l ++ b.window) (sym both);
      lines = λ f. ap (λ (l : List ℕ). lines_of traced office (table_of ws) 0 (l ++ f)) both
          ∙ ap (lines_of traced office (table_of ws) 0) (append_assoc (flatten s.parts) (flatten t.parts) f)
          ∙ s.lines (flatten t.parts ++ f) ∙ ap (λ (l : List ℕ). (output ++ a.unwritten) ++ l) (t.lines f)
          ∙ rw k.buffer
          (ap (λ (u : List ℕ). (output ++ u) ++ (k.printed ++ after f)) (sym (take-append-drop sent a.unwritten))
          ∙ regroup' output (take sent a.unwritten) (drop sent a.unwritten) k.printed (after f));
    }
      where
        both : flatten (s.parts ++ t.parts) ≡ flatten s.parts ++ flatten t.parts
        both = flatten_append s.parts t.parts

        after : List ℕ → List ℕ
        after f = lines_of traced office (table_of b.words) b.number f

-- where the program goes on, it has answered records that came whole, and nothing else
pub going_text : {traced : Bool} {office n : ℕ} {ws input output : List ℕ} {b : Stand} → TableMade office true ws
    → Run traced office ws n input output true b → Answers traced office input output b
going_text {traced} {office} {ws} {input} {output} {b} m r =
    let s = run_sofar r refl in
    record {
      parts = s.parts;
      whole = s.whole;
      count = s.count;
      read = s.read;
      text = m.text traced (flatten s.parts)
          ∙ ap (lines_of traced office (table_of ws) 0) (sym (append-nil (flatten s.parts))) ∙ s.lines []
          ∙ rw (lines_nil traced office (table_of b.words) b.number [] refl)
          (append-nil (output ++ b.unwritten));
      rest = λ t. ends b.window (waits_none b.ended b.window t);
    }

-- so it is where a fault has ended the run; where a read failed, all is written
pub fault_text : {traced unread : Bool} {office : ℕ} {ws : List ℕ} {b : Stand} → TableMade office true ws
    → (k : Broken traced office ws unread b)
    → Answers traced office k.input (written_by k) b × (unread ≡ true → b.unwritten ≡ [])
fault_text {b = b} m k =
    let a = going_text m k.run in
    let e = k.stands in (
      record {
        parts = a.parts;
        whole = a.whole;
        count = ap (λ (c : Stand). c.number) e ∙ a.count;
        read = a.read ∙ ap (λ (c : Stand). flatten a.parts ++ c.window) (sym e);
        text = a.text ∙ ap (λ (u : List ℕ). k.output ++ u) (sym (take-append-drop k.sent k.place.unwritten))
            ∙ sym (append_assoc k.output (take k.sent k.place.unwritten) _)
            ∙ ap (λ (c : Stand). written_by k ++ c.unwritten) (sym e);
        rest = λ t. ends b.window (waits_none b.ended b.window t);
      },
      λ u. (k.waited u).1,
    )

-- the loop begins, and a turn goes on
pub ran_begun : (traced : Bool) {office : ℕ} {ws : List ℕ} (i o : List ℕ) → SoundTable ws → OfOffice office ws
    → Ran traced office ws ws (record { ended = false; at = 0; end = 0; filled = 0; number = 0 }) i o true false false
    (2 ^ 64 - 1)
unfolding window_of unwritten_of
ran_begun traced i o sound own = record {
  sound = sound;
  own = own;
  within = record { unread = omega arith; read = omega arith; unwritten = omega arith };
  number = omega arith;
  reached = λ f u. record { turns = 0; input = []; output = []; run = begun; counted = λ m. omega arith };
  broken = ⊎_elim (λ z. absurd (true_false false z refl)) (λ z. absurd (true_false false z refl));
  going = λ l. (refl, refl, refl);
}

-- the turns left after one
left_cases : (more failed : Bool) (left left' : ℕ) → left' ≡ ifb more (ifb failed 0 (left - 1)) 0
    → ((more ≡ true) × (failed ≡ false) × (left' ≡ left - 1)) ⊎ (((more ≡ true) × (failed ≡ false) → ⊥) × (left' ≡ 0))
left_cases true false left left' e = inl (refl, refl, e)
left_cases true true left left' e = inr (λ h. true_false true refl h.1, e)
left_cases false failed left left' e = inr (λ h. true_false false h.0 refl, e)

pub left_less : (more failed : Bool) (left left' : ℕ) → 0 < left → left' ≡ ifb more (ifb failed 0 (left - 1)) 0
    → left' < left
left_less more failed left left' h e =
    ⊎_elim (λ z. omega (arith, z.2)) (λ z. omega (arith, z.1)) (left_cases more failed left left' e)

pub ran_turned : {traced more failed unread : Bool} {office : ℕ} {ws₀ ws : List ℕ} {p : Place} {i o : List ℕ}
    {left left' : ℕ} {r : Turned} {ws' i' o' : List ℕ}
    → Ran traced office ws₀ ws p i o more failed unread left → 0 < left → Turns traced office ws p i o r ws' i' o'
    → left' ≡ ifb r.more (ifb r.failed 0 (left - 1)) 0
    → Ran traced office ws₀ ws' r.place i' o' r.more r.failed r.unread left'
ran_turned {traced} {more} {failed} {unread} {office} {ws₀} {ws} {p} {i} {o} {left} {left'} {r} a h t e = record {
  sound = t.sound;
  own = t.own;
  within = t.within;
  number = ⊎_elim (λ z. omega (arith, z.2, t.number, a.number))
      (λ z. omega (arith, z.1, t.number, a.number)) cases;
  reached = λ f u. record {
    turns = b.turns + 1;
    input = b.input ++ (t.keeps f u).got;
    output = b.output ++ take r.sent (unwritten_of p o);
    run = turned r.sent went (t.keeps f u);
    counted = λ m. ⊎_elim (λ z. omega (arith, z.2, b.counted g.0)) (λ z. absurd (z.0 (m, f))) cases;
  };
  broken = λ z. record {
    turns = b.turns;
    input = b.input;
    output = b.output;
    place = stand_at ws p i o;
    sent = r.sent;
    run = went;
    stands = t.stays z;
    waited = λ u.
        let w = t.unread u in
        let s = t.stays z in (
          ap (λ (c : Stand). waits_of c.ended c.window) s ∙ w.1,
          ap (λ (c : Stand). c.unwritten) s ∙ t.shown w.0 w.1,
        );
  };
  going = λ l. ⊎_elim (λ z. (z.0, z.1, unbroken r.unread refl z.0)) (λ z. absurd (omega (arith, z.1))) cases;
}
  where
    g : (more ≡ true) × (failed ≡ false) × (unread ≡ false)
    g = a.going h

    b : Reached traced office ws₀ more left (stand_at ws p i o)
    b = a.reached g.1 g.2

    went : Run traced office ws₀ b.turns b.input b.output true (stand_at ws p i o)
    went =
        subst (λ (m : Bool). Run traced office ws₀ b.turns b.input b.output m (stand_at ws p i o)) g.0
        b.run

    -- the program goes on, so no read failed
    unbroken : (u : Bool) → r.unread ≡ u → r.more ≡ true → u ≡ false
    unbroken true y m = absurd (true_false _ m (t.unread y).2)
    unbroken false y m = refl

    cases : ((r.more ≡ true) × (r.failed ≡ false) × (left' ≡ left - 1))
        ⊎ (((r.more ≡ true) × (r.failed ≡ false) → ⊥) × (left' ≡ 0))
    cases = left_cases r.more r.failed left left' e

-- what is lent to the turns is lent to the next
pub lent_on : {s s' : Session} → Lent s.office s.table s.input s.out s.output → Same s s' → SoundTable s'.table
    → OfOffice s.office s'.table → Lent s'.office s'.table s'.input s'.out s'.output
lent_on {s} {s'} l k sound own = record {
  known = rw k.office l.known;
  sound = sound;
  own = rw k.office own;
  input = k.input ∙ l.input;
  room = k.room ∙ l.room;
  output = k.output ∙ l.output;
}

pub same_on : {s s' s'' : Session} → Same s s' → Same s' s'' → Same s s''
same_on a b = record {
  office = b.office ∙ a.office;
  traced = b.traced ∙ a.traced;
  input = b.input ∙ a.input;
  room = b.room ∙ a.room;
  output = b.output ∙ a.output;
}

-- one turn more of a session that goes on
pub ran_on : {s₀ s : Session} {left left' : ℕ} (r : Result Bool Fault) (s' : Session) → RanTo s₀ (Ok true) left s
    → Same s₀ s → 0 < left → TurnsTo s r s' → left' ≡ ifb (more_of r) (ifb (failed_of r) 0 (left - 1)) 0
    → RanTo s₀ r left' s'
ran_on r s' a k h t e = ran_turned a h (rw (k.traced, k.office) at t.1) e
