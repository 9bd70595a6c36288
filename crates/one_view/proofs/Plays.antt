-- The played lists, computed: what the offices use in them, and what the statement would be false of.
use mathlib.Core.Path.{◌≡◌, refl, ap}
use mathlib.Core.Bool.{true}
use mathlib.Core.List.{List, [], ◌∷◌, Memᴰ}
use Prim.Native.Nat.{ℕ, ◌<◌}
use native.Mathlib.Omega.{arith}
use Rattle.laws.specs.Lists.{runs, pieces, Every, none, more}
use Rattle.seats.specs.Offices.{serves}
use Rattle.records.specs.Layout.{encode_high, decode_high}
use Rattle.records.specs.declared.Proposal.{Proposal}
use Rattle.records.specs.declared.View.{View}
use Rattle.rules.specs.MarkFile.{last_in, last_high, high_bytes}
use Rattle.rules.specs.State.{fast, zeros, keeping, stored_at}
use Rattle.rules.specs.Rules.{view, fresh}
use Rattle.rules.specs.Leaving.{puts_all, actions_from, file_after, left_in}
use Rattle.rules.specs.Refusals.{full_room, a_report, a_proposal}
use Rattle.rules.specs.Days.{given}
use Rattle.runs.specs.Office.{Input, answer_to, tested_in, entire, broken, left_at}
use Rattle.runs.specs.World.{Item, at_first, WorldEvent, cut, answered, with_link, report_answer, proposal_answer}
use Rattle.runs.specs.World.{begun_writes, taken_up, cut_answer, next, Nth, Among}
use Rattle.runs.specs.Turns.{hands_to, on_report, on_delivery, on_cut_report}
use Rattle.runs.specs.Files.{done_at, next_filed, plainly, filed_first}
use Rattle.runs.specs.Plays.{report_of, join, hand}
use Rattle.runs.proofs.Places.{every_nth}
use Rattle.one_view.specs.Statement.{AllFresh}
use Rattle.one_view.specs.Plays.{no_links, made, before, Played, CountsAt, counted_together}
use Rattle.one_view.specs.Plays.{slow0, slow1, view4, begun, cut_before_view, cut_events, alone, view2}
use Rattle.one_view.specs.Plays.{fast_for_two_views, fast1, view_at_0, view_at_1}

module _ (es : List WorldEvent) where
  -- a list of events of sixteen fresh offices
  begins : Every Among es → AllFresh fresh no_links es
  begins among = record { starts_fresh = λ i l. refl; without_mail = λ i j l. refl; among = every_nth es among }

  -- office o uses p for office q at event n, which hands it y, the oldest proposal on the link from office i
  used_handed : (n i o q : ℕ) (p : Proposal) (v : View) (y : Proposal) (t : ℕ) (l : List Item) → Nth es n (hand i o)
      → (before es n).link i o ≡ record { proposal = y; sent = t } ∷ l
      → Memᴰ (view v) (answer_to ((before es n).state o) (hands_to o (a_proposal y) full_room)).written
      → q < 16
      → serves v.members.bits q ≡ true
      → stored_at (tested_in ((before es n).state o) (a_proposal y)) q ≡ keeping p
      → Played es n o q p v
  used_handed n i o q p v y t l nth link sent office member stored = (
    hand i o,
    nth,
    record {
      turn = entire (hands_to o (a_proposal y) full_room);
      takes = on_delivery i o full_room (record { proposal = y; sent = t }) l link;
      has_left = sent;
      counted = record { seen = v; sent = sent; office = office; member = member; stored = stored };
      is_view = refl;
    },
  )

  uses_counts : (n o q : ℕ) (p : Proposal) (v : View) → Played es n o q p v → CountsAt es n o q p v
  uses_counts n o q p v u = (u.0, u.1, u.2.turn, u.2.takes, u.2.counted, u.2.is_view)

0-to-1 : Among (hand 0 1)
0-to-1 = (omega arith, omega arith, λ e. omega arith)

1-to-0 : Among (hand 1 0)
1-to-0 = (omega arith, omega arith, λ e. omega arith)

2-to-0 : Among (hand 2 0)
2-to-0 = (omega arith, omega arith, λ e. omega arith)

2-to-1 : Among (hand 2 1)
2-to-1 = (omega arith, omega arith, λ e. omega arith)

-- 1. two offices use one slow proposal, and hold one view
together_fresh : AllFresh fresh no_links counted_together
together_fresh = begins counted_together
    (more (omega arith, omega arith, omega arith) (more (omega arith, omega arith, omega arith) (more 0-to-1
    (more 1-to-0 (more (omega arith, omega arith, omega arith) (more (omega arith, omega arith, omega arith)
    (more 0-to-1 (more 1-to-0 (more 0-to-1 none)))))))))

pub slow_together : AllFresh fresh no_links counted_together × Played counted_together 7 0 1 slow1 view4
    × Played counted_together 8 1 1 slow1 view4
unfolding given at_first answered with_link report_answer proposal_answer next runs answer_to tested_in
slow_together = (
  together_fresh,
  used_handed counted_together 7 1 0 1 slow1 view4 slow1 6 [] (omega arith, refl) refl
      (Memᴰ.tail (Memᴰ.head refl)) (omega arith) refl refl,
  used_handed counted_together 8 0 1 1 slow1 view4 slow0 7 [] (omega arith, refl) refl (Memᴰ.head refl)
      (omega arith) refl refl,
)

-- 2. a cut before the view leaves
abbrev told : Input
told = hands_to 0 (a_report (report_of 1 0)) full_room

cut_plainly : plainly (filed_first fresh no_links (λ i. [])) cut_before_view ≡ cut_events
unfolding given at_first answered with_link report_answer proposal_answer begun_writes taken_up cut_answer next plainly
    next_filed done_at actions_from puts_all file_after left_in high_bytes encode_high decode_high pieces last_in
    last_high
cut_plainly = refl

cut_fresh : AllFresh fresh no_links cut_events
cut_fresh = begins cut_events
    (more (omega arith, (omega arith, omega arith)) (more (omega arith, omega arith, omega arith) none))

-- The answer that it had begun at event 0 has a view that counts the proposal, and nothing of it left; at event 1 it
-- uses the same proposal.
pub nothing_left : left_at (fresh 0) (broken told 0 0) ≡ []
nothing_left = refl

cut_counted : CountsAt cut_events 0 0 0 alone view2
unfolding given at_first runs answer_to tested_in
cut_counted = (
  cut 0 begun 0 0,
  (omega arith, refl),
  broken told 0 0,
  on_cut_report 0 (report_of 1 0) full_room 0 0,
  record {
    seen = view2;
    sent = Memᴰ.tail (Memᴰ.head refl);
    office = omega arith;
    member = refl;
    stored = refl;
  },
  refl,
)

cut_used : Played cut_events 1 0 0 alone view2
unfolding given at_first answered report_answer begun_writes taken_up cut_answer next runs answer_to tested_in
cut_used =
    let second = Memᴰ.tail (Memᴰ.head refl) in (
      join 0 1,
      (omega arith, refl),
      record {
        turn = entire told;
        takes = on_report 0 (report_of 1 0) full_room;
        has_left = second;
        counted = record { seen = view2; sent = second; office = omega arith; member = refl; stored = refl };
        is_view = refl;
      },
    )

pub made_again : let es = plainly (filed_first fresh no_links (λ i. [])) cut_before_view in
    AllFresh fresh no_links es × CountsAt es 0 0 0 alone view2 × Played es 1 0 0 alone view2
made_again = rw cut_plainly (cut_fresh, cut_counted, cut_used)

-- so UsedOnce is false of this list where a view need not have left
pub left_needed :
    ((n k o q r : ℕ) (p : Proposal) (v x : View) → CountsAt cut_events n o q p v → CountsAt cut_events k o r p x
    → (n ≡ k) × (v ≡ x))
    → ⊥
left_needed h =
    let again = uses_counts cut_events 1 0 0 alone view2 cut_used in
    let same = (h 0 1 0 0 0 alone view2 view2 cut_counted again).0 in
    omega arith

-- 3. one fast proposal, view 2 at one office and view 4 at another
fast_fresh : AllFresh fresh no_links fast_for_two_views
fast_fresh = begins fast_for_two_views
    (more (omega arith, omega arith, omega arith) (more (omega arith, omega arith, omega arith)
    (more (omega arith, omega arith, omega arith) (more 1-to-0 (more 2-to-0
    (more (omega arith, omega arith, omega arith) (more (omega arith, omega arith, omega arith)
    (more 2-to-1 (more 2-to-1 (more 2-to-1 (more 0-to-1 none)))))))))))

pub fast_two_views : AllFresh fresh no_links fast_for_two_views × Played fast_for_two_views 4 0 1 fast1 view_at_0
    × Played fast_for_two_views 10 1 1 fast1 view_at_1
unfolding given at_first answered with_link report_answer proposal_answer next runs answer_to tested_in
fast_two_views = (
  fast_fresh,
  used_handed fast_for_two_views 4 2 0 1 fast1 view_at_0 (made 2 fast 273 1 1 zeros) 2 [] (omega arith, refl) refl
      (Memᴰ.head refl) (omega arith) refl refl,
  used_handed fast_for_two_views 10 0 1 1 fast1 view_at_1 (made 0 fast 273 1 1 zeros) 0 [] (omega arith, refl) refl
      (Memᴰ.head refl) (omega arith) refl refl,
)

-- so OneView is false of this list where p may be fast
pub slow_needed :
    ((n k o u q r : ℕ) (p : Proposal) (v x : View) → Played fast_for_two_views n o q p v
    → Played fast_for_two_views k u r p x → v ≡ x)
    → ⊥
slow_needed h =
    let w = fast_two_views in
    let same = ap (λ (v : View). v.number) (h 4 10 0 1 1 1 fast1 view_at_0 view_at_1 w.1 w.2) in
    omega arith
