-- Request 11. One slow proposal, one view, in the words of document 02.
use Rattle.std.specs.Prelude.{◌≡◌, true, ℕ, ◌<◌}
use mathlib.Core.List.{List, [], Memᴰ}
use Rattle.seats.specs.Offices.{serves}
use Rattle.records.specs.Numbers.{room_count}
use Rattle.records.specs.declared.Proposal.{Proposal}
use Rattle.records.specs.declared.View.{View}
use Rattle.rules.specs.State.{State}
use Rattle.rules.specs.Rules.{view, fresh}
use Rattle.rules.specs.Tables.{Table}
use Rattle.runs.specs.Office.{Turn, left_at}
use Rattle.runs.specs.World.{Item, World, WorldEvent}
use Rattle.runs.specs.Turns.{TurnAt}
use Rattle.runs.specs.Files.{FileEvent, filed_first, plainly}
use Rattle.one_view.specs.Statement.{Uses, AllFresh, OneView, UsedOnce, UsedWellAbove}
use Rattle.one_view.specs.Plays.{no_links, Played, CountsAt, counted_together, slow1, view4, cut_before_view, alone}
use Rattle.one_view.specs.Plays.{view2, fast_for_two_views, fast1, view_at_0, view_at_1}
use Rattle.rooms.specs.Roomed.{Roomed}
use Rattle.rooms.specs.RoomFiles.{RoomFileEvent}
use Rattle.rooms.specs.Statement.{UsedWellInRoom}

-- Over every run from fresh offices with losses, cuts as in request 7, the files empty at first, and in-order links
-- that forge and double nothing:
pub record OverEveryRun : Type 0 where
  -- if two offices each send a view using the same slow proposal, the two views are equal in number, members and start
  -- numbers;
  pub one_slow_view : (states : ℕ → State) (links : ℕ → ℕ → List Item) (fs : List FileEvent)
      → let es = plainly (filed_first states links (λ i. [])) fs in AllFresh states links es → OneView states links es
  -- and no office uses one proposal for two views.
  pub used_once : (states : ℕ → State) (links : ℕ → ℕ → List Item) (fs : List FileEvent)
      → let es = plainly (filed_first states links (λ i. [])) fs in AllFresh states links es → UsedOnce states links es
  -- Both also where something else than the file keeps the number at which an office begins again,
  pub used_well_above : (states : ℕ → State) (links : ℕ → ℕ → List Item) (es : List WorldEvent)
      → UsedWellAbove states links es
  -- and both in each room of sixteen servers, each with one file for its rooms.
  pub used_well_in_room : (tables : ℕ → Table) (links : ℕ → ℕ → List (Roomed Item)) (k : ℕ) → k < room_count
      → (fs : List RoomFileEvent) → UsedWellInRoom tables links fs k

-- What is said of uses is not said of nothing, and no more is said than that.
pub record WhatItMeans : Type 0 where
  -- Every view that leaves uses a proposal for each office of its members.
  pub each_used : (w : World) (e : WorldEvent) (o : ℕ) (t : Turn) → TurnAt w e o t → (v : View)
      → Memᴰ (view v) (left_at (w.state o) t) → (q : ℕ) → q < 16 → serves v.members.bits q ≡ true
      → (p : Proposal) × Uses w e o q p v
  -- Two offices use one slow proposal, and hold one view.
  pub slow_together : AllFresh fresh no_links counted_together × Played counted_together 7 0 1 slow1 view4
      × Played counted_together 8 1 1 slow1 view4
  -- A use counts where the view left: cut off before, an office may make the same own proposal again, and use it.
  pub made_again : let es = plainly (filed_first fresh no_links (λ i. [])) cut_before_view in
      AllFresh fresh no_links es × CountsAt es 0 0 0 alone view2 × Played es 1 0 0 alone view2
  -- Of fast proposals the first half is not promised: one counts for view 2 at one office, for view 4 at another.
  pub fast_two_views : AllFresh fresh no_links fast_for_two_views × Played fast_for_two_views 4 0 1 fast1 view_at_0
      × Played fast_for_two_views 10 1 1 fast1 view_at_1

pub record Request11 : Type 0 where
  pub over_every_run : OverEveryRun
  pub what_it_means : WhatItMeans
