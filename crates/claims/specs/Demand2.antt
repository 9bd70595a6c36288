-- Demand 2. Each accepted event does what the published Moshe algorithm does for reports, views and fast agreement,
-- and what document 01 lays down for slow agreement. Records are written and read by one layout, so that each comes
-- back the same both ways.
use Rattle.std.specs.Prelude.{◌≡◌, true, false, ◌&&◌, ◌||◌, not, ℕ, ◌^◌, ◌≤◌, ◌<◌, eqb, get_or}
use mathlib.Core.List.{List, Memᴰ}
use Rattle.laws.specs.Big.{Below}
use Rattle.laws.specs.Lists.{Every}
use Rattle.laws.specs.Tab.{tab}
use Rattle.laws.specs.Upd.{upd}
use Rattle.seats.specs.Seats.{has, insert_of, remove_of, union_of, without_of}
use Rattle.seats.specs.Offices.{serves, offices_of}
use Rattle.records.specs.declared.Report.{Report}
use Rattle.records.specs.declared.Proposal.{Proposal}
use Rattle.records.specs.declared.Notice.{Notice}
use Rattle.records.specs.declared.View.{View}
use Rattle.records.specs.declared.Sync.{Sync}
use Rattle.records.specs.declared.High.{High}
use Rattle.records.specs.Fits.{FitsReport, FitsProposal, FitsNotice, FitsView, FitsSync, FitsHigh}
use Rattle.records.specs.Layout.{encode_report, encode_proposal, encode_notice, encode_view, encode_sync, encode_high}
use Rattle.records.specs.Layout.{room_of, check_own, decode_report, decode_proposal, decode_notice, decode_view}
use Rattle.records.specs.Layout.{decode_sync}
use Rattle.records.specs.Layout.{decode_high, report_mark, proposal_mark, notice_mark, view_mark, sync_mark, high_mark}
use Rattle.records.specs.Layout.{report_length, proposal_length, notice_length, view_length, sync_length, high_length}
use Rattle.rules.specs.State.{Fast, State, zeros, keeping, stored_at, accepted_at, used_at}
use Rattle.rules.specs.Rules.{view, fresh, net_after, with_net, repeats, seated, opened, proposes_fast, received}
use Rattle.rules.specs.Rules.{slow_called, report_rule, proposal_rule}
use Rattle.rules.specs.Refusals.{step_of}
use Rattle.rules.specs.Days.{computed, stated, further_computed, further_stated}
use Rattle.rule_laws.proofs.Written.{ViewLast, SeatsOnly, RecordWithin}
use Rattle.moshe.specs.Moshe.{Leaves, initially, nothing_sent, server_of, state_from}
use Rattle.moshe.specs.Moshe.{fast_on_proposal, fast_on_ne, on_proposal01, on_ne01, Known, OwnFast, OthersKnown}
use Rattle.runs.specs.Office.{Input, LogEntry, answer_of, log_of, Before, CountedAt}
use Rattle.row.specs.Table.{table_of, is_table}
use Rattle.code_runs.specs.Words.{Handed, words_answer}

-- The figures of the paper beside the rules, on every state.
pub record Figures : Type 0 where
  -- Figure 5's initial values are the fresh state.
  pub initially_fresh : (o : ℕ) → state_from zeros (initially o) ≡ fresh o
  -- Figure 6's handlers with document 01's slow agreement are the rules: for a report that changes the net view,
  pub report : (s : State) (n : Report) → repeats s n ≡ false
      → Leaves s.own s.accepted (on_ne01 s.accepted (server_of s) n) (report_rule s n)
  -- and for a proposal, with the last accepted numbers beside, which the paper does not have.
  pub proposal : (s : State) (p : Proposal) → let accepted = tab 16 (upd (accepted_at s) p.sender p.number) in
      Leaves s.own accepted (on_proposal01 accepted (server_of s) p) (proposal_rule s p)
  -- A repeat leaves every variable and sends nothing.
  pub repeat : (s : State) (n : Report) → repeats s n ≡ true
      → Leaves s.own s.accepted (nothing_sent (server_of s)) (report_rule s n)
  -- Where slow agreement is not called for, the rules are the fast agreement algorithm as printed: for a report,
  pub fast_report : (s : State) (n : Report) → repeats s n ≡ false → let t = with_net s (net_after s.net.bits n) in
      (seated t ≡ true → slow_called (proposes_fast (opened t)).state ≡ false) → OthersKnown s
      → Leaves s.own s.accepted (fast_on_ne (server_of s) n) (report_rule s n)
  -- and for a proposal in mode fast.
  pub fast_proposal : (s : State) (p : Proposal) → s.mode ≡ Fast
      → (p.members.bits ≡ s.net.bits → slow_called (received s p) ≡ false) → OwnFast s → OthersKnown s
      → (p.sender ≡ s.own → ⊥) → Known (keeping p)
      → Leaves s.own (received s p).accepted (fast_on_proposal (server_of s) p) (proposal_rule s p)

-- The worked days.
pub record Days : Type 0 where
  -- The starred days come out as document 01 says,
  pub starred_days : computed ≡ stated
  -- and so do days on which it decides against the paper.
  pub readings : further_computed ≡ further_stated

-- Views: an entry stands in the log of a run of one office, from any state.
pub record Views : Type 0 where
  -- Every view counts one proposal of each office of its members;
  pub view_counts : (e : LogEntry) (v : View) → Memᴰ (view v) (answer_of e).written → (o : ℕ) → o < 16
      → serves v.members.bits o ≡ true → (p : Proposal) × CountedAt e o p
  -- its start number is in the view,
  pub counted_start : (e : LogEntry) (o : ℕ) (p : Proposal) (c : CountedAt e o p)
      → get_or c.seen.starts o 0 ≡ p.start
  -- the used number becomes its number,
  pub counted_used : (e : LogEntry) (o : ℕ) (p : Proposal) → CountedAt e o p
      → used_at (answer_of e).state o ≡ p.number
  -- and it is stored no more.
  pub counted_gone : (e : LogEntry) (o : ℕ) (p : Proposal) → CountedAt e o p
      → (stored_at (answer_of e).state o).present ≡ false
  -- One proposal never serves two views of an office: a later view counts one with a higher number;
  pub once : (own : ℕ) (hs : List Input) (e f : LogEntry) → Before e f (log_of (fresh own) hs)
      → (o : ℕ) (p q : Proposal) → CountedAt e o p → CountedAt f o q → p.number < q.number
  -- an event sends no two views.
  pub one_view : (e : LogEntry) (v w : View) → Memᴰ (view v) (answer_of e).written
      → Memᴰ (view w) (answer_of e).written → v ≡ w
  -- A view that is sent is of the net view at that moment: none is known to be obsolete.
  pub of_net_view : (e : LogEntry) (v : View) → Memᴰ (view v) (answer_of e).written
      → v.members ≡ (answer_of e).state.net
  -- One that the code sends is of the net view that its words hold then in its room.
  pub code_view : (ws : List ℕ) (h : Handed) → is_table ws ≡ true → (v : View)
      → Memᴰ (view v) (words_answer ws h).written
      → v.members ≡ (table_of (words_answer ws h).words (room_of h.bytes)).net
  -- The net view is what step 1 of a report makes of it,
  pub net_by_report : (s : State) (r : Report) → (report_rule s r).state.net.bits ≡ net_after s.net.bits r
  -- and a proposal leaves it.
  pub net_by_proposal : (s : State) (p : Proposal) → (proposal_rule s p).state.net.bits ≡ s.net.bits

-- What an event writes.
pub record Writes : Type 0 where
  -- A view is written after all else.
  pub view_last : (office : ℕ) (s : State) (b : List ℕ) (output : ℕ) → ViewLast (step_of office s b output).written
  -- A used number or a view's start number is 0 for an office without a seat in the members.
  pub seats_only : (office : ℕ) (s : State) (b : List ℕ) (output : ℕ)
      → Every SeatsOnly (step_of office s b output).written
  -- No number in a record passes L.
  pub records_within : (office : ℕ) (s : State) (b : List ℕ) (output : ℕ)
      → Every RecordWithin (step_of office s b output).written

-- One layout, in every room.
pub record Layout : Type 0 where
  -- A value that fits its fields comes back from its bytes,
  pub report_back : (room : ℕ) (r : Report) → FitsReport r → decode_report (encode_report room r) ≡ r
  pub proposal_back : (room : ℕ) (p : Proposal) → FitsProposal p → decode_proposal (encode_proposal room p) ≡ p
  pub notice_back : (room : ℕ) (n : Notice) → FitsNotice n → decode_notice (encode_notice room n) ≡ n
  pub view_back : (room : ℕ) (v : View) → FitsView v → decode_view (encode_view room v) ≡ v
  pub sync_back : (r : Sync) → FitsSync r → decode_sync (encode_sync r) ≡ r
  pub high_back : (h : High) → FitsHigh h → decode_high (encode_high h) ≡ h
  -- and its room from the same bytes;
  pub report_room : (room : ℕ) (r : Report) → room_of (encode_report room r) ≡ room
  pub proposal_room : (room : ℕ) (p : Proposal) → room_of (encode_proposal room p) ≡ room
  pub notice_room : (room : ℕ) (n : Notice) → room_of (encode_notice room n) ≡ room
  pub view_room : (room : ℕ) (v : View) → room_of (encode_view room v) ≡ room
  -- bytes of its mark and length come back from their room and value.
  pub report_again : (b : List ℕ) → Below 256 b → check_own report_mark report_length b ≡ 0
      → encode_report (room_of b) (decode_report b) ≡ b
  pub proposal_again : (b : List ℕ) → Below 256 b → check_own proposal_mark proposal_length b ≡ 0
      → encode_proposal (room_of b) (decode_proposal b) ≡ b
  pub notice_again : (b : List ℕ) → Below 256 b → check_own notice_mark notice_length b ≡ 0
      → encode_notice (room_of b) (decode_notice b) ≡ b
  pub view_again : (b : List ℕ) → Below 256 b → check_own view_mark view_length b ≡ 0
      → encode_view (room_of b) (decode_view b) ≡ b
  pub sync_again : (b : List ℕ) → Below 256 b → check_own sync_mark sync_length b ≡ 0
      → encode_sync (decode_sync b) ≡ b
  pub high_again : (b : List ℕ) → Below 256 b → check_own high_mark high_length b ≡ 0
      → encode_high (decode_high b) ≡ b

-- Sets of seats.
pub record Sets : Type 0 where
  -- Insert puts a seat in, and no other;
  pub has_insert : (x s t : ℕ) → s < 64 → has (insert_of x s) t ≡ has x t || eqb t s
  -- remove takes it out, and no other;
  pub has_remove : (x s t : ℕ) → s < 64 → t < 64 → has (remove_of x s) t ≡ has x t && not (eqb t s)
  -- for a seat above 63 both give the set unchanged.
  pub insert_above : (x s : ℕ) → 64 ≤ s → insert_of x s ≡ x
  pub remove_above : (x s : ℕ) → 64 ≤ s → remove_of x s ≡ x
  -- A seat that both joins and leaves is out.
  pub left_out : (net joining leaving s : ℕ) → s < 64 → leaving < 2 ^ 64 → has leaving s ≡ true
      → has (without_of (union_of net joining) leaving) s ≡ false
  -- The offices of a set are those with at least one seat in it.
  pub has_offices : (x o : ℕ) → o < 16 → has (offices_of x) o ≡ serves x o

pub record Demand2 : Type 0 where
  pub figures : Figures
  pub days : Days
  pub views : Views
  pub writes : Writes
  pub layout : Layout
  pub sets : Sets
