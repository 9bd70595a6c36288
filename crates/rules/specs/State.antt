-- The state of one office in one room, and names for its parts.
use Rattle.std.specs.Prelude.{Bool, true, false, List, ℕ, get_or}
use Rattle.laws.specs.Tab.{tab}
use Rattle.laws.specs.Upd.{ifb, upd}
use Rattle.records.specs.declared.Report.{Report}
use Rattle.records.specs.declared.Proposal.{Proposal}
use Rattle.records.specs.declared.View.{View}
use Rattle.seats.specs.declared.SeatSet.{SeatSet}

-- no agreement is under way, or a fast or a slow one is
pub data Mode : Type 0 where
  None : Mode
  Fast : Mode
  Slow : Mode

-- what is stored for an office: a proposal, or nothing
pub record Slot : Type 0 where
  pub present : Bool
  pub proposal : Proposal

pub record State : Type 0 where
  pub own : ℕ
  pub mode : Mode
  pub net : SeatSet  -- the members that the reports so far make: Moshe's net view, NSView
  pub stored : List Slot
  pub accepted : List ℕ
  pub view : View
  pub start : ℕ
  pub number : ℕ
  pub used : List ℕ

-- the two kinds of a proposal, as the raw byte
abbrev pub fast : ℕ
fast = 1

abbrev pub slow : ℕ
slow = 2

-- the kind of proposal that a mode waits for
abbrev pub kind_of : Mode → ℕ
kind_of None = 0
kind_of Fast = fast
kind_of Slow = slow

-- sixteen zeros
abbrev pub zeros : List ℕ
zeros = tab 16 (λ o. 0)

abbrev pub no_report : Report
no_report = record { joining = record { bits = 0 }; leaving = record { bits = 0 } }

abbrev pub no_proposal : Proposal
no_proposal = record { sender = 0; kind = 0; members = record { bits = 0 }; start = 0; number = 0; used = zeros }

-- nothing stored, and a proposal stored
abbrev pub nothing : Slot
nothing = record { present = false; proposal = no_proposal }

abbrev pub keeping : Proposal → Slot
keeping p = record { present = true; proposal = p }

-- of office o: what is stored, the number last accepted, the used number
abbrev pub stored_at : State → ℕ → Slot
stored_at s o = get_or s.stored o nothing

abbrev pub accepted_at : State → ℕ → ℕ
accepted_at s o = get_or s.accepted o 0

abbrev pub used_at : State → ℕ → ℕ
used_at s o = get_or s.used o 0

-- the used number that a proposal has for office o
abbrev pub used_for : Proposal → ℕ → ℕ
used_for p o = get_or p.used o 0

-- the number of what is stored; nothing counts as 0
abbrev pub number_in : Slot → ℕ
number_in v = ifb v.present v.proposal.number 0

-- A state with one part changed; all else stays.
abbrev pub with_mode : Mode → State → State
with_mode m s =
    record {
      own = s.own;
      mode = m;
      net = s.net;
      stored = s.stored;
      accepted = s.accepted;
      view = s.view;
      start = s.start;
      number = s.number;
      used = s.used;
    }

abbrev pub with_net_set : SeatSet → State → State
with_net_set x s =
    record {
      own = s.own;
      mode = s.mode;
      net = x;
      stored = s.stored;
      accepted = s.accepted;
      view = s.view;
      start = s.start;
      number = s.number;
      used = s.used;
    }

abbrev pub with_stored : ℕ → Slot → State → State
with_stored o v s =
    record {
      own = s.own;
      mode = s.mode;
      net = s.net;
      stored = tab 16 (upd (stored_at s) o v);
      accepted = s.accepted;
      view = s.view;
      start = s.start;
      number = s.number;
      used = s.used;
    }

abbrev pub with_accepted : ℕ → ℕ → State → State
with_accepted o n s =
    record {
      own = s.own;
      mode = s.mode;
      net = s.net;
      stored = s.stored;
      accepted = tab 16 (upd (accepted_at s) o n);
      view = s.view;
      start = s.start;
      number = s.number;
      used =
          s.used;
    }

abbrev pub with_view : View → State → State
with_view v s =
    record {
      own = s.own;
      mode = s.mode;
      net = s.net;
      stored = s.stored;
      accepted = s.accepted;
      view = v;
      start = s.start;
      number = s.number;
      used = s.used;
    }

abbrev pub with_start : ℕ → State → State
with_start n s =
    record {
      own = s.own;
      mode = s.mode;
      net = s.net;
      stored = s.stored;
      accepted = s.accepted;
      view = s.view;
      start = n;
      number = s.number;
      used = s.used;
    }

abbrev pub with_number : ℕ → State → State
with_number n s =
    record {
      own = s.own;
      mode = s.mode;
      net = s.net;
      stored = s.stored;
      accepted = s.accepted;
      view = s.view;
      start = s.start;
      number = n;
      used = s.used;
    }

abbrev pub with_used : ℕ → ℕ → State → State
with_used o n s =
    record {
      own = s.own;
      mode = s.mode;
      net = s.net;
      stored = s.stored;
      accepted = s.accepted;
      view = s.view;
      start = s.start;
      number = s.number;
      used = tab 16 (upd (used_at s) o n);
    }
