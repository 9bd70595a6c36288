-- Moshe, source document 004, Figures 5 and 6, in the paper's names. Clients are seats, servers are offices, and its
-- messages are the records of document 01. The three functions that Figure 6 leaves to Figure 7 are parameters of the
-- handlers.
use Rattle.std.specs.Prelude.{◌≡◌, Bool, true, false, ◌&&◌, ◌||◌, not, ◌⊎◌, List, [], ◌∷◌, ◌++◌, map, ℕ, ◌+◌, ◌<◌, max}
use Rattle.std.specs.Prelude.{get_or, eqb}
use Rattle.laws.specs.Fin.{allb, anyb, largest}
use Rattle.laws.specs.Tab.{tab}
use Rattle.laws.specs.Upd.{ifb, upd}
use Rattle.seats.specs.Seats.{has, union_of, without_of}
use Rattle.seats.specs.Offices.{office_of, serves}
use Rattle.seats.specs.declared.SeatSet.{SeatSet}
use Rattle.records.specs.declared.Report.{Report}
use Rattle.records.specs.declared.Proposal.{Proposal}
use Rattle.records.specs.declared.View.{View}
use Rattle.rules.specs.State.{Mode, None, Fast, Slot, State, fast, slow, kind_of, zeros, nothing, keeping, stored_at}
use Rattle.rules.specs.Rules.{Written, notice, proposal, view, Outcome, and_then, receives, slow_called, begins_in}
use Rattle.rules.specs.Rules.{proposes_slow, agreed}

-- Figure 5, types
abbrev pub CSet : Type 0
CSet = SeatSet

abbrev pub NE : Type 0
NE = Report

abbrev pub alg_type : Type 0
alg_type = Mode

abbrev pub none : alg_type
none = None

abbrev pub FA : alg_type
FA = Fast

-- Figure 5, external functions: the servers of a set of clients, and its clients at this server
abbrev pub servers_of : CSet → ℕ → Bool
servers_of S s = serves S.bits s

unfoldable pub local : ℕ → CSet → ℕ → Bool
local me S c = has S.bits c && eqb (office_of c) me

-- Figure 5, variables; a function on servers is a list with an entry for each, and null is nothing
pub record Server : Type 0 where
  pub me : ℕ
  pub running : alg_type
  pub NSView : CSet
  pub props : List Slot
  pub cur_view : View
  pub start_change_num : ℕ
  pub prop_num : ℕ
  pub used_props : List ℕ

unfoldable pub initially : ℕ → Server
initially me =
    record {
      me = me;
      running = none;
      NSView = record { bits = 0 };
      props = tab 16 (λ s. nothing);
      cur_view = record { number = 0; members = record { bits = 0 }; starts = zeros };
      start_change_num = 0;
      prop_num = 0;
      used_props = zeros;
    }

-- props[s], and props[s].f for a number f of a proposal, where null counts as 0
abbrev pub props_at : Server → ℕ → Slot
props_at v s = get_or v.props s nothing

abbrev pub prop_at : Server → (Proposal → ℕ) → ℕ → ℕ
prop_at v f s = ifb (props_at v s).present (f (props_at v s).proposal) 0

-- props[servers_of(NSView)].f
unfoldable pub props_of : Server → (Proposal → ℕ) → ℕ → ℕ
props_of v f s = ifb (servers_of v.NSView s) (prop_at v f s) 0

-- used_props[servers_of(NSView)]
unfoldable pub used_props_of : Server → ℕ → ℕ
used_props_of v s = ifb (servers_of v.NSView s) (get_or v.used_props s 0) 0

-- a message sent, and to whom: clients or servers
pub data Message : Type 0 where
  to_clients : Written → (ℕ → Bool) → Message
  to_servers : Written → (ℕ → Bool) → Message

-- what a handler leaves: the variables, and what it sent, in order
pub record Handled : Type 0 where
  pub server : Server
  pub sent : List Message

abbrev pub nothing_sent : Server → Handled
nothing_sent v = record { server = v; sent = [] }

unfoldable pub then_run : Handled → (Server → Handled) → Handled
then_run r f = record { server = (f r.server).server; sent = r.sent ++ (f r.server).sent }

-- Figure 6, NE handler, line 1: NSView
unfoldable pub update_ns_view : Server → NE → Server
update_ns_view v n =
    record {
      me = v.me;
      running = v.running;
      NSView = record { bits = without_of (union_of v.NSView.bits n.joining.bits) n.leaving.bits };
      props = v.props;
      cur_view = v.cur_view;
      start_change_num = v.start_change_num;
      prop_num = v.prop_num;
      used_props = v.used_props;
    }

-- line 2: local(NSView) is not empty
unfoldable pub any_local : Server → Bool
any_local v = servers_of v.NSView v.me

-- lines 3, 5 and 6: start_change_num, running, prop_num
unfoldable pub start_fa : Server → Server
start_fa v =
    record {
      me = v.me;
      running = FA;
      NSView = v.NSView;
      props = v.props;
      cur_view = v.cur_view;
      start_change_num = max v.cur_view.number (v.start_change_num + 1);
      prop_num = max v.prop_num (largest 16 (props_of v (λ p. p.number))) + 1;
      used_props = v.used_props;
    }

-- line 4: startChange to the local clients
unfoldable pub send_start_change : Server → List Message
send_start_change v =
    to_clients (notice (record { start = v.start_change_num; members = v.NSView })) (local v.me v.NSView) ∷ []

-- line 7: the proposal
unfoldable pub proposal_fa : Server → Proposal
proposal_fa v =
    record {
      sender = v.me;
      kind = kind_of FA;
      members = v.NSView;
      start = v.start_change_num;
      number = v.prop_num;
      used = tab 16 (used_props_of v);
    }

-- line 8: to the other servers; where there is none, nothing is sent
unfoldable pub others : Server → ℕ → Bool
others v s = servers_of v.NSView s && not (eqb s v.me)

unfoldable pub send_proposal : Server → List Message
send_proposal v = ifb (anyb 16 (others v)) (to_servers (proposal (proposal_fa v)) (others v) ∷ []) []

-- Figure 6, proposal handler, line 1: props[inProp.sender]
unfoldable pub store_prop : Server → Proposal → Server
store_prop v inProp =
    record {
      me = v.me;
      running = v.running;
      NSView = v.NSView;
      props = tab 16 (upd (props_at v) inProp.sender (keeping inProp));
      cur_view = v.cur_view;
      start_change_num = v.start_change_num;
      prop_num = v.prop_num;
      used_props = v.used_props;
    }

-- what follows TestIfAgreementReached: cur_view; used_props and props of each server of NSView; running
unfoldable pub use_props : Server → Server
use_props v =
    record {
      me = v.me;
      running = none;
      NSView = v.NSView;
      props = tab 16 (λ s. ifb (servers_of v.NSView s) nothing (props_at v s));
      cur_view = record {
        number = largest 16 (props_of v (λ p. p.start)) + 1;
        members = v.NSView;
        starts = tab 16 (props_of v (λ p. p.start));
      };
      start_change_num = v.start_change_num;
      prop_num = v.prop_num;
      used_props = tab 16 (λ s. ifb (servers_of v.NSView s) (prop_at v (λ p. p.number) s) (get_or v.used_props s 0));
    }

-- its last line: cur_view to the local clients
unfoldable pub send_view : Server → List Message
send_view v = to_clients (view v.cur_view) (local v.me v.NSView) ∷ []

-- Figure 6, the two handlers
module _ (TestIfSAProposalNeeded : Server → Proposal → Bool) (SendSAProposal : Server → Proposal → Handled)
    (TestIfAgreementReached : Server → Bool) where
  unfoldable pub deliver_view : Server → Handled
  deliver_view v = ifb (TestIfAgreementReached v) (record { server = use_props v; sent = send_view (use_props v) })
      (nothing_sent v)

  unfoldable pub matches_ns_view : Server → Proposal → Handled
  matches_ns_view v inProp =
      then_run (ifb (TestIfSAProposalNeeded v inProp) (SendSAProposal v inProp) (nothing_sent v)) deliver_view

  unfoldable pub on_proposal : Server → Proposal → Handled
  on_proposal v inProp =
      let w = store_prop v inProp in
      ifb (eqb inProp.members.bits w.NSView.bits) (matches_ns_view w inProp) (nothing_sent w)

  -- lines 4, 8 and 9: the own proposal goes through the other handler too
  unfoldable pub starts_fa : Server → Handled
  starts_fa v =
      then_run (record { server = v; sent = send_start_change v ++ send_proposal v })
      (λ w. on_proposal w (proposal_fa v))

  unfoldable pub on_ne : Server → NE → Handled
  on_ne v n = let w = update_ns_view v n in ifb (any_local w) (starts_fa (start_fa w)) (nothing_sent w)

-- Figure 6, last lines: TestIfAgreementReached in the fast agreement algorithm, which has no TestIfSAProposalNeeded
unfoldable pub reached_fa : Server → Bool
reached_fa v =
    allb 16 (λ s. not (servers_of v.NSView s)
    || ((props_at v s).present && eqb (props_at v s).proposal.members.bits v.NSView.bits))

abbrev pub never_sa : Server → Proposal → Bool
never_sa v inProp = false

abbrev pub no_sa : Server → Proposal → Handled
no_sa v inProp = nothing_sent v

abbrev pub fast_on_proposal : Server → Proposal → Handled
fast_on_proposal = on_proposal never_sa no_sa reached_fa

abbrev pub fast_on_ne : Server → NE → Handled
fast_on_ne = on_ne never_sa no_sa reached_fa

-- the state of document 01 is these variables with the last accepted numbers beside them
abbrev pub server_of : State → Server
server_of s =
    record {
      me = s.own;
      running = s.mode;
      NSView = s.net;
      props = s.stored;
      cur_view = s.view;
      start_change_num = s.start;
      prop_num = s.number;
      used_props = s.used;
    }

abbrev pub state_from : List ℕ → Server → State
state_from accepted v =
    record {
      own = v.me;
      mode = v.running;
      net = v.NSView;
      stored = v.props;
      accepted = accepted;
      view = v.cur_view;
      start = v.start_change_num;
      number = v.prop_num;
      used = v.used_props;
    }

-- the recipients that document 01 gives a record which office own writes
abbrev pub addressed : ℕ → Written → Message
addressed own (notice n) = to_clients (notice n) (local own n.members)
addressed own (proposal p) = to_servers (proposal p) (receives p)
addressed own (view v) = to_clients (view v) (local own v.members)

abbrev pub handled_of : ℕ → Outcome → Handled
handled_of own o = record { server = server_of o.state; sent = map (addressed own) o.written }

-- an outcome of the rules is what a handler leaves: the same variables with these last accepted numbers beside them,
-- and the same records in the same order, each sent to the recipients that document 01 gives it
pub record Leaves (own : ℕ) (accepted : List ℕ) (r : Handled) (o : Outcome) : Type 0 where
  pub state : o.state ≡ state_from accepted r.server
  pub sent : map (addressed own) o.written ≡ r.sent

-- document 01's slow agreement in the three places; it looks at all that is stored, not at inProp
module _ (accepted : List ℕ) where
  unfoldable pub needed : Server → Proposal → Bool
  needed v inProp = slow_called (state_from accepted v)

  unfoldable pub slow_proposal : Server → Proposal → Handled
  slow_proposal v inProp = handled_of v.me (and_then (begins_in v.running (state_from accepted v)) proposes_slow)

  unfoldable pub reached : Server → Bool
  reached v = agreed (state_from accepted v)

  abbrev pub on_proposal01 : Server → Proposal → Handled
  on_proposal01 = on_proposal needed slow_proposal reached

  abbrev pub on_ne01 : Server → NE → Handled
  on_ne01 = on_ne needed slow_proposal reached

-- where fast agreement is as printed: the own stored proposal is fast, and those of the others have kind 1 or 2
abbrev pub IsFast : Slot → Type 0
IsFast v = v.present ≡ true → v.proposal.kind ≡ fast

abbrev pub Known : Slot → Type 0
Known v = v.present ≡ true → (v.proposal.kind ≡ fast) ⊎ (v.proposal.kind ≡ slow)

abbrev pub OwnFast : State → Type 0
OwnFast s = s.own < 16 → IsFast (stored_at s s.own)

abbrev pub OthersKnown : State → Type 0
OthersKnown s = (o : ℕ) → o < 16 → (o ≡ s.own → ⊥) → Known (stored_at s o)
