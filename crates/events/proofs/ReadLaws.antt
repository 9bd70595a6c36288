-- The exits of the reading call, and that an event that was read holds what the rules read.
use Rattle.std.specs.Prelude.{Result, Ok, Err, IsErrAnd}
use mathlib.Core.Path.{◌≡◌, refl, sym, ap, ◌∙◌}
use mathlib.Core.Bool.{Bool, true, false}
use mathlib.Core.List.{List}
use Prim.Native.Nat.{ℕ, ◌<◌}
use native.Mathlib.Omega.{arith}
use native.Mathlib.Decide.{ℕ_discrete, dec_lt}
use borrow.Author.Tests.{eqb-false, ne_eqb, le-ltb, lt-ltb}
use lib.Dec.{eqb, ltb}
use Rattle.records.specs.declared.InRoom.{InRoom}
use Rattle.records.specs.declared.Report.{Report}
use Rattle.records.specs.declared.Proposal.{Proposal}
use Rattle.records.specs.declared.refusal.Refusal.{Refusal}
use Rattle.records.specs.declared.refusal.Refusal.TheVariants as reasons
use Rattle.records.specs.Refusals.{number}
use Rattle.records.specs.Numbers.{room_above}
use Rattle.records.specs.Layout.{report_mark, report_length, proposal_mark, proposal_length, decode_report}
use Rattle.records.specs.Layout.{decode_proposal}
use Rattle.records.specs.Layout.{room_of, check_of, check_own, sized}
use Rattle.records.proofs.CheckLaws.{own_length, sized_all}
use Rattle.rules.specs.Refusals.{Made, made_of, read_check, Event as RuleEvent, a_report, a_proposal, event_of}
use Rattle.rules.specs.Refusals.{form_refusal}
use Rattle.rules.specs.Refusals.{read_number}
use Rattle.rules.specs.Tables.{RoomEvent, read_of}
use Rattle.rule_laws.proofs.Exits.{made_0, made_1, report_read, proposal_read}
use Rattle.events.specs.declared.What.TheVariants.{Report as IsReport, Proposal as IsProposal}
use Rattle.events.specs.declared.Event.{Event}
use Rattle.events.specs.Events.{event_held, holding, read_event}
use Rattle.events.specs.Reading.{refused_read, room_read, decoded_read, formed_read}

-- a reason to refuse has a number
pub reason_some : (e : Refusal) → eqb (number e) 0 ≡ false
reason_some reasons.Office = refl
reason_some reasons.State = refl
reason_some reasons.Output = refl
reason_some reasons.Mark = refl
reason_some reasons.Length = refl
reason_some reasons.Sender = refl
reason_some reasons.Kind = refl
reason_some reasons.Number = refl
reason_some reasons.Members = refl
reason_some reasons.Stray = refl
reason_some reasons.OldProposal = refl
reason_some reasons.Unreached = refl
reason_some reasons.Ceiling = refl
reason_some reasons.OldNotice = refl
reason_some reasons.UnawaitedView = refl
reason_some reasons.LowView = refl
reason_some reasons.Sheet = refl
reason_some reasons.File = refl
reason_some reasons.SelfUse = refl
reason_some reasons.Room = refl

-- what leaves by a `?` is refused for the same reason
pub handed : {A : Type 0} (r : Result A Refusal) (e : Refusal) → IsErrAnd r (λ y. y ≡ e) → r ≡ Err e
handed (Ok a) e h = absurd h
handed (Err y) e h = ap Err h

-- an event that was read holds what was read
pub held_holding : (room : ℕ) (e : RuleEvent) → event_held (holding room e) ≡ record { room = room; what = e }
held_holding room (a_report r) = refl
held_holding room (a_proposal p) = refl

pub read_held : (office : ℕ) (b : List ℕ) → event_held (read_event office b).event ≡ (read_of office b).event
unfolding read_event
read_held office b = held_holding (read_of office b).event.room (read_of office b).event.what

pub read_number_lem : (office : ℕ) (b : List ℕ) → (read_event office b).refusal ≡ (read_of office b).refusal
unfolding read_event
read_number_lem office b = refl

-- the event that bytes hold, by their kind
pub report_told : (b : List ℕ) → check_own report_mark report_length b ≡ 0 → (x : InRoom Report)
    → x ≡ record { room = room_of (sized report_length b); «record» = decode_report (sized report_length b) }
    → record { room = x.room; what = IsReport x.«record» } ≡ holding (room_of b) (event_of b)
report_told b c x e =
    rw (e, sized_all report_length b (own_length report_mark report_length b c), report_read b c)

pub proposal_told : (b : List ℕ) → check_own proposal_mark proposal_length b ≡ 0 → (x : InRoom Proposal)
    → x ≡ record { room = room_of (sized proposal_length b); «record» = decode_proposal (sized proposal_length b) }
    → record { room = x.room; what = IsProposal x.«record» } ≡ holding (room_of b) (event_of b)
proposal_told b c x e =
    rw (e, sized_all proposal_length b (own_length proposal_mark proposal_length b c), proposal_read b c)

-- 4 and 5, and an event behind them
pub decoded_unread : (b : List ℕ) (r : Refusal) → number r ≡ check_of b → refused_read (number r) ≡ decoded_read b
unfolding decoded_read
decoded_unread b r e = rw (← e, reason_some r)

pub decoded_event : (b : List ℕ) → check_of b ≡ 0 → (e : Event) → e ≡ holding (room_of b) (event_of b)
    → room_read e ≡ decoded_read b
unfolding decoded_read
decoded_event b c e is = rw (c, is)

-- what was refused stays refused
pub formed_unread : (office : ℕ) (r : Refusal) → refused_read (number r) ≡ formed_read office (refused_read (number r))
unfolding formed_read
formed_unread office r = rw (reason_some r)

-- 1, and the parts together
module _ (office : ℕ) (b : List ℕ) where
  pub read_1 : (r : Refusal) → number r ≡ (made_of office).refusal → refused_read (number r) ≡ read_event office b
  unfolding read_event read_of read_number
  read_1 r e = go (dec_lt 15 office)
    where
      go : Dec (15 < office) → refused_read (number r) ≡ read_event office b
      go (yes l) = rw (e ∙ ap (λ (m : Made). m.refusal) (made_1 office l), lt-ltb 15 office l)
      go (no l) =
          let z = e ∙ ap (λ (m : Made). m.refusal) (made_0 office (omega arith)) in
          absurd (eqb-false _ _ (reason_some r) z)

  low : (made_of office).refusal ≡ 0 → ltb 15 office ≡ false
  low e = go (dec_lt 15 office)
    where
      go : Dec (15 < office) → ltb 15 office ≡ false
      go (yes l) = absurd (let x = sym (ap (λ (m : Made). m.refusal) (made_1 office l)) ∙ e in omega arith)
      go (no l) = le-ltb 15 office (omega arith)

  pub read_parts : (made_of office).refusal ≡ 0 → formed_read office (decoded_read b) ≡ read_event office b
  unfolding read_event read_of read_number read_check decoded_read room_read formed_read
  read_parts z = go (ℕ_discrete (check_of b) 0) (room_above (room_of b)) refl (ℕ_discrete form 0)
    where
      form : ℕ
      form = form_refusal office (event_of b)

      room : (holding (room_of b) (event_of b)).room ≡ room_of b
      room = ap (λ (e : RoomEvent). e.room) (held_holding (room_of b) (event_of b))

      same : form_refusal office (event_held (holding (room_of b) (event_of b))).what ≡ form
      same = ap (λ (e : RoomEvent). form_refusal office e.what) (held_holding (room_of b) (event_of b))

      go : Dec (check_of b ≡ 0) → (u : Bool) → room_above (room_of b) ≡ u → Dec (form ≡ 0)
          → formed_read office (decoded_read b) ≡ read_event office b
      go (no n) u a f = let c = ne_eqb (check_of b) 0 n in rw (low z, c, c, c)
      go (yes c) true a f = rw (low z, c, room, a)
      go (yes c) false a (yes f) = rw (low z, c, room, a, same, f)
      go (yes c) false a (no n) = let f = ne_eqb form 0 n in rw (low z, c, room, a, same, f, f)
