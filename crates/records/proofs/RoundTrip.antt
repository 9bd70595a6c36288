-- For layout: each record comes back the same both ways: a value that fits its fields by its bytes, with its room, and
-- bytes of the right mark and length by their room and value.
use mathlib.Core.Path.{◌≡◌, refl, sym, ◌∙◌}
use mathlib.Core.List.{List, [], ◌∷◌, ◌++◌}
use Prim.Native.Nat.{ℕ, suc, ◌+◌, ◌-◌, ◌*◌, ◌<◌, ◌^◌}
use native.Mathlib.Omega.{arith}
use lib.ListN.{length, get_or}
use Rattle.laws.specs.Big.{bytes4, bytes8, bytes_all, big4, Below}
use Rattle.laws.proofs.Big.{both, digits4, digits8, all_back, bytes_back, big4_back, big8_back}
use Rattle.laws.proofs.Big.{big4_below, big8_below, tab_below}
use Rattle.laws.proofs.Seqs.{tab_self}
use Rattle.laws.specs.Tab.{tab}
use Rattle.laws.proofs.Tab.{length_tab}
use Rattle.records.specs.declared.Report.{Report}
use Rattle.records.specs.declared.Proposal.{Proposal}
use Rattle.records.specs.declared.Notice.{Notice}
use Rattle.records.specs.declared.View.{View}
use Rattle.records.specs.declared.Sync.{Sync}
use Rattle.records.specs.declared.High.{High}
use Rattle.records.specs.Layout.{encode_report, encode_proposal, encode_notice, encode_view, encode_sync, encode_high}
use Rattle.records.specs.Layout.{decode_report, decode_proposal, decode_notice, decode_view, decode_sync, decode_high}
use Rattle.records.specs.Layout.{check_of, check_own, sixteen_at, report_mark, proposal_mark, notice_mark, view_mark}
use Rattle.records.specs.Layout.{sync_mark, high_mark, report_length, proposal_length, notice_length, view_length}
use Rattle.records.specs.Layout.{room_place, room_of, sync_length, high_length, joining_place, leaving_place, sender_place, kind_place}
use Rattle.records.specs.Layout.{proposal_members_place, proposal_start_place, proposal_number_place, used_place}
use Rattle.records.specs.Layout.{notice_start_place, notice_members_place, view_number_place, view_members_place}
use Rattle.records.specs.Layout.{starts_place, sync_seat_place, sync_start_place, sync_previous_place, high_number_place}
use Rattle.records.specs.Layout.{high_again_place}
use Rattle.records.proofs.CheckLaws.{own_front, own_length, own_passes, report_checks, proposal_accepted}
use Rattle.records.proofs.Lengths.{report_length_lem, proposal_length_lem, notice_length_lem, view_length_lem}
use Rattle.records.proofs.Lengths.{sync_length_lem, high_length_lem}
use Rattle.records.specs.Fits.{FitsSixteen, FitsReport, FitsProposal, FitsNotice, FitsView, FitsSync, FitsHigh}

-- a value by its bytes
pub report_back : (room : ℕ) (r : Report) → FitsReport r → decode_report (encode_report room r) ≡ r
unfolding encode_report decode_report
report_back room r f =
    let back = decode_report (encode_report room r) in
    let joining : back.joining.bits ≡ r.joining.bits = digits8 r.joining.bits f.joining in
    let leaving : back.leaving.bits ≡ r.leaving.bits = digits8 r.leaving.bits f.leaving in
    rw (joining, leaving)

pub notice_back : (room : ℕ) (n : Notice) → FitsNotice n → decode_notice (encode_notice room n) ≡ n
unfolding encode_notice decode_notice
notice_back room n f = rw (digits4 n.start f.start, digits8 n.members.bits f.members)

pub sync_back : (r : Sync) → FitsSync r → decode_sync (encode_sync r) ≡ r
unfolding encode_sync decode_sync
sync_back r f = rw (digits4 r.start f.start, digits4 r.previous f.previous)

pub high_back : (h : High) → FitsHigh h → decode_high (encode_high h) ≡ h
unfolding encode_high decode_high
high_back h f = rw (digits4 h.number f.number, digits4 h.again f.again)

sixteen_back : (a l : List ℕ) → FitsSixteen l → sixteen_at (a ++ bytes_all l) (length a) ≡ l
sixteen_back a l f = all_back a l 16 f.count f.each

pub view_back : (room : ℕ) (v : View) → FitsView v → decode_view (encode_view room v) ≡ v
unfolding encode_view decode_view
view_back room v f =
    rw (
      digits4 v.number f.number,
      digits8 v.members.bits f.members,
      sixteen_back (view_mark ++ (room ∷ []) ++ bytes4 v.number ++ bytes8 v.members.bits) v.starts f.starts,
    )

pub proposal_back : (room : ℕ) (p : Proposal) → FitsProposal p → decode_proposal (encode_proposal room p) ≡ p
unfolding encode_proposal decode_proposal
proposal_back room p f =
    rw (
      digits8 p.members.bits f.members,
      digits4 p.start f.start,
      digits4 p.number f.number,
      sixteen_back
          (proposal_mark ++ (room ∷ p.sender ∷ p.kind ∷ []) ++ bytes8 p.members.bits
          ++ bytes4 p.start ++ bytes4 p.number)
          p.used f.used,
    )

-- the room comes back too
pub report_room : (room : ℕ) (r : Report) → room_of (encode_report room r) ≡ room
unfolding room_of encode_report
report_room room r = refl

pub proposal_room : (room : ℕ) (p : Proposal) → room_of (encode_proposal room p) ≡ room
unfolding room_of encode_proposal
proposal_room room p = refl

pub notice_room : (room : ℕ) (n : Notice) → room_of (encode_notice room n) ≡ room
unfolding room_of encode_notice
notice_room room n = refl

pub view_room : (room : ℕ) (v : View) → room_of (encode_view room v) ≡ room
unfolding room_of encode_view
view_room room v = refl

-- the bytes of a value pass the two checks
pub report_passes : (room : ℕ) (r : Report) → check_own report_mark report_length (encode_report room r) ≡ 0
unfolding encode_report
report_passes room r = own_passes _ _ report_length _ (report_length_lem room r)

pub proposal_passes : (room : ℕ) (p : Proposal) → FitsProposal p → check_own proposal_mark proposal_length (encode_proposal room p) ≡ 0
unfolding encode_proposal
proposal_passes room p f = own_passes _ _ proposal_length _ (proposal_length_lem room p f.used.count)

pub notice_passes : (room : ℕ) (n : Notice) → check_own notice_mark notice_length (encode_notice room n) ≡ 0
unfolding encode_notice
notice_passes room n = own_passes _ _ notice_length _ (notice_length_lem room n)

pub view_passes : (room : ℕ) (v : View) → FitsView v → check_own view_mark view_length (encode_view room v) ≡ 0
unfolding encode_view
view_passes room v f = own_passes _ _ view_length _ (view_length_lem room v f.starts.count)

pub sync_passes : (r : Sync) → check_own sync_mark sync_length (encode_sync r) ≡ 0
unfolding encode_sync
sync_passes r = own_passes _ _ sync_length _ (sync_length_lem r)

pub high_passes : (h : High) → check_own high_mark high_length (encode_high h) ≡ 0
unfolding encode_high
high_passes h = own_passes _ _ high_length _ (high_length_lem h)

pub report_checked : (room : ℕ) (r : Report) → check_of (encode_report room r) ≡ 0
report_checked room r = report_checks (encode_report room r) (report_passes room r)

pub proposal_checked : (room : ℕ) (p : Proposal) → FitsProposal p → check_of (encode_proposal room p) ≡ 0
proposal_checked room p f = proposal_accepted (encode_proposal room p) (proposal_passes room p f)

-- bytes by their value: a mark, and what the fields make of the rest
module _ (b : List ℕ) (bytes : Below 256 b) where
  whole : (x y n : ℕ) (rest : List ℕ) → x < 256 → y < 256 → check_own (x ∷ y ∷ []) (suc (suc n)) b ≡ 0
      → rest ≡ tab n (λ k. get_or b (suc (suc k)) 0) → x ∷ y ∷ rest ≡ b
  unfolding tab
  whole x y n rest hx hy c e =
      let l = own_length (x ∷ y ∷ []) (suc (suc n)) b c in
      let f = own_front x y (suc (suc n)) b bytes hx hy (omega arith) c in
      let p : b ≡ tab (suc (suc n)) (λ k. get_or b k 0) = tab_self (suc (suc n)) 0 b l in
      sym (p ∙ rw (f.0, f.1, e))

  pub report_again : check_own report_mark report_length b ≡ 0 → encode_report (room_of b) (decode_report b) ≡ b
  unfolding room_of encode_report decode_report tab
  report_again c =
      whole _ _ (report_length - 2) _ (omega arith) (omega arith) c
      (both {a = get_or b room_place 0 ∷ []} refl
      (both (big8_back b bytes joining_place) (big8_back b bytes leaving_place)))

  pub notice_again : check_own notice_mark notice_length b ≡ 0 → encode_notice (room_of b) (decode_notice b) ≡ b
  unfolding room_of encode_notice decode_notice tab
  notice_again c =
      whole _ _ (notice_length - 2) _ (omega arith) (omega arith) c
      (both {a = get_or b room_place 0 ∷ []} refl
      (both (big4_back b bytes notice_start_place) (big8_back b bytes notice_members_place)))

  pub view_again : check_own view_mark view_length b ≡ 0 → encode_view (room_of b) (decode_view b) ≡ b
  unfolding room_of encode_view decode_view tab
  view_again c =
      whole _ _ (view_length - 2) _ (omega arith) (omega arith) c
      (both {a = get_or b room_place 0 ∷ []} refl
      (both (big4_back b bytes view_number_place)
      (both (big8_back b bytes view_members_place) (bytes_back 16 starts_place b bytes))))

  pub proposal_again : check_own proposal_mark proposal_length b ≡ 0 → encode_proposal (room_of b) (decode_proposal b) ≡ b
  unfolding room_of encode_proposal decode_proposal tab
  proposal_again c =
      whole _ _ (proposal_length - 2) _ (omega arith) (omega arith) c
      (both {a = get_or b room_place 0 ∷ get_or b sender_place 0 ∷ get_or b kind_place 0 ∷ []} refl
      (both (big8_back b bytes proposal_members_place)
      (both (big4_back b bytes proposal_start_place)
      (both (big4_back b bytes proposal_number_place) (bytes_back 16 used_place b bytes)))))

  pub sync_again : check_own sync_mark sync_length b ≡ 0 → encode_sync (decode_sync b) ≡ b
  unfolding encode_sync decode_sync tab
  sync_again c =
      whole _ _ (sync_length - 2) _ (omega arith) (omega arith) c
      (both {a = get_or b sync_seat_place 0 ∷ []} refl
      (both (big4_back b bytes sync_start_place) (big4_back b bytes sync_previous_place)))

  pub high_again : check_own high_mark high_length b ≡ 0 → encode_high (decode_high b) ≡ b
  unfolding encode_high decode_high tab
  high_again c =
      whole _ _ (high_length - 2) _ (omega arith) (omega arith) c
      (both (big4_back b bytes high_number_place) (big4_back b bytes high_again_place))

  -- what is read from bytes fits
  pub room_fits : room_of b < 256
  unfolding room_of
  room_fits = bytes room_place

  sixteen_fits : (at : ℕ) → FitsSixteen (sixteen_at b at)
  sixteen_fits at = record {
    count = length_tab 16 (λ o. big4 b (at + 4 * o));
    each = tab_below (2 ^ 32) 16 (λ o. big4 b (at + 4 * o)) (omega arith) (λ o. big4_below b bytes (at + 4 * o));
  }

  pub report_fits : FitsReport (decode_report b)
  unfolding decode_report
  report_fits = record { joining = big8_below b bytes joining_place; leaving = big8_below b bytes leaving_place }

  pub proposal_fits : FitsProposal (decode_proposal b)
  unfolding decode_proposal
  proposal_fits = record {
    sender = bytes sender_place;
    kind = bytes kind_place;
    members = big8_below b bytes proposal_members_place;
    start = big4_below b bytes proposal_start_place;
    number = big4_below b bytes proposal_number_place;
    used = sixteen_fits used_place;
  }

  pub notice_fits : FitsNotice (decode_notice b)
  unfolding decode_notice
  notice_fits = record { start = big4_below b bytes notice_start_place; members = big8_below b bytes notice_members_place }

  pub view_fits : FitsView (decode_view b)
  unfolding decode_view
  view_fits = record {
    number = big4_below b bytes view_number_place;
    members = big8_below b bytes view_members_place;
    starts = sixteen_fits starts_place;
  }

  pub sync_fits : FitsSync (decode_sync b)
  unfolding decode_sync
  sync_fits = record {
    seat = bytes sync_seat_place;
    start = big4_below b bytes sync_start_place;
    previous = big4_below b bytes sync_previous_place;
  }

  pub high_fits : FitsHigh (decode_high b)
  unfolding decode_high
  high_fits = record { number = big4_below b bytes high_number_place; again = big4_below b bytes high_again_place }
