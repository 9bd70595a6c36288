-- sheet_pass: the pass after some records that are not bad, at the first bad one, and at its end.
use Rattle.std.specs.Prelude.{Result, Ok, Err, IsErrAnd}
use mathlib.Core.Path.{◌≡◌, refl, sym, ap, ◌∙◌}
use mathlib.Core.List.{List, [], ◌∷◌, ◌++◌, map, map-append, append_assoc, append-nil}
use Prim.Native.Nat.{ℕ, ◌/◌, ◌^◌, ◌<◌}
use native.Mathlib.Omega.{arith}
use lib.ListN.{length}
use Rattle.laws.specs.Checks.{first_of}
use Rattle.laws.specs.Lists.{pieces}
use Rattle.seats.specs.Seats.{seat_count}
use Rattle.records.specs.Layout.{sync_length, decode_sync}
use Rattle.records.specs.Refusals.{number}
use Rattle.records.specs.declared.View.{View}
use Rattle.records.specs.declared.Sync.{Sync}
use Rattle.records.specs.declared.refusal.Refusal.{Refusal}
use Rattle.desk.proofs.Refusals.{refusal_some}
use Rattle.sheet.specs.Sheet.{records_on, sync_checks, first_bad}
use Rattle.sheet.proofs.Records.{on_front}
use Rattle.sheet.proofs.Bad.{bad_append, bad_one}
use Rattle.came_along.specs.declared.sheet_pass.Found.{Found}
use Rattle.came_along.proofs.Counting.{found_none, found_next}
use Rattle.came_along.specs.Pass.{found_after, passed_as, pass_of, count_record}

-- the pass with the rest of the sheet ahead: the records behind it, none of them bad, and what was found
pub record Going (v : View) (previous : ℕ) (sheet rest : List ℕ) (f : Found) : Type 0 where
  pub behind : List (List ℕ)
  pub whole : records_on sheet ≡ behind ++ records_on rest
  pub none_bad : first_bad behind ≡ 0
  pub is : f ≡ found_after v previous (map decode_sync behind)

module _ (v : View) (previous : ℕ) (sheet : List ℕ) where
  pub going_none : v.members.bits < 2 ^ 64
      → Going v previous sheet sheet (record { missing = v.members; same = record { bits = 0 } })
  unfolding first_bad
  going_none l = record { behind = []; whole = refl; none_bad = refl; is = found_none v previous l }

  module _ (rest : List ℕ) (f : Found) (g : Going v previous sheet rest f) where
    -- no record is ahead
    pub pass_end : length rest < sync_length → record { refusal = 0; found = f } ≡ pass_of v previous (records_on sheet)
    unfolding pass_of pieces
    pass_end l =
        let z : length rest / sync_length ≡ 0 = omega arith in
        let e : records_on sheet ≡ g.behind = g.whole ∙ rw z (append-nil g.behind) in
        rw (e, g.none_bad, g.is)

    -- the record ahead
    module _ (b after : List ℕ) (ahead : rest ≡ b ++ after) (size : length b ≡ sync_length) where
      cut : records_on sheet ≡ g.behind ++ b ∷ records_on after
      cut = g.whole ∙ ap (λ (l : List (List ℕ)). g.behind ++ l) (rw ahead (on_front b after size))

      pub going_next : 0 ≡ first_of (sync_checks b) → (s : Sync) → s ≡ decode_sync b → s.seat < seat_count
          → Going v previous sheet after (count_record v.starts previous f s)
      going_next z s is l = record {
        behind = g.behind ++ (b ∷ []);
        whole = cut ∙ sym (append_assoc g.behind (b ∷ []) (records_on after));
        none_bad = rw (bad_append g.behind (b ∷ []), g.none_bad, bad_one b, sym z);
        is =
            rw (g.is, is, map-append decode_sync g.behind (b ∷ []))
            (found_next v previous (map decode_sync g.behind) (decode_sync b) (rw is at l));
      }

      -- it is refused
      pub pass_bad : (e : Refusal) → number e ≡ first_of (sync_checks b) → (r : Result Found Refusal)
          → IsErrAnd r (λ f. f ≡ e) → passed_as r ≡ pass_of v previous (records_on sheet)
      unfolding pass_of first_bad
      pass_bad e is (Ok f) same = absurd same
      pass_bad e is (Err f) same =
          rw (same, cut, bad_append g.behind (b ∷ records_on after), g.none_bad, sym is, refusal_some e, refusal_some e)

pub ruleset pass_laws = (going_none, going_next)
