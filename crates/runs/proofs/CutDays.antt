-- Cuts, computed: what one leaves of an office's state, its links and its log; how a list with files is one without;
-- what leaves one office with its file. And the numbers at which no office may begin again.
use mathlib.Core.Path.{◌≡◌, refl}
use mathlib.Core.Bool.{true}
use mathlib.Core.List.{List, [], ◌∷◌, ◌++◌}
use Prim.Native.Nat.{ℕ}
use native.Mathlib.Omega.{arith}
use lib.ListN.{length}
use Rattle.laws.specs.Lists.{runs, pieces, more}
use Rattle.laws.proofs.Lists.{◌then◌}
use Rattle.records.specs.Layout.{encode_high, decode_high}
use Rattle.records.specs.declared.Report.{Report}
use Rattle.rules.specs.MarkFile.{last_in, last_high, all_high, is_high, may_follow, good_file, high_bytes}
use Rattle.rules.specs.Rules.{fresh}
use Rattle.rules.specs.Leaving.{puts_all, actions_from, file_after, left_in}
use Rattle.rules.specs.Refusals.{full_room, a_report, restart_checks, restart_of}
use Rattle.rules.specs.Days.{given}
use Rattle.runs.specs.Office.{Input, answer_to, entire, broken, TurnsAbove, a_turn, of_proposal, of_notice, picked}
use Rattle.runs.specs.World.{views_in, World, at_first, Underway, nothing_begun, begun_report, begun_delivery}
use Rattle.runs.specs.World.{report, cut, answered, with_link, report_answer, proposal_answer, begun_writes, taken_up}
use Rattle.runs.specs.World.{cut_answer, next, run, net_by}
use Rattle.runs.specs.Begins.{CutAbove}
use Rattle.runs.specs.Files.{FileTurn, acts, cut_after, done, restart_after, next_kept, fresh_kept, kept_after}
use Rattle.runs.specs.Files.{left_kept, cuts, done_at, next_filed, plainly, filed_first}
use Rattle.runs.specs.Plays.{report_of}

abbrev joins : ℕ → Report
joins x = report_of x 0

-- offices 0 and 1 have been told of the seats 0 and 4: the proposal of each is on its way
abbrev first : World
first = at_first fresh (λ i j. [])

abbrev told : World
told = run first (report 0 (joins 0b10001) full_room ∷ report 1 (joins 0b10001) full_room ∷ [])

-- of office 0: proposal, start and view number, the net view; the proposals on the links to office 1 and from it; the
-- records that left, and the views among them
abbrev seen : World → List ℕ
seen w =
    (w.state 0).number ∷ (w.state 0).start ∷ (w.state 0).view.number ∷ (w.state 0).net.bits ∷ length (w.link 0 1)
    ∷ length (w.link 1 0) ∷ length (w.log 0) ∷ length (views_in (w.log 0)) ∷ []

abbrev cut_off : Underway → ℕ → List ℕ
cut_off b left = seen (next told (cut 0 b left 7))

-- no cut; nothing begun; office 1's proposal taken up and no record left, and with the view left; seat 8 joins and the
-- notice alone has left, and with the proposal
pub cut_off_lem :
    seen told ∷ cut_off nothing_begun 0 ∷ cut_off (begun_delivery 1 full_room) 0
    ∷ cut_off (begun_delivery 1 full_room) 1
    ∷ cut_off (begun_report (joins 0b100000000) full_room) 1
    ∷ cut_off (begun_report (joins 0b100000000) full_room) 2 ∷ []
    ≡ (1 ∷ 1 ∷ 0 ∷ 17 ∷ 1 ∷ 1 ∷ 2 ∷ 0 ∷ []) ∷ (7 ∷ 7 ∷ 7 ∷ 0 ∷ 1 ∷ 1 ∷ 2 ∷ 0 ∷ [])
    ∷ (7 ∷ 7 ∷ 7 ∷ 0 ∷ 1 ∷ 0 ∷ 2 ∷ 0 ∷ []) ∷ (7 ∷ 7 ∷ 7 ∷ 0 ∷ 1 ∷ 0 ∷ 3 ∷ 1 ∷ [])
    ∷ (7 ∷ 7 ∷ 7 ∷ 0 ∷ 1 ∷ 1 ∷ 3 ∷ 0 ∷ []) ∷ (7 ∷ 7 ∷ 7 ∷ 0 ∷ 2 ∷ 1 ∷ 4 ∷ 0 ∷ []) ∷ []
unfolding given at_first answered with_link report_answer proposal_answer begun_writes taken_up cut_answer next runs
cut_off_lem = refl then refl then refl then refl then refl then refl then refl

-- the net views of offices 0 and 1, where office 0 is told and cut off
pub net_gone :
    net_by told (cut 0 nothing_begun 0 7 ∷ []) 0 17 ∷ net_by told (cut 0 nothing_begun 0 7 ∷ []) 1 17 ∷ [] ≡ 0 ∷ 17 ∷ []
unfolding net_by
net_gone = refl

-- with an empty file, cut off four times in a report: after nine bytes of the mark, when it is whole, when the notice
-- has left, when the proposal has
abbrev begun : Underway
begun = begun_report (joins 0b10001) full_room

pub with_file :
    plainly (filed_first fresh (λ i j. []) (λ i. []))
    (cuts 0 begun 9 ∷ cuts 0 begun 10 ∷ cuts 0 begun 11 ∷ cuts 0 begun 12 ∷ [])
    ≡ cut 0 begun 0 0 ∷ cut 0 begun 0 1_000_001 ∷ cut 0 begun 1 2_000_002 ∷ cut 0 begun 2 3_000_003 ∷ []
unfolding given at_first answered with_link report_answer proposal_answer begun_writes taken_up cut_answer next plainly
    next_filed done_at actions_from puts_all file_after left_in high_bytes encode_high decode_high pieces last_in
    last_high
with_file = refl

-- the same of one office, which acts to the end at last: the start numbers and proposal numbers that left, the file
abbrev told_again : Input
told_again = record { office = 0; event = a_report (joins 0b10001); room = full_room }

abbrev turns : List FileTurn
turns = cut_after told_again 9 ∷ cut_after told_again 11 ∷ cut_after told_again 12 ∷ acts told_again ∷ []

pub left_kept_lem :
    picked of_notice (left_kept (fresh_kept 0) turns) ∷ picked of_proposal (left_kept (fresh_kept 0) turns)
    ∷ (kept_after (fresh_kept 0) turns).file ∷ []
    ≡ (1 ∷ 1_000_002 ∷ 2_000_003 ∷ []) ∷ (1_000_002 ∷ 2_000_003 ∷ [])
    ∷ (high_bytes 1_000_001 ++ high_bytes 2_000_002 ++ high_bytes 3_000_003) ∷ []
unfolding given answer_to done restart_after restart_of restart_checks next_kept left_kept picked runs actions_from
    puts_all file_after left_in good_file all_high is_high may_follow high_bytes encode_high decode_high pieces last_in
    last_high
left_kept_lem = refl then refl then refl then refl

-- below a number that left, and above L, no office begins again
pub not_below : TurnsAbove (fresh 0) [] (entire told_again ∷ broken told_again 0 0 ∷ []) → ⊥
unfolding given answer_to
not_below (a_turn u (a_turn (more h hs, l) r)) = absurd (omega arith)

pub not_above_lem : CutAbove (λ i. true) first (cut 0 nothing_begun 0 2_000_000_001) → ⊥
not_above_lem h = let l = (h (omega arith, refl)).1 in omega arith
