-- Every event keeps what its parts keep.
use mathlib.Core.Path.{◌≡◌, ◌∙◌}
use mathlib.Core.List.{List}
use Prim.Native.Nat.{ℕ, ◌+◌, ◌≤◌, ◌<◌}
use native.Mathlib.Omega.{arith}
use Rattle.laws.proofs.Upd.{upd_same}
use Rattle.seats.specs.Offices.{serves}
use Rattle.records.specs.declared.Proposal.{Proposal}
use Rattle.rules.specs.State.{Mode, Fast, Slow, slow}
use Rattle.runs.specs.World.{Item, Underway, without}
use Rattle.runs.proofs.Arrays.{Numbers, restart, TakesUp, takes_nothing, takes_front, Offices, Arrives, Proposes}
use Rattle.runs.proofs.Arrays.{renet, propose, receive, conclude, relink}
use Rattle.runs.proofs.Arrays.{SlowTest, not_called, called, AgreementTest, not_agreed, agreed, Tests, both}
use Rattle.runs.proofs.Numbers.{numbers_renet, numbers_relink, numbers_receive, numbers_propose, numbers_conclude}
use Rattle.runs.proofs.Numbers.{numbers_restart}
use Rattle.settling.specs.Statement.{OfA}
use Rattle.settling.proofs.Invariants.{Done, NoLast, Core, Proposing, Reported, Concluding, Losing, HappensFairly}
use Rattle.settling.proofs.Invariants.{fair_idle, fair_loss, fair_cut, fair_leave, fair_report, fair_store, fair_answer}
use Rattle.settling.proofs.LastProposal.{book_later, renet_book, relink_book, receive_book, propose_book, conclude_book}
use Rattle.settling.proofs.Rounds.{rounds_later, renet_rounds, relink_rounds, receive_rounds, propose_rounds}
use Rattle.settling.proofs.Rounds.{conclude_rounds}

module _ (A : ℕ) (last : ℕ → ℕ) where
  pub core_later : {t : ℕ} {g : Offices} → NoLast A last t → Core A last t g → Core A last (t + 1) g
  core_later n h = record {
    numbers = h.numbers;
    book = book_later A last n h.book;
    rounds = rounds_later A last n h.rounds;
  }

  module _ {s : ℕ} {g : Offices} (h : Core A last s g) where
    pub core_renet : (me x : ℕ) → s ≤ last me → Core A last s (renet g me x)
    core_renet me x e =
        record {
          numbers = numbers_renet (serves A) g me x h.numbers;
          book = renet_book A last s g me x h e;
          rounds = renet_rounds A last s g me x h;
        }

    pub core_propose : {me : ℕ} {m : Mode} {p : Proposal} {t : ℕ} → Proposing A last g me m p t
        → ((i : ℕ) → OfA A i → (i ≡ me → ⊥) → last i < t + 1 → last i < s) → Core A last (t + 1) (propose g me m p t)
    core_propose {me} {m} {p} {t} k b =
        record {
          numbers = numbers_propose (serves A) g me m p t h.numbers k.at_office k.makes;
          book = propose_book A last s g me m p t h k b;
          rounds = propose_rounds A last s g me m p t h k b;
        }

    pub core_receive : {me i : ℕ} {p : Proposal} {l : List Item} → Arrives (serves A) g me i p l
        → Core A last s (receive g me i p l)
    core_receive {me} {i} {p} {l} k =
        record {
          numbers = numbers_receive (serves A) g me i p l h.numbers k;
          book = receive_book A last s g me i p l h k;
          rounds = receive_rounds A last s g me i p l h k;
        }

    pub core_relink : {i j place t : ℕ} → Losing A last g i j place t
        → Core A last s (relink g i j (without place (g.link i j)))
    core_relink {i} {j} {place} {t} k =
        record {
          numbers = numbers_relink (serves A) g i j place h.numbers;
          book = relink_book A last s g i j place t h k;
          rounds = relink_rounds A last s g i j place h;
        }

  pub core_conclude : (t : ℕ) {g : Offices} {me : ℕ} → Core A last (t + 1) g → Concluding A last g me
      → Core A last (t + 1) (conclude g me t)
  core_conclude t {g} {me} h k =
      record {
        numbers = numbers_conclude (serves A) g me t h.numbers k.all_agree;
        book = conclude_book A last (t + 1) g me t h k;
        rounds = conclude_rounds A last g me t h k;
      }

  -- the slow test makes a proposal after the last report, or with no hope of being it
  pub calling : {t me : ℕ} {g : Offices} {p : Proposal} → Core A last (t + 1) g → OfA A me → Proposes g me slow p
      → Proposing A last g me Slow p t
  calling {me = me} h o k =
      record {
        at_office = o;
        busy = λ e. let z : ◌≡◌ {A = ℕ} 0 1 = cc in
            omega arith;
        makes = k;
        is_a = λ e. h.book.net_a me (o, omega arith);
      }

  -- a report makes its proposal with the new net view
  pub core_report : {g : Offices} {me x t : ℕ} {p : Proposal} → Core A last t g → Reported A last g me x t p
      → Core A last (t + 1) (propose (renet g me x) me Fast p t)
  core_report {g} {me} {x} {t} {p} h r =
      core_propose (core_renet h me x r.open_yet) reporting
      (λ i o n l. let m : last i ≡ t → ⊥ = r.no_other i o n in omega arith)
    where
      reporting : Proposing A last (renet g me x) me Fast p t
      reporting =
          record {
            at_office = r.at_office;
            busy = λ e. let z : ◌≡◌ {A = ℕ} 0 1 = cc in omega arith;
            makes = r.makes;
            is_a = λ e. unfold renet in upd_same g.net me x ∙ r.is_a (let l = r.open_yet in omega arith);
          }

  pub core_slow_test : {t me : ℕ} {g h : Offices} → Core A last (t + 1) g → OfA A me → SlowTest t me g h
      → Core A last (t + 1) h
  core_slow_test c o (not_called s) = c
  core_slow_test c o (called p s k n) = core_propose c (calling c o k) (λ i a m l. l)

  core_agreement_test : {t me : ℕ} {g h : Offices} → Core A last (t + 1) g → OfA A me → AgreementTest t me g h
      → Core A last (t + 1) h
  core_agreement_test c o (not_agreed n) = c
  core_agreement_test {t} c o (agreed a) = core_conclude t c (record { at_office = o; all_agree = a })

  pub core_tests : {t me : ℕ} {g h : Offices} → Core A last (t + 1) g → OfA A me → Tests t me g h
      → Core A last (t + 1) h
  core_tests c o (both s a) = core_agreement_test (core_slow_test c o s) o a

  -- where no last report has come, only the numbers are to be kept
  pub core_none : (t : ℕ) (g : Offices) → Numbers (serves A) g → ((i : ℕ) → Done A last t i → ⊥) → Core A last t g
  core_none t g n never = record {
    numbers = n;
    book = record {
      net_a = λ i d. absurd (never i d);
      made_a = λ i d. absurd (never i d);
      made_num = λ i d. absurd (never i d);
      made_kind = λ i d. absurd (never i d);
      place = λ i j d b n. absurd (never i d);
      made_used = λ i j d b n. absurd (never i d);
    };
    rounds = record {
      own_stored = λ i d m. absurd (never i d);
      own_kind = λ i d m. absurd (never i d);
      own_used = λ i j d b n m. absurd (never i d);
      viewed = λ i d m. absurd (never i d);
      viewed_own = λ i d m. absurd (never i d);
      counts = λ i j d e n m u. absurd (never i d);
      slow_used = λ i j d b n m k. absurd (never i d);
      not_behind = λ i j d b n k u. absurd (never i d);
      tells_above = λ i j d b n k. absurd (never i d);
    };
  }

  -- a cut
  numbers_taken : {me : ℕ} {b : Underway} {g h : Offices} → Numbers (serves A) g → TakesUp (serves A) me b g h
      → Numbers (serves A) h
  numbers_taken n takes_nothing = n
  numbers_taken {me = me} {g = g} n (takes_front {i = i} f) = numbers_relink (serves A) g i me 0 n

  pub none_done : {t : ℕ} → ((i : ℕ) → OfA A i → t < last i) → (i : ℕ) → Done A last (t + 1) i → ⊥
  none_done f i d = let l = f i d.0 in let m = d.1 in omega arith

  pub core_acts : {t n : ℕ} {g h : Offices} → Core A last t g → HappensFairly A last t n g h → Core A last (t + 1) h
  core_acts c (fair_idle n) = core_later n c
  core_acts c (fair_loss i j place n k) = core_later n (core_relink c k)
  core_acts {t} c (fair_cut {h = h} me m ws o f u r) =
      core_none (t + 1) (restart h me m ws t)
      (numbers_restart (serves A) h me m ws t (numbers_taken c.numbers u) o r) (none_done f)
  core_acts c (fair_leave me x n o e) = core_later n (core_renet c me x e)
  core_acts c (fair_report me x p r s) = core_tests (core_report c r) r.at_office s
  core_acts c (fair_store me i p l n k d) = core_later n (core_receive c k)
  core_acts c (fair_answer me i p l n k e s) = core_tests (core_later n (core_receive c k)) k.at_office s
