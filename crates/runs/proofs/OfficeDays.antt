-- Days A, B and C of document 01 as a run of office 0: it sends two views, and what each counted for offices 0 and 1.
use mathlib.Core.Path.{refl}
use mathlib.Core.List.Memᴰ
use mathlib.Core.List.{List, [], ◌∷◌}
use Prim.Native.Nat.{ℕ}
use native.Mathlib.Omega.{arith}
use Rattle.laws.specs.Lists.{runs}
use Rattle.laws.specs.Tab.{tab}
use Rattle.records.specs.declared.Proposal.{Proposal}
use Rattle.records.specs.declared.View.{View}
use Rattle.rules.specs.State.{fast, zeros}
use Rattle.rules.specs.Rules.{fresh}
use Rattle.rules.specs.Refusals.{full_room, a_report, a_proposal}
use Rattle.rules.specs.Days.{given}
use Rattle.runs.specs.Office.{Input, answer_to, LogEntry, state_after, log_of, Before, at_once, tested_in, CountedAt}

abbrev joins : ℕ → Input
joins x = record {
  office = 0;
  event = a_report (record { joining = record { bits = x }; leaving = record { bits = 0 } });
  room = full_room;
}

-- sixteen numbers, those of offices 0 and 1 first
abbrev two : ℕ → ℕ → List ℕ
two a b = a ∷ b ∷ tab 14 (λ o. 0)

abbrev made : ℕ → ℕ → ℕ → ℕ → List ℕ → Proposal
made sender members start number used =
    record {
      sender = sender;
      kind = fast;
      members = record { bits = members };
      start = start;
      number = number;
      used = used;
    }

-- what is handed in: the seats 0 and 4 join, and the proposal of office 1 arrives
abbrev from_office1 : Input
from_office1 = record { office = 0; event = a_proposal (made 1 0b10001 1 1 zeros); room = full_room }

abbrev three_days : List Input
three_days = joins 0b1 ∷ joins 0b10000 ∷ from_office1 ∷ []

abbrev day_a : LogEntry
day_a = record { before = fresh 0; handed = joins 0b1 }

abbrev day_c : LogEntry
day_c = record { before = state_after (fresh 0) (joins 0b1 ∷ joins 0b10000 ∷ []); handed = from_office1 }

abbrev view_a : View
view_a = record { number = 2; members = record { bits = 0b1 }; starts = two 1 0 }

abbrev view_c : View
view_c = record { number = 3; members = record { bits = 0b10001 }; starts = two 2 1 }

pub days_count : Before day_a day_c (log_of (fresh 0) three_days) × CountedAt day_a 0 (made 0 0b1 1 1 zeros)
    × CountedAt day_c 0 (made 0 0b10001 2 2 (two 1 0)) × CountedAt day_c 1 (made 1 0b10001 1 1 zeros)
unfolding given runs answer_to log_of tested_in
days_count = (
  at_once refl (Memᴰ.tail (Memᴰ.head refl)),
  record {
    seen = view_a;
    sent = Memᴰ.tail (Memᴰ.head refl);
    office = omega arith;
    member = refl;
    stored = refl;
  },
  record { seen = view_c; sent = Memᴰ.head refl; office = omega arith; member = refl; stored = refl },
  record { seen = view_c; sent = Memᴰ.head refl; office = omega arith; member = refl; stored = refl },
)
