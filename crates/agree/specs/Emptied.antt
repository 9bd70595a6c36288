-- The end of a round at the first offices.
use Rattle.std.specs.Prelude.{Bool, ◌&&◌, ℕ, ltb}
use Rattle.laws.specs.Tab.{tab}
use Rattle.laws.specs.Upd.{ifb}
use Rattle.seats.specs.Offices.{serves}
use Rattle.rules.specs.State.{State, nothing, stored_at, used_at, number_in}
use Rattle.rules.specs.State.{with_stored, with_used}

-- the used number of office o becomes its proposal's number, and its stored proposal becomes nothing
abbrev pub emptying : ℕ → State → State
emptying o s = with_stored o nothing (with_used o (number_in (stored_at s o)) s)

-- of the net view's offices, those below n
abbrev pub among : ℕ → State → ℕ → Bool
among n s o = ltb o n && serves s.net.bits o

unfoldable pub emptied : ℕ → State → State
emptied n s =
    record {
      own = s.own;
      mode = s.mode;
      net = s.net;
      stored = tab 16 (λ o. ifb (among n s o) nothing (stored_at s o));
      accepted = s.accepted;
      view = s.view;
      start = s.start;
      number = s.number;
      used = tab 16 (λ o. ifb (among n s o) (number_in (stored_at s o)) (used_at s o));
    }
