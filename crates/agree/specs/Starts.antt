-- The start numbers of a view as they are laid out, office by office.
use Rattle.std.specs.Prelude.{ℕ, max, ltb, get_or, set}
use Rattle.laws.specs.Fin.{largest}
use Rattle.laws.specs.Tab.{tab}
use Rattle.laws.specs.Upd.{ifb}
use Rattle.rules.specs.State.{State}
use Rattle.rules.specs.Rules.{start_of}
use Rattle.agree.specs.declared.new_view.Laid.{Laid}

-- one office more: its number copied, and the largest of those copied so far
abbrev pub lay_of : Laid → ℕ → ℕ → Laid
lay_of a o n = record { starts = set a.starts o n; largest = max n a.largest }

-- the start numbers of the offices below n copied, 0 for the others; and the largest of those copied so far, 0 before
-- the first
unfoldable pub laid_of : ℕ → State → Laid
laid_of n s =
    let starts = tab 16 (λ o. ifb (ltb o n) (start_of s o) 0) in
    record { starts = starts; largest = largest n (λ o. get_or starts o 0) }
