use mathlib.Core.Path.{◌≡◌, refl, ap, ◌∙◌}
use mathlib.Core.List.{List, ◌∷◌}
use Prim.Native.Nat.{ℕ}
use lib.ListN.{length, length-set}
use lib.Seq.{sets}
use native.Mathlib.Omega.{arith}
use Rattle.rules.specs.State.{with_view}
use Rattle.row.specs.Row.{view_place}
use Rattle.row.specs.Changes.{Changed}
use Rattle.row.proofs.StoreLaws.{view_changed}
use Rattle.row.proofs.OwnKept.{own_kept, changed_to}
use borrow.Author.Rules.{rules}
use Rattle.row.proofs.lent.RowMut.put_view.Goals.{Start, After-put_run}
use Rattle.row.proofs.lent.RowMut.put_view.Goals as goal

starts_len : (c : Start) → length c.args.v.starts ≡ 16
starts_len c = search rules

changed : (c : After-put_run) → length c.args.v.starts ≡ 16
    → Changed (with_view c.args.v) c.args.self.now.words.now c.put_run.new.s
changed c n =
    let v = c.args.v in
    changed_to (view_changed _ v c.args.self.now.is n)
    (c.put_run.ensures ∙ ap (λ (l : List ℕ). sets l view_place (v.number ∷ v.starts)) c.put_set.ensures)

pub invariant_of-self : goal.invariant_of-self
invariant_of-self c =
    let x = changed (goal.at.invariant_of-self c).After-put_run (starts_len (goal.at.invariant_of-self c).Start) in
    record { is = x.row; office = own_kept x refl c.args.self.now.office }

pub returns : goal.returns
returns c = record {
  same = refl;
  changed = changed (goal.at.returns c).After-put_run (starts_len (goal.at.returns c).Start);
}
