use mathlib.Core.Path.{refl, ap, ◌∙◌}
use mathlib.Core.List.{List}
use Prim.Native.Nat.{ℕ, ◌+◌, ◌-◌}
use lib.ListN.{length}
use borrow.Rule.Slice.PartMut.{put_mid}
use Rattle.laws.proofs.Cuts.{put_part}
use Rattle.row.proofs.stores.put_run.Goals as goal

pub returns : goal.returns
returns c =
    let a = c.args in
    ap (λ (l : List ℕ). put_mid a.at (a.at + length a.w.now - a.at) a.s.now l) c.copy_from_slice.ensures.after
    ∙ put_part a.at (length a.w.now) a.s.now a.w.now refl c.requires
