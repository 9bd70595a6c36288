use mathlib.Core.Path.{◌≡◌, ap, ◌∙◌}
use Prim.Native.Nat.{ℕ}
use Rattle.records.proofs.CheckLaws.{length_is}
use Rattle.records.proofs.RunLaws.{size_fitting, size_le, form_size}
use Rattle.records.specs.Run.{run_size, fitting}
use Rattle.records.proofs.run.run_size.Goals as goal

pub returns-in-Some : goal.returns-in-Some
returns-in-Some c =
    let b = c.args.run.now in
    let n = length_is b _ c.in-Some.ensures _ c.length.ensures in
    let e : c.fitting.result ≡ run_size b = c.fitting.ensures ∙ ap (λ (m : ℕ). fitting m b) n ∙ size_fitting b in
    (e, rw e (size_le b))

pub returns-in-None : goal.returns-in-None
returns-in-None c = form_size _ c.in-None.ensures
