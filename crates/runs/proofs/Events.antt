-- Every event of the world is one of the arrays.
use mathlib.Core.Path.{◌≡◌, refl, ap, ◌∙◌}
use mathlib.Core.Bool.{Bool}
use mathlib.Core.Logic.{◌⊎◌, inl, inr}
use mathlib.Core.List.{List, [], ◌∷◌}
use Prim.Native.Nat.{ℕ, ◌<◌}
use Rattle.rules.specs.Refusals.{a_report, a_proposal}
use Rattle.records.specs.declared.Report.{Report}
use Rattle.runs.specs.World.{Item, World, WorldEvent, report, cut, delivery, loss, answered, with_link, idle}
use Rattle.runs.specs.World.{without, delivered, report_answer, proposal_answer, next, Among}
use Rattle.runs.specs.Begins.{InF, CutAbove}
use Rattle.runs.proofs.Arrays.{Offices, relink, FromF, Numbers, Happens, idles, loses, drops}
use Rattle.runs.proofs.Links.{every_without}
use Rattle.laws.proofs.Grid.{upd2_agree}
use Rattle.runs.proofs.Proposals.{each_map, step_names}
use Rattle.runs.proofs.WorldArrays.{SeenAll, Linked, seen_linked, seen_idle, seen_outside, below_sixteen}
use Rattle.runs.proofs.Reporting.{report_acts}
use Rattle.runs.proofs.Cutting.{in_f?, cut_inside, cut_outside}
use Rattle.runs.proofs.Delivering.{outside_link, taken_outside, taken_from, delivery_acts}

module _ (F : ℕ → Bool) where
  abbrev Acted : World → Offices → WorldEvent → World → Type 0
  Acted w g e v = (h : Offices) × Happens F w e g h × SeenAll F v h

  -- a loss
  loss_acts : (w : World) (g : Offices) (i j place : ℕ) → SeenAll F w g → Among (loss i j place)
      → Acted w g (loss i j place) (idle (with_link w i j (without place (w.link i j))))
  unfolding with_link relink
  loss_acts w g i j place seen among = go (in_f? F i among.0)
    where
      rest : List Item
      rest = without place (w.link i j)

      lost : FromF F i j → Linked F w g (relink g i j (without place (g.link i j))) 16 i j rest
      lost f = record {
        kept = λ a n. record { num = refl; mode = refl; net = refl; stored = refl; acc = refl; used = refl };
        same_shown = refl;
        same_top = refl;
        links = λ c d p. upd2_agree w.link g.link i j rest (without place (g.link i j)) c d
            (ap (without place) (seen.links i j f)) (seen.links c d p);
        part = λ P h. every_without place (w.link i j) h;
      }

      outside : (InF F i → ⊥) → Linked F w g g 16 i j rest
      outside out = record {
        kept = λ a n. record { num = refl; mode = refl; net = refl; stored = refl; acc = refl; used = refl };
        same_shown = refl;
        same_top = refl;
        links = outside_link F w g i j rest seen out;
        part = λ P h. every_without place (w.link i j) h;
      }

      go : InF F i ⊎ (InF F i → ⊥) → Acted w g (loss i j place) (idle (with_link w i j rest))
      go (inl a) =
          let f : FromF F i j = (a, among.1, among.2) in
          let h = relink g i j (without place (g.link i j)) in
          (h, loses f, seen_idle F (with_link w i j rest) h (seen_linked F w g h 16 i j rest seen (lost f)))
      go (inr out) = (
        g,
        idles {e = loss i j place} out,
        seen_idle F (with_link w i j rest) g (seen_linked F w g g 16 i j rest seen (outside out)),
      )

  -- a report to an office that is not of F
  report_outside : (w : World) (g : Offices) (o : ℕ) (rep : Report) (room : ℕ) → SeenAll F w g → (InF F o → ⊥) → o < 16
      → SeenAll F (answered w o (report_answer w o rep room)) g
  unfolding report_answer
  report_outside w g o rep room seen out lt =
      let n = step_names o (w.state o) (a_report rep) room in
      let own : (w.state o).own ≡ o = seen.owns o lt (below_sixteen F lt) in
      seen_outside F w g o _ seen lt out (n.0 ∙ own) (each_map (λ p e. e ∙ own) n.1)

  -- a delivery to an office that is not of F
  delivery_outside : (w : World) (g : Offices) (i j room : ℕ) (x : Item) (l : List Item) → SeenAll F w g
      → (InF F j → ⊥) → w.link i j ≡ x ∷ l
      → Among (delivery i j room)
      → Acted w g (delivery i j room) (answered (with_link w i j l) j (proposal_answer w j x.proposal room))
  unfolding proposal_answer with_link
  delivery_outside w g i j room x l seen out front among = go (in_f? F i among.0)
    where
      ends : (h : Offices) → Linked F w g h 16 i j l
          → SeenAll F (answered (with_link w i j l) j (proposal_answer w j x.proposal room)) h
      ends h k =
          let n = step_names j (w.state j) (a_proposal x.proposal) room in
          let own : (w.state j).own ≡ j = seen.owns j among.1 (below_sixteen F among.1) in
          seen_outside F (with_link w i j l) h j _ (seen_linked F w g h 16 i j l seen k) among.1 out (n.0 ∙ own)
          (each_map (λ p e. e ∙ own) n.1)

      go : InF F i ⊎ (InF F i → ⊥)
          → Acted w g (delivery i j room) (answered (with_link w i j l) j (proposal_answer w j x.proposal room))
      go (inl a) =
          let f : FromF F i j = (a, among.1, among.2) in
          let h = relink g i j (without 0 (g.link i j)) in
          (h, drops f (λ b. absurd (out b)), ends h (taken_from F w g i j x l seen front 16 f))
      go (inr b) = (
        g,
        idles {e = delivery i j room} (λ a c. absurd (out c)),
        ends g (taken_outside F w g i j x l seen front 16 b),
      )

  -- every event
  pub world_acts : (w : World) (g : Offices) (e : WorldEvent) → SeenAll F w g → Numbers F g → Among e → CutAbove F w e
      → Acted w g e (next w e)
  unfolding next
  world_acts w g (cut o b left m) s c a above = go (in_f? F o a.0)
    where
      go : InF F o ⊎ (InF F o → ⊥) → Acted w g (cut o b left m) (next w (cut o b left m))
      go (inl q) = let x = above q in cut_inside F w g o left m s c q x.1 b a x.0
      go (inr n) = cut_outside F w g o left m s n b a
  world_acts w g (report o rep room) s c m above = go (in_f? F o m.0)
    where
      go : InF F o ⊎ (InF F o → ⊥) → Acted w g (report o rep room) (answered w o (report_answer w o rep room))
      go (inl q) = report_acts F w g o rep room s c q m
      go (inr n) = (g, idles {e = report o rep room} n, report_outside w g o rep room s n m.0)
  world_acts w g (loss i j place) s c m above = loss_acts w g i j place s m
  world_acts w g (delivery i j room) s c m above = go (w.link i j) refl (in_f? F j m.1)
    where
      go : (l : List Item) → w.link i j ≡ l → InF F j ⊎ (InF F j → ⊥)
          → Acted w g (delivery i j room) (delivered w i j room l)
      go [] e b = (g, idles {e = delivery i j room} (λ a c. e), seen_idle F w g s)
      go (x ∷ l) e (inl q) = delivery_acts F w g i j room x l s c q e m
      go (x ∷ l) e (inr n) = delivery_outside w g i j room x l s n e m
