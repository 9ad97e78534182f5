-- The two regions the other way round: what is in both stays, and what is in F only and in G only change places.
use mathlib.Core.Path.{◌≡◌, refl, ap, ap₂, ◌∙◌}
use mathlib.Core.Logic.{⊎_elim}
use mathlib.Core.Bool.{Bool, true, false, not, ◌&&◌}
use mathlib.Core.List.{List}
use Rattle.whole.proofs.Logic.{Sorted}
use Rattle.whole.proofs.Sorted.{Among, sorted_unique}
use Rattle.plane.specs.declared.Segment.{Segment}
use Rattle.plane.proofs.Accepted.{AllOrdered}
use Rattle.plane.proofs.Order.{LeftBefore}
use Rattle.flags.specs.Flags.{Edge, outline}
use Rattle.overlap.specs.Bytes.{merge, adjoins}
use Rattle.overlap.proofs.Members.{merge_in, in_merge_f, in_merge_g}
use Rattle.whole.specs.Count.{total}
use Rattle.plane.specs.Shoelace.{shoelace, weighed}
use Rattle.areas.specs.Parts.{Part, in_both, in_f_only, in_g_only, belongs, share, part_area}
use Rattle.whole.proofs.Totals.{total_same}
use Rattle.areas.proofs.Own.{one_way}

abbrev pub exchanged : Part → Part
exchanged in_both = in_both
exchanged in_f_only = in_g_only
exchanged in_g_only = in_f_only

and_swap : (a b : Bool) → a && b ≡ b && a
and_swap false false = refl
and_swap false true = refl
and_swap true false = refl
and_swap true true = refl

belongs_exchanged : (p : Part) (f g : Bool) → belongs p f g ≡ belongs (exchanged p) g f
belongs_exchanged in_both f g = and_swap f g
belongs_exchanged in_f_only f g = and_swap f (not g)
belongs_exchanged in_g_only f g = and_swap (not f) g

module _ (F G : List Edge) where
  pub share_exchanged : (p : Part) (t : Segment) → share F G p t ≡ share G F (exchanged p) t
  share_exchanged p t =
      ap₂ (λ x y. weighed x y (shoelace t)) (belongs_exchanged p (adjoins true F t) (adjoins true G t)) (belongs_exchanged p (adjoins false F t) (adjoins false G t))

-- the different segments of the two, in order, are the same
among : (f g : List Segment) → Among (merge f g) (merge g f)
among f g t m = ⊎_elim (in_merge_g g f) (in_merge_f g f) (merge_in f g m)

module _ (F G : List Edge) (o : AllOrdered (outline F)) (p : AllOrdered (outline G)) (r : Sorted LeftBefore (merge (outline F) (outline G))) (q : Sorted LeftBefore (merge (outline G) (outline F))) where
  merge_exchanged : merge (outline F) (outline G) ≡ merge (outline G) (outline F)
  merge_exchanged =
      sorted_unique LeftBefore (one_way (merge (outline F) (outline G)) (λ t m. ⊎_elim (o t) (p t) (merge_in (outline F) (outline G) m))) r q
      (among (outline F) (outline G)) (among (outline G) (outline F))

  pub area_exchanged : (part : Part) → part_area F G part ≡ part_area G F (exchanged part)
  unfolding part_area
  area_exchanged part =
      total_same (share F G part) (share G F (exchanged part)) (merge (outline F) (outline G)) (λ t m. share_exchanged F G part t)
      ∙ ap (total (share G F (exchanged part))) merge_exchanged
