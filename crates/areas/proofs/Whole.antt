-- "The first and second sum to F's shoelace area doubled, taken from F by itself; the first and third likewise to G's."
use Prim.Native.Nat.{ℕ}
use mathlib.Core.Path.{◌≡◌, ap₂, ◌∙◌}
use mathlib.Core.Bool.{Bool, true, false}
use mathlib.Core.List.{List}
use lib.IntN.{◌+ℤ◌}
use Rattle.whole.proofs.Logic.{Sorted}
use Rattle.plane.specs.declared.Segment.{Segment}
use Rattle.plane.specs.Plane.{interior_above}
use Rattle.plane.proofs.Accepted.{AllOrdered}
use Rattle.plane.proofs.Order.{LeftBefore}
use Rattle.flags.specs.Flags.{Edge, outline}
use Rattle.overlap.specs.Bytes.{merge, adjoins}
use Rattle.overlap.proofs.Adjoins.{Marked}
use Rattle.overlap.proofs.Members.{in_merge_f, in_merge_g}
use Rattle.scene.specs.declared.Scene.{Scene}
use Rattle.scene.specs.Conditions.{segments}
use Rattle.check_verdict.proofs.Laws.{all_ordered, segments_sorted}
use Rattle.flags.specs.Elements.{edges}
use Rattle.flags.proofs.Elements.{outline_edges}
use Rattle.overlap.proofs.Sorted.{segments_merged_sorted, segments_turned_sorted}
use Rattle.overlap.specs.Walked.{TwoRegions}
use Rattle.overlap.proofs.Classes.{marked}
use Rattle.plane.specs.Shoelace.{shoelace}
use Rattle.areas.specs.Parts.{Part, own_area, in_both, in_f_only, in_g_only, share, part_area}
use Rattle.whole.proofs.Totals.{total_add, total_same}
use Rattle.areas.proofs.Weighed.{weighed_parts}
use Rattle.areas.proofs.Own.{region_share, own_total}
use Rattle.areas.proofs.Exchanged.{share_exchanged, area_exchanged, exchanged}

module _ (F G : List Edge) where
  shares_f : (t : Segment) → share F G in_both t +ℤ share F G in_f_only t ≡ region_share F t
  shares_f t = weighed_parts (adjoins true F t) (adjoins false F t) (adjoins true G t) (adjoins false G t) (shoelace t)

module _ (F G : List Edge) where
  abbrev all : List Segment
  all = merge (outline F) (outline G)

  -- as for F, the two the other way round
  shares_g : (t : Segment) → share F G in_both t +ℤ share F G in_g_only t ≡ region_share G t
  shares_g t = ap₂ (λ x y. x +ℤ y) (share_exchanged F G in_both t) (share_exchanged F G in_g_only t) ∙ shares_f G F t

  module _ (sorted : Sorted LeftBefore all) where
    pub area_f : (a : Segment → Bool) → Marked F a → AllOrdered (outline F) → Sorted LeftBefore (outline F) → part_area F G in_both +ℤ part_area F G in_f_only ≡ own_area F
    unfolding part_area
    area_f a mark o r =
        total_add (share F G in_both) (share F G in_f_only) all
        ∙ total_same (λ t. share F G in_both t +ℤ share F G in_f_only t) (region_share F) all (λ t m. shares_f F G t)
        ∙ own_total F a mark all o r sorted (λ t m. in_merge_f (outline F) (outline G) m)

    pub area_g : (a : Segment → Bool) → Marked G a → AllOrdered (outline G) → Sorted LeftBefore (outline G) → part_area F G in_both +ℤ part_area F G in_g_only ≡ own_area G
    unfolding part_area
    area_g a mark o r =
        total_add (share F G in_both) (share F G in_g_only) all
        ∙ total_same (λ t. share F G in_both t +ℤ share F G in_g_only t) (region_share G) all (λ t m. shares_g t)
        ∙ own_total G a mark all o r sorted (λ t m. in_merge_g (outline F) (outline G) m)

-- of a scene of two regions that is taken
module _ {s : List ℕ} {sc : Scene} (good : TwoRegions s sc) where
  abbrev F : List Edge
  F = edges s sc.f

  abbrev G : List Edge
  G = edges s sc.g

  scene_sorted : Sorted LeftBefore (merge (outline F) (outline G))
  scene_sorted = rw (outline_edges s sc.f, outline_edges s sc.g) (segments_merged_sorted good.0)

  turned_sorted : Sorted LeftBefore (merge (outline G) (outline F))
  turned_sorted = rw (outline_edges s sc.f, outline_edges s sc.g) (segments_turned_sorted good.0)

  pub area_of_f : part_area F G in_both +ℤ part_area F G in_f_only ≡ own_area F
  area_of_f =
      area_f F G scene_sorted (interior_above (segments s sc.f)) (marked good.0.f_sound good.1) (rw (outline_edges s sc.f) (all_ordered good.0.f_sound)) (rw (outline_edges s sc.f) (segments_sorted good.0.f_sound))

  pub area_of_g : part_area F G in_both +ℤ part_area F G in_g_only ≡ own_area G
  area_of_g =
      area_g F G scene_sorted (interior_above (segments s sc.g)) (marked good.0.g_sound good.2) (rw (outline_edges s sc.g) (all_ordered good.0.g_sound)) (rw (outline_edges s sc.g) (segments_sorted good.0.g_sound))

  -- asked the other way round
  pub areas_exchanged : (p : Part) → part_area F G p ≡ part_area G F (exchanged p)
  areas_exchanged =
      area_exchanged F G (rw (outline_edges s sc.f) (all_ordered good.0.f_sound)) (rw (outline_edges s sc.g) (all_ordered good.0.g_sound)) scene_sorted turned_sorted
