-- 3, 3: the flags of two regions by their classes, and (of F) by the points where both have ends.
use Prim.Native.Nat.{ℕ}
use mathlib.Core.Path.{◌≡◌, refl, sym, ap, ap₂, ◌∙◌}
use mathlib.Core.Bool.{Bool, true, false, not, ◌&&◌, ◌||◌, or-false}
use mathlib.Core.List.{List, [], ◌∷◌}
use lib.Dec.{eqb, ltb}
use Rattle.whole.specs.Count.{some}
use Rattle.plane.specs.declared.Segment.{Segment}
use Rattle.plane.specs.Plane.{midpoint, is_on_some, inside}
use Rattle.plane.proofs.Accepted.{Across}
use Rattle.scene.specs.declared.Shape.TheVariants.{Region}
use Rattle.scene.specs.declared.Layout.{Layout}
use Rattle.scene.specs.declared.Scene.{Scene}
use Rattle.scene.specs.Conditions.{has_segments, is_region, half, ia, segments}
use Rattle.sweep_laws.specs.Noted.{Noted}
use Rattle.check_verdict.proofs.Laws.{SoundObject, SoundScene, across}
use Rattle.flags.specs.Flags.{Edge, region, joins, has_some_end, mid_inside, mid_outside, class02, class20, class11, bound_poi_shared, flags_of_f, flags_of_g}
use Rattle.flags.specs.Elements.{edges, has_edge}
use Rattle.flags.proofs.Elements.{outline_edges, some_edges, both_above_lem, both_below, opposite}
use Rattle.cells_matrix.proofs.Common.{across_swap}
use Rattle.scene_keys.specs.Keyed.{element_point}
use Rattle.flags_meetings.specs.Met.{degree, meetings}
use Rattle.flags_classes.specs.Classed.{is_shared, some_left, classes_of_f, classes_of_g}
use Rattle.flags_table.specs.Table.{flags_of_f_by, flags_of_g_by}
use Rattle.flags_table.proofs.Ends.{own_degree, end_elements, joins_degree}
use Rattle.flags_table.proofs.Noting.{Knows, knows_f, knows_g, middle_on, middle_inside, middle_outside}
use Rattle.flags_table.proofs.Meeting.{meets}
use Rattle.flags_table.proofs.Classing.{lefts_on}

module _ {s : List ℕ} {own other : Layout} (is : SoundObject s own) (are : SoundObject s other) (has : has_segments own.shape ≡ true) (region-other : is_region other.shape ≡ true)
    (apart : Across (segments s own) (segments s other)) {note : ℕ → ℕ} (knows : Knows s own other note) where
  -- (0/1) and (1/0), (1/2) and (2/1): with the interior on the side that is asked for
  outside_on : (side : Bool → Bool)
      → some (λ (f : Edge). side f.ia && mid_outside (edges s other) f) (edges s own) ≡ some_left s own (λ i. side (ia s own i) && (not (is_shared s own other i) && eqb (note i) 0))
  outside_on side =
      some_edges s own (λ (f : Edge). side f.ia && mid_outside (edges s other) f)
      ∙ lefts_on s own _ (λ i. side (ia s own i) && (not (is_shared s own other i) && eqb (note i) 0))
      (λ i h. ap (λ b. side (ia s own i) && b)
      (ap (λ l. not (is_on_some l (midpoint (half s own i).segment)) && not (inside l (midpoint (half s own i).segment))) (outline_edges s other)
      ∙ ap (λ b. not b && not (inside (segments s other) (midpoint (half s own i).segment))) (middle_on is are has region-other apart knows i h) ∙ middle_outside is are has region-other apart knows i h))

  inside_on : (side : Bool → Bool)
      → some (λ (f : Edge). side f.ia && mid_inside (edges s other) f) (edges s own) ≡ some_left s own (λ i. side (ia s own i) && (not (is_shared s own other i) && not (eqb (note i) 0)))
  inside_on side =
      some_edges s own (λ (f : Edge). side f.ia && mid_inside (edges s other) f)
      ∙ lefts_on s own _ (λ i. side (ia s own i) && (not (is_shared s own other i) && not (eqb (note i) 0)))
      (λ i h. ap (λ b. side (ia s own i) && b) (ap (λ l. inside l (midpoint (half s own i).segment)) (outline_edges s other) ∙ middle_inside is are has region-other apart knows i h))

module _ {s : List ℕ} {sc : Scene} {notes : List ℕ} (o : SoundScene s sc) (n : Noted s sc notes) (f : sc.f.shape ≡ Region) (g : sc.g.shape ≡ Region) where
  abbrev F : List Edge
  F = edges s sc.f

  abbrev G : List Edge
  G = edges s sc.g

  has_f : has_segments sc.f.shape ≡ true
  has_f = ap has_segments f

  has_g : has_segments sc.g.shape ≡ true
  has_g = ap has_segments g

  is_f : is_region sc.f.shape ≡ true
  is_f = ap is_region f

  is_g : is_region sc.g.shape ≡ true
  is_g = ap is_region g

  -- segments of both: with both interiors above, with both below, with one on each side
  above : class02 F G ≡ (classes_of_f s sc notes).both_above
  above = both_above_lem F G ∙ some_edges s sc.f (λ (f : Edge). f.ia && has_edge G f.segment true)

  below : class20 F G ≡ (classes_of_f s sc notes).both_below
  below = both_below F G ∙ some_edges s sc.f (λ (f : Edge). not f.ia && has_edge G f.segment false)

  either_side : class11 F G ≡ (classes_of_f s sc notes).opposite
  either_side =
      opposite F G
      ∙ some_edges s sc.f (λ (f : Edge). has_edge G f.segment (not f.ia))
      ∙ lefts_on s sc.f _ (λ i. ia s sc.f i && has_edge G (half s sc.f i).segment false || not (ia s sc.f i) && has_edge G (half s sc.f i).segment true)
      (λ i h. go (half s sc.f i).segment (ia s sc.f i))
    where
      go : (t : Segment) (x : Bool) → has_edge G t (not x) ≡ x && has_edge G t false || not x && has_edge G t true
      go t true = sym (or-false (has_edge G t false))
      go t false = refl

  -- an end of F's that is one of G's, too
  common_end : bound_poi_shared F G
      ≡ (meetings s sc notes).bound_bound || (meetings s sc notes).bound_inner || (meetings s sc notes).inner_bound || (meetings s sc notes).inner_inner
  common_end =
      ap₂ (λ k l. has_some_end (joins l) k) (outline_edges s sc.f) (outline_edges s sc.g)
      ∙ end_elements o.f_sound has_f (joins (segments s sc.g)) (λ i. ltb 0 (degree s sc.f (element_point s sc.f i)) && ltb 0 (degree s sc.g (element_point s sc.f i)))
      (λ i h t m e. joins_degree o.g_sound is_g (element_point s sc.f i) t ∙ sym (ap (λ b. b && ltb 0 (degree s sc.g (element_point s sc.f i))) (own_degree o.f_sound has_f (element_point s sc.f i) t m e)))
      ∙ sym (meets s sc notes)

  pub region_region_f : flags_of_f (region F) (region G) ≡ flags_of_f_by Region Region (meetings s sc notes) (classes_of_f s sc notes)
  region_region_f =
      let outer = outside_on o.f_sound o.g_sound has_f is_g (across o) (knows_f n has_f) in
      let inner = inside_on o.f_sound o.g_sound has_f is_g (across o) (knows_f n has_f) in
      λ j. outer (λ b. b) j ∷ outer not j ∷ inner (λ b. b) j ∷ inner not j ∷ above j ∷ below j ∷ either_side j ∷ common_end j ∷ []

  pub region_region_g : flags_of_g (region F) (region G) ≡ flags_of_g_by Region Region (meetings s sc notes) (classes_of_g s sc notes)
  region_region_g =
      let outer = outside_on o.g_sound o.f_sound has_g is_f (across_swap (across o)) (knows_g n has_g) in
      let inner = inside_on o.g_sound o.f_sound has_g is_f (across_swap (across o)) (knows_g n has_g) in
      λ j. outer (λ b. b) j ∷ outer not j ∷ inner (λ b. b) j ∷ inner not j ∷ []
