-- 1, 3: the flags of points and a region by the degrees in the region, and by the notes of points that are none of its ends.
use Prim.Native.Nat.{ℕ, ◌<◌}
use mathlib.Core.Path.{◌≡◌, refl, sym, ap, ap₂, ◌∙◌}
use mathlib.Core.Bool.{Bool, true, not, ◌&&◌, ◌||◌}
use mathlib.Core.List.{List, [], ◌∷◌}
use lib.Dec.{eqb, ltb}
use lib.ListN.{get_or}
use Rattle.plane.specs.declared.Point.{Point}
use Rattle.plane.specs.declared.Segment.{Segment}
use Rattle.plane.specs.Plane.{grid, inside, is_boundary}
use Rattle.scene.specs.declared.Shape.TheVariants.{Points, Region}
use Rattle.scene.specs.declared.Scene.{Scene}
use Rattle.scene.specs.Conditions.{has_segments, segments}
use Rattle.sweep_laws.specs.Noted.{Noted}
use Rattle.check_verdict.proofs.Laws.{SoundScene}
use Rattle.flags.specs.Flags.{points, region, on_object, poi_inside, poi_on_outline, poi_outside, flags_of_f}
use Rattle.flags.specs.Elements.{points_of, edges}
use Rattle.flags.proofs.Elements.{outline_edges}
use Rattle.scene_keys.specs.Keyed.{element_point}
use Rattle.flags_meetings.specs.Met.{degree, meetings}
use Rattle.flags_meetings.proofs.PointKinds.{Kind, none, bound, inner, kind_of, not_there}
use Rattle.flags_classes.specs.Classed.{classes_of_f}
use Rattle.flags_table.specs.Table.{flags_of_f_by}
use Rattle.flags_table.proofs.Degrees.{own_point, some_points}
use Rattle.flags_table.proofs.Noting.{point_on, point_inside}
use Rattle.flags_table.proofs.Sizes.{Size, nought, one, more, size_of}
use Rattle.flags_table.proofs.Meeting.{bound_on_object}

module _ {s : List ℕ} {sc : Scene} {notes : List ℕ} (o : SoundScene s sc) (n : Noted s sc notes) (f : sc.f.shape ≡ Points) (g : sc.g.shape ≡ Region) where
  abbrev G : List Segment
  G = segments s sc.g

  -- a point of F, its degrees in F and in G, and its note
  abbrev p : ℕ → Point
  p i = element_point s sc.f i

  abbrev a : ℕ → ℕ
  a i = degree s sc.f (p i)

  abbrev b : ℕ → ℕ
  b i = degree s sc.g (p i)

  abbrev note : ℕ → ℕ
  note i = get_or notes i 0

  has_g : has_segments sc.g.shape ≡ true
  has_g = ap has_segments g

  single : (i : ℕ) → i < sc.f.count → is_boundary (a i) ≡ true
  single i h = own_point o.f_sound f i h

  on_outline : (i : ℕ) → i < sc.f.count → on_object G (p i) ≡ ltb 0 (b i) || ltb 1 (note i)
  on_outline i h = point_on n f o.g_sound has_g i h

  in_region : (i : ℕ) → i < sc.f.count → inside G (grid (p i)) ≡ not (ltb 0 (b i)) && eqb (note i) 1
  in_region i h = point_inside n f o.g_sound has_g i h

  within : poi_inside (points_of s sc.f) G ≡ (meetings s sc notes).bound_inside
  within =
      some_points o.f_sound f (λ v. inside G (grid v)) _ (λ i h. in_region i h ∙ ap₂ ◌&&◌ (sym (single i h)) (ap (λ b. b && eqb (note i) 1) (not_there (kind_of (b i)))))

  on_it : poi_on_outline (points_of s sc.f) G ≡ (meetings s sc notes).bound_on || (meetings s sc notes).bound_bound || (meetings s sc notes).bound_inner
  on_it =
      some_points o.f_sound f (on_object G) _ (λ i h. ap₂ ◌&&◌ (sym (single i h)) (on_outline i h))
      ∙ sym (bound_on_object s sc notes)

  outer : poi_outside (points_of s sc.f) G ≡ (meetings s sc notes).bound_outside
  outer =
      some_points o.f_sound f (λ v. not (inside G (grid v)) && not (on_object G v)) _ (λ i h. rw (in_region i h, on_outline i h, single i h) (go (kind_of (b i)) (size_of (note i))))
    where
      go : {p z e m y d n : Bool} → Kind p z e m → Size y d n → not (not p && d) && not (p || n) ≡ z && y
      go none nought = refl
      go none one = refl
      go none more = refl
      go bound n = refl
      go inner n = refl

  pub points_region_f : flags_of_f (points (points_of s sc.f)) (region (edges s sc.g)) ≡ flags_of_f_by Points Region (meetings s sc notes) (classes_of_f s sc notes)
  points_region_f =
      ap (λ l. poi_inside (points_of s sc.f) l ∷ poi_on_outline (points_of s sc.f) l ∷ poi_outside (points_of s sc.f) l ∷ []) (outline_edges s sc.g)
      ∙ (λ j. within j ∷ on_it j ∷ outer j ∷ [])
