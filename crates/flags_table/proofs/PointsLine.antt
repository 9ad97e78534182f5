-- 1, 2: the flags of points and a line by the degrees in the line, and by the notes of points that are none of its ends.
use Prim.Native.Nat.{ℕ, ◌<◌}
use mathlib.Core.Path.{◌≡◌, refl, sym, ap, ap₂, ◌∙◌}
use mathlib.Core.Bool.{Bool, true, false, not, ◌&&◌, ◌||◌, and_comm}
use mathlib.Core.List.{List, [], ◌∷◌}
use lib.Dec.{eqb, ltb}
use lib.ListN.{get_or}
use Rattle.plane.specs.declared.Point.{Point}
use Rattle.plane.specs.declared.Segment.{Segment}
use Rattle.plane.specs.Plane.{is_boundary}
use Rattle.scene.specs.declared.Shape.TheVariants.{Points, Line}
use Rattle.scene.specs.declared.Scene.{Scene}
use Rattle.scene.specs.Conditions.{has_segments, segments}
use Rattle.sweep_laws.specs.Noted.{Noted}
use Rattle.check_verdict.proofs.Laws.{SoundScene}
use Rattle.flags.specs.Flags.{points, line, has_point, on_object, is_bound, poi_off, poi_on_interior, poi_on_bound, bound_poi_disjoint, flags_of_f, flags_of_g}
use Rattle.flags.specs.Elements.{points_of}
use Rattle.scene_keys.specs.Keyed.{element_point}
use Rattle.flags_meetings.specs.Met.{degree, meetings}
use Rattle.flags_meetings.proofs.PointKinds.{Kind, none, bound, inner, kind_of}
use Rattle.flags_classes.specs.Classed.{classes_of_f, classes_of_g}
use Rattle.flags_table.specs.Table.{flags_of_f_by, flags_of_g_by}
use Rattle.flags_table.proofs.Degrees.{point_absent, own_point, some_points}
use Rattle.flags_table.proofs.Ends.{bound_degree, end_elements}
use Rattle.flags_table.proofs.Noting.{point_on}
use Rattle.flags_table.proofs.Meeting.{bound_off, bound_on_interior_lem}

module _ {s : List ℕ} {sc : Scene} {notes : List ℕ} (o : SoundScene s sc) (n : Noted s sc notes) (f : sc.f.shape ≡ Points) (g : sc.g.shape ≡ Line) where
  abbrev G : List Segment
  G = segments s sc.g

  -- a point of F, its degrees in F and in G, and its note
  abbrev p : ℕ → Point
  p i = element_point s sc.f i

  abbrev a : ℕ → ℕ
  a i = degree s sc.f (p i)

  abbrev b : ℕ → ℕ
  b i = degree s sc.g (p i)

  abbrev note : ℕ → ℕ
  note i = get_or notes i 0

  has_g : has_segments sc.g.shape ≡ true
  has_g = ap has_segments g

  single : (i : ℕ) → i < sc.f.count → is_boundary (a i) ≡ true
  single i h = own_point o.f_sound f i h

  on_line : (i : ℕ) → i < sc.f.count → on_object G (p i) ≡ ltb 0 (b i) || ltb 1 (note i)
  on_line i h = point_on n f o.g_sound has_g i h

  bound_is : (v : Point) → is_bound G v ≡ is_boundary (degree s sc.g v)
  bound_is v = bound_degree o.g_sound has_g v

  off : poi_off (points_of s sc.f) G ≡ (meetings s sc notes).bound_outside || (meetings s sc notes).bound_inside
  off =
      some_points o.f_sound f (λ v. not (on_object G v)) _ (λ i h. rw (on_line i h, single i h) (go (kind_of (b i)) (ltb 1 (note i))))
      ∙ sym (bound_off s sc notes)
    where
      go : {p z e m : Bool} → Kind p z e m → (x : Bool) → not (p || x) ≡ z && not x
      go none x = refl
      go bound x = refl
      go inner x = refl

  on_interior : poi_on_interior (points_of s sc.f) G ≡ (meetings s sc notes).bound_on || (meetings s sc notes).bound_inner
  on_interior =
      some_points o.f_sound f (λ v. on_object G v && not (is_bound G v)) _ (λ i h. rw (on_line i h, bound_is (p i), single i h) (go (kind_of (b i)) (ltb 1 (note i))))
      ∙ sym (bound_on_interior_lem s sc notes)
    where
      go : {p z e m : Bool} → Kind p z e m → (x : Bool) → (p || x) && not e ≡ z && x || m
      go none true = refl
      go none false = refl
      go bound x = refl
      go inner x = refl

  on_bound : poi_on_bound (points_of s sc.f) G ≡ (meetings s sc notes).bound_bound
  on_bound =
      some_points o.f_sound f (is_bound G) _ (λ i h. ap₂ ◌&&◌ (sym (single i h)) (bound_is (p i)))

  pub points_line_f : flags_of_f (points (points_of s sc.f)) (line G) ≡ flags_of_f_by Points Line (meetings s sc notes) (classes_of_f s sc notes)
  points_line_f = λ j. off j ∷ on_interior j ∷ on_bound j ∷ []

  pub points_line_g : flags_of_g (points (points_of s sc.f)) (line G) ≡ flags_of_g_by Points Line (meetings s sc notes) (classes_of_g s sc notes)
  points_line_g = λ j. bare j ∷ []
    where
      bare : bound_poi_disjoint (points_of s sc.f) G ≡ (meetings s sc notes).bound_of_g
      bare =
          end_elements o.g_sound has_g (λ t v. is_bound G v && not (has_point (points_of s sc.f) v)) _
          (λ j h t m e. ap₂ ◌&&◌ (bound_is (element_point s sc.g j)) (point_absent o.f_sound f (element_point s sc.g j)) ∙ and_comm (is_boundary (degree s sc.g (element_point s sc.g j))) (eqb (degree s sc.f (element_point s sc.g j)) 0))
