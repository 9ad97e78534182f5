-- 2, 3: the flags of a line and a region by the classes of their segments, and by the degrees and notes at the line's ends.
use Prim.Native.Nat.{ℕ, ◌+◌}
use mathlib.Core.Path.{◌≡◌, refl, sym, ap, ap₂, ◌∙◌}
use mathlib.Core.Bool.{Bool, true, false, not, ◌&&◌, ◌||◌, and-true, and-false, and_comm, and_self_left, false≢true}
use mathlib.Core.List.{List, [], ◌∷◌}
use lib.Dec.{eqb, ltb}
use lib.ListN.{get_or}
use Rattle.plane.specs.declared.Point.{Point}
use Rattle.plane.specs.declared.Segment.{Segment}
use Rattle.plane.specs.Plane.{grid, midpoint, inside, is_boundary}
use Rattle.scene.specs.declared.Shape.TheVariants.{Line, Region}
use Rattle.scene.specs.declared.Scene.{Scene}
use Rattle.scene.specs.Conditions.{has_segments, is_region, segments}
use Rattle.sweep_laws.specs.Noted.{Noted}
use Rattle.check_verdict.proofs.Laws.{SoundScene, across}
use Rattle.flags.specs.Flags.{line, region, has_segment, on_object, is_bound, joins, seg_shared, seg_unshared, seg_inside, seg_outside, poi_joins, bound_joins, bound_inside_test, bound_outside_test, flags_of_f, flags_of_g}
use Rattle.flags.specs.Elements.{edges}
use Rattle.flags.proofs.Elements.{outline_edges}
use Rattle.scene_keys.specs.Keyed.{element_point}
use Rattle.flags_meetings.specs.Met.{degree, is_inner, meetings}
use Rattle.flags_meetings.proofs.PointKinds.{Kind, none, bound, inner, kind_of}
use Rattle.flags_classes.specs.Classed.{is_shared, classes_of_f, classes_of_g}
use Rattle.flags_table.specs.Table.{flags_of_f_by, flags_of_g_by}
use Rattle.flags_table.proofs.Ends.{bound_degree, own_degree, end_elements, on_degree, joins_degree}
use Rattle.flags_table.proofs.Noting.{knows_f, middle_inside, middle_outside, end_one, end_not_nought}
use Rattle.flags_table.proofs.Meeting.{bound_meets, inner_meets}
use Rattle.flags_table.proofs.Classing.{some_lefts, lefts_on, lefts_outside, lefts_inside, unshared_some, shared_some}

module _ {s : List ℕ} {sc : Scene} {notes : List ℕ} (o : SoundScene s sc) (n : Noted s sc notes) (f : sc.f.shape ≡ Line) (g : sc.g.shape ≡ Region) where
  abbrev F : List Segment
  F = segments s sc.f

  abbrev G : List Segment
  G = segments s sc.g

  -- the point of an element of F, its degrees in F and in G, and its note
  abbrev p : ℕ → Point
  p i = element_point s sc.f i

  abbrev a : ℕ → ℕ
  a i = degree s sc.f (p i)

  abbrev b : ℕ → ℕ
  b i = degree s sc.g (p i)

  abbrev note : ℕ → ℕ
  note i = get_or notes i 0

  has_f : has_segments sc.f.shape ≡ true
  has_f = ap has_segments f

  has_g : has_segments sc.g.shape ≡ true
  has_g = ap has_segments g

  is_g : is_region sc.g.shape ≡ true
  is_g = ap is_region g

  -- ---- segments

  seg_inside_lem : seg_inside F G ≡ (classes_of_f s sc notes).above_inside || (classes_of_f s sc notes).below_inside
  seg_inside_lem =
      some_lefts s sc.f (λ t. not (has_segment G t) && inside G (midpoint t))
      ∙ lefts_on s sc.f _ (λ i. not (is_shared s sc.f sc.g i) && not (eqb (note i) 0))
      (λ i h. ap (λ b. not (is_shared s sc.f sc.g i) && b) (middle_inside o.f_sound o.g_sound has_f is_g (across o) (knows_f n has_f) i h) ∙ and_self_left (not (is_shared s sc.f sc.g i)) (not (eqb (note i) 0)))
      ∙ sym (lefts_inside s sc.f sc.g note)

  seg_outside_lem : seg_outside F G ≡ (classes_of_f s sc notes).above_outside || (classes_of_f s sc notes).below_outside
  seg_outside_lem =
      some_lefts s sc.f (λ t. not (has_segment G t) && not (inside G (midpoint t)))
      ∙ lefts_on s sc.f _ (λ i. not (is_shared s sc.f sc.g i) && eqb (note i) 0) (λ i h. middle_outside o.f_sound o.g_sound has_f is_g (across o) (knows_f n has_f) i h)
      ∙ sym (lefts_outside s sc.f sc.g note)

  -- ---- ends

  join : (i : ℕ) (t : Segment) → joins G t (p i) ≡ ltb 0 (b i)
  join i t = joins_degree o.g_sound is_g (p i) t

  bound_is : (i : ℕ) → is_bound F (p i) ≡ is_boundary (a i)
  bound_is i = bound_degree o.f_sound has_f (p i)

  poi_joins_lem : poi_joins F G ≡ (meetings s sc notes).inner_bound || (meetings s sc notes).inner_inner
  poi_joins_lem =
      end_elements o.f_sound has_f (λ t v. joins G t v && not (is_bound F v)) (λ i. is_inner (a i) && ltb 0 (b i))
      (λ i h t m e. ap₂ (λ x y. x && not y) (join i t) (bound_is i) ∙ go (kind_of (a i)) (ltb 0 (b i)) (own_degree o.f_sound has_f (p i) t m e))
      ∙ sym (inner_meets s sc notes)
    where
      go : {p z e m : Bool} → Kind p z e m → (x : Bool) → p ≡ true → x && not e ≡ m && x
      go none x h = absurd (false≢true h)
      go bound x h = and-false x
      go inner x h = and-true x

  bound_joins_lem : bound_joins F G ≡ (meetings s sc notes).bound_bound || (meetings s sc notes).bound_inner
  bound_joins_lem =
      end_elements o.f_sound has_f (λ t v. joins G t v && is_bound F v) (λ i. is_boundary (a i) && ltb 0 (b i))
      (λ i h t m e. ap₂ ◌&&◌ (join i t) (bound_is i) ∙ and_comm (ltb 0 (b i)) (is_boundary (a i)))
      ∙ sym (bound_meets s sc notes)

  bound_inside_lem : bound_inside_test F G ≡ (meetings s sc notes).bound_inside
  bound_inside_lem =
      end_elements o.f_sound has_f (λ t v. inside G (grid v) && is_bound F v) (λ i. is_boundary (a i) && (eqb (b i) 0 && eqb (note i) 1))
      (λ i h t m e. ap₂ ◌&&◌ (end_one o.f_sound o.g_sound has_f is_g (across o) (knows_f n has_f) i h) (bound_is i) ∙ go (is_boundary (a i)) (kind_of (b i)) (eqb (note i) 1))
    where
      go : (x : Bool) {p z e m : Bool} → Kind p z e m → (y : Bool) → not p && y && x ≡ x && (z && y)
      go x none y = and_comm y x
      go x bound y = sym (and-false x)
      go x inner y = sym (and-false x)

  bound_outside_lem : bound_outside_test F G ≡ (meetings s sc notes).bound_outside
  bound_outside_lem =
      end_elements o.f_sound has_f (λ t v. not (inside G (grid v)) && is_bound F v && not (on_object G v)) (λ i. is_boundary (a i) && (eqb (b i) 0 && eqb (note i) 0))
      (λ i h t m e. rw (end_not_nought o.f_sound o.g_sound has_f is_g (across o) (knows_f n has_f) i h, bound_is i, on_degree o.f_sound o.g_sound has_g (across o) (p i) t m e) (go (is_boundary (a i)) (kind_of (b i)) (eqb (note i) 0)))
    where
      go : (x : Bool) {p z e m : Bool} → Kind p z e m → (y : Bool) → not (not p && not y) && x && not p ≡ x && (z && y)
      go true none true = refl
      go true none false = refl
      go true bound y = refl
      go true inner y = refl
      go false none true = refl
      go false none false = refl
      go false bound y = refl
      go false inner y = refl

  pub line_region_f : flags_of_f (line F) (region (edges s sc.g)) ≡ flags_of_f_by Line Region (meetings s sc notes) (classes_of_f s sc notes)
  line_region_f =
      ap (λ l. seg_inside F l ∷ seg_shared F l ∷ seg_outside F l ∷ poi_joins F l ∷ bound_inside_test F l ∷ bound_joins F l ∷ bound_outside_test F l ∷ []) (outline_edges s sc.g)
      ∙ (λ j. seg_inside_lem j ∷ sym (shared_some s sc.f sc.g note) j ∷ seg_outside_lem j ∷ poi_joins_lem j ∷ bound_inside_lem j ∷ bound_joins_lem j ∷ bound_outside_lem j ∷ [])

  pub line_region_g : flags_of_g (line F) (region (edges s sc.g)) ≡ flags_of_g_by Line Region (meetings s sc notes) (classes_of_g s sc notes)
  line_region_g =
      ap (λ l. seg_unshared l F ∷ []) (outline_edges s sc.g) ∙ (λ j. sym (unshared_some s sc.g sc.f (λ j. get_or notes (1024 + j) 0)) j ∷ [])
