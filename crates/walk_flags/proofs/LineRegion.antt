-- 2, 3: what taking a halfsegment of a line beside a region sets is what the table reads off the meeting at its dominating point and the class of its
-- segment. So one event costs two degrees, a note and the step's own answer, whether the segment is shared.
use Prim.Native.Nat.{ℕ, ◌<◌}
use mathlib.Core.Path.{◌≡◌, refl, sym, ap, ap₂, ◌∙◌}
use mathlib.Core.Bool.{Bool, true, false, not, ◌&&◌, ◌||◌, and_self_left, false≢true}
use mathlib.Core.List.{List, [], ◌∷◌, map}
use lib.Dec.{T, eqb, ltb}
use lib.ListN.{get_or}
use Rattle.whole.specs.Count.{◌∈◌}
use Rattle.plane.specs.declared.Point.{Point}
use Rattle.plane.specs.declared.Segment.{Segment}
use Rattle.plane.specs.Plane.{grid, midpoint, inside, is_boundary, is_end}
use Rattle.scene.specs.declared.Shape.TheVariants.{Line, Region}
use Rattle.scene.specs.declared.Scene.{Scene}
use Rattle.scene.specs.Conditions.{has_segments, is_region, half, ia, left_test, segments}
use Rattle.sweep_laws.specs.Noted.{Noted}
use Rattle.check_verdict.proofs.Laws.{SoundScene, across, segment_in}
use Rattle.flags.specs.Flags.{has_segment, on_object, is_bound, joins}
use Rattle.flags.specs.Elements.{elements_as}
use Rattle.flags.proofs.Elements.{outline_edges}
use Rattle.scene_keys.specs.Keyed.{element_point}
use Rattle.scene_keys.proofs.Elements.{point_of_half}
use Rattle.flags_meetings.specs.Met.{degree, is_inner}
use Rattle.flags_meetings.proofs.PointKinds.{Kind, none, bound, inner, kind_of}
use Rattle.flags_table.specs.Table.{flags_of_f_by}
use Rattle.flags_table.proofs.Ends.{bound_degree, own_degree, end_of_half, on_degree, joins_degree}
use Rattle.flags_table.proofs.Noting.{knows_f, middle_inside, middle_outside, end_one, end_not_nought}
use Rattle.walk_events.specs.Taking.{tests_of, passes, own_tests}
use Rattle.walk_flags.specs.OneTaken.{met_by_f, class_by_f}
use Rattle.walk_flags.proofs.OfClass.{is_shared_lem, either_side}

-- ---- tests

joins_inner : {p z e m q y d k : Bool} → Kind p z e m → Kind q y d k → p ≡ true → q && not e ≡ m && d || m && k
joins_inner none b h = absurd (false≢true h)
joins_inner bound none h = refl
joins_inner bound bound h = refl
joins_inner bound inner h = refl
joins_inner inner none h = refl
joins_inner inner bound h = refl
joins_inner inner inner h = refl

joins_bound : (e : Bool) {q y d k : Bool} → Kind q y d k → q && e ≡ e && d || e && k
joins_bound true none = refl
joins_bound true bound = refl
joins_bound true inner = refl
joins_bound false none = refl
joins_bound false bound = refl
joins_bound false inner = refl

inside_bound : (e x : Bool) {q y d k : Bool} → Kind q y d k → (not q && x) && e ≡ e && (y && x)
inside_bound true true none = refl
inside_bound true false none = refl
inside_bound true x bound = refl
inside_bound true x inner = refl
inside_bound false true none = refl
inside_bound false false none = refl
inside_bound false x bound = refl
inside_bound false x inner = refl

outside_bound : (e w : Bool) {q y d k : Bool} → Kind q y d k → not (not q && not w) && e && not q ≡ e && (y && w)
outside_bound true true none = refl
outside_bound true false none = refl
outside_bound true w bound = refl
outside_bound true w inner = refl
outside_bound false true none = refl
outside_bound false false none = refl
outside_bound false w bound = refl
outside_bound false w inner = refl

module _ {s : List ℕ} {sc : Scene} {notes : List ℕ} (o : SoundScene s sc) (n : Noted s sc notes) (f : sc.f.shape ≡ Line) (g : sc.g.shape ≡ Region) (i : ℕ) (h : i < sc.f.count) where
  abbrev F : List Segment
  F = segments s sc.f

  abbrev G : List Segment
  G = segments s sc.g

  abbrev t : Segment
  t = (half s sc.f i).segment

  abbrev p : Point
  p = element_point s sc.f i

  abbrev a : ℕ
  a = degree s sc.f p

  abbrev b : ℕ
  b = degree s sc.g p

  abbrev note : ℕ
  note = get_or notes i 0

  abbrev L : Bool
  L = left_test s sc.f i

  has_f : has_segments sc.f.shape ≡ true
  has_f = ap has_segments f

  is_g : is_region sc.g.shape ≡ true
  is_g = ap is_region g

  has_g : has_segments sc.g.shape ≡ true
  has_g = ap has_segments g

  own : t ∈ F
  own = segment_in o.f_sound has_f i h

  at_end_lem : T (is_end t (grid p))
  at_end_lem = end_of_half o.f_sound has_f i

  join : joins G t p ≡ ltb 0 b
  join = joins_degree o.g_sound is_g p t

  bound_is : is_bound F p ≡ is_boundary a
  bound_is = bound_degree o.f_sound has_f p

  -- the tests of one halfsegment, at a point
  abbrev tests : List Segment → Point → List Bool
  tests H v =
      (L && (not (has_segment H t) && inside H (midpoint t)))
      ∷ (L && has_segment H t)
      ∷ (L && (not (has_segment H t) && not (inside H (midpoint t))))
      ∷ (joins H t v && not (is_bound F v))
      ∷ (inside H (grid v) && is_bound F v)
      ∷ (joins H t v && is_bound F v)
      ∷ (not (inside H (grid v)) && is_bound F v && not (on_object H v))
      ∷ []

  abbrev C : Bool → Bool
  C w = L && (ia s sc.f i && (not (has_segment G t) && w)) || L && (not (ia s sc.f i) && (not (has_segment G t) && w))

  goes_inside : L && (not (has_segment G t) && inside G (midpoint t)) ≡ C (not (eqb note 0))
  goes_inside =
      ap (λ w. L && (not (has_segment G t) && w)) (middle_inside o.f_sound o.g_sound has_f is_g (across o) (knows_f n has_f) i h)
      ∙ ap (λ w. L && w) (and_self_left (not (has_segment G t)) (not (eqb note 0)))
      ∙ either_side L (ia s sc.f i) (not (has_segment G t) && not (eqb note 0))

  goes_outside : L && (not (has_segment G t) && not (inside G (midpoint t))) ≡ C (eqb note 0)
  goes_outside =
      ap (λ w. L && w) (middle_outside o.f_sound o.g_sound has_f is_g (across o) (knows_f n has_f) i h)
      ∙ either_side L (ia s sc.f i) (not (has_segment G t) && eqb note 0)

  meets : joins G t p && not (is_bound F p) ≡ is_inner a && is_boundary b || is_inner a && is_inner b
  meets = ap₂ (λ x y. x && not y) join bound_is ∙ joins_inner (kind_of a) (kind_of b) (own_degree o.f_sound has_f p t own at_end_lem)

  ends : joins G t p && is_bound F p ≡ is_boundary a && is_boundary b || is_boundary a && is_inner b
  ends = ap₂ ◌&&◌ join bound_is ∙ joins_bound (is_boundary a) (kind_of b)

  ends_inside : inside G (grid p) && is_bound F p ≡ is_boundary a && (eqb b 0 && eqb note 1)
  ends_inside =
      ap₂ ◌&&◌ (end_one o.f_sound o.g_sound has_f is_g (across o) (knows_f n has_f) i h) bound_is ∙ inside_bound (is_boundary a) (eqb note 1) (kind_of b)

  ends_outside : not (inside G (grid p)) && is_bound F p && not (on_object G p) ≡ is_boundary a && (eqb b 0 && eqb note 0)
  ends_outside =
      rw (end_not_nought o.f_sound o.g_sound has_f is_g (across o) (knows_f n has_f) i h, bound_is, on_degree o.f_sound o.g_sound has_g (across o) p t own at_end_lem)
      (outside_bound (is_boundary a) (eqb note 0) (kind_of b))

  pub line_region_f : map (passes s sc.f i) (own_tests true s sc.f sc.g) ≡ flags_of_f_by Line Region (met_by_f s sc notes i) (class_by_f s sc notes i)
  line_region_f =
      ap₂ (λ k l. map (passes s sc.f i) (tests_of true (elements_as s sc.f k) (elements_as s sc.g l))) f g
      ∙ ap₂ tests (outline_edges s sc.g) (sym (point_of_half s sc.f has_f i))
      ∙ (λ j. goes_inside j ∷ is_shared_lem s sc.f sc.g (λ k. get_or notes k 0) i j ∷ goes_outside j ∷ meets j ∷ ends_inside j ∷ ends j ∷ ends_outside j ∷ [])
