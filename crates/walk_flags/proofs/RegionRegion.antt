-- 3, 3: what taking a halfsegment of a region beside another sets, off the table.
use Prim.Native.Nat.{ℕ, ◌<◌}
use mathlib.Core.Path.{◌≡◌, refl, sym, ap, ap₂, ◌∙◌}
use mathlib.Core.Bool.{Bool, true, false, not, ◌&&◌, ◌||◌, or-false, false≢true}
use mathlib.Core.List.{List, [], ◌∷◌, map}
use lib.Dec.{eqb}
use Rattle.plane.specs.declared.Point.{Point}
use Rattle.plane.specs.declared.Segment.{Segment}
use Rattle.plane.specs.Plane.{midpoint, is_on_some, inside, is_boundary, dominating}
use Rattle.plane.proofs.Accepted.{Across}
use Rattle.scene.specs.declared.Shape.TheVariants.{Region}
use Rattle.scene.specs.declared.Layout.{Layout}
use Rattle.scene.specs.declared.Scene.{Scene}
use Rattle.scene.specs.Conditions.{has_segments, is_region, half, ia, left_test, segments}
use Rattle.sweep_laws.specs.Noted.{Noted}
use Rattle.check_verdict.proofs.Laws.{SoundObject, SoundScene, across, segment_in}
use Rattle.flags.specs.Flags.{has_segment, joins, outline}
use Rattle.flags.specs.Elements.{edges, elements_as, has_edge}
use Rattle.flags.proofs.Elements.{outline_edges}
use Rattle.cells_matrix.proofs.Common.{across_swap}
use Rattle.scene_keys.specs.Keyed.{element_point}
use Rattle.scene_keys.proofs.Elements.{point_of_half}
use Rattle.flags_meetings.specs.Met.{degree, is_inner}
use Rattle.flags_meetings.proofs.PointKinds.{Kind, none, bound, inner, kind_of}
use Rattle.flags_classes.specs.declared.Classes.{Classes}
use Rattle.flags_table.specs.Table.{flags_of_f_by, flags_of_g_by}
use Rattle.flags_table.proofs.Ends.{own_degree, end_of_half, joins_degree}
use Rattle.flags_table.proofs.Noting.{Knows, knows_f, knows_g, middle_on, middle_inside, middle_outside}
use Rattle.walk_events.specs.Taking.{tests_of, passes, own_tests}
use Rattle.walk_flags.specs.OneTaken.{met_by_f, met_by_g, class_by_f, class_by_g}

joins_any : {p z e m q y d k : Bool} → Kind p z e m → Kind q y d k → p ≡ true → q ≡ e && d || e && k || m && d || m && k
joins_any none b h = absurd (false≢true h)
joins_any bound none h = refl
joins_any bound bound h = refl
joins_any bound inner h = refl
joins_any inner none h = refl
joins_any inner bound h = refl
joins_any inner inner h = refl

module _ {s : List ℕ} {own other : Layout} (is : SoundObject s own) (are : SoundObject s other) (has : has_segments own.shape ≡ true) (region : is_region other.shape ≡ true)
    (apart : Across (segments s own) (segments s other)) {note : ℕ → ℕ} (knows : Knows s own other note) (i : ℕ) (h : i < own.count) where
  abbrev G : List Segment
  G = segments s other

  abbrev t : Segment
  t = (half s own i).segment

  abbrev L : Bool
  L = left_test s own i

  outer : (x : Bool) → L && (x && (not (is_on_some (outline (edges s other)) (midpoint t)) && not (inside (outline (edges s other)) (midpoint t)))) ≡ L && (x && (not (has_segment G t) && eqb (note i) 0))
  outer x =
      ap (λ w. L && (x && w))
      (ap (λ l. not (is_on_some l (midpoint t)) && not (inside l (midpoint t))) (outline_edges s other)
      ∙ ap (λ w. not w && not (inside G (midpoint t))) (middle_on is are has region apart knows i h) ∙ middle_outside is are has region apart knows i h)

  within : (x : Bool) → L && (x && inside (outline (edges s other)) (midpoint t)) ≡ L && (x && (not (has_segment G t) && not (eqb (note i) 0)))
  within x = ap (λ w. L && (x && w)) (ap (λ l. inside l (midpoint t)) (outline_edges s other) ∙ middle_inside is are has region apart knows i h)

  one_side : (x : Bool) → has_edge (edges s other) t (not x) ≡ x && has_edge (edges s other) t false || not x && has_edge (edges s other) t true
  one_side true = sym (or-false (has_edge (edges s other) t false))
  one_side false = refl

module _ {s : List ℕ} {sc : Scene} {notes : List ℕ} (o : SoundScene s sc) (n : Noted s sc notes) (f : sc.f.shape ≡ Region) (g : sc.g.shape ≡ Region) where
  has_f : has_segments sc.f.shape ≡ true
  has_f = ap has_segments f

  has_g : has_segments sc.g.shape ≡ true
  has_g = ap has_segments g

  is_f : is_region sc.f.shape ≡ true
  is_f = ap is_region f

  is_g : is_region sc.g.shape ≡ true
  is_g = ap is_region g

  module _ (i : ℕ) (h : i < sc.f.count) where
    abbrev p : Point
    p = element_point s sc.f i

    abbrev a : ℕ
    a = degree s sc.f p

    abbrev b : ℕ
    b = degree s sc.g p

    abbrev u : Segment
    u = (half s sc.f i).segment

    abbrev x : Bool
    x = ia s sc.f i

    abbrev c : Classes
    c = class_by_f s sc notes i

    meets : joins (outline (edges s sc.g)) u (dominating (half s sc.f i)) ≡ is_boundary a && is_boundary b || is_boundary a && is_inner b || is_inner a && is_boundary b || is_inner a && is_inner b
    meets =
        ap₂ (λ l v. joins l u v) (outline_edges s sc.g) (sym (point_of_half s sc.f has_f i))
        ∙ joins_degree o.g_sound is_g p u
        ∙ joins_any (kind_of a) (kind_of b) (own_degree o.f_sound has_f p u (segment_in o.f_sound has_f i h) (end_of_half o.f_sound has_f i))

    pub region_region_f : map (passes s sc.f i) (own_tests true s sc.f sc.g) ≡ flags_of_f_by Region Region (met_by_f s sc notes i) (class_by_f s sc notes i)
    region_region_f =
        let out = outer o.f_sound o.g_sound has_f is_g (across o) (knows_f n has_f) i h in
        let into = within o.f_sound o.g_sound has_f is_g (across o) (knows_f n has_f) i h in
        let side = one_side o.f_sound o.g_sound has_f is_g (across o) (knows_f n has_f) i h in
        ap₂ (λ k l. map (passes s sc.f i) (tests_of true (elements_as s sc.f k) (elements_as s sc.g l))) f g
        ∙ (λ j. out x j ∷ out (not x) j ∷ into x j ∷ into (not x) j ∷ c.both_above ∷ c.both_below ∷ (left_test s sc.f i && side x j) ∷ meets j ∷ [])

  module _ (note j : ℕ) (h : j < sc.g.count) where
    pub region_region_g : map (passes s sc.g j) (own_tests false s sc.g sc.f) ≡ flags_of_g_by Region Region (met_by_g s sc notes note j) (class_by_g s sc notes j)
    region_region_g =
        let out = outer o.g_sound o.f_sound has_g is_f (across_swap (across o)) (knows_g n has_g) j h in
        let into = within o.g_sound o.f_sound has_g is_f (across_swap (across o)) (knows_g n has_g) j h in
        let x = ia s sc.g j in
        ap₂ (λ k l. map (passes s sc.g j) (tests_of false (elements_as s sc.g k) (elements_as s sc.f l))) g f
        ∙ (λ r. out x r ∷ out (not x) r ∷ into x r ∷ into (not x) r ∷ [])
