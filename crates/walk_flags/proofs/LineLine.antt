-- 2, 2, and G of 2, 3: what taking a halfsegment of a line beside another, or of a region beside a line, sets, off the table.
use Prim.Native.Nat.{ℕ, ◌+◌, ◌<◌}
use mathlib.Core.Path.{◌≡◌, refl, sym, ap, ap₂, ◌∙◌}
use mathlib.Core.Bool.{Bool, true, false, not, ◌&&◌, ◌||◌, false≢true}
use mathlib.Core.List.{List, [], ◌∷◌, map}
use lib.Dec.{T, ltb}
use lib.ListN.{get_or}
use Rattle.whole.specs.Count.{◌∈◌}
use Rattle.plane.specs.declared.Point.{Point}
use Rattle.plane.specs.declared.Segment.{Segment}
use Rattle.plane.specs.Plane.{grid, is_boundary, is_end}
use Rattle.plane.proofs.Accepted.{Across}
use Rattle.scene.specs.declared.Shape.TheVariants.{Line, Region}
use Rattle.scene.specs.declared.Layout.{Layout}
use Rattle.scene.specs.declared.Scene.{Scene}
use Rattle.scene.specs.Conditions.{has_segments, half, left_test, segments}
use Rattle.check_verdict.proofs.Laws.{SoundObject, SoundScene, across, segment_in}
use Rattle.flags.specs.Flags.{has_segment, has_end, on_object, is_bound}
use Rattle.flags.specs.Elements.{elements_as}
use Rattle.cells_matrix.proofs.Common.{across_swap}
use Rattle.scene_keys.specs.Keyed.{element_point}
use Rattle.scene_keys.proofs.Elements.{point_of_half}
use Rattle.flags_meetings.specs.Met.{degree}
use Rattle.flags_meetings.proofs.PointKinds.{Kind, none, bound, inner, kind_of}
use Rattle.flags_classes.specs.declared.Classes.{Classes}
use Rattle.flags_table.specs.Table.{shared, unshared, flags_of_f_by, flags_of_g_by}
use Rattle.flags_table.proofs.Sizes.{Size, nought, one, more, size_of}
use Rattle.flags_table.proofs.Ends.{bound_degree, end_degree, own_degree, end_of_half, on_degree}
use Rattle.walk_events.specs.Taking.{tests_of, passes, own_tests}
use Rattle.walk_flags.specs.OneTaken.{met_by_f, met_by_g, class_by_f, class_by_g}
use Rattle.walk_flags.proofs.OfClass.{is_unshared, is_shared_lem}

-- ---- tests

inner_inner_lem : {p z e m q y d k : Bool} → Kind p z e m → Kind q y d k → p ≡ true → q && not e && not d ≡ m && k
inner_inner_lem none b h = absurd (false≢true h)
inner_inner_lem bound none h = refl
inner_inner_lem bound bound h = refl
inner_inner_lem bound inner h = refl
inner_inner_lem inner none h = refl
inner_inner_lem inner bound h = refl
inner_inner_lem inner inner h = refl

bound_inner_lem : (e : Bool) {q y d k : Bool} → Kind q y d k → e && q && not d ≡ e && k
bound_inner_lem true none = refl
bound_inner_lem true bound = refl
bound_inner_lem true inner = refl
bound_inner_lem false n = refl

inner_bound : (e : Bool) {q y d k : Bool} → Kind q y d k → e && q && not d ≡ k && e
inner_bound true none = refl
inner_bound true bound = refl
inner_bound true inner = refl
inner_bound false none = refl
inner_bound false bound = refl
inner_bound false inner = refl

bound_alone : (e : Bool) {q y d k w x r : Bool} → Kind q y d k → Size w x r → e && not q ≡ e && (y && w) || e && (y && x) || e && (y && r)
bound_alone true none nought = refl
bound_alone true none one = refl
bound_alone true none more = refl
bound_alone true bound n = refl
bound_alone true inner n = refl
bound_alone false b n = refl

alone_bound : (e : Bool) {q y d k : Bool} → Kind q y d k → e && not q ≡ y && e
alone_bound true none = refl
alone_bound true bound = refl
alone_bound true inner = refl
alone_bound false none = refl
alone_bound false bound = refl
alone_bound false inner = refl

-- ---- an element of one object beside the other

module _ {s : List ℕ} {own other : Layout} (is : SoundObject s own) (are : SoundObject s other) (has : has_segments own.shape ≡ true) (have : has_segments other.shape ≡ true)
    (apart : Across (segments s own) (segments s other)) (i : ℕ) (h : i < own.count) where
  abbrev p : Point
  p = element_point s own i

  abbrev t : Segment
  t = (half s own i).segment

  at_end_lem : T (is_end t (grid p))
  at_end_lem = end_of_half is has i

  m : t ∈ segments s own
  m = segment_in is has i h

  bound_own : is_bound (segments s own) p ≡ is_boundary (degree s own p)
  bound_own = bound_degree is has p

  bound_other : is_bound (segments s other) p ≡ is_boundary (degree s other p)
  bound_other = bound_degree are have p

  lies_on : on_object (segments s other) p ≡ ltb 0 (degree s other p)
  lies_on = on_degree is are have apart p t m at_end_lem

  has_it : has_end (segments s other) p ≡ ltb 0 (degree s other p)
  has_it = end_degree are have p

  there : ltb 0 (degree s own p) ≡ true
  there = own_degree is has p t m at_end_lem

module _ {s : List ℕ} {sc : Scene} (notes : List ℕ) (o : SoundScene s sc) (f : sc.f.shape ≡ Line) where
  has_f : has_segments sc.f.shape ≡ true
  has_f = ap has_segments f

  abbrev F : List Segment
  F = segments s sc.f

  abbrev G : List Segment
  G = segments s sc.g

  module _ (g : sc.g.shape ≡ Line) where
    has_g : has_segments sc.g.shape ≡ true
    has_g = ap has_segments g

    module _ (i : ℕ) (h : i < sc.f.count) where
      abbrev v : Point
      v = element_point s sc.f i

      abbrev a : ℕ
      a = degree s sc.f v

      abbrev b : ℕ
      b = degree s sc.g v

      abbrev tests : Point → List Bool
      tests q =
          (left_test s sc.f i && has_segment G (half s sc.f i).segment)
          ∷ (has_end G q && not (is_bound F q) && not (is_bound G q))
          ∷ (left_test s sc.f i && not (has_segment G (half s sc.f i).segment))
          ∷ (is_bound F q && on_object G q && not (is_bound G q))
          ∷ (is_bound F q && is_bound G q)
          ∷ (is_bound F q && not (on_object G q))
          ∷ []

      pub line_line_f : map (passes s sc.f i) (own_tests true s sc.f sc.g) ≡ flags_of_f_by Line Line (met_by_f s sc notes i) (class_by_f s sc notes i)
      line_line_f =
          let note : ℕ → ℕ = λ k. get_or notes k 0 in
          let e = bound_own o.f_sound o.g_sound has_f has_g (across o) i h in
          let d = bound_other o.f_sound o.g_sound has_f has_g (across o) i h in
          let q = lies_on o.f_sound o.g_sound has_f has_g (across o) i h in
          let r = has_it o.f_sound o.g_sound has_f has_g (across o) i h in
          let w = there o.f_sound o.g_sound has_f has_g (across o) i h in
          ap₂ (λ k l. map (passes s sc.f i) (tests_of true (elements_as s sc.f k) (elements_as s sc.g l))) f g
          ∙ ap tests (sym (point_of_half s sc.f has_f i))
          ∙ (λ j. is_shared_lem s sc.f sc.g note i j ∷ (r j && not (e j) && not (d j)) ∷ is_unshared s sc.f sc.g note i j ∷ (e j && q j && not (d j)) ∷ (e j && d j) ∷ (e j && not (q j)) ∷ [])
          ∙ (λ j. shared c ∷ inner_inner_lem (kind_of a) (kind_of b) w j ∷ unshared c ∷ bound_inner_lem (is_boundary a) (kind_of b) j ∷ (is_boundary a && is_boundary b) ∷ bound_alone (is_boundary a) (kind_of b) (size_of (get_or notes i 0)) j ∷ [])
        where
          c : Classes
          c = class_by_f s sc notes i

    module _ (note j : ℕ) (h : j < sc.g.count) where
      abbrev vg : Point
      vg = element_point s sc.g j

      abbrev ag : ℕ
      ag = degree s sc.f vg

      abbrev bg : ℕ
      bg = degree s sc.g vg

      abbrev tests_g : Point → List Bool
      tests_g q =
          (left_test s sc.g j && not (has_segment F (half s sc.g j).segment))
          ∷ (is_bound G q && on_object F q && not (is_bound F q))
          ∷ (is_bound G q && not (on_object F q))
          ∷ []

      -- whatever note the meeting has
      pub line_line_g : map (passes s sc.g j) (own_tests false s sc.g sc.f) ≡ flags_of_g_by Line Line (met_by_g s sc notes note j) (class_by_g s sc notes j)
      line_line_g =
          let e = bound_own o.g_sound o.f_sound has_g has_f (across_swap (across o)) j h in
          let d = bound_other o.g_sound o.f_sound has_g has_f (across_swap (across o)) j h in
          let q = lies_on o.g_sound o.f_sound has_g has_f (across_swap (across o)) j h in
          ap₂ (λ k l. map (passes s sc.g j) (tests_of false (elements_as s sc.g k) (elements_as s sc.f l))) g f
          ∙ ap tests_g (sym (point_of_half s sc.g has_g j))
          ∙ (λ r. is_unshared s sc.g sc.f (λ k. get_or notes (1024 + k) 0) j r ∷ (e r && q r && not (d r)) ∷ (e r && not (q r)) ∷ [])
          ∙ (λ r. unshared (class_by_g s sc notes j) ∷ inner_bound (is_boundary bg) (kind_of ag) r ∷ alone_bound (is_boundary bg) (kind_of ag) r ∷ [])

  -- G of 2, 3
  pub line_region_g : sc.g.shape ≡ Region → (note j : ℕ) → map (passes s sc.g j) (own_tests false s sc.g sc.f) ≡ flags_of_g_by Line Region (met_by_g s sc notes note j) (class_by_g s sc notes j)
  line_region_g g note j =
      ap₂ (λ k l. map (passes s sc.g j) (tests_of false (elements_as s sc.g k) (elements_as s sc.f l))) g f
      ∙ (λ r. is_unshared s sc.g sc.f (λ k. get_or notes (1024 + k) 0) j r ∷ [])
