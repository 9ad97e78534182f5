-- 1, 1, 1, 2 and 1, 3: what taking a point sets, and a halfsegment of a line beside points, off the table.
use Prim.Native.Nat.{ℕ, ◌<◌}
use mathlib.Core.Path.{◌≡◌, refl, sym, ap, ap₂, ◌∙◌}
use mathlib.Core.Bool.{Bool, true, false, not, ◌&&◌, ◌||◌, and_comm}
use mathlib.Core.List.{List, [], ◌∷◌, map}
use lib.Dec.{eqb, ltb}
use lib.ListN.{get_or}
use Rattle.plane.specs.declared.Point.{Point}
use Rattle.plane.specs.Plane.{grid, inside, is_boundary}
use Rattle.scene.specs.declared.Shape.TheVariants.{Points, Line, Region}
use Rattle.scene.specs.declared.Scene.{Scene}
use Rattle.scene.specs.Conditions.{has_segments, segments}
use Rattle.sweep_laws.specs.Noted.{Noted}
use Rattle.check_verdict.proofs.Laws.{SoundScene}
use Rattle.flags.specs.Flags.{has_point, on_object, is_bound}
use Rattle.flags.specs.Elements.{points_of, elements_as}
use Rattle.flags.proofs.Elements.{outline_edges}
use Rattle.scene_keys.specs.Keyed.{element_point}
use Rattle.scene_keys.proofs.Elements.{point_of_half}
use Rattle.flags_meetings.specs.Met.{degree, is_inner}
use Rattle.flags_meetings.proofs.PointKinds.{Kind, none, bound, inner, kind_of}
use Rattle.flags_classes.specs.declared.Classes.{Classes}
use Rattle.flags_table.specs.Table.{flags_of_f_by, flags_of_g_by}
use Rattle.flags_table.proofs.Sizes.{Size, nought, one, more, size_of}
use Rattle.flags_table.proofs.Degrees.{point_itself, own_point, point_absent, point_there}
use Rattle.flags_table.proofs.Ends.{bound_degree}
use Rattle.flags_table.proofs.Noting.{point_on, point_inside}
use Rattle.walk_events.specs.Taking.{tests_of, passes, own_tests}
use Rattle.walk_flags.specs.OneTaken.{met_by_f, met_by_g}

-- ---- tests

alone_one : {q y d k w x r : Bool} → Kind q y d k → Size w x r → y ≡ y && w || y && x || y && r
alone_one none nought = refl
alone_one none one = refl
alone_one none more = refl
alone_one bound n = refl
alone_one inner n = refl

off_line : {q y d k w x r : Bool} → Kind q y d k → Size w x r → not (q || r) ≡ y && w || y && x
off_line none nought = refl
off_line none one = refl
off_line none more = refl
off_line bound n = refl
off_line inner n = refl

on_line : {q y d k : Bool} → Kind q y d k → (r : Bool) → (q || r) && not d ≡ y && r || k
on_line none true = refl
on_line none false = refl
on_line bound r = refl
on_line inner r = refl

on_outline : {q y d k : Bool} → Kind q y d k → (r : Bool) → q || r ≡ y && r || d || k
on_outline none true = refl
on_outline none false = refl
on_outline bound r = refl
on_outline inner r = refl

in_outline : {q y d k : Bool} → Kind q y d k → (x : Bool) → not q && x ≡ y && x
in_outline none x = refl
in_outline bound x = refl
in_outline inner x = refl

off_outline : {q y d k w x r : Bool} → Kind q y d k → Size w x r → not (not q && x) && not (q || r) ≡ y && w
off_outline none nought = refl
off_outline none one = refl
off_outline none more = refl
off_outline bound n = refl
off_outline inner n = refl

and_one : (y : Bool) {e : Bool} → e ≡ true → y ≡ y && e
and_one true w = sym w
and_one false w = refl

module _ {s : List ℕ} {sc : Scene} (notes : List ℕ) (o : SoundScene s sc) (f : sc.f.shape ≡ Points) where
  module _ (i : ℕ) (h : i < sc.f.count) (c : Classes) where
    abbrev p : Point
    p = element_point s sc.f i

    abbrev b : ℕ
    b = degree s sc.g p

    abbrev note : ℕ
    note = get_or notes i 0

    -- in F the point is bound, so the meeting is that of a bound point
    single : is_boundary (degree s sc.f p) ≡ true
    single = own_point o.f_sound f i h

    pub points_points_f : sc.g.shape ≡ Points → map (passes s sc.f i) (own_tests true s sc.f sc.g) ≡ flags_of_f_by Points Points (met_by_f s sc notes i) c
    points_points_f g =
        ap₂ (λ k l. map (passes s sc.f i) (tests_of true (elements_as s sc.f k) (elements_as s sc.g l))) f g
        ∙ ap (λ v. not (has_point (points_of s sc.g) v) ∷ has_point (points_of s sc.g) v ∷ []) (sym (point_itself s sc.f f i))
        ∙ (λ j. point_absent o.g_sound g p j ∷ point_there o.g_sound g p j ∷ [])
        ∙ (λ j. alone_one (kind_of b) (size_of note) j ∷ is_boundary b ∷ [])
        ∙ (λ j. (sym single j && (eqb b 0 && eqb note 0) || sym single j && (eqb b 0 && eqb note 1) || sym single j && (eqb b 0 && ltb 1 note)) ∷ (sym single j && is_boundary b) ∷ [])

    module _ (n : Noted s sc notes) where
      pub points_line_f : sc.g.shape ≡ Line → map (passes s sc.f i) (own_tests true s sc.f sc.g) ≡ flags_of_f_by Points Line (met_by_f s sc notes i) c
      points_line_f g =
          let has = ap has_segments g in
          let on = point_on n f o.g_sound has i h in
          let bound_is = bound_degree o.g_sound has p in
          ap₂ (λ k l. map (passes s sc.f i) (tests_of true (elements_as s sc.f k) (elements_as s sc.g l))) f g
          ∙ ap (λ v. not (on_object (segments s sc.g) v) ∷ (on_object (segments s sc.g) v && not (is_bound (segments s sc.g) v)) ∷ is_bound (segments s sc.g) v ∷ []) (sym (point_itself s sc.f f i))
          ∙ (λ j. not (on j) ∷ (on j && not (bound_is j)) ∷ bound_is j ∷ [])
          ∙ (λ j. off_line (kind_of b) (size_of note) j ∷ on_line (kind_of b) (ltb 1 note) j ∷ is_boundary b ∷ [])
          ∙ (λ j. (sym single j && (eqb b 0 && eqb note 0) || sym single j && (eqb b 0 && eqb note 1)) ∷ (sym single j && (eqb b 0 && ltb 1 note) || sym single j && is_inner b) ∷ (sym single j && is_boundary b) ∷ [])

      pub points_region_f : sc.g.shape ≡ Region → map (passes s sc.f i) (own_tests true s sc.f sc.g) ≡ flags_of_f_by Points Region (met_by_f s sc notes i) c
      points_region_f g =
          let has = ap has_segments g in
          let on = point_on n f o.g_sound has i h in
          let into = point_inside n f o.g_sound has i h in
          ap₂ (λ k l. map (passes s sc.f i) (tests_of true (elements_as s sc.f k) (elements_as s sc.g l))) f g
          ∙ ap₂ (λ H v. inside H (grid v) ∷ on_object H v ∷ (not (inside H (grid v)) && not (on_object H v)) ∷ []) (outline_edges s sc.g) (sym (point_itself s sc.f f i))
          ∙ (λ j. into j ∷ on j ∷ (not (into j) && not (on j)) ∷ [])
          ∙ (λ j. in_outline (kind_of b) (eqb note 1) j ∷ on_outline (kind_of b) (ltb 1 note) j ∷ off_outline (kind_of b) (size_of note) j ∷ [])
          ∙ (λ j. (sym single j && (eqb b 0 && eqb note 1)) ∷ (sym single j && (eqb b 0 && ltb 1 note) || sym single j && is_boundary b || sym single j && is_inner b) ∷ (sym single j && (eqb b 0 && eqb note 0)) ∷ [])

  module _ (note j : ℕ) (h : j < sc.g.count) (c : Classes) where
    abbrev q : Point
    q = element_point s sc.g j

    abbrev ag : ℕ
    ag = degree s sc.f q

    abbrev bg : ℕ
    bg = degree s sc.g q

    absent : not (has_point (points_of s sc.f) q) ≡ eqb ag 0
    absent = point_absent o.f_sound f q

    pub points_points_g : sc.g.shape ≡ Points → map (passes s sc.g j) (own_tests false s sc.g sc.f) ≡ flags_of_g_by Points Points (met_by_g s sc notes note j) c
    points_points_g g =
        ap₂ (λ k l. map (passes s sc.g j) (tests_of false (elements_as s sc.g k) (elements_as s sc.f l))) g f
        ∙ ap (λ v. not (has_point (points_of s sc.f) v) ∷ []) (sym (point_itself s sc.g g j))
        ∙ (λ r. absent r ∷ [])
        ∙ (λ r. and_one (eqb ag 0) (own_point o.g_sound g j h) r ∷ [])

    pub points_line_g : sc.g.shape ≡ Line → map (passes s sc.g j) (own_tests false s sc.g sc.f) ≡ flags_of_g_by Points Line (met_by_g s sc notes note j) c
    points_line_g g =
        let has = ap has_segments g in
        ap₂ (λ k l. map (passes s sc.g j) (tests_of false (elements_as s sc.g k) (elements_as s sc.f l))) g f
        ∙ ap (λ u. (is_bound (segments s sc.g) u && not (has_point (points_of s sc.f) u)) ∷ []) (sym (point_of_half s sc.g has j))
        ∙ (λ r. (bound_degree o.g_sound has q r && absent r) ∷ [])
        ∙ (λ r. and_comm (is_boundary bg) (eqb ag 0) r ∷ [])
