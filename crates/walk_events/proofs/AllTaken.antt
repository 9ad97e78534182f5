-- Taking every element of an object sets the flags of the single call: a segment's come with its left halfsegment, an end's with some halfsegment that it
-- dominates, since every halfsegment has its partner.
use Prim.Native.Nat.{ℕ, zero, suc}
use mathlib.Core.Path.{◌≡◌, refl, sym, ap, subst, ◌∙◌}
use mathlib.Core.Logic.{⊎_elim}
use mathlib.Core.Bool.{Bool, true, false, not, ◌&&◌, ◌||◌}
use mathlib.Core.List.{List, [], ◌∷◌, map}
use lib.Dec.{T}
use lib.ListN.{get_or}
use Rattle.whole.specs.Count.{◌∈◌, some}
use Rattle.whole.proofs.Logic.{or_cases, or_left, or_right, same_test, some_find, some_make}
use Rattle.plane.specs.declared.Point.{Point}
use Rattle.plane.specs.declared.Segment.{Segment}
use Rattle.plane.specs.declared.Halfsegment.{Halfsegment}
use Rattle.plane.specs.Plane.{dominating, grid, midpoint, inside}
use Rattle.plane.proofs.Order.{half_of}
use Rattle.scene.specs.declared.Shape.{Shape}
use Rattle.scene.specs.declared.Shape.TheVariants.{Points, Line, Region}
use Rattle.scene.specs.declared.Layout.{Layout}
use Rattle.scene.specs.Conditions.{elements, has_segments, half, segments}
use Rattle.scene_segments.proofs.Indices.{element_in, in_element}
use Rattle.check_verdict.proofs.Laws.{SoundObject, segment_in, half_of_lem}
use Rattle.flags.specs.Flags.{Edge, Elements, points, line, region, outline, has_point, has_segment, on_object, has_end, is_bound, joins, has_some_end, mid_inside, mid_outside, flags_of_f, flags_of_g, pack}
use Rattle.flags.specs.Elements.{point_of, points_of, edges, elements_as, elements_of, has_edge}
use Rattle.flags.proofs.Elements.{some_same, some_never, some_map, outline_edges, some_edges, both_above_lem, both_below, opposite}
use Rattle.flags.proofs.Bits.{pack_bit, same_number}
use Rattle.flags.proofs.Marks.{gather, gather_bit}
use Rattle.walk_events.specs.Taking.{Test, at, whole, end, tests_of, passes, own_tests, taken_flags}

-- ---- the vectors of a list of elements, test by test

get_d_map : (f : Test → Bool) (ts : List Test) (k : ℕ) (p : ℕ → Test → Bool) (l : List ℕ) → ((t : Test) → f t ≡ some (λ i. p i t) l)
    → get_or (map f ts) k false ≡ some (λ i. get_or (map (p i) ts) k false) l
get_d_map f [] k p l e = sym (some_never l)
get_d_map f (t ∷ ts) zero p l e = e t
get_d_map f (t ∷ ts) (suc k) p l e = get_d_map f ts k p l e

pub gather_tests : (p : ℕ → Test → Bool) (ts : List Test) (l : List ℕ) → gather (λ i. pack (map (p i) ts)) l ≡ pack (map (λ t. some (λ i. p i t) l) ts)
gather_tests p ts l =
    same_number (gather (λ i. pack (map (p i) ts)) l) (pack (map (λ t. some (λ i. p i t) l) ts))
    (λ k. gather_bit (λ i. pack (map (p i) ts)) l k
    ∙ some_same _ (λ i. get_or (map (p i) ts) k false) (λ i. pack_bit (map (p i) ts) k) l
    ∙ sym (get_d_map (λ t. some (λ i. p i t) l) ts k p l (λ t. refl))
    ∙ sym (pack_bit (map (λ t. some (λ i. p i t) l) ts) k))

-- ---- one test over all elements

module _ (s : List ℕ) (l : Layout) where
  -- some element passes
  abbrev pub some_passes : Test → Bool
  some_passes t = some (λ i. passes s l i t) (elements l)

  at_points : (f : Point → Bool) → some_passes (at f) ≡ some f (points_of s l)
  unfolding points_of
  at_points f = sym (some_map f (point_of s l) (elements l))

  whole_edges : (f : Edge → Bool) → some_passes (whole f) ≡ some f (edges s l)
  whole_edges f = sym (some_edges s l f)

  edges_segments : (f : Segment → Bool) → some (λ (e : Edge). f e.segment) (edges s l) ≡ some f (segments s l)
  edges_segments f = sym (some_map f (λ (e : Edge). e.segment) (edges s l)) ∙ ap (some f) (outline_edges s l)

  whole_segments : (f : Segment → Bool) → some_passes (whole (λ e. f e.segment)) ≡ some f (segments s l)
  whole_segments f = whole_edges (λ e. f e.segment) ∙ edges_segments f

module _ {s : List ℕ} {l : Layout} (o : SoundObject s l) (has : has_segments l.shape ≡ true) where
  end_segments : (f : Segment → Point → Bool) → some_passes s l (end f) ≡ has_some_end f (segments s l)
  unfolding dominating
  end_segments f = same_test (some here (elements l)) (has_some_end f (segments s l)) to from
    where
      here : ℕ → Bool
      here i = f (half s l i).segment (dominating (half s l i))

      one : (b : Bool) (t : Segment) → T (f t (dominating (half_of b t))) → T (f t t.left || f t t.right)
      one true t h = or_left (f t t.left) (f t t.right) h
      one false t h = or_right (f t t.left) (f t t.right) h

      to : T (some here (elements l)) → T (has_some_end f (segments s l))
      to h =
          let w = some_find here (elements l) h in
          some_make (λ t. f t t.left || f t t.right) (segment_in o has w.0 (in_element l w.0 w.1)) (one (half s l w.0).is_left (half s l w.0).segment w.2)

      found_at : (b : Bool) {t : Segment} → t ∈ segments s l → T (f t (dominating (half_of b t))) → T (some here (elements l))
      found_at b m h =
          let w = half_of_lem o b m in
          some_make here (element_in l w.0 w.1) (subst (λ (k : Halfsegment). T (f k.segment (dominating k))) (sym w.2) h)

      from : T (has_some_end f (segments s l)) → T (some here (elements l))
      from h =
          let w = some_find (λ t. f t t.left || f t t.right) (segments s l) h in
          ⊎_elim (found_at true w.1) (found_at false w.1) (or_cases (f w.0 w.0.left) (f w.0 w.0.right) w.2)

-- ---- all tests

-- the flags of F, or of G, own elements first
abbrev pub flags_of : Bool → Elements → Elements → List Bool
flags_of true own other = flags_of_f own other
flags_of false own other = flags_of_g other own

module _ {s : List ℕ} {l : Layout} (o : SoundObject s l) where
  abbrev passing : List Test → List Bool
  passing = map (some_passes s l)

  points_all : (isF : Bool) (other : Elements) → passing (tests_of isF (points (points_of s l)) other) ≡ flags_of isF (points (points_of s l)) other
  points_all true (points G) = λ j. at_points s l (λ f. not (has_point G f)) j ∷ at_points s l (λ f. has_point G f) j ∷ []
  points_all true (line G) = λ j. at_points s l (λ f. not (on_object G f)) j ∷ at_points s l (λ f. on_object G f && not (is_bound G f)) j ∷ at_points s l (λ f. is_bound G f) j ∷ []
  points_all true (region G) = λ j. at_points s l (λ f. inside (outline G) (grid f)) j ∷ at_points s l (λ f. on_object (outline G) f) j ∷ at_points s l (λ f. not (inside (outline G) (grid f)) && not (on_object (outline G) f)) j ∷ []
  points_all false (points F) = λ j. at_points s l (λ g. not (has_point F g)) j ∷ []
  points_all false (line F) = refl
  points_all false (region F) = refl

  module _ (has : has_segments l.shape ≡ true) where
    abbrev own : List Segment
    own = segments s l

    by_end : (f : Segment → Point → Bool) → some_passes s l (end f) ≡ has_some_end f own
    by_end = end_segments o has

    by_whole : (f : Segment → Bool) → some_passes s l (whole (λ e. f e.segment)) ≡ some f own
    by_whole = whole_segments s l

    line_all : (isF : Bool) (other : Elements) → passing (tests_of isF (line own) other) ≡ flags_of isF (line own) other
    line_all true (points G) = refl
    line_all true (line G) = λ j.
        by_whole (λ f. has_segment G f) j
        ∷ by_end (λ f v. has_end G v && not (is_bound own v) && not (is_bound G v)) j
        ∷ by_whole (λ f. not (has_segment G f)) j
        ∷ by_end (λ f v. is_bound own v && on_object G v && not (is_bound G v)) j
        ∷ by_end (λ f v. is_bound own v && is_bound G v) j
        ∷ by_end (λ f v. is_bound own v && not (on_object G v)) j
        ∷ []
    line_all true (region G) = λ j.
        by_whole (λ f. not (has_segment (outline G) f) && inside (outline G) (midpoint f)) j
        ∷ by_whole (λ f. has_segment (outline G) f) j
        ∷ by_whole (λ f. not (has_segment (outline G) f) && not (inside (outline G) (midpoint f))) j
        ∷ by_end (λ f v. joins (outline G) f v && not (is_bound own v)) j
        ∷ by_end (λ f v. inside (outline G) (grid v) && is_bound own v) j
        ∷ by_end (λ f v. joins (outline G) f v && is_bound own v) j
        ∷ by_end (λ f v. not (inside (outline G) (grid v)) && is_bound own v && not (on_object (outline G) v)) j
        ∷ []
    line_all false (points F) = λ j. by_end (λ g v. is_bound own v && not (has_point F v)) j ∷ []
    line_all false (line F) = λ j.
        by_whole (λ g. not (has_segment F g)) j
        ∷ by_end (λ g v. is_bound own v && on_object F v && not (is_bound F v)) j
        ∷ by_end (λ g v. is_bound own v && not (on_object F v)) j
        ∷ []
    line_all false (region F) = refl

    abbrev own_edges : List Edge
    own_edges = edges s l

    by_edge : (f : Edge → Bool) → some_passes s l (whole f) ≡ some f own_edges
    by_edge = whole_edges s l

    region_all : (isF : Bool) (other : Elements) → passing (tests_of isF (region own_edges) other) ≡ flags_of isF (region own_edges) other
    region_all true (points G) = refl
    region_all true (line G) = refl
    region_all true (region G) = λ j.
        by_edge (λ f. f.ia && mid_outside G f) j
        ∷ by_edge (λ f. not f.ia && mid_outside G f) j
        ∷ by_edge (λ f. f.ia && mid_inside G f) j
        ∷ by_edge (λ f. not f.ia && mid_inside G f) j
        ∷ (by_edge (λ f. f.ia && has_edge G f.segment true) ∙ sym (both_above_lem own_edges G)) j
        ∷ (by_edge (λ f. not f.ia && has_edge G f.segment false) ∙ sym (both_below own_edges G)) j
        ∷ (by_edge (λ f. has_edge G f.segment (not f.ia)) ∙ sym (opposite own_edges G)) j
        ∷ (by_end (λ f v. joins (outline G) f v) ∙ ap (has_some_end (λ f v. joins (outline G) f v)) (sym (outline_edges s l))) j
        ∷ []
    region_all false (points F) = refl
    region_all false (line F) = λ j.
        (by_whole (λ g. not (has_segment F g)) ∙ ap (some (λ g. not (has_segment F g))) (sym (outline_edges s l))) j ∷ []
    region_all false (region F) = λ j.
        by_edge (λ f. f.ia && mid_outside F f) j
        ∷ by_edge (λ f. not f.ia && mid_outside F f) j
        ∷ by_edge (λ f. f.ia && mid_inside F f) j
        ∷ by_edge (λ f. not f.ia && mid_inside F f) j
        ∷ []

  pub all_tests : (isF : Bool) (other : Elements) → passing (tests_of isF (elements_of s l) other) ≡ flags_of isF (elements_of s l) other
  all_tests isF other = go l.shape refl
    where
      go : (k : Shape) → l.shape ≡ k → passing (tests_of isF (elements_as s l k) other) ≡ flags_of isF (elements_as s l k) other
      go Points e = points_all isF other
      go Line e = line_all (ap has_segments e) isF other
      go Region e = region_all (ap has_segments e) isF other

-- so all elements, taken, set the flags of Flags.antt
pub all_flags : (isF : Bool) {s : List ℕ} {own : Layout} (other : Layout) → SoundObject s own
    → gather (taken_flags isF s own other) (elements own) ≡ pack (flags_of isF (elements_of s own) (elements_of s other))
all_flags isF {s} {own} other o = gather_tests (passes s own) (own_tests isF s own other) (elements own) ∙ ap pack (all_tests o isF (elements_of s other))
