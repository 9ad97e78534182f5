-- What taking an element sets for its object, against the whole of the other: a point its flags; a left halfsegment those of its segment; any
-- halfsegment those of its dominating point. proofs/AllTaken.antt says that all elements together set the flags of the single call.
use Rattle.std.specs.Prelude.{ℕ, Bool, true, false, not, ◌&&◌, List, [], ◌∷◌, map}
use Rattle.plane.specs.declared.Point.{Point}
use Rattle.plane.specs.declared.Segment.{Segment}
use Rattle.plane.specs.Plane.{grid, midpoint, inside, dominating}
use Rattle.scene.specs.declared.Layout.{Layout}
use Rattle.scene.specs.Conditions.{half, left_test}
use Rattle.flags.specs.Flags.{Edge, Elements, points, line, region, outline, has_point, has_segment, on_object, has_end, is_bound, joins, mid_inside, mid_outside, pack}
use Rattle.flags.specs.Elements.{point_of, edge_of, elements_of, has_edge}

-- a flag of a point, of a segment, or of an end of a segment
pub data Test : Type 0 where
  at : (Point → Bool) → Test
  whole : (Edge → Bool) → Test
  end : (Segment → Point → Bool) → Test

-- (0/1), (1/0), (1/2), (2/1)
abbrev pub class_tests : List Edge → List Test → List Test
class_tests other more =
    whole (λ f. f.ia && mid_outside other f)
    ∷ whole (λ f. not f.ia && mid_outside other f)
    ∷ whole (λ f. f.ia && mid_inside other f)
    ∷ whole (λ f. not f.ia && mid_inside other f)
    ∷ more

-- the flags of F (true), or of G (false), bit 0 first: own elements beside those of the other object
abbrev pub tests_of : Bool → Elements → Elements → List Test
tests_of true (points F) (points G) = at (λ f. not (has_point G f)) ∷ at (λ f. has_point G f) ∷ []
tests_of true (points F) (line G) = at (λ f. not (on_object G f)) ∷ at (λ f. on_object G f && not (is_bound G f)) ∷ at (λ f. is_bound G f) ∷ []
tests_of true (points F) (region G) =
    at (λ f. inside (outline G) (grid f))
    ∷ at (λ f. on_object (outline G) f)
    ∷ at (λ f. not (inside (outline G) (grid f)) && not (on_object (outline G) f))
    ∷ []
tests_of true (line F) (points G) = []
tests_of true (line F) (line G) =
    whole (λ f. has_segment G f.segment)
    ∷ end (λ f v. has_end G v && not (is_bound F v) && not (is_bound G v))
    ∷ whole (λ f. not (has_segment G f.segment))
    ∷ end (λ f v. is_bound F v && on_object G v && not (is_bound G v))
    ∷ end (λ f v. is_bound F v && is_bound G v)
    ∷ end (λ f v. is_bound F v && not (on_object G v))
    ∷ []
tests_of true (line F) (region G) =
    whole (λ f. not (has_segment (outline G) f.segment) && inside (outline G) (midpoint f.segment))
    ∷ whole (λ f. has_segment (outline G) f.segment)
    ∷ whole (λ f. not (has_segment (outline G) f.segment) && not (inside (outline G) (midpoint f.segment)))
    ∷ end (λ f v. joins (outline G) f v && not (is_bound F v))
    ∷ end (λ f v. inside (outline G) (grid v) && is_bound F v)
    ∷ end (λ f v. joins (outline G) f v && is_bound F v)
    ∷ end (λ f v. not (inside (outline G) (grid v)) && is_bound F v && not (on_object (outline G) v))
    ∷ []
tests_of true (region F) (points G) = []
tests_of true (region F) (line G) = []
tests_of true (region F) (region G) =
    class_tests G
    (whole (λ f. f.ia && has_edge G f.segment true)
    ∷ whole (λ f. not f.ia && has_edge G f.segment false)
    ∷ whole (λ f. has_edge G f.segment (not f.ia))
    ∷ end (λ f v. joins (outline G) f v)
    ∷ [])
tests_of false (points G) (points F) = at (λ g. not (has_point F g)) ∷ []
tests_of false (points G) (line F) = []
tests_of false (points G) (region F) = []
tests_of false (line G) (points F) = end (λ g v. is_bound G v && not (has_point F v)) ∷ []
tests_of false (line G) (line F) =
    whole (λ g. not (has_segment F g.segment))
    ∷ end (λ g v. is_bound G v && on_object F v && not (is_bound F v))
    ∷ end (λ g v. is_bound G v && not (on_object F v))
    ∷ []
tests_of false (line G) (region F) = []
tests_of false (region G) (points F) = []
tests_of false (region G) (line F) = whole (λ g. not (has_segment F g.segment)) ∷ []
tests_of false (region G) (region F) = class_tests F []

-- ---- taking an element

-- a point's flag comes with the point, a segment's with its left halfsegment, an end's with the halfsegment that it dominates
abbrev pub passes : List ℕ → Layout → ℕ → Test → Bool
passes s l i (at f) = f (point_of s l i)
passes s l i (whole f) = left_test s l i && f (edge_of s l i)
passes s l i (end f) = f (half s l i).segment (dominating (half s l i))

module _ (isF : Bool) (s : List ℕ) (own other : Layout) where
  abbrev pub own_tests : List Test
  own_tests = tests_of isF (elements_of s own) (elements_of s other)

  -- the flags that the element i sets, as a vector
  abbrev pub taken_flags : ℕ → ℕ
  taken_flags i = pack (map (passes s own i) own_tests)
