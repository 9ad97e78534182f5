-- The topological flags: document 01's section "Flags, bit 0 first", over the elements of two objects, each flag as a test that computes. A flag is "some
-- element as named exists". `Sentences.antt` has each flag in words, with "some" and "every".
use Rattle.std.specs.Prelude.{ℕ, ◌+◌, ◌*◌, ◌/◌, ◌^◌, Bool, not, ◌&&◌, ◌||◌, List, [], ◌∷◌, map}
use Rattle.whole.specs.Count.{bit, odd, some}
use Rattle.plane.specs.declared.Point.{Point}
use Rattle.plane.specs.declared.Segment.{Segment}
use Rattle.plane.specs.Plane.{grid, midpoint, is_same_point, is_same_segment, is_end, is_on_some, inside, is_boundary, ends_at, Object}

-- ---- the elements of an object

-- A region's segment with its ia
pub record Edge : Type 0 where
  pub segment : Segment
  pub ia : Bool

pub data Elements : Type 0 where
  points : List Point → Elements
  line : List Segment → Elements
  region : List Edge → Elements

abbrev pub outline : List Edge → List Segment
outline l = map (λ (e : Edge). e.segment) l

-- the point set that the elements stand for
abbrev pub object : Elements → Object
object (points l) = Object.points l
object (line l) = Object.line l
object (region l) = Object.region (outline l)

abbrev pub segments_of : Elements → List Segment
segments_of (points l) = []
segments_of (line l) = l
segments_of (region l) = outline l

-- ---- what one element asks of the other object

-- the point is one of the object's; the segment is one of the object's
abbrev pub has_point : List Point → Point → Bool
has_point l v = some (is_same_point v) l

abbrev pub has_segment : List Segment → Segment → Bool
has_segment l s = some (is_same_segment s) l

-- the point lies on the object; it is an end of one of its segments; it is one of a line's boundary points, B(l)
abbrev pub on_object : List Segment → Point → Bool
on_object l v = is_on_some l (grid v)

abbrev pub has_end : List Segment → Point → Bool
has_end l v = some (λ t. is_end t (grid v)) l

abbrev pub is_bound : List Segment → Point → Bool
is_bound l v = is_boundary (ends_at l (grid v))

-- v is a common end of s and of an unequal segment of l: "poiIntersect unequal with a common end"
abbrev pub joins : List Segment → Segment → Point → Bool
joins l s v = some (λ t. not (is_same_segment s t) && is_end t (grid v)) l

-- some end of a segment of l
abbrev pub has_some_end : (Segment → Point → Bool) → List Segment → Bool
has_some_end f l = some (λ s. f s s.left || f s s.right) l

-- ---- the flags of each pair of types

-- "1, 1: a point absent from the other object, or present in both."
abbrev pub poi_disjoint : List Point → List Point → Bool
poi_disjoint F G = some (λ f. not (has_point G f)) F

abbrev pub poi_shared : List Point → List Point → Bool
poi_shared F G = some (λ f. has_point G f) F

-- "1, 2 and 1, 3: Definitions 2 and 3."
module _ (F : List Point) (G : List Segment) where
  abbrev pub poi_off : Bool
  poi_off = some (λ f. not (on_object G f)) F

  -- "the point lies on a segment of G and is none of G's boundary points"
  abbrev pub poi_on_interior : Bool
  poi_on_interior = some (λ f. on_object G f && not (is_bound G f)) F

  abbrev pub poi_on_bound : Bool
  poi_on_bound = some (λ f. is_bound G f) F

  abbrev pub bound_poi_disjoint : Bool
  bound_poi_disjoint = has_some_end (λ g v. is_bound G v && not (has_point F v)) G

  abbrev pub poi_inside : Bool
  poi_inside = some (λ f. inside G (grid f)) F

  abbrev pub poi_on_outline : Bool
  poi_on_outline = some (λ f. on_object G f) F

  abbrev pub poi_outside : Bool
  poi_outside = some (λ f. not (inside G (grid f)) && not (on_object G f)) F

module _ (F G : List Segment) where
  -- "2, 2: seg_shared, a segment in both; seg_unshared, one only in its own object"
  abbrev pub seg_shared : Bool
  seg_shared = some (λ f. has_segment G f) F

  abbrev pub seg_unshared : Bool
  seg_unshared = some (λ f. not (has_segment G f)) F

  -- "interior_poi_shared, an end in both objects and in neither boundary"
  abbrev pub interior_poi_shared : Bool
  interior_poi_shared = has_some_end (λ f v. has_end G v && not (is_bound F v) && not (is_bound G v)) F

  -- "bound_on_interior, an own boundary point on the other object but not in its boundary"
  abbrev pub bound_on_interior : Bool
  bound_on_interior = has_some_end (λ f v. is_bound F v && on_object G v && not (is_bound G v)) F

  -- "bound_shared, a point of both boundaries"
  abbrev pub bound_shared : Bool
  bound_shared = has_some_end (λ f v. is_bound F v && is_bound G v) F

  -- "bound_disjoint, an own boundary point not on the other object"
  abbrev pub bound_disjoint : Bool
  bound_disjoint = has_some_end (λ f v. is_bound F v && not (on_object G v)) F

  -- "2, 3: Definition 5". "A segment that isn't one of G is inside if its midpoint is inside G, and outside if not."
  abbrev pub seg_inside : Bool
  seg_inside = some (λ f. not (has_segment G f) && inside G (midpoint f)) F

  abbrev pub seg_outside : Bool
  seg_outside = some (λ f. not (has_segment G f) && not (inside G (midpoint f))) F

  -- "For poi_shared that end is none of F's boundary points ..; for bound_shared it is one of them."
  abbrev pub poi_joins : Bool
  poi_joins = has_some_end (λ f v. joins G f v && not (is_bound F v)) F

  abbrev pub bound_joins : Bool
  bound_joins = has_some_end (λ f v. joins G f v && is_bound F v) F

  abbrev pub bound_inside_test : Bool
  bound_inside_test = has_some_end (λ f v. inside G (grid v) && is_bound F v) F

  -- "In (vii) only the last clause ranges over g"
  abbrev pub bound_outside_test : Bool
  bound_outside_test = has_some_end (λ f v. not (inside G (grid v)) && is_bound F v && not (on_object G v)) F

-- "3, 3: Definition 6, the segment read without its two ends. .. Membership is that of the midpoint."
abbrev pub mid_inside : List Edge → Edge → Bool
mid_inside l e = inside (outline l) (midpoint e.segment)

abbrev pub mid_outside : List Edge → Edge → Bool
mid_outside l e = not (is_on_some (outline l) (midpoint e.segment)) && not (inside (outline l) (midpoint e.segment))

module _ (F G : List Edge) where
  abbrev pub class01 : Bool
  class01 = some (λ (f : Edge). f.ia && mid_outside G f) F

  abbrev pub class10 : Bool
  class10 = some (λ (f : Edge). not f.ia && mid_outside G f) F

  abbrev pub class12 : Bool
  class12 = some (λ (f : Edge). f.ia && mid_inside G f) F

  abbrev pub class21 : Bool
  class21 = some (λ (f : Edge). not f.ia && mid_inside G f) F

  abbrev pub class02 : Bool
  class02 = some (λ (f : Edge). some (λ (g : Edge). is_same_segment f.segment g.segment && (f.ia && g.ia)) G) F

  abbrev pub class20 : Bool
  class20 = some (λ (f : Edge). some (λ (g : Edge). is_same_segment f.segment g.segment && (not f.ia && not g.ia)) G) F

  abbrev pub class11 : Bool
  class11 =
      some (λ (f : Edge). some (λ (g : Edge). is_same_segment f.segment g.segment && (f.ia && not g.ia || not f.ia && g.ia)) G) F

  abbrev pub bound_poi_shared : Bool
  bound_poi_shared = has_some_end (λ f v. joins (outline G) f v) (outline F)

-- ---- the table, bit 0 first

abbrev pub flags_of_f : Elements → Elements → List Bool
flags_of_f (points F) (points G) = poi_disjoint F G ∷ poi_shared F G ∷ []
flags_of_f (points F) (line G) = poi_off F G ∷ poi_on_interior F G ∷ poi_on_bound F G ∷ []
flags_of_f (points F) (region G) = poi_inside F (outline G) ∷ poi_on_outline F (outline G) ∷ poi_outside F (outline G) ∷ []
flags_of_f (line F) (points G) = []
flags_of_f (line F) (line G) =
    seg_shared F G ∷ interior_poi_shared F G ∷ seg_unshared F G ∷ bound_on_interior F G ∷ bound_shared F G ∷ bound_disjoint F G ∷ []
flags_of_f (line F) (region G) =
    seg_inside F (outline G)
    ∷ seg_shared F (outline G)
    ∷ seg_outside F (outline G)
    ∷ poi_joins F (outline G)
    ∷ bound_inside_test F (outline G)
    ∷ bound_joins F (outline G)
    ∷ bound_outside_test F (outline G)
    ∷ []
flags_of_f (region F) (points G) = []
flags_of_f (region F) (line G) = []
flags_of_f (region F) (region G) =
    class01 F G ∷ class10 F G ∷ class12 F G ∷ class21 F G ∷ class02 F G ∷ class20 F G ∷ class11 F G ∷ bound_poi_shared F G ∷ []

abbrev pub flags_of_g : Elements → Elements → List Bool
flags_of_g (points F) (points G) = poi_disjoint G F ∷ []
flags_of_g (points F) (line G) = bound_poi_disjoint F G ∷ []
flags_of_g (points F) (region G) = []
flags_of_g (line F) (points G) = []
flags_of_g (line F) (line G) = seg_unshared G F ∷ bound_on_interior G F ∷ bound_disjoint G F ∷ []
flags_of_g (line F) (region G) = seg_unshared (outline G) F ∷ []
flags_of_g (region F) (points G) = []
flags_of_g (region F) (line G) = []
flags_of_g (region F) (region G) = class01 G F ∷ class10 G F ∷ class12 G F ∷ class21 G F ∷ []

-- A vector: bit k is flag k
abbrev pub pack : List Bool → ℕ
pack [] = 0
pack (b ∷ l) = bit b + 2 * pack l

-- Bit k of a vector
unfoldable pub has_bit : ℕ → ℕ → Bool
has_bit v k = odd (v / 2 ^ k)
