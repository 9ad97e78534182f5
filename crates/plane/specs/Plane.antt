-- The plane: document 01's section "Objects", sentence by sentence. All tests compute; none but `in_range` knows a coordinate range.
-- A quotation names the sentence that a definition renders.
use Rattle.std.specs.Prelude.{Option, Some, None, ⊤, ℕ, zero, suc, ◌*◌, ◌<◌, ◌≡◌, Bool, true, false, not, ◌&&◌, ◌||◌, List, T, leb, ℤ, pos, negsuc, nat_abs, ◌+ℤ◌, ◌-ℤ◌, ◌*ℤ◌}
use Rattle.std.specs.Int.Signed.{lt_z, le_z}
use Rattle.whole.specs.Count.{eq_z, odd, some, count}
use Rattle.plane.specs.declared.Point.{Point}
use Rattle.plane.specs.declared.Segment.{Segment}
use Rattle.plane.specs.declared.Halfsegment.{Halfsegment}
use Rattle.plane.specs.declared.Turn.{Turn}
use Rattle.plane.specs.declared.Turn.TheVariants.{Left, Straight, Right}

-- "Coordinates run from -10,000,000 to 10,000,000" (02, Paper 13).
abbrev pub limit : ℕ
limit = 10000000

unfoldable pub within : ℕ → Point → Bool
within n p = leb (nat_abs p.x) n && leb (nat_abs p.y) n

abbrev pub in_range : Point → Bool
in_range p = within limit p

abbrev pub segment_in_range : Segment → Bool
segment_in_range s = in_range s.left && in_range s.right

-- "Points are ordered by x, then y."
unfoldable pub before : Point → Point → Bool
before p q = lt_z p.x q.x || (eq_z p.x q.x && lt_z p.y q.y)

unfoldable pub is_same_point : Point → Point → Bool
is_same_point p q = eq_z p.x q.x && eq_z p.y q.y

unfoldable pub is_same_segment : Segment → Segment → Bool
is_same_segment s t = is_same_point s.left t.left && is_same_point s.right t.right

-- "A segment has a left and a right end, left strictly before right."
unfoldable pub ordered : Segment → Bool
ordered s = before s.left s.right

-- The side value of c against the ray from a through b: above zero when c is strictly to its left.
unfoldable pub side : Point → Point → Point → ℤ
side a b c = (b.x -ℤ a.x) *ℤ (c.y -ℤ a.y) -ℤ (b.y -ℤ a.y) *ℤ (c.x -ℤ a.x)

-- and the way that it turns
abbrev pub turn_of : ℤ → Turn
turn_of (pos zero) = Straight
turn_of (pos (suc n)) = Left
turn_of (negsuc n) = Right

unfoldable pub turn : Point → Point → Point → Turn
turn a b c = turn_of (side a b c)

-- is a side value that of such a turn?
abbrev pub turned : Turn → ℤ → Bool
turned Left z = lt_z (pos 0) z
turned Straight z = eq_z z (pos 0)
turned Right z = lt_z z (pos 0)

-- what is asked of three points for their side value: coordinates up to twice the limit, as those of midpoints are, which are held doubled
abbrev pub InDoubledRange : Point → Point → Point → Type 0
InDoubledRange a b c = T (within (2 * limit) a) × T (within (2 * limit) b) × T (within (2 * limit) c)

-- what a look at the box of two points tells of a turn: which one it is, or nothing
abbrev pub Told : Option Turn → Turn → Type 0
Told (Some way) t = way ≡ t
Told None t = ⊤

-- "It is stored as two halfsegments: d = 1 is the left one, whose dominating point is the left end; d = 0 the right one."
abbrev pub choose : Bool → Point → Point → Point
choose true p q = p
choose false p q = q

unfoldable pub dominating : Halfsegment → Point
dominating h = choose h.is_left h.segment.left h.segment.right

unfoldable pub far_end : Halfsegment → Point
far_end h = choose h.is_left h.segment.right h.segment.left

-- "Order of halfsegments: by dominating point; at one point, right before left; on the same side, h comes before k when k's far end
-- is strictly to the left of the ray from the dominating point through h's far end."
unfoldable pub comes_before : Halfsegment → Halfsegment → Bool
comes_before h k =
    before (dominating h) (dominating k)
    || (is_same_point (dominating h) (dominating k)
    && ((not h.is_left && k.is_left)
    || (same_side h.is_left k.is_left && lt_z (pos 0) (side (dominating h) (far_end h) (far_end k)))))
  where
    same_side : Bool → Bool → Bool
    same_side true b = b
    same_side false b = not b

-- "any point with fraction coordinates, on the grid or off it, in range or beyond": each coordinate is a whole number over a whole number above zero
pub record Fraction : Type 0 where
  pub over : ℤ
  pub under : ℕ
  pub above_zero : 0 < under

pub record FractionPoint : Type 0 where
  pub at_x : Fraction
  pub at_y : Fraction

-- Homogeneous coordinates: the point (X/W, Y/W), W above zero. The tests below are stated for such points, so that one rule serves grid points,
-- midpoints and fraction points; how a fraction is written does not matter to them (proofs/Scale.antt).
pub record HPoint : Type 0 where
  pub X : ℤ
  pub Y : ℤ
  pub W : ℤ

abbrev pub grid : Point → HPoint
grid p = record { X = p.x; Y = p.y; W = pos 1 }

-- "Midpoints are taken exactly."
abbrev pub midpoint : Segment → HPoint
midpoint s = record { X = s.left.x +ℤ s.right.x; Y = s.left.y +ℤ s.right.y; W = pos 2 }

-- A point by its coordinates doubled, as the program holds a midpoint
abbrev pub halved : Point → HPoint
halved m = record { X = m.x; Y = m.y; W = pos 2 }

abbrev pub fractions : FractionPoint → HPoint
fractions p =
    record {
      X = p.at_x.over *ℤ pos p.at_y.under;
      Y = p.at_y.over *ℤ pos p.at_x.under;
      W = pos (p.at_x.under * p.at_y.under);
    }

-- The side value of p against the line from s's left end to its right end, times p's denominator: above zero when p is above s, or left of it if vertical.
unfoldable pub side_at : Segment → HPoint → ℤ
side_at s p =
    (s.right.x -ℤ s.left.x) *ℤ (p.Y -ℤ s.left.y *ℤ p.W)
    -ℤ (s.right.y -ℤ s.left.y) *ℤ (p.X -ℤ s.left.x *ℤ p.W)

-- Is the point p the grid point e? Is it e or after e, or e or before e, in the order of points?
unfoldable pub is_at : Point → HPoint → Bool
is_at e p = eq_z (e.x *ℤ p.W) p.X && eq_z (e.y *ℤ p.W) p.Y

unfoldable pub is_not_before : Point → HPoint → Bool
is_not_before e p = lt_z (e.x *ℤ p.W) p.X || (eq_z (e.x *ℤ p.W) p.X && le_z (e.y *ℤ p.W) p.Y)

unfoldable pub is_not_after : Point → HPoint → Bool
is_not_after e p = lt_z p.X (e.x *ℤ p.W) || (eq_z (e.x *ℤ p.W) p.X && le_z p.Y (e.y *ℤ p.W))

-- A point on a segment, its ends included: on its line, and neither before its left end nor after its right end.
unfoldable pub on : Segment → HPoint → Bool
on s p = eq_z (side_at s p) (pos 0) && is_not_before s.left p && is_not_after s.right p

unfoldable pub is_end : Segment → HPoint → Bool
is_end s p = is_at s.left p || is_at s.right p

-- "a segment counts below a point (x, y) when its left x is at most x, its right x is above x, and at x it passes strictly below y"
unfoldable pub counts_below : HPoint → Segment → Bool
counts_below p s =
    le_z (s.left.x *ℤ p.W) p.X && lt_z p.X (s.right.x *ℤ p.W) && lt_z (pos 0) (side_at s p)

-- "an odd number pass strictly below its midpoint with left x less than x and right x at least x": the same count, for the points just left of p
unfoldable pub counts_below_left : HPoint → Segment → Bool
counts_below_left p s =
    lt_z (s.left.x *ℤ p.W) p.X && le_z p.X (s.right.x *ℤ p.W) && lt_z (pos 0) (side_at s p)

-- "A point is inside a region when it is on no segment of it and an odd number of its segments count below it."
unfoldable pub is_on_some : List Segment → HPoint → Bool
is_on_some l p = some (λ s. on s p) l

unfoldable pub inside : List Segment → HPoint → Bool
inside l p = not (is_on_some l p) && odd (count (counts_below p) l)

-- "A region's halfsegments also carry ia = 1 when the interior is above the segment, or left of it if vertical; else 0." By the rule for wrong ia:
-- "for a segment not vertical, ia is 1 exactly when an even number of the region's segments count below its midpoint. For a vertical one, ia is 1
-- exactly when an odd number pass strictly below its midpoint with left x less than x and right x at least x."
unfoldable pub interior_above : List Segment → Segment → Bool
interior_above l s =
    (vertical && odd (count (counts_below_left (midpoint s)) l)) || (not vertical && not (odd (count (counts_below (midpoint s)) l)))
  where
    vertical : Bool
    vertical = eq_z s.left.x s.right.x

-- Document 02, Paper 6: "an end belongs to a line's boundary when an odd number of its segments end there": a rule on the number of segments that end at a
-- point. It takes the place of 01's "exactly one".
unfoldable pub is_boundary : ℕ → Bool
is_boundary n = odd n

unfoldable pub ends_at : List Segment → HPoint → ℕ
ends_at l p = count (λ s. is_end s p) l

-- The three kinds of object, by their points or their segments
pub data Object : Type 0 where
  points : List Point → Object
  line : List Segment → Object
  region : List Segment → Object

-- "its interior is every other point on its segments"; "A region's boundary is every point on its segments, ends included"; "its interior is
-- every point inside it"; "Points have an empty boundary and are their own interior."
unfoldable pub in_boundary : Object → HPoint → Bool
in_boundary (points l) p = false
in_boundary (line l) p = is_boundary (ends_at l p)
in_boundary (region l) p = is_on_some l p

unfoldable pub in_interior : Object → HPoint → Bool
in_interior (points l) p = some (λ e. is_at e p) l
in_interior (line l) p = is_on_some l p && not (is_boundary (ends_at l p))
in_interior (region l) p = inside l p

-- "The exterior is the rest of the plane"
unfoldable pub in_exterior : Object → HPoint → Bool
in_exterior o p = not (in_interior o p) && not (in_boundary o p)

-- "share a point that is not an end of both": the sentence of the conditions 12 and 15
pub record SharePoint (s t : Segment) : Type 0 where
  pub shared : FractionPoint
  pub on_one : T (on s (fractions shared))
  pub on_other : T (on t (fractions shared))
  pub not_both_ends : T (not (is_end s (fractions shared) && is_end t (fractions shared)))

-- and as a test on whole numbers, for unequal segments: they cross, or an end of one lies on the other and is no end of it (proofs/Touch.antt)
unfoldable pub opposite : ℤ → ℤ → Bool
opposite a b = (lt_z a (pos 0) && lt_z (pos 0) b) || (lt_z (pos 0) a && lt_z b (pos 0))

unfoldable pub cross : Segment → Segment → Bool
cross s t =
    opposite (side s.left s.right t.left) (side s.left s.right t.right)
    && opposite (side t.left t.right s.left) (side t.left t.right s.right)

unfoldable pub end_within : Segment → Point → Bool
end_within s e = on s (grid e) && not (is_end s (grid e))

unfoldable pub touch : Segment → Segment → Bool
touch s t =
    not (is_same_segment s t)
    && (cross s t
    || end_within s t.left || end_within s t.right || end_within t s.left || end_within t s.right)
