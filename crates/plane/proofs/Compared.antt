-- What the derived `==` and `<` of points, segments and turns answer, as the specification has it.
use Rattle.std.proofs.Common.{◌≡◌, ◌&&◌, not, ℤ, zero, suc, pos, negsuc, Option, Ordering, Some, int_eq, int_cmp, rules}
use denote.Enum.Bare.{sameb}
use Rattle.std.specs.Ordering.{partial_lt, partial_le, partial_ordering_then}
use Rattle.whole.specs.Count.{eq_z}
use Rattle.plane.specs.declared.Point.{Point}
use Rattle.plane.specs.declared.Segment.{Segment}
use Rattle.plane.specs.declared.Turn.{Turn}
use Rattle.plane.specs.declared.Turn.TheVariants.{Left, Straight, Right}
use Rattle.plane.specs.contracts.Turn.{the_type}
use Rattle.plane.specs.Plane.{before, is_same_point, is_same_segment, turn_of, turned}

pub same_numbers : (a b : ℤ) → int_eq a b ≡ eq_z a b
same_numbers a b = search rules

pub same_points : (p q : Point) → (int_eq p.x q.x && int_eq p.y q.y) ≡ is_same_point p q
unfolding is_same_point
same_points p q = simp same_numbers

pub same_segments : (s t : Segment) → (int_eq s.left.x t.left.x && int_eq s.left.y t.left.y && (int_eq s.right.x t.right.x && int_eq s.right.y t.right.y)) ≡ is_same_segment s t
unfolding is_same_point is_same_segment
same_segments s t = simp same_numbers

-- the derived order, by x and then by y
abbrev pub compared : Point → Point → Option Ordering
compared p q = partial_ordering_then (Some (int_cmp p.x q.x)) (Some (int_cmp p.y q.y))

pub before_is : (p q : Point) → partial_lt compared p q ≡ before p q
unfolding before
before_is p q = search rules

pub upto_is : (p q : Point) → partial_le compared p q ≡ not (before q p)
unfolding before
upto_is p q = search rules

pub same_turns : (z : ℤ) (way : Turn) → sameb the_type (turn_of z) way ≡ turned way z
same_turns (pos zero) Left = search rules
same_turns (pos zero) Straight = search rules
same_turns (pos zero) Right = search rules
same_turns (pos (suc n)) Left = search rules
same_turns (pos (suc n)) Straight = search rules
same_turns (pos (suc n)) Right = search rules
same_turns (negsuc n) Left = search rules
same_turns (negsuc n) Straight = search rules
same_turns (negsuc n) Right = search rules
