-- Where two segments cross. A crossing is a point strictly inside both; it has fraction coordinates, and may lie off the grid.
use Rattle.std.specs.Prelude.{ℕ, ◌+◌, ◌*◌, ◌/◌, ◌%◌, ◌≡◌, Bool, true, false, not, cond, Option, Some, None, option_map, T, eqb, ℤ, pos, nat_abs, ◌+ℤ◌, ◌-ℤ◌}
use Rattle.std.specs.Int.Signed.{lt_z}
use Rattle.plane.specs.declared.Point.{Point}
use Rattle.plane.specs.declared.Segment.{Segment}
use Rattle.plane.specs.Plane.{FractionPoint, fractions, grid, side, on, is_at, cross, end_within}
use Rattle.split_crossing.specs.declared.Crossing.{Crossing}
use Rattle.split_crossing.specs.declared.Crossing.TheVariants.{Apart, OffGrid, At}

-- the sizes of the side values of the ends of s against t: the line of t parts s in the proportion of these
abbrev pub size_left : Segment → Segment → ℕ
size_left s t = nat_abs (side t.left t.right s.left)

abbrev pub size_right : Segment → Segment → ℕ
size_right s t = nat_abs (side t.left t.right s.right)

-- the number some steps from m towards n
unfoldable pub steps_from : ℤ → ℤ → ℕ → ℤ
steps_from m n steps = cond (lt_z n m) (m -ℤ pos steps) (m +ℤ pos steps)

-- num of den parts of n, if that is a whole number
unfoldable pub part : ℕ → ℕ → ℕ → Option ℕ
part n num den = cond (eqb (n * num % den) 0) (Some (n * num / den)) None

-- m moved towards n by num of den parts of the way, if that is a whole number
unfoldable pub moved : ℤ → ℤ → ℕ → ℕ → Option ℤ
moved m n num den = option_map (steps_from m n) (part (nat_abs (n -ℤ m)) num den)

-- a point is on the grid if both coordinates are whole
abbrev pub grid_point : Option ℤ → Option ℤ → Option Point
grid_point (Some x) (Some y) = Some (record { x = x; y = y })
grid_point (Some x) None = None
grid_point None y = None

-- the point of s that lies num of den parts of the way from its left end to its right, if it is on the grid
unfoldable pub placed_on : Segment → ℕ → ℕ → Option Point
placed_on s num den = grid_point (moved s.left.x s.right.x num den) (moved s.left.y s.right.y num den)

abbrev pub crossing_of_point : Option Point → Crossing
crossing_of_point (Some c) = At c
crossing_of_point None = OffGrid

-- where s and t cross
unfoldable pub crossing_of : Segment → Segment → Crossing
crossing_of s t = cond (cross s t) (crossing_of_point (placed_on s (size_left s t) (size_left s t + size_right s t))) Apart

-- whether that is off the grid
abbrev pub is_off : Crossing → Bool
is_off Apart = false
is_off OffGrid = true
is_off (At c) = false

abbrev pub crosses_off : Segment → Segment → Bool
crosses_off s t = is_off (crossing_of s t)

-- "crosses at a point off the grid": they cross, and no grid point lies on both
pub record CrossOffGrid (s t : Segment) : Type 0 where
  pub crossed : T (cross s t)
  pub off : (c : Point) → T (on s (grid c)) → T (on t (grid c)) → ⊥

-- What the answers say in points. `cross` is "proper": each has the other's ends strictly on both sides of its line.
pub record CrossingMeans (s t : Segment) (r : Crossing) : Type 0 where
  pub apart : r ≡ Apart → T (not (cross s t))
  pub off : r ≡ OffGrid → CrossOffGrid s t
  -- they cross at c: it lies strictly inside both, and they have no other point in common
  pub at : (c : Point) → r ≡ At c
      → T (cross s t) × T (end_within s c) × T (end_within t c) × ((z : FractionPoint) → T (on s (fractions z)) → T (on t (fractions z)) → T (is_at c (fractions z)))
