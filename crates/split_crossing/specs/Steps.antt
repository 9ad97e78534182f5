-- A segment in steps, each from one grid point on it to the next.
use Rattle.std.specs.Prelude.{ℕ, ℤ, ◌*◌, ◌%◌, ◌<◌, ◌≤◌, ◌≡◌, T, pos, nat_abs, ◌+ℤ◌, ◌-ℤ◌, ◌*ℤ◌}
use Rattle.plane.specs.declared.Point.{Point}
use Rattle.plane.specs.declared.Segment.{Segment}
use Rattle.plane.specs.Plane.{limit, in_range, side}

-- next is the first grid point on s after its left end: so many equal steps lead to the right end. More and shorter ones cannot: their number is the greatest common
-- divisor of the way across and the way up, and times n that of the two times n.
pub record InSteps (s : Segment) (next : Point) (count : ℕ) : Type 0 where
  pub by_x : pos count *ℤ (next.x -ℤ s.left.x) ≡ s.right.x -ℤ s.left.x
  pub by_y : pos count *ℤ (next.y -ℤ s.left.y) ≡ s.right.y -ℤ s.left.y
  pub greatest : (n d : ℕ) → nat_abs (s.right.x -ℤ s.left.x) * n % d ≡ 0 → nat_abs (s.right.y -ℤ s.left.y) * n % d ≡ 0 → count * n % d ≡ 0
  pub next_in_range : T (in_range next)
  pub few : count ≤ 2 * limit
  pub above_zero : 0 < count

-- so many steps from the left end
abbrev pub reached : Segment → Point → ℕ → Point
reached s next steps = record { x = s.left.x +ℤ pos steps *ℤ (next.x -ℤ s.left.x); y = s.left.y +ℤ pos steps *ℤ (next.y -ℤ s.left.y) }

-- the side values of t's ends against a step
abbrev pub BySteps : Segment → Point → Segment → ℤ → ℤ → Type 0
BySteps s next t left right = (left ≡ side s.left next t.left) × (right ≡ side s.left next t.right)
