-- Equal points and segments: the tests say what equality says.
use mathlib.Core.Path.{◌≡◌, refl}
use mathlib.Core.Bool.{◌&&◌}
use lib.Dec.{T}
use lib.IntN.{ℤ}
use Rattle.whole.specs.Count.{eq_z}
use Rattle.whole.proofs.Balance.{eq_z_read, eq_z_make}
use Rattle.whole.proofs.Logic.{and_left, and_right, and_make}
use Rattle.plane.specs.declared.Point.{Point}
use Rattle.plane.specs.declared.Segment.{Segment}
use Rattle.plane.specs.Plane.{is_same_point, is_same_segment}

pub both_equal : (a b c d : ℤ) → T (eq_z a b && eq_z c d) → (a ≡ b) × (c ≡ d)
both_equal a b c d t = (eq_z_read a b (and_left (eq_z a b) (eq_z c d) t), eq_z_read c d (and_right (eq_z a b) (eq_z c d) t))

pub make_equal : (a b c d : ℤ) → a ≡ b → c ≡ d → T (eq_z a b && eq_z c d)
make_equal a b c d e f = and_make (eq_z a b) (eq_z c d) (eq_z_make a b e) (eq_z_make c d f)

pub point_eq : {p q : Point} → p.x ≡ q.x → p.y ≡ q.y → p ≡ q
point_eq e f = λ i. record { x = e i; y = f i }

pub segment_eq : {s t : Segment} → s.left ≡ t.left → s.right ≡ t.right → s ≡ t
segment_eq e f = λ i. record { left = e i; right = f i }

pub same_point_read : (p q : Point) → T (is_same_point p q) → p ≡ q
unfolding is_same_point
same_point_read p q t =
    let r = both_equal p.x q.x p.y q.y t in
    point_eq r.0 r.1

pub same_point_refl : (p : Point) → T (is_same_point p p)
unfolding is_same_point
same_point_refl p = make_equal p.x p.x p.y p.y refl refl

pub same_segment_read : (s t : Segment) → T (is_same_segment s t) → s ≡ t
unfolding is_same_segment
same_segment_read s t h =
    segment_eq (same_point_read s.left t.left (and_left (is_same_point s.left t.left) (is_same_point s.right t.right) h))
    (same_point_read s.right t.right (and_right (is_same_point s.left t.left) (is_same_point s.right t.right) h))

pub same_segment_refl : (s : Segment) → T (is_same_segment s s)
unfolding is_same_segment
same_segment_refl s =
    and_make (is_same_point s.left s.left) (is_same_point s.right s.right) (same_point_refl s.left) (same_point_refl s.right)
