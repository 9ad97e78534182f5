-- How long fields and parts are.
use Prim.Native.Nat.{ℕ}
use mathlib.Core.Path.{◌≡◌, refl}
use lib.ListN.{length}
use lib.IntN.{ℤ}
use Rattle.plane.specs.declared.Point.{Point}
use Rattle.plane.specs.declared.Segment.{Segment}
use Rattle.scene.specs.declared.Shape.{Shape}
use Rattle.wkb_writing.specs.Wkb.{word_bytes, coordinate_bytes, point_bytes, header_bytes, point_part, segment_part}
use Rattle.wkb_writing.specs.Parts.{start_bytes}

pub word_long : (n : ℕ) → length (word_bytes n) ≡ 4
unfolding word_bytes
word_long n = refl

pub coordinate_long : (z : ℤ) → length (coordinate_bytes z) ≡ 8
unfolding coordinate_bytes
coordinate_long z = refl

pub point_long : (p : Point) → length (point_bytes p) ≡ 16
unfolding coordinate_bytes
point_long p = refl

pub header_long : (n : ℕ) → length (header_bytes n) ≡ 5
unfolding word_bytes
header_long n = refl

pub point_part_long : (p : Point) → length (point_part p) ≡ 21
unfolding word_bytes coordinate_bytes point_part
point_part_long p = refl

pub segment_part_long : (t : Segment) → length (segment_part t) ≡ 41
unfolding word_bytes coordinate_bytes segment_part
segment_part_long t = refl

pub start_long : (k : Shape) (n : ℕ) → length (start_bytes k n) ≡ 9
unfolding word_bytes
start_long k n = refl

pub ruleset lengths = (word_long, coordinate_long, point_long, header_long, point_part_long, segment_part_long)
