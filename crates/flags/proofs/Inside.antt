-- Whether a point is inside: on a segment it is not, off the segments the parity decides.
use mathlib.Core.Path.{◌≡◌}
use mathlib.Core.Bool.{true, false}
use mathlib.Core.List.{List}
use Rattle.whole.specs.Count.{odd, count}
use Rattle.plane.specs.declared.Segment.{Segment}
use Rattle.plane.specs.Plane.{HPoint, counts_below, is_on_some, inside}

pub inside_on : (l : List Segment) (p : HPoint) → is_on_some l p ≡ true → inside l p ≡ false
unfolding inside
inside_on l p e = rw e

pub inside_off : (l : List Segment) (p : HPoint) → is_on_some l p ≡ false → inside l p ≡ odd (count (counts_below p) l)
unfolding inside
inside_off l p e = rw e
