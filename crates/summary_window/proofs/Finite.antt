-- std's test of a float for being finite is that of the definitions.
use Rattle.std.specs.Prelude.{◌≡◌, refl, Float}
use Rattle.std.specs.Float.{nan, inf, fin, float_is_finite}
use Rattle.std.specs.Float.Ieee.Scale.{finite}

pub finite_is : (x : Float) → float_is_finite x ≡ finite x
unfolding float_is_finite
finite_is nan = refl
finite_is (inf s) = refl
finite_is (fin s m e) = refl
