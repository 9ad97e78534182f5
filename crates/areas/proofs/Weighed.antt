-- What is weighed, by the sides: what adjoins both sides counts for nothing, and the two parts of a region make up the region.
use mathlib.Core.Path.{◌≡◌, refl, sym, ap, ◌∙◌}
use mathlib.Core.Bool.{Bool, true, false, not, ◌&&◌}
use lib.IntN.{ℤ, pos, ◌+ℤ◌, ◌-ℤ◌, ◌*ℤ◌, zero-*ℤ, +ℤ_invr}
use Rattle.whole.specs.Count.{bit}
use Rattle.whole.proofs.Ring.{distrib_right}
use Rattle.plane.specs.Shoelace.{weighed}

pub weighed_same : (b : Bool) (v : ℤ) → weighed b b v ≡ pos 0
unfolding weighed
weighed_same b v = ap (λ z. z *ℤ v) (+ℤ_invr (pos (bit b))) ∙ zero-*ℤ v

sides : Bool → Bool → ℤ
sides a b = pos (bit a) -ℤ pos (bit b)

by_sides : (a b c d e f : Bool) (v : ℤ) → sides a b +ℤ sides c d ≡ sides e f → weighed a b v +ℤ weighed c d v ≡ weighed e f v
unfolding weighed sides
by_sides a b c d e f v h = sym (distrib_right (pos (bit a) -ℤ pos (bit b)) (pos (bit c) -ℤ pos (bit d)) v) ∙ ap (λ z. z *ℤ v) h

split : (a b c d : Bool) → sides (a && c) (b && d) +ℤ sides (a && not c) (b && not d) ≡ sides a b
unfolding sides
split false false c d = refl
split false true c false = refl
split false true c true = refl
split true false false d = refl
split true false true d = refl
split true true false false = refl
split true true false true = refl
split true true true false = refl
split true true true true = refl

-- the region's part in the other and its part outside it
pub weighed_parts : (a b c d : Bool) (v : ℤ) → weighed (a && c) (b && d) v +ℤ weighed (a && not c) (b && not d) v ≡ weighed a b v
weighed_parts a b c d v = by_sides (a && c) (b && d) (a && not c) (b && not d) a b v (split a b c d)
