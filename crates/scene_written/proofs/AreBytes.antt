-- A byte string's numbers are below 256, at each offset; and what is written is a byte string.
use Prim.Native.Nat.{ℕ, zero, suc, ◌<◌}
use native.Mathlib.Omega.{arith}
use mathlib.Core.Path.{sym, subst}
use mathlib.Core.Logic.{⊎_elim}
use mathlib.Core.Bool.{Bool, true, false}
use mathlib.Core.List.{List, [], ◌∷◌, ◌++◌}
use lib.IntN.{ℤ}
use Rattle.whole.specs.Count.{bit, here, there}
use Rattle.whole.proofs.Logic.{in_nil, in_cons, in_append}
use Rattle.plane.specs.declared.Point.{Point}
use Rattle.plane.specs.declared.Halfsegment.{Halfsegment}
use Rattle.plane.specs.Plane.{Object}
use Rattle.scene.specs.declared.Shape.{Shape}
use Rattle.scene.specs.declared.Shape.TheVariants.{Points, Line, Region}
use Rattle.scene.specs.Read.{byte, shape_number}
use Rattle.scene_written.specs.Bytes.{Item, AreBytes, coordinate_then, point_then, half_then, record_bytes, records_of}
use Rattle.scene_written.specs.Arranged.{shape_in, items_of, object_bytes}
use Rattle.scene_written.proofs.Coordinates.{digit_small}

pub byte_below : (s : List ℕ) → AreBytes s → (i : ℕ) → byte s i < 256
byte_below [] h i = omega arith
byte_below (n ∷ s) h zero = h n here
byte_below (n ∷ s) h (suc i) = byte_below s (λ k m. h k (there m)) i

none_bytes : AreBytes []
none_bytes n m = absurd (in_nil m)

then_bytes : {b : ℕ} {l : List ℕ} → b < 256 → AreBytes l → AreBytes (b ∷ l)
then_bytes h k n m = ⊎_elim (λ e. subst (λ (x : ℕ). x < 256) (sym e) h) (k n) (in_cons m)

both_bytes : (l : List ℕ) {m : List ℕ} → AreBytes l → AreBytes m → AreBytes (l ++ m)
both_bytes l h k n m = ⊎_elim (h n) (k n) (in_append l m)

coordinate_bytes : (z : ℤ) {l : List ℕ} → AreBytes l → AreBytes (coordinate_then z l)
coordinate_bytes z h = then_bytes (digit_small z 1) (then_bytes (digit_small z 256) (then_bytes (digit_small z 65536) (then_bytes (digit_small z 16777216) h)))

point_bytes_lem : (p : Point) {l : List ℕ} → AreBytes l → AreBytes (point_then p l)
point_bytes_lem p h = coordinate_bytes p.x (coordinate_bytes p.y h)

bit_byte : (b : Bool) → bit b < 256
bit_byte true = omega arith
bit_byte false = omega arith

half_bytes : (h : Halfsegment) {l : List ℕ} → AreBytes l → AreBytes (half_then h l)
half_bytes h k = point_bytes_lem h.segment.left (point_bytes_lem h.segment.right (then_bytes (bit_byte h.is_left) k))

record_bytes_lem : (k : Shape) (x : Item k) → AreBytes (record_bytes k x)
unfolding record_bytes
record_bytes_lem Points p = then_bytes (omega arith) (point_bytes_lem p none_bytes)
record_bytes_lem Line h = then_bytes (omega arith) (half_bytes h none_bytes)
record_bytes_lem Region e = then_bytes (omega arith) (half_bytes e.half (then_bytes (bit_byte e.ia) none_bytes))

records_bytes : (k : Shape) (xs : List (Item k)) → AreBytes (records_of k xs)
records_bytes k [] = none_bytes
records_bytes k (x ∷ xs) = both_bytes (record_bytes k x) (record_bytes_lem k x) (records_bytes k xs)

number_byte : (k : Shape) → shape_number k < 256
number_byte Points = omega arith
number_byte Line = omega arith
number_byte Region = omega arith

pub object_bytes_lem : (o : Object) → AreBytes (object_bytes o)
object_bytes_lem o =
    then_bytes (omega arith)
    (then_bytes (number_byte (shape_in o)) (both_bytes (records_of (shape_in o) (items_of o)) (records_bytes (shape_in o) (items_of o)) (then_bytes (omega arith) none_bytes)))
