-- Elements of one type that stand one after the other, none of them at fault, as many as there are.
use Rattle.std.specs.Prelude.{Ok}
use Rattle.std.specs.Prelude.{ℕ, ◌+◌, ◌*◌, ◌<◌, ◌≤◌, ◌≡◌, Bool, false, ◌&&◌, List, length}
use Rattle.plane.specs.declared.Segment.{Segment}
use Rattle.plane.specs.Plane.{segment_in_range, ordered}
use Rattle.scene.specs.declared.Shape.{Shape}
use Rattle.scene.specs.declared.Kind.TheVariants.{Element}
use Rattle.scene.specs.Read.{record_at, stands_in, fields_good, coordinates_good, ends_good, size, most}

-- neither 4 nor 5
abbrev pub is_sound : Segment → Bool
is_sound t = segment_in_range t && ordered t

module _ (s : List ℕ) (k : Shape) where
  -- of an element at an offset neither 3 nor 4 nor 5
  abbrev pub are_fields_good : ℕ → Bool
  are_fields_good at = fields_good s at (Element k) && (coordinates_good s at (Element k) && ends_good s at (Element k))

  -- the record at an offset is an element without fault, where one more may stand
  abbrev pub IsElement : ℕ → Type 0
  IsElement at = record_at s at (stands_in k) false ≡ Ok (Element k)

  -- exactly so many of them from an offset on: where an object may have one more, none follows
  pub record Faultless (start n : ℕ) : Type 0 where
    pub few : n ≤ most
    pub there : start + n * size k ≤ length s
    pub each : (i : ℕ) → i < n → IsElement (start + i * size k)
    pub no_more : n < most → IsElement (start + n * size k) → ⊥
