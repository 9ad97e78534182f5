-- The class flags of two regions, read off the overlap list: (m/n) is set where the list has the byte 3m + n at a segment of one region alone, or of both.
use Rattle.std.specs.Prelude.{ℕ, Bool, not, ◌&&◌, List, [], ◌∷◌, eqb}
use Rattle.whole.specs.Count.{some}
use Rattle.plane.specs.declared.Segment.{Segment}
use Rattle.flags.specs.Flags.{Edge, outline, has_segment}
use Rattle.overlap.specs.Bytes.{merge, byte_of}

-- whose segment it is: F's alone, G's alone, or one of both
pub data Whose : Type 0 where
  of_f_lem : Whose
  of_g_lem : Whose
  of_both_lem : Whose

module _ (F G : List Edge) where
  abbrev pub belongs : Whose → Segment → Bool
  belongs of_f_lem t = has_segment (outline F) t && not (has_segment (outline G) t)
  belongs of_g_lem t = has_segment (outline G) t && not (has_segment (outline F) t)
  belongs of_both_lem t = has_segment (outline F) t && has_segment (outline G) t

  -- the list has the byte b at such a segment
  abbrev pub has_byte : Whose → ℕ → Bool
  has_byte w b = some (λ t. belongs w t && eqb (byte_of F G t) b) (merge (outline F) (outline G))

  -- (0/1), (1/0), (1/2), (2/1), (0/2), (2/0), (1/1) of F, and the first four of G
  abbrev pub classes_of_f : List Bool
  classes_of_f = has_byte of_f_lem 1 ∷ has_byte of_f_lem 3 ∷ has_byte of_f_lem 5 ∷ has_byte of_f_lem 7 ∷ has_byte of_both_lem 2 ∷ has_byte of_both_lem 6 ∷ has_byte of_both_lem 4 ∷ []

  abbrev pub classes_of_g : List Bool
  classes_of_g = has_byte of_g_lem 1 ∷ has_byte of_g_lem 3 ∷ has_byte of_g_lem 5 ∷ has_byte of_g_lem 7 ∷ []
