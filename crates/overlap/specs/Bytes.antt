-- The overlap list of two regions, a byte for each of their different segments:
-- "Each different segment, in the order of left halfsegments, gives one byte 3m + n: m is the number of regions whose interior adjoins it below
-- (right, if vertical), n above (left)."
use Rattle.std.specs.Prelude.{ℕ, ◌+◌, ◌*◌, Bool, true, false, not, ◌&&◌, ◌||◌, cond, List, [], ◌∷◌, map}
use Rattle.whole.specs.Count.{bit}
use Rattle.plane.specs.declared.Segment.{Segment}
use Rattle.plane.specs.Plane.{midpoint, is_same_segment, inside}
use Rattle.flags.specs.Flags.{Edge, outline, has_segment}
use Rattle.flags.specs.Elements.{has_edge}
use Rattle.flags_classes.specs.Walked.{left_before}

-- ---- the different segments of two regions, in the order of left halfsegments

-- f and what follows it in F among the segments of G; a segment of both is taken once. rest merges what follows f with what is left of G
abbrev pub merge_from : Segment → List Segment → (List Segment → List Segment) → List Segment → List Segment
merge_from f F rest [] = f ∷ F
merge_from f F rest (g ∷ G) =
    let both = f ∷ rest G in
    let value_of_f = f ∷ rest (g ∷ G) in
    let value_of_g = g ∷ merge_from f F rest G in
    let apart = cond (left_before f g) value_of_f value_of_g in
    cond (is_same_segment f g) both apart

abbrev pub merge : List Segment → List Segment → List Segment
merge [] G = G
merge (f ∷ F) G = merge_from f F (merge F) G

-- ---- the byte of a segment

-- the interior of the region adjoins the segment above (left, if vertical), or below (right): by ia where the segment is one of the region's, and where
-- it is not, by its midpoint
unfoldable pub adjoins : Bool → List Edge → Segment → Bool
adjoins above R t = has_edge R t above || (not (has_segment (outline R) t) && inside (outline R) (midpoint t))

abbrev pub adjoins_above : List Edge → Segment → Bool
adjoins_above = adjoins true

abbrev pub adjoins_below : List Edge → Segment → Bool
adjoins_below = adjoins false

module _ (F G : List Edge) where
  -- "m is the number of regions whose interior adjoins it below (right, if vertical), n above (left)"
  abbrev pub below : Segment → ℕ
  below t = bit (adjoins_below F t) + bit (adjoins_below G t)

  abbrev pub above : Segment → ℕ
  above t = bit (adjoins_above F t) + bit (adjoins_above G t)

  abbrev pub byte_of : Segment → ℕ
  byte_of t = 3 * below t + above t

  unfoldable pub overlap_bytes : List ℕ
  overlap_bytes = map byte_of (merge (outline F) (outline G))
