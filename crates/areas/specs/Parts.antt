-- Shared and separate ground, from the edges of two regions: "twice the area in both, in F only, in G only. .. Each part is the shoelace sum over the
-- segments that bound it, by the interiors adjoining them." All areas here are doubled, as the shoelace sum has them.
use Rattle.std.specs.Prelude.{Bool, true, false, not, ◌&&◌, List, ℤ}
use Rattle.whole.specs.Count.{total}
use Rattle.plane.specs.declared.Segment.{Segment}
use Rattle.plane.specs.Shoelace.{shoelace, weighed}
use Rattle.flags.specs.Flags.{Edge, outline}
use Rattle.overlap.specs.Bytes.{merge, adjoins}

-- "F's shoelace area doubled, taken from F by itself": its own segments, by ia alone
unfoldable pub own_area : List Edge → ℤ
own_area R = total (λ (e : Edge). weighed e.ia (not e.ia) (shoelace e.segment)) R

-- ---- the parts of two regions

pub data Part : Type 0 where
  in_both : Part
  in_f_only : Part
  in_g_only : Part

-- what is in F or not, and in G or not, is in the part
abbrev pub belongs : Part → Bool → Bool → Bool
belongs in_both f g = f && g
belongs in_f_only f g = f && not g
belongs in_g_only f g = not f && g

module _ (F G : List Edge) where
  -- the part adjoins the segment above (left, if vertical), or below (right)
  abbrev pub part_adjoins : Part → Bool → Segment → Bool
  part_adjoins p above t = belongs p (adjoins above F t) (adjoins above G t)

  abbrev pub share : Part → Segment → ℤ
  share p t = weighed (part_adjoins p true t) (part_adjoins p false t) (shoelace t)

  -- over each different segment of the two, one of both taken once
  unfoldable pub part_area : Part → ℤ
  part_area p = total (share p) (merge (outline F) (outline G))
