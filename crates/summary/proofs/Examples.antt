-- Worked summaries and answers, by computation.
use Rattle.std.specs.Prelude.{◌≡◌, refl, true, false, Option, Some, None, Result, Ok, List, [], ◌∷◌, ℤ, pos, negsuc, ℕ}
use Rattle.whole.specs.Count.{odd}
use Rattle.plane.specs.declared.Point.{Point}
use Rattle.plane.specs.declared.Segment.{Segment}
use Rattle.plane.specs.Plane.{within, is_at, is_end, is_boundary, ends_at}
use Rattle.scene.specs.declared.Refusal.{Refusal}
use Rattle.scene.specs.Read as Read
use Rattle.flags.specs.Flags.{Elements}
use Rattle.scene_written.specs.Bytes.{digit}
use Rattle.flags_vectors.specs.declared.Vectors.{Vectors}
use Rattle.summary.specs.Summary.{lesser, greater, beside, good_box, good_at, good_bytes, summary_of, has_boundary, bytes_of, told_of, asked_of, bad}

abbrev at : ℤ → ℤ → Point
at a b = record { x = a; y = b }

abbrev from : Point → Point → Segment
from p q = record { left = p; right = q }

abbrev asked : Elements → Elements → Result (Option Vectors) Refusal
asked F G = asked_of (bytes_of (summary_of F)) (bytes_of (summary_of G))

-- ---- the line (-1,2)-(3,-4): 53 02 00 ffffffff fcffffff 03000000 02000000 01

abbrev one_line : Elements
one_line = Elements.line (from (at (negsuc 0) (pos 2)) (at (pos 3) (negsuc 3)) ∷ [])

line_bytes : bytes_of (summary_of one_line) ≡ 83 ∷ 2 ∷ 0 ∷ 255 ∷ 255 ∷ 255 ∷ 255 ∷ 252 ∷ 255 ∷ 255 ∷ 255 ∷ 3 ∷ 0 ∷ 0 ∷ 0 ∷ 2 ∷ 0 ∷ 0 ∷ 0 ∷ 1 ∷ []
unfolding digit lesser greater is_boundary odd ends_at is_end is_at
line_bytes = refl

-- ---- two closed rings joined by a bridge: three segments end at each end of the bridge, an odd number. One ring alone has no boundary point.

abbrev ring : List Segment
ring =
    from (at (pos 0) (pos 0)) (at (pos 1) (pos 1))
    ∷ from (at (pos 0) (pos 0)) (at (pos 0) (pos 2))
    ∷ from (at (pos 0) (pos 2)) (at (pos 1) (pos 1))
    ∷ []

abbrev joined : List Segment
joined =
    from (at (pos 0) (pos 0)) (at (pos 1) (pos 1))
    ∷ from (at (pos 0) (pos 0)) (at (pos 0) (pos 2))
    ∷ from (at (pos 0) (pos 2)) (at (pos 1) (pos 1))
    ∷ from (at (pos 1) (pos 1)) (at (pos 2) (pos 1))
    ∷ from (at (pos 2) (pos 1)) (at (pos 3) (pos 0))
    ∷ from (at (pos 2) (pos 1)) (at (pos 3) (pos 2))
    ∷ from (at (pos 3) (pos 0)) (at (pos 3) (pos 2))
    ∷ []

closed : has_boundary (Elements.line ring) ≡ false
unfolding is_boundary odd ends_at is_end is_at
closed = refl

bridged : has_boundary (Elements.line joined) ≡ true
unfolding is_boundary odd ends_at is_end is_at
bridged = refl

-- ---- an empty line, and a region round the origin: the four zeros are no box

abbrev round_origin : Elements
round_origin =
    Elements.region
    (record { segment = from (at (negsuc 0) (negsuc 0)) (at (pos 1) (negsuc 0)); ia = true }
    ∷ record { segment = from (at (negsuc 0) (negsuc 0)) (at (pos 0) (pos 1)); ia = false }
    ∷ record { segment = from (at (pos 0) (pos 1)) (at (pos 1) (negsuc 0)); ia = false }
    ∷ [])

empty_line : asked (Elements.line []) round_origin ≡ Ok (Some (record { f = 0; g = 1 }))
unfolding asked_of good_bytes good_at told_of good_box within digit lesser greater beside Read.signed Read.coordinate Read.shape_of
empty_line = refl

-- ---- boxes that touch share a point: the box 0..4 and the point (4,4), and (5,4), which is far

abbrev corners_4 : Elements
corners_4 = Elements.points (at (pos 0) (pos 0) ∷ at (pos 4) (pos 4) ∷ [])

touching : asked corners_4 (Elements.points (at (pos 4) (pos 4) ∷ [])) ≡ Ok None
unfolding asked_of good_bytes good_at told_of good_box within digit lesser greater beside Read.signed Read.coordinate Read.shape_of
touching = refl

beyond : asked corners_4 (Elements.points (at (pos 5) (pos 4) ∷ [])) ≡ Ok (Some (record { f = 1; g = 1 }))
unfolding asked_of good_bytes good_at told_of good_box within digit lesser greater beside Read.signed Read.coordinate Read.shape_of
beyond = refl

-- ---- 18: 19 bytes twice, at 0; and the second alone, at 1

abbrev cut : List ℕ
cut = 83 ∷ 2 ∷ 0 ∷ 255 ∷ 255 ∷ 255 ∷ 255 ∷ 252 ∷ 255 ∷ 255 ∷ 255 ∷ 3 ∷ 0 ∷ 0 ∷ 0 ∷ 2 ∷ 0 ∷ 0 ∷ 0 ∷ []

both_cut : asked_of cut cut ≡ bad 0
unfolding asked_of good_bytes good_at
both_cut = refl

second_cut : asked_of (bytes_of (summary_of (Elements.line []))) cut ≡ bad 1
unfolding asked_of good_bytes good_at good_box within digit Read.signed Read.coordinate Read.shape_of
second_cut = refl

-- ---- types in falling order: a region and points far from it, in the caller's order

falling : asked round_origin (Elements.points (at (pos 9) (pos 9) ∷ [])) ≡ Ok (Some (record { f = 0; g = 4 }))
unfolding asked_of good_bytes good_at told_of good_box within digit lesser greater beside Read.signed Read.coordinate Read.shape_of
falling = refl
