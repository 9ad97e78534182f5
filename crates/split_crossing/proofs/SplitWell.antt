-- Two objects whose segments share only common ends, of which no two cross off the grid: what each is split into by the other.
use Prim.Native.Nat.{◌+◌}
use mathlib.Core.Path.{◌≡◌, sym, ap₂, subst}
use mathlib.Core.Logic.{◌⊎◌, ⊎_elim}
use mathlib.Core.Bool.{false, not, ◌&&◌}
use mathlib.Core.List.{List}
use lib.Dec.{T}
use lib.ListN.{length}
use Rattle.whole.specs.Count.{◌∈◌}
use Rattle.whole.proofs.Sign.{Pos}
use Rattle.whole.proofs.Logic.{and_make}
use Rattle.plane.specs.declared.Point.{Point}
use Rattle.plane.specs.declared.Segment.{Segment}
use Rattle.plane.specs.Plane.{FractionPoint, fractions, in_range, segment_in_range, is_on_some, ends_at, is_boundary, in_interior, in_boundary, in_exterior, Object, line, region, interior_above, touch}
use Rattle.plane.specs.Shoelace.{twice_area}
use Rattle.plane.proofs.Machine.{left_in_range, right_in_range}
use Rattle.plane.proofs.Scale.{fractions_pos}
use Rattle.plane.proofs.Accepted.{Split, Regular}
use Rattle.split_pieces.specs.Pieces.{pieces}
use Rattle.split_pieces.proofs.Unchanged.{AllOrdered, AllInside, split_member, split_some, split_inside, split_boundary, split_split}
use Rattle.split_pieces.proofs.Area.{split_regular, split_area, piece_interior}
use Rattle.split_pieces.proofs.Counted.{split_length}
use Rattle.split_pieces.proofs.Exact.{new_end_cut, cut_new_end}
use Rattle.split_pieces.proofs.Different.{AllDiffer, split_differ}
use Rattle.split_pieces.proofs.Pair.{CutBy, pieces_ends, pieces_apart}
use Rattle.split_crossing.specs.Cuts.{cuts, split_by, added_by, CutExactly, SameParts}
use Rattle.split_crossing.proofs.Crossings.{off_swap}
use Rattle.split_crossing.proofs.Cutting.{OnGrid, cuts_meet, cut_at, at_cut}
use Rattle.split_crossing.proofs.Range.{inside_range}

-- what becomes of F, split by G
pub record SplitWell (F G : List Segment) : Type 0 where
  -- "The points covered .. do not alter", of a line and of a region
  pub line_kept : SameParts (line F) (line (split_by G F))
  pub region_kept : SameParts (region F) (region (split_by G F))
  -- "and twice each region's area by the shoelace sum"
  pub area_kept : Regular F → twice_area (split_by G F) ≡ twice_area F
  -- "and nothing else is cut"
  pub cut : CutExactly G F
  -- "the count of added segments"
  pub counted : length (split_by G F) ≡ length F + added_by G F
  -- 4 and 5, 10, 12, 13 and 14 find nothing: the pieces are in range and ordered, share only common ends, occur once, have even ends, and the ia of their segment
  pub in_range_lem : ((s : Segment) → s ∈ F → T (segment_in_range s)) → (t : Segment) → t ∈ split_by G F → T (segment_in_range t)
  pub split : Split (split_by G F)
  pub different : AllDiffer F → AllDiffer (split_by G F)
  pub regular : Regular F → Regular (split_by G F)
  pub ia_kept : Regular F → (s t : Segment) → s ∈ F → t ∈ pieces (cuts G) s → interior_above (split_by G F) t ≡ interior_above F s

module _ (F G : List Segment) (split : Split F) (ord_g : AllOrdered G) (by_f : CutBy F G (cuts G)) where
  ord_f : AllOrdered F
  ord_f = split.ordered

  i : AllInside (cuts G) F
  i = by_f.within

  module _ (z : FractionPoint) where
    w : Pos (fractions z).W
    w = fractions_pos z

    points_kept : is_on_some (split_by G F) (fractions z) ≡ is_on_some F (fractions z)
    unfolding is_on_some
    points_kept = split_some (cuts G) (fractions z) w F ord_f i

    bounds_kept : is_boundary (ends_at (split_by G F) (fractions z)) ≡ is_boundary (ends_at F (fractions z))
    unfolding is_boundary
    bounds_kept = split_boundary (cuts G) F ord_f i (fractions z) w

    line_interior : in_interior (line (split_by G F)) (fractions z) ≡ in_interior (line F) (fractions z)
    unfolding in_interior
    line_interior = ap₂ (λ a b. a && not b) points_kept bounds_kept

    line_boundary : in_boundary (line (split_by G F)) (fractions z) ≡ in_boundary (line F) (fractions z)
    unfolding in_boundary
    line_boundary = bounds_kept

    region_interior : in_interior (region (split_by G F)) (fractions z) ≡ in_interior (region F) (fractions z)
    unfolding in_interior
    region_interior = split_inside (cuts G) (fractions z) w F ord_f i

    region_boundary : in_boundary (region (split_by G F)) (fractions z) ≡ in_boundary (region F) (fractions z)
    unfolding in_boundary
    region_boundary = points_kept

  parts : (o o' : Object) → ((z : FractionPoint) → in_interior o' (fractions z) ≡ in_interior o (fractions z)) → ((z : FractionPoint) → in_boundary o' (fractions z) ≡ in_boundary o (fractions z)) → SameParts o o'
  unfolding in_exterior
  parts o o' a b = record { interior = a; boundary = b; exterior = λ z. ap₂ (λ m n. not m && not n) (a z) (b z) }

  piece_range : ((s : Segment) → s ∈ F → T (segment_in_range s)) → (t : Segment) → t ∈ split_by G F → T (segment_in_range t)
  piece_range r t m = and_make (in_range t.left) (in_range t.right) (⊎_elim left (at t.left) ends.0) (⊎_elim right (at t.right) ends.1)
    where
      x : (s : Segment) × (s ∈ F) × (t ∈ pieces (cuts G) s)
      x = split_member (cuts G) F t m

      ends : ((t.left ≡ x.0.left) ⊎ (t.left ∈ cuts G x.0)) × ((t.right ≡ x.0.right) ⊎ (t.right ∈ cuts G x.0))
      ends = pieces_ends (length (cuts G x.0)) (cuts G x.0) x.0.left x.0.right t x.2

      left : t.left ≡ x.0.left → T (in_range t.left)
      left e = subst (λ p. T (in_range p)) (sym e) (left_in_range x.0 (r x.0 x.1))

      right : t.right ≡ x.0.right → T (in_range t.right)
      right e = subst (λ p. T (in_range p)) (sym e) (right_in_range x.0 (r x.0 x.1))

      at : (p : Point) → p ∈ cuts G x.0 → T (in_range p)
      at p k = inside_range x.0 (ord_f x.0 x.1) (r x.0 x.1) p (i x.0 x.1 p k)

  well : SplitWell F G
  well =
      record {
        line_kept = parts (line F) (line (split_by G F)) line_interior line_boundary;
        region_kept = parts (region F) (region (split_by G F)) region_interior region_boundary;
        area_kept = λ reg. split_area (cuts G) F reg i;
        cut = record {
          only = λ s m p n. cut_at G ord_g s (ord_f s m) p (new_end_cut (cuts G) s (ord_f s m) (i s m) p n);
          all = λ s m p c. cut_new_end (cuts G) s (ord_f s m) (i s m) p (at_cut G ord_g s (ord_f s m) p c);
        };
        counted = split_length (cuts G) F ord_f i;
        in_range_lem = piece_range;
        split = split_split (cuts G) F i split;
        different = split_differ (cuts G) F ord_f i split.apart;
        regular = λ reg. split_regular (cuts G) F reg i;
        ia_kept = λ reg. piece_interior (cuts G) F reg i;
      }

-- ---- both objects

module _ (F G : List Segment) (split_f : Split F) (split_g : Split G) (grids : OnGrid F G) where
  -- asked the other way round, no two cross off the grid either
  grids_swap : OnGrid G F
  grids_swap g s n m e = grids s g m n (off_swap g s (split_g.ordered g n) (split_f.ordered s m) e)

  by_f : CutBy F G (cuts G)
  by_f = cuts_meet F G split_f.ordered split_g.ordered grids

  by_g : CutBy G F (cuts F)
  by_g = cuts_meet G F split_g.ordered split_f.ordered grids_swap

  pub first_well : SplitWell F G
  first_well = well F G split_f split_g.ordered by_f

  pub second_well : SplitWell G F
  second_well = well G F split_g split_f.ordered by_g

  -- 15 finds nothing: a piece of one and an unequal piece of the other share only common ends
  pub nothing_touches : (a b : Segment) → a ∈ split_by G F → b ∈ split_by F G → touch a b ≡ false
  nothing_touches = pieces_apart F G (cuts G) (cuts F) by_f by_g split_f split_g
