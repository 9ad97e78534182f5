-- The first object leaves room for the second.
use Rattle.std.proofs.Common.{◌≡◌, ◌≤◌, ◌+◌, ◌*◌, true, List, length, ◌++◌, ◌∙◌, ap, ap₂, sym, subst, arith, []}
use Rattle.std.proofs.lemmas.List.{length-map}
use Rattle.std.proofs.lemmas.Bool.{false≢true}
use Rattle.plane.specs.declared.Segment.{Segment}
use Rattle.plane.specs.Plane.{Object, line}
use Rattle.scene.specs.declared.Shape.{Shape}
use Rattle.scene.specs.declared.Shape.TheVariants.{Points, Line, Region}
use Rattle.scene.specs.Conditions.{has_segments}
use Rattle.scene_written.specs.Arranged.{line_items, edge_of, region_items, object_bytes}
use Rattle.scene_written.proofs.ReadBack.{bytes_length}
use Rattle.scene_written.proofs.Arranging.{line_length}
use Rattle.split_cuts.specs.declared.Piece.{Piece}
use Rattle.split_cuts.specs.Listed.{segments_of}
use Rattle.split.specs.Split.{of_shape}
use Rattle.split.specs.Cut.{Ready}
use Rattle.split.proofs.written.both.Goals as goal

region_length : (l : List Segment) → length (region_items l) ≡ length (line_items l)
unfolding region_items
region_length l = length-map (line_items l) (edge_of l)

object_length : (k : Shape) (o : Object) (l : List Segment) → has_segments k ≡ true → length (object_bytes (of_shape k o l)) ≤ 38 * length l + 3
object_length Points o l e = absurd (false≢true e)
object_length Line o l e = omega (arith, bytes_length Line (line_items l), line_length l)
object_length Region o l e = omega (arith, bytes_length Region (region_items l), region_length l, line_length l)

pub append-requires-2 : goal.append-requires-2
append-requires-2 c =
    let cut = c.args.cut.now in
    let ready = c.requires.0 in
    let other = c.requires.1 in
    let l = segments_of cut.own.pieces.items in
    let none = line [] in
    let same = ap segments_of c.as_slice.ensures.value in
    let o = object_bytes (of_shape c.args.pair.own.shape none l) in
    let new = c.append.ensures none ∙ ap₂ (λ a (m : List Segment). a ++ object_bytes (of_shape c.args.pair.own.shape none m)) c.new-bytes.ensures same in (
      subst (Ready c.args.pair.other.shape) (sym c.as_slice-2.ensures.value) other,
      omega (
        arith,
        ready.few,
        other.few,
        ap length c.as_slice-2.ensures.value,
        ap length new,
        object_length c.args.pair.own.shape none l ready.has,
        length-map cut.own.pieces.items (λ (p : Piece). p.segment),
      ),
    )
