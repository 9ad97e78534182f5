-- The ends of good segments are good, and what is written of segments that share only common ends is the object's bytes.
use Rattle.std.proofs.Common.{◌≡◌, ◌∙◌, ◌++◌, refl, sym, ap, ap₂, subst, Bool, List, [], map}
use Rattle.plane.specs.Plane.{Object}
use Rattle.scene.specs.declared.Shape.TheVariants.{Line, Region}
use Rattle.scene_keys.specs.declared.Ends.{Ends}
use Rattle.scene_keys.specs.Keyed.{ends_of}
use Rattle.scene_written.specs.Bytes.{bytes_of}
use Rattle.scene_written.specs.Arranged.{object_bytes}
use Rattle.scene_writing.specs.Rows.{AreGood, segments_in}
use Rattle.scene_writing.specs.Settled.{settled_items}
use Rattle.scene_writing.proofs.Rows.{are_good, segments_back}
use Rattle.scene_writing.proofs.InOrder.{apart_line_written, apart_region_written}
use Rattle.split_cuts.specs.declared.Piece.{Piece}
use Rattle.split_cuts.specs.Listed.{segments_of}
use Rattle.split.specs.Split.{of_shape}
use Rattle.split.specs.Cut.{ias_of, Ready}
use Rattle.split.proofs.written.append.Goals as goal

-- what is written of the row, where it has the ends of good pieces
line_same : (pieces : List Piece) (row : List Ends) (o : Object) → Ready Line pieces → row ≡ map ends_of (segments_of pieces)
    → bytes_of Line (settled_items Line (segments_in row) []) ≡ object_bytes (of_shape Line o (segments_of pieces))
line_same pieces row o w e =
    let l = segments_of pieces in
    ap (λ r. bytes_of Line (settled_items Line r [])) (ap segments_in e ∙ segments_back l w.good) ∙ apart_line_written l w.ordered w.apart w.differ []

region_same : (pieces : List Piece) (row : List Ends) (ia : List Bool) (o : Object) → Ready Region pieces → row ≡ map ends_of (segments_of pieces) → ia ≡ ias_of pieces
    → bytes_of Region (settled_items Region (segments_in row) ia) ≡ object_bytes (of_shape Region o (segments_of pieces))
region_same pieces row ia o w e f =
    let l = segments_of pieces in
    ap₂ (λ r b. bytes_of Region (settled_items Region r b)) (ap segments_in e ∙ segments_back l w.good) (f ∙ w.right_ia refl) ∙ apart_region_written l w.ordered w.apart w.differ

pub invariant_of-row : goal.invariant_of-row
invariant_of-row c =
    let l = segments_of c.args.pieces.now in
    record { few = c.as_slice.ensures.fits; good = subst AreGood (sym (c.as_slice.ensures.value ∙ c.ends_of-ends.ensures)) (are_good l c.requires.0.good) }

pub invariant_of-row-in-Region : goal.invariant_of-row-in-Region
invariant_of-row-in-Region c =
    let l = segments_of c.args.pieces.now in
    record { few = c.as_slice.ensures.fits; good = subst AreGood (sym (c.as_slice.ensures.value ∙ c.ends_of-ends.ensures)) (are_good l c.requires.0.good) }

pub returns-in-Line : goal.returns-in-Line
returns-in-Line c =
    let pieces = c.args.pieces.now in
    let w = subst (λ k. Ready k pieces) c.in-Line.is c.requires.0 in
    λ o. c.write_line.ensures ∙ ap (λ l. c.args.bytes.now.items ++ l) (line_same pieces c.as_slice.result.now o w (c.as_slice.ensures.value ∙ c.ends_of-ends.ensures))
    ∙ ap (λ k. c.args.bytes.now.items ++ object_bytes (of_shape k o (segments_of pieces))) (sym c.in-Line.is)

pub returns-in-Region : goal.returns-in-Region
returns-in-Region c =
    let pieces = c.args.pieces.now in
    let w = subst (λ k. Ready k pieces) c.in-Region.is c.requires.0 in
    λ o. c.write_region.ensures
    ∙ ap (λ l. c.args.bytes.now.items ++ l)
    (region_same pieces c.as_slice.result.now c.as_slice-in-Region.result.now o w (c.as_slice.ensures.value ∙ c.ends_of-ends.ensures) (c.as_slice-in-Region.ensures.value ∙ c.ias_of.ensures))
    ∙ ap (λ k. c.args.bytes.now.items ++ object_bytes (of_shape k o (segments_of pieces))) (sym c.in-Region.is)
