use Rattle.plane.proofs.Machine.{left_in_range, right_in_range}
use Rattle.whole.proofs.Logic.{in_at, in_map}
use Rattle.plane.specs.declared.Segment.{Segment}
use Rattle.plane.specs.Plane.{segment_in_range}
use Rattle.std.proofs.Common.{ℕ, List, ◌<◌, length, get_or, T}
use Rattle.scene_written.specs.Bytes.{GoodSegment}
use Rattle.whole.specs.Count.{◌∈◌}
use Rattle.split_cuts.specs.declared.Piece.{Piece}
use Rattle.split_cuts.specs.Listed.{segments_of}
use Rattle.split_cuts.proofs.Listing.{no_piece}
use Rattle.split.proofs.written.ends_of.Goals as goal

in_range_at : (list : List Piece) → ((t : Segment) → t ∈ segments_of list → GoodSegment t) → (i : ℕ) → i < length list → T (segment_in_range (get_or list i no_piece).segment)
in_range_at list good i h = (good (get_or list i no_piece).segment (in_map (λ (p : Piece). p.segment) (in_at list no_piece i h))).in_range_lem

pub key-requires : goal.key-requires
key-requires c = left_in_range _ (in_range_at c.args.pieces.now c.requires.1 c.loop-p.p-index c.loop-p-test.true)

pub key-requires-in-loop-p : goal.key-requires-in-loop-p
key-requires-in-loop-p c = right_in_range _ (in_range_at c.args.pieces.now c.requires.1 c.loop-p.p-index c.loop-p-test.true)
