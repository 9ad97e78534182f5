use Rattle.std.proofs.Common.{◌∙◌, ◌++◌, List, map, ap}
use Rattle.scene.specs.declared.Shape.TheVariants.{Line}
use Rattle.scene_written.specs.Bytes.{Item, record_bytes, bytes_of}
use Rattle.scene_writing.specs.declared.order.Half.{Half}
use Rattle.scene_writing.specs.Named.{half_in, no_half}
use Rattle.scene_writing.proofs.Items.{half_at, line_named}
use Rattle.scene_writing.proofs.Wrote.{wrote_more, object_wrote}
use Rattle.scene_writing.proofs.write_line.Goals as goal

pub half-requires : goal.half-requires
half-requires g c = half_at c.args.row.ends.now c.settled.ensures.halves c.as_slice-h-items.ensures.value c.loop-h.h-index c.loop-h-test.true

pub loop-h-preserved : goal.loop-h-preserved
loop-h-preserved g c =
    wrote_more Line (half_in c.args.row.ends.now) no_half c.loop-h.invariant c.loop-h-test.true (c.line_half.ensures ∙ ap (record_bytes Line) c.half.ensures) c.append-in-loop-h.ensures

pub returns : goal.returns
returns g c =
    let row = c.args.row.ends.now in
    object_wrote Line (half_in row) c.args.out.now.items c.append.ensures c.loop-h.invariant c.loop-h-test.false c.push.ensures.items
    ∙ ap (λ (xs : List (Item Line)). c.args.out.now.items ++ bytes_of Line xs)
    (ap (λ (hs : List Half). map (half_in row) hs) (c.as_slice-h-items.ensures.value ∙ c.settled.ensures.settled) ∙ line_named row)
