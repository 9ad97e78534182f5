use Rattle.std.proofs.Common.{◌∙◌, refl, ◌++◌, List, false, get_or, map, arith, ap}
use Rattle.plane.specs.declared.Halfsegment.{Halfsegment}
use Rattle.scene.specs.declared.Shape.TheVariants.{Region}
use Rattle.scene_written.specs.Bytes.{Item, record_bytes, bytes_of}
use Rattle.scene_writing.specs.declared.order.Half.{Half}
use Rattle.scene_writing.specs.Named.{edge_in, no_half}
use Rattle.scene_writing.proofs.Items.{half_at, region_named}
use Rattle.scene_writing.proofs.Wrote.{wrote_more, object_wrote}
use Rattle.scene_writing.proofs.write_region_in.Goals as goal

pub half-requires : goal.half-requires
half-requires g c = half_at c.args.row.ends.now c.requires.order.halves refl c.loop-h.h-index c.loop-h-test.true

pub bounds-ia-h : goal.bounds-ia-h
bounds-ia-h g c = omega (arith, half_at c.args.row.ends.now c.requires.order.halves refl c.loop-h.h-index c.loop-h-test.true)

pub loop-h-preserved : goal.loop-h-preserved
loop-h-preserved g c =
    wrote_more Region (edge_in c.args.row.ends.now c.args.ia.now) no_half c.loop-h.invariant c.loop-h-test.true (c.region_half.ensures ∙ ap (λ (h : Halfsegment). record_bytes Region (record { half = h; ia = get_or c.args.ia.now (get_or c.args.order.now c.loop-h.h-index no_half).index false })) c.half.ensures) c.append-in-loop-h.ensures

pub returns : goal.returns
returns g c =
    let row = c.args.row.ends.now in
    object_wrote Region (edge_in row c.args.ia.now) c.args.out.now.items c.append.ensures c.loop-h.invariant c.loop-h-test.false c.push.ensures.items
    ∙ ap (λ (xs : List (Item Region)). c.args.out.now.items ++ bytes_of Region xs)
    (ap (λ (hs : List Half). map (edge_in row c.args.ia.now) hs) c.requires.order.settled ∙ region_named row c.args.ia.now c.requires.ia)
