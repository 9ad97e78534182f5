-- One element more is in the box.
use Rattle.std.proofs.Common.{◌+◌, ◌-◌, sym, ap, ◌∙◌}
use Rattle.summary.specs.declared.Bounds.{Bounds}
use Rattle.summary.specs.Summary.{grow}
use Rattle.summary_making.specs.Making.{corners_from}
use Rattle.summary_making.proofs.Corners.{grow_next}
use Rattle.summary_making.proofs.bounds.bounds_of.Goals as goal

pub loop-i-preserved : goal.loop-i-preserved
loop-i-preserved c =
    let s = c.args.o.bytes.now in
    let l = c.args.o.layout in
    let i = c.loop-i.i in
    ap (λ (b : Bounds). grow b (corners_from s l (l.count - (i + 1)) (i + 1))) c.with_element-b.ensures
    ∙ sym (grow_next s l c.loop-i.b i c.loop-i-test.true)
    ∙ c.loop-i.invariant
