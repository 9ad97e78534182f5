-- One that ends left of the column does not count.
use Rattle.std.proofs.Common.{◌<◌, T, sym, subst, ◌∙◌}
use borrow.Author.Tests.{lt-leb}
use Rattle.plane.specs.Plane.{segment_in_range}
use Rattle.wkb_interiors.proofs.Columns.{in_range_lem, passed_over}
use Rattle.wkb_interiors.proofs.Middle.counts.Goals as goal

pub is_below-requires : goal.is_below-requires
is_below-requires c =
    let m = c.args.self.now.is in
    (subst (λ s. T (segment_in_range s)) (sym c.segment.ensures) (in_range_lem c.args.ends c.requires), m.doubled, m.halved_is)

pub returns-else-self-ends : goal.returns-else-self-ends
returns-else-self-ends c =
    let middle = c.args.self.now in
    let e = c.args.ends in
    lt-leb middle.column e.right c.if-self-ends.false ∙ sym (passed_over e c.requires middle.segment middle.is.good (subst (λ x. e.right < x) middle.is.column_is c.if-self-ends.false))
