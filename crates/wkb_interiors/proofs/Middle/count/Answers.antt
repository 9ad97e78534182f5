use Rattle.std.proofs.Common.{◌+◌, ◌≤◌, get_or, ap, subst, arith}
use Rattle.whole.specs.Count.{bit}
use Rattle.whole.proofs.Logic.{in_at}
use Rattle.scene_segments.proofs.Walk.{byte_small, byte_bit}
use Rattle.scene_keys.specs.Keyed.{room}
use Rattle.scene_writing.specs.Named.{no_ends}
use Rattle.wkb_interiors.proofs.Columns.{column_small}
use Rattle.wkb_interiors.proofs.Entries.{none_later, next}
use Rattle.wkb_interiors.proofs.Middle.count.Goals as goal

pub overflow_add-self : goal.overflow_add-self
overflow_add-self c = let m = c.args.self.now in omega (arith, column_small m.segment m.is.good, m.is.column_is)

pub returns-then-self-ends : goal.returns-then-self-ends
returns-then-self-ends c =
    let m = c.args.self.now in
    let row = c.args.row in
    omega (
      arith,
      c.loop-ends.invariant.rest,
      none_later row.good c.requires m.segment m.is.good no_ends c.loop-ends.ends-index c.loop-ends-test.true
          (subst (λ x. x + room ≤ (get_or row.ends.now c.loop-ends.ends-index no_ends).left) m.is.column_is c.if-self-ends.true),
    )

pub counts-requires : goal.counts-requires
counts-requires c = c.args.row.good _ (in_at c.args.row.ends.now no_ends c.loop-ends.ends-index c.loop-ends-test.true)

pub loop-ends-preserved : goal.loop-ends-preserved
loop-ends-preserved c =
    let m = c.args.self.now in
    let row = c.args.row in
    record {
      few = omega (arith, c.loop-ends.invariant.few, byte_small c.counts.result);
      rest =
          omega (
            arith,
            c.loop-ends.invariant.rest,
            next row.good c.requires m.segment m.is.good no_ends c.loop-ends.ends-index c.loop-ends-test.true,
            byte_bit c.counts.result,
            ap bit c.counts.ensures,
          );
    }
