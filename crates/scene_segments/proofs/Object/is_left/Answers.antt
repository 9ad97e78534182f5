use Rattle.std.proofs.Common.{arith}
use Rattle.whole.proofs.Logic.{true_is}
use Rattle.scene.specs.Conditions.{has_segments}
use Rattle.scene_segments.proofs.Elements.{fits, half_good}
use Rattle.scene_segments.proofs.Object.is_left.Goals as goal

pub place-requires : goal.place-requires
place-requires c = let o = c.args.self in omega (arith, fits o.bytes.now o.layout o.read c.args.i c.requires.0, c.well_formed)

pub is_left-requires : goal.is_left-requires
is_left-requires c =
    let o = c.args.self in
    omega (arith, (half_good o.bytes.now o.layout o.read c.args.i c.requires.0 (true_is (has_segments o.layout.shape) c.requires.1)).there, c.place.ensures)
