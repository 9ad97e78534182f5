use Rattle.std.proofs.Common.{◌≡◌, ◌∙◌, sym, ap, ℕ, List, arith}
use Rattle.whole.proofs.Logic.{true_is}
use Rattle.plane.specs.declared.Segment.{Segment}
use Rattle.scene.specs.declared.Layout.{Layout}
use Rattle.scene.specs.Conditions.{has_segments}
use Rattle.scene_segments.specs.Walked.{beyond, is_below, count_until, count_below}
use Rattle.scene_segments.proofs.Walk.{between, all_between, byte_small, left_passes, passes_is}
use Rattle.scene_segments.proofs.Until.{count_stopped, count_further}
use Rattle.scene_segments.proofs.Object.count_for_ia.Goals as goal

all : (s : List ℕ) (l : Layout) (t : Segment) → count_below s l t ≡ count_until (left_passes s l (beyond t)) (left_passes s l (is_below t)) (between 0 l.count)
unfolding count_below
all s l t = ap (count_until (left_passes s l (beyond t)) (left_passes s l (is_below t))) (all_between l.count)

pub loop-i-init : goal.loop-i-init
loop-i-init c = record { few = omega arith; rest = omega (arith, all c.args.self.bytes.now c.args.self.layout c.args.t) }

pub returns-then-is_beyond : goal.returns-then-is_beyond
returns-then-is_beyond c =
    let o = c.args.self in
    let passes = passes_is o.bytes.now o.layout c.loop-i.i (true_is (has_segments o.layout.shape) c.requires.0) c.half-h.ensures.is in
    let none =
    count_stopped (left_passes o.bytes.now o.layout (beyond c.args.t)) (left_passes o.bytes.now o.layout (is_below c.args.t)) c.loop-i.i o.layout.count c.loop-i-test.true
    (passes (beyond c.args.t) ∙ sym c.is_beyond.ensures ∙ c.if-is_beyond.true) in
    omega (arith, c.loop-i.invariant.rest, none)

pub loop-i-preserved : goal.loop-i-preserved
loop-i-preserved c =
    let o = c.args.self in
    let passes = passes_is o.bytes.now o.layout c.loop-i.i (true_is (has_segments o.layout.shape) c.requires.0) c.half-h.ensures.is in
    record {
      few = omega (arith, byte_small c.is_left_below.result);
      rest =
          count_further (left_passes o.bytes.now o.layout (beyond c.args.t)) (left_passes o.bytes.now o.layout (is_below c.args.t)) c.loop-i.i o.layout.count c.loop-i.n _ c.loop-i-test.true
          (passes (beyond c.args.t) ∙ sym c.is_beyond.ensures ∙ c.if-is_beyond.false) c.loop-i.invariant.rest (passes (is_below c.args.t) ∙ sym c.is_left_below.ensures);
    }
