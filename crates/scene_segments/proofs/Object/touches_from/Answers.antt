use Rattle.std.proofs.Common.{◌≡◌, ◌∙◌, ◌&&◌, refl, sym, ap, ℕ, Bool, List, [], ◌∷◌, false}
use Rattle.plane.specs.declared.Segment.{Segment}
use Rattle.plane.specs.Plane.{touch}
use Rattle.scene.specs.declared.Layout.{Layout}
use Rattle.scene.specs.Conditions.{has_segments, half}
use Rattle.scene_segments.specs.Walked.{beyond, some_until, touches_from}
use Rattle.scene_segments.proofs.Walk.{between, left_passes, passes_is}
use Rattle.scene_segments.proofs.Until.{some_stopped, some_met, some_further}
use Rattle.scene_segments.proofs.Object.touches_from.Goals as goal

-- points have no segments
no_left : (s : List ℕ) (l : Layout) (t : Segment) (k : ℕ) → has_segments l.shape ≡ false → touches_from s l t k ≡ false
unfolding touches_from
no_left s l t k e = go (between k l.count)
  where
    go : (is : List ℕ) → some_until (left_passes s l (beyond t)) (left_passes s l (touch t)) is ≡ false
    go [] = refl
    go (i ∷ is) = rw e (go is)

pub returns-then-not-has_segments : goal.returns-then-not-has_segments
returns-then-not-has_segments c =
    let a = c.args in
    sym (no_left a.self.bytes.now a.self.layout a.t a.k (sym c.has_segments.ensures ∙ c.if-not-has_segments.true))

pub loop-i-init : goal.loop-i-init
unfolding touches_from
loop-i-init c = refl

pub returns-then-is_beyond : goal.returns-then-is_beyond
returns-then-is_beyond c =
    let o = c.args.self in
    let passes = passes_is o.bytes.now o.layout c.loop-i.i (sym c.has_segments.ensures ∙ c.if-not-has_segments.false) c.half-h.ensures.is in
    sym (c.loop-i.invariant
    ∙ some_stopped (left_passes o.bytes.now o.layout (beyond c.args.t)) (left_passes o.bytes.now o.layout (touch c.args.t)) c.loop-i.i o.layout.count c.loop-i-test.true
    (passes (beyond c.args.t) ∙ sym c.is_beyond.ensures ∙ c.if-is_beyond.true))

pub returns-then-is_left_touched : goal.returns-then-is_left_touched
returns-then-is_left_touched c =
    let o = c.args.self in
    let passes = passes_is o.bytes.now o.layout c.loop-i.i (sym c.has_segments.ensures ∙ c.if-not-has_segments.false) c.half-h.ensures.is in
    sym (c.loop-i.invariant
    ∙ some_met (left_passes o.bytes.now o.layout (beyond c.args.t)) (left_passes o.bytes.now o.layout (touch c.args.t)) c.loop-i.i o.layout.count c.loop-i-test.true
    (passes (beyond c.args.t) ∙ sym c.is_beyond.ensures ∙ c.if-is_beyond.false) (passes (touch c.args.t) ∙ sym c.is_left_touched.ensures ∙ c.if-is_left_touched.true))

pub loop-i-preserved : goal.loop-i-preserved
loop-i-preserved c =
    let o = c.args.self in
    let passes = passes_is o.bytes.now o.layout c.loop-i.i (sym c.has_segments.ensures ∙ c.if-not-has_segments.false) c.half-h.ensures.is in
    c.loop-i.invariant
    ∙ some_further (left_passes o.bytes.now o.layout (beyond c.args.t)) (left_passes o.bytes.now o.layout (touch c.args.t)) c.loop-i.i o.layout.count c.loop-i-test.true
    (passes (beyond c.args.t) ∙ sym c.is_beyond.ensures ∙ c.if-is_beyond.false) (passes (touch c.args.t) ∙ sym c.is_left_touched.ensures ∙ c.if-is_left_touched.false)

-- a right one neither stops the search nor is met
pub loop-i-preserved-then-not-is_left : goal.loop-i-preserved-then-not-is_left
loop-i-preserved-then-not-is_left c =
    let o = c.args.self in
    let passes = passes_is o.bytes.now o.layout c.loop-i.i (sym c.has_segments.ensures ∙ c.if-not-has_segments.false) {h = half o.bytes.now o.layout c.loop-i.i} refl in
    let right : (f : Segment → Bool) → left_passes o.bytes.now o.layout f c.loop-i.i ≡ false = λ f. passes f ∙ ap (λ b. b && f (half o.bytes.now o.layout c.loop-i.i).segment) (sym c.is_left.ensures ∙ c.if-not-is_left.true) in
    c.loop-i.invariant
    ∙ some_further (left_passes o.bytes.now o.layout (beyond c.args.t)) (left_passes o.bytes.now o.layout (touch c.args.t)) c.loop-i.i o.layout.count c.loop-i-test.true
    (right (beyond c.args.t)) (right (touch c.args.t))
