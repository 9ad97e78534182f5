-- Each turn that is asked moves one end of the part in question, or tells that the line of the entry passes through the point.
use Rattle.std.proofs.Common.{◌≡◌, ℕ, suc, ◌+◌, ◌-◌, ◌/◌, T, ℤ, pos, get_or, refl, sym, subst, ◌∙◌, arith}
use Rattle.std.specs.Int.Signed.{lt_z}
use Rattle.whole.specs.Count.{eq_z, odd}
use Rattle.whole.proofs.Logic.{is_true}
use Rattle.plane.specs.declared.Point.{Point}
use Rattle.plane.specs.declared.Segment.{Segment}
use Rattle.plane.specs.declared.Turn.TheVariants.{Left, Straight, Right}
use Rattle.plane.specs.Plane.{turn}
use Rattle.plane.proofs.Machine.{turn_asks, told, left_test, left_is, is_straight, straight_is, is_right, right_is}
use Rattle.scene.specs.Read.{segment_at}
use Rattle.sweep_laws.specs.Lower.{passes_under, passes_over}
use Rattle.sweep_laws.specs.Located.{on_line, on_entry, between}
use Rattle.sweep.proofs.points.locate.Goals as goal

module _ (u : Segment) (v : Point) where
  under_it : Left ≡ turn u.left u.right v → T (passes_under u v)
  under_it e = is_true _ (sym (told left_test (λ (z : ℤ). lt_z (pos 0) z) left_is u.left u.right v e refl))

  through_it : Straight ≡ turn u.left u.right v → T (on_line u v)
  through_it e = is_true _ (sym (told is_straight (λ (z : ℤ). eq_z z (pos 0)) straight_is u.left u.right v e refl))

  over_it : Right ≡ turn u.left u.right v → T (passes_over u v)
  over_it e = is_true _ (sym (told is_right (λ (z : ℤ). lt_z z (pos 0)) right_is u.left u.right v e refl))

pub turn_from-requires : goal.turn_from-requires
turn_from-requires c = turn_asks c.segment-u.result c.args.v c.segment-u.ensures.1 c.requires

pub loop-low-preserved-in-Left : goal.loop-low-preserved-in-Left
loop-low-preserved-in-Left c =
    let e = c.args.entries in
    let v = c.args.v in
    let l = c.loop-low in
    let m = l.low + (l.high - l.low) / 2 in
    let u = subst (λ (u : Segment). T (passes_under u v)) c.segment-u.ensures.0 (under_it c.segment-u.result v c.in-Left.ensures) in
    let next : (i : ℕ) → suc i ≡ m + 1 → m ≡ i = λ i q. omega (arith, q) in (
      omega (arith, c.loop-low-test.true),
      l.invariant.1,
      λ i q. subst (λ (k : ℕ). T (passes_under (segment_at e.bytes.now (get_or e.offsets.now k 0)) v)) (next i q) u,
      l.invariant.3,
    )

pub returns-in-Straight : goal.returns-in-Straight
returns-in-Straight c =
    let v = c.args.v in
    let l = c.loop-low in
    on_entry (l.low + (l.high - l.low) / 2) (omega (arith, c.loop-low-test.true, l.invariant.1))
    (subst (λ (u : Segment). T (on_line u v)) c.segment-u.ensures.0 (through_it c.segment-u.result v c.in-Straight.ensures)) refl

pub loop-low-preserved : goal.loop-low-preserved
loop-low-preserved c =
    let v = c.args.v in
    let l = c.loop-low in (
      omega arith,
      omega (arith, c.loop-low-test.true, l.invariant.1),
      l.invariant.2,
      λ q. subst (λ (u : Segment). T (passes_over u v)) c.segment-u.ensures.0 (over_it c.segment-u.result v c.in-Right.ensures),
    )

pub returns : goal.returns
unfolding odd
returns c =
    let l = c.loop-low in
    let same : l.low ≡ l.high = omega (arith, l.invariant.0, c.loop-low-test.false) in
    between l.high l.invariant.1 (λ i q. l.invariant.2 i (q ∙ sym same)) l.invariant.3 c.from.ensures
