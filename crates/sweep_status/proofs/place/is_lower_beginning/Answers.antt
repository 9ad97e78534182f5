-- With a common left end, the turn at the right end tells both: a segment passes neither under its own left end nor under its own right end.
use Rattle.std.proofs.Common.{◌≡◌, Bool, true, false, not, ◌&&◌, ◌||◌, refl, sym, ap, ◌∙◌}
use Rattle.whole.proofs.Logic.{is_true}
use Rattle.plane.specs.declared.Point.{Point}
use Rattle.plane.specs.declared.Segment.{Segment}
use Rattle.plane.specs.declared.Turn.TheVariants.{Straight}
use Rattle.plane.specs.Plane.{is_same_point, is_same_segment, side, turn}
use Rattle.plane.proofs.Compared.{same_points}
use Rattle.plane.proofs.Equal.{same_point_read}
use Rattle.plane.proofs.Machine.{left_test, left_is}
use Rattle.plane.proofs.Narrow.{at_first, at_second}
use Rattle.sweep_laws.specs.Lower.{passes_under, passes_over}
use Rattle.sweep_status.proofs.place.is_lower_beginning.Goals as goal

on_line : (u : Segment) (p : Point) → Straight ≡ turn u.left u.right p → passes_under u p ≡ false
unfolding turn
on_line u p e = sym (left_is (side u.left u.right p)) ∙ ap left_test (sym e)

module _ (u t : Segment) where
  at_left : is_same_point u.left t.left ≡ true → passes_under u t.left ≡ false
  at_left e = on_line u t.left (at_first u.left u.right t.left (same_point_read u.left t.left (is_true _ e)))

  at_right : is_same_point u.right t.right ≡ true → passes_under u t.right ≡ false
  at_right e = on_line u t.right (at_second u.left u.right t.right (same_point_read u.right t.right (is_true _ e)))

equal : (own c : Bool) → not own ≡ (not own && (c || true))
equal true c = refl
equal false true = refl
equal false false = refl

turned : (b c : Bool) → b ≡ ((b || false) && (b || c || false))
turned true c = refl
turned false c = refl

pub returns-then-eq-2 : goal.returns-then-eq-2
unfolding is_same_segment
returns-then-eq-2 c =
    let u = c.args.u in
    let t = c.args.t in
    let left = sym (c.eq.ensures ∙ same_points u.left t.left) ∙ c.if-eq.true in
    let right = sym (c.eq-then-eq.ensures ∙ same_points u.right t.right) ∙ c.if-eq-2.true in
    rw (at_left u t left, at_right u t right, left, right) (equal c.args.own (passes_over t u.right))

pub returns-then-eq : goal.returns-then-eq
unfolding is_same_segment
returns-then-eq c =
    let u = c.args.u in
    let t = c.args.t in
    let left = sym (c.eq.ensures ∙ same_points u.left t.left) ∙ c.if-eq.true in
    let right = sym (c.eq-then-eq.ensures ∙ same_points u.right t.right) ∙ c.if-eq-2.false in
    c.is_under.ensures ∙ rw (at_left u t left, left, right) (turned (passes_under u t.right) (passes_over t u.right))

pub returns-else-is_under : goal.returns-else-is_under
unfolding is_same_segment
returns-else-is_under c =
    let u = c.args.u in
    let t = c.args.t in
    let left = sym (c.eq.ensures ∙ same_points u.left t.left) ∙ c.if-eq.false in
    let under = sym c.is_under-2.ensures ∙ c.if-is_under.false in
    rw (under, left) c.if-is_under.false
