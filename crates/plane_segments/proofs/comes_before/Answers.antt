-- The order of halfsegments, by whether the dominating points are one and the sides the same.
use Rattle.std.proofs.Common.{◌≡◌, Bool, true, false, not, ◌&&◌, int_eq, T, ◌*◌, pos, refl, sym, ap, ap₂, ◌∙◌}
use mathlib.Core.Bool.{or-false, and-eq-true_iff, beq}
use borrow.Author.Tests.{not-true, not-false}
use Rattle.std.specs.Int.Signed.{lt_z}
use Rattle.whole.specs.Count.{eq_z}
use Rattle.whole.proofs.Logic.{beq_same, beq_other}
use Rattle.plane.specs.declared.Point.{Point}
use Rattle.plane.specs.declared.Halfsegment.{Halfsegment}
use Rattle.plane.specs.Plane.{limit, within, segment_in_range, before, is_same_point, side, choose, dominating, far_end, comes_before}
use Rattle.plane.proofs.Machine.{eq_z_true, lt_z_no, left_in_doubled, right_in_doubled}
use Rattle.plane.proofs.Compared.{same_points, before_is}
use Rattle.plane_segments.proofs.comes_before.Goals as goal

same_not_before : (p q : Point) → is_same_point p q ≡ true → before p q ≡ false
unfolding is_same_point before
same_not_before p q e =
    let both = (and-eq-true_iff (eq_z p.x q.x) (eq_z p.y q.y)).0 e in
    rw (lt_z_no p.x q.x (eq_z_true p.x q.x both.0), both.0) (lt_z_no p.y q.y (eq_z_true p.y q.y both.1))

module _ (h k : Halfsegment) where
  other_points : is_same_point (dominating h) (dominating k) ≡ false → before (dominating h) (dominating k) ≡ comes_before h k
  unfolding comes_before
  other_points e = rw e (sym (or-false (before (dominating h) (dominating k))))

  module _ (same : is_same_point (dominating h) (dominating k) ≡ true) where
    same_side_lem : (t : Bool) → h.is_left ≡ t → k.is_left ≡ t → lt_z (pos 0) (side (dominating h) (far_end h) (far_end k)) ≡ comes_before h k
    unfolding comes_before
    same_side_lem true e f = rw (same_not_before (dominating h) (dominating k) same, same, e, f)
    same_side_lem false e f = rw (same_not_before (dominating h) (dominating k) same, same, e, f)

    other_side : (t : Bool) → h.is_left ≡ not t → k.is_left ≡ t → k.is_left ≡ comes_before h k
    unfolding comes_before
    other_side true e f = rw (same_not_before (dominating h) (dominating k) same, same, e, f)
    other_side false e f = rw (same_not_before (dominating h) (dominating k) same, same, e, f)

-- the far end of a halfsegment in range is within the range of doubled coordinates
chosen : (b : Bool) (p q : Point) → T (within (2 * limit) p) → T (within (2 * limit) q) → T (within (2 * limit) (choose b p q))
chosen true p q u v = u
chosen false p q u v = v

far_in : (h : Halfsegment) → T (segment_in_range h.segment) → T (within (2 * limit) (far_end h))
unfolding far_end
far_in h t = chosen h.is_left h.segment.right h.segment.left (right_in_doubled h.segment t) (left_in_doubled h.segment t)

-- what `p != q` answers, of the dominating points themselves
differ_is : (h k : Halfsegment) (p q : Point) → p ≡ dominating h → q ≡ dominating k → not (int_eq p.x q.x && int_eq p.y q.y) ≡ not (is_same_point (dominating h) (dominating k))
differ_is h k p q e f = ap not (same_points p q ∙ ap₂ is_same_point e f)

pub turns-requires : goal.turns-requires
turns-requires c = (
  left_in_doubled c.args.h.segment c.requires.0,
  right_in_doubled c.args.h.segment c.requires.0,
  rw c.far_end.ensures (far_in c.args.k c.requires.1),
)

pub returns-then-ne : goal.returns-then-ne
returns-then-ne c =
    let p = c.dominating_point-p in
    let q = c.dominating_point-q in
    c.lt.ensures ∙ before_is p.result q.result ∙ ap₂ before p.ensures q.ensures
    ∙ other_points c.args.h c.args.k (not-true _ (sym (c.ne.ensures ∙ differ_is c.args.h c.args.k _ _ p.ensures q.ensures) ∙ c.if-ne.true))

pub returns-then-h-k : goal.returns-then-h-k
returns-then-h-k c =
    let p = c.dominating_point-p in
    let q = c.dominating_point-q in
    let h = c.args.h in
    let k = c.args.k in
    other_side h k (not-false _ (sym (c.ne.ensures ∙ differ_is h k _ _ p.ensures q.ensures) ∙ c.if-ne.false)) k.is_left
    (beq_other h.is_left k.is_left (not-true (beq h.is_left k.is_left) c.if-h-k.true)) refl

pub returns-else-h-k : goal.returns-else-h-k
returns-else-h-k c =
    let p = c.dominating_point-p in
    let q = c.dominating_point-q in
    let h = c.args.h in
    let k = c.args.k in
    (rw c.far_end.ensures at c.turns.ensures) ∙ c.left_way.ensures (far_end k)
    ∙ same_side_lem h k (not-false _ (sym (c.ne.ensures ∙ differ_is h k _ _ p.ensures q.ensures) ∙ c.if-ne.false)) k.is_left
    (beq_same h.is_left k.is_left (not-false (beq h.is_left k.is_left) c.if-h-k.false)) refl
