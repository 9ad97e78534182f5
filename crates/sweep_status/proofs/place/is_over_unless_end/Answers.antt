-- At one of its ends a segment passes neither under the point nor over it.
use Rattle.std.proofs.Common.{◌≡◌, false, ℤ, pos, refl, sym, ◌∙◌}
use Rattle.std.specs.Int.Signed.{lt_z}
use Rattle.whole.proofs.Logic.{is_true}
use Rattle.plane.specs.declared.Point.{Point}
use Rattle.plane.specs.declared.Segment.{Segment}
use Rattle.plane.specs.declared.Turn.TheVariants.{Straight}
use Rattle.plane.specs.Plane.{turn}
use Rattle.plane.proofs.Compared.{same_points}
use Rattle.plane.proofs.Equal.{same_point_read}
use Rattle.plane.proofs.Machine.{is_right, right_is, told}
use Rattle.plane.proofs.Narrow.{at_first, at_second}
use Rattle.sweep_laws.specs.Lower.{passes_over}
use Rattle.sweep_status.proofs.place.is_over_unless_end.Goals as goal

on_line : (u : Segment) (p : Point) → Straight ≡ turn u.left u.right p → false ≡ passes_over u p
on_line u p e = told is_right (λ (z : ℤ). lt_z z (pos 0)) right_is u.left u.right p e refl

pub returns-then-eq : goal.returns-then-eq
returns-then-eq c =
    let u = c.args.u in
    let p = c.args.p in
    on_line u p (at_first u.left u.right p (same_point_read u.left p (is_true _ (sym (c.eq.ensures ∙ same_points u.left p) ∙ c.if-eq.true))))

pub returns-then-eq-2 : goal.returns-then-eq-2
returns-then-eq-2 c =
    let u = c.args.u in
    let p = c.args.p in
    on_line u p (at_second u.left u.right p (same_point_read u.right p (is_true _ (sym (c.eq-2.ensures ∙ same_points u.right p) ∙ c.if-eq-2.true))))
