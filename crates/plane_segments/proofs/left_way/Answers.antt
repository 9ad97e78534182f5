-- From the right end to the left one, the side value is that from the left to the right with the other sign.
use Rattle.std.proofs.Common.{◌≡◌, true, false, ℤ, pos, refl, ap, ◌∙◌, [], ◌∷◌}
use Rattle.std.specs.Int.Signed.{lt_z}
use Rattle.whole.proofs.Solver.{var, con, ◌:-◌, ◌:*◌, solve}
use Rattle.whole.proofs.Sign.{lt_z_shift}
use Rattle.plane.specs.declared.Point.{Point}
use Rattle.plane.specs.declared.Halfsegment.{Halfsegment}
use Rattle.plane.specs.Plane.{side, dominating, far_end}
use Rattle.plane_segments.proofs.left_way.Goals as goal

module _ (a b c : Point) where
  back : lt_z (side a b c) (pos 0) ≡ lt_z (pos 0) (side b a c)
  unfolding side
  back =
      lt_z_shift (side a b c) (pos 0)
      ∙ ap (λ (z : ℤ). lt_z (pos 0) z)
      (solve (a.x ∷ a.y ∷ b.x ∷ b.y ∷ c.x ∷ c.y ∷ [])
      (con (pos 0) :- ((var 2 :- var 0) :* (var 5 :- var 1) :- (var 3 :- var 1) :* (var 4 :- var 0)))
      ((var 0 :- var 2) :* (var 5 :- var 3) :- (var 1 :- var 3) :* (var 4 :- var 2)) tt)

module _ (h : Halfsegment) (q : Point) where
  leftwards : h.is_left ≡ true → lt_z (pos 0) (side h.segment.left h.segment.right q) ≡ lt_z (pos 0) (side (dominating h) (far_end h) q)
  unfolding dominating far_end
  leftwards e = rw e refl

  rightwards : h.is_left ≡ false → lt_z (side h.segment.left h.segment.right q) (pos 0) ≡ lt_z (pos 0) (side (dominating h) (far_end h) q)
  unfolding dominating far_end
  rightwards e = rw e (back h.segment.left h.segment.right q)

pub returns-then-h : goal.returns-then-h
returns-then-h c q = leftwards c.args.h q c.if-h.true

pub returns-else-h : goal.returns-else-h
returns-else-h c q = rightwards c.args.h q c.if-h.false
