-- Segments that do not touch cut nothing.
use Prim.Native.Nat.{◌+◌}
use mathlib.Core.Path.{◌≡◌, refl, sym, ap, ap₂, ◌∙◌, subst}
use mathlib.Core.Logic.{◌⊎◌, inl, inr}
use mathlib.Core.Bool.{false, not, ◌&&◌, cond}
use mathlib.Core.List.{[], ◌++◌}
use lib.Dec.{T, T_not}
use Rattle.whole.proofs.Logic.{and_right, and_make, refute}
use Rattle.whole.proofs.Sign.{one_pos}
use Rattle.plane.specs.declared.Point.{Point}
use Rattle.plane.specs.declared.Segment.{Segment}
use Rattle.plane.specs.Plane.{HPoint, SharePoint, fractions, ordered, cross, end_within, touch, grid, is_end, on}
use Rattle.plane.proofs.OnSegment.{ordered_read, on_along}
use Rattle.plane.proofs.Means.{EndOf, end_read, end_make}
use Rattle.plane.proofs.Scale.{fractions_pos}
use Rattle.plane.proofs.Touch.{opposite_differ, cross_read, cross_shares}
use Rattle.plane.proofs.AlongSegment.{Apart}
use Rattle.plane.proofs.Accepted.{apart_from_touch}
use Rattle.scene_segments.proofs.Parted.{left_line, right_line}
use Rattle.split_pieces.specs.Pieces.{EndPoint}
use Rattle.split_pieces.proofs.Chain.{inside_along}
use Rattle.split_pieces.proofs.Pair.{end_of, end_on_it}
use Rattle.split_crossing.specs.declared.Crossing.{Crossing}
use Rattle.split_crossing.specs.Crossing.{crossing_of, crossing_of_point, placed_on, size_left, size_right}
use Rattle.split_crossing.specs.Cuts.{point_if, crossing_point, cuts_by}

-- strictly inside is no end
not_inside : (t : Segment) (c : Point) → EndOf t (grid c) → T (end_within t c) → ⊥
unfolding end_within
not_inside t c e h = T_not (is_end t (grid c)) (and_right (on t (grid c)) (not (is_end t (grid c))) h) (end_make t (grid c) e)

module _ (t u : Segment) (o : T (ordered t)) (v : T (ordered u)) (f : touch t u ≡ false) where
  -- a segment neither crosses itself nor has an end strictly inside it
  none : (t ≡ u) ⊎ Apart t u → (T (cross t u) → ⊥) × ((c : Point) → EndPoint u c → T (end_within t c) → ⊥)
  none (inl e) = (
    (λ x. opposite_differ (cross_read t t (subst (λ y. T (cross t y)) (sym e) x)).0 (left_line t ∙ sym (right_line t))),
    (λ c k. not_inside t c (end_read t (grid c) (subst (λ y. T (is_end y (grid c))) (sym e) (end_of u c k)))),
  )
  none (inr a) = (crossed, λ c k h. not_inside t c (a (grid c) (one_pos 0) (inside_along t c h (ordered_read t o)) (end_on_it u (ordered_read u v) c k)).0 h)
    where
      crossed : T (cross t u) → ⊥
      crossed x = T_not (is_end t z && is_end u z) m.not_both_ends (and_make (is_end t z) (is_end u z) (end_make t z both.0) (end_make u z both.1))
        where
          m : SharePoint t u
          m = cross_shares t u (ordered_read t o) (ordered_read u v) x

          z : HPoint
          z = fractions m.shared

          both : EndOf t z × EndOf u z
          both = a z (fractions_pos m.shared) (on_along t z (ordered_read t o) m.on_one) (on_along u z (ordered_read u v) m.on_other)

  apart_or_same : (t ≡ u) ⊎ Apart t u
  apart_or_same = apart_from_touch t u o v f

  pub no_cross : cross t u ≡ false
  no_cross = refute (cross t u) (none apart_or_same).0

  pub no_left : end_within t u.left ≡ false
  no_left = refute (end_within t u.left) ((none apart_or_same).1 u.left (inl refl))

  pub no_right : end_within t u.right ≡ false
  no_right = refute (end_within t u.right) ((none apart_or_same).1 u.right (inr refl))

  apart : crossing_of t u ≡ Crossing.Apart
  unfolding crossing_of
  apart = ap (λ b. cond b (crossing_of_point (placed_on t (size_left t u) (size_left t u + size_right t u))) Crossing.Apart) no_cross

  pub no_cuts : cuts_by t u ≡ []
  unfolding cuts_by
  no_cuts = ap₂ (λ a b. point_if a u.left ++ b) no_left (ap₂ (λ a r. point_if a u.right ++ crossing_point r) no_right apart)
