-- Along a segment there is one of non-zero length that holds no ends of any segments.
use mathlib.Core.Path.{◌≡◌, sym, ap₂, ◌∙◌}
use mathlib.Core.Bool.{false, ◌||◌}
use mathlib.Core.List.{List, [], ◌∷◌}
use lib.IntN.{ℤ, pos, ◌-ℤ◌, ◌*ℤ◌}
use Rattle.whole.specs.Count.{◌∈◌}
use Rattle.whole.proofs.Solver.{var, con, ◌:-◌, ◌:*◌, solve}
use Rattle.whole.proofs.Sign.{zero_pos, one_pos}
use Rattle.plane.specs.declared.Segment.{Segment}
use Rattle.plane.specs.Plane.{FractionPoint, fractions, grid, is_end}
use Rattle.plane.proofs.OnSegment.{Along, Ordered, slanting, upright}
use Rattle.plane.proofs.Scale.{fractions_pos}
use Rattle.plane_dimensions.specs.Dimensions.{Same, Stretch}
use Rattle.plane_dimensions.proofs.Avoided.{equal_zero}
use Rattle.plane_dimensions.proofs.Spans.{Span, Smaller, clear_all}
use Rattle.plane_dimensions.proofs.Around.{off_make}
use Rattle.plane_dimensions.proofs.Border.{stretch_make}

-- in each segment of non-zero length there is one with no ends of some segments
pub clear_ends : (l : List Segment) (t : Span) → Smaller t (λ q. (r : Segment) → r ∈ l → is_end r q ≡ false)
unfolding is_end
clear_ends l t =
    let w = clear_all (λ (r : Segment). grid r.left) (λ r. one_pos 0) l t in
    let v = clear_all (λ (r : Segment). grid r.right) (λ r. one_pos 0) l w.small in
    record {
      small = v.small;
      inner = λ q h. w.inner q (v.inner q h);
      all = λ q k h r m. ap₂ (λ a b. a || b) (off_make r.left q (w.all q k (v.inner q h) r m)) (off_make r.right q (v.all q k h r m));
    }

module _ (s : Segment) (o : Ordered s) where
  apart : Same (grid s.left) (grid s.right) → ⊥
  apart h = go o
    where
      is : (x y : ℤ) → x *ℤ pos 1 ≡ y *ℤ pos 1 → y -ℤ x ≡ pos 0
      is x y e = solve (x ∷ y ∷ []) (var 1 :- var 0) (var 1 :* con (pos 1) :- var 0 :* con (pos 1)) tt ∙ equal_zero (sym e)

      go : Ordered s → ⊥
      go (slanting w) = zero_pos (is s.left.x s.right.x h.same_x) w
      go (upright e w) = zero_pos (is s.left.y s.right.y h.same_y) w

  pub stretch_along : {A : FractionPoint → Type 0} (l : List Segment) → ((q : FractionPoint) → Along s (fractions q) → ((t : Segment) → t ∈ l → is_end t (fractions q) ≡ false) → A q) → Stretch A
  stretch_along l f =
      let v = clear_ends l (record { u = grid s.left; v = grid s.right; u_pos = one_pos 0; v_pos = one_pos 0; non_zero = apart }) in
      stretch_make v.small (λ q h. f q (v.inner (fractions q) h) (v.all (fractions q) (fractions_pos q) h))
