-- What the tests of an entry and of the event say of what was read: of their segments, by `!=`, and of their object's type.
use Rattle.std.proofs.Common.{◌≡◌, Bool, true, false, not, ◌&&◌, T, int_eq, sym, ap, subst, ◌∙◌}
use borrow.Author.Tests.{not-true, not-false}
use Rattle.whole.proofs.Logic.{is_true}
use Rattle.plane.specs.declared.Segment.{Segment}
use Rattle.plane.specs.Plane.{is_same_segment}
use Rattle.plane.proofs.Equal.{same_segment_read, same_segment_refl}
use Rattle.plane.proofs.Compared.{same_segments}
use Rattle.scene.specs.declared.Layout.{Layout}
use Rattle.scene.specs.Conditions.{is_region}

-- the derived `==`
abbrev same : Segment → Segment → Bool
same u t = int_eq u.left.x t.left.x && int_eq u.left.y t.left.y && (int_eq u.right.x t.right.x && int_eq u.right.y t.right.y)

-- u and t were read of x and y
module _ {u t x y : Segment} {r : Bool} (differ : r ≡ not (same u t)) (is_u : u ≡ x) (is_t : t ≡ y) where
  pub alike : r ≡ false → x ≡ y
  alike e = sym is_u ∙ same_segment_read u t (is_true _ (sym (same_segments u t) ∙ not-false (same u t) (sym differ ∙ e))) ∙ is_t

  pub apart : r ≡ true → x ≡ y → ⊥
  apart e q =
      let none : is_same_segment u t ≡ false = sym (same_segments u t) ∙ not-true (same u t) (sym differ ∙ e) in
      subst T none (subst (λ (v : Segment). T (is_same_segment u v)) (is_u ∙ q ∙ sym is_t) (same_segment_refl u))

-- l was read of x
pub region_is : {l x : Layout} {r b : Bool} → r ≡ is_region l.shape → l ≡ x → r ≡ b → is_region x.shape ≡ b
region_is p q e = sym (ap (λ (l : Layout). is_region l.shape) q) ∙ sym p ∙ e
