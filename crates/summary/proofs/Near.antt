-- "look" in words: of two good summaries neither is empty and their boxes share a point, exactly where they are not far.
use Rattle.std.specs.Prelude.{Some, None}
use native.Mathlib.Omega.{arith}
use mathlib.Core.Path.{◌≡◌, refl, sym, ap₂, subst, ◌∙◌}
use mathlib.Core.Logic.{◌↔◌, ⊎_elim}
use mathlib.Core.Bool.{Bool, true, false, ◌&&◌, ◌||◌, cond}
use lib.Dec.{T}
use lib.IntN.{ℤ}
use lib.Signed.{lt_z, le_z}
use borrow.Author.Tests.{not-false}
use Rattle.whole.proofs.Logic.{and_left, and_right, is_true, refute}
use Rattle.whole.proofs.Balance.{lt_z_read, le_z_read}
use Rattle.whole.proofs.Sign.{lt_z_le_z, nonneg_le_z}
use Rattle.plane.specs.Plane.{in_range}
use Rattle.summary.specs.declared.Bounds.{Bounds}
use Rattle.summary.specs.declared.Summary.{Summary}
use Rattle.summary.specs.Summary.{greater, good_box, good_for, is_good, beside, Near, far_vectors, told_of}
use Rattle.summary.proofs.Boxes.{greater_is, greater_greatest}

-- ---- along one axis

-- two stretches of which neither ends before the other begins share the greater of the two beginnings
not_less : (b c : ℤ) → lt_z b c ≡ false → T (le_z c b)
not_less b c e = is_true (le_z c b) (not-false (le_z c b) (sym (lt_z_le_z b c) ∙ e))

module _ (a b c d : ℤ) (one : T (le_z a b)) (other : T (le_z c d)) (x : lt_z b c ≡ false) (y : lt_z d a ≡ false) where
  from_both : T (le_z a (greater a c)) × T (le_z c (greater a c))
  from_both = (nonneg_le_z a (greater a c) (greater_greatest a c).0, nonneg_le_z c (greater a c) (greater_greatest a c).1)

  to_both : T (le_z (greater a c) b) × T (le_z (greater a c) d)
  to_both =
      ⊎_elim (λ e. subst (λ (z : ℤ). T (le_z z b) × T (le_z z d)) (sym e) (one, not_less d a y))
      (λ e. subst (λ (z : ℤ). T (le_z z b) × T (le_z z d)) (sym e) (not_less b c x, other)) (greater_is a c)

-- and a number in both shows that neither does
meet : (b p c : ℤ) → T (le_z c p) → T (le_z p b) → lt_z b c ≡ false
meet b p c h k = refute (lt_z b c) (λ t. let x = lt_z_read b c t in let y = le_z_read c p h in let z = le_z_read p b k in omega arith)

-- ---- boxes

-- none of four holds
none_of_four : (a b c d : Bool) → (a || b || (c || d)) ≡ false → (a ≡ false) × (b ≡ false) × (c ≡ false) × (d ≡ false)
none_of_four true b c d e = cc
none_of_four false true c d e = cc
none_of_four false false true d e = cc
none_of_four false false false true e = cc
none_of_four false false false false e = (refl, refl, refl, refl)

-- a good box's least is at most its greatest
rises : (b : Bounds) → T (good_box b) → T (le_z b.least.x b.greatest.x) × T (le_z b.least.y b.greatest.y)
unfolding good_box
rises b g =
    let h = and_left (in_range b.least && in_range b.greatest && le_z b.least.x b.greatest.x) (le_z b.least.y b.greatest.y) g in (
      and_right (in_range b.least && in_range b.greatest) (le_z b.least.x b.greatest.x) h,
      and_right (in_range b.least && in_range b.greatest && le_z b.least.x b.greatest.x) (le_z b.least.y b.greatest.y) g,
    )

module _ (s t : Summary) (good : T (is_good s)) (other : T (is_good t)) where
  abbrev b : Bounds
  b = s.bounds

  abbrev c : Bounds
  c = t.bounds

  up_b : T (le_z b.least.x b.greatest.x) × T (le_z b.least.y b.greatest.y)
  up_b = rises b (and_left (good_box b) (good_for s.shape s.empty b s.boundary) good)

  up_c : T (le_z c.least.x c.greatest.x) × T (le_z c.least.y c.greatest.y)
  up_c = rises c (and_left (good_box c) (good_for t.shape t.empty c t.boundary) other)

  shared : s.empty ≡ false → t.empty ≡ false → beside b c ≡ false → Near s t
  unfolding beside
  shared e q h =
      let n = none_of_four (lt_z b.greatest.x c.least.x) (lt_z c.greatest.x b.least.x) (lt_z b.greatest.y c.least.y) (lt_z c.greatest.y b.least.y) h in
      let fx = from_both b.least.x b.greatest.x c.least.x c.greatest.x up_b.0 up_c.0 n.0 n.1 in
      let tx = to_both b.least.x b.greatest.x c.least.x c.greatest.x up_b.0 up_c.0 n.0 n.1 in
      let fy = from_both b.least.y b.greatest.y c.least.y c.greatest.y up_b.1 up_c.1 n.2 n.3 in
      let ty = to_both b.least.y b.greatest.y c.least.y c.greatest.y up_b.1 up_c.1 n.2 n.3 in
      record {
        first_filled = e;
        second_filled = q;
        point = record { x = greater b.least.x c.least.x; y = greater b.least.y c.least.y };
        in_first = record { from_x = fx.0; from_y = fy.0; to_x = tx.0; to_y = ty.0 };
        in_second = record { from_x = fx.1; from_y = fy.1; to_x = tx.1; to_y = ty.1 };
      }

  not_beside : Near s t → beside b c ≡ false
  unfolding beside
  not_beside n =
      ap₂ ◌||◌
      (ap₂ ◌||◌ (meet b.greatest.x n.point.x c.least.x n.in_second.from_x n.in_first.to_x) (meet c.greatest.x n.point.x b.least.x n.in_first.from_x n.in_second.to_x))
      (ap₂ ◌||◌ (meet b.greatest.y n.point.y c.least.y n.in_second.from_y n.in_first.to_y) (meet c.greatest.y n.point.y b.least.y n.in_first.from_y n.in_second.to_y))

  -- "look" exactly then
  pub look_exactly : (told_of s t ≡ None) ↔ Near s t
  unfolding told_of
  look_exactly = (λ e. go s.empty t.empty (beside b c) refl refl refl e, λ n. let x = n.first_filled in let y = n.second_filled in let z = not_beside n in rw (x, y, z))
    where
      go : (x y z : Bool) → s.empty ≡ x → t.empty ≡ y → beside b c ≡ z → cond (x || y || z) (Some (far_vectors s t)) None ≡ None → Near s t
      go true y z e f g h = cc
      go false true z e f g h = cc
      go false false true e f g h = cc
      go false false false e f g h = shared e f g
