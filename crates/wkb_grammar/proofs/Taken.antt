-- What follows where bytes were taken: each test passed, and there are values.
use Rattle.std.proofs.Common.{Ok, Err, ℕ, ◌+◌, ◌≤◌, ◌≡◌, Bool, true, false, List, T, length, ℤ, nat_abs, Float, refl, ap, ◌∙◌, subst, arith, leb-true}
use Rattle.plane.specs.declared.Point.{Point}
use Rattle.plane.specs.Plane.{limit}
use Rattle.wkb_coordinate.specs.declared.Coordinate.TheVariants.{Whole, Other}
use Rattle.wkb_coordinate.specs.Coordinate.{coordinate_of}
use Rattle.wkb_coordinate.proofs.Meaning.{value_of_taken}
use Rattle.wkb_grammar.specs.Fields.{Check, is_there, float_at, must}
use Rattle.wkb_grammar.specs.Grammar.{Read, got, bad, is_taken, outcome, followed_by, after, coordinate_at, point_at}

-- ---- one thing after another
module _ {A B : Type 0} where
  pub first_taken : (r : Read A) (k : A → ℕ → Read B) → T (is_taken (followed_by r k)) → T (is_taken r)
  first_taken (got a at) k t = tt
  first_taken (bad f) k t = t

module _ {A : Type 0} where
  -- a scan that found no fault: the bytes are taken, and have a value
  pub taken_at_end : (r : Read A) (end : ℕ) → outcome r ≡ Ok end → T (is_taken r)
  taken_at_end (got a at) end e = tt
  taken_at_end (bad f) end e = cc

  pub taken_value : (r : Read A) → T (is_taken r) → (a : A) × (at : ℕ) × (r ≡ got a at)
  taken_value (got a at) t = (a, at, refl)
  taken_value (bad f) t = absurd t

  pub check_passed : (c : Check) (r : Read A) → T (is_taken (after c r)) → (c ≡ Ok tt) × T (is_taken r)
  check_passed (Ok tt) r t = (refl, t)
  check_passed (Err f) r t = absurd t

  pub must_passed : (b : Bool) (at : ℕ) (r : Read A) → T (is_taken (after (must b at) r)) → (b ≡ true) × T (is_taken r)
  must_passed true at r t = (refl, t)
  must_passed false at r t = absurd t

-- ---- coordinates
module _ (s : List ℕ) (little : Bool) (at : ℕ) where
  pub coordinate_there : T (is_taken (coordinate_at s little at)) → is_there s at 8 ≡ true
  coordinate_there t = (must_passed (is_there s at 8) at _ t).0

  pub coordinate_fits : T (is_taken (coordinate_at s little at)) → at + 8 ≤ length s
  coordinate_fits t = leb-true (at + 8) (length s) (coordinate_there t)

  pub never_other : (x : Float) → T (is_taken (coordinate_at s little at)) → coordinate_of (float_at s little at) ≡ Other x → ⊥
  never_other x t e = rw (coordinate_there t, e) at t

  pub is_whole : (z : ℤ) → T (is_taken (coordinate_at s little at)) → coordinate_of (float_at s little at) ≡ Whole z → (coordinate_at s little at ≡ got z (at + 8)) × (nat_abs z ≤ limit)
  is_whole z t e = (rw (coordinate_there t, e), (value_of_taken (float_at s little at) z e).1)

  -- ---- points
  pub x_taken : T (is_taken (point_at s little at)) → T (is_taken (coordinate_at s little at))
  unfolding point_at
  x_taken t = first_taken (coordinate_at s little at) _ t

  module _ (x : ℤ) (e : coordinate_at s little at ≡ got x (at + 8)) where
    pub y_taken : T (is_taken (point_at s little at)) → T (is_taken (coordinate_at s little (at + 8)))
    unfolding point_at
    y_taken t = first_taken (coordinate_at s little (at + 8)) (λ y end. got (record { x = x; y = y }) end) (subst (λ (r : Read ℤ). T (is_taken {A = Point} (followed_by r (λ x next. followed_by (coordinate_at s little next) (λ y end. got (record { x = x; y = y }) end))))) e t)

    pub point_is : (y : ℤ) → coordinate_at s little (at + 8) ≡ got y (at + 8 + 8) → point_at s little at ≡ got (record { x = x; y = y }) (at + 16)
    unfolding point_at
    point_is y f =
        ap (λ (r : Read ℤ). followed_by r (λ x next. followed_by (coordinate_at s little next) (λ y end. got (record { x = x; y = y }) end))) e
        ∙ ap (λ (r : Read ℤ). followed_by r (λ y end. got (record { x = x; y = y }) end)) f
        ∙ ap (got (record { x = x; y = y })) sixteen
      where
        sixteen : at + 8 + 8 ≡ at + 16
        sixteen = omega arith
