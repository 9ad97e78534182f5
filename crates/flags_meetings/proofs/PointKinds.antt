-- The degree of a point in an object by the kind of the point there: of no element, bound, or inner. Of the boundary rule this takes only that a point
-- of no element is not bound.
use Prim.Native.Nat.{ℕ, zero, suc}
use native.Mathlib.Omega.{arith}
use mathlib.Core.Path.{◌≡◌, refl, sym, subst, subst₂}
use mathlib.Core.Bool.{Bool, true, false, not, ◌&&◌}
use lib.Dec.{eqb, ltb}
use borrow.Author.Tests.{lt-ltb, ne_eqb}
use Rattle.plane.specs.Plane.{is_boundary}
use Rattle.flags.proofs.Boundary.{boundary_none}
use Rattle.flags_meetings.specs.Met.{is_inner}

-- of some element, of none, bound, inner
pub data Kind : Bool → Bool → Bool → Bool → Type 0 where
  none : Kind false true false false
  bound : Kind true false true false
  inner : Kind true false false true

pub kind_of : (n : ℕ) → Kind (ltb 0 n) (eqb n 0) (is_boundary n) (is_inner n)
kind_of zero = subst (λ b. Kind false true b false) (sym boundary_none) none
kind_of (suc n) =
    subst₂ (λ p z. Kind p z (is_boundary (suc n)) (p && not (is_boundary (suc n)))) (sym (lt-ltb 0 (suc n) (omega arith))) (sym (ne_eqb (suc n) 0 (λ e. omega arith)))
    (go (is_boundary (suc n)))
  where
    go : (b : Bool) → Kind true false b (not b)
    go true = bound
    go false = inner

pub not_there : {p z b i : Bool} → Kind p z b i → not p ≡ z
not_there none = refl
not_there bound = refl
not_there inner = refl
