-- The order of fractions, and what two stretches share: some number lies in both exactly where neither begins above the other's end.
use mathlib.Core.Path.{◌≡◌, subst}
use mathlib.Core.Logic.{◌↔◌, ◌⊎◌, inl, inr}
use mathlib.Core.List.{[], ◌∷◌}
use lib.Dec.{T}
use lib.IntN.{ℤ, pos, ◌+ℤ◌, ◌-ℤ◌, ◌*ℤ◌}
use native.Mathlib.Omega.{arith}
use Rattle.whole.proofs.Sign.{Pos, NonNeg, pos_nonneg, lit_pos, nonneg_add, nonneg_mul, cancel_nonneg, le_z_nonneg, nonneg_le_z, Half, at_least_lem, under, half}
use Rattle.whole.proofs.Balance.{sub_balanceℤ, le_z_make}
use Rattle.whole.proofs.Solver.{solve, var, ◌:+◌, ◌:*◌, ◌:-◌}
use Rattle.plane.specs.Plane.{Fraction}
use Rattle.floats.specs.Value.{at_most, InStretch}

abbrev below : Fraction → ℤ
below p = pos p.under

below_pos : (p : Fraction) → Pos (below p)
below_pos p = lit_pos p.under p.above_zero

pub most_self : (p : Fraction) → T (at_most p p)
most_self p = le_z_make (p.over *ℤ below p) (p.over *ℤ below p) (omega arith)

pub most_trans : (p q r : Fraction) → T (at_most p q) → T (at_most q r) → T (at_most p r)
most_trans p q r h k =
    nonneg_le_z (p.over *ℤ below r) (r.over *ℤ below p) (cancel_nonneg (below_pos q) (subst NonNeg sum (nonneg_add first second)))
  where
    first : NonNeg (below r *ℤ (q.over *ℤ below p -ℤ p.over *ℤ below q))
    first = nonneg_mul (pos_nonneg (below_pos r)) (le_z_nonneg (p.over *ℤ below q) (q.over *ℤ below p) h)

    second : NonNeg (below p *ℤ (r.over *ℤ below q -ℤ q.over *ℤ below r))
    second = nonneg_mul (pos_nonneg (below_pos p)) (le_z_nonneg (q.over *ℤ below r) (r.over *ℤ below q) k)

    sum : below r *ℤ (q.over *ℤ below p -ℤ p.over *ℤ below q) +ℤ below p *ℤ (r.over *ℤ below q -ℤ q.over *ℤ below r)
        ≡ below q *ℤ (r.over *ℤ below p -ℤ p.over *ℤ below r)
    sum =
        solve (p.over ∷ q.over ∷ r.over ∷ below p ∷ below q ∷ below r ∷ [])
        (var 5 :* (var 1 :* var 3 :- var 0 :* var 4) :+ var 3 :* (var 2 :* var 4 :- var 1 :* var 5)) (var 4 :* (var 2 :* var 3 :- var 0 :* var 5)) tt

most_either : (p q : Fraction) → T (at_most p q) ⊎ T (at_most q p)
most_either p q = go (half (q.over *ℤ below p -ℤ p.over *ℤ below q))
  where
    go : Half (q.over *ℤ below p -ℤ p.over *ℤ below q) → T (at_most p q) ⊎ T (at_most q p)
    go (at_least_lem h) = inl (nonneg_le_z (p.over *ℤ below q) (q.over *ℤ below p) h)
    go (under h) = inr (le_z_make (q.over *ℤ below p) (p.over *ℤ below q) (omega (arith, h.below, sub_balanceℤ (q.over *ℤ below p) (p.over *ℤ below q))))

-- two stretches, from l to g and from a to b
module _ (l g a b : Fraction) (one : T (at_most l g)) (other : T (at_most a b)) where
  abbrev Shared : Type 0
  Shared = (q : Fraction) × InStretch l g q × InStretch a b q

  pub shared : Shared ↔ T (at_most l b) × T (at_most a g)
  shared = (λ (q, h, k). (most_trans l q b h.0 k.1, most_trans a q g k.0 h.1), λ (h, k). some h k (most_either l a))
    where
      some : T (at_most l b) → T (at_most a g) → T (at_most l a) ⊎ T (at_most a l) → Shared
      some h k (inl m) = (a, (m, k), (most_self a, other))
      some h k (inr m) = (l, (most_self l, one), (m, h))
