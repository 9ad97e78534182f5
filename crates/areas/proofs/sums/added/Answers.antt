-- `areas::sums::added` meets its contract: no sum leaves 64 bits, and a term on both sides or on neither counts for nothing.
use Rattle.std.proofs.Common.{◌≡◌, Bool, true, false, refl, sym, ap, ap₂, ◌∙◌}
use mathlib.Core.Bool.{beq}
use lib.IntN.{◌+ℤ◌}
use Rattle.plane.specs.Shoelace.{weighed}
use Rattle.areas.proofs.Adding.{back, added_none, added_plus, added_minus, machine_sum_is, machine_difference_is}
use Rattle.areas.proofs.sums.added.Goals as goal

same : (a b : Bool) → beq a b ≡ true → a ≡ b
same true true h = refl
same true false h = sym h
same false true h = h
same false false h = refl

-- of two that differ, the other
other : (a b : Bool) → beq a b ≡ false → (a ≡ true → b ≡ false) × (a ≡ false → b ≡ true)
other true true h = (λ _. h, λ _. refl)
other true false h = (λ _. refl, λ e. sym e)
other false true h = (λ e. sym e, λ _. refl)
other false false h = (λ _. refl, λ _. sym h)

pub returns-then-sides : goal.returns-then-sides
returns-then-sides c =
    let a = c.args in
    back a.sum c.requires.0 ∙ added_none a.sum a.v a.sides.above ∙ ap (λ b. a.sum +ℤ weighed a.sides.above b a.v) (same a.sides.above a.sides.below c.if-sides.true)

pub returns-then-sides-2 : goal.returns-then-sides-2
returns-then-sides-2 c =
    let a = c.args in
    machine_sum_is a.sum a.v c.requires.0 c.requires.1 ∙ added_plus a.sum a.v
    ∙ ap₂ (λ x y. a.sum +ℤ weighed x y a.v) (sym c.if-sides-2.true) (sym ((other a.sides.above a.sides.below c.if-sides.false).0 c.if-sides-2.true))

pub returns-else-sides-2 : goal.returns-else-sides-2
returns-else-sides-2 c =
    let a = c.args in
    machine_difference_is a.sum a.v c.requires.0 c.requires.1 ∙ added_minus a.sum a.v
    ∙ ap₂ (λ x y. a.sum +ℤ weighed x y a.v) (sym c.if-sides-2.false) (sym ((other a.sides.above a.sides.below c.if-sides.false).1 c.if-sides-2.false))
