-- The partner of a halfsegment, sought at its one place in the order. The test rests on condition 10 and looks at fewer elements than the definition in
-- scene's Conditions.antt; where 10 finds no fault, the earliest record at fault is the same (proofs/Earliest.antt).
use Rattle.std.specs.Prelude.{ℕ, zero, suc, ◌+◌, ◌/◌, Bool, not, ◌&&◌, cond, List, ltb}
use Rattle.plane.specs.declared.Halfsegment.{Halfsegment}
use Rattle.plane.specs.Plane.{comes_before}
use Rattle.scene.specs.declared.Layout.{Layout}
use Rattle.scene.specs.Conditions.{half, partner}

-- where the numbers that pass come first, the least one from low up to high that does not, by halving
abbrev pub middle : ℕ → ℕ → ℕ
middle low high = (low + high) / 2

module _ (f : ℕ → Bool) where
  unfoldable pub lowest : ℕ → ℕ → ℕ → ℕ
  lowest zero low high = low
  lowest (suc steps) low high =
      cond (ltb low high) (cond (f (middle low high)) (lowest steps (middle low high + 1) high) (lowest steps low (middle low high))) low

module _ (s : List ℕ) (l : Layout) where
  unfoldable pub place_for : Halfsegment → ℕ
  place_for h = lowest (λ j. comes_before (half s l j) h) l.count 0 l.count

  abbrev pub turned : ℕ → Halfsegment
  turned i = record { segment = (half s l i).segment; is_left = not (half s l i).is_left }

  abbrev pub has_partner : ℕ → Bool
  has_partner i = ltb (place_for (turned i)) l.count && partner s l i (place_for (turned i))
