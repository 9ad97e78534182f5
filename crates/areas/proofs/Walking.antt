-- The loop's sums: with the sum of what is left, each makes up the whole; and none is larger than so many segments make it.
use Prim.Native.Nat.{ℕ, ◌+◌, ◌*◌, ◌≤◌}
use native.Mathlib.Omega.{arith}
use mathlib.Core.Path.{◌≡◌, refl, sym, ap, ap₂, ◌∙◌}
use mathlib.Core.List.{List}
use lib.IntN.{ℤ, pos, nat_abs, ◌+ℤ◌, +ℤ_idl, +ℤ_assoc}
use Rattle.plane.specs.declared.Segment.{Segment}
use Rattle.scene.specs.declared.Layout.{Layout}
use Rattle.scene.specs.declared.Scene.{Scene}
use Rattle.scene.specs.Read.{IsObject}
use Rattle.scene.proofs.Taken.{taken_object}
use Rattle.flags.specs.Elements.{edges}
use Rattle.flags.proofs.Elements.{outline_edges}
use Rattle.plane.proofs.Machine.{nat_abs_sum}
use Rattle.overlap.specs.declared.adjoining.Sides.{Sides}
use Rattle.overlap.specs.Bytes.{merge}
use Rattle.overlap.specs.Walked.{merged_from, NextSides}
use Rattle.overlap.proofs.Merging.{from_start}
use Rattle.whole.specs.Count.{total}
use Rattle.plane.specs.Shoelace.{shoelace, weighed}
use Rattle.areas.specs.Parts.{Part, in_both, in_f_only, in_g_only, belongs, share, part_area}
use Rattle.areas.proofs.Bounds.{most_term, weighed_most}
use Rattle.areas.specs.declared.sums.Sums.{Sums}
use Rattle.areas.specs.Areas.{area_in, sum_of, Added}
use Rattle.areas.proofs.Adding.{value_most}

abbrev pub none : Sums
none = record { both = pos 0; f_only = pos 0; g_only = pos 0 }

none_is : (p : Part) → sum_of none p ≡ pos 0
none_is in_both = refl
none_is in_f_only = refl
none_is in_g_only = refl

abbrev pub Most : Sums → ℕ → Type 0
Most x n = (p : Part) → nat_abs (sum_of x p) ≤ n * most_term

pub most_none : Most none 0
most_none in_both = omega arith
most_none in_f_only = omega arith
most_none in_g_only = omega arith

module _ (s : List ℕ) (sc : Scene) where
  abbrev shares : Part → Segment → ℤ
  shares p = share (edges s sc.f) (edges s sc.g) p

  abbrev left : Part → ℕ → ℕ → ℤ
  left p i j = total (shares p) (merged_from s sc.f sc.g i j)

  abbrev pub Makes : Sums → ℕ → ℕ → Type 0
  Makes x i j = (p : Part) → sum_of x p +ℤ left p i j ≡ area_in s sc.f sc.g p

  pub makes_start : Makes none 0 0
  unfolding part_area
  makes_start p =
      ap (λ z. z +ℤ left p 0 0) (none_is p) ∙ +ℤ_idl (left p 0 0)
      ∙ sym (ap (total (shares p)) (ap₂ merge (outline_edges s sc.f ∙ from_start s sc.f) (outline_edges s sc.g ∙ from_start s sc.g)))

  module _ {i j k m : ℕ} {t : Segment} {f g : Sides} (n : NextSides s sc.f sc.g i j t f g k m) {x r : Sums} (a : Added x t f g r) where
    share_is : (p : Part) → weighed (belongs p f.above g.above) (belongs p f.below g.below) (shoelace t) ≡ shares p t
    share_is p =
        ap₂ (λ u v. weighed u v (shoelace t)) (ap₂ (belongs p) n.of_f_lem.1 n.of_g_lem.1) (ap₂ (belongs p) n.of_f_lem.0 n.of_g_lem.0)

    more : (p : Part) → sum_of r p ≡ sum_of x p +ℤ shares p t
    more p = a p ∙ ap (λ z. sum_of x p +ℤ z) (share_is p)

    pub makes_next : Makes x i j → Makes r k m
    makes_next h p =
        ap (λ z. z +ℤ left p k m) (more p) ∙ +ℤ_assoc (sum_of x p) (shares p t) (left p k m)
        ∙ ap (λ l. sum_of x p +ℤ total (shares p) l) (sym n.next.merged) ∙ h p

    pub most_next : Most x (i + j) → Most r (k + m)
    most_next h p =
        omega (arith, ap nat_abs (a p), nat_abs_sum (sum_of x p) (weighed (belongs p f.above g.above) (belongs p f.below g.below) (shoelace t)), weighed_most (belongs p f.above g.above) (belongs p f.below g.below) (shoelace t), value_most t n.next.in_range_lem, h p, n.next.further)
