-- What is answered of two regions that are taken: they stand in the caller's order, and two parts make up each of them.
use Rattle.std.specs.Prelude.{Ok}
use Prim.Native.Nat.{ℕ}
use mathlib.Core.Path.{◌≡◌, refl, sym, ap, ap₂, ◌∙◌}
use mathlib.Core.Bool.{Bool, false, cond}
use mathlib.Core.List.{List}
use lib.Dec.{T}
use lib.IntN.{◌+ℤ◌}
use Rattle.scene.specs.declared.Shape.{Shape}
use Rattle.scene.specs.declared.Shape.TheVariants.{Points, Line, Region}
use Rattle.scene.specs.declared.Layout.{Layout}
use Rattle.scene.specs.declared.Scene.{Scene}
use Rattle.scene.specs.Read.{descends, turned, given_first, given_second}
use Rattle.scene.specs.Conditions.{is_region}
use Rattle.scene.proofs.Taken.{taken_scene, given_of_both}
use Rattle.flags.specs.Elements.{edges}
use Rattle.overlap.specs.Rules.{check_regions}
use Rattle.overlap.specs.Walked.{TwoRegions}
use Rattle.overlap.proofs.Checked.{two_regions, regions_read}
use Rattle.areas.specs.Parts.{Part, in_both, in_f_only, in_g_only, own_area}
use Rattle.areas.specs.Areas.{area_in, AreasAnswer, answer, areas_values, areas_of, PartsMakeWhole}
use Rattle.areas.proofs.Whole.{area_of_f, area_of_g}

-- equal types are never exchanged
alike : (a b : Shape) → T (is_region a) → T (is_region b) → descends a b ≡ false
alike Points b h k = absurd h
alike Line b h k = absurd h
alike Region Points h k = absurd k
alike Region Line h k = absurd k
alike Region Region h k = refl

module _ (s : List ℕ) (sc : Scene) (taken : check_regions s ≡ Ok sc) where
  pub good : TwoRegions s sc
  good = two_regions s sc taken

  in_order : turned sc ≡ false
  in_order =
      let w = given_of_both (λ (l : Layout). T (is_region l.shape)) sc good.1 good.2 in
      (taken_scene s sc (regions_read s sc taken)).by_types ∙ alike (given_first sc).shape (given_second sc).shape w.0 w.1

  f_first : sc.f ≡ given_first sc
  f_first = ap (λ (b : Bool). cond b sc.g sc.f) (sym in_order)

  g_second : sc.g ≡ given_second sc
  g_second = ap (λ (b : Bool). cond b sc.f sc.g) (sym in_order)

  pub given_area : (p : Part) → area_in s sc.f sc.g p ≡ area_in s (given_first sc) (given_second sc) p
  given_area p = ap₂ (λ (f g : Layout). area_in s f g p) f_first g_second

  whole_f : area_in s (given_first sc) (given_second sc) in_both +ℤ area_in s (given_first sc) (given_second sc) in_f_only ≡ own_area (edges s (given_first sc))
  whole_f = ap₂ ◌+ℤ◌ (sym (given_area in_both)) (sym (given_area in_f_only)) ∙ area_of_f good ∙ ap (λ (l : Layout). own_area (edges s l)) f_first

  whole_g : area_in s (given_first sc) (given_second sc) in_both +ℤ area_in s (given_first sc) (given_second sc) in_g_only ≡ own_area (edges s (given_second sc))
  whole_g = ap₂ ◌+ℤ◌ (sym (given_area in_both)) (sym (given_area in_g_only)) ∙ area_of_g good ∙ ap (λ (l : Layout). own_area (edges s l)) g_second

-- "The first and second sum to F's shoelace area doubled, taken from F by itself; the first and third likewise to G's."
pub parts_make_whole : (s : List ℕ) {r : AreasAnswer} → r ≡ areas_of s → PartsMakeWhole s (areas_values r).both (areas_values r).f_only (areas_values r).g_only
parts_make_whole s {r} e sc taken =
    (ap (λ (a : AreasAnswer). (areas_values a).both +ℤ (areas_values a).f_only) is ∙ whole_f s sc taken, ap (λ (a : AreasAnswer). (areas_values a).both +ℤ (areas_values a).g_only) is ∙ whole_g s sc taken)
  where
    is : r ≡ answer s (Ok sc)
    is = e ∙ ap (answer s) taken
