-- The areas question, for every byte string: "For two accepted regions give three whole numbers: twice the area in both, in F only, in G only. .. It refuses
-- with 16 when a type is not 3, after 15." F is the region that the bytes have first.
use Rattle.std.specs.Prelude.{Result, Ok, Err, ℕ, ◌≤◌, ◌^◌, ◌≡◌, List, ℤ, pos, nat_abs, ◌+ℤ◌}
use Rattle.plane.specs.declared.Segment.{Segment}
use Rattle.scene.specs.declared.Layout.{Layout}
use Rattle.scene.specs.declared.Scene.{Scene}
use Rattle.scene.specs.declared.Refusal.{Refusal}
use Rattle.scene.specs.Read.{number_of, CheckedScene, given_first, given_second}
use Rattle.flags.specs.Elements.{edges}
use Rattle.overlap.specs.declared.adjoining.Sides.{Sides}
use Rattle.overlap.specs.Rules.{check_regions}
use Rattle.plane.specs.Shoelace.{shoelace, weighed}
use Rattle.areas.specs.Parts.{Part, in_both, in_f_only, in_g_only, belongs, part_area, own_area}
use Rattle.areas.specs.declared.sums.Sums.{Sums}

-- ---- the answer

abbrev pub area_in : List ℕ → Layout → Layout → Part → ℤ
area_in s f g p = part_area (edges s f) (edges s g) p

-- the three areas, or the refusal
abbrev pub AreasAnswer : Type 0
AreasAnswer = Result Sums Refusal

abbrev pub answer : List ℕ → CheckedScene → AreasAnswer
answer s (Err r) = Err r
answer s (Ok sc) =
    let area = area_in s (given_first sc) (given_second sc) in
    Ok (record { both = area in_both; f_only = area in_f_only; g_only = area in_g_only })

-- number and values of every answer: zeros beside a refusal
pub record AreasValues : Type 0 where
  pub number : ℕ
  pub place : ℕ
  pub both : ℤ
  pub f_only : ℤ
  pub g_only : ℤ

abbrev pub areas_values : AreasAnswer → AreasValues
areas_values (Err r) = record { number = number_of r.reason; place = r.place; both = pos 0; f_only = pos 0; g_only = pos 0 }
areas_values (Ok a) = record { number = 0; place = 0; both = a.both; f_only = a.f_only; g_only = a.g_only }

abbrev pub areas_of : List ℕ → AreasAnswer
areas_of s = answer s (check_regions s)

-- "The first and second sum to F's shoelace area doubled, taken from F by itself; the first and third likewise to G's."
abbrev pub PartsMakeWhole : List ℕ → ℤ → ℤ → ℤ → Type 0
PartsMakeWhole s both fOnly gOnly =
    (sc : Scene) → check_regions s ≡ Ok sc
    → (both +ℤ fOnly ≡ own_area (edges s (given_first sc))) × (both +ℤ gOnly ≡ own_area (edges s (given_second sc)))

-- ---- the sums on the way

abbrev pub sum_of : Sums → Part → ℤ
sum_of x in_both = x.both
sum_of x in_f_only = x.f_only
sum_of x in_g_only = x.g_only

abbrev pub Small : Sums → Type 0
Small x = (p : Part) → nat_abs (sum_of x p) ≤ 2 ^ 61

abbrev pub Added : Sums → Segment → Sides → Sides → Sums → Type 0
Added x t f g r =
    (p : Part) → sum_of r p ≡ sum_of x p +ℤ weighed (belongs p f.above g.above) (belongs p f.below g.below) (shoelace t)

abbrev pub Summed : List ℕ → Scene → Sums → Type 0
Summed s sc r = (p : Part) → sum_of r p ≡ area_in s sc.f sc.g p
