-- `cells_pattern::pattern::fits_row` meets its contract.
use Rattle.std.proofs.Common.{arith, ◌+◌, ◌≡◌, ◌∙◌, Bool, true, false, ◌&&◌, refl, ap, ap₂}
use Rattle.std.specs.Prelude.{get_or}
use Rattle.plane_dimensions.specs.declared.Dimension.TheVariants.{Empty}
use Rattle.cells_pattern.specs.Pattern.{fits}
use Rattle.cells_pattern.proofs.pattern.fits_row.Goals as goal

three : (a b c : Bool) → (a && b) && c ≡ a && (b && (c && true))
three false b c = refl
three true false c = refl
three true true false = refl
three true true true = refl

pub returns : goal.returns
returns c =
    let here : c.args.at ≡ c.args.at + 0 = omega arith in
    three c.fits.result c.fits-2.result c.fits-3.result
    ∙ ap₂ ◌&&◌ (c.fits.ensures ∙ ap (λ n. fits (get_or c.args.p.now n 0) (get_or c.args.row 0 Empty)) here) (ap₂ ◌&&◌ c.fits-2.ensures (ap (λ b. b && true) c.fits-3.ensures))
