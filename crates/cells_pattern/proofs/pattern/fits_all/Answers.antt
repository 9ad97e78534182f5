-- `cells_pattern::pattern::fits_all` meets its contract: where no matrix fits, this one does not.
use Rattle.std.proofs.Common.{◌≡◌, ◌∙◌, Bool, true, false, ◌&&◌, refl, sym, length}
use Rattle.std.specs.Prelude.{eqb, get_or}
use Rattle.plane_dimensions.specs.declared.Dimension.TheVariants.{Area}
use Rattle.cells_pattern.specs.Pattern.{fits, fits_all}
use Rattle.cells_pattern.proofs.Related.{misfit}
use Rattle.cells_pattern.proofs.pattern.fits_all.Goals as goal

no_longer : (a b f : Bool) → (b ≡ false → f ≡ false) → a && b ≡ false → false ≡ a && f
no_longer false b f h e = refl
no_longer true b f h e = sym (h e)

pub returns-else-may_hold : goal.returns-else-may_hold
returns-else-may_hold c =
    let p = c.args.p.now in
    c.if-may_hold.false
    ∙ no_longer (eqb (length p) 9) (fits (get_or p 8 0) Area) (fits_all p c.args.m) (λ e. misfit p e c.args.m c.requires) (sym c.may_hold.ensures ∙ c.if-may_hold.false)
