-- A refusal of the check, or the three sums.
use Rattle.std.proofs.Common.{◌≡◌, ◌∙◌, sym, ap, ℤ, Ok}
use Rattle.scene.proofs.Outcomes.{handed_on}
use Rattle.areas.specs.Parts.{in_both, in_f_only, in_g_only}
use Rattle.areas.specs.Areas.{answer, AreasAnswer}
use Rattle.overlap.proofs.Checked.{regions_mean, regions_read}
use Rattle.areas.proofs.Answered.{good, given_area, parts_make_whole}
use Rattle.areas.proofs.areas_of.Goals as goal

pub returns-in_err-scene : goal.returns-in_err-scene
returns-in_err-scene c =
    let s = c.args.s.now in
    let e = handed_on c.from_residual.result c.from_residual.ensures.1 ∙ sym (ap (answer s) (sym c.check_regions.ensures.is.0 ∙ c.in_err-scene.was)) in
    (e, parts_make_whole s e, regions_mean s)

pub invariant_of-of : goal.invariant_of-of
invariant_of-of c = record { read = regions_read c.args.s.now c.in_ok-scene.scene (sym c.check_regions.ensures.is.0 ∙ c.in_ok-scene.was) }

pub of-regions-requires : goal.of-regions-requires
of-regions-requires c =
    let sc = c.in_ok-scene.scene in
    (good c.args.s.now sc (sym c.check_regions.ensures.is.0 ∙ c.in_ok-scene.was), c.check_regions.ensures.is.1 sc c.in_ok-scene.was)

three : {a b c x y z : ℤ} → a ≡ x → b ≡ y → c ≡ z → ◌≡◌ {A = AreasAnswer} (Ok (record { both = a; f_only = b; g_only = c })) (Ok (record { both = x; f_only = y; g_only = z }))
three e f g = rw (e, f, g)

pub returns : goal.returns
returns c =
    let s = c.args.s.now in
    let sc = c.in_ok-scene.scene in
    let taken = sym c.check_regions.ensures.is.0 ∙ c.in_ok-scene.was in
    let given = given_area s sc taken in
    let v = rw c.of-regions.ensures.0 at c.sums_of.ensures in
    let q = three (v in_both ∙ given in_both) (v in_f_only ∙ given in_f_only) (v in_g_only ∙ given in_g_only) ∙ sym (ap (answer s) taken) in
    (q, parts_make_whole s q, regions_mean s)
