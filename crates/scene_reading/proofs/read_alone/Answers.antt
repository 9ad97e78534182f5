-- One object, and no byte after it.
use Rattle.std.proofs.Common.{◌≡◌, ◌∙◌, sym, ℕ, List, [], ◌∷◌, Ok, Err, arith}
use Rattle.scene.specs.declared.Layout.{Layout}
use Rattle.scene.specs.declared.Refusal.{Refusal}
use Rattle.scene.specs.Read.{judge, ends_with, read_object, read_alone}
use Rattle.scene.proofs.Outcomes.{handed_on, all_passed, not_passed}
use Rattle.scene.proofs.Taken.{taken_object}
use Rattle.scene_reading.proofs.read_alone.Goals as goal

module _ (s : List ℕ) where
  none_read : (r : Refusal) → read_object s 0 ≡ Err r → read_alone s ≡ Err r
  unfolding read_alone
  none_read r e = rw e

  read_by : (l : Layout) → read_object s 0 ≡ Ok l → read_alone s ≡ judge Err (Ok l) (ends_with s l ∷ [])
  unfolding read_alone
  read_by l e = rw e

pub returns-in_err-l : goal.returns-in_err-l
returns-in_err-l c =
    handed_on c.from_residual.result c.from_residual.ensures.1
    ∙ sym (none_read c.args.s.now c.in_err-l.field-0.0 (sym c.read_object.ensures ∙ c.in_err-l.was))

pub ends_with-requires : goal.ends_with-requires
ends_with-requires c = omega (arith, (taken_object c.args.s.now 0 c.in_ok-l.l (sym c.read_object.ensures ∙ c.in_ok-l.was)).ends)

pub returns-in_err-ends_with : goal.returns-in_err-ends_with
returns-in_err-ends_with c =
    let s = c.args.s.now in
    let l = c.in_ok-l.l in
    handed_on c.from_residual-in_err-ends_with.result c.from_residual-in_err-ends_with.ensures.1
    ∙ sym (read_by s l (sym c.read_object.ensures ∙ c.in_ok-l.was) ∙ not_passed (Ok l) (ends_with s l ∷ []) (sym c.ends_with.ensures ∙ c.in_err-ends_with.was))

pub returns : goal.returns
returns c =
    let s = c.args.s.now in
    let l = c.in_ok-l.l in
    sym (read_by s l (sym c.read_object.ensures ∙ c.in_ok-l.was) ∙ all_passed (Ok l) (ends_with s l ∷ []) (sym c.ends_with.ensures ∙ c.in_ok-ends_with.was))
