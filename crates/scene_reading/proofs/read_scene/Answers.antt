-- One object, another where it ends, and no byte after that.
use Rattle.std.proofs.Common.{◌≡◌, ◌∙◌, sym, ap, ℕ, List, [], ◌∷◌, Result, Ok, Err, arith}
use Rattle.scene.specs.declared.Layout.{Layout}
use Rattle.scene.specs.declared.Refusal.{Refusal}
use Rattle.scene.specs.Read.{after, arranged, judge, ends_with, read_object, read_scene}
use Rattle.scene.proofs.Outcomes.{handed_on, all_passed, not_passed}
use Rattle.scene.proofs.Taken.{taken_object}
use Rattle.scene_reading.proofs.read_scene.Goals as goal

module _ (s : List ℕ) where
  no_first : (r : Refusal) → read_object s 0 ≡ Err r → read_scene s ≡ Err r
  unfolding read_scene
  no_first r e = rw e

  module _ (a : Layout) (e : read_object s 0 ≡ Ok a) where
    no_second : (r : Refusal) → read_object s (after a) ≡ Err r → read_scene s ≡ Err r
    unfolding read_scene
    no_second r q = rw (e, q)

    read_by : (b : Layout) → read_object s (after a) ≡ Ok b → read_scene s ≡ judge Err (Ok (arranged a b)) (ends_with s b ∷ [])
    unfolding read_scene
    read_by b q = rw (e, q)

-- the object that begins where the first ends
second : (s : List ℕ) {at end : ℕ} {o : Result Layout Refusal} → at ≡ end → o ≡ read_object s at → {r : Result Layout Refusal} → o ≡ r → read_object s end ≡ r
second s e is was = ap (read_object s) (sym e) ∙ sym is ∙ was

pub returns-in_err-a : goal.returns-in_err-a
returns-in_err-a c =
    handed_on c.from_residual.result c.from_residual.ensures.1
    ∙ sym (no_first c.args.s.now c.in_err-a.field-0.0 (sym c.read_object.ensures ∙ c.in_err-a.was))

pub after-requires : goal.after-requires
after-requires c = omega (arith, (taken_object c.args.s.now 0 c.in_ok-a.a (sym c.read_object.ensures ∙ c.in_ok-a.was)).ends)

pub returns-in_err-b : goal.returns-in_err-b
returns-in_err-b c =
    let s = c.args.s.now in
    let a = c.in_ok-a.a in
    handed_on c.from_residual-in_err-b.result c.from_residual-in_err-b.ensures.1
    ∙ sym (no_second s a (sym c.read_object.ensures ∙ c.in_ok-a.was) c.in_err-b.field-0.0 (second s c.after.ensures c.read_object-2.ensures c.in_err-b.was))

pub ends_with-requires : goal.ends_with-requires
ends_with-requires c = let s = c.args.s.now in omega (arith, (taken_object s c.after.result c.in_ok-b.b (sym c.read_object-2.ensures ∙ c.in_ok-b.was)).ends)

pub returns-in_err-ends_with : goal.returns-in_err-ends_with
returns-in_err-ends_with c =
    let s = c.args.s.now in
    let a = c.in_ok-a.a in
    let b = c.in_ok-b.b in
    handed_on c.from_residual-in_err-ends_with.result c.from_residual-in_err-ends_with.ensures.1
    ∙ sym (read_by s a (sym c.read_object.ensures ∙ c.in_ok-a.was) b (second s c.after.ensures c.read_object-2.ensures c.in_ok-b.was)
    ∙ not_passed (Ok (arranged a b)) (ends_with s b ∷ []) (sym c.ends_with.ensures ∙ c.in_err-ends_with.was))

pub returns : goal.returns
returns c =
    let s = c.args.s.now in
    let a = c.in_ok-a.a in
    let b = c.in_ok-b.b in
    ap Ok c.arranged.ensures
    ∙ sym (read_by s a (sym c.read_object.ensures ∙ c.in_ok-a.was) b (second s c.after.ensures c.read_object-2.ensures c.in_ok-b.was)
    ∙ all_passed (Ok (arranged a b)) (ends_with s b ∷ []) (sym c.ends_with.ensures ∙ c.in_ok-ends_with.was))
