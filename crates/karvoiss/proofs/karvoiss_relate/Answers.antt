-- The fields of the answer.
use Rattle.std.proofs.Common.{◌≡◌, ◌∙◌, sym, ap, subst, ℕ, List}
use Rattle.cells_pattern.specs.Related.{RelateAnswer, relate_of, relate_values, NoPatternWrong}
use Rattle.karvoiss.specs.declared.KarvoissRelate.{KarvoissRelate}
use Rattle.karvoiss.specs.Answer.{relate_for_c}
use Rattle.karvoiss.proofs.karvoiss_relate.Goals as goal

in_fields : (s p : List ℕ) {M : Type 0} {a : RelateAnswer} {x : KarvoissRelate} → (a ≡ relate_of s p) × NoPatternWrong s p (relate_values a).holds × M
    → x ≡ relate_for_c a → (x ≡ relate_for_c (relate_of s p)) × NoPatternWrong s p x.holds × M
in_fields s p e is = (is ∙ ap relate_for_c e.0, subst (λ (x : KarvoissRelate). NoPatternWrong s p x.holds) (sym is) e.1, e.2)

pub returns : goal.returns
returns c = in_fields c.args.scene.now c.args.pattern.now c.relate.ensures c.into.ensures
