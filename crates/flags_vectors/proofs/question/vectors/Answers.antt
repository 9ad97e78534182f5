-- The answer without the scene.
use Rattle.std.proofs.Common.{◌≡◌, ◌∙◌, sym, ap, ℕ, List}
use Rattle.flags_vectors.specs.Vectors.{SceneAnswer, these, vectors_alone, answer_of, vectors_of}
use Rattle.scene.proofs.Outcomes.{handed_on}
use Rattle.flags_vectors.proofs.NoFlagWrong.{with_meaning}
use Rattle.flags_vectors.proofs.question.vectors.Goals as goal

alone : (s : List ℕ) (f g : ℕ) {a b : SceneAnswer} → a ≡ answer_of s (these f g) → a ≡ b → vectors_alone b ≡ vectors_of s f g
unfolding vectors_of
alone s f g e q = ap vectors_alone (sym q ∙ e)

pub returns-in_err-answer : goal.returns-in_err-answer
returns-in_err-answer c =
    with_meaning c.args.s.now c.args.want_f c.args.want_g
    (handed_on c.from_residual.result c.from_residual.ensures.1 ∙ alone c.args.s.now c.args.want_f c.args.want_g c.answer.ensures c.in_err-answer.was)

pub returns : goal.returns
returns c = with_meaning c.args.s.now c.args.want_f c.args.want_g (alone c.args.s.now c.args.want_f c.args.want_g c.answer.ensures c.in_ok-answer.was)
