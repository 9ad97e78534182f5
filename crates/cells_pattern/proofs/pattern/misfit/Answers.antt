-- `cells_pattern::pattern::misfit` meets its contract: nine characters of the six are a pattern, and where they are not, the first other one is found.
use Rattle.std.proofs.Common.{arith, ℕ, suc, ◌+◌, ◌≡◌, ◌∙◌, List, ◌∷◌, Bool, true, false, ◌&&◌, T, cond, Ok, Err, Some, sym, ap, ap₂, get_or, drop}
use Rattle.std.proofs.lemmas.List.{drop_more}
use Rattle.whole.proofs.Logic.{is_true}
use Rattle.check_verdict.specs.Refusals.{settle}
use Rattle.cells_pattern.specs.Pattern.{is_character, first_other}
use Rattle.cells_pattern.proofs.Checked.{has_characters, of_nine}
use Rattle.cells_pattern.proofs.pattern.misfit.Goals as goal

three_rows : (a b c d e f g h k : Bool) → T (((a && b && c) && (d && e && f)) && (g && h && k)) → T a × T b × T c × T d × T e × T f × T g × T h × T k
three_rows true true true true true true true true true t = (tt, tt, tt, tt, tt, tt, tt, tt, tt)
three_rows true true true true true true true true false t = absurd t
three_rows true true true true true true true false k t = absurd t
three_rows true true true true true true false h k t = absurd t
three_rows true true true true true false g h k t = absurd t
three_rows true true true true false f g h k t = absurd t
three_rows true true true false e f g h k t = absurd t
three_rows true true false d e f g h k t = absurd t
three_rows true false c d e f g h k t = absurd t
three_rows false b c d e f g h k t = absurd t

pub returns-then-is_row : goal.returns-then-is_row
returns-then-is_row c =
    let p = c.args.p.now in
    let six = λ (i : ℕ). is_character (get_or p i 0) in
    let t = three_rows (six 0) (six 1) (six 2) (six 3) (six 4) (six 5) (six 6) (six 7) (six 8)
    (is_true _ (sym (ap₂ ◌&&◌ (ap₂ ◌&&◌ c.is_row.ensures c.is_row-2.ensures) c.is_row-3.ensures) ∙ c.if-is_row.true)) in
    sym (ap (λ v. settle Err v (Ok false)) (has_characters p c.if-p-ne9.false (of_nine (λ i. T (six i)) t.0 t.1 t.2 t.3 t.4 t.5 t.6 t.7 t.8)))

next_other : (c : ℕ) (l : List ℕ) (at : ℕ) → is_character c ≡ true → first_other (c ∷ l) at ≡ first_other l (at + 1)
next_other c l at e =
    let next : suc at ≡ at + 1 = omega arith in
    ap (λ b. cond b (first_other l (suc at)) (Some at)) e ∙ ap (first_other l) next

pub loop-place-preserved : goal.loop-place-preserved
loop-place-preserved c =
    let p = c.args.p.now in
    let at = c.loop-place.place in
    record {
      other =
          sym (ap (λ l. first_other l at) (drop_more p at 0 c.loop-place-test.true) ∙ next_other (get_or p at 0) (drop (at + 1) p) at (sym c.is_character.ensures ∙ c.if-not-is_character.false))
          ∙ c.loop-place.invariant.other;
    }
