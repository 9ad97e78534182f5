-- The entries are before the offset or not, so two of the three parities give the third.
use Rattle.std.proofs.Common.{◌≡◌, ℕ, ◌+◌, Bool, true, false, not, ltb, List, length, refl, sym, ap, ◌∙◌}
use Rattle.std.specs.Bool.{beq}
use Rattle.whole.specs.Count.{odd, count}
use Rattle.whole.proofs.Counted.{count_same}
use Rattle.sweep_laws.proofs.Entries.{own_and_other}
use Rattle.sweep_event.proofs.Odd.{odd_rest}
use Rattle.sweep_event.proofs.has_odd_beside.Goals as goal

module _ (start : ℕ) (entries : List ℕ) where
  abbrev of : Bool → ℕ
  of b = count (λ e. beq b (ltb e start)) entries

  of_first : odd (count (λ e. ltb e start) entries) ≡ odd (of true)
  of_first = ap odd (count_same (λ e. ltb e start) (λ e. beq true (ltb e start)) entries (λ e m. same (ltb e start)))
    where
      same : (b : Bool) → b ≡ beq true b
      same true = refl
      same false = refl

  all : of true + of false ≡ length entries
  all = own_and_other true (λ e. ltb e start) entries

pub returns-else-before : goal.returns-else-before
unfolding odd
returns-else-before c =
    let n = c.args.start in
    let l = c.args.entries.now in
    ap (λ (b : Bool). not (beq b (odd (length l)))) (c.has_odd_before-odd.ensures ∙ of_first n l)
    ∙ ap (λ (m : ℕ). not (beq (odd (of n l true)) (odd m))) (sym (all n l))
    ∙ odd_rest (of n l true) (of n l false)
    ∙ ap (λ (b : Bool). odd (of n l b)) (sym c.if-before.false)
