use Rattle.std.proofs.Common.{◌≡◌, [], ◌∷◌, List, length, refl, sym, subst, arith}
use Rattle.whole.specs.Count.{◌∈◌}
use Rattle.whole.proofs.Logic.{in_nil, sorted_nil}
use Rattle.scene_writing.specs.declared.order.Half.{Half}
use Rattle.scene_writing.specs.Named.{AreRising}
use Rattle.scene_writing.proofs.Strict.{rising_settled}
use Rattle.scene_writing.proofs.order.by_numbers.Goals as goal

nothing : {l : List Half} → length l ≡ 0 → l ≡ []
nothing {l = []} e = refl
nothing {l = h ∷ l} e = absurd (omega (arith, e))

pub loop-k-init : goal.loop-k-init
loop-k-init c =
    let e = nothing c.requires in
    let row = c.args.row.ends.now in record {
      halves = λ h m. absurd (in_nil (subst (λ (o : List Half). h ∈ o) e m));
      rising = subst (AreRising row) (sym e) sorted_nil;
      many = c.requires;
    }

pub returns : goal.returns
returns c = λ t.
    let end = c.loop-k.invariant in
    rising_settled c.args.row.ends.now c.args.row.good end.halves end.rising (omega (arith, end.many, c.loop-k-test.false, c.loop-k.auto.k-end))
