use Rattle.std.proofs.Common.{◌≡◌, ℕ, [], List, length, ◌∙◌, sym, ap, subst, arith}
use Rattle.whole.specs.Count.{◌∈◌}
use Rattle.whole.proofs.Logic.{in_nil, sorted_nil}
use Rattle.scene_writing.specs.declared.order.Half.{Half}
use Rattle.scene_writing.specs.Settled.{sink, settle}
use Rattle.scene_writing.specs.Named.{earlier_in, AreRising, names_of}
use Rattle.scene_writing.proofs.Items.{settle_next}
use Rattle.scene_writing.proofs.order.one_by_one.Goals as goal

pub loop-index-init : goal.loop-index-init
loop-index-init c =
    let e = c.new-order.ensures in
    let row = c.args.row.ends.now in record {
      so_far = e;
      halves = λ h m. absurd (in_nil (subst (λ (o : List Half). h ∈ o) e m));
      rising = λ t. subst (AreRising row) (sym e) sorted_nil;
      many = ap length e;
    }

pub loop-index-preserved : goal.loop-index-preserved
loop-index-preserved c =
    let less = earlier_in c.args.row.ends.now in record {
      so_far = c.sink-rises-in-loop-index.ensures.sunk
          ∙ ap (sink less _) (c.sink-rises.ensures.sunk ∙ ap (sink less _) c.loop-index.invariant.so_far)
          ∙ sym (settle_next less c.loop-index.index);
      halves = c.sink-rises-in-loop-index.ensures.still_in;
      rising = c.sink-rises-in-loop-index.ensures.still_rising;
      many = omega (arith, c.sink-rises.ensures.one_more, c.sink-rises-in-loop-index.ensures.one_more);
    }

pub returns : goal.returns
returns c =
    let row = c.args.row.ends.now in
    let end = c.loop-index.invariant in
    let all : c.loop-index.index ≡ length row = omega (arith, c.args.row.few) in record {
      settled = end.so_far ∙ ap (λ (n : ℕ). settle (earlier_in row) [] (names_of n)) all;
      halves = end.halves;
      many = omega (arith, end.many, all);
    }
