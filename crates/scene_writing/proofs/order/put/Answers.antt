use Rattle.std.proofs.Common.{◌<◌, List, length, get_or, T, subst, sym, ◌∙◌, ⊎_elim}
use Rattle.whole.specs.Count.{◌∈◌}
use Rattle.whole.proofs.Logic.{in_nil, in_cons, in_append, is_true}
use Rattle.scene_writing.specs.declared.order.Half.{Half}
use Rattle.scene_writing.specs.Named.{earlier_in, AreRising, no_half}
use Rattle.scene_writing.proofs.Strict.{rising_push}
use Rattle.scene_writing.proofs.order.put.Goals as goal

pub returns-then-follows-clause-still_in : goal.returns-then-follows-clause-still_in
returns-then-follows-clause-still_in c = λ h m.
    ⊎_elim (c.requires.order_in h) (λ k. ⊎_elim (λ e. subst (λ (j : Half). j.index < length c.args.row.ends.now) (sym e) c.requires.h_in) (λ n. absurd (in_nil n)) (in_cons k))
    (in_append c.args.order.now.items (subst (λ (o : List Half). h ∈ o) c.push.ensures.items m))

pub returns-then-follows-clause-still_rising : goal.returns-then-follows-clause-still_rising
returns-then-follows-clause-still_rising c = λ t.
    let row = c.args.row.ends.now in
    subst (AreRising row) (sym c.push.ensures.items)
    (rising_push row c.args.row.good c.requires.order_in c.requires.rising c.args.h c.requires.h_in
    (λ i e. subst (λ (o : List Half). T (earlier_in row (get_or o i no_half) c.args.h)) c.as_slice.ensures.value (is_true _ (sym (c.follows.ensures i (e ∙ sym c.len.ensures.value)) ∙ c.if-follows.true))))
