use Rattle.std.proofs.Common.{◌≡◌, ◌+◌, ◌<◌, ℕ, Bool, true, ap, T, List, length, get_or, ◌∙◌, sym, subst, ⊎_elim}
use Rattle.whole.specs.Count.{◌∈◌}
use Rattle.whole.proofs.Logic.{is_true, in_cons}
use Rattle.scene_keys.specs.declared.Ends.{Ends}
use Rattle.scene_writing.specs.declared.order.Half.{Half}
use Rattle.scene_writing.specs.Settled.{Stops}
use Rattle.scene_writing.specs.Named.{earlier_in, AreRising, no_half}
use Rattle.scene_writing.proofs.Sinking.{sinks}
use Rattle.scene_writing.proofs.Settling.{sink_members}
use Rattle.scene_writing.proofs.Earlier.{earlier_trans}
use Rattle.scene_writing.proofs.Rising.{rises_on}
use Rattle.scene_writing.proofs.order.sink.Goals as goal
use Rattle.scene_writing.proofs.order.sink.Goals.{then-rises, else-rises}

pub returns-clause-sunk : goal.returns-clause-sunk
returns-clause-sunk c =
    let less = earlier_in c.args.row.ends.now in
    c.insert.ensures.items
    ∙ sinks less c.args.h no_half c.args.order.now.items c.place-k.result
    (subst (λ (o : List Half). Stops less no_half c.args.h o c.place-k.result) c.as_slice.ensures.value c.place-k.ensures)

pub returns-clause-still_in : goal.returns-clause-still_in
returns-clause-still_in c = λ h m.
    ⊎_elim (λ e. subst (λ (j : Half). j.index < length c.args.row.ends.now) (sym e) c.requires.h_in) (c.requires.order_in h)
    (in_cons
    (sink_members (earlier_in c.args.row.ends.now) c.args.h c.args.order.now.items (subst (λ (o : List Half). h ∈ o) (returns-clause-sunk c) m)))

pub returns-clause-still_rising : goal.returns-clause-still_rising
returns-clause-still_rising c = λ t. elim c.if-rises.branch [ then-rises w ↦ on w.if-rises.true w.as_slice-then-rises.ensures.value w.follows-still.ensures (subst T w.still-is t) | else-rises w ↦ absurd (subst T (w.still-is ∙ w.if-rises.false) t) ]
  where
    row : List Ends
    row = c.args.row.ends.now

    less : Half → Half → Bool
    less = earlier_in row

    k : ℕ
    k = c.place-k.result

    on : {o : List Half} {r : Bool} → c.args.rises ≡ true → o ≡ c.args.order.now.items → ((i : ℕ) → i + 1 ≡ k → r ≡ less (get_or o i no_half) c.args.h) → T r → AreRising row c.insert.new.row.items
    on {r = r} f e n t =
        subst (AreRising row) (sym c.insert.ensures.items)
        (rises_on less (λ h. h.index < length row) (earlier_trans row c.args.row.good) no_half c.args.h c.requires.h_in c.requires.order_in
        (c.requires.rising (is_true c.args.rises f)) (subst (λ (o : List Half). Stops less no_half c.args.h o k) c.as_slice.ensures.value c.place-k.ensures)
        (λ i q. subst T (n i q ∙ ap (λ (o : List Half). less (get_or o i no_half) c.args.h) e) t))
