-- Where the key went in, the row is the one that still rises; where there was no room, it is as it was.
use Rattle.std.proofs.Common.{◌≡◌, Result, Ok, Err, OnOk, OnErr, ℕ, sym, subst, ◌∙◌}
use Rattle.std.specs.declared.cmp.Ordering.{Ordering}
use Rattle.std.specs.List.{insert as put_at}
use Rattle.std.specs.Cmp.{IsTotalOrder}
use Rattle.arrayvec.specs.ArrayVec.{ArrayVec}
use Rattle.whole.proofs.Logic.{Sorted}
use Rattle.wkb_rows.specs.Rows.{GoesTo}
use Rattle.wkb_rows.proofs.Placing.{less, still_rises}
use Rattle.wkb_rows.proofs.OrderedRow.put.Goals as goal

still : {K E R : Type 0} {cmp : K → K → Ordering} (o : IsTotalOrder cmp) (a : K) (k : ℕ) (old new : ArrayVec K) → Sorted (less o) old.items → GoesTo cmp a old.items k
    → (r : Result R E) → OnOk r (new.items ≡ put_at old.items k a) → OnErr r (new ≡ old) → Sorted (less o) new.items
still o a k old new s p (Ok u) e f = subst (Sorted (less o)) (p.1 ∙ sym e) (still_rises o a s)
still o a k old new s p (Err u) e f = subst (λ (v : ArrayVec _). Sorted (less o) v.items) (sym f) s

pub invariant_of-self : goal.invariant_of-self
invariant_of-self g c =
    let o = g.met.K.Ord.total in
    let p = subst (λ r. GoesTo g.K.Ord.cmp c.args.key r c.in-Err.place) (sym c.self.view_is) c.in-Err.ensures in
    still o c.args.key c.in-Err.place c.self.inside.keys c.try_insert.new.row c.self.invariant p c.try_insert.result c.try_insert.ensures.ok c.try_insert.ensures.err
