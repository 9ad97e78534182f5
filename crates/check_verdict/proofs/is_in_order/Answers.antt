-- The one object, and the other.
use Rattle.std.proofs.Common.{◌≡◌, sym, subst, ℕ, List, Bool, true, false, T, None}
use Rattle.whole.specs.Decides.{Decides}
use Rattle.scene.specs.declared.Layout.{Layout}
use Rattle.scene.specs.Conditions.{out_of_order}
use Rattle.sweep_laws.specs.Swept.{InOrder}
use Rattle.whole.proofs.Logic.{is_true}
use Rattle.whole.proofs.Deciding.{no, same_as}
use Rattle.check_verdict.proofs.is_in_order.Goals as goal

-- an object is in order where it was read
of_object : {s t : List ℕ} {l m : Layout} {answer : Bool} → (t ≡ s) × (m ≡ l) → Decides (out_of_order t m ≡ None) answer → Decides (out_of_order s l ≡ None) answer
of_object {s} {t} {l} {m} {answer} e d = subst (λ (l : Layout). Decides (out_of_order s l ≡ None) answer) e.1 (subst (λ (s : List ℕ). Decides (out_of_order s m ≡ None) answer) e.0 d)

pub returns-then-is_ordered : goal.returns-then-is_ordered
returns-then-is_ordered c =
    let of_f = of_object c.object.ensures c.is_ordered.ensures in
    let of_g = of_object c.object-then-is_ordered.ensures c.is_ordered-then-is_ordered.ensures in
    same_as (λ g. elim [ true ↦ of_f.sound (is_true c.is_ordered.result c.if-is_ordered.true) | false ↦ g ]) (λ order. order false) of_g

pub returns-else-is_ordered : goal.returns-else-is_ordered
returns-else-is_ordered c =
    let of_f = of_object c.object.ensures c.is_ordered.ensures in
    subst (Decides (InOrder c.args.read.bytes.now c.args.read.scene)) (sym c.if-is_ordered.false) (no (λ order. subst T c.if-is_ordered.false (of_f.complete (order true))))
