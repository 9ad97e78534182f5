-- Where both are left, their points tell.
use Rattle.std.proofs.Common.{◌≡◌, ℕ, false, not, List, sym, ap, ap₂, ◌∙◌, arith}
use Rattle.plane.specs.declared.Point.{Point}
use Rattle.plane.specs.Plane.{before, dominating}
use Rattle.plane.proofs.Compared.{upto_is}
use Rattle.scene.specs.declared.Layout.{Layout}
use Rattle.scene.specs.Read.{point_at, place}
use Rattle.scene.specs.Conditions.{half}
use Rattle.sweep_laws.specs.Swept.{total}
use Rattle.sweep_laws.specs.Located.{point_by}
use Rattle.sweep_laws.proofs.Chosen.{both_left}
use Rattle.sweep.proofs.points.is_point_next.Goals as goal

pub returns : goal.returns
returns c =
    let a = c.args in
    let s = a.read.bytes.now in
    let sc = a.read.scene in
    let v_is : c.point-v.result ≡ point_by s sc a.i = c.point-v.ensures.is ∙ ap₂ (λ (s : List ℕ) (l : Layout). point_at s (place l a.i)) c.object-2.ensures.0 c.object-2.ensures.1 in
    let p_is : c.dominating_point.result ≡ dominating (half s sc.g a.j) =
    c.dominating_point.ensures ∙ ap dominating (c.half-h.ensures.is ∙ ap₂ (λ (s : List ℕ) (l : Layout). half s l a.j) c.object.ensures.0 c.object.ensures.1) in
    c.le.ensures
    ∙ upto_is c.point-v.result c.dominating_point.result
    ∙ ap₂ (λ (v p : Point). not (before p v)) v_is p_is
    ∙ sym (both_left a.i sc.f.count a.j (total s sc false) (before (dominating (half s sc.g a.j)) (point_by s sc a.i)) (omega arith) (omega arith))
