use Rattle.std.proofs.Common.{◌≡◌, ℕ, true, List, T, refl, sym, ap₂, subst, ◌∙◌, arith, le_refl}
use borrow.Author.Tests.{le-ltb}
use Rattle.whole.proofs.Logic.{is_true}
use Rattle.plane.specs.declared.Point.{Point}
use Rattle.scene.specs.declared.Layout.{Layout}
use Rattle.scene.specs.Read.{point_at, place}
use Rattle.sweep_laws.specs.Located.{NearNote, is_point_next, PointsTaken}
use Rattle.sweep_laws.specs.Held.{Readable}
use Rattle.sweep_laws.proofs.Entries.{held_readable}
use Rattle.sweep_laws.proofs.Objects.{few_elements}
use Rattle.sweep_laws.proofs.PointRun.{next_within, points_more}
use Rattle.sweep_notes.specs.Numbers.{note_number}
use Rattle.sweep.proofs.points.note_points.Goals as goal

pub invariant_of-entries : goal.invariant_of-entries
invariant_of-entries c =
    let r = c.args.read.now in
    record { readable = subst (Readable r.bytes.now) (sym c.entries.ensures) (held_readable c.requires.3 r.read) }

pub write-requires : goal.write-requires
write-requires c =
    let r = c.args.read.now in
    let next = is_true _ (sym c.is_point_next.ensures ∙ c.if-not-is_point_next.false) in
    omega (arith, next_within r.bytes.now r.scene c.loop-k.k c.args.j next, few_elements r.bytes.now r.scene r.read true)

pub loop-k-preserved : goal.loop-k-preserved
loop-k-preserved c =
    let s = c.args.read.now.bytes.now in
    let sc = c.args.read.now.scene in
    let k = c.loop-k.k in
    let next : T (is_point_next s sc k c.args.j) = is_true _ (sym c.is_point_next.ensures ∙ c.if-not-is_point_next.false) in
    let within = next_within s sc k c.args.j next in
    let point_is = c.point.ensures.is ∙ ap₂ (λ (s : List ℕ) (l : Layout). point_at s (place l k)) c.object.ensures.0 c.object.ensures.1 in
    let noted = subst (λ (l : List ℕ). NearNote s l (point_at s (place sc.f k)) (note_number c.locate.result)) c.entries.ensures
    (subst (λ (v : Point). NearNote s c.entries.result.now v (note_number c.locate.result)) point_is c.locate.ensures) in (
      omega (arith, within),
      rw c.write.ensures.is (points_more s sc c.args.j c.args.status.now c.args.i c.args.notes.now k c.loop-k.invariant.1 next
          (omega (arith, within, few_elements s sc c.args.read.now.read true, c.write.ensures.room)) noted),
    )

pub returns : goal.returns
returns c =
    let r = c.args.read.now in
    let n = r.scene.f.count in
    let v = c.loop-k.invariant in
    let end : c.loop-k.k ≡ n = omega (arith, v.0, c.loop-k-test.false) in
    (le_refl n, rw (le-ltb n n (le_refl n)) refl, subst (λ (k : ℕ). PointsTaken r.bytes.now r.scene c.args.j c.args.status.now c.args.i k c.args.notes.now c.loop-k.notes) end v.1)
