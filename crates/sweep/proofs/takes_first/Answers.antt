-- Of two events that are left, the keys tell which comes first where they differ.
use Rattle.std.proofs.Common.{◌<◌, true, false, sym, ap₂, ◌∙◌, arith}
use Rattle.plane.specs.Plane.{comes_before}
use Rattle.scene.specs.Conditions.{half}
use Rattle.scene_keys.specs.Keyed.{next_key}
use Rattle.sweep_laws.specs.Swept.{total}
use Rattle.sweep_laws.proofs.Objects.{has, read}
use Rattle.sweep_laws.proofs.Chosen.{both_left}
use Rattle.sweep.proofs.Next.{first_by_keys}
use Rattle.sweep.proofs.takes_first.Goals as goal

pub returns-then-f-g : goal.returns-then-f-g
returns-then-f-g c =
    let a = c.args in
    let s = a.read.bytes.now in
    let sc = a.read.scene in
    let i = a.f.now.index in
    let j = a.g.now.index in
    let left_f : i < total s sc true = omega arith in
    let left_g : j < total s sc false = omega arith in
    let f = has s sc true i left_f in
    let g = has s sc false j left_g in
    let key_f = a.f.now.key_is ∙ ap₂ (λ s l. next_key s l i) c.requires.0.same_bytes c.requires.0.same_object in
    let key_g = a.g.now.key_is ∙ ap₂ (λ s l. next_key s l j) c.requires.1.same_bytes c.requires.1.same_object in
    first_by_keys s sc.f sc.g (read s sc a.read.read true) (read s sc a.read.read false) i j f.1 g.1 f.0 g.0 key_f key_g c.if-f-g.true
    ∙ sym (both_left i (total s sc true) j (total s sc false) (comes_before (half s sc.g j) (half s sc.f i)) left_f left_g)
