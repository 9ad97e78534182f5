-- Where the right ends differ, the turns decide.
use Rattle.std.proofs.Common.{◌≡◌, false, ◌||◌, sym, ◌∙◌}
use mathlib.Core.Bool.{or-false}
use Rattle.plane.specs.Plane.{is_same_point}
use Rattle.plane.proofs.Compared.{same_points}
use Rattle.sweep_laws.specs.Lower.{passes_under, passes_over}
use Rattle.sweep_status.proofs.place.is_lower.Goals as goal

pub returns : goal.returns
returns c =
    let u = c.args.u in
    let t = c.args.t in
    let apart : is_same_point u.right t.right ≡ false = sym (c.if-eq.ensures ∙ same_points u.right t.right) in
    rw apart (c.is_lower_by_turns.ensures ∙ sym (or-false (passes_under u t.right || passes_over t u.right)))
