-- The test is that of the entry just below the place.
use Rattle.std.proofs.Common.{◌-◌, Bool, not, ◌&&◌, ◌||◌, T, get_or, ap, ◌∙◌, arith}
use Rattle.std.specs.Bool.{beq}
use Rattle.whole.specs.Decides.{Decides}
use Rattle.whole.proofs.Logic.{and_left, and_right, and_make}
use Rattle.whole.proofs.Deciding.{same_as}
use Rattle.plane.specs.declared.Segment.{Segment}
use Rattle.plane.specs.Plane.{is_same_point, is_same_segment}
use Rattle.scene.specs.Read.{segment_at}
use Rattle.sweep_laws.specs.Lower.{passes_under, lower_at_right}
use Rattle.sweep_laws.specs.Swept.{is_first}
use Rattle.sweep_laws.specs.Event.{FitsOver}
use Rattle.sweep_laws.proofs.Entries.{tested, by_below}
use Rattle.sweep_status.proofs.place.Entries.fits_over.Goals as goal

abbrev is_under : Bool → Segment → Segment → Bool
is_under own u t = passes_under u t.left || (is_same_point u.left t.left && passes_under u t.right) || (is_same_segment u t && not own)

abbrev fits : Bool → Segment → Segment → Bool
fits own u t = is_under own u t && lower_at_right u t

both : (a b : Bool) {r : Bool} → Decides (T (a && b)) r → Decides (T a × T b) r
both a b d = same_as (λ t. (and_left a b t, and_right a b t)) (λ w. and_make a b w.0 w.1) d

pub returns : goal.returns
returns c =
    let a = c.args in
    let s = a.self.bytes.now in
    let below = get_or a.self.offsets.now (a.k - 1) 0 in
    let own = beq a.first (is_first s a.scene below) in
    let asked = c.is_lower_beginning.ensures ∙ ap (λ (b : Bool). fits (beq a.first b) c.segment-u.result c.segment-t.result) (c.is_first.ensures s) in
    by_below a.self.offsets.now a.k (FitsOver s a.scene a.first a.at) (a.k - 1) (omega arith)
    (both (is_under own (segment_at s below) (segment_at s a.at)) (lower_at_right (segment_at s below) (segment_at s a.at)) (tested (fits own) asked c.segment-u.ensures.0 c.segment-t.ensures))
