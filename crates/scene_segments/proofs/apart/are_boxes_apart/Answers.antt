-- Each comparison that holds parts the two segments.
use Rattle.std.proofs.Common.{◌≡◌, true, false, T, ℤ, rules}
use Rattle.std.specs.Int.Signed.{lt_z, le_z}
use Rattle.whole.proofs.Logic.{is_true}
use Rattle.whole.proofs.Sign.{lt_z_pos, le_z_nonneg}
use Rattle.plane.specs.declared.Segment.{Segment}
use Rattle.plane.specs.Plane.{ordered, touch}
use Rattle.scene_segments.proofs.Parted.{parted_across, parted_up}
use Rattle.scene_segments.proofs.apart.are_boxes_apart.Goals as goal
use Rattle.scene_segments.proofs.apart.are_boxes_apart.Goals.{then-u-t, else-u-t}

module _ (t u : Segment) (o : T (ordered t)) (o' : T (ordered u)) where
  across : lt_z t.right.x u.left.x ≡ true → (touch t u ≡ false) × (touch u t ≡ false)
  across e = parted_across t u o o' (lt_z_pos t.right.x u.left.x (is_true _ e))

  up : (h l : ℤ) → lt_z h l ≡ true → T (le_z t.left.y h) × T (le_z t.right.y h) → T (le_z l u.left.y) × T (le_z l u.right.y) → (touch t u ≡ false) × (touch u t ≡ false)
  up h l e a b =
      parted_up t u o o' h l (lt_z_pos h l (is_true _ e)) (le_z_nonneg t.left.y h a.0) (le_z_nonneg t.right.y h a.1) (le_z_nonneg l u.left.y b.0) (le_z_nonneg l u.right.y b.1)

pub returns-then-high-low : goal.returns-then-high-low
returns-then-high-low c q =
    elim c.if-u-t.branch [
      | then-u-t w ↦ (across c.args.u c.args.t c.requires.1 c.requires.0 (search rules)).1
      | else-u-t w ↦ (up c.args.t c.args.u c.requires.0 c.requires.1 w.high.result w.low.result (search rules) w.high.ensures w.low.ensures).0
    ]

pub returns-else-high-low : goal.returns-else-high-low
returns-else-high-low c q =
    (up c.args.u c.args.t c.requires.1 c.requires.0 c.high-else-high-low.result c.low-else-high-low.result (search rules) c.high-else-high-low.ensures c.low-else-high-low.ensures).1
