-- The same turn at both ends of u.
use Rattle.std.proofs.Common.{◌≡◌, true, not, ℤ, pos, negsuc, zero, suc, refl, sym, ◌∙◌, rules}
use denote.Enum.Bare.{sameb}
use Rattle.whole.proofs.Logic.{is_true}
use Rattle.whole.proofs.Sign.{lt_z0_pos, lt_z0_neg}
use Rattle.plane.specs.declared.Segment.{Segment}
use Rattle.plane.specs.declared.Turn.TheVariants.{Straight}
use Rattle.plane.specs.contracts.Turn.{the_type}
use Rattle.plane.specs.Plane.{side, turn_of, turn, turned}
use Rattle.plane.proofs.Machine.{turn_asks, left_in_range, right_in_range}
use Rattle.scene_segments.proofs.Parted.{Beside, over, under, beside_clear}
use Rattle.scene_segments.proofs.apart.is_beside.Goals as goal

module _ (t u : Segment) where
  abbrev left_value : ℤ
  left_value = side t.left t.right u.left

  abbrev right_value : ℤ
  right_value = side t.left t.right u.right

  same_way : (z : ℤ) → left_value ≡ z → not (sameb the_type (turn_of z) Straight) ≡ true → turned (turn_of z) right_value ≡ true → Beside t u
  same_way (pos zero) e n h = absurd (search rules)
  same_way (pos (suc k)) e n h = over (lt_z0_pos left_value (is_true _ (rw e (search rules)))) (lt_z0_pos right_value (is_true _ h))
  same_way (negsuc k) e n h = under (lt_z0_neg left_value (is_true _ (rw e (search rules)))) (lt_z0_neg right_value (is_true _ h))

pub turn_from-way-requires : goal.turn_from-way-requires
turn_from-way-requires c = turn_asks c.args.t c.args.u.left c.requires.0 (left_in_range c.args.u c.requires.2)

pub turns-requires : goal.turns-requires
turns-requires c = turn_asks c.args.t c.args.u.right c.requires.0 (right_in_range c.args.u c.requires.2)

pub returns-then-ne : goal.returns-then-ne
unfolding turn
returns-then-ne c q =
    let e = c.turn_from-way.ensures in
    beside_clear c.args.t c.args.u c.requires.1 c.requires.3
    (same_way c.args.t c.args.u _ refl ((rw e at (sym c.ne.ensures)) ∙ c.if-ne.true) ((rw e at (sym c.turns.ensures)) ∙ q))
