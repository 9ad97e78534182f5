-- What equals the float is it; else the number that is cut off, whose test is `judged`.
use Rattle.std.proofs.Common.{rules, to_z, of_z, ◌≡◌, ◌&&◌, Bool, true, false, cond, T, ℤ, leb, nat_abs, sym, ap, leb→le, ◌∙◌}
use Rattle.std.proofs.lemmas.Int.{to_z-of_z}
use mir.Syntax.{w32}
use Rattle.whole.proofs.Logic.{is_true, true_is, and_left, and_right}
use Rattle.plane.specs.Plane.{limit}
use lib.Ieee.{Float, eq, of_int, binary64, to_signed}
use Rattle.wkb_coordinate.specs.declared.Coordinate.TheVariants.{Whole, Other}
use Rattle.wkb_coordinate.specs.Coordinate.{coordinate_of}
use Rattle.wkb_coordinate.proofs.Cut.{judged_is}
use Rattle.wkb_coordinate.proofs.Meaning.{taken_where_equal}
use Rattle.wkb_coordinate.proofs.CoordinateFromF64.from.Goals as goal

-- a test of a number
abbrev tested : Float → ℤ → Bool
tested x z = eq (of_int binary64 z) x && leb (nat_abs z) limit

by_equality : (x : Float) (z : ℤ) (r : Bool) → r ≡ true → r ≡ tested x z → Whole z ≡ coordinate_of x
by_equality x z r t e =
    let both : T (tested x z) = is_true (tested x z) (sym e ∙ t) in
    sym (taken_where_equal x z (true_is (eq (of_int binary64 z) x) (and_left (eq (of_int binary64 z) x) (leb (nat_abs z) limit) both))
    (leb→le (nat_abs z) limit (and_right (eq (of_int binary64 z) x) (leb (nat_abs z) limit) both)))

by_cut : (x : Float) (z : ℤ) (r b : Bool) → z ≡ to_signed 31 x → r ≡ b → r ≡ tested x z → cond b (Whole z) (Other x) ≡ coordinate_of x
by_cut x z r b n t e = ap (λ (c : Bool). cond c (Whole z) (Other x)) (sym t ∙ e) ∙ ap (λ (y : ℤ). cond (tested x y) (Whole y) (Other x)) n ∙ judged_is x

pub returns-then-is_whole : goal.returns-then-is_whole
returns-then-is_whole c = by_equality c.args.x (to_z w32 (of_z w32 c.likely-near.result)) c.is_whole.result c.if-is_whole.true c.is_whole.ensures

pub returns-then-is_whole-2 : goal.returns-then-is_whole-2
returns-then-is_whole-2 c =
    let n = c.saturating_f64_to_i32-n in
    by_cut c.args.x (to_z w32 (of_z w32 n.result)) c.is_whole-2.result true (to_z-of_z w32 n.result (search rules) ∙ n.ensures) c.if-is_whole-2.true c.is_whole-2.ensures

pub returns-else-is_whole-2 : goal.returns-else-is_whole-2
returns-else-is_whole-2 c =
    let n = c.saturating_f64_to_i32-n in
    by_cut c.args.x (to_z w32 (of_z w32 n.result)) c.is_whole-2.result false (to_z-of_z w32 n.result (search rules) ∙ n.ensures) c.if-is_whole-2.false c.is_whole-2.ensures
