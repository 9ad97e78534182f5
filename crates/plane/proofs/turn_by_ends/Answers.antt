-- At one of the two, or by the products.
use Rattle.std.proofs.Common.{sym, ◌∙◌}
use Rattle.whole.proofs.Logic.{is_true}
use Rattle.plane.proofs.Equal.{same_point_read}
use Rattle.plane.proofs.Compared.{same_points}
use Rattle.plane.proofs.Narrow.{at_first, at_second, raised_asks_x, raised_asks_y, raised_of_x, raised_of_y, sums_are}
use Rattle.plane.proofs.turn_by_ends.Goals as goal

pub returns-then-eq : goal.returns-then-eq
returns-then-eq c =
    at_second c.args.a c.args.b c.args.c
    (same_point_read c.args.b c.args.c (is_true _ (sym (c.eq.ensures ∙ same_points c.args.b c.args.c) ∙ c.if-eq.true)))

pub returns-then-eq-2 : goal.returns-then-eq-2
returns-then-eq-2 c =
    at_first c.args.a c.args.b c.args.c
    (same_point_read c.args.a c.args.c (is_true _ (sym (c.eq-2.ensures ∙ same_points c.args.a c.args.c) ∙ c.if-eq-2.true)))

pub raised-requires : goal.raised-requires
raised-requires c = raised_asks_x c.args.b c.args.a c.requires.1 c.requires.0

pub raised-requires-2 : goal.raised-requires-2
raised-requires-2 c = raised_asks_y c.args.c c.args.a c.requires.2 c.requires.0

pub raised-requires-3 : goal.raised-requires-3
raised-requires-3 c = raised_asks_y c.args.b c.args.a c.requires.1 c.requires.0

pub raised-requires-4 : goal.raised-requires-4
raised-requires-4 c = raised_asks_x c.args.c c.args.a c.requires.2 c.requires.0

pub returns : goal.returns
returns s =
    let a = s.args.a in
    let b = s.args.b in
    let c = s.args.c in
    s.turn_by_products.ensures
    ∙ sums_are a b c s.raised.result s.raised-2.result s.raised-3.result s.raised-4.result
    (raised_of_x b a s.requires.1 s.requires.0 s.raised.result s.raised.ensures.0)
    (raised_of_y c a s.requires.2 s.requires.0 s.raised-2.result s.raised-2.ensures.0)
    (raised_of_y b a s.requires.1 s.requires.0 s.raised-3.result s.raised-3.ensures.0)
    (raised_of_x c a s.requires.2 s.requires.0 s.raised-4.result s.raised-4.ensures.0)
