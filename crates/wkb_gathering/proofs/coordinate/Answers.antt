-- What was taken is a whole number in range.
use Rattle.std.proofs.Common.{◌∙◌, ap, sym}
use Rattle.wkb_coordinate.specs.Coordinate.{coordinate_of}
use Rattle.wkb_grammar.proofs.Taken.{is_whole}
use Rattle.wkb_gathering.proofs.Numbers.{back}
use Rattle.wkb_gathering.proofs.coordinate.Goals as goal

pub returns : goal.returns
returns c =
    let a = c.args in
    let w = is_whole a.s.now a.little a.at c.in-Whole.z c.requires (ap coordinate_of (sym c.float.ensures) ∙ sym c.from.ensures ∙ c.in-Whole.is) in
    rw (back c.in-Whole.z w.1) w
