-- A state that does not fit the ground, or one that goes on.
use Rattle.std.proofs.Common.{ℕ, Ok, ◌∙◌, ◌+◌, sym, ap, bit_or, arith}
use Rattle.walk_flags.specs.OneTaken.{marked_f, marked_g}
use Rattle.walk.specs.Walked.{marks_of_f, marks_of_g}
use Rattle.walk.proofs.Portioning.{at_rest, goes_on}
use Rattle.walk.proofs.Walk.portion.Goals as goal
use Rattle.walk.proofs.Walk.portion.Goals.{then-self-gt-MOST-via-then-self-gt-MOST, then-self-gt-MOST-via-else-self-gt-MOST+then-self-ground, then-self-gt-MOST-via-else-self-gt-MOST+else-self-ground+then-self}

pub returns-then-self-gt-MOST : goal.returns-then-self-gt-MOST
returns-then-self-gt-MOST c =
    c.at.ensures
    ∙ sym (at_rest c.args.ground.now c.args.self c.args.n (elim c.then-self-gt-MOST.branch [
      | then-self-gt-MOST-via-then-self-gt-MOST w ↦ λ a b d. omega (arith, a, w.if-self-gt-MOST.true)
      | then-self-gt-MOST-via-else-self-gt-MOST+then-self-ground w ↦ λ a b d. omega (arith, b, w.if-self-ground.true)
      | then-self-gt-MOST-via-else-self-gt-MOST+else-self-ground+then-self w ↦ λ a b d. omega (arith, d, w.if-self.true)
    ]))

pub returns : goal.returns
returns c =
    let w = c.args.self in
    let g = c.args.ground.now in
    let to = ap (λ (m : ℕ). w.taken + m) c.min.ensures in
    let asked = c.asked-asked.ensures in
    let marks = c.marks_in-marks.ensures in
    let marks_f = marks.0 ∙ ap (marks_of_f g w.taken) to in
    let marks_g = marks.1 ∙ ap (marks_of_g g w.taken) to in
    let of_f = c.of_f.ensures ∙ (λ x. marked_f (asked x).f (asked x).g (asked x).want (marks_f x)) in
    let of_g = c.of_g.ensures ∙ (λ x. marked_g (asked x).f (asked x).g (asked x).want (marks_g x)) in
    (λ x. Ok (record {
      f = w.f;
      g = w.g;
      is_turned = w.is_turned;
      want = w.want;
      events = w.events;
      taken = to x;
      found = record { f = bit_or w.found.f (of_f x); g = bit_or w.found.g (of_g x) };
    }))
    ∙ sym (goes_on g w c.args.n (omega (arith, c.if-self-gt-MOST.false)) (omega (arith, c.if-self-ground.false)) (omega (arith, c.if-self.false)))
