-- One event more, and none at the beginning.
use Rattle.std.proofs.Common.{◌≡◌, ◌∙◌, ◌+◌, ◌*◌, arith, sym, ap, bit_or, get_or}
use Rattle.walk_flags.specs.declared.Marks.{Marks}
use Rattle.walk.proofs.Gathered.{byte_none, byte_next}
use Rattle.walk.proofs.portion.marks_in.Goals as goal

pub loop-n-init : goal.loop-n-init
loop-n-init c =
    let g = c.args.ground.now in
    let n = c.args.from in
    record {
      of_f = λ x. record { met = sym (byte_none g 0 n) x; classes = sym (byte_none g 1 n) x };
      of_g = λ x. record { met = sym (byte_none g 2 n) x; classes = sym (byte_none g 3 n) x };
    }

pub loop-n-preserved : goal.loop-n-preserved
loop-n-preserved c =
    let g = c.args.ground.now in
    let from = c.args.from in
    let n = c.loop-n.n in
    let f = c.loop-n.invariant.of_f in
    let o = c.loop-n.invariant.of_g in
    let on = c.loop-n.auto.n in
    let first : 4 * n ≡ 4 * n + 0 = omega arith in
    record {
      of_f = λ x. record {
        met = (c.with-f.ensures.0 ∙ (λ z. bit_or (f z).met (get_or g (first z) 0)) ∙ sym (byte_next g 0 from n on)) x;
        classes = (c.with-f.ensures.1 ∙ ap (λ (m : Marks). bit_or m.classes (get_or g (4 * n + 1) 0)) f ∙ sym (byte_next g 1 from n on)) x;
      };
      of_g = λ x. record {
        met = (c.with-g.ensures.0 ∙ ap (λ (m : Marks). bit_or m.met (get_or g (4 * n + 2) 0)) o ∙ sym (byte_next g 2 from n on)) x;
        classes = (c.with-g.ensures.1 ∙ ap (λ (m : Marks). bit_or m.classes (get_or g (4 * n + 3) 0)) o ∙ sym (byte_next g 3 from n on)) x;
      };
    }
