use Rattle.std.proofs.Common.{◌≡◌, arith, refl, ap, sym, ◌∙◌, ◌++◌, ◌+◌, ◌||◌, Bool, true, false, drop, length, length-append, get_or}
use Rattle.whole.specs.Count.{some}
use Rattle.split_crossing.specs.Cuts.{cuts_by, cuts}
use Rattle.split_cuts.specs.Listed.{segments_of}
use Rattle.split_cuts.specs.Split.{crosses_off}
use Rattle.split_cuts.proofs.Listing.{no_piece, good_at}
use Rattle.split_cuts.proofs.Steps.{three_cuts, onward, cuts_on, some_on}
use Rattle.split_cuts.proofs.Segments.cuts_of.Goals as goal
use Rattle.split_cuts.proofs.Segments.cuts_of.Goals.{then-put_cuts, else-put_cuts}

-- one more is off, or is not
one_more : (a here rest : Bool) → here ≡ true → (a || (here || rest)) ≡ (true || rest)
one_more true here rest e = refl
one_more false here rest e = rw e refl

none_more : (a here rest : Bool) → here ≡ false → (a || (here || rest)) ≡ (a || rest)
none_more a here rest e = rw e refl

pub put_cuts-requires : goal.put_cuts-requires
put_cuts-requires c = ((good_at c.args.self.list.now c.args.self.good c.loop-u.u-index c.loop-u-test.true).0, omega (arith, c.loop-u.invariant.room, c.args.self.few))

pub loop-u-preserved : goal.loop-u-preserved
loop-u-preserved c =
    let list = c.args.self.list.now in
    let i = c.loop-u.u-index in
    let t = c.args.t in
    let u = (get_or list i no_piece).segment in
    let put = c.put_cuts.ensures.1 ∙ ap (λ t. c.loop-u.found.items ++ cuts_by t u) c.of-steps.ensures in
    let is = sym (c.put_cuts.ensures.0 ∙ ap (λ t. crosses_off t u) c.of-steps.ensures) in
    let found = c.loop-u.found.items in
    let rest = some (crosses_off t) (segments_of (drop (i + 1) list)) in
    let so_far = c.loop-u.invariant.off ∙ ap (λ b. c.loop-u.is_off || b) (some_on list i c.loop-u-test.true (crosses_off t)) in
    record {
      all = onward (cuts (segments_of list) t) found (cuts_by t u) (cuts (segments_of (drop (i + 1) list)) t)
          (c.loop-u.invariant.all ∙ ap (λ l. found ++ l) (cuts_on list i c.loop-u-test.true t)) put;
      off = elim c.if-put_cuts.branch [
        | then-put_cuts w ↦ so_far ∙ one_more c.loop-u.is_off (crosses_off t u) rest (is ∙ w.if-put_cuts.true) ∙ ap (λ b. b || rest) (sym w.is_off-is)
        | else-put_cuts w ↦ so_far ∙ none_more c.loop-u.is_off (crosses_off t u) rest (is ∙ w.if-put_cuts.false) ∙ ap (λ b. b || rest) (sym w.is_off-is)
      ];
      room = omega (arith, c.loop-u.invariant.room, three_cuts t u, length-append found (cuts_by t u), ap length put);
    }
