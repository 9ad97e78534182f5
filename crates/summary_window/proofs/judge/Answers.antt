-- Each turn parses the summary that stands there.
use Rattle.std.proofs.Common.{ℕ, ◌*◌, ap, sym, ◌∙◌, T, subst, length, drop, arith, rules}
use Rattle.flags.specs.Flags.{pack}
use Rattle.summary.specs.declared.Summary.{Summary}
use Rattle.summary.specs.Summary.{is_good}
use Rattle.summary.proofs.Bytes.{good_summary}
use Rattle.summary_window.specs.Window.{AllGood, tests, hit_one}
use Rattle.summary_window.proofs.Turns.{parsed, not_parsed, turn, below_64, is_bad, one_more, next_rest, next_within, hit_is, all_sent, next_word, fits}
use Rattle.summary_window.proofs.judge.Goals as goal

pub shows-requires : goal.shows-requires
shows-requires c =
    let x = c.in-Some.record.now in
    let p = parsed x c.parse.ensures c.in-Some-parse.is in
    subst (λ (m : Summary). T (is_good m)) p.1 (good_summary x p.0)

pub returns-in_default : goal.returns-in_default
returns-in_default c =
    let l = c.loop-k.invariant in
    let next = c.in-Some.ensures.steps in
    let bad = is_bad c.args.w c.args.s.now c.requires _ l.good (turn l.by_20 l.rest next.0.1) (not_parsed c.in-Some.record.now c.parse.ensures c.in_default.is) in
    cc (c.at.ensures, next.1, bad)

pub overflow_add-word : goal.overflow_add-word
overflow_add-word c =
    let l = c.loop-k.invariant in
    let next = c.in-Some.ensures.steps in
    let w = c.args.w in
    let s = c.args.s.now in
    let t = turn l.by_20 l.rest next.0.1 in
    let p = parsed c.in-Some.record.now c.parse.ensures c.in-Some-parse.is in
    let hit = hit_is w s c.requires _ l.good t p.0 p.1 c.shows.ensures in
    record { fits = fits (hit_one w s) _ (below_64 w s c.requires _ l.good t) next.1 l.word c.shows.result hit }

pub loop-k-preserved : goal.loop-k-preserved
loop-k-preserved c =
    let l = c.loop-k.invariant in
    let next = c.in-Some.ensures.steps in
    let w = c.args.w in
    let s = c.args.s.now in
    let t = turn l.by_20 l.rest next.0.1 in
    let p = parsed c.in-Some.record.now c.parse.ensures c.in-Some-parse.is in
    let hit = hit_is w s c.requires _ l.good t p.0 p.1 c.shows.ensures in
    record {
      can = search rules;
      finite = tt;
      by_20 = next.0.0 ∙ l.by_20;
      rest = next_rest w s c.requires _ l.good t p.0 ∙ ap (λ (n : ℕ). drop (20 * n) s) (sym next.2);
      within = omega (arith, next_within w s c.requires _ l.good t p.0, next.2);
      good = subst (AllGood s) (sym next.2) (one_more w s c.requires _ l.good t p.0);
      word = next_word (hit_one w s) _ (below_64 w s c.requires _ l.good t) next.1 l.word c.shows.result hit ∙ ap (λ (n : ℕ). pack (tests (hit_one w s) n 0)) (sym next.2);
    }

pub returns : goal.returns
returns c =
    let l = c.loop-k.invariant in
    let next = c.in-None.ensures.steps in
    all_sent c.args.w c.args.s.now c.requires _ l.good (ap length (sym l.rest) ∙ next.0.1.0) l.within l.word
