-- What the iterator has left stands after the summaries so far, which are good; and the word has a bit for each of them.
use Rattle.std.proofs.Common.{◌≡◌, ◌*◌, ◌≤◌, length, drop}
use Rattle.std.specs.Iterator.Adapters.{enumerate_source, enumerate_count}
use Rattle.std.specs.Slice.Iter.{chunks_rest, chunks_size}
use Rattle.flags.specs.Flags.{pack}
use Rattle.summary_window.specs.Window.{AllGood, tests, hit_one}
use Rattle.summary_window.proofs.judge.Given as goal

abbrev pub invariant-loop-k : goal.invariant-loop-k
invariant-loop-k l =
    let count = enumerate_count l.k-iterator in
    record {
      can : (goal.iterator-loop-k).can_next l.k-iterator;
      finite : (goal.iterator-loop-k).is_finite l.k-iterator;
      by_20 : chunks_size (enumerate_source l.k-iterator) ≡ 20;
      rest : chunks_rest (enumerate_source l.k-iterator) ≡ drop (20 * count) l.s;
      within : 20 * count ≤ length l.s;
      good : AllGood l.s count;
      word : l.word ≡ pack (tests (hit_one l.w l.s) count 0);
    }
