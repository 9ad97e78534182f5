-- The bytes so far are the notes so far, and the others are as they were. A turn of the first loop sees that there are 2,048 notes.
use Rattle.std.proofs.Common.{◌≡◌, ◌<◌, ◌+◌, length}
use lib.Seq.{paste}
use Rattle.sweep_notes.proofs.Notes.lay.Given as goal

abbrev pub invariant-loop-k : goal.invariant-loop-k
invariant-loop-k l = record {
  room : 0 < l.k → length l.self ≡ 2048;
  laid : l.bytes ≡ paste l.fn.bytes 0 l.self l.k;
}

abbrev pub invariant-loop-j : goal.invariant-loop-j
invariant-loop-j l = record {
  room : length l.self ≡ 2048;
  laid : l.bytes ≡ paste l.fn.bytes 0 l.self (1024 + l.j);
}
