-- The notes so far are the bytes so far.
use Rattle.std.proofs.Common.{◌≡◌, ◌+◌, length, take}
use Rattle.std.specs.Prelude.{map}
use Rattle.sweep_notes.specs.Numbers.{as_read}
use Rattle.sweep_notes.proofs.Notes.of_bytes.Given as goal

abbrev pub invariant-loop-k : goal.invariant-loop-k
invariant-loop-k l = record {
  room : length l.notes ≡ 2048;
  read : take l.k l.notes ≡ map as_read (take l.k l.bytes);
}

abbrev pub invariant-loop-j : goal.invariant-loop-j
invariant-loop-j l = record {
  room : length l.notes ≡ 2048;
  read : take (1024 + l.j) l.notes ≡ map as_read (take (1024 + l.j) l.bytes);
}
