-- What the loop of `marks_of_notes` keeps: the marks so far, and those of the elements that are left, are all.
use Rattle.std.proofs.Common.{◌≡◌, bit_or}
use Rattle.flags_meetings.specs.Keyed.{marks_of_notes}
use Rattle.flags_meetings.proofs.marks_of_notes.Given as goal

abbrev pub invariant-loop-m : goal.invariant-loop-m
invariant-loop-m l = bit_or l.marks.0 (marks_of_notes l.notes l.m l.j) ≡ marks_of_notes l.notes l.i l.j
