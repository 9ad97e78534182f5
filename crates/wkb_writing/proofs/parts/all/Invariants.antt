-- What the parts of the elements from i on make of the bytes so far is all of them.
use Rattle.std.proofs.Common.{◌≡◌, ◌-◌, ◌++◌}
use Rattle.wkb_writing.specs.Parts.{parts_from}
use Rattle.wkb_writing.proofs.parts.all.Given as goal

abbrev pub invariant-loop-i : goal.invariant-loop-i
invariant-loop-i l = l.wkb.items ++ parts_from l.o.bytes.now l.o.layout (l.o.layout.count - l.i) l.i ≡ l.fn.wkb.items ++ parts_from l.o.bytes.now l.o.layout l.o.layout.count 0
