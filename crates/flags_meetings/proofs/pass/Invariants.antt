-- What the loop of `pass` keeps: the cursor is one of the object's, and the elements that are passed have the key. Past the last element the key is the top.
use Rattle.std.proofs.Common.{ℕ, ◌-◌, ◌<◌, ◌≤◌, ◌≡◌}
use Rattle.scene_keys.specs.Keyed.{next_key}
use Rattle.flags_meetings.proofs.pass.Given as goal

abbrev pub invariant-loop-c : goal.invariant-loop-c
invariant-loop-c l = let o = l.fn.c.object in record {
  bytes : l.c.object.bytes.now ≡ o.bytes.now;
  layout : l.c.object.layout ≡ o.layout;
  on : l.fn.c.index ≤ l.c.index;
  same : (m : ℕ) → l.fn.c.index ≤ m → m < l.c.index → next_key o.bytes.now o.layout m ≡ l.k;
}

abbrev pub decreases-loop-c : goal.decreases-loop-c
decreases-loop-c l = l.fn.c.object.layout.count - l.c.index
