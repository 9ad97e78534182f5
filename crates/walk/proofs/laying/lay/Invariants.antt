-- Both cursors stand where the laying does, all before has lower keys than what is next, and the events up to there are laid.
use Rattle.std.proofs.Common.{ℕ, ◌≡◌, ◌+◌, ◌-◌, ◌<◌, ◌≤◌, min}
use Rattle.scene_keys.specs.Keyed.{keys, next_key}
use Rattle.walk.specs.Laying.{Laid}
use Rattle.walk.proofs.laying.lay.Given as goal

abbrev pub invariant-loop-k : goal.invariant-loop-k
invariant-loop-k l = let z = l.fn.noted in record {
  bytes_f : l.c.object.bytes.now ≡ z.bytes.now;
  layout_f : l.c.object.layout ≡ z.scene.f;
  bytes_g : l.d.object.bytes.now ≡ z.bytes.now;
  layout_g : l.d.object.layout ≡ z.scene.g;
  at_f : l.at.i ≡ l.c.index;
  at_g : l.at.j ≡ l.d.index;
  few : l.at.events ≤ l.at.i + l.at.j;
  least : l.k ≡ min (next_key z.bytes.now z.scene.f l.at.i) (next_key z.bytes.now z.scene.g l.at.j);
  f_passed : (m : ℕ) → m < l.at.i → keys z.bytes.now z.scene.f m < l.k;
  g_passed : (m : ℕ) → m < l.at.j → keys z.bytes.now z.scene.g m < l.k;
  laid : Laid z.bytes.now z.scene z.notes.now l.fn.ground l.at l.ground;
}

abbrev pub decreases-loop-k : goal.decreases-loop-k
decreases-loop-k l = l.fn.noted.scene.f.count + l.fn.noted.scene.g.count - (l.at.i + l.at.j)
