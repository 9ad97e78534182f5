-- Each point's parity is that from the pair i on.
use Rattle.std.proofs.Common.{◌≡◌, ◌*◌}
use Rattle.plane.specs.declared.Point.{Point}
use Rattle.scene.specs.Conditions.{elements}
use Rattle.whole.proofs.Parity.{parity}
use Rattle.sweep_laws.specs.Evenly.{dominated_by}
use Rattle.sweep_laws.proofs.Evenly.{parity_from}
use Rattle.sweep.proofs.evenly.ends_evenly.Given as goal

abbrev pub invariant-loop-i : goal.invariant-loop-i
invariant-loop-i l =
    (v : Point) → parity (dominated_by l.o.bytes.now l.o.layout v) (elements l.o.layout) ≡ parity_from (dominated_by l.o.bytes.now l.o.layout v) (2 * l.i) l.o.layout.count
