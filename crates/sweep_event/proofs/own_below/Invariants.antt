-- The entries from k on, below the place top, have the segment that ends, and none of them is its own.
use Rattle.std.proofs.Common.{◌≡◌, ℕ, ◌<◌, ◌≤◌, get_or}
use Rattle.scene.specs.Read.{segment_at}
use Rattle.sweep_laws.specs.Swept.{strand_of, strand_at}
use Rattle.sweep_event.proofs.own_below.Given as goal

abbrev pub invariant-loop-k : goal.invariant-loop-k
invariant-loop-k l =
    let s = l.event.read.bytes.now in
    let sc = l.event.read.scene in
    ((i : ℕ) → l.k ≤ i → i < l.top → segment_at s (get_or l.entries i 0) ≡ segment_at s l.event.at)
    × ((i : ℕ) → l.k ≤ i → i < l.top → strand_at s sc (get_or l.entries i 0) ≡ strand_of s sc l.event.first l.event.at → ⊥)
