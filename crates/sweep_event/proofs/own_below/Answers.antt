use Rattle.std.proofs.Common.{◌≡◌, ℕ, ◌-◌, ◌<◌, ◌≤◌, T, get_or, subst, inl, inr, arith}
use native.Mathlib.Nat.{eq-or-lt_of_le}
use Rattle.whole.proofs.Logic.{less_or_not}
use Rattle.sweep_laws.specs.Swept.{strand_of, strand_at}
use Rattle.sweep_laws.proofs.Entries.{entry_readable, held_entry, one_lower}
use Rattle.sweep_event.proofs.Read.{alike, apart}
use Rattle.sweep_event.proofs.own_below.Goals as goal

before_it : (k n : ℕ) → k < n → k ≤ n - 1
before_it k n h = omega arith

pub segment-t-requires : goal.segment-t-requires
segment-t-requires c = let r = c.args.event.read in (entry_readable r.bytes.now r.scene r.read c.args.event.recorded).there

pub is_own-requires : goal.is_own-requires
is_own-requires c = held_entry c.requires.0 (c.loop-k.k - 1) (omega arith)

pub segment-requires : goal.segment-requires
segment-requires c =
    let r = c.args.event.read in
    (entry_readable r.bytes.now r.scene r.read (held_entry c.requires.0 (c.loop-k.k - 1) (omega arith))).there

pub returns-then-ne : goal.returns-then-ne
returns-then-ne c =
    let a = c.args in
    let s = a.event.read.bytes.now in
    let n = c.loop-k.k in
    let its : ℕ → Type 0 = λ i. strand_at s a.event.read.scene (get_or a.entries.now i 0) ≡ strand_of s a.event.read.scene a.event.first a.event.at in
    let not_own : its (n - 1) → ⊥ = λ w. subst T c.if-is_own.false (c.is_own.ensures.complete w) in
    record {
      found = tt;
      none = λ k w. elim (less_or_not k n) [
        | inl l ↦ elim (eq-or-lt_of_le (before_it k n l)) [
          | inl q ↦ not_own (subst its q w.own)
          | inr q ↦ apart c.ne.ensures c.segment.ensures c.segment-t.ensures c.if-ne.true (w.equals (n - 1) q (omega arith))
        ]
        | inr l ↦ c.loop-k.invariant.1 k l w.below w.own
      ];
    }

pub loop-k-preserved : goal.loop-k-preserved
loop-k-preserved c = (
  one_lower c.loop-k.k c.args.top c.loop-k.invariant.0 (alike c.ne.ensures c.segment.ensures c.segment-t.ensures c.if-ne.false),
  one_lower c.loop-k.k c.args.top c.loop-k.invariant.1 (λ w. subst T c.if-is_own.false (c.is_own.ensures.complete w)),
)
