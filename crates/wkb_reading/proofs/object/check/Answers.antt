use Rattle.std.proofs.Common.{Ok, Err, MatchResult, ◌≡◌, List, ℕ, sym, arith}
use Rattle.scene.specs.declared.Layout.{Layout}
use Rattle.scene.specs.Read.{read_alone}
use Rattle.scene.specs.Conditions.{check_object}
use Rattle.check_verdict.specs.Refusals.{Verdict, object_verdict}
use Rattle.check_alone.proofs.Alone.{short, at_fault, taken}
use Rattle.wkb_reading.proofs.object.check.Goals as goal

by_verdict : (s : List ℕ) (l : Layout) → read_alone s ≡ Ok l → (v : Verdict) → v ≡ object_verdict s l → MatchResult v (λ _. check_object s ≡ Ok l) (λ r. check_object s ≡ Err r)
by_verdict s l e (Ok tt) q = taken s l e (sym q)
by_verdict s l e (Err r) q = at_fault s l e r (sym q)

pub verdict-requires : goal.verdict-requires
verdict-requires c = (omega arith, (c.requires, omega (arith, short c.args.bytes.now.items _ c.requires)))

pub returns-clause-checked : goal.returns-clause-checked
returns-clause-checked c = by_verdict c.args.bytes.now.items _ c.requires c.verdict.result c.verdict.ensures.found
