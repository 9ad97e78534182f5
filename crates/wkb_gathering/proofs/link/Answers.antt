-- By the order of the two keys.
use Rattle.std.proofs.Common.{◌≡◌, ◌<◌, ℕ, [], ◌∷◌, ap, sym, ◌∙◌, arith}
use borrow.Author.Tests.{lt-ltb, le-ltb}
use Rattle.std.specs.declared.cmp.Ordering.{Ordering}
use Rattle.std.specs.declared.cmp.Ordering.TheVariants.{Less, Equal, Greater}
use Rattle.std.specs.Ordering.{MatchOrdering}
use Rattle.std.proofs.lemmas.Cmp.{ranked}
use Rattle.wkb_gathering.specs.Keys.{between_keys, linked}
use Rattle.wkb_gathering.proofs.link.Goals as goal

by_order : (a b : ℕ) (o : Ordering) → MatchOrdering o (a < b) (a ≡ b) (b < a) → MatchOrdering o (record { left = a; right = b } ∷ [] ≡ between_keys a b) ([] ≡ between_keys a b) (record { left = b; right = a } ∷ [] ≡ between_keys a b)
by_order a b Less h = rw (lt-ltb a b h)
by_order a b Equal h = rw (le-ltb a b (omega arith), le-ltb b a (omega arith))
by_order a b Greater h = rw (le-ltb a b (omega arith), lt-ltb b a h)

pub returns-in-Less : goal.returns-in-Less
returns-in-Less c = by_order c.in_ok-before.before c.args.next Less (ranked c.in_ok-before.before c.args.next Less (sym c.in-Less.is ∙ c.cmp.ensures)) ∙ ap (λ b. linked b c.args.next) (sym c.in_ok-before.was)

pub returns-in-Equal : goal.returns-in-Equal
returns-in-Equal c = by_order c.in_ok-before.before c.args.next Equal (ranked c.in_ok-before.before c.args.next Equal (sym c.in-Equal.is ∙ c.cmp.ensures)) ∙ ap (λ b. linked b c.args.next) (sym c.in_ok-before.was)

pub returns-in-Greater : goal.returns-in-Greater
returns-in-Greater c = by_order c.in_ok-before.before c.args.next Greater (ranked c.in_ok-before.before c.args.next Greater (sym c.in-Greater.is ∙ c.cmp.ensures)) ∙ ap (λ b. linked b c.args.next) (sym c.in_ok-before.was)
