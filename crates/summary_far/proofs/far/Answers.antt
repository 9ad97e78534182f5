-- The answer is the definition's, and the sentences hold of that.
use Rattle.std.proofs.Common.{◌≡◌, Result, Option, List, ℕ, rules}
use Rattle.scene.specs.declared.Refusal.{Refusal}
use Rattle.flags_vectors.specs.declared.Vectors.{Vectors}
use Rattle.summary.specs.Summary.{asked_of}
use Rattle.summary_objects.specs.Objects.{GoodExactlyIfMade, ToldInFull, LookExactlyIfNear}
use Rattle.summary_objects.proofs.Told.{told_in_full, look_exactly_if_near}
use Rattle.summary_objects.proofs.Found.{good_exactly_if_made}
use Rattle.summary_far.proofs.far.Goals as goal

with_meaning : (first second : List ℕ) {a : Result (Option Vectors) Refusal} → a ≡ asked_of first second
    → (a ≡ asked_of first second) × GoodExactlyIfMade first × GoodExactlyIfMade second × ToldInFull first second a × LookExactlyIfNear first second a
with_meaning first second is = (is, good_exactly_if_made first, good_exactly_if_made second, told_in_full first second is, look_exactly_if_near first second is)

pub returns-in_default : goal.returns-in_default
unfolding asked_of
returns-in_default c = with_meaning c.args.first.now c.args.second.now (search rules)

pub returns-in_default-parse : goal.returns-in_default-parse
unfolding asked_of
returns-in_default-parse c = with_meaning c.args.first.now c.args.second.now (search rules)

pub returns : goal.returns
unfolding asked_of
returns c = with_meaning c.args.first.now c.args.second.now (search rules)
