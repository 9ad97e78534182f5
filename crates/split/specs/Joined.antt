-- 10 to 14 of two objects, each by itself: what is found of one, at the places of the scene's bytes, and which of two refusals comes first.
use Rattle.std.specs.Prelude.{ℕ, ◌+◌, cond, ltb, Ok, Err}
use Rattle.scene.specs.declared.Refusal.{Refusal}
use Rattle.scene.specs.Read.{CheckedObject, number_of}
use Rattle.check_verdict.specs.Refusals.{Verdict}

-- of an object whose bytes begin at d of the scene's
abbrev pub found : ℕ → CheckedObject → Verdict
found d (Ok l) = Ok tt
found d (Err r) = Err (record { reason = r.reason; place = r.place + d })

-- "8 to 17 in order, each over the whole scene": the lower number, and of two that are equal the first object's
abbrev pub earlier : Refusal → Refusal → Refusal
earlier r q = cond (ltb (number_of q.reason) (number_of r.reason)) q r

abbrev pub sooner : Verdict → Verdict → Verdict
sooner (Ok tt) v = v
sooner (Err r) (Ok tt) = Err r
sooner (Err r) (Err q) = Err (earlier r q)
