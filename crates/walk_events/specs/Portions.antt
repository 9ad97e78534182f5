-- A walk that may be put down: what is known after n events, and how many are taken after a portion. Both are functions of the number of events taken.
use Rattle.std.specs.Prelude.{ℕ, zero, suc, ◌+◌, min, Bool, true, false, List, leb, length, take}
use Rattle.scene.specs.declared.Scene.{Scene}
use Rattle.flags.proofs.Marks.{gather}
use Rattle.walk_events.specs.Events.{events, in_f, in_g}
use Rattle.walk_events.specs.Taking.{taken_flags}

module _ (s : List ℕ) (sc : Scene) where
  -- "a scene of n events"
  abbrev pub total : ℕ
  total = length (events s sc)

  -- the elements of F, and of G, in the first n events
  abbrev pub taken_f : ℕ → List ℕ
  taken_f n = in_f (take n (events s sc))

  abbrev pub taken_g : ℕ → List ℕ
  taken_g n = in_g (take n (events s sc))

  -- and the flags that they set
  abbrev pub found_f : ℕ → ℕ
  found_f n = gather (taken_flags true s sc.f sc.g) (taken_f n)

  abbrev pub found_g : ℕ → ℕ
  found_g n = gather (taken_flags false s sc.g sc.f) (taken_g n)

  -- "The state says done exactly when no event remains"
  abbrev pub is_done : ℕ → Bool
  is_done n = leb total n

  -- "each call is told how many at most, takes that many or all that remain": k more than n
  abbrev pub portion : ℕ → ℕ → ℕ
  portion k n = min (n + k) total

  -- a number of calls from the beginning, each of a portion of k
  abbrev pub after : ℕ → ℕ → ℕ
  after k zero = 0
  after k (suc calls) = portion k (after k calls)
