-- A walk in portions: what it shows at the end, how portions add up, and how many calls there are.
use Prim.Native.Nat.{ℕ, zero, suc, ◌+◌, ◌*◌, ◌-◌, ◌/◌, ◌≤◌, ◌<◌, min}
use native.Mathlib.Omega.{arith}
use native.Mathlib.Nat.{div-lt_iff_lt-mul, le-div_iff_mul-le}
use mathlib.Core.Path.{◌≡◌, ap, ◌∙◌}
use mathlib.Core.Bool.{true, false}
use mathlib.Core.List.{List, []}
use lib.Dec.{leb}
use lib.ListN.{length, drop, drop_of_length-le, length-drop}
use lib.Seq.{take_all}
use borrow.Author.Tests.{leb-true, le-leb, lt-leb}
use Rattle.scene.specs.declared.Scene.{Scene}
use Rattle.check_verdict.proofs.Laws.{SoundScene}
use Rattle.flags.specs.Flags.{flags_of_f, flags_of_g, pack}
use Rattle.flags.specs.Elements.{elements_of}
use Rattle.flags.proofs.Marks.{gather}
use Rattle.walk_events.specs.Events.{events, in_f, in_g}
use Rattle.walk_events.specs.Taking.{taken_flags}
use Rattle.walk_events.specs.Portions.{total, found_f, found_g, portion, after}
use Rattle.walk_events.proofs.Merged.{all_of_f, all_of_g}
use Rattle.walk_events.proofs.AllTaken.{all_flags}

module _ (s : List ℕ) (sc : Scene) where
  -- "The state says done exactly when no event remains"
  pub done_remains : (n : ℕ) → leb (total s sc) n ≡ true → drop n (events s sc) ≡ []
  done_remains n e = drop_of_length-le (events s sc) (leb-true (total s sc) n e)

  pub remains_done : (n : ℕ) → drop n (events s sc) ≡ [] → leb (total s sc) n ≡ true
  remains_done n e = le-leb (total s sc) n (let h = length-drop n (events s sc) in let k : length (drop n (events s sc)) ≡ 0 = ap length e in omega arith)

  -- a portion takes no more than there are, and two add up to one
  pub portion_few : (k n : ℕ) → portion s sc k n ≤ total s sc
  portion_few k n = omega arith

  pub portions_add : (k m n : ℕ) → portion s sc m (portion s sc k n) ≡ portion s sc (k + m) n
  portions_add k m n = omega arith

  -- the calls so far
  pub after_calls : (k calls : ℕ) → after s sc k calls ≡ min (calls * k) (total s sc)
  after_calls k zero = omega arith
  after_calls k (suc calls) = rw (after_calls k calls) (omega arith)

  -- "A scene of n events, in portions of k above zero, is done after n divided by k calls, rounded up": after so many, and not before
  -- rounded up: c is enough exactly when (n + (k - 1)) / k is at most c
  pub done_after : (k calls : ℕ) → 0 < k → (total s sc + (k - 1)) / k ≤ calls → leb (total s sc) (after s sc k calls) ≡ true
  done_after k calls p h =
      let l : (total s sc + (k - 1)) / k < suc calls = omega arith in
      let m : total s sc + (k - 1) < suc calls * k = (div-lt_iff_lt-mul p).0 l in
      le-leb (total s sc) (after s sc k calls) (rw (after_calls k calls) (omega arith))

  pub not_done_before : (k calls : ℕ) → 0 < k → calls < (total s sc + (k - 1)) / k → leb (total s sc) (after s sc k calls) ≡ false
  not_done_before k calls p h =
      let l : suc calls ≤ (total s sc + (k - 1)) / k = omega arith in
      let m : suc calls * k ≤ total s sc + (k - 1) = (le-div_iff_mul-le p).0 l in
      lt-leb (total s sc) (after s sc k calls) (rw (after_calls k calls) (omega arith))

  -- the flags after all events, and after any number that is no less
  module _ (o : SoundScene s sc) (n : ℕ) (h : total s sc ≤ n) where
    pub all_f_lem : found_f s sc n ≡ pack (flags_of_f (elements_of s sc.f) (elements_of s sc.g))
    all_f_lem =
        ap (λ l. gather (taken_flags true s sc.f sc.g) (in_f l)) (take_all n (events s sc) h)
        ∙ ap (gather (taken_flags true s sc.f sc.g)) (all_of_f s sc)
        ∙ all_flags true sc.g o.f_sound

    pub all_g_lem : found_g s sc n ≡ pack (flags_of_g (elements_of s sc.f) (elements_of s sc.g))
    all_g_lem =
        ap (λ l. gather (taken_flags false s sc.g sc.f) (in_g l)) (take_all n (events s sc) h)
        ∙ ap (gather (taken_flags false s sc.g sc.f)) (all_of_g s sc)
        ∙ all_flags false sc.f o.g_sound
