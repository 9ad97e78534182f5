-- What is promised of a whole walk: portions add up, the number of calls, what alters nothing, when it is done, the vectors at the end, and the windows of
-- each flag. proofs/Theorems.antt proves these over every ground that the beginning has laid.
use Rattle.std.specs.Prelude.{Ok, Err, ℕ, zero, suc, ◌+◌, ◌-◌, ◌/◌, ◌<◌, ◌≤◌, ◌≡◌, ◌↔◌, true, false, not, List, [], T, drop}
use Rattle.whole.specs.Count.{◌∈◌}
use Rattle.scene.specs.declared.Scene.{Scene}
use Rattle.scene.specs.Conditions.{check_scene}
use Rattle.flags.specs.Flags.{has_bit}
use Rattle.flags_vectors.specs.declared.Vectors.{Vectors}
use Rattle.flags_vectors.specs.Vectors.{these, vectors_of}
use Rattle.flags_masks.specs.declared.FlagMasks.{FlagMasks}
use Rattle.flags_masks.specs.Wanted.{masks_for}
use Rattle.walk_events.specs.Events.{events}
use Rattle.walk_events.specs.Taking.{own_tests}
use Rattle.walk_events.specs.Portions.{total, taken_f, taken_g, portion, after}
use Rattle.walk_events.specs.Windows.{Window, test_at}
use Rattle.walk.specs.declared.Walk.{Walk}
use Rattle.walk.specs.Walked.{WalkAnswer, shown, done, portion_of, found_at, state_at}

-- another portion, of a walk that was not refused
abbrev pub then_portion : List ℕ → ℕ → WalkAnswer → WalkAnswer
then_portion g k (Err r) = Err r
then_portion g k (Ok w) = portion_of g w k

-- a number of calls, each of a portion of k
abbrev pub calls : List ℕ → (k : ℕ) → ℕ → WalkAnswer → WalkAnswer
calls g k zero w = w
calls g k (suc n) w = then_portion g k (calls g k n w)

-- n divided by k, rounded up
abbrev pub rounded_up : ℕ → ℕ → ℕ
rounded_up n k = (n + (k - 1)) / k

-- ---- the windows

-- "A wanted flag is clear until .., and set once ..": each wanted flag of either object lies in its window, and a flag that is not wanted is clear
module _ (s : List ℕ) (sc : Scene) (want : FlagMasks) where
  pub record InWindows (n : ℕ) (v : Vectors) : Type 0 where
    pub of_f_lem : (k : ℕ) → T (has_bit want.f k) → Window s sc.f (λ i. i ∈ taken_f s sc n) (test_at (own_tests true s sc.f sc.g) k) (has_bit v.f k)
    pub of_g_lem : (k : ℕ) → T (has_bit want.g k) → Window s sc.g (λ j. j ∈ taken_g s sc n) (test_at (own_tests false s sc.g sc.f) k) (has_bit v.g k)
    pub unwanted_f : (k : ℕ) → T (not (has_bit want.f k)) → has_bit v.f k ≡ false
    pub unwanted_g : (k : ℕ) → T (not (has_bit want.g k)) → has_bit v.g k ≡ false

-- ---- all of it

-- of the walk over the ground g of a scene, with these two masks of the caller's: in w it has taken n events
module _ (s : List ℕ) (wantF wantG : ℕ) (sc : Scene) (g : List ℕ) where
  abbrev pub want : FlagMasks
  want = masks_for (these wantF wantG) sc

  abbrev pub in_state : ℕ → Walk
  in_state = state_at s sc want

  pub record Promises (n : ℕ) : Type 0 where
    -- "takes that many or all that remain": the state is a function of the scene, the masks and the number of events taken, so portions add up
    pub goes : (k : ℕ) → portion_of g (in_state n) k ≡ Ok (in_state (portion s sc k n))
    pub add_up : (k m : ℕ) → then_portion g m (portion_of g (in_state n) k) ≡ portion_of g (in_state n) (k + m)
    -- "A portion of zero, or one after the end, alters nothing."
    pub zero_alters_nothing : portion_of g (in_state n) 0 ≡ Ok (in_state n)
    pub end_alters_nothing : (k : ℕ) → done (in_state n) ≡ true → portion_of g (in_state n) k ≡ Ok (in_state n)
    -- "The state says done exactly when no event remains"
    pub done_exactly : (done (in_state n) ≡ true) ↔ (drop n (events s sc) ≡ [])
    -- ".. is done .. with the vectors of the single call"
    pub single_call : done (in_state n) ≡ true → vectors_of s wantF wantG ≡ Ok (shown (in_state n))
    pub windows : InWindows s sc want n (found_at s sc want n)

  -- "A scene of n events, in portions of k above zero, is done after n divided by k calls, rounded up", and not before
  pub record Counts (k c : ℕ) : Type 0 where
    pub goes : calls g k c (Ok (in_state 0)) ≡ Ok (in_state (after s sc k c))
    pub done_then : (done (in_state (after s sc k c)) ≡ true) ↔ (rounded_up (total s sc) k ≤ c)

  pub record WalkHolds (w : Walk) : Type 0 where
    pub begins : w ≡ in_state 0
    pub each : (n : ℕ) → n ≤ total s sc → Promises n
    pub counts : (k c : ℕ) → 0 < k → Counts k c

-- of the answer of the beginning, with the buffer after it
abbrev pub WalkPromised : List ℕ → (wantF wantG : ℕ) → List ℕ → WalkAnswer → Type 0
WalkPromised s wantF wantG g (Err r) = Unit {0}
WalkPromised s wantF wantG g (Ok w) = (sc : Scene) × (check_scene s ≡ Ok sc) × WalkHolds s wantF wantG sc g w
