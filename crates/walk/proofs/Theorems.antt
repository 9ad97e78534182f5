-- The theorems on a whole walk, over every ground that the beginning has laid.
use Rattle.std.specs.Prelude.{Ok, Err}
use Prim.Native.Nat.{ℕ, zero, suc, ◌+◌, ◌*◌, ◌<◌, ◌≤◌}
use native.Mathlib.Omega.{arith}
use native.Mathlib.Decide.{dec_lt}
use mathlib.Core.Path.{◌≡◌, refl, sym, ap, ap₂, subst, ◌∙◌}
use mathlib.Core.Bool.{Bool, true, false, not, cond, ◌&&◌, true≢false, and-true, and-false}
use mathlib.Core.List.{List, [], ◌∷◌}
use lib.Dec.{T, leb, eqb}
use lib.ListN.{length}
use borrow.Author.Tests.{leb-true, le-leb, eq-eqb, eqb-true}
use Rattle.whole.specs.Count.{◌∈◌}
use Rattle.whole.proofs.Logic.{is_true, true_is, false_is, same_test}
use Rattle.scene.specs.declared.Reason.TheVariants.{StrayFlag, NoRoom}
use Rattle.scene.specs.declared.Scene.{Scene}
use Rattle.scene.specs.Conditions.{rule, check_scene}
use Rattle.scene.proofs.Outcomes.{same_taken, never_taken}
use Rattle.check_verdict.proofs.Laws.{sound_scene}
use Rattle.flags.specs.Flags.{has_bit}
use Rattle.flags.proofs.Bits.{and_bit}
use Rattle.flags_masks.specs.declared.FlagMasks.{FlagMasks}
use Rattle.flags_masks.specs.Wanted.{masks_for, only, vector_of_f, vector_of_g}
use Rattle.flags_vectors.specs.Vectors.{given_vectors, vectors_in, these, stray_wanted, check_vectors, answer_of, vectors_of}
use Rattle.flags_vectors.proofs.Answered.{accepted}
use Rattle.walk_events.specs.Portions.{total, taken_f, taken_g, found_f, found_g, is_done, portion, after}
use Rattle.walk_events.specs.Taking.{own_tests}
use Rattle.walk_events.specs.Windows.{Window, test_at}
use Rattle.walk_events.proofs.Portioned.{done_remains, remains_done, portion_few, portions_add, done_after, not_done_before, all_f_lem, all_g_lem}
use Rattle.walk_events.proofs.Windows.{window_of_f, window_of_g}
use Rattle.walk.specs.declared.Walk.{Walk}
use Rattle.walk.specs.Walked.{WalkAnswer, GroundIs, LaidFor, GroundAfter, shown, done, portion_of, found_at, state_at, begun_as}
use Rattle.walk.proofs.Portioning.{portion_goes}
use Rattle.walk.specs.Theorems.{then_portion, calls, rounded_up, InWindows, Promises, Counts, WalkPromised}

-- ---- the windows

wanted : (v mask k : ℕ) → T (has_bit mask k) → has_bit v k ≡ has_bit (only mask v) k
wanted v mask k h = sym (and_bit v mask k ∙ ap (λ b. has_bit v k && b) (true_is (has_bit mask k) h) ∙ and-true (has_bit v k))

unwanted : (v mask k : ℕ) → T (not (has_bit mask k)) → has_bit (only mask v) k ≡ false
unwanted v mask k h = and_bit v mask k ∙ ap (λ b. has_bit v k && b) (false_is (has_bit mask k) h) ∙ and-false (has_bit v k)

module _ {s : List ℕ} {sc : Scene} (chk : check_scene s ≡ Ok sc) (want : FlagMasks) (n : ℕ) where
  in_windows : InWindows s sc want n (found_at s sc want n)
  in_windows = record {
    of_f_lem = λ k h.
        subst (λ (b : Bool). Window s sc.f (λ i. i ∈ taken_f s sc n) (test_at (own_tests true s sc.f sc.g) k) b) (wanted (found_f s sc n) want.f k h)
        (window_of_f (accepted s sc chk) n k);
    of_g_lem = λ k h.
        subst (λ (b : Bool). Window s sc.g (λ j. j ∈ taken_g s sc n) (test_at (own_tests false s sc.g sc.f) k) b) (wanted (found_g s sc n) want.g k h)
        (window_of_g (accepted s sc chk) n k);
    unwanted_f = λ k h. unwanted (found_f s sc n) want.f k h;
    unwanted_g = λ k h. unwanted (found_g s sc n) want.g k h;
  }

-- ---- all of it

module _ (s : List ℕ) (wantF wantG : ℕ) (sc : Scene) {before : List ℕ} (g : List ℕ) (ground : GroundIs s sc before g) where
  abbrev want : FlagMasks
  want = masks_for (these wantF wantG) sc

  abbrev state : ℕ → Walk
  state = state_at s sc want

  goes : (n : ℕ) → n ≤ total s sc → (k : ℕ) → portion_of g (state n) k ≡ Ok (state (portion s sc k n))
  goes n h k = portion_goes ground want n h k

  done_is : (n : ℕ) → n ≤ total s sc → done (state n) ≡ is_done s sc n
  done_is n h =
      same_test (eqb n (total s sc)) (is_done s sc n) (λ t. let e = eqb-true n (total s sc) (true_is (eqb n (total s sc)) t) in is_true (is_done s sc n) (le-leb (total s sc) n (omega (arith, e))))
      (λ t. let l = leb-true (total s sc) n (true_is (is_done s sc n) t) in is_true (eqb n (total s sc)) (eq-eqb n (total s sc) (omega (arith, l, h))))

  stays : (n k : ℕ) → n ≤ total s sc → portion s sc k n ≡ n → portion_of g (state n) k ≡ Ok (state n)
  stays n k h e = goes n h k ∙ ap (λ m. Ok (state m)) e

  -- "with the vectors of the single call"
  single_call : check_vectors s (these wantF wantG) ≡ Ok sc → (n : ℕ) → n ≤ total s sc → done (state n) ≡ true → vectors_of s wantF wantG ≡ Ok (shown (state n))
  unfolding vectors_of answer_of vector_of_f vector_of_g
  single_call checked n few d = rw checked (ap Ok (sym end))
    where
      end : given_vectors sc (found_at s sc want n) ≡ vectors_in s sc (these wantF wantG)
      end =
          let o = sound_scene (rule StrayFlag (stray_wanted (these wantF wantG)) ∷ []) [] s sc checked in
          let h = leb-true (total s sc) n (sym (done_is n few) ∙ d) in
          ap₂ (λ (f g : ℕ). given_vectors sc (record { f = only want.f f; g = only want.g g })) (all_f_lem s sc o n h) (all_g_lem s sc o n h)

  promises : check_vectors s (these wantF wantG) ≡ Ok sc → (n : ℕ) → n ≤ total s sc → Promises s wantF wantG sc g n
  promises checked n h = record {
    goes = goes n h;
    add_up = λ k m.
        ap (then_portion g m) (goes n h k)
        ∙ goes (portion s sc k n) (portion_few s sc k n) m
        ∙ ap (λ x. Ok (state x)) (portions_add s sc k m n)
        ∙ sym (goes n h (k + m));
    zero_alters_nothing = stays n 0 h (omega (arith, h));
    end_alters_nothing = λ k d. stays n k h (let e = leb-true (total s sc) n (sym (done_is n h) ∙ d) in omega (arith, e, h));
    done_exactly = (λ d. done_remains s sc n (sym (done_is n h) ∙ d), λ e. done_is n h ∙ remains_done s sc n e);
    single_call = single_call checked n h;
    windows = in_windows ground.taken want n;
  }

  -- ---- calls

  after_few : (k c : ℕ) → after s sc k c ≤ total s sc
  after_few k zero = omega arith
  after_few k (suc c) = portion_few s sc k (after s sc k c)

  after_calls : (k c : ℕ) → calls g k c (Ok (state 0)) ≡ Ok (state (after s sc k c))
  after_calls k zero = refl
  after_calls k (suc c) = ap (then_portion g k) (after_calls k c) ∙ goes (after s sc k c) (after_few k c) k

  counts : (k c : ℕ) → 0 < k → Counts s wantF wantG sc g k c
  counts k c h = record { goes = after_calls k c; done_then = (to, from) }
    where
      says : done (state (after s sc k c)) ≡ is_done s sc (after s sc k c)
      says = done_is (after s sc k c) (after_few k c)

      to : done (state (after s sc k c)) ≡ true → rounded_up (total s sc) k ≤ c
      to d = go (dec_lt c (rounded_up (total s sc) k))
        where
          go : Dec (c < rounded_up (total s sc) k) → rounded_up (total s sc) k ≤ c
          go (yes l) = absurd (true≢false (sym d ∙ says ∙ not_done_before s sc k c h l))
          go (no l) = omega arith

      from : rounded_up (total s sc) k ≤ c → done (state (after s sc k c)) ≡ true
      from l = says ∙ done_after s sc k c h l

-- of a scene that the beginning takes
module _ (s : List ℕ) (wantF wantG : ℕ) (sc : Scene) (checked : check_vectors s (these wantF wantG) ≡ Ok sc) (before after : List ℕ) where
  pub promised : (r : WalkAnswer) → r ≡ begun_as s sc (masks_for (these wantF wantG) sc) (length before) → LaidFor s sc before after r → WalkPromised s wantF wantG after r
  promised (Err r) e g = tt
  promised (Ok w) e g = by (leb (4 * (sc.f.count + sc.g.count)) (length before)) e
    where
      begun : WalkAnswer
      begun = Ok (state_at s sc (masks_for (these wantF wantG) sc) 0)

      short : WalkAnswer
      short = Err (record { reason = NoRoom; place = 0 })

      by : (b : Bool) → Ok w ≡ cond b begun short → WalkPromised s wantF wantG after (Ok w)
      by false e = absurd (never_taken (sym e))
      by true e = (sc, g.taken, record { begins = same_taken e; each = promises s wantF wantG sc after g checked; counts = counts s wantF wantG sc after g })

pub after_begun : (s : List ℕ) (sc : Scene) (before after : List ℕ) (r : WalkAnswer) → LaidFor s sc before after r → GroundAfter s before after r
after_begun s sc before after (Err r) g = g
after_begun s sc before after (Ok w) g = (sc, g)
