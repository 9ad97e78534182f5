-- A portion over any ground, and over that of a scene: as many events further, with the flags that they set.
use Rattle.std.specs.Prelude.{Ok}
use Prim.Native.Nat.{ℕ, zero, suc, ◌+◌, ◌-◌, ◌*◌, ◌≤◌, ◌<◌, min}
use native.Mathlib.Omega.{arith}
use mathlib.Core.Path.{◌≡◌, refl, sym, ap, ap₂, subst, ◌∙◌}
use mathlib.Core.Bool.{true, false, cond, ◌&&◌}
use mathlib.Core.List.{List, [], ◌∷◌, ◌++◌}
use lib.Bits.{bit_or}
use lib.Dec.{leb}
use lib.ListN.{length, get_or, take, drop, take-append-drop, length-append}
use lib.Seq.{take-add, drop-cons}
use borrow.Author.Tests.{leb-true, le-leb}
use Rattle.whole.specs.Count.{◌∈◌}
use Rattle.whole.proofs.Logic.{and_left, and_right, and_make, is_true, true_is, refute, in_left, in_right}
use Rattle.scene.specs.declared.Scene.{Scene}
use Rattle.scene.specs.Conditions.{indices}
use Rattle.flags.proofs.Marks.{gather, gather_append}
use Rattle.flags_meetings.specs.Keyed as met
use Rattle.flags_classes.specs.Marked as class
use Rattle.flags_masks.specs.declared.FlagMasks.{FlagMasks}
use Rattle.flags_masks.specs.Wanted.{only}
use Rattle.flags_vectors.proofs.Answered.{accepted}
use Rattle.walk_events.specs.Events.{Taken, f_alone, events, in_f, in_g}
use Rattle.walk_events.specs.Taking.{taken_flags}
use Rattle.walk_events.specs.Portions.{total, found_f, found_g, portion}
use Rattle.walk_events.proofs.Merged.{total_is}
use Rattle.walk_events.proofs.Standing.{in_f_append, in_g_append}
use Rattle.walk_flags.specs.OneTaken.{wanted_f, wanted_g}
use Rattle.walk_flags.proofs.Additive.{only_or}
use Rattle.walk.specs.declared.Walk.{Walk}
use Rattle.walk.specs.Ground.{of_f, of_g, event_marks, laid}
use Rattle.walk.specs.Walked.{WalkAnswer, byte_in, moved, is_over, at_fault, portion_of, state_at, GroundIs}
use Rattle.walk.proofs.Laid.{laid_length}
use Rattle.walk.proofs.Points.{few_elements}
use Rattle.walk.proofs.Settled.{gathered, settled_f, settled_g}

-- ---- of any state

module _ (g : List ℕ) (w : Walk) (n : ℕ) where
  abbrev on : WalkAnswer
  on = Ok (moved g w (w.taken + min n (w.events - w.taken)))

  -- one that does not fit the ground
  pub at_rest : (w.events ≤ 2048 → 4 * w.events ≤ length g → w.taken ≤ w.events → ⊥) → portion_of g w n ≡ at_fault
  unfolding portion_of
  at_rest h = ap (λ b. cond b on at_fault) (refute (is_over g w) λ t.
      let a = leb w.events 2048 in
      let b = leb (4 * w.events) (length g) in
      let c = leb w.taken w.events in
      let u = and_right a (b && c) t in
      h (leb-true w.events 2048 (true_is a (and_left a (b && c) t))) (leb-true (4 * w.events) (length g) (true_is b (and_left b c u))) (leb-true w.taken w.events (true_is c (and_right b c u))))

  pub goes_on : w.events ≤ 2048 → 4 * w.events ≤ length g → w.taken ≤ w.events → portion_of g w n ≡ Ok (moved g w (w.taken + min n (w.events - w.taken)))
  unfolding portion_of
  goes_on h k l = ap (λ b. cond b on at_fault) (true_is (is_over g w) (and_make (leb w.events 2048) (leb (4 * w.events) (length g) && leb w.taken w.events) (is_true (leb w.events 2048) (le-leb w.events 2048 h)) (and_make (leb (4 * w.events) (length g)) (leb w.taken w.events) (is_true (leb (4 * w.events) (length g)) (le-leb (4 * w.events) (length g) k)) (is_true (leb w.taken w.events) (le-leb w.taken w.events l)))))

-- ---- the bytes of events that are laid

module _ (s : List ℕ) (sc : Scene) (notes : List ℕ) (which : ℕ) (byte : Taken → ℕ) (is : (x : Taken) (l : List ℕ) → get_or (event_marks s sc notes x ++ l) which 0 ≡ byte x) (rest : List ℕ) where
  byte_at : (l : List Taken) (n : ℕ) → n < length l → get_or (laid s sc notes l ++ rest) (4 * n + which) 0 ≡ byte (get_or l n (f_alone 0))
  byte_at [] n h = absurd (omega (arith, h))
  byte_at (x ∷ l) zero h = let e : 4 * 0 + which ≡ which = omega arith in ap (λ i. get_or (laid s sc notes (x ∷ l) ++ rest) i 0) e ∙ is x (laid s sc notes l ++ rest)
  byte_at (x ∷ l) (suc n) h =
      let e : 4 * suc n + which ≡ suc (suc (suc (suc (4 * n + which)))) = omega arith in
      ap (λ i. get_or (laid s sc notes (x ∷ l) ++ rest) i 0) e ∙ byte_at l n (omega (arith, h))

  bytes_from : (l : List Taken) (k n : ℕ) → n + k ≤ length l → gather (λ m. get_or (laid s sc notes l ++ rest) (4 * m + which) 0) (indices k n) ≡ gathered byte (take k (drop n l))
  bytes_from l zero n h = refl
  bytes_from l (suc k) n h =
      ap₂ bit_or (byte_at l n (omega (arith, h))) (bytes_from l k (suc n) (omega (arith, h)))
      ∙ ap (λ m. gathered byte (take (suc k) m)) (sym (drop-cons l n (f_alone 0) (omega (arith, h))))

-- ---- over the ground of a scene

module _ {s : List ℕ} {sc : Scene} {before g : List ℕ} (ground : GroundIs s sc before g) where
  abbrev behind : List ℕ
  behind = drop (4 * total s sc) before

  byte_is : (which : ℕ) (byte : Taken → ℕ) → ((x : Taken) (l : List ℕ) → get_or (event_marks s sc ground.notes x ++ l) which 0 ≡ byte x)
      → (n k : ℕ) → n + k ≤ total s sc → byte_in g which n (n + k) ≡ gathered byte (take k (drop n (events s sc)))
  byte_is which byte is n k h =
      let e : n + k - n ≡ k = omega arith in
      ap₂ (λ (b : List ℕ) (i : ℕ). gather (λ m. get_or b (4 * m + which) 0) (indices i n)) ground.ground e
      ∙ bytes_from s sc ground.notes which byte is behind (events s sc) k n h

  -- the events that are new are events of the scene
  new_ones : (n k : ℕ) (x : Taken) → x ∈ take k (drop n (events s sc)) → x ∈ events s sc
  new_ones n k x m =
      subst (λ (l : List Taken). x ∈ l) (take-append-drop n (events s sc))
      (in_right (take n (events s sc)) (subst (λ (l : List Taken). x ∈ l) (take-append-drop k (drop n (events s sc))) (in_left (drop k (drop n (events s sc))) m)))

  module _ (want : FlagMasks) (n k : ℕ) (h : n + k ≤ total s sc) where
    abbrev fresh : List Taken
    fresh = take k (drop n (events s sc))

    found_more_f : bit_or (only want.f (found_f s sc n)) (wanted_f sc.f.shape sc.g.shape want (met.named (byte_in g 0 n (n + k))) (class.named (byte_in g 1 n (n + k)))) ≡ only want.f (found_f s sc (n + k))
    found_more_f =
        ap (bit_or (only want.f (found_f s sc n)))
        (ap₂ (λ a b. wanted_f sc.f.shape sc.g.shape want (met.named a) (class.named b))
        (byte_is 0 (λ x. (of_f s sc ground.notes x).met) (λ x l. refl) n k h) (byte_is 1 (λ x. (of_f s sc ground.notes x).classes) (λ x l. refl) n k h)
        ∙ settled_f (accepted s sc ground.taken) ground.noted want fresh (new_ones n k))
        ∙ sym (only_or want.f (found_f s sc n) (gather (taken_flags true s sc.f sc.g) (in_f fresh)))
        ∙ ap (only want.f) (sym (ap (λ l. gather (taken_flags true s sc.f sc.g) (in_f l)) (take-add n k (events s sc)) ∙ ap (gather (taken_flags true s sc.f sc.g)) (in_f_append (take n (events s sc)) fresh) ∙ gather_append (taken_flags true s sc.f sc.g) (in_f (take n (events s sc))) (in_f fresh)))

    found_more_g : bit_or (only want.g (found_g s sc n)) (wanted_g sc.f.shape sc.g.shape want (met.named (byte_in g 2 n (n + k))) (class.named (byte_in g 3 n (n + k)))) ≡ only want.g (found_g s sc (n + k))
    found_more_g =
        ap (bit_or (only want.g (found_g s sc n)))
        (ap₂ (λ a b. wanted_g sc.f.shape sc.g.shape want (met.named a) (class.named b))
        (byte_is 2 (λ x. (of_g s sc ground.notes x).met) (λ x l. refl) n k h) (byte_is 3 (λ x. (of_g s sc ground.notes x).classes) (λ x l. refl) n k h)
        ∙ settled_g (accepted s sc ground.taken) ground.noted want fresh (new_ones n k))
        ∙ sym (only_or want.g (found_g s sc n) (gather (taken_flags false s sc.g sc.f) (in_g fresh)))
        ∙ ap (only want.g) (sym (ap (λ l. gather (taken_flags false s sc.g sc.f) (in_g l)) (take-add n k (events s sc)) ∙ ap (gather (taken_flags false s sc.g sc.f)) (in_g_append (take n (events s sc)) fresh) ∙ gather_append (taken_flags false s sc.g sc.f) (in_g (take n (events s sc))) (in_g fresh)))

    moved_is : moved g (state_at s sc want n) (n + k) ≡ state_at s sc want (n + k)
    moved_is = λ x. record {
      f = sc.f.shape;
      g = sc.g.shape;
      is_turned = (state_at s sc want n).is_turned;
      want = want;
      events = total s sc;
      taken = n + k;
      found = record { f = found_more_f x; g = found_more_g x };
    }

  few_events : total s sc ≤ 2048
  few_events = omega (arith, total_is s sc, few_elements s sc ground.taken)

  room : 4 * total s sc ≤ length g
  room = omega (arith, ap length ground.ground, length-append (laid s sc ground.notes (events s sc)) behind, laid_length s sc ground.notes (events s sc))

  pub portion_goes : (want : FlagMasks) (n : ℕ) → n ≤ total s sc → (k : ℕ) → portion_of g (state_at s sc want n) k ≡ Ok (state_at s sc want (portion s sc k n))
  portion_goes want n h k =
      let few : n + min k (total s sc - n) ≤ total s sc = omega (arith, h) in
      let e : n + min k (total s sc - n) ≡ portion s sc k n = omega (arith, h) in
      goes_on g (state_at s sc want n) k few_events room h
      ∙ ap (λ (w : Walk). Ok w) (moved_is want n (min k (total s sc - n)) few ∙ ap (state_at s sc want) e)
