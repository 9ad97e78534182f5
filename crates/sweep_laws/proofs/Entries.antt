-- The entries of the status: each can be read where it stands in the bytes. And what holds of them by their places, as the loops find it, holds of
-- them as members of a list.
use Prim.Native.Nat.{ℕ, suc, ◌+◌, ◌-◌, ◌<◌, ◌≤◌}
use native.Mathlib.Decide.{ℕ_discrete}
use native.Mathlib.Omega.{arith}
use mathlib.Core.Path.{◌≡◌, refl, sym, ap, ap₂, subst, ◌∙◌}
use mathlib.Core.Bool.{Bool, true, false, not, ◌&&◌, beq}
use mathlib.Core.List.{List, [], ◌∷◌}
use lib.Dec.{T}
use lib.ListN.{length, get_or, take}
use lib.Seq.{take-suc}
use native.Mathlib.Numerals.{add-one}
use Rattle.whole.specs.Count.{bit, count}
use Rattle.whole.specs.Decides.{Decides}
use Rattle.whole.proofs.Logic.{in_at}
use Rattle.whole.proofs.Deciding.{by_test_lem, same_as}
use Rattle.whole.proofs.Parity.{◌⊻◌, xor_false, parity, parity_nil, parity_cons, parity_append}
use Rattle.plane.specs.declared.Segment.{Segment}
use Rattle.scene.specs.declared.Scene.{Scene}
use Rattle.scene.specs.Read.{place, segment_at, ia_at, given_second, IsScene}
use Rattle.scene.specs.Conditions.{has_segments, is_region}
use Rattle.scene.proofs.Taken.{TakenScene, taken_scene, f_taken, g_taken, scene_short}
use Rattle.scene.proofs.Given.{GoodHalfsegment, good_halfsegment, ia_there}
use Rattle.sweep_laws.specs.Status.{AtPlace, BelowPlace}
use Rattle.sweep_laws.specs.Swept.{object_of, is_first, strand_of, strand_at, Entry}
use Rattle.sweep_laws.specs.Held.{Placed, Readable, Held}
use Rattle.sweep_laws.proofs.Objects.{few_elements}

-- ---- an entry's record

module _ (s : List ℕ) (sc : Scene) where
  good : TakenScene s sc → (b : Bool) (i : ℕ) → i < (object_of s sc b).count → T (has_segments (object_of s sc b).shape) → GoodHalfsegment s (place (object_of s sc b) i)
  good t true i h e = good_halfsegment (f_taken t) i h e
  good t false i h e = good_halfsegment (g_taken t) i h e

  with_ia : TakenScene s sc → (b : Bool) (i : ℕ) → i < (object_of s sc b).count → T (is_region (object_of s sc b).shape) → place (object_of s sc b) i + 19 ≤ length s
  with_ia t true i h e = ia_there (f_taken t) i h e
  with_ia t false i h e = ia_there (g_taken t) i h e

  module _ (is : IsScene s sc) where
    pub entry_readable : {at : ℕ} → Entry s sc at → GoodHalfsegment s at
    entry_readable {at} e = subst (GoodHalfsegment s) (sym e.is_place) (good (taken_scene s sc is) (is_first s sc at) e.index e.within e.has_segments_lem)

    pub entry_ia : {at : ℕ} {first : Bool} → is_first s sc at ≡ first → Entry s sc at → T (is_region (object_of s sc first).shape) → at + 19 ≤ length s
    entry_ia {at} q e r =
        subst (λ (m : ℕ). m + 19 ≤ length s) (sym e.is_place)
        (with_ia (taken_scene s sc is) (is_first s sc at) e.index e.within (subst (λ (b : Bool). T (is_region (object_of s sc b).shape)) (sym q) r))

    -- it is the record of an element of its object
    pub entry_placed : {at : ℕ} {first : Bool} → is_first s sc at ≡ first → Entry s sc at → (s' : List ℕ) → Placed (object_of s' sc first) at
    entry_placed {at} {first} q e s' = record {
      index = e.index;
      few = omega (arith, e.within, few_elements s sc is (is_first s sc at));
      is_place = e.is_place ∙ ap (λ (b : Bool). place (object_of s sc b) e.index) q ∙ same first;
    }
      where
        same : (b : Bool) → place (object_of s sc b) e.index ≡ place (object_of s' sc b) e.index
        same true = refl
        same false = refl

    -- 16 bits hold its offset
    pub entry_small : {at : ℕ} → Entry s sc at → at < 65536
    entry_small e = omega (arith, (entry_readable e).there, scene_short s sc (taken_scene s sc is))

-- nor are more bits asked for where the second object starts
pub start_small : (s : List ℕ) (sc : Scene) → IsScene s sc → (given_second sc).start < 65536
start_small s sc is = let t = taken_scene s sc is in omega (arith, t.second_taken.object.starts, t.first_taken.ends, scene_short s sc t)

-- the strand of an entry of the same object, with the same segment and ia
pub same_strand : (s : List ℕ) (sc : Scene) (first : Bool) (at e : ℕ) → is_first s sc e ≡ first → segment_at s e ≡ segment_at s at
    → (is_region (object_of s sc first).shape && ia_at s e) ≡ (is_region (object_of s sc first).shape && ia_at s at) → strand_at s sc e ≡ strand_of s sc first at
same_strand s sc first at e q p r = ap (λ (b : Bool). strand_of s sc b e) q ∙ (λ i. record { first = first; segment = p i; ia = r i })

-- a test of two segments, as it was made of them
pub tested : (f : Segment → Segment → Bool) {u t x y : Segment} {r : Bool} → r ≡ f u t → u ≡ x → t ≡ y → Decides (T (f x y)) r
tested f k p q = by_test_lem (k ∙ ap₂ f p q)

-- ---- the status

module _ {s : List ℕ} {sc : Scene} {entries : List ℕ} (h : Held s sc entries) where
  pub held_entry : (i : ℕ) → i < length entries → Entry s sc (get_or entries i 0)
  held_entry i b = h.each (get_or entries i 0) (in_at entries 0 i b)

  pub held_readable : IsScene s sc → Readable s entries
  held_readable is = record { each = λ i b. entry_readable s sc is (held_entry i b) }

-- ---- what holds of each place, from one end of a row or from the other

pub one_more : {P : ℕ → Type 0} (k : ℕ) → ((i : ℕ) → i < k → P i) → P k → (i : ℕ) → i < k + 1 → P i
one_more {P} k old new i h = go (ℕ_discrete k i)
  where
    go : Dec (k ≡ i) → P i
    go (yes e) = subst P e new
    go (no e) = old i (omega arith)

pub one_lower : {P : ℕ → Type 0} (k n : ℕ) → ((i : ℕ) → k ≤ i → i < n → P i) → P (k - 1) → (i : ℕ) → k - 1 ≤ i → i < n → P i
one_lower {P} k n old new i h l = go (ℕ_discrete (k - 1) i)
  where
    go : Dec (k - 1 ≡ i) → P i
    go (yes e) = subst P e new
    go (no e) = old i (omega arith) l

-- ---- tests of Booleans

pub and_none : (b x y : Bool) → b ≡ false → (b && x) ≡ (b && y)
and_none b x y e = ap (λ (c : Bool). c && x) e ∙ sym (ap (λ (c : Bool). c && y) e)

-- ---- how many of the first entries are of each object, and the parity

-- each is of one object or of the other
pub own_and_other : (object : Bool) (f : ℕ → Bool) (l : List ℕ) → count (λ e. beq object (f e)) l + count (λ e. beq (not object) (f e)) l ≡ length l
own_and_other object f [] = refl
own_and_other object f (e ∷ l) = omega (arith, own_and_other object f l, one object (f e))
  where
    one : (a b : Bool) → bit (beq a b) + bit (beq (not a) b) ≡ 1
    one true true = refl
    one true false = refl
    one false true = refl
    one false false = refl

xor_is : (a b : Bool) → not (beq a b) ≡ a ⊻ b
xor_is true true = refl
xor_is true false = refl
xor_is false true = refl
xor_is false false = refl

pub parity_one : (f : ℕ → Bool) (l : List ℕ) (i : ℕ) → i < length l → {odd : Bool} → odd ≡ parity f (take i l)
    → not (beq odd (f (get_or l i 0))) ≡ parity f (take (i + 1) l)
parity_one f l i h {odd} e =
    xor_is odd (f (get_or l i 0))
    ∙ ap₂ ◌⊻◌ e (sym (xor_false (f (get_or l i 0))) ∙ ap (λ (b : Bool). f (get_or l i 0) ⊻ b) (sym (parity_nil f)) ∙ sym (parity_cons f (get_or l i 0) []))
    ∙ sym (parity_append f (take i l) (get_or l i 0 ∷ []))
    ∙ ap (parity f) (sym (take-suc l i 0 h) ∙ ap (λ (m : ℕ). take m l) (sym (add-one i)))

-- ---- the entries beside a place

module _ (l : List ℕ) (k : ℕ) (P : ℕ → Type 0) where
  pub by_below : {r : Bool} (i : ℕ) → suc i ≡ k → Decides (P (get_or l i 0)) r → Decides (BelowPlace l k P) r
  by_below i e = same_as (λ p j q. subst (λ (m : ℕ). P (get_or l m 0)) (omega arith) p) (λ p. p i e)

  pub by_at : {r : Bool} → k < length l → Decides (P (get_or l k 0)) r → Decides (AtPlace l k P) r
  by_at h = same_as (λ p g. p) (λ p. p h)
