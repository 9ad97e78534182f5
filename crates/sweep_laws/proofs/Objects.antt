-- The two objects of a scene that has been read: each element's record belongs to its object by its offset, and is an entry where the object has
-- segments.
use Prim.Native.Nat.{ℕ, ◌+◌, ◌*◌, ◌<◌, ◌≤◌}
use native.Mathlib.Nat.{not-suc-le-zero}
use native.Mathlib.Omega.{arith}
use mathlib.Core.Path.{◌≡◌, refl, sym, ap, subst, ◌∙◌}
use mathlib.Core.HLevel.{is_prop→PathP}
use native.Mathlib.Bridge.{le_prop}
use native.Mathlib.Nat.{ℕ_set}
use mathlib.Core.Bool.{Bool, true, false, not, cond, beq}
use mathlib.Core.List.{List}
use lib.Dec.{T, T_prop, ltb}
use borrow.Author.Tests.{lt-ltb, le-ltb}
use Rattle.whole.proofs.Logic.{is_true}
use Rattle.scene.specs.declared.Shape.{Shape}
use Rattle.scene.specs.declared.Shape.TheVariants.{Points, Line, Region}
use Rattle.scene.specs.declared.Layout.{Layout}
use Rattle.scene.specs.declared.Scene.{Scene}
use Rattle.scene.specs.Read.{size, place, after, turned, IsObject, IsScene}
use Rattle.scene.specs.Conditions.{has_segments}
use Rattle.scene.proofs.Taken.{TakenScene, taken_scene, objects_read, f_taken, g_taken}
use Rattle.scene.proofs.Given.{GoodHalfsegment}
use Rattle.scene_segments.proofs.Elements.{half_good}
use Rattle.sweep_laws.specs.Swept.{object_of, is_first, total, Entry}

-- an object's records stand before what follows it
before_end : (l : Layout) (k : ℕ) → k < l.count → place l k < after l
before_end l k h = go l.shape
  where
    go : (x : Shape) → l.start + 2 + k * size x < l.start + 2 + l.count * size x + 1
    go Points = omega arith
    go Line = omega arith
    go Region = omega arith

-- and at one offset stands one of them only
place_once : (l : Layout) (i k : ℕ) → place l i ≡ place l k → i ≡ k
place_once l i k = go l.shape
  where
    go : (x : Shape) → l.start + 2 + i * size x ≡ l.start + 2 + k * size x → i ≡ k
    go Points e = omega arith
    go Line e = omega arith
    go Region e = omega arith

module _ (s : List ℕ) (sc : Scene) where
  -- an entry is the record of one element only
  pub entry_once : (at : ℕ) → IsProp (Entry s sc at)
  entry_once at x y = λ i. record {
    index = same i;
    within = is_prop→PathP (λ i. same i < l.count) (λ i. le_prop) x.within y.within i;
    has_segments_lem = T_prop (has_segments l.shape) x.has_segments_lem y.has_segments_lem i;
    is_place = is_prop→PathP (λ i. at ≡ place l (same i)) (λ i. ℕ_set at (place l (same i))) x.is_place y.is_place i;
  }
    where
      l : Layout
      l = object_of s sc (is_first s sc at)

      same : x.index ≡ y.index
      same = place_once l x.index y.index (sym x.is_place ∙ y.is_place)

  -- an object with events has segments
  pub has : (first : Bool) (k : ℕ) → k < total s sc first → (has_segments (object_of s sc first).shape ≡ true) × (k < (object_of s sc first).count)
  has first k h = go (has_segments (object_of s sc first).shape) refl h
    where
      go : (b : Bool) → has_segments (object_of s sc first).shape ≡ b → k < cond b (object_of s sc first).count 0 → (has_segments (object_of s sc first).shape ≡ true) × (k < (object_of s sc first).count)
      go true e h = (e, h)
      go false e h = absurd (not-suc-le-zero h)

  module _ (is : IsScene s sc) where
    pub read : (first : Bool) → IsObject s (object_of s sc first)
    read true = (objects_read (taken_scene s sc is)).0
    read false = (objects_read (taken_scene s sc is)).1

    pub good : (first : Bool) (k : ℕ) → k < total s sc first → GoodHalfsegment s (place (object_of s sc first) k)
    good first k h = half_good s (object_of s sc first) (read first) k (has first k h).1 (has first k h).0

    pub owned : (first : Bool) (k : ℕ) → k < total s sc first → is_first s sc (place (object_of s sc first) k) ≡ first
    owned first k h = go (turned sc) refl first h taken.second_taken.object.starts
      where
        taken : TakenScene s sc
        taken = taken_scene s sc is

        go : (b : Bool) → turned sc ≡ b → (first : Bool) → k < total s sc first → (cond b sc.f sc.g).start ≡ after (cond b sc.g sc.f)
            → not (beq (ltb (place (object_of s sc first) k) (cond b sc.f sc.g).start) (turned sc)) ≡ first
        go true e true h starts = rw (e, le-ltb (place sc.f k) sc.f.start (omega arith))
        go true e false h starts = rw (e, lt-ltb (place sc.g k) sc.f.start (omega (arith, before_end sc.g k (has false k h).1)))
        go false e true h starts = rw (e, lt-ltb (place sc.f k) sc.g.start (omega (arith, before_end sc.f k (has true k h).1)))
        go false e false h starts = rw (e, le-ltb (place sc.g k) sc.g.start (omega arith))

    pub entry : (first : Bool) (k : ℕ) → k < total s sc first → Entry s sc (place (object_of s sc first) k)
    entry first k h = record {
      index = k;
      within = subst (λ (b : Bool). k < (object_of s sc b).count) (sym own) (has first k h).1;
      has_segments_lem = subst (λ (b : Bool). T (has_segments (object_of s sc b).shape)) (sym own) (is_true _ (has first k h).0);
      is_place = ap (λ (b : Bool). place (object_of s sc b) k) (sym own);
    }
      where
        own : is_first s sc (place (object_of s sc first) k) ≡ first
        own = owned first k h

    pub few_elements : (first : Bool) → (object_of s sc first).count ≤ 1024
    few_elements true = (f_taken (taken_scene s sc is)).few
    few_elements false = (g_taken (taken_scene s sc is)).few

    pub few_events : (first : Bool) → total s sc first ≤ 1024
    few_events first = go (has_segments (object_of s sc first).shape)
      where
        go : (b : Bool) → cond b (object_of s sc first).count 0 ≤ 1024
        go true = few_elements first
        go false = omega arith
