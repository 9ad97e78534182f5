-- Of what is left of two objects, an element whose point has a lower key than all of the other object comes next.
use Prim.Native.Nat.{ℕ, ◌+◌, ◌<◌}
use native.Mathlib.Decide.{dec_lt}
use native.Mathlib.Omega.{arith}
use mathlib.Core.Path.{◌≡◌, refl, sym, ap, subst, ◌∙◌}
use mathlib.Core.Bool.{Bool, true, false, cond, ◌&&◌, beq}
use mathlib.Core.List.{List, ◌∷◌}
use lib.Dec.{T}
use borrow.Author.Tests.{ne_eqb}
use Rattle.whole.proofs.Logic.{and_left, and_right, true_is, refute, beq_same}
use Rattle.plane.specs.declared.Point.{Point}
use Rattle.plane.specs.declared.Halfsegment.{Halfsegment}
use Rattle.plane.specs.Plane.{in_range, before, is_same_point, is_same_segment, dominating, comes_before}
use Rattle.plane.proofs.Equal.{same_segment_read}
use Rattle.scene.specs.declared.Shape.{Shape}
use Rattle.scene.specs.declared.Shape.TheVariants.{Points, Line, Region}
use Rattle.scene.specs.declared.Layout.{Layout}
use Rattle.scene.specs.declared.Scene.{Scene}
use Rattle.scene.specs.Read.{IsObject}
use Rattle.scene_keys.specs.Keyed.{key, element_point, point_as, keys, next_key}
use Rattle.scene_keys.proofs.Keys.{same_key, key_less, less_key, next_in}
use Rattle.scene_keys.proofs.Elements.{point_in_range}
use Rattle.walk_events.specs.declared.Event.{Event}
use Rattle.walk_events.specs.declared.Event.TheVariants.{At, Side}
use Rattle.walk_events.specs.declared.Step.{Step}
use Rattle.walk_events.specs.declared.Step.TheVariants.{OfF, OfG, OfBoth}
use Rattle.walk_events.specs.Events.{f_alone, g_alone, of_both, event_as, event_of, same_event, event_before, same, earlier}
use Rattle.walk_events.specs.Stepping.{step_of, remaining}
use Rattle.walk_events.proofs.Stepped.{step_both, step_earlier, step_later, step_f, step_g}

-- ---- two events

abbrev pub point_of : Event → Point
point_of (At p) = p
point_of (Side h) = dominating h

pub event_point : (s : List ℕ) (l : Layout) (i : ℕ) → point_of (event_of s l i) ≡ element_point s l i
event_point s l i = go l.shape
  where
    go : (k : Shape) → point_of (event_as s l k i) ≡ point_as s l k i
    go Points = refl
    go Line = refl
    go Region = refl

module _ (p q : Point) (h : T (in_range p)) (k : T (in_range q)) where
  apart : (key p ≡ key q → ⊥) → is_same_point p q ≡ false
  apart n = same_key p q h k ∙ ne_eqb (key p) (key q) n

  first : key p < key q → before p q ≡ true
  first l = true_is (before p q) (key_less p q h k l)

  later : key q < key p → before p q ≡ false
  later l = refute (before p q) (λ t. let m = less_key p q h k t in omega (arith, l, m))

same_side_false : (h k : Halfsegment) → (key (dominating h) ≡ key (dominating k) → ⊥) → is_same_segment h.segment k.segment && beq h.is_left k.is_left ≡ false
unfolding dominating
same_side_false h k n =
    refute (is_same_segment h.segment k.segment && beq h.is_left k.is_left)
    (λ t.
    let s = same_segment_read h.segment k.segment (and_left (is_same_segment h.segment k.segment) (beq h.is_left k.is_left) t) in
    let l = beq_same h.is_left k.is_left (true_is (beq h.is_left k.is_left) (and_right (is_same_segment h.segment k.segment) (beq h.is_left k.is_left) t)) in
    n (λ i. key (dominating (record { segment = s i; is_left = l i }))))

module _ (a b : Event) (h : T (in_range (point_of a))) (k : T (in_range (point_of b))) where
  not_same : (key (point_of a) ≡ key (point_of b) → ⊥) → same_event a b ≡ false
  unfolding same_event
  not_same = go a b h k
    where
      go : (a b : Event) → T (in_range (point_of a)) → T (in_range (point_of b)) → (key (point_of a) ≡ key (point_of b) → ⊥) → same_event a b ≡ false
      go (At p) (At q) h k n = apart p q h k n
      go (Side x) (Side y) h k n = same_side_false x y n
      go (At p) (Side y) h k n = refl
      go (Side x) (At q) h k n = refl

  comes_first : key (point_of a) < key (point_of b) → event_before a b ≡ true
  unfolding event_before comes_before
  comes_first = go a b h k
    where
      go : (a b : Event) → T (in_range (point_of a)) → T (in_range (point_of b)) → key (point_of a) < key (point_of b) → event_before a b ≡ true
      go (At p) (At q) h k l = first p q h k l
      go (Side x) (Side y) h k l = rw (first (dominating x) (dominating y) h k l)
      go (At p) (Side y) h k l = first p (dominating y) h k l
      go (Side x) (At q) h k l = rw (first (dominating x) q h k l)

  comes_later : key (point_of b) < key (point_of a) → event_before a b ≡ false
  unfolding event_before comes_before
  comes_later = go a b h k
    where
      go : (a b : Event) → T (in_range (point_of a)) → T (in_range (point_of b)) → key (point_of b) < key (point_of a) → event_before a b ≡ false
      go (At p) (At q) h k l = later p q h k l
      go (Side x) (Side y) h k l = rw (later (dominating x) (dominating y) h k l, apart (dominating x) (dominating y) h k (λ e. omega (arith, l, e)))
      go (At p) (Side y) h k l = later p (dominating y) h k l
      go (Side x) (At q) h k l = rw (later (dominating x) q h k l, apart (dominating x) q h k (λ e. omega (arith, l, e)))

-- ---- the next of two objects

module _ (s : List ℕ) (l : Layout) (is : IsObject s l) (i : ℕ) (h : i < l.count) where
  event_in_range : T (in_range (point_of (event_of s l i)))
  event_in_range = subst (λ (p : Point). T (in_range p)) (sym (event_point s l i)) (point_in_range s l is i h)

  event_key : key (point_of (event_of s l i)) ≡ keys s l i
  event_key = ap key (event_point s l i)

-- the events that remain are this one, and those that remain then
abbrev pub Stepped : List ℕ → Scene → ℕ → ℕ → Step → Type 0
Stepped s sc i j OfF = remaining s sc i j ≡ f_alone i ∷ remaining s sc (i + 1) j
Stepped s sc i j OfG = remaining s sc i j ≡ g_alone j ∷ remaining s sc i (j + 1)
Stepped s sc i j OfBoth = remaining s sc i j ≡ of_both i j ∷ remaining s sc (i + 1) (j + 1)

pub next_of : (s : List ℕ) (sc : Scene) {i j : ℕ} → i < sc.f.count → j < sc.g.count → {t : Step} → t ≡ step_of (event_of s sc.f i) (event_of s sc.g j) → Stepped s sc i j t
next_of s sc {i} {j} h k e = subst (Stepped s sc i j) (sym e) (go (same s sc i j) (earlier s sc i j) refl refl)
  where
    go : (x y : Bool) → same s sc i j ≡ x → earlier s sc i j ≡ y → Stepped s sc i j (cond x OfBoth (cond y OfF OfG))
    go true y u v = step_both s sc h k u
    go false true u v = step_earlier s sc h k u v
    go false false u v = step_later s sc h k u v

-- by the keys of their points
module _ (s : List ℕ) (sc : Scene) (is : IsObject s sc.f) (are : IsObject s sc.g) (i j : ℕ) where
  pub next_f : i < sc.f.count → keys s sc.f i < next_key s sc.g j → Stepped s sc i j OfF
  next_f h l = go (dec_lt j sc.g.count)
    where
      go : Dec (j < sc.g.count) → Stepped s sc i j OfF
      go (yes k) =
          let a = event_of s sc.f i in
          let b = event_of s sc.g j in
          let x = event_in_range s sc.f is i h in
          let y = event_in_range s sc.g are j k in
          let m : key (point_of a) < key (point_of b) = omega (arith, l, event_key s sc.f is i h, event_key s sc.g are j k, next_in sc.g.count (keys s sc.g) j k) in
          step_earlier s sc h k (not_same a b x y (λ e. omega (arith, m, e))) (comes_first a b x y m)
      go (no k) = step_f s sc h (omega (arith, k))

  pub next_g : j < sc.g.count → keys s sc.g j < next_key s sc.f i → Stepped s sc i j OfG
  next_g k l = go (dec_lt i sc.f.count)
    where
      go : Dec (i < sc.f.count) → Stepped s sc i j OfG
      go (yes h) =
          let a = event_of s sc.f i in
          let b = event_of s sc.g j in
          let x = event_in_range s sc.f is i h in
          let y = event_in_range s sc.g are j k in
          let m : key (point_of b) < key (point_of a) = omega (arith, l, event_key s sc.f is i h, event_key s sc.g are j k, next_in sc.f.count (keys s sc.f) i h) in
          step_later s sc h k (not_same a b x y (λ e. omega (arith, m, e))) (comes_later a b x y m)
      go (no h) = step_g s sc (omega (arith, h)) k
