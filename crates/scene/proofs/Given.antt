-- What a taken scene or object gives its callers: each condition of its list has no fault, and each element is whole, in range and ordered.
use Rattle.std.specs.Prelude.{Err, None, Ok, Some}
use Rattle.scene.specs.Read.{CheckedObject, CheckedScene, Fault}
use Prim.Native.Nat.{ℕ, ◌+◌, ◌<◌, ◌≤◌}
use native.Mathlib.Omega.{arith}
use mathlib.Core.Path.{◌≡◌, refl, ap, subst, ◌∙◌}
use mathlib.Core.Bool.{true, false, false≢true}
use mathlib.Core.List.{List, [], ◌∷◌, map}
use lib.ListN.{length}
use lib.Dec.{T}
use Rattle.plane.specs.Plane.{in_range, segment_in_range, ordered}
use Rattle.scene.specs.declared.Shape.{Shape}
use Rattle.scene.specs.declared.Shape.TheVariants.{Points, Line, Region}
use Rattle.scene.specs.declared.Kind.TheVariants.{Element}
use Rattle.scene.specs.declared.Layout.{Layout}
use Rattle.scene.specs.declared.Scene.{Scene}
use Rattle.scene.specs.declared.Refusal.{Refusal}
use Rattle.scene.specs.Read.{place, body_length, coordinates_good, stands_in, point_at, segment_at, decide, judge, given_first, given_second, read_scene, read_alone}
use Rattle.scene.specs.Conditions.{Rule, conditions, or_else, over_both, has_segments, is_region, checked_scene, check_scene_by, checked_object, check_object, object_rules}
use Rattle.scene.proofs.Passed.{Passed}
use Rattle.scene.proofs.Indices.{not_nothing}
use Rattle.scene.proofs.Taken.{TakenObject, TakenAlone, TakenScene, taken_alone, taken_scene}
use Rattle.scene.proofs.Outcomes.{never_taken, same_taken}

-- ---- conditions

-- none of a list of conditions has a fault: for a list that is written out, a pair for each, in its order
module _ {A : Type 0} (s : List ℕ) (a : A) where
  abbrev pub NoFault : List (Rule A) → Type 0
  NoFault [] = Unit {0}
  NoFault (r ∷ rules) = (r.fault s a ≡ None) × NoFault rules

  -- a list that does not refuse
  module _ {B : Type 0} (refuse : Refusal → B) (taken : B) (never : (r : Refusal) → refuse r ≡ taken → ⊥) where
    no_fault : (rules : List (Rule A)) (b : B) → judge refuse b (conditions rules s a) ≡ taken → (b ≡ taken) × NoFault rules
    no_fault [] b e = (e, tt)
    no_fault (r ∷ rules) b e = go (r.fault s a) refl e (no_fault rules b)
      where
        go : (f : Fault) → r.fault s a ≡ f → decide refuse r.reason f (judge refuse b (conditions rules s a)) ≡ taken
            → (judge refuse b (conditions rules s a) ≡ taken → (b ≡ taken) × NoFault rules) → (b ≡ taken) × NoFault (r ∷ rules)
        go (Some p) q x later = absurd (never (record { reason = r.reason; place = p }) x)
        go None q x later = ((later x).0, (q, (later x).1))

  -- a list with no fault
  faultless : {B : Type 0} (refuse : Refusal → B) (b : B) (rules : List (Rule A)) → NoFault rules → judge refuse b (conditions rules s a) ≡ b
  faultless refuse b [] n = refl
  faultless refuse b (r ∷ rules) n = rw n.0 (faultless refuse b rules n.1)

-- over a scene: a list over both objects has no fault where it has none in either
pub neither : (a b : Fault) → or_else a b ≡ None → (a ≡ None) × (b ≡ None)
neither (Some p) b e = absurd (not_nothing e)
neither None b e = (refl, e)

module _ (s : List ℕ) (sc : Scene) where
  pub in_neither : (rules : List (Rule Layout)) → NoFault s sc (map over_both rules) → NoFault s (given_first sc) rules × NoFault s (given_second sc) rules
  in_neither [] n = (tt, tt)
  in_neither (r ∷ rules) n =
      let first = neither (r.fault s (given_first sc)) (r.fault s (given_second sc)) n.0 in
      let more = in_neither rules n.1 in
      ((first.0, more.0), (first.1, more.1))

  pub over_both_lem : (rules : List (Rule Layout)) → NoFault s (given_first sc) rules → NoFault s (given_second sc) rules → NoFault s sc (map over_both rules)
  over_both_lem [] a b = tt
  over_both_lem (r ∷ rules) a b = (ap (λ (x : Fault). or_else x (r.fault s (given_second sc))) a.0 ∙ b.0, over_both_lem rules a.1 b.1)

pub checked_scene_lem : (rules : List (Rule Scene)) (s : List ℕ) (sc : Scene) → check_scene_by rules s ≡ Ok sc → TakenScene s sc × NoFault s sc rules
unfolding check_scene_by
checked_scene_lem rules s sc e = go (read_scene s) refl e
  where
    go : (o : CheckedScene) → read_scene s ≡ o → checked_scene rules s o ≡ Ok sc → TakenScene s sc × NoFault s sc rules
    go (Err r) q x = absurd (never_taken x)
    go (Ok o) q x =
        let n = no_fault s o Err (Ok sc) (λ r. never_taken) rules (Ok o) x in
        subst (λ (o : Scene). TakenScene s o × NoFault s o rules) (same_taken n.0) (taken_scene s o q, n.1)

pub checked_object_lem : (s : List ℕ) (l : Layout) → check_object s ≡ Ok l → TakenAlone s 0 l × NoFault s l object_rules
unfolding check_object
checked_object_lem s l e = go (read_alone s) refl e
  where
    go : (o : CheckedObject) → read_alone s ≡ o → checked_object s o ≡ Ok l → TakenAlone s 0 l × NoFault s l object_rules
    go (Err r) q x = absurd (never_taken x)
    go (Ok o) q x =
        let n = no_fault s o Err (Ok l) (λ r. never_taken) object_rules (Ok o) x in
        subst (λ (o : Layout). TakenAlone s 0 o × NoFault s o object_rules) (same_taken n.0) (taken_alone s o q, n.1)

pub object_checked : (s : List ℕ) (l : Layout) → read_alone s ≡ Ok l → NoFault s l object_rules → check_object s ≡ Ok l
unfolding check_object
object_checked s l e n = ap (checked_object s) e ∙ faultless s l Err (Ok l) object_rules n

-- ---- elements: what the functions that read them and those of the plane ask

pub record GoodPoint (s : List ℕ) (at : ℕ) : Type 0 where
  pub there : at + 9 ≤ length s
  pub in_range_lem : T (in_range (point_at s at))

pub record GoodHalfsegment (s : List ℕ) (at : ℕ) : Type 0 where
  pub there : at + 18 ≤ length s
  pub in_range_lem : T (segment_in_range (segment_at s at))
  pub in_order : T (ordered (segment_at s at))

pub region_segments : (k : Shape) → is_region k ≡ true → has_segments k ≡ true
region_segments Points e = absurd (false≢true e)
region_segments Line e = absurd (false≢true e)
region_segments Region e = refl

module _ {s : List ℕ} {at : ℕ} {l : Layout} (t : TakenObject s at l) (i : ℕ) (h : i < l.count) where
  pub good_point : l.shape ≡ Points → GoodPoint s (place l i)
  good_point e = go l.shape e (t.elements i h)
    where
      go : (k : Shape) → k ≡ Points → Passed s (place l i) (stands_in k) false (Element k) → GoodPoint s (place l i)
      go k q p = record {
        there = omega (arith, subst (λ (k : Shape). place l i + 1 + body_length (Element k) ≤ length s) q p.whole);
        in_range_lem = subst (λ (k : Shape). T (coordinates_good s (place l i) (Element k))) q p.coordinates;
      }

  pub good_halfsegment : T (has_segments l.shape) → GoodHalfsegment s (place l i)
  good_halfsegment = go l.shape (t.elements i h)
    where
      go : (k : Shape) → Passed s (place l i) (stands_in k) false (Element k) → T (has_segments k) → GoodHalfsegment s (place l i)
      go Points p e = absurd e
      go Line p e = record { there = omega (arith, p.whole); in_range_lem = p.coordinates; in_order = p.ends }
      go Region p e = record { there = omega (arith, p.whole); in_range_lem = p.coordinates; in_order = p.ends }

  pub ia_there : T (is_region l.shape) → place l i + 19 ≤ length s
  ia_there = go l.shape (t.elements i h)
    where
      go : (k : Shape) → Passed s (place l i) (stands_in k) false (Element k) → T (is_region k) → place l i + 19 ≤ length s
      go Points p e = absurd e
      go Line p e = absurd e
      go Region p e = omega (arith, p.whole)
