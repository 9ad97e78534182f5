-- Answers by the conditions that lead to them: what is so of a refusal with each condition's number, and of what follows them, is so of the answer. And so
-- reading refuses with the numbers 1 to 7 alone, and no refusal has number 0.
use Rattle.std.specs.Prelude.{Err, None, Ok, Some}
use Rattle.scene.specs.Read.{CheckedObject, CheckedScene, Fault, Record}
use Prim.Native.Nat.{ℕ, zero, suc, ◌+◌, ◌≤◌, ◌<◌}
use native.Mathlib.Omega.{arith}
use mathlib.Core.Path.{◌≡◌, refl}
use mathlib.Core.Bool.{Bool, true, false, cond}
use mathlib.Core.List.{List, [], ◌∷◌}
use Rattle.scene.specs.declared.Kind.{Kind}
use Rattle.scene.specs.declared.Layout.{Layout}
use Rattle.scene.specs.declared.Scene.{Scene}
use Rattle.scene.specs.declared.Refusal.{Refusal}
use Rattle.scene.specs.declared.Reason.{Reason}
use Rattle.scene.specs.Read.{number_of, Condition, decide, judge, byte, kind_at, shape_of, starts_object, stands_in, is_end, record_conditions, record_at, end_place, after, most, one_more, next, elements_from, begun, read_object, ends_with, arranged, scene_with_second, scene_with_first, read_scene, alone, read_alone}
use Rattle.scene.specs.Conditions.{Rule, conditions, scene_rules, checked_scene, check_scene_by, check_scene}

-- ---- a list of conditions

module _ {B : Type 0} (refuse : Refusal → B) (Means : B → Type 0) (Says : Reason → ℕ → Type 0)
    (refused : (n : Reason) (p : ℕ) → Says n p → Means (refuse (record { reason = n; place = p }))) where
  pub decided : (n : Reason) (f : Fault) (rest : B) → ((p : ℕ) → f ≡ Some p → Says n p) → (f ≡ None → Means rest) → Means (decide refuse n f rest)
  decided n (Some p) rest at otherwise = refused n p (at p refl)
  decided n None rest at otherwise = otherwise refl

-- whose numbers are so
abbrev pub Numbers : (ℕ → Type 0) → List Condition → Type 0
Numbers P [] = Unit {0}
Numbers P (c ∷ cs) = P (number_of c.reason) × Numbers P cs

module _ {B : Type 0} (P : ℕ → Type 0) (refuse : Refusal → B) (Means : B → Type 0) (refused : (r : Refusal) → P (number_of r.reason) → Means (refuse r)) where
  judged : (b : B) → Means b → (cs : List Condition) → Numbers P cs → Means (judge refuse b cs)
  judged b q [] h = q
  judged b q (c ∷ cs) h =
      decided refuse Means (λ n p. P (number_of n)) (λ n p. refused (record { reason = n; place = p })) c.reason c.fault (judge refuse b cs) (λ p e. h.0)
      (λ e. judged b q cs h.1)

-- ---- reading

abbrev Small : ℕ → Type 0
Small n = (0 < n) × (n ≤ 7)

abbrev SmallRecord : Record → Type 0
SmallRecord (Ok k) = Unit {0}
SmallRecord (Err r) = Small (number_of r.reason)

abbrev pub SmallObject : CheckedObject → Type 0
SmallObject (Ok l) = Unit {0}
SmallObject (Err r) = Small (number_of r.reason)

abbrev pub SmallScene : CheckedScene → Type 0
SmallScene (Ok sc) = Unit {0}
SmallScene (Err r) = Small (number_of r.reason)

module _ (s : List ℕ) where
  small_record : (at : ℕ) (allowed : Kind → Bool) (full : Bool) → SmallRecord (record_at s at allowed full)
  unfolding record_at
  small_record at allowed full =
      judged Small Err SmallRecord (λ r h. h) (Ok (kind_at s at)) tt (record_conditions s at allowed full (kind_at s at))
      (omega arith, (omega arith, (omega arith, (omega arith, (omega arith, (omega arith, (omega arith, tt)))))))

  small_next : (r : Record) (l : Layout) (rest : CheckedObject) → SmallRecord r → SmallObject rest → SmallObject (next r l rest)
  small_next (Err r) l rest h q = h
  small_next (Ok k) l rest h q = go (is_end k)
    where
      go : (b : Bool) → SmallObject (cond b (Ok l) rest)
      go true = tt
      go false = q

  small_elements : (left : ℕ) (l : Layout) → SmallObject (elements_from s left l)
  unfolding elements_from
  small_elements zero l = small_next (record_at s (end_place l) (stands_in l.shape) true) l (Ok l) (small_record (end_place l) (stands_in l.shape) true) tt
  small_elements (suc left) l =
      small_next (record_at s (end_place l) (stands_in l.shape) false) l (elements_from s left (one_more l)) (small_record (end_place l) (stands_in l.shape) false)
      (small_elements left (one_more l))

  small_object : (at : ℕ) → SmallObject (read_object s at)
  unfolding read_object
  small_object at = go (record_at s at starts_object false) (small_record at starts_object false)
    where
      go : (r : Record) → SmallRecord r → SmallObject (begun r (elements_from s most (record { shape = shape_of (byte s (at + 1)); start = at; count = 0 })))
      go (Err r) h = h
      go (Ok k) h = small_elements most (record { shape = shape_of (byte s (at + 1)); start = at; count = 0 })

  pub small_alone : SmallObject (read_alone s)
  unfolding read_alone
  small_alone = go (read_object s 0) (small_object 0)
    where
      go : (o : CheckedObject) → SmallObject o → SmallObject (alone s o)
      go (Err r) h = h
      go (Ok l) h = judged Small Err SmallObject (λ r h. h) (Ok l) tt (ends_with s l ∷ []) (omega arith, tt)

  pub small_scene : SmallScene (read_scene s)
  unfolding read_scene
  small_scene = with_first (read_object s 0) (small_object 0)
    where
      with_second : (a : Layout) (o : CheckedObject) → SmallObject o → SmallScene (scene_with_second s a o)
      with_second a (Err r) h = h
      with_second a (Ok b) h =
          judged Small Err SmallScene (λ r h. h) (Ok (arranged a b)) tt (ends_with s b ∷ []) (omega arith, tt)

      with_first : (o : CheckedObject) → SmallObject o → SmallScene (scene_with_first s o)
      with_first (Err r) h = h
      with_first (Ok a) h = with_second a (read_object s (after a)) (small_object (after a))

-- ---- no refusal has number 0

abbrev pub Numbered : CheckedScene → Type 0
Numbered (Ok sc) = Unit {0}
Numbered (Err r) = 0 < number_of r.reason

module _ (rules : List (Rule Scene)) (s : List ℕ) (above : (sc : Scene) → Numbers (λ n. 0 < n) (conditions rules s sc)) where
  pub numbered_by : Numbered (check_scene_by rules s)
  unfolding check_scene_by
  numbered_by = go (read_scene s) (small_scene s)
    where
      go : (o : CheckedScene) → SmallScene o → Numbered (checked_scene rules s o)
      go (Err r) h = h.0
      go (Ok sc) h = judged (λ n. 0 < n) Err Numbered (λ r h. h) (Ok sc) tt (conditions rules s sc) (above sc)

pub numbered : (s : List ℕ) → Numbered (check_scene s)
unfolding check_scene
numbered s =
    numbered_by (scene_rules [] []) s
    (λ sc. (omega arith, (omega arith, (omega arith, (omega arith, (omega arith, (omega arith, tt)))))))
