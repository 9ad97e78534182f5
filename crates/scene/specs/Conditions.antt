-- The conditions 10 to 15 of document 01's "What is turned away", each as "the earliest place at fault, if any", and the lists that give their order. 8 "never
-- occurs" since 02's Paper 1; 9, 16 and 17 belong to single questions, which put them into the list at their places.
use Rattle.std.specs.Prelude.{Err, None, Ok, Some}
use Rattle.scene.specs.Read.{CheckedObject, CheckedScene, Fault}
use Rattle.std.specs.Prelude.{ℕ, zero, suc, ◌-◌, Bool, true, false, not, ◌&&◌, cond, List, [], ◌∷◌, ◌++◌, map, ltb}
use Rattle.std.specs.Bool.{beq}
use Rattle.whole.specs.Count.{odd, some}
use Rattle.plane.specs.declared.Segment.{Segment}
use Rattle.plane.specs.declared.Halfsegment.{Halfsegment}
use Rattle.plane.specs.Plane.{before, comes_before, dominating, ends_at, grid, interior_above, is_same_segment, touch, Object, points, line, region}
use Rattle.scene.specs.declared.Shape.{Shape}
use Rattle.scene.specs.declared.Shape.TheVariants.{Points, Line, Region}
use Rattle.scene.specs.declared.Layout.{Layout}
use Rattle.scene.specs.declared.Scene.{Scene}
use Rattle.scene.specs.declared.Reason.{Reason}
use Rattle.scene.specs.declared.Flaw.TheVariants.{Misplaced, Unpaired, Touching, OddEnd, WrongIa, TouchingAcross}
use Rattle.scene.specs.declared.Reason.TheVariants.{Flawed}
use Rattle.scene.specs.Read.{point_at, halfsegment_at, ia_at, place, given_first, given_second, Condition, condition, judge, read_scene, read_alone}

-- ---- the elements of an object, by their index

abbrev pub indices : ℕ → ℕ → List ℕ
indices zero i = []
indices (suc left) i = i ∷ indices left (suc i)

abbrev pub elements : Layout → List ℕ
elements l = indices l.count 0

abbrev pub keep : (ℕ → Bool) → List ℕ → List ℕ
keep f [] = []
keep f (i ∷ is) = cond (f i) (i ∷ keep f is) (keep f is)

-- points have no segments, and ia is a region's alone
abbrev pub has_segments : Shape → Bool
has_segments Points = false
has_segments Line = true
has_segments Region = true

abbrev pub is_region : Shape → Bool
is_region Points = false
is_region Line = false
is_region Region = true

module _ (s : List ℕ) (l : Layout) where
  abbrev pub half : ℕ → Halfsegment
  half i = halfsegment_at s (place l i)

  abbrev pub ia : ℕ → Bool
  ia i = is_region l.shape && ia_at s (place l i)

  -- a segment is counted once, by its left halfsegment
  abbrev pub left_test : ℕ → Bool
  left_test i = has_segments l.shape && (half i).is_left

  unfoldable pub segments : List Segment
  segments = map (λ i. (half i).segment) (keep left_test (elements l))

  -- the object that the bytes stand for
  unfoldable pub object : Object
  object = of l.shape
    where
      of : Shape → Object
      of Points = points (map (λ i. point_at s (place l i)) (elements l))
      of Line = line segments
      of Region = region segments

-- ---- one object: the conditions 10 to 14

-- "The place is the record at fault, .. the earliest if several"
abbrev pub earliest : Layout → (ℕ → Bool) → List ℕ → Fault
earliest l wrong [] = None
earliest l wrong (i ∷ is) = cond (wrong i) (Some (place l i)) (earliest l wrong is)

module _ (s : List ℕ) (l : Layout) where
  -- 10: "element not strictly after the one before", and its place is the later of the two
  unfoldable pub is_in_order : ℕ → ℕ → Bool
  is_in_order i j = of l.shape
    where
      of : Shape → Bool
      of Points = before (point_at s (place l i)) (point_at s (place l j))
      of Line = comes_before (half s l i) (half s l j)
      of Region = comes_before (half s l i) (half s l j)

  abbrev pub is_misplaced : ℕ → Bool
  is_misplaced i = ltb 0 i && not (is_in_order (i - 1) i)

  unfoldable pub out_of_order : Fault
  out_of_order = earliest l is_misplaced (elements l)

  -- 11: "halfsegment with no partner of opposite d, equal ends and ia"
  unfoldable pub partner : ℕ → ℕ → Bool
  partner i j =
      not (beq (half s l i).is_left (half s l j).is_left)
      && is_same_segment (half s l i).segment (half s l j).segment
      && beq (ia s l i) (ia s l j)

  abbrev pub is_unpaired : ℕ → Bool
  is_unpaired i = has_segments l.shape && not (some (partner i) (elements l))

  unfoldable pub unpaired : Fault
  unpaired = earliest l is_unpaired (elements l)

  -- 12 and 15: "share a point that is not an end of both". The place is the earliest record of l whose segment touches one of the others: of a
  -- segment's two records the left one comes first, and of a pair the one that comes first is the place, as touching goes both ways
  abbrev pub is_touching : List Segment → ℕ → Bool
  is_touching others i = left_test s l i && some (touch (half s l i).segment) others

  unfoldable pub touching : List Segment → Fault
  touching others = earliest l (is_touching others) (elements l)

  -- 12: "two segments of one object share a point that is not an end of both"
  unfoldable pub touching_itself : Fault
  touching_itself = touching (segments s l)

  -- 13: "region end in an odd number of its segments", and its place is a record "whose dominating point is such an end"
  abbrev pub ends_oddly : ℕ → Bool
  ends_oddly i = is_region l.shape && odd (ends_at (segments s l) (grid (dominating (half s l i))))

  unfoldable pub odd_end : Fault
  odd_end = earliest l ends_oddly (elements l)

  -- 14: "wrong ia"
  abbrev pub has_wrong_ia : ℕ → Bool
  has_wrong_ia i = is_region l.shape && not (beq (ia s l i) (interior_above (segments s l) (half s l i).segment))

  unfoldable pub wrong_ia : Fault
  wrong_ia = earliest l has_wrong_ia (elements l)

-- ---- the order of the conditions: "Then 8 to 17 in order, each over the whole scene."

pub record Rule (A : Type 0) : Type 0 where
  pub reason : Reason
  pub fault : List ℕ → A → Fault

module _ {A : Type 0} where
  abbrev pub rule : Reason → (List ℕ → A → Fault) → Rule A
  rule n f = record { reason = n; fault = f }

  abbrev pub conditions : List (Rule A) → List ℕ → A → List Condition
  conditions rules s a = map (λ (r : Rule A). condition r.reason (r.fault s a)) rules

abbrev pub object_rules : List (Rule Layout)
object_rules = rule (Flawed Misplaced) out_of_order ∷ rule (Flawed Unpaired) unpaired ∷ rule (Flawed Touching) touching_itself ∷ rule (Flawed OddEnd) odd_end ∷ rule (Flawed WrongIa) wrong_ia ∷ []

-- over a scene: "the earliest in those bytes if several", so the object given first comes first
abbrev pub or_else : Fault → Fault → Fault
or_else (Some p) other = Some p
or_else None other = other

abbrev pub over_both : Rule Layout → Rule Scene
over_both r = rule r.reason (λ s sc. or_else (r.fault s (given_first sc)) (r.fault s (given_second sc)))

-- 15: "unequal segments of F and G share a point that is not an end of both"; 02, Paper 1: "for 15 the record is the caller's first object's"
abbrev pub touching_across : List ℕ → Scene → Fault
touching_across s sc = touching s (given_first sc) (segments s (given_second sc))

-- A question's own conditions stand in their places: 9 among them, and 16 and 17 after them.
abbrev pub scene_rules : List (Rule Scene) → List (Rule Scene) → List (Rule Scene)
scene_rules nine later = nine ++ (map over_both object_rules ++ (rule (Flawed TouchingAcross) touching_across ∷ later))

-- ---- checking

abbrev pub checked_scene : List (Rule Scene) → List ℕ → CheckedScene → CheckedScene
checked_scene rules s (Err r) = Err r
checked_scene rules s (Ok sc) = judge Err (Ok sc) (conditions rules s sc)

unfoldable pub check_scene_by : List (Rule Scene) → List ℕ → CheckedScene
check_scene_by rules s = checked_scene rules s (read_scene s)

unfoldable pub check_scene : List ℕ → CheckedScene
check_scene s = check_scene_by (scene_rules [] []) s

-- "A call on one object takes 1 to 7 and 10 to 14 over its bytes alone"
abbrev pub checked_object : List ℕ → CheckedObject → CheckedObject
checked_object s (Err r) = Err r
checked_object s (Ok l) = judge Err (Ok l) (conditions object_rules s l)

unfoldable pub check_object : List ℕ → CheckedObject
check_object s = checked_object s (read_alone s)
