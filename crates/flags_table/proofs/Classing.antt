-- Several classes of an object's segments together, as one test of the segment of some left halfsegment.
use Prim.Native.Nat.{ℕ, ◌<◌}
use mathlib.Core.Path.{◌≡◌, refl, sym, ap, ap₂, ◌∙◌}
use mathlib.Core.Bool.{Bool, true, false, not, ◌&&◌, ◌||◌, or_assoc, or-false}
use mathlib.Core.List.{List}
use lib.Dec.{eqb}
use Rattle.whole.specs.Count.{some}
use Rattle.plane.specs.declared.Segment.{Segment}
use Rattle.plane.specs.Plane.{is_same_segment}
use Rattle.scene.specs.declared.Layout.{Layout}
use Rattle.scene.specs.Conditions.{elements, half, ia, left_test, segments}
use Rattle.scene_segments.proofs.Indices.{in_element}
use Rattle.scene_segments.proofs.Walk.{all_between, left_passes, some_segments}
use Rattle.flags.specs.Flags.{Edge, has_segment}
use Rattle.flags.specs.Elements.{edges, same_edge, has_edge}
use Rattle.flags.proofs.Elements.{some_same, some_on, some_map, outline_edges}
use Rattle.flags_classes.specs.Classed.{is_shared, other_above, other_below, above_outside_test, below_outside_test, above_inside_test, below_inside_test, both_above_test, both_below_test, opposite, some_left, classes}
use Rattle.flags_table.specs.Table.{unshared, shared}
use Rattle.check_conditions.proofs.Counting.{some_or}

-- a segment is one of the object's with the interior above it, or with the interior below it
pub has_either : (s : List ℕ) (l : Layout) (t : Segment) → has_edge (edges s l) t true || has_edge (edges s l) t false ≡ has_segment (segments s l) t
has_either s l t =
    some_or (same_edge t true) (same_edge t false) (edges s l)
    ∙ some_same (λ e. same_edge t true e || same_edge t false e) (λ (e : Edge). is_same_segment t e.segment) (λ e. go (is_same_segment t e.segment) e.ia) (edges s l)
    ∙ sym (some_map (is_same_segment t) (λ (e : Edge). e.segment) (edges s l))
    ∙ ap (λ k. has_segment k t) (outline_edges s l)
  where
    go : (x a : Bool) → x && a || x && not a ≡ x
    go true true = refl
    go true false = refl
    go false a = refl

-- "some segment" by the left halfsegments
pub some_lefts : (s : List ℕ) (l : Layout) (f : Segment → Bool) → some f (segments s l) ≡ some (λ i. left_test s l i && f (half s l i).segment) (elements l)
some_lefts s l f = some_segments s l f ∙ ap (some (left_passes s l f)) (sym (all_between l.count))

module _ (s : List ℕ) (own : Layout) where
  pub lefts_on : (p q : ℕ → Bool) → ((i : ℕ) → i < own.count → p i ≡ q i) → some_left s own p ≡ some_left s own q
  lefts_on p q e = some_on _ (λ i. left_test s own i && q i) (elements own) (λ i m. ap (λ b. left_test s own i && b) (e i (in_element own i m)))

  -- two classes, as one test
  either : (p q r : ℕ → Bool) → ((i : ℕ) → p i || q i ≡ r i) → some_left s own p || some_left s own q ≡ some_left s own r
  either p q r e =
      some_or (λ i. left_test s own i && p i) (λ i. left_test s own i && q i) (elements own)
      ∙ some_same _ (λ i. left_test s own i && r i) (λ i. go (left_test s own i) (p i) (q i) ∙ ap (λ b. left_test s own i && b) (e i)) (elements own)
    where
      go : (x a b : Bool) → x && a || x && b ≡ x && (a || b)
      go true a b = refl
      go false a b = refl

  -- the interior is above it, or not
  either_side : (t : ℕ → Bool) → some_left s own (λ i. ia s own i && t i) || some_left s own (λ i. not (ia s own i) && t i) ≡ some_left s own t
  either_side t = either (λ i. ia s own i && t i) (λ i. not (ia s own i) && t i) t (λ i. go (ia s own i) (t i))
    where
      go : (x b : Bool) → x && b || not x && b ≡ b
      go true true = refl
      go true false = refl
      go false b = refl

module _ (s : List ℕ) (own other : Layout) (note : ℕ → ℕ) where
  abbrev lefts : (ℕ → Bool) → Bool
  lefts = some_left s own

  -- ---- none of the other's

  pub lefts_outside : lefts (above_outside_test s own other note) || lefts (below_outside_test s own other note) ≡ lefts (λ i. not (is_shared s own other i) && eqb (note i) 0)
  lefts_outside = either_side s own (λ i. not (is_shared s own other i) && eqb (note i) 0)

  pub lefts_inside : lefts (above_inside_test s own other note) || lefts (below_inside_test s own other note) ≡ lefts (λ i. not (is_shared s own other i) && not (eqb (note i) 0))
  lefts_inside = either_side s own (λ i. not (is_shared s own other i) && not (eqb (note i) 0))

  pub unshared_some : unshared (classes s own other note) ≡ some (λ t. not (has_segment (segments s other) t)) (segments s own)
  unshared_some =
      or_assoc (lefts (above_outside_test s own other note) || lefts (below_outside_test s own other note)) (lefts (above_inside_test s own other note)) (lefts (below_inside_test s own other note))
      ∙ ap₂ ◌||◌ lefts_outside lefts_inside
      ∙ either s own (λ i. not (is_shared s own other i) && eqb (note i) 0) (λ i. not (is_shared s own other i) && not (eqb (note i) 0)) (λ i. not (is_shared s own other i)) (λ i. go (is_shared s own other i) (eqb (note i) 0))
      ∙ sym (some_lefts s own (λ t. not (has_segment (segments s other) t)))
    where
      go : (h z : Bool) → not h && z || not h && not z ≡ not h
      go true z = refl
      go false true = refl
      go false false = refl

  -- ---- one of the other's

  pub shared_some : shared (classes s own other note) ≡ some (has_segment (segments s other)) (segments s own)
  shared_some =
      ap (λ b. b || lefts (opposite s own other)) (either s own (both_above_test s own other) (both_below_test s own other) one_side (λ i. refl))
      ∙ either s own one_side (opposite s own other) (is_shared s own other) (λ i. go (ia s own i) (other_above s own other i) (other_below s own other i) ∙ has_either s other (half s own i).segment)
      ∙ sym (some_lefts s own (has_segment (segments s other)))
    where
      one_side : ℕ → Bool
      one_side i = both_above_test s own other i || both_below_test s own other i

      go : (x a b : Bool) → (x && a || not x && b) || (x && b || not x && a) ≡ a || b
      go true true b = refl
      go true false b = or-false b
      go false true true = refl
      go false true false = refl
      go false false true = refl
      go false false false = refl
