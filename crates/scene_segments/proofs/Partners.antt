-- 11: the partner of a halfsegment, "of opposite d, equal ends and ia", from the test; and where 11 finds no fault each has one.
use Rattle.std.specs.Prelude.{None}
use Prim.Native.Nat.{ℕ, ◌<◌}
use mathlib.Core.Path.{◌≡◌, refl, sym}
use mathlib.Core.Bool.{Bool, true, false, not, ◌&&◌, beq}
use mathlib.Core.List.{List}
use lib.Dec.{T}
use borrow.Author.Tests.{not-false}
use Rattle.whole.specs.Count.{some}
use Rattle.whole.proofs.Logic.{beq_same, and_left, and_right, is_true, true_is, some_find}
use Rattle.plane.specs.Plane.{is_same_segment}
use Rattle.plane.proofs.Equal.{same_segment_read}
use Rattle.scene.specs.declared.Layout.{Layout}
use Rattle.scene.specs.Conditions.{elements, has_segments, half, ia, partner, is_unpaired, unpaired}
use Rattle.scene_segments.proofs.Indices.{in_element, none_wrong}

-- the element j is so to the element i
pub record Paired (s : List ℕ) (l : Layout) (i j : ℕ) : Type 0 where
  pub other_side : (half s l j).is_left ≡ not (half s l i).is_left
  pub same_segment : (half s l j).segment ≡ (half s l i).segment
  pub same_ia_lem : ia s l j ≡ ia s l i

pub record Partner (s : List ℕ) (l : Layout) (i : ℕ) : Type 0 where
  pub index : ℕ
  pub there : index < l.count
  pub other_side : (half s l index).is_left ≡ not (half s l i).is_left
  pub same_segment : (half s l index).segment ≡ (half s l i).segment
  pub same_ia_lem : ia s l index ≡ ia s l i

beq_not : (a b : Bool) → T (not (beq a b)) → b ≡ not a
beq_not true true t = absurd t
beq_not true false t = refl
beq_not false true t = refl
beq_not false false t = absurd t

module _ (s : List ℕ) (l : Layout) where
  pub as_paired : (i j : ℕ) → T (partner s l i j) → Paired s l i j
  unfolding partner
  as_paired i j t = record {
    other_side = beq_not (half s l i).is_left (half s l j).is_left (and_left sides segments' both);
    same_segment = sym (same_segment_read (half s l i).segment (half s l j).segment (and_right sides segments' both));
    same_ia_lem = sym (beq_same (ia s l i) (ia s l j) (true_is _ (and_right (sides && segments') (beq (ia s l i) (ia s l j)) t)));
  }
    where
      sides : Bool
      sides = not (beq (half s l i).is_left (half s l j).is_left)

      segments' : Bool
      segments' = is_same_segment (half s l i).segment (half s l j).segment

      both : T (sides && segments')
      both = and_left (sides && segments') (beq (ia s l i) (ia s l j)) t

  pub partner_there : unpaired s l ≡ None → has_segments l.shape ≡ true → (i : ℕ) → i < l.count → Partner s l i
  unfolding unpaired
  partner_there paired e i h =
      let w = some_find (partner s l i) (elements l) (is_true (some (partner s l i) (elements l)) found) in
      let p = as_paired i w.0 w.2 in
      record { index = w.0; there = in_element l w.0 w.1; other_side = p.other_side; same_segment = p.same_segment; same_ia_lem = p.same_ia_lem }
    where
      found : some (partner s l i) (elements l) ≡ true
      found = not-false (some (partner s l i) (elements l)) (rw e at (none_wrong l (is_unpaired s l) paired i h))
