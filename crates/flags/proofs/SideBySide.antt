-- The elements that an object's bytes stand for do not depend on where they stand, and so are the same beside another object's bytes as alone.
use Prim.Native.Nat.{ℕ}
use mathlib.Core.Path.{◌≡◌, refl, ap}
use mathlib.Core.List.{List, ◌++◌}
use lib.ListN.{length}
use Rattle.scene.specs.declared.Shape.{Shape}
use Rattle.scene.specs.declared.Shape.TheVariants.{Points, Line, Region}
use Rattle.scene.specs.declared.Layout.{Layout}
use Rattle.scene.specs.Read.{IsObject}
use Rattle.scene.specs.Conditions.{elements, left_test}
use Rattle.scene.proofs.Taken.{layout}
use Rattle.scene.proofs.Indices.{in_element, map_same, kept_same}
use Rattle.scene.proofs.Moved.{placed, moved}
use Rattle.scene.proofs.Standing.{Stands, point_stays, ia_stays, left_stays, left_half_stays, segments_stay}
use Rattle.scene.proofs.SideBySide.{first_stands, second_stands}
use Rattle.flags.specs.Flags.{points, line, region}
use Rattle.flags.specs.Elements.{point_of, points_of, edge_of, edges, elements_as, elements_of}

module _ {d : ℕ} {s : List ℕ} {l : Layout} {t : List ℕ} {to : ℕ} (o : Stands d s l t to) where
  points_stay : l.shape ≡ Points → points_of t (placed to l) ≡ points_of s l
  unfolding points_of
  points_stay e = map_same (point_of t (placed to l)) (point_of s l) (elements l) (λ i m. point_stays o i (in_element l i m) e)

  pub edges_stay : edges t (placed to l) ≡ edges s l
  unfolding edges
  edges_stay =
      kept_same (edge_of t (placed to l)) (edge_of s l) (left_test t (placed to l)) (left_test s l) (elements l) (λ i m. left_stays o i (in_element l i m))
      (λ i m e. let h = in_element l i m in λ x. record { segment = (left_half_stays o i h e x).segment; ia = ia_stays o i h x })

pub elements_stay : {d : ℕ} {s : List ℕ} {l : Layout} {t : List ℕ} {to : ℕ} → Stands d s l t to → elements_of t (placed to l) ≡ elements_of s l
elements_stay {d} {s} {l} {t} {to} = go l.shape
  where
    go : (k : Shape) → Stands d s (layout k l.start l.count) t to → elements_as t (layout k to l.count) k ≡ elements_as s (layout k l.start l.count) k
    go Points o = ap points (points_stay o refl)
    go Line o = ap line (segments_stay o)
    go Region o = ap region (edges_stay o)

module _ (a b : List ℕ) where
  pub first_elements : (l : Layout) → IsObject a l → elements_of (a ++ b) l ≡ elements_of a l
  first_elements l e = elements_stay (first_stands a b l e)

  pub second_elements : (m : Layout) → IsObject b m → elements_of (a ++ b) (moved (length a) m) ≡ elements_of b m
  second_elements m e = elements_stay (second_stands a b m e)
