-- The elements of an object that are left halfsegments, in a list, one after the other.
use Rattle.std.proofs.Common.{◌≡◌, ◌∙◌, ◌+◌, ◌≤◌, ◌<◌, refl, sym, ap, ap₂, ℕ, Bool, true, false, List, [], ◌∷◌, map, length, get_or, pos, T, subst}
use Rattle.whole.specs.Count.{◌∈◌}
use Rattle.whole.proofs.Logic.{in_at, in_map, map_in, and_left, is_true, true_is}
use Rattle.plane.specs.declared.Halfsegment.{Halfsegment}
use Rattle.scene.specs.declared.Layout.{Layout}
use Rattle.plane.specs.Plane.{segment_in_range, ordered}
use Rattle.scene.specs.Read.{place, IsObject}
use Rattle.scene.proofs.Given.{GoodHalfsegment}
use Rattle.scene.specs.Conditions.{elements, keep, has_segments, half, ia, left_test, segments}
use Rattle.scene.proofs.Indices.{keep_in, in_element}
use Rattle.scene_segments.proofs.Elements.{half_good}
use Rattle.scene_segments.proofs.Walk.{between, all_between, between_next, between_none}
use Rattle.split_cuts.specs.declared.Piece.{Piece}
use Rattle.split_cuts.specs.Listed.{segments_of, piece_at, listed, Good}

module _ (s : List ℕ) (l : Layout) where
  -- those among the elements is
  abbrev pub listed_from : List ℕ → List Piece
  listed_from is = map (piece_at s l) (keep (left_test s l) is)

  pub listed_all : listed s l ≡ listed_from (between 0 l.count)
  unfolding listed
  listed_all = ap listed_from (all_between l.count)

  pub listed_left : (i : ℕ) → i < l.count → left_test s l i ≡ true → listed_from (between i l.count) ≡ piece_at s l i ∷ listed_from (between (i + 1) l.count)
  listed_left i h e = rw (between_next i l.count h, e) refl

  pub listed_right : (i : ℕ) → i < l.count → left_test s l i ≡ false → listed_from (between i l.count) ≡ listed_from (between (i + 1) l.count)
  listed_right i h e = rw (between_next i l.count h, e) refl

  pub listed_over : (i : ℕ) → l.count ≤ i → listed_from (between i l.count) ≡ []
  listed_over i h = rw (between_none i l.count h) refl

  pub no_list : has_segments l.shape ≡ false → listed s l ≡ []
  unfolding listed
  no_list e = go (elements l)
    where
      go : (is : List ℕ) → listed_from is ≡ []
      go [] = refl
      go (i ∷ is) = rw e (go is)

  pub same_segments : segments_of (listed s l) ≡ segments s l
  unfolding listed segments
  same_segments = go (keep (left_test s l) (elements l))
    where
      go : (is : List ℕ) → segments_of (map (piece_at s l) is) ≡ map (λ i. (half s l i).segment) is
      go [] = refl
      go (i ∷ is) = ap (λ m. (half s l i).segment ∷ m) (go is)

  -- they are good
  pub all_good : IsObject s l → Good (segments s l)
  unfolding segments
  all_good is t m = go (map_in (λ i. (half s l i).segment) (keep (left_test s l) (elements l)) m)
    where
      go : (i : ℕ) × (i ∈ keep (left_test s l) (elements l)) × ((half s l i).segment ≡ t) → T (segment_in_range t) × T (ordered t)
      go w = (subst (λ u. T (segment_in_range u)) w.2 g.in_range_lem, subst (λ u. T (ordered u)) w.2 g.in_order)
        where
          k : (w.0 ∈ elements l) × (left_test s l w.0 ≡ true)
          k = keep_in (left_test s l) (elements l) w.1

          g : GoodHalfsegment s (place l w.0)
          g = half_good s l is w.0 (in_element l w.0 k.0) (true_is (has_segments l.shape) (and_left (has_segments l.shape) (half s l w.0).is_left (is_true (left_test s l w.0) k.1)))

-- an element that was read is a left one, or not; and it is listed with its ia
pub is_left : (s : List ℕ) (l : Layout) (i : ℕ) (b : Bool) → has_segments l.shape ≡ true → {h : Halfsegment} → h ≡ half s l i → h.is_left ≡ b → left_test s l i ≡ b
is_left s l i b has is e = rw has (ap (λ (k : Halfsegment). k.is_left) (sym is) ∙ e)

pub piece_is : (s : List ℕ) (l : Layout) (i : ℕ) {h : Halfsegment} {b : Bool} → h ≡ half s l i → b ≡ ia s l i → record { segment = h.segment; ia = b } ≡ piece_at s l i
piece_is s l i is e = ap₂ (λ (k : Halfsegment) (a : Bool). record { segment = k.segment; ia = a }) is e

-- ---- a good one, by where it stands

-- what stands past the last
abbrev pub no_piece : Piece
no_piece = record { segment = record { left = record { x = pos 0; y = pos 0 }; right = record { x = pos 0; y = pos 0 } }; ia = false }

pub good_at : (list : List Piece) → Good (segments_of list) → (i : ℕ) → i < length list
    → T (segment_in_range (get_or list i no_piece).segment) × T (ordered (get_or list i no_piece).segment)
good_at list good i h = good (get_or list i no_piece).segment (in_map (λ (q : Piece). q.segment) (in_at list no_piece i h))
