-- The halves of the segments in a row by name: what the names in order name is what is written.
use Rattle.std.proofs.Common.{◌≡◌, ℕ, zero, suc, ◌+◌, ◌<◌, Bool, true, false, List, [], ◌∷◌, ◌++◌, map, length, get_or, take, refl, sym, ap, ap₂, subst, ◌∙◌, add-one, arith}
use mathlib.Core.List.{map-append}
use lib.Seq.{take_all, take-length, take-suc, length-take-le}
use lib.ListN.{length-map}
use Rattle.whole.proofs.Logic.{in_at}
use Rattle.plane.specs.declared.Segment.{Segment}
use Rattle.plane.specs.declared.Halfsegment.{Halfsegment}
use Rattle.plane.specs.Plane.{comes_before}
use Rattle.plane.proofs.Order.{half_of}
use Rattle.scene.specs.declared.Shape.TheVariants.{Line, Region}
use Rattle.scene_keys.specs.declared.Ends.{Ends}
use Rattle.scene_keys.specs.Keyed.{keyed_segment}
use Rattle.scene_written.specs.Bytes.{Edge}
use Rattle.scene_written.specs.Arranged.{halves_of}
use Rattle.scene_writing.specs.declared.order.Half.{Half}
use Rattle.scene_writing.specs.Rows.{segments_in}
use Rattle.scene_writing.specs.Settled.{settle, edges_of, edge_before, settled_items}
use Rattle.scene_writing.specs.Named.{no_ends, half_in, earlier_in, edge_in, AreHalves, no_half, names_of}
use Rattle.scene_writing.proofs.Settling.{settle_append, settle_map}

-- one more segment: its left half sinks, then its right one
pub settle_next : (less : Half → Half → Bool) (i : ℕ)
    → settle less [] (names_of (i + 1)) ≡ settle less (settle less [] (names_of i)) (record { index = i; is_left = true } ∷ record { index = i; is_left = false } ∷ [])
settle_next less i = ap (λ (n : ℕ). settle less [] (names_of n)) (add-one i) ∙ settle_append less [] (names_of i) _

-- each of a list is a half of a segment of the row
pub half_at : (row : List Ends) {order items : List Half} → AreHalves row order → items ≡ order → (i : ℕ) → i < length items → (get_or items i no_half).index < length row
half_at row {items = items} halves e i h = subst (AreHalves row) (sym e) halves (get_or items i no_half) (in_at items no_half i h)

-- ---- the names of the first segments, one segment after the other

module _ {A : Type 0} (f : Half → A) (g : ℕ → List A) (none : g 0 ≡ []) where
  named : (n : ℕ) → ((i : ℕ) → i < n → g (suc i) ≡ g i ++ (f (record { index = i; is_left = true }) ∷ f (record { index = i; is_left = false }) ∷ []))
      → map f (names_of n) ≡ g n
  named zero h = sym none
  named (suc n) h =
      map-append f (names_of n) (record { index = n; is_left = true } ∷ record { index = n; is_left = false } ∷ [])
      ∙ ap (λ (r : List A). r ++ (f (record { index = n; is_left = true }) ∷ f (record { index = n; is_left = false }) ∷ [])) (named n (λ i k. h i (omega arith)))
      ∙ sym (h n (omega arith))

halves_append : (xs ys : List Segment) → halves_of (xs ++ ys) ≡ halves_of xs ++ halves_of ys
halves_append [] ys = refl
halves_append (x ∷ xs) ys = ap (λ (r : List Halfsegment). half_of true x ∷ half_of false x ∷ r) (halves_append xs ys)

edges_append : (xs : List Segment) (bs : List Bool) (t : Segment) (b : Bool) → length xs ≡ length bs
    → edges_of (xs ++ t ∷ []) (bs ++ b ∷ []) ≡ edges_of xs bs ++ (record { half = half_of true t; ia = b } ∷ record { half = half_of false t; ia = b } ∷ [])
edges_append [] [] t b e = refl
edges_append [] (c ∷ bs) t b e = absurd (omega arith)
edges_append (x ∷ xs) [] t b e = absurd (omega arith)
edges_append (x ∷ xs) (c ∷ bs) t b e =
    ap (λ (r : List Edge). record { half = half_of true x; ia = c } ∷ record { half = half_of false x; ia = c } ∷ r) (edges_append xs bs t b (omega arith))

module _ (row : List Ends) where
  -- the segments of one more
  segments_push : (i : ℕ) → i < length row → segments_in (take (suc i) row) ≡ segments_in (take i row) ++ keyed_segment (get_or row i no_ends) ∷ []
  segments_push i h = ap segments_in (take-suc row i no_ends h) ∙ map-append keyed_segment (take i row) (get_or row i no_ends ∷ [])

  lines_named : map (half_in row) (names_of (length row)) ≡ halves_of (segments_in row)
  lines_named = named (half_in row) (λ i. halves_of (segments_in (take i row))) refl (length row) one ∙ ap (λ (r : List Ends). halves_of (segments_in r)) (take-length row)
    where
      one : (i : ℕ) → i < length row
          → halves_of (segments_in (take (suc i) row))
          ≡ halves_of (segments_in (take i row)) ++ (half_of true (keyed_segment (get_or row i no_ends)) ∷ half_of false (keyed_segment (get_or row i no_ends)) ∷ [])
      one i h = ap halves_of (segments_push i h) ∙ halves_append (segments_in (take i row)) (keyed_segment (get_or row i no_ends) ∷ [])

  edges_named : (ia : List Bool) → length ia ≡ length row → map (edge_in row ia) (names_of (length row)) ≡ edges_of (segments_in row) ia
  edges_named ia same =
      named (edge_in row ia) (λ i. edges_of (segments_in (take i row)) (take i ia)) refl (length row) one
      ∙ ap₂ (λ (r : List Ends) (b : List Bool). edges_of (segments_in r) b) (take-length row) (take_all (length row) ia (omega (arith, same)))
    where
      one : (i : ℕ) → i < length row
          → edges_of (segments_in (take (suc i) row)) (take (suc i) ia)
          ≡ edges_of (segments_in (take i row)) (take i ia)
          ++ (edge_in row ia (record { index = i; is_left = true }) ∷ edge_in row ia (record { index = i; is_left = false }) ∷ [])
      one i h =
          ap₂ edges_of (segments_push i h) (take-suc ia i false (omega (arith, same)))
          ∙ edges_append (segments_in (take i row)) (take i ia) (keyed_segment (get_or row i no_ends)) (get_or ia i false)
          (length-map (take i row) keyed_segment ∙ length-take-le i row (omega arith) ∙ sym (length-take-le i ia (omega (arith, same))))

  -- ---- what the names in order name

  pub line_named : map (half_in row) (settle (earlier_in row) [] (names_of (length row))) ≡ settled_items Line (segments_in row) []
  unfolding settled_items
  line_named = settle_map (half_in row) comes_before [] (names_of (length row)) ∙ ap (settle comes_before []) lines_named

  pub region_named : (ia : List Bool) → length ia ≡ length row → map (edge_in row ia) (settle (earlier_in row) [] (names_of (length row))) ≡ settled_items Region (segments_in row) ia
  unfolding settled_items
  region_named ia same = settle_map (edge_in row ia) edge_before [] (names_of (length row)) ∙ ap (settle edge_before []) (edges_named ia same)
