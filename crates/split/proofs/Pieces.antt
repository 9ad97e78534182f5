-- The pieces of an object of a pair that is taken can be written: they share only common ends, none occurs twice, and each has the ia that 14 asks of it.
use Rattle.std.proofs.Common.{◌≡◌, ◌∙◌, refl, sym, ap, ap₂, subst, ℕ, ◌*◌, ◌≤◌, Bool, true, List, [], ◌∷◌, map, length, arith, ⊎_elim}
use Rattle.whole.specs.Count.{◌∈◌, here, there}
use Rattle.whole.proofs.Logic.{in_nil, in_append, map_in}
use Rattle.plane.specs.declared.Segment.{Segment}
use Rattle.plane.specs.Plane.{interior_above}
use Rattle.plane.proofs.Order.{ordered_make}
use Rattle.plane.proofs.Accepted.{Across, AllOrdered}
use Rattle.scene.specs.declared.Layout.{Layout}
use Rattle.scene.specs.Read.{most}
use Rattle.scene.specs.Conditions.{elements, keep, has_segments, is_region, left_test, segments}
use Rattle.scene.proofs.Indices.{keep_in, in_element}
use Rattle.scene_written.specs.Bytes.{GoodSegment}
use Rattle.sweep_laws.proofs.SoundObject.{SoundObject, segments_in_range, regular, ia_is, left_in}
use Rattle.split_pieces.specs.Pieces.{pieces}
use Rattle.split_pieces.proofs.Different.{AllDiffer}
use Rattle.split_crossing.specs.Cuts.{cuts}
use Rattle.split_crossing.proofs.SplitWell.{SplitWell}
use Rattle.split_cuts.specs.declared.Piece.{Piece}
use Rattle.split_cuts.specs.Listed.{segments_of, piece_at, listed}
use Rattle.split_cuts.specs.Split.{with_ia, split_pieces}
use Rattle.split.specs.Split.{split_of}
use Rattle.split.specs.Cut.{ias_of, Ready}
use Rattle.split.proofs.Cutting.{pieces_segments, pieces_length}

module _ (s : List ℕ) (own other : Layout) (o : SoundObject s own) (w : SplitWell (segments s own) (segments s other)) where
  abbrev F : List Segment
  F = segments s own

  abbrev G : List Segment
  G = segments s other

  abbrev all : List Piece
  all = split_pieces G (listed s own)

  module _ (region : is_region own.shape ≡ true) where
    abbrev above : Segment → Bool
    above = interior_above (split_of s own other)

    -- a segment that is listed has the ia that 14 asks of it
    of_listed : (p : Piece) → p ∈ listed s own → (p.segment ∈ F) × (p.ia ≡ interior_above F p.segment)
    unfolding listed
    of_listed p m = go (map_in (piece_at s own) (keep (left_test s own) (elements own)) m)
      where
        go : (i : ℕ) × (i ∈ keep (left_test s own) (elements own)) × (piece_at s own i ≡ p) → (p.segment ∈ F) × (p.ia ≡ interior_above F p.segment)
        go v =
            let k = keep_in (left_test s own) (elements own) v.1 in
            let h = in_element own v.0 k.0 in
            subst (λ (q : Piece). (q.segment ∈ F) × (q.ia ≡ interior_above F q.segment)) v.2 (left_in o v.0 h k.1, ia_is o region v.0 h)

    -- and so have its pieces
    of_pieces : (l : List Piece) → ((p : Piece) → p ∈ l → p ∈ listed s own) → (q : Piece) → q ∈ split_pieces G l → q.ia ≡ above q.segment
    of_pieces [] h q m = absurd (in_nil m)
    of_pieces (p ∷ l) h q m = ⊎_elim (λ k. go (map_in (λ t. record { segment = t; ia = p.ia }) (pieces (cuts G) p.segment) k)) (λ k. of_pieces l (λ r n. h r (there n)) q k) (in_append (with_ia p.ia (pieces (cuts G) p.segment)) m)
      where
        go : (t : Segment) × (t ∈ pieces (cuts G) p.segment) × (record { segment = t; ia = p.ia } ≡ q) → q.ia ≡ above q.segment
        go v =
            let f = of_listed p (h p here) in
            subst (λ (r : Piece). r.ia ≡ above r.segment) v.2 (f.1 ∙ sym (w.ia_kept (regular o region) p.segment v.0 f.0 v.1))

    same_ias : (l : List Piece) → ((q : Piece) → q ∈ l → q.ia ≡ above q.segment) → ias_of l ≡ map above (segments_of l)
    same_ias [] h = refl
    same_ias (q ∷ l) h = ap₂ (λ b m. b ∷ m) (h q here) (same_ias l (λ r n. h r (there n)))

    right_ias : ias_of all ≡ map (interior_above (segments_of all)) (segments_of all)
    right_ias =
        same_ias all (of_pieces (listed s own) (λ p m. m))
        ∙ ap (λ (l : List Segment). map (interior_above l) (segments_of all)) (sym (pieces_segments s own other))

  pub ready : has_segments own.shape ≡ true → 2 * length (split_of s own other) ≤ most → AllDiffer (split_of s own other) → Ready own.shape all
  ready has few differ =
      let e = sym (pieces_segments s own other) in
      record {
        has = has;
        few = omega (arith, few, pieces_length s own other);
        good = subst (λ (l : List Segment). (t : Segment) → t ∈ l → GoodSegment t) e
            (λ t m. record { in_range_lem = w.in_range_lem (λ u n. segments_in_range o n) t m; in_order = ordered_make t (w.split.ordered t m) });
        ordered = subst AllOrdered e (λ t m. ordered_make t (w.split.ordered t m));
        apart = subst (λ (l : List Segment). Across l l) e w.split.apart;
        differ = subst AllDiffer e differ;
        right_ia = right_ias;
      }
