-- The lists of the segments of two objects, and what is refused of their pieces.
use Rattle.std.proofs.Common.{◌≡◌, ◌∙◌, refl, sym, ap, ap₂, subst, ℕ, ◌*◌, ◌-◌, ◌<◌, ◌≤◌, List, length, arith, Ok, Err, None, Some}
use Rattle.std.proofs.lemmas.List.{length-map}
use borrow.Author.Tests.{le-leb, lt-leb}
use Rattle.scene.specs.declared.Layout.{Layout}
use Rattle.scene.specs.declared.Reason.TheVariants.{OffGrid, TooManyElements}
use Rattle.scene.specs.Read.{Fault, most, unless, IsObject}
use Rattle.scene.specs.Conditions.{segments}
use Rattle.split_crossing.specs.Cuts.{split_by}
use Rattle.split_cuts.specs.declared.Piece.{Piece}
use Rattle.split_cuts.specs.Listed.{segments_of, listed, Good}
use Rattle.split_cuts.specs.Split.{off_grid, split_pieces, most_pieces}
use Rattle.split_cuts.proofs.Listing.{same_segments, all_good}
use Rattle.split_cuts.proofs.Steps.{split_segments}
use Rattle.split.specs.declared.cut.CutObject.{CutObject}
use Rattle.split.specs.Split.{split_of, too_many}
use Rattle.split.specs.Cut.{cut_verdict, CutRight}

-- ---- the lists

pub listed_as : {s b : List ℕ} {l o : Layout} {items list : List Piece} → list ≡ items → items ≡ listed b o → b ≡ s → o ≡ l → list ≡ listed s l
listed_as e f g h = e ∙ f ∙ ap₂ listed g h

pub listed_segments : (s : List ℕ) (l : Layout) {list : List Piece} → list ≡ listed s l → segments_of list ≡ segments s l
listed_segments s l e = ap segments_of e ∙ same_segments s l

pub listed_good : (s : List ℕ) (l : Layout) (list : List Piece) → IsObject s l → list ≡ listed s l → Good (segments_of list)
listed_good s l list is e = subst Good (sym (listed_segments s l e)) (all_good s l is)

-- ---- the pieces of one object

-- they are those of the split object
pub pieces_segments : (s : List ℕ) (own other : Layout) → segments_of (split_pieces (segments s other) (listed s own)) ≡ split_of s own other
pieces_segments s own other = split_segments (segments s other) (listed s own) ∙ ap (split_by (segments s other)) (same_segments s own)

pub pieces_length : (s : List ℕ) (own other : Layout) → length (split_pieces (segments s other) (listed s own)) ≡ length (split_of s own other)
pieces_length s own other =
    sym (length-map (split_pieces (segments s other) (listed s own)) (λ (p : Piece). p.segment)) ∙ ap length (pieces_segments s own other)

module _ (s : List ℕ) (own other : Layout) (list others : List Piece) (e : list ≡ listed s own) (f : segments_of others ≡ segments s other) where
  list_length : length list ≡ length (segments s own)
  list_length = sym (length-map list (λ (p : Piece). p.segment)) ∙ ap length (listed_segments s own e)

  all_pieces : split_pieces (segments_of others) list ≡ split_pieces (segments s other) (listed s own)
  all_pieces = ap₂ split_pieces f e

  pub over_512 : most_pieces < length (split_pieces (segments_of others) list) → too_many s own other ≡ Some own.start
  over_512 h =
      let n : most < 2 * length (split_of s own other) = omega (arith, h, ap length all_pieces, pieces_length s own other) in
      ap (λ b. unless b own.start) (lt-leb (2 * length (split_of s own other)) most n)

  module _ (c : CutObject) (is : c.pieces.items ≡ split_pieces (segments_of others) list) where
    pub within_512 : length c.pieces.items ≤ most_pieces → too_many s own other ≡ None
    within_512 h =
        let n : 2 * length (split_of s own other) ≤ most = omega (arith, h, ap length is, ap length all_pieces, pieces_length s own other) in
        ap (λ b. unless b own.start) (le-leb (2 * length (split_of s own other)) most n)

    pub cut_right : c.added ≡ length (split_pieces (segments_of others) list) - length list → CutRight s own other c
    cut_right a =
        record {
          pieces = is ∙ all_pieces;
          added = a ∙ ap₂ ◌-◌ (ap length all_pieces ∙ pieces_length s own other) list_length;
        }

-- ---- what is refused

module _ (s : List ℕ) (own other : Layout) where
  pub off_is : {f : Fault} {b : List ℕ} {o : Layout} (list : List Piece) → f ≡ off_grid b o (segments_of list) → b ≡ s → o ≡ own → segments_of list ≡ segments s other
      → off_grid s own (segments s other) ≡ f
  off_is list e g h k = sym (e ∙ ap₂ (λ x y. off_grid x y (segments_of list)) g h ∙ ap (off_grid s own) k)

  pub off_refused : {p : ℕ} → off_grid s own (segments s other) ≡ Some p → cut_verdict s own other ≡ Err (record { reason = OffGrid; place = p })
  off_refused e = rw e refl

  module _ (on : off_grid s own (segments s other) ≡ None) where
    pub own_refused : {p : ℕ} → too_many s own other ≡ Some p → cut_verdict s own other ≡ Err (record { reason = TooManyElements; place = p })
    own_refused e = rw (on, e) refl

    module _ (few : too_many s own other ≡ None) where
      pub other_refused : {p : ℕ} → too_many s other own ≡ Some p → cut_verdict s own other ≡ Err (record { reason = TooManyElements; place = p })
      other_refused e = rw (on, few, e) refl

      pub both_taken : too_many s other own ≡ None → cut_verdict s own other ≡ Ok tt
      both_taken e = rw (on, few, e) refl
