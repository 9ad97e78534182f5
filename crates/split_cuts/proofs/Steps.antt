-- What is left of a list, one element on: of the cuts of a segment, of the search for the next one, of a test, of the pieces.
use Rattle.std.proofs.Common.{◌≡◌, ◌∙◌, ◌+◌, ◌≤◌, ◌<◌, refl, sym, ap, ap₂, ℕ, suc, zero, Bool, true, false, ◌||◌, cond, List, [], ◌∷◌, ◌++◌, length, get_or, drop, arith, append_assoc, length-append, Result}
use Rattle.std.proofs.lemmas.List.{at_drop_more, length-map}
use mathlib.Core.List.{map-append}
use Rattle.std.proofs.lemmas.Result.{MatchResult-weaker}
use Rattle.std.specs.Result.{MatchResult}
use Rattle.whole.specs.Count.{some}
use Rattle.plane.specs.declared.Point.{Point}
use Rattle.plane.specs.declared.Segment.{Segment}
use Rattle.plane.specs.Plane.{end_within, is_same_point}
use Rattle.split_pieces.specs.Pieces.{between, next_cut, pieces, pieces_from}
use Rattle.split_crossing.specs.declared.Crossing.{Crossing}
use Rattle.split_crossing.specs.declared.Crossing.TheVariants.{Apart, OffGrid, At}
use Rattle.split_crossing.specs.Crossing.{crossing_of}
use Rattle.split_crossing.specs.Cuts.{point_if, crossing_point, cuts_by, cuts, split_by}
use Rattle.split_cuts.specs.declared.Piece.{Piece}
use Rattle.split_cuts.specs.declared.pieces.TooMany.{TooMany}
use Rattle.split_cuts.specs.Listed.{segments_of}
use Rattle.split_cuts.specs.Split.{with_ia, split_pieces, most_pieces}
use Rattle.split_cuts.proofs.Listing.{no_piece}

pub three_lists : {A : Type 0} (a b c d : List A) → ((a ++ b) ++ c) ++ d ≡ a ++ (b ++ (c ++ d))
three_lists a b c d = append_assoc (a ++ b) c d ∙ append_assoc a b (c ++ d)

-- ---- three cuts at most by one segment

one_point : (b : Bool) (p : Point) → length (point_if b p) ≤ 1
one_point true p = omega arith
one_point false p = omega arith

one_crossing : (r : Crossing) → length (crossing_point r) ≤ 1
one_crossing Apart = omega arith
one_crossing OffGrid = omega arith
one_crossing (At c) = omega arith

pub three_cuts : (t u : Segment) → length (cuts_by t u) ≤ 3
unfolding cuts_by
three_cuts t u =
    omega (
      arith,
      length-append (point_if (end_within t u.left) u.left) (point_if (end_within t u.right) u.right ++ crossing_point (crossing_of t u)),
      length-append (point_if (end_within t u.right) u.right) (crossing_point (crossing_of t u)),
      one_point (end_within t u.left) u.left,
      one_point (end_within t u.right) u.right,
      one_crossing (crossing_of t u),
    )

-- ---- what is left of a list of pieces, one on

module _ (list : List Piece) (i : ℕ) (h : i < length list) where
  pub cuts_on : (t : Segment) → cuts (segments_of (drop i list)) t ≡ cuts_by t (get_or list i no_piece).segment ++ cuts (segments_of (drop (i + 1) list)) t
  cuts_on t = at_drop_more (λ l. cuts (segments_of l) t) list i no_piece h

  pub some_on : (f : Segment → Bool) → some f (segments_of (drop i list)) ≡ f (get_or list i no_piece).segment || some f (segments_of (drop (i + 1) list))
  some_on f = at_drop_more (λ l. some f (segments_of l)) list i no_piece h

  pub split_on : (other : List Segment)
      → split_pieces other (drop i list) ≡ with_ia (get_or list i no_piece).ia (pieces (cuts other) (get_or list i no_piece).segment) ++ split_pieces other (drop (i + 1) list)
  split_on other = at_drop_more (split_pieces other) list i no_piece h

-- ---- so many lists one after the other

pub onward : {A : Type 0} (all done a rest : List A) {done' : List A} → all ≡ done ++ (a ++ rest) → done' ≡ done ++ a → all ≡ done' ++ rest
onward all done a rest e f = e ∙ sym (append_assoc done a rest) ∙ ap (λ l. l ++ rest) (sym f)

-- ---- the pieces from p on

pub piece_last : (n : ℕ) (cuts : List Point) (p r q : Point) (ia : Bool) → q ≡ next_cut cuts p r → is_same_point q r ≡ true
    → with_ia ia (pieces_from (suc n) cuts p r) ≡ record { segment = between p r; ia = ia } ∷ []
piece_last n cuts p r q ia e f = ap (λ b. with_ia ia (cond b (between p r ∷ []) (between p (next_cut cuts p r) ∷ pieces_from n cuts (next_cut cuts p r) r))) (ap (λ x. is_same_point x r) (sym e) ∙ f)

pub piece_more : (n : ℕ) (cuts : List Point) (p r q : Point) (ia : Bool) → q ≡ next_cut cuts p r → is_same_point q r ≡ false
    → with_ia ia (pieces_from (suc n) cuts p r) ≡ record { segment = between p q; ia = ia } ∷ with_ia ia (pieces_from n cuts q r)
piece_more n cuts p r q ia e f =
    ap (λ b. with_ia ia (cond b (between p r ∷ []) (between p (next_cut cuts p r) ∷ pieces_from n cuts (next_cut cuts p r) r))) (ap (λ x. is_same_point x r) (sym e) ∙ f)
    ∙ ap (λ x. record { segment = between p x; ia = ia } ∷ with_ia ia (pieces_from n cuts x r)) (sym e)

-- where the row is full at one of them, there are too many
module _ (before row : List Piece) (ia : Bool) (l : List Segment) (rest : List Piece) (e : before ++ with_ia ia l ≡ row ++ rest) where
  ia_length : (l : List Segment) → length (with_ia ia l) ≡ length l
  ia_length [] = refl
  ia_length (t ∷ l) = ap suc (ia_length l)

  pub over : length row ≡ most_pieces → 1 ≤ length rest → most_pieces < length before + length l
  over full more = omega (arith, full, more, ap length e, length-append before (with_ia ia l), length-append row rest, ia_length l)

  -- or it is the last one, and it is put
  pub last_put : (p : Piece) → rest ≡ p ∷ [] → (new : List Piece) (r : Result (Unit {0}) TooMany) → MatchResult r (λ _. new ≡ row ++ p ∷ []) (λ _. length row ≡ most_pieces)
      → MatchResult r (λ _. new ≡ before ++ with_ia ia l) (λ _. most_pieces < length before + length l)
  last_put p is new r m =
      MatchResult-weaker r m (λ _ k. k ∙ ap (λ x. row ++ x) (sym is) ∙ sym e) (λ _ k. over k (omega (arith, ap length is)))

-- more than all before and those of a segment
pub over_all : (all row : List Piece) (ia : Bool) (l : List Segment) (rest : List Piece) → all ≡ row ++ (with_ia ia l ++ rest) → most_pieces < length row + length l → most_pieces < length all
over_all all row ia l rest e h =
    omega (arith, h, ap length e, length-append row (with_ia ia l ++ rest), length-append (with_ia ia l) rest, length-map {B = Piece} l (λ (t : Segment). record { segment = t; ia = ia }))

pub some_piece : (n : ℕ) (cuts : List Point) (p r : Point) (ia : Bool) → 1 ≤ length (with_ia ia (pieces_from n cuts p r))
some_piece zero cuts p r ia = omega arith
some_piece (suc n) cuts p r ia = go (is_same_point (next_cut cuts p r) r)
  where
    go : (b : Bool) → 1 ≤ length (with_ia ia (cond b (between p r ∷ []) (between p (next_cut cuts p r) ∷ pieces_from n cuts (next_cut cuts p r) r)))
    go true = omega arith
    go false = omega arith

-- every segment has a piece
pub enough : (other : List Segment) (l : List Piece) → length l ≤ length (split_pieces other l)
enough other [] = omega arith
enough other (p ∷ l) =
    omega (
      arith,
      enough other l,
      some_piece (length (cuts other p.segment)) (cuts other p.segment) p.segment.left p.segment.right p.ia,
      length-append (with_ia p.ia (pieces (cuts other) p.segment)) (split_pieces other l),
    )

-- ---- the pieces are those of the split object

pub with_segments : (ia : Bool) (l : List Segment) → segments_of (with_ia ia l) ≡ l
with_segments ia [] = refl
with_segments ia (t ∷ l) = ap (λ m. t ∷ m) (with_segments ia l)

pub split_segments : (other : List Segment) (l : List Piece) → segments_of (split_pieces other l) ≡ split_by other (segments_of l)
split_segments other [] = refl
split_segments other (p ∷ l) =
    map-append (λ (q : Piece). q.segment) (with_ia p.ia (pieces (cuts other) p.segment)) (split_pieces other l)
    ∙ ap₂ (λ a b. a ++ b) (with_segments p.ia (pieces (cuts other) p.segment)) (split_segments other l)
