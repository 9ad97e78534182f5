use Rattle.std.proofs.Common.{◌≡◌, ◌∙◌, ◌+◌, ◌++◌, ◌<◌, refl, sym, ap, subst, ℕ, Bool, true, false, List, [], ◌∷◌, length, None, Some, true≢false}
use Rattle.arrayvec.specs.ArrayVec.{ArrayVec}
use Rattle.whole.specs.Count.{some}
use Rattle.plane.specs.declared.Halfsegment.{Halfsegment}
use Rattle.plane.specs.declared.Point.{Point}
use Rattle.plane.specs.declared.Segment.{Segment}
use Rattle.scene.specs.declared.Layout.{Layout}
use Rattle.scene.specs.Conditions.{elements, has_segments, half, ia, left_test, earliest}
use Rattle.scene_segments.proofs.Walk.{between, earliest_here, earliest_later, all_between, passes_is}
use Rattle.split_pieces.specs.Pieces.{pieces, pieces_from}
use Rattle.split_crossing.specs.Cuts.{cuts}
use Rattle.split_cuts.specs.declared.Piece.{Piece}
use Rattle.split_cuts.specs.Listed.{segments_of, listed}
use Rattle.split_cuts.specs.Split.{with_ia, crosses_off, is_off_grid, off_grid, split_pieces, most_pieces, Fits}
use Rattle.split_cuts.proofs.Listing.{is_left, listed_from, listed_all, listed_left, listed_right, no_list}
use Rattle.split_cuts.proofs.Steps.{onward, over_all}
use Rattle.split_cuts.proofs.first.split_first.Goals as goal
use Rattle.split_cuts.proofs.first.split_first.Goals.{then-h+else-cuts_of, else-h}

module _ (s : List ℕ) (l : Layout) (other : List Segment) where
  -- points have no segments
  none_off : has_segments l.shape ≡ false → off_grid s l other ≡ None
  unfolding off_grid
  none_off e = go (elements l)
    where
      go : (is : List ℕ) → earliest l (is_off_grid s l other) is ≡ None
      go [] = refl
      go (i ∷ is) = rw e (go is)

  off_all : off_grid s l other ≡ earliest l (is_off_grid s l other) (between 0 l.count)
  unfolding off_grid
  off_all = ap (earliest l (is_off_grid s l other)) (all_between l.count)

  -- the pieces of one more segment
  module _ (i : ℕ) (h : i < l.count) (row : List Piece) where
    abbrev ours : List Segment
    ours = pieces (cuts other) (half s l i).segment

    abbrev rest : List Piece
    rest = split_pieces other (listed_from s l (between (i + 1) l.count))

    fits_at : (r had : Bool) (after : List Piece) {a : Bool} {x : List Point} {t : Segment} → x ≡ cuts other t → t ≡ (half s l i).segment → a ≡ ia s l i
        → Fits r had row after a (pieces_from (length x) x t.left t.right) → Fits r had row after (ia s l i) ours
    fits_at r had after {a} {x} {t} e f g k =
        subst (λ b. Fits r had row after b ours) g
        (subst (λ u. Fits r had row after a (pieces (cuts other) u)) f
        (subst (λ (y : List Point). Fits r had row after a (pieces_from (length y) y t.left t.right)) e k))

    one_on : left_test s l i ≡ true → split_pieces other (listed s l) ≡ row ++ split_pieces other (listed_from s l (between i l.count))
        → split_pieces other (listed s l) ≡ row ++ (with_ia (ia s l i) ours ++ rest)
    one_on left e = e ∙ ap (λ m. row ++ split_pieces other m) (listed_left s l i h left)

    -- it has room, or not
    room_on : left_test s l i ≡ true → (had : Bool) → (had ≡ true → split_pieces other (listed s l) ≡ row ++ split_pieces other (listed_from s l (between i l.count)))
        → (after : List Piece) → Fits true had row after (ia s l i) ours → split_pieces other (listed s l) ≡ after ++ rest
    room_on left had inv after f = onward (split_pieces other (listed s l)) row (with_ia (ia s l i) ours) rest (one_on left (inv f.0)) f.1

    over_on : left_test s l i ≡ true → (had : Bool) → (had ≡ true → split_pieces other (listed s l) ≡ row ++ split_pieces other (listed_from s l (between i l.count)))
        → (had ≡ false → most_pieces < length (split_pieces other (listed s l)))
        → (after : List Piece) → Fits false had row after (ia s l i) ours → most_pieces < length (split_pieces other (listed s l))
    over_on left true inv over after f = over_all (split_pieces other (listed s l)) row (ia s l i) ours rest (one_on left (inv refl)) (f refl)
    over_on left false inv over after f = over refl

pub returns-then-not-has_segments : goal.returns-then-not-has_segments
returns-then-not-has_segments c =
    let s = c.args.own.bytes.now in
    let l = c.args.own.layout in
    let other = segments_of c.args.other.list.now in
    let none = sym c.has_segments.ensures ∙ c.if-not-has_segments.true in
    (none_off s l other none, c.new.ensures ∙ sym (ap (split_pieces other) (no_list s l none)))

pub loop-i-init : goal.loop-i-init
loop-i-init c =
    let s = c.args.own.bytes.now in
    let l = c.args.own.layout in
    let other = segments_of c.args.other.list.now in
    record {
      on = off_all s l other;
      room = λ _. ap (split_pieces other) (listed_all s l) ∙ ap (λ m. m ++ split_pieces other (listed_from s l (between 0 l.count))) (sym c.new-row.ensures);
      over = λ e. absurd (true≢false e);
    }

pub returns-then-cuts_of : goal.returns-then-cuts_of
returns-then-cuts_of c =
    let s = c.args.own.bytes.now in
    let l = c.args.own.layout in
    let other = segments_of c.args.other.list.now in
    let is = passes_is s l c.loop-i.i (sym c.has_segments.ensures ∙ c.if-not-has_segments.false) c.half-h.ensures.is (λ t. some (crosses_off t) other) in
    c.loop-i.invariant.on
    ∙ earliest_here l (is_off_grid s l other) c.loop-i.i l.count c.loop-i-test.true (is ∙ rw c.if-h.true (sym c.cuts_of.ensures.0 ∙ c.if-cuts_of.true))
    ∙ ap Some (sym c.place.ensures.is)

pub loop-i-preserved : goal.loop-i-preserved
loop-i-preserved c =
    let s = c.args.own.bytes.now in
    let l = c.args.own.layout in
    let i = c.loop-i.i in
    let h = c.loop-i-test.true in
    let other = segments_of c.args.other.list.now in
    let has = sym c.has_segments.ensures ∙ c.if-not-has_segments.false in
    let inv = c.loop-i.invariant in
    let is = passes_is s l i has c.half-h.ensures.is (λ t. some (crosses_off t) other) in
    elim c.if-h.branch [
      | then-h+else-cuts_of w ↦
          let left : left_test s l i ≡ true = is_left s l i true has c.half-h.ensures.is w.if-h.true in
          let row = c.loop-i.row.items in
          let put = w.has_room_for-has_room.new.row.items in
          let fits = fits_at s l other i h row _ _ _ (w.as_slice.ensures.value ∙ w.cuts_of.ensures.1) (ap (λ (k : Halfsegment). k.segment) c.half-h.ensures.is) w.ia.ensures w.has_room_for-has_room.ensures in
          record {
            on = inv.on ∙ earliest_later l (is_off_grid s l other) i l.count h (is ∙ rw w.if-h.true (sym w.cuts_of.ensures.0 ∙ w.if-cuts_of.false));
            room = λ q.
                room_on s l other i h row left c.loop-i.has_room inv.room put (subst (λ r. Fits r c.loop-i.has_room row put (ia s l i) (ours s l other i h row)) (sym w.has_room-is ∙ q) fits)
                ∙ ap (λ (v : ArrayVec Piece). v.items ++ rest s l other i h row) (sym w.row-is);
            over = λ q.
                over_on s l other i h row left c.loop-i.has_room inv.room inv.over put
                (subst (λ r. Fits r c.loop-i.has_room row put (ia s l i) (ours s l other i h row)) (sym w.has_room-is ∙ q) fits);
          }
      | else-h w ↦
          let right : left_test s l i ≡ false = is_left s l i false has c.half-h.ensures.is w.if-h.false in
          record {
            on = inv.on ∙ earliest_later l (is_off_grid s l other) i l.count h (is ∙ rw w.if-h.false refl);
            room = λ q.
                inv.room (sym w.has_room-is ∙ q) ∙ ap (λ m. c.loop-i.row.items ++ split_pieces other m) (listed_right s l i h right)
                ∙ ap (λ (v : ArrayVec Piece). v.items ++ split_pieces other (listed_from s l (between (i + 1) l.count))) (sym w.row-is);
            over = λ q. inv.over (sym w.has_room-is ∙ q);
          }
    ]
