-- The pieces of a segment that is cut at points inside it: "cuts each segment where it crosses or touches one of the other object, and at both ends of a stretch
-- in common" (02, Paper 3). Where that is, is a parameter here: the cuts of a segment are a list of points, in any order, and a point may stand in it twice.
use Rattle.std.specs.Prelude.{ℕ, zero, suc, ◌+◌, ◌≡◌, ◌⊎◌, not, ◌&&◌, cond, List, [], ◌∷◌, ◌++◌, length}
use Rattle.whole.specs.Count.{bit, some, ◌∈◌}
use Rattle.plane.specs.declared.Point.{Point}
use Rattle.plane.specs.declared.Segment.{Segment}
use Rattle.plane.specs.Plane.{before, is_same_point}

abbrev pub between : Point → Point → Segment
between p r = record { left = p; right = r }

-- the two pieces that a cut at q makes of s
abbrev pub up_to : Segment → Point → Segment
up_to s q = between s.left q

abbrev pub from : Segment → Point → Segment
from s q = between q s.right

-- the first cut after p, in the order of points, or r if none comes before r
abbrev pub next_cut : List Point → Point → Point → Point
next_cut [] p r = r
next_cut (c ∷ cuts) p r = next_cut cuts p (cond (before p c && before c r) c r)

-- the pieces from p to r: up to the first cut, and from there on. A segment with n cuts has at most n + 1.
abbrev pub pieces_from : ℕ → List Point → Point → Point → List Segment
pieces_from zero cuts p r = between p r ∷ []
pieces_from (suc n) cuts p r =
    let q = next_cut cuts p r in
    cond (is_same_point q r) (between p r ∷ []) (between p q ∷ pieces_from n cuts q r)

-- the pieces of a segment, and of all segments of an object
abbrev pub pieces : (Segment → List Point) → Segment → List Segment
pieces cuts s = pieces_from (length (cuts s)) (cuts s) s.left s.right

abbrev pub split_all : (Segment → List Point) → List Segment → List Segment
split_all cuts [] = []
split_all cuts (s ∷ l) = pieces cuts s ++ split_all cuts l

-- "the count of added segments": the cuts of all segments, each point of a segment counted once
abbrev pub different : List Point → ℕ
different [] = 0
different (c ∷ l) = bit (not (some (is_same_point c) l)) + different l

abbrev pub added : (Segment → List Point) → List Segment → ℕ
added cuts [] = 0
added cuts (s ∷ l) = different (cuts s) + added cuts l

-- p is an end of t
abbrev pub EndPoint : Segment → Point → Type 0
EndPoint t p = (p ≡ t.left) ⊎ (p ≡ t.right)

-- a point where a segment was cut: an end of one of its pieces, and no end of the segment
pub record NewEnd (cuts : Segment → List Point) (s : Segment) (p : Point) : Type 0 where
  pub piece : Segment
  pub among : piece ∈ pieces cuts s
  pub of : EndPoint piece p
  pub new : EndPoint s p → ⊥
