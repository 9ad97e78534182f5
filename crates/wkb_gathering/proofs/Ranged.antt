-- Every point that is read is in range, and so is every segment.
use Prim.Native.Nat.{ℕ, zero, suc, ◌+◌, ◌≤◌}
use Rattle.std.specs.Prelude.{Ok, Err}
use mathlib.Core.Path.{◌≡◌, refl, sym, subst}
use mathlib.Core.Logic.{⊎_elim}
use mathlib.Core.Bool.{Bool, true, false, not, cond, ◌&&◌}
use mathlib.Core.List.{List, [], ◌∷◌}
use lib.Dec.{T, leb, eqb}
use lib.ListN.{length}
use Rattle.std.specs.List.{flat_map}
use lib.IntN.{ℤ, nat_abs}
use Rattle.whole.specs.Count.{◌∈◌, here, there}
use Rattle.whole.proofs.Logic.{in_nil, in_append}
use Rattle.plane.specs.declared.Point.{Point}
use Rattle.plane.specs.declared.Segment.{Segment}
use Rattle.plane.specs.Plane.{limit, in_range}
use Rattle.plane.proofs.Machine.{is_within}
use Rattle.scene_written.specs.Bytes.{GoodSegment}
use Rattle.wkb_coordinate.specs.declared.Coordinate.{Coordinate}
use Rattle.wkb_coordinate.specs.declared.Coordinate.TheVariants.{Whole, Other}
use Rattle.wkb_coordinate.specs.Coordinate.{coordinate_of}
use Rattle.wkb_coordinate.proofs.Meaning.{value_of_taken}
use Rattle.wkb_grammar.specs.declared.Fault.{Fault}
use Rattle.wkb_grammar.specs.declared.Fault.TheVariants.{Malformed, NoCoordinate, Open}
use Rattle.wkb_grammar.specs.Fields.{Check, is_there, is_little, word_at, float_at, must, type_at, header_at, counted_at, count_at, is_open}
use Rattle.wkb_grammar.specs.Grammar.{Read, got, bad, followed_by, after, many, one, Row, coordinate_at, point_at, ring_at, point_part, line_part, polygon_part, part_at, ended, file}
use Rattle.wkb_rows.specs.Rows.{all_points, points_of, segments_of}
use Rattle.wkb_rows.proofs.Gathered.{points_read, segments_within}
use Rattle.wkb_rows.proofs.Keyed.{AllInRange, segments_in_range}
use Rattle.wkb_gathering.specs.Gathers.{parts_in, parts_of}

-- what is so of each value that a reading can have
abbrev Always : {A : Type 0} → (A → Type 0) → Read A → Type 0
Always P (got a at) = P a
Always P (bad f) = Unit {0}

module _ {A : Type 0} (P : A → Type 0) where
  after_always : (c : Check) (r : Read A) → Always P r → Always P (after c r)
  after_always (Ok u) r h = h
  after_always (Err f) r h = tt

  open_always : (b : Bool) (f : Fault) (r : Read A) → Always P r → Always P (cond b (bad f) r)
  open_always true f r h = tt
  open_always false f r h = h

  abbrev Each : List A → Type 0
  Each l = (a : A) → a ∈ l → P a

  each_cons : (a : A) (l : List A) → P a → Each l → Each (a ∷ l)
  each_cons a l p h b here = p
  each_cons a l p h b (there k) = h b k

  one_always : (r : Read A) → Always P r → Always Each (one r)
  one_always (got a at) h = each_cons a [] h (λ b k. absurd (in_nil k))
  one_always (bad f) h = tt

  many_always : (item : ℕ → Read A) → ((at : ℕ) → Always P (item at)) → (n at : ℕ) → Always Each (many item n at)
  many_always item h zero at = λ b k. absurd (in_nil k)
  many_always item h (suc n) at = go (item at) (h at) (λ next. many_always item h n next)
    where
      rest : (a : A) → P a → (q : Read (List A)) → Always Each q → Always Each (followed_by q (λ rest end. got (a ∷ rest) end))
      rest a p (bad f) k = tt
      rest a p (got l end) k = each_cons a l p k

      go : (r : Read A) → Always P r → ((next : ℕ) → Always Each (many item n next)) → Always Each (followed_by r (λ a next. followed_by (many item n next) (λ rest end. got (a ∷ rest) end)))
      go (bad f) p k = tt
      go (got a next) p k = rest a p (many item n next) (k next)

abbrev pub Small : ℤ → Type 0
Small z = nat_abs z ≤ limit

abbrev pub PointIn : Point → Type 0
PointIn p = T (in_range p)

abbrev pub RowIn : Row → Type 0
RowIn = Each PointIn

abbrev pub PartIn : List Row → Type 0
PartIn = Each RowIn

abbrev pub FileIn : List (List Row) → Type 0
FileIn = Each PartIn

module _ (s : List ℕ) where
  coordinate_always : (little : Bool) (at : ℕ) → Always Small (coordinate_at s little at)
  coordinate_always little at = go (is_there s at 8) refl (coordinate_of (float_at s little at)) refl
    where
      go : (b : Bool) → is_there s at 8 ≡ b → (c : Coordinate) → coordinate_of (float_at s little at) ≡ c → Always Small (coordinate_at s little at)
      go true p (Whole z) q = let k : coordinate_at s little at ≡ got z (at + 8) = rw (p, q) in subst (Always Small) (sym k) (value_of_taken (float_at s little at) z q).1
      go true p (Other x) q = let k : coordinate_at s little at ≡ bad (NoCoordinate at x) = rw (p, q) in subst (Always Small) (sym k) tt
      go false p c q = let k : coordinate_at s little at ≡ bad (Malformed at) = rw p in subst (Always Small) (sym k) tt

  point_always : (little : Bool) (at : ℕ) → Always PointIn (point_at s little at)
  unfolding point_at
  point_always little at = go (coordinate_at s little at) (coordinate_always little at)
    where
      second : (x : ℤ) → Small x → (r : Read ℤ) → Always Small r → Always PointIn (followed_by r (λ y end. got (record { x = x; y = y }) end))
      second x h (got y end) k = is_within limit (record { x = x; y = y }) h k
      second x h (bad f) k = tt

      go : (r : Read ℤ) → Always Small r → Always PointIn (followed_by r (λ x next. followed_by (coordinate_at s little next) (λ y end. got (record { x = x; y = y }) end)))
      go (got x next) h = second x h (coordinate_at s little next) (coordinate_always little next)
      go (bad f) h = tt

  ring_always : (little : Bool) (at : ℕ) → Always RowIn (ring_at s little at)
  unfolding ring_at
  ring_always little at =
      after_always RowIn (must (is_there s at 4 && leb 4 (word_at s little at)) at) _
      (open_always RowIn (is_open s little (word_at s little at) (at + 4)) (Open at) _ (many_always PointIn (point_at s little) (point_always little) (word_at s little at) (at + 4)))

  part_always : (kind at : ℕ) → Always PartIn (part_at s kind at)
  unfolding part_at
  part_always kind at = go (eqb kind 4) (eqb kind 5)
    where
      points : Always PartIn (point_part s at)
      points = after_always PartIn (header_at s at 1 1) _ (one_always RowIn (one (point_at s (is_little s at) (at + 5))) (one_always PointIn (point_at s (is_little s at) (at + 5)) (point_always (is_little s at) (at + 5))))

      lines : Always PartIn (line_part s at)
      lines =
          after_always PartIn (counted_at s at 2 2) _
          (after_always PartIn (must (not (eqb (count_at s at) 1)) (at + 5)) _
          (one_always RowIn (many (point_at s (is_little s at)) (count_at s at) (at + 9)) (many_always PointIn (point_at s (is_little s at)) (point_always (is_little s at)) (count_at s at) (at + 9))))

      polygons : Always PartIn (polygon_part s at)
      polygons = after_always PartIn (counted_at s at 3 3) _ (many_always RowIn (ring_at s (is_little s at)) (ring_always (is_little s at)) (count_at s at) (at + 9))

      go : (b c : Bool) → Always PartIn (cond b (point_part s at) (cond c (line_part s at) (polygon_part s at)))
      go true c = points
      go false true = lines
      go false false = polygons

  parts_good : Always FileIn (file s)
  unfolding file
  parts_good = after_always FileIn (counted_at s 0 4 6) _ (go (many (part_at s (type_at s 0)) (count_at s 0) 9) (many_always PartIn (part_at s (type_at s 0)) (part_always (type_at s 0)) (count_at s 0) 9))
    where
      go : (r : Read (List (List Row))) → Always FileIn r → Always FileIn (followed_by r (ended s))
      go (got parts end) h = after_always FileIn (must (leb (length s) end) end) (got parts end) h
      go (bad f) h = tt

  pub file_good : FileIn (parts_of s)
  file_good = of (file s) parts_good
    where
      of : (r : Read (List (List Row))) → Always FileIn r → FileIn (parts_in r)
      of (got parts end) h = h
      of (bad f) h = λ part m. absurd (in_nil m)

-- what is so of each member of each list is so of each member of all
each_in : {A B : Type 0} (P : B → Type 0) (f : A → List B) (l : List A) → Each (λ a. Each P (f a)) l → Each P (flat_map f l)
each_in P f [] h b m = absurd (in_nil m)
each_in P f (a ∷ l) h b m = ⊎_elim (λ k. h a here b k) (λ k. each_in P f l (λ c n. h c (there n)) b k) (in_append (f a) m)

-- every point of a file is in range
pub file_in_range : (s : List ℕ) → AllInRange (all_points (parts_of s))
file_in_range s = each_in PointIn (flat_map (λ row. row)) (parts_of s) (λ part m. each_in PointIn (λ row. row) part (file_good s part m))

pub points_good : (s : List ℕ) (p : Point) → p ∈ points_of (parts_of s) → T (in_range p)
points_good s p m = file_in_range s p (points_read (parts_of s) p m)

-- and so is every segment, with its left end before its right one
pub segments_good : (s : List ℕ) (t : Segment) → t ∈ segments_of (parts_of s) → GoodSegment t
segments_good s t m = record { in_range_lem = segments_in_range (parts_of s) (file_in_range s) t m; in_order = (segments_within (parts_of s) m).in_order }
