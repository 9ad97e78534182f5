-- What rings, parts and the file are where they were taken: what they hold, at its place.
use Prim.Native.Nat.{ℕ, ◌+◌, ◌≤◌}
use Rattle.std.specs.Prelude.{Ok}
use mathlib.Core.Path.{◌≡◌, refl, sym, ap, ◌∙◌, subst}
use mathlib.Core.Bool.{Bool, true, false, not, cond, ◌&&◌}
use mathlib.Core.List.{List}
use lib.Dec.{T, leb, eqb, eqb→eq}
use lib.ListN.{length}
use borrow.Author.Tests.{leb-true, eq-eqb, ne_eqb, eqb-false}
use Rattle.whole.proofs.Logic.{and_left, is_true, true_is}
use Rattle.wkb_grammar.specs.declared.Fault.TheVariants.{Open}
use Rattle.wkb_grammar.specs.Fields.{is_there, is_little, word_at, must, type_at, header_at, counted_at, count_at, is_open}
use Rattle.wkb_grammar.specs.Grammar.{Read, got, bad, is_taken, followed_by, after, many, one, Row, point_at, ring_at, point_part, line_part, polygon_part, part_at, ended, file}
use Rattle.wkb_grammar.proofs.Laws.{header_there, counted_there}
use Rattle.wkb_gathering.specs.Gathers.{parts_in, parts_of}
use Rattle.wkb_grammar.proofs.Taken.{first_taken, check_passed, must_passed}

module _ {A : Type 0} where
  not_open : (b : Bool) (at : ℕ) (r : Read A) → T (is_taken (cond b (bad (Open at)) r)) → cond b (bad (Open at)) r ≡ r
  not_open true at r t = absurd t
  not_open false at r t = refl

  checked : (b : Bool) (at : ℕ) (r : Read A) → b ≡ true → after (must b at) r ≡ r
  checked b at r e = rw e

-- ---- rings
module _ (s : List ℕ) (little : Bool) (at : ℕ) (t : T (is_taken (ring_at s little at))) where
  abbrev its_points : Read Row
  its_points = many (point_at s little) (word_at s little at) (at + 4)

  abbrev its_test : Bool
  its_test = is_there s at 4 && leb 4 (word_at s little at)

  abbrev its_rest : Read Row
  its_rest = cond (is_open s little (word_at s little at) (at + 4)) (bad (Open at)) its_points

  ring_passed : (its_test ≡ true) × T (is_taken its_rest)
  unfolding ring_at
  ring_passed = must_passed its_test at its_rest t

  pub ring_there : at + 4 ≤ length s
  ring_there = leb-true (at + 4) (length s) (true_is (is_there s at 4) (and_left (is_there s at 4) (leb 4 (word_at s little at)) (is_true its_test ring_passed.0)))

  pub ring_is : ring_at s little at ≡ its_points
  unfolding ring_at
  ring_is = checked its_test at its_rest ring_passed.0 ∙ not_open (is_open s little (word_at s little at) (at + 4)) at its_points ring_passed.1

  pub ring_points : T (is_taken its_points)
  ring_points = subst (λ (r : Read Row). T (is_taken r)) ring_is t

-- ---- parts
module _ (s : List ℕ) (at : ℕ) where
  abbrev pub line_points : Read Row
  line_points = many (point_at s (is_little s at)) (count_at s at) (at + 9)

  abbrev pub its_rings : Read (List Row)
  its_rings = many (ring_at s (is_little s at)) (count_at s at) (at + 9)

  module _ (t : T (is_taken (point_part s at))) where
    point_passed : (header_at s at 1 1 ≡ Ok tt) × T (is_taken (one (one (point_at s (is_little s at) (at + 5)))))
    point_passed = check_passed (header_at s at 1 1) (one (one (point_at s (is_little s at) (at + 5)))) t

    pub point_there : at + 5 ≤ length s
    point_there = header_there s at 1 1 point_passed.0

    pub point_part_is : point_part s at ≡ one (one (point_at s (is_little s at) (at + 5)))
    point_part_is = rw point_passed.0

    pub its_point : T (is_taken (point_at s (is_little s at) (at + 5)))
    its_point = first_taken (point_at s (is_little s at) (at + 5)) _ (first_taken (one (point_at s (is_little s at) (at + 5))) _ point_passed.1)

  module _ (t : T (is_taken (line_part s at))) where
    abbrev not_one : Bool
    not_one = not (eqb (count_at s at) 1)

    line_passed : (counted_at s at 2 2 ≡ Ok tt) × T (is_taken (after (must not_one (at + 5)) (one line_points)))
    line_passed = check_passed (counted_at s at 2 2) (after (must not_one (at + 5)) (one line_points)) t

    more_than_one : (not_one ≡ true) × T (is_taken (one line_points))
    more_than_one = must_passed not_one (at + 5) (one line_points) line_passed.1

    pub line_there : at + 9 ≤ length s
    line_there = counted_there s at 2 2 line_passed.0

    pub line_is : line_part s at ≡ one line_points
    line_is = ap (λ c. after c (after (must not_one (at + 5)) (one line_points))) line_passed.0 ∙ checked not_one (at + 5) (one line_points) more_than_one.0

    pub line_taken : T (is_taken line_points)
    line_taken = first_taken line_points _ more_than_one.1

  module _ (t : T (is_taken (polygon_part s at))) where
    polygon_passed : (counted_at s at 3 3 ≡ Ok tt) × T (is_taken its_rings)
    polygon_passed = check_passed (counted_at s at 3 3) its_rings t

    pub polygon_there : at + 9 ≤ length s
    polygon_there = counted_there s at 3 3 polygon_passed.0

    pub polygon_is : polygon_part s at ≡ its_rings
    polygon_is = ap (λ c. after c its_rings) polygon_passed.0

    pub rings_taken : T (is_taken its_rings)
    rings_taken = polygon_passed.1

  module _ (kind : ℕ) where
    pub kind_points : kind ≡ 4 → part_at s kind at ≡ point_part s at
    unfolding part_at
    kind_points e = rw (eq-eqb kind 4 e)

    pub kind_line : (kind ≡ 4 → ⊥) → kind ≡ 5 → part_at s kind at ≡ line_part s at
    unfolding part_at
    kind_line n e = rw (ne_eqb kind 4 n, eq-eqb kind 5 e)

    pub kind_polygon : (kind ≡ 4 → ⊥) → (kind ≡ 5 → ⊥) → part_at s kind at ≡ polygon_part s at
    unfolding part_at
    kind_polygon n m = rw (ne_eqb kind 4 n, ne_eqb kind 5 m)

-- a part that is no point: header and count are there
pub part_there : (s : List ℕ) (kind at : ℕ) → (kind ≡ 4 → ⊥) → T (is_taken (part_at s kind at)) → at + 9 ≤ length s
part_there s kind at n t = go (eqb kind 5) refl
  where
    go : (b : Bool) → eqb kind 5 ≡ b → at + 9 ≤ length s
    go true e = line_there s at (subst (λ (r : Read (List Row)). T (is_taken r)) (kind_line s at kind n (eqb→eq kind 5 (is_true (eqb kind 5) e))) t)
    go false e = polygon_there s at (subst (λ (r : Read (List Row)). T (is_taken r)) (kind_polygon s at kind n (eqb-false kind 5 e)) t)

-- ---- the file
module _ (s : List ℕ) (t : T (is_taken (file s))) where
  abbrev its_parts : Read (List (List Row))
  its_parts = many (part_at s (type_at s 0)) (count_at s 0) 9

  file_passed : (counted_at s 0 4 6 ≡ Ok tt) × T (is_taken (followed_by its_parts (ended s)))
  unfolding file
  file_passed = check_passed (counted_at s 0 4 6) (followed_by its_parts (ended s)) t

  pub file_there : 9 ≤ length s
  file_there = counted_there s 0 4 6 file_passed.0

  pub parts_taken : T (is_taken its_parts)
  parts_taken = first_taken its_parts (ended s) file_passed.1

  -- they are those of the file
  pub parts_are : (parts : List (List Row)) (at : ℕ) → its_parts ≡ got parts at → parts ≡ parts_of s
  unfolding file
  parts_are parts at e = sym (ap parts_in (parted ∙ checked (leb (length s) at) at (got parts at) (must_passed (leb (length s) at) at (got parts at) (subst (λ (r : Read (List (List Row))). T (is_taken r)) parted t)).0))
    where
      parted : file s ≡ ended s parts at
      parted = ap (λ c. after c (followed_by its_parts (ended s))) file_passed.0 ∙ ap (λ (r : Read (List (List Row))). followed_by r (ended s)) e

-- a MultiPoint's parts are points
pub of_points : (s : List ℕ) (count from : ℕ) → type_at s 0 ≡ 4 → many (part_at s (type_at s 0)) count from ≡ many (point_part s) count from
of_points s count from e = λ i. many (λ at. kind_points s at (type_at s 0) e i) count from
