-- Sets of points by what they are made of: single points, curves, open areas; and what two of them have in common.
use mathlib.Core.Path.{◌≡◌, sym, subst}
use mathlib.Core.Logic.{⊎_elim}
use mathlib.Core.Bool.{Bool, true, false, not}
use mathlib.Core.List.{List, [], ◌∷◌, ◌++◌}
use lib.Dec.{T}
use Rattle.whole.specs.Count.{◌∈◌, here, there, some}
use Rattle.whole.proofs.Sign.{Pos, one_pos}
use Rattle.whole.proofs.Logic.{in_left, in_right, in_append, or_left, or_right}
use Rattle.plane.specs.declared.Point.{Point}
use Rattle.plane.specs.declared.Segment.{Segment}
use Rattle.plane.specs.Plane.{HPoint, FractionPoint, fractions, grid, is_at, is_end, is_on_some}
use Rattle.plane.proofs.OnSegment.{Ordered, Along, Away}
use Rattle.plane.proofs.Means.{EndOf, left_end, right_end, at_make, between_compose}
use Rattle.plane.proofs.Meeting.{between_swap}
use Rattle.plane.proofs.Order.{ends_differ}
use Rattle.plane.proofs.Accepted.{Across}
use Rattle.plane.proofs.Scale.{ScaleFree, fractions_pos, as_fractions, at_fractions}
use Rattle.cells_matrix.proofs.Common.{on_find, at_unique}
use Rattle.plane_dimensions.specs.declared.Dimension.{Dimension}
use Rattle.plane_dimensions.specs.declared.Dimension.TheVariants.{Empty, Points, Length, Area}
use Rattle.plane_dimensions.specs.Dimensions.{Same, Stretch, Patch, Value}
use Rattle.plane_dimensions.proofs.Avoided.{Place, at, off, place}
use Rattle.plane_dimensions.proofs.Spans.{first_end}
use Rattle.plane_dimensions.proofs.Border.{stretch_make}
use Rattle.plane_dimensions.proofs.Values.{no_patch, at_points}
use Rattle.plane_dimensions.proofs.Around.{Around, around_fewer, patch_around, span_around, same_at_grid}
use Rattle.plane_dimensions.proofs.Inner.{clear_ends, stretch_along}

-- ---- what a set is made of

pub data Kind : Type 0 where
  dots curves areas : Kind

-- what two sets have in common, if it is not empty: the lesser of the two; of two curves a length only where a segment is common
abbrev pub in_common : Kind → Kind → Bool → Dimension
in_common dots dots segment = Points
in_common dots curves segment = Points
in_common dots areas segment = Points
in_common curves dots segment = Points
in_common curves curves true = Length
in_common curves curves false = Points
in_common curves areas segment = Length
in_common areas dots segment = Points
in_common areas curves segment = Length
in_common areas areas segment = Area

-- at the points of a list
pub record Dots (A : HPoint → Bool) : Type 0 where
  pub list : List Point
  pub among : (p : HPoint) → T (A p) → T (some (λ e. is_at e p) list)

-- on the segments of l, and all their points but their ends
pub record Curves (l : List Segment) (A : HPoint → Bool) : Type 0 where
  pub ordered : (t : Segment) → t ∈ l → Ordered t
  pub on : (p : HPoint) → T (A p) → T (is_on_some l p)
  pub inner : (p : HPoint) (s : Segment) → s ∈ l → Along s p → ((t : Segment) → t ∈ l → is_end t p ≡ false) → T (A p)

-- off some segments and points, and with each point all those around it
pub record Areas (A : HPoint → Bool) : Type 0 where
  pub segments : List Segment
  pub posts : List Point
  pub ordered : (t : Segment) → t ∈ segments → Ordered t
  pub away : (p : HPoint) → Pos p.W → T (A p) → (t : Segment) → t ∈ segments → Away t p
  pub off : (p : HPoint) → Pos p.W → T (A p) → (e : Point) → e ∈ posts → is_at e p ≡ false
  pub stays : (p q : HPoint) → Pos p.W → Pos q.W → T (A p) → Around segments posts p q → T (A q)

abbrev pub Has : Kind → List Segment → (HPoint → Bool) → Type 0
Has dots l A = Dots A
Has curves l A = Curves l A
Has areas l A = Areas A

-- ---- the ends of segments

pub ends : List Segment → List Point
ends [] = []
ends (s ∷ l) = s.left ∷ s.right ∷ ends l

pub end_among : {s : Segment} {l : List Segment} (p : HPoint) → s ∈ l → EndOf s p → T (some (λ e. is_at e p) (ends l))
unfolding ends
end_among {s} p (here {l = l}) (left_end h) = or_left (is_at s.left p) _ (at_make s.left p h)
end_among {s} p (here {l = l}) (right_end h) = or_right (is_at s.left p) _ (or_left (is_at s.right p) _ (at_make s.right p h))
end_among {s} p (there {b = b} {l = l} m) e = or_right (is_at b.left p) _ (or_right (is_at b.right p) _ (end_among p m e))

-- ---- two sets

abbrev pub Both : (A B : HPoint → Bool) → FractionPoint → Type 0
Both A B p = T (A (fractions p)) × T (B (fractions p))

abbrev pub Common : (A B : HPoint → Bool) → Type 0
Common A B = (p : HPoint) × Pos p.W × T (A p) × T (B p)

pub value_swap : (A B : HPoint → Bool) (d : Dimension) → Value d (Both A B) → Value d (Both B A)
value_swap A B Empty v = λ p h. v p (h.1, h.0)
value_swap A B Points v = (v.0, (v.1.1, v.1.0), record { list = v.2.list; each = λ p h. v.2.each p (h.1, h.0) })
value_swap A B Length v = (record { a = v.0.a; b = v.0.b; non_zero = v.0.non_zero; all = λ p h. let w = v.0.all p h in (w.1, w.0) }, λ h. v.1 (record { a = h.a; b = h.b; c = h.c; non_zero = h.non_zero; all = λ p k. let w = h.all p k in (w.1, w.0) }))
value_swap A B Area v = record { a = v.a; b = v.b; c = v.c; non_zero = v.non_zero; all = λ p h. let w = v.all p h in (w.1, w.0) }

turn : (A B : HPoint → Bool) → Common A B → Common B A
turn A B w = (w.0, w.1, w.3, w.2)

module _ (A B : HPoint → Bool) where
  -- a common point, as a fraction point
  some_point : ScaleFree A → ScaleFree B → Common A B → (p : FractionPoint) × Both A B p
  some_point f g w =
      ((as_fractions w.0 w.1).0, (subst T (sym (at_fractions A f w.0 w.1)) w.2, subst T (sym (at_fractions B g w.0 w.1)) w.3))

  pub dots_any : ScaleFree A → ScaleFree B → Dots A → Common A B → Value Points (Both A B)
  dots_any f g d w = let p = some_point f g w in (p.0, p.1, at_points d.list (λ q h. d.among (fractions q) h.0))

  pub areas_areas : Areas A → Areas B → Common A B → Value Area (Both A B)
  areas_areas a b w =
      patch_around (a.segments ++ b.segments) (a.posts ++ b.posts) w.0
      (λ t m. ⊎_elim (a.ordered t) (b.ordered t) (in_append a.segments m)) w.1
      (λ t m. ⊎_elim (a.away w.0 w.1 w.2 t) (b.away w.0 w.1 w.3 t) (in_append a.segments m))
      (λ e m. ⊎_elim (a.off w.0 w.1 w.2 e) (b.off w.0 w.1 w.3 e) (in_append a.posts m))
      (λ q r. (a.stays w.0 (fractions q) w.1 (fractions_pos q) w.2 (around_fewer (λ t m. in_left b.segments m) (λ e m. in_left b.posts m) r), b.stays w.0 (fractions q) w.1 (fractions_pos q) w.3 (around_fewer (λ t m. in_right a.segments m) (λ e m. in_right a.posts m) r)))

  module _ {l : List Segment} (a : Curves l A) where
    flat : Patch (Both A B) → ⊥
    flat = no_patch l a.ordered (λ p h. a.on (fractions p) h.0)

    -- from any point of a segment there is a way along it
    pub curves_areas : Areas B → Common A B → Value Length (Both A B)
    curves_areas b w = (along (on_find l a.ordered w.0 (a.on w.0 w.2)), flat)
      where
        from : (s : Segment) → s ∈ l → Along s w.0 → (d : HPoint) → Pos d.W → Along s d → (Same w.0 d → ⊥) → Stretch (Both A B)
        from s m h d d-pos k far =
            let v = span_around b.segments b.posts w.0 b.ordered w.1 (b.away w.0 w.1 w.3) (b.off w.0 w.1 w.3) d d-pos far in
            let u = clear_ends l v.small in
            stretch_make u.small
            (λ q i.
            let r = u.inner (fractions q) i in
            (a.inner (fractions q) s m (between_compose h k (v.inner (fractions q) r)) (u.all (fractions q) (fractions_pos q) i), b.stays w.0 (fractions q) w.1 (fractions_pos q) w.3 (v.all (fractions q) (fractions_pos q) r)))

        along : (s : Segment) × (s ∈ l) × Along s w.0 → Stretch (Both A B)
        along x = go (place (grid x.0.left) w.0)
          where
            go : Place (grid x.0.left) w.0 → Stretch (Both A B)
            go (off k) = from x.0 x.1 x.2 (grid x.0.left) (one_pos 0) (first_end (grid x.0.left) (grid x.0.right)) (k.gives w.0 k.above)
            go (at i) =
                from x.0 x.1 x.2 (grid x.0.right) (one_pos 0) (between_swap (first_end (grid x.0.right) (grid x.0.left)))
                (λ j. ends_differ (a.ordered x.0 x.1) (at_unique x.0.left x.0.right w.0 w.1 (same_at_grid x.0.left w.0 i) (same_at_grid x.0.right w.0 j)))

    -- where a segment is common to both
    pub curves_shared : {m : List Segment} → Curves m B → (s : Segment) → s ∈ l → s ∈ m → Value Length (Both A B)
    curves_shared {m} b s i j =
        (stretch_along s (a.ordered s i) (l ++ m) (λ q h k. (a.inner (fractions q) s i h (λ t x. k t (in_left m x)), b.inner (fractions q) s j h (λ t x. k t (in_right l x)))), flat)

    -- where none is, they meet at ends
    pub curves_meet : ScaleFree A → ScaleFree B → {m : List Segment} → Curves m B → Across l m → ((s : Segment) → s ∈ l → s ∈ m → ⊥) → Common A B → Value Points (Both A B)
    curves_meet f g {m} b across never w = let p = some_point f g w in (p.0, p.1, at_points (ends l) (λ q h. at_end_lem q (on_find l a.ordered (fractions q) (a.on (fractions q) h.0)) (on_find m b.ordered (fractions q) (b.on (fractions q) h.1))))
      where
        at_end_lem : (q : FractionPoint) → (s : Segment) × (s ∈ l) × Along s (fractions q) → (t : Segment) × (t ∈ m) × Along t (fractions q) → T (some (λ e. is_at e (fractions q)) (ends l))
        at_end_lem q s t =
            ⊎_elim (λ e. absurd (never s.0 s.1 (subst (λ r. r ∈ m) (sym e) t.1))) (λ k. end_among (fractions q) s.1 (k (fractions q) (fractions_pos q) s.2 t.2).0) (across s.0 t.0 s.1 t.1)

-- ---- by kinds

pub by_kinds : (k j : Kind) (l m : List Segment) (A B : HPoint → Bool) → ScaleFree A → ScaleFree B → Has k l A → Has j m B → Across l m
    → (b : Bool) → (T b → (s : Segment) × (s ∈ l) × (s ∈ m)) → (T (not b) → (s : Segment) → s ∈ l → s ∈ m → ⊥) → Common A B → Value (in_common k j b) (Both A B)
by_kinds dots dots l m A B f g x y across b yes_both not_both w = dots_any A B f g x w
by_kinds dots curves l m A B f g x y across b yes_both not_both w = dots_any A B f g x w
by_kinds dots areas l m A B f g x y across b yes_both not_both w = dots_any A B f g x w
by_kinds curves dots l m A B f g x y across b yes_both not_both w = value_swap B A Points (dots_any B A g f y (turn A B w))
by_kinds curves curves l m A B f g x y across true yes_both not_both w = let s = yes_both tt in curves_shared A B x y s.0 s.1 s.2
by_kinds curves curves l m A B f g x y across false yes_both not_both w = curves_meet A B x f g y across (not_both tt) w
by_kinds curves areas l m A B f g x y across b yes_both not_both w = curves_areas A B x y w
by_kinds areas dots l m A B f g x y across b yes_both not_both w = value_swap B A Points (dots_any B A g f y (turn A B w))
by_kinds areas curves l m A B f g x y across b yes_both not_both w = value_swap B A Length (curves_areas B A y x (turn A B w))
by_kinds areas areas l m A B f g x y across b yes_both not_both w = areas_areas A B x y w
