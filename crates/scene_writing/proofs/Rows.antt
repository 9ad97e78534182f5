-- Laws of rows of keys: they hold the points, or the segments, whose keys they are.
use Rattle.std.proofs.Common.{◌≡◌, List, [], ◌∷◌, map, T, refl, sym, ap₂, subst, ⊎_elim, arith}
use mir.Facts.{yes_and}
use Rattle.whole.specs.Count.{◌∈◌, here, there}
use Rattle.whole.proofs.Logic.{in_nil, in_cons}
use Rattle.plane.specs.declared.Point.{Point}
use Rattle.plane.specs.declared.Segment.{Segment}
use Rattle.plane.specs.Plane.{in_range, ordered}
use Rattle.plane.proofs.Machine.{left_in_range, right_in_range}
use Rattle.scene_keys.specs.declared.Ends.{Ends}
use Rattle.scene_keys.specs.Keyed.{key, IsKey, GoodEnds, keyed_point, ends_of, keyed_segment}
use Rattle.scene_keys.proofs.Keys.{key_good, key_back, key_less, less_key, keyed_in_range, keyed_key}
use Rattle.scene_written.specs.Bytes.{GoodSegment}
use Rattle.scene_writing.specs.Rows.{AreKeys, points_in, AreGood, segments_in}

-- ---- points: a row of the keys of points in range holds these points

pub are_keys : (l : List Point) → ((p : Point) → p ∈ l → T (in_range p)) → AreKeys (map key l)
are_keys [] good k m = absurd (in_nil m)
are_keys (p ∷ l) good k m = ⊎_elim (λ e. subst IsKey (sym e) (key_good p (good p here))) (are_keys l (λ q n. good q (there n)) k) (in_cons m)

pub points_back : (l : List Point) → ((p : Point) → p ∈ l → T (in_range p)) → points_in (map key l) ≡ l
points_back [] good = refl
points_back (p ∷ l) good = ap₂ (λ (q : Point) (r : List Point). q ∷ r) (key_back p (good p here)) (points_back l (λ q n. good q (there n)))

-- ---- segments

pub good_segment : (e : Ends) → GoodEnds e → GoodSegment (keyed_segment e)
unfolding ordered
good_segment e g = record {
  in_range_lem = yes_and (in_range (keyed_point e.left)) (in_range (keyed_point e.right)) (keyed_in_range e.left g.left_key) (keyed_in_range e.right g.right_key);
  in_order = key_less (keyed_point e.left) (keyed_point e.right) (keyed_in_range e.left g.left_key) (keyed_in_range e.right g.right_key)
      (omega (arith, g.in_order, keyed_key e.left g.left_key, keyed_key e.right g.right_key));
}

pub good_ends : (t : Segment) → GoodSegment t → GoodEnds (ends_of t)
unfolding ordered
good_ends t g = record {
  left_key = key_good t.left (left_in_range t g.in_range_lem);
  right_key = key_good t.right (right_in_range t g.in_range_lem);
  in_order = less_key t.left t.right (left_in_range t g.in_range_lem) (right_in_range t g.in_range_lem) g.in_order;
}

pub are_good : (l : List Segment) → ((t : Segment) → t ∈ l → GoodSegment t) → AreGood (map ends_of l)
are_good [] good e m = absurd (in_nil m)
are_good (t ∷ l) good e m = ⊎_elim (λ q. subst GoodEnds (sym q) (good_ends t (good t here))) (are_good l (λ u n. good u (there n)) e) (in_cons m)

pub segments_back : (l : List Segment) → ((t : Segment) → t ∈ l → GoodSegment t) → segments_in (map ends_of l) ≡ l
segments_back [] good = refl
segments_back (t ∷ l) good =
    ap₂ (λ (u : Segment) (r : List Segment). u ∷ r)
    (ap₂ (λ (p q : Point). let u : Segment = record { left = p; right = q } in u)
    (key_back t.left (left_in_range t (good t here).in_range_lem)) (key_back t.right (right_in_range t (good t here).in_range_lem)))
    (segments_back l (λ u n. good u (there n)))

-- and the segments in a good row are good
pub good_in : (row : List Ends) → AreGood row → (t : Segment) → t ∈ segments_in row → GoodSegment t
good_in [] good t m = absurd (in_nil m)
good_in (e ∷ row) good t m = ⊎_elim (λ q. subst GoodSegment (sym q) (good_segment e (good e here))) (good_in row (λ f n. good f (there n)) t) (in_cons m)
