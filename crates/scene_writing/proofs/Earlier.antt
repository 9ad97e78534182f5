-- Which of two halves comes first, by the keys of their dominating points where these differ.
use Rattle.std.proofs.Common.{◌≡◌, ◌<◌, Bool, true, false, ◌&&◌, ◌||◌, List, length, get_or, ltb, T, refl, sym, ap, ◌∙◌}
use borrow.Author.Tests.{ltb-true, lt-ltb, ne_eqb}
use Rattle.whole.proofs.Logic.{is_true, true_is, same_test, in_at}
use Rattle.plane.specs.declared.Point.{Point}
use Rattle.plane.specs.declared.Halfsegment.{Halfsegment}
use Rattle.plane.specs.Plane.{in_range, segment_in_range, before, is_same_point, dominating, comes_before}
use Rattle.plane.proofs.Order.{comes_trans}
use Rattle.scene_keys.specs.declared.Ends.{Ends}
use Rattle.scene_keys.specs.Keyed.{key}
use Rattle.scene_keys.proofs.Keys.{same_key, key_less, less_key}
use Rattle.scene_keys.proofs.Elements.{dominating_in_range}
use Rattle.scene_written.specs.Bytes.{GoodSegment}
use Rattle.scene_writing.specs.declared.order.Half.{Half}
use Rattle.scene_writing.specs.Rows.{AreGood}
use Rattle.scene_writing.specs.Named.{no_ends, half_in, earlier_in}
use Rattle.scene_writing.proofs.Rows.{good_segment}

before_by_keys : (p q : Point) → T (in_range p) → T (in_range q) → ltb (key p) (key q) ≡ before p q
before_by_keys p q h k =
    same_test (ltb (key p) (key q)) (before p q)
    (λ t. key_less p q h k (ltb-true (key p) (key q) (true_is (ltb (key p) (key q)) t)))
    (λ t. is_true (ltb (key p) (key q)) (lt-ltb (key p) (key q) (less_key p q h k t)))

or_neither : (a b c : Bool) → b ≡ false → a || (b && c) ≡ a
or_neither true b c e = refl
or_neither false b c e = ap (λ (d : Bool). d && c) e

pub by_keys : (h k : Halfsegment) → T (segment_in_range h.segment) → T (segment_in_range k.segment) → (key (dominating h) ≡ key (dominating k) → ⊥)
    → ltb (key (dominating h)) (key (dominating k)) ≡ comes_before h k
unfolding comes_before
by_keys h k hr kr other =
    before_by_keys (dominating h) (dominating k) (dominating_in_range h hr) (dominating_in_range k kr)
    ∙ sym (or_neither (before (dominating h) (dominating k)) (is_same_point (dominating h) (dominating k)) _
    (same_key (dominating h) (dominating k) (dominating_in_range h hr) (dominating_in_range k kr) ∙ ne_eqb (key (dominating h)) (key (dominating k)) other))

pub half_good : (row : List Ends) → AreGood row → (h : Half) → h.index < length row → GoodSegment (half_in row h).segment
half_good row good h i = good_segment (get_or row h.index no_ends) (good (get_or row h.index no_ends) (in_at row no_ends h.index i))

-- from one half to a later one
pub earlier_trans : (row : List Ends) → AreGood row → (h j k : Half) → h.index < length row → j.index < length row → k.index < length row
    → T (earlier_in row h j) → T (earlier_in row j k) → T (earlier_in row h k)
earlier_trans row good h j k a b c =
    comes_trans (half_in row h) (half_in row j) (half_in row k) (half_good row good h a).in_order (half_good row good j b).in_order (half_good row good k c).in_order
