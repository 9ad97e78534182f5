-- The table is additive: the flags of marks put together are those of either, put together. So the marks of several events are collected, and the table is read once.
use Prim.Native.Nat.{ℕ, zero, suc, ◌<◌}
use native.Mathlib.Omega.{arith}
use mathlib.Core.Path.{◌≡◌, refl, sym, ap, ap₂, ◌∙◌}
use mathlib.Core.Bool.{Bool, true, false, cond, not, ◌&&◌, ◌||◌, and-false}
use mathlib.Core.List.{List, [], ◌∷◌}
use lib.Bits.{bit_or}
use lib.Dec.{eqb}
use lib.ListN.{get_or}
use borrow.Author.Tests.{ne_eqb}
use Rattle.plane.specs.Plane.{is_boundary}
use Rattle.scene.specs.declared.Shape.{Shape}
use Rattle.scene.specs.declared.Shape.TheVariants.{Points, Line, Region}
use Rattle.flags.specs.Flags.{pack, has_bit}
use Rattle.flags.proofs.Bits.{no_bit, and_bit, or_bit, pack_bit, pack_lt, same_number}
use Rattle.flags.proofs.Boundary.{boundary_none}
use Rattle.flags_meetings.specs.declared.Meetings.{Meetings}
use Rattle.flags_meetings.specs.Keyed as keyed
use Rattle.flags_classes.specs.declared.Classes.{Classes}
use Rattle.flags_classes.specs.Marked as marked
use Rattle.flags_classes.specs.Marked.{unshared_marks, shared_marks}
use Rattle.flags_table.specs.Table.{flags_of_f_by, flags_of_g_by}
use Rattle.flags_masks.specs.declared.FlagMasks.{FlagMasks}
use Rattle.flags_masks.specs.Wanted.{only}
use Rattle.walk_flags.specs.OneTaken.{met_at, met_tests, alone_marks, met_marks, wanted_f, wanted_g}

-- ---- lists of tests

abbrev either : List Bool → List Bool → List Bool
either [] m = m
either (a ∷ l) [] = a ∷ l
either (a ∷ l) (b ∷ m) = (a || b) ∷ either l m

either_at : (l m : List Bool) (k : ℕ) → get_or (either l m) k false ≡ get_or l k false || get_or m k false
either_at [] m k = refl
either_at (a ∷ l) [] k = sym (none (get_or (a ∷ l) k false))
  where
    none : (x : Bool) → x || false ≡ x
    none true = refl
    none false = refl
either_at (a ∷ l) (b ∷ m) zero = refl
either_at (a ∷ l) (b ∷ m) (suc k) = either_at l m k

pack_either : (l m : List Bool) → pack (either l m) ≡ bit_or (pack l) (pack m)
pack_either l m =
    same_number (pack (either l m)) (bit_or (pack l) (pack m))
    (λ k. pack_bit (either l m) k ∙ either_at l m k ∙ sym (or_bit (pack l) (pack m) k ∙ ap₂ ◌||◌ (pack_bit l k) (pack_bit m k)))

-- ---- marks by their names

abbrev both_met : Meetings → Meetings → Meetings
both_met m n =
    record {
      bound_outside = m.bound_outside || n.bound_outside;
      bound_inside = m.bound_inside || n.bound_inside;
      bound_on = m.bound_on || n.bound_on;
      bound_bound = m.bound_bound || n.bound_bound;
      bound_inner = m.bound_inner || n.bound_inner;
      inner_bound = m.inner_bound || n.inner_bound;
      inner_inner = m.inner_inner || n.inner_inner;
      bound_of_g = m.bound_of_g || n.bound_of_g;
    }

abbrev both_classes : Classes → Classes → Classes
both_classes c d =
    record {
      above_outside = c.above_outside || d.above_outside;
      below_outside = c.below_outside || d.below_outside;
      above_inside = c.above_inside || d.above_inside;
      below_inside = c.below_inside || d.below_inside;
      both_above = c.both_above || d.both_above;
      both_below = c.both_below || d.both_below;
      opposite = c.opposite || d.opposite;
    }

abbrev none_met : Meetings
none_met =
    record {
      bound_outside = false;
      bound_inside = false;
      bound_on = false;
      bound_bound = false;
      bound_inner = false;
      inner_bound = false;
      inner_inner = false;
      bound_of_g = false;
    }

abbrev no_classes : Classes
no_classes =
    record {
      above_outside = false;
      below_outside = false;
      above_inside = false;
      below_inside = false;
      both_above = false;
      both_below = false;
      opposite = false;
    }

met_named : (a b : ℕ) → keyed.named (bit_or a b) ≡ both_met (keyed.named a) (keyed.named b)
met_named a b = λ j. record {
  bound_outside = or_bit a b 0 j;
  bound_inside = or_bit a b 1 j;
  bound_on = or_bit a b 2 j;
  bound_bound = or_bit a b 3 j;
  bound_inner = or_bit a b 4 j;
  inner_bound = or_bit a b 5 j;
  inner_inner = or_bit a b 6 j;
  bound_of_g = or_bit a b 7 j;
}

classes_named : (a b : ℕ) → marked.named (bit_or a b) ≡ both_classes (marked.named a) (marked.named b)
classes_named a b = λ j. record {
  above_outside = or_bit a b 0 j;
  below_outside = or_bit a b 1 j;
  above_inside = or_bit a b 2 j;
  below_inside = or_bit a b 3 j;
  both_above = or_bit a b 4 j;
  both_below = or_bit a b 5 j;
  opposite = or_bit a b 6 j;
}

-- ---- flag by flag: some of these marks

two : (a b c d : Bool) → (a || b) || (c || d) ≡ (a || c) || (b || d)
two true b true d = refl
two true b false d = refl
two false true true d = refl
two false true false d = refl
two false false c d = refl

three : (a b c d e f : Bool) → (a || b) || (c || d) || (e || f) ≡ (a || c || e) || (b || d || f)
three a b c d e f = ap (λ x. x || (e || f)) (two a b c d) ∙ two (a || c) (b || d) e f

four : (a b c d e f g h : Bool) → (a || b) || (c || d) || (e || f) || (g || h) ≡ (a || c || e || g) || (b || d || f || h)
four a b c d e f g h = ap (λ x. x || (g || h)) (three a b c d e f) ∙ two (a || c || e) (b || d || f) g h

module _ (m n : Meetings) (c d : Classes) where
  alone_both : (m.bound_outside || n.bound_outside) || (m.bound_inside || n.bound_inside) || (m.bound_on || n.bound_on)
      ≡ (m.bound_outside || m.bound_inside || m.bound_on) || (n.bound_outside || n.bound_inside || n.bound_on)
  alone_both = three m.bound_outside n.bound_outside m.bound_inside n.bound_inside m.bound_on n.bound_on

  shared_both : (c.both_above || d.both_above) || (c.both_below || d.both_below) || (c.opposite || d.opposite)
      ≡ (c.both_above || c.both_below || c.opposite) || (d.both_above || d.both_below || d.opposite)
  shared_both = three c.both_above d.both_above c.both_below d.both_below c.opposite d.opposite

  unshared_both : (c.above_outside || d.above_outside) || (c.below_outside || d.below_outside) || (c.above_inside || d.above_inside) || (c.below_inside || d.below_inside)
      ≡ (c.above_outside || c.below_outside || c.above_inside || c.below_inside) || (d.above_outside || d.below_outside || d.above_inside || d.below_inside)
  unshared_both = four c.above_outside d.above_outside c.below_outside d.below_outside c.above_inside d.above_inside c.below_inside d.below_inside

  flags_f_both : (f g : Shape) → flags_of_f_by f g (both_met m n) (both_classes c d) ≡ either (flags_of_f_by f g m c) (flags_of_f_by f g n d)
  flags_f_both Points Points = λ j. alone_both j ∷ (m.bound_bound || n.bound_bound) ∷ []
  flags_f_both Points Line = λ j.
      two m.bound_outside n.bound_outside m.bound_inside n.bound_inside j
      ∷ two m.bound_on n.bound_on m.bound_inner n.bound_inner j
      ∷ (m.bound_bound || n.bound_bound)
      ∷ []
  flags_f_both Points Region = λ j.
      (m.bound_inside || n.bound_inside)
      ∷ three m.bound_on n.bound_on m.bound_bound n.bound_bound m.bound_inner n.bound_inner j
      ∷ (m.bound_outside || n.bound_outside)
      ∷ []
  flags_f_both Line Points = refl
  flags_f_both Line Line = λ j.
      shared_both j
      ∷ (m.inner_inner || n.inner_inner)
      ∷ unshared_both j
      ∷ (m.bound_inner || n.bound_inner)
      ∷ (m.bound_bound || n.bound_bound)
      ∷ alone_both j
      ∷ []
  flags_f_both Line Region = λ j.
      two c.above_inside d.above_inside c.below_inside d.below_inside j
      ∷ shared_both j
      ∷ two c.above_outside d.above_outside c.below_outside d.below_outside j
      ∷ two m.inner_bound n.inner_bound m.inner_inner n.inner_inner j
      ∷ (m.bound_inside || n.bound_inside)
      ∷ two m.bound_bound n.bound_bound m.bound_inner n.bound_inner j
      ∷ (m.bound_outside || n.bound_outside)
      ∷ []
  flags_f_both Region Points = refl
  flags_f_both Region Line = refl
  flags_f_both Region Region = λ j.
      (c.above_outside || d.above_outside)
      ∷ (c.below_outside || d.below_outside)
      ∷ (c.above_inside || d.above_inside)
      ∷ (c.below_inside || d.below_inside)
      ∷ (c.both_above || d.both_above)
      ∷ (c.both_below || d.both_below)
      ∷ (c.opposite || d.opposite)
      ∷ four m.bound_bound n.bound_bound m.bound_inner n.bound_inner m.inner_bound n.inner_bound m.inner_inner n.inner_inner j
      ∷ []

  flags_g_both : (f g : Shape) → flags_of_g_by f g (both_met m n) (both_classes c d) ≡ either (flags_of_g_by f g m c) (flags_of_g_by f g n d)
  flags_g_both Points Points = refl
  flags_g_both Points Line = refl
  flags_g_both Points Region = refl
  flags_g_both Line Points = refl
  flags_g_both Line Line = λ j. unshared_both j ∷ (m.inner_bound || n.inner_bound) ∷ (m.bound_of_g || n.bound_of_g) ∷ []
  flags_g_both Line Region = λ j. unshared_both j ∷ []
  flags_g_both Region Points = refl
  flags_g_both Region Line = refl
  flags_g_both Region Region = refl

-- ---- masks

pub only_or : (mask a b : ℕ) → only mask (bit_or a b) ≡ bit_or (only mask a) (only mask b)
only_or mask a b =
    same_number (only mask (bit_or a b)) (bit_or (only mask a) (only mask b))
    (λ k. and_bit (bit_or a b) mask k ∙ ap (λ x. x && has_bit mask k) (or_bit a b k) ∙ go (has_bit a k) (has_bit b k) (has_bit mask k) ∙ sym (or_bit (only mask a) (only mask b) k ∙ ap₂ ◌||◌ (and_bit a mask k) (and_bit b mask k)))
  where
    go : (x y z : Bool) → (x || y) && z ≡ x && z || y && z
    go true true true = refl
    go true true false = refl
    go true false true = refl
    go true false false = refl
    go false y z = refl

-- ---- no marks, and those of one meeting

met_none : keyed.named 0 ≡ none_met
met_none = λ j. record {
  bound_outside = no_bit 0 j;
  bound_inside = no_bit 1 j;
  bound_on = no_bit 2 j;
  bound_bound = no_bit 3 j;
  bound_inner = no_bit 4 j;
  inner_bound = no_bit 5 j;
  inner_inner = no_bit 6 j;
  bound_of_g = no_bit 7 j;
}

classes_none : marked.named 0 ≡ no_classes
classes_none = λ j. record {
  above_outside = no_bit 0 j;
  below_outside = no_bit 1 j;
  above_inside = no_bit 2 j;
  below_inside = no_bit 3 j;
  both_above = no_bit 4 j;
  both_below = no_bit 5 j;
  opposite = no_bit 6 j;
}

only_none : (mask : ℕ) → only mask 0 ≡ 0
only_none mask = same_number (only mask 0) 0 (λ k. and_bit 0 mask k ∙ ap (λ x. x && has_bit mask k) (no_bit k) ∙ sym (no_bit k))

module _ (f g : Shape) (want : FlagMasks) where
  pub none_f : wanted_f f g want (keyed.named 0) (marked.named 0) ≡ 0
  none_f = (λ j. only want.f (pack (flags_of_f_by f g (met_none j) (classes_none j)))) ∙ ap (only want.f) (go f g) ∙ only_none want.f
    where
      go : (f g : Shape) → pack (flags_of_f_by f g none_met no_classes) ≡ 0
      go Points Points = refl
      go Points Line = refl
      go Points Region = refl
      go Line Points = refl
      go Line Line = refl
      go Line Region = refl
      go Region Points = refl
      go Region Line = refl
      go Region Region = refl

  pub none_g : wanted_g f g want (keyed.named 0) (marked.named 0) ≡ 0
  none_g = (λ j. only want.g (pack (flags_of_g_by f g (met_none j) (classes_none j)))) ∙ ap (only want.g) (go f g) ∙ only_none want.g
    where
      go : (f g : Shape) → pack (flags_of_g_by f g none_met no_classes) ≡ 0
      go Points Points = refl
      go Points Line = refl
      go Points Region = refl
      go Line Points = refl
      go Line Line = refl
      go Line Region = refl
      go Region Points = refl
      go Region Line = refl
      go Region Region = refl

pub alone_is : (a n : ℕ) → alone_marks a n ≡ met_marks a 0 n
alone_is a n = simp (boundary_none, and-false)

-- of a point of G's alone
pub met_of_g : (b n : ℕ) → 0 < b → met_marks 0 b n ≡ cond (is_boundary b) 128 0
met_of_g b n k =
    let f : eqb b 0 ≡ false = ne_eqb b 0 (λ z. omega (arith, z, k)) in
    rw (f, boundary_none) (go (is_boundary b))
  where
    go : (y : Bool) → pack (false ∷ false ∷ false ∷ false ∷ false ∷ false ∷ false ∷ y ∷ []) ≡ cond y 128 0
    go true = refl
    go false = refl

pub met_of_marks : (a b n : ℕ) → keyed.named (met_marks a b n) ≡ met_at a b n
met_of_marks a b n = λ j. record {
  bound_outside = pack_bit (met_tests a b n) 0 j;
  bound_inside = pack_bit (met_tests a b n) 1 j;
  bound_on = pack_bit (met_tests a b n) 2 j;
  bound_bound = pack_bit (met_tests a b n) 3 j;
  bound_inner = pack_bit (met_tests a b n) 4 j;
  inner_bound = pack_bit (met_tests a b n) 5 j;
  inner_inner = pack_bit (met_tests a b n) 6 j;
  bound_of_g = pack_bit (met_tests a b n) 7 j;
}

-- ---- the wanted flags of marks, with those of more marks put to them

module _ (f g : Shape) (want : FlagMasks) (m n c d : ℕ) where
  pub wanted_f_both : wanted_f f g want (keyed.named (bit_or m n)) (marked.named (bit_or c d))
      ≡ bit_or (wanted_f f g want (keyed.named m) (marked.named c)) (wanted_f f g want (keyed.named n) (marked.named d))
  wanted_f_both =
      ap (λ l. only want.f (pack l))
      (ap₂ (flags_of_f_by f g) (met_named m n) (classes_named c d) ∙ flags_f_both (keyed.named m) (keyed.named n) (marked.named c) (marked.named d) f g)
      ∙ ap (only want.f) (pack_either (flags_of_f_by f g (keyed.named m) (marked.named c)) (flags_of_f_by f g (keyed.named n) (marked.named d)))
      ∙ only_or want.f (pack (flags_of_f_by f g (keyed.named m) (marked.named c))) (pack (flags_of_f_by f g (keyed.named n) (marked.named d)))

  pub wanted_g_both : wanted_g f g want (keyed.named (bit_or m n)) (marked.named (bit_or c d))
      ≡ bit_or (wanted_g f g want (keyed.named m) (marked.named c)) (wanted_g f g want (keyed.named n) (marked.named d))
  wanted_g_both =
      ap (λ l. only want.g (pack l))
      (ap₂ (flags_of_g_by f g) (met_named m n) (classes_named c d) ∙ flags_g_both (keyed.named m) (keyed.named n) (marked.named c) (marked.named d) f g)
      ∙ ap (only want.g) (pack_either (flags_of_g_by f g (keyed.named m) (marked.named c)) (flags_of_g_by f g (keyed.named n) (marked.named d)))
      ∙ only_or want.g (pack (flags_of_g_by f g (keyed.named m) (marked.named c))) (pack (flags_of_g_by f g (keyed.named n) (marked.named d)))

-- ---- a mark is a byte

pub unshared_small : (above : Bool) (n : ℕ) → unshared_marks above n < 256
unshared_small above n = let h = pack_lt ((above && eqb n 0) ∷ (not above && eqb n 0) ∷ (above && not (eqb n 0)) ∷ (not above && not (eqb n 0)) ∷ []) in omega (arith, h)

pub shared_small : (above other : Bool) → shared_marks above other < 256
shared_small above other = let h = pack_lt (false ∷ false ∷ false ∷ false ∷ (above && other) ∷ (not above && not other) ∷ (above && not other || not above && other) ∷ []) in omega (arith, h)
