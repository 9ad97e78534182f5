-- Each flag is read off one of the two walks: a flag of the classes is the same whatever the meetings, every other whatever the classes. So a walk that no wanted
-- flag is read off may be left out, and the wanted flags are what they are with it.
use Prim.Native.Nat.{ℕ, zero, suc}
use mathlib.Core.Path.{◌≡◌, refl, sym, ap, ap₂, ◌∙◌}
use mathlib.Core.Logic.{◌⊎◌, inl, inr}
use mathlib.Core.Bool.{Bool, true, false, not, ◌&&◌, true≢false}
use mathlib.Core.List.{List}
use lib.Bits.{bit_and}
use lib.ListN.{get_or}
use borrow.Author.Tests.{ne_eqb}
use Rattle.scene.specs.declared.Shape.{Shape}
use Rattle.scene.specs.declared.Shape.TheVariants.{Points, Line, Region}
use Rattle.flags.specs.Flags.{pack, has_bit}
use Rattle.flags.proofs.Bits.{no_bit, pack_bit, and_bit, same_number}
use Rattle.flags_meetings.specs.declared.Meetings.{Meetings}
use Rattle.flags_classes.specs.declared.Classes.{Classes}
use Rattle.flags_table.specs.Table.{flags_of_f_by, flags_of_g_by}
use Rattle.flags_table.specs.Walks.{off_classes_f, off_classes_g, wants_some, wants_other}

-- ---- one flag

-- flags by both walks, bit 0 first
abbrev Flags : Type 0
Flags = Meetings → Classes → List Bool

-- flag k is one of these and the same whatever the meetings, or none of these and the same whatever the classes
abbrev ReadOff : Flags → List Bool → ℕ → Type 0
ReadOff flags these k =
    (m n : Meetings) (c d : Classes)
    → ((get_or these k false ≡ true) × (get_or (flags m c) k false ≡ get_or (flags n c) k false))
    ⊎ ((get_or these k false ≡ false) × (get_or (flags m c) k false ≡ get_or (flags m d) k false))

read_off_f : (f g : Shape) (k : ℕ) → ReadOff (flags_of_f_by f g) (off_classes_f f g) k
read_off_f Points Points k m n c d = inr (refl, refl)
read_off_f Points Line k m n c d = inr (refl, refl)
read_off_f Points Region k m n c d = inr (refl, refl)
read_off_f Line Points k m n c d = inr (refl, refl)
read_off_f Line Line zero m n c d = inl (refl, refl)
read_off_f Line Line (suc zero) m n c d = inr (refl, refl)
read_off_f Line Line (suc (suc zero)) m n c d = inl (refl, refl)
read_off_f Line Line (suc (suc (suc k))) m n c d = inr (refl, refl)
read_off_f Line Region zero m n c d = inl (refl, refl)
read_off_f Line Region (suc zero) m n c d = inl (refl, refl)
read_off_f Line Region (suc (suc zero)) m n c d = inl (refl, refl)
read_off_f Line Region (suc (suc (suc k))) m n c d = inr (refl, refl)
read_off_f Region Points k m n c d = inr (refl, refl)
read_off_f Region Line k m n c d = inr (refl, refl)
read_off_f Region Region zero m n c d = inl (refl, refl)
read_off_f Region Region (suc zero) m n c d = inl (refl, refl)
read_off_f Region Region (suc (suc zero)) m n c d = inl (refl, refl)
read_off_f Region Region (suc (suc (suc zero))) m n c d = inl (refl, refl)
read_off_f Region Region (suc (suc (suc (suc zero)))) m n c d = inl (refl, refl)
read_off_f Region Region (suc (suc (suc (suc (suc zero))))) m n c d = inl (refl, refl)
read_off_f Region Region (suc (suc (suc (suc (suc (suc zero)))))) m n c d = inl (refl, refl)
read_off_f Region Region (suc (suc (suc (suc (suc (suc (suc k))))))) m n c d = inr (refl, refl)

read_off_g : (f g : Shape) (k : ℕ) → ReadOff (flags_of_g_by f g) (off_classes_g f g) k
read_off_g Points Points k m n c d = inr (refl, refl)
read_off_g Points Line k m n c d = inr (refl, refl)
read_off_g Points Region k m n c d = inr (refl, refl)
read_off_g Line Points k m n c d = inr (refl, refl)
read_off_g Line Line zero m n c d = inl (refl, refl)
read_off_g Line Line (suc k) m n c d = inr (refl, refl)
read_off_g Line Region zero m n c d = inl (refl, refl)
read_off_g Line Region (suc k) m n c d = inr (refl, refl)
read_off_g Region Points k m n c d = inr (refl, refl)
read_off_g Region Line k m n c d = inr (refl, refl)
read_off_g Region Region zero m n c d = inl (refl, refl)
read_off_g Region Region (suc zero) m n c d = inl (refl, refl)
read_off_g Region Region (suc (suc zero)) m n c d = inl (refl, refl)
read_off_g Region Region (suc (suc (suc zero))) m n c d = inl (refl, refl)
read_off_g Region Region (suc (suc (suc (suc k)))) m n c d = inr (refl, refl)

-- ---- the wanted flags

-- a wanted flag that is one of these, or none of these, is noticed
module _ (these : List Bool) (want k : ℕ) (wanted : has_bit want k ≡ true) where
  kept_bit : has_bit (bit_and want (pack these)) k ≡ get_or these k false
  kept_bit = and_bit want (pack these) k ∙ ap₂ ◌&&◌ wanted (pack_bit these k)

  wants_some_lem : get_or these k false ≡ true → wants_some these want ≡ true
  wants_some_lem e =
      ap not (ne_eqb (bit_and want (pack these)) 0 (λ z. true≢false (sym (kept_bit ∙ e) ∙ ap (λ v. has_bit v k) z ∙ no_bit k)))

  wants_other_lem : get_or these k false ≡ false → wants_other these want ≡ true
  wants_other_lem e = ap not (ne_eqb (bit_and want (pack these)) want (λ z. true≢false (sym wanted ∙ ap (λ v. has_bit v k) (sym z) ∙ kept_bit ∙ e)))

-- walks that may have been left out, where no wanted flag is read off them
module _ (flags : Flags) (these : List Bool) (read_off : (k : ℕ) → ReadOff flags these k) (want : ℕ) {m n : Meetings} {c d : Classes}
    (same-meetings : wants_other these want ≡ true → n ≡ m) (same-classes : wants_some these want ≡ true → d ≡ c) where
  same_flag : (k : ℕ) → has_bit want k ≡ true → get_or (flags n d) k false ≡ get_or (flags m c) k false
  same_flag k w = go (read_off k n m d c)
    where
      go : ((get_or these k false ≡ true) × (get_or (flags n d) k false ≡ get_or (flags m d) k false))
          ⊎ ((get_or these k false ≡ false) × (get_or (flags n d) k false ≡ get_or (flags n c) k false))
          → get_or (flags n d) k false ≡ get_or (flags m c) k false
      go (inl (one, e)) = e ∙ ap (λ (c : Classes). get_or (flags m c) k false) (same-classes (wants_some_lem these want k w one))
      go (inr (none, e)) = e ∙ ap (λ (m : Meetings). get_or (flags m c) k false) (same-meetings (wants_other_lem these want k w none))

  same_wanted : bit_and (pack (flags n d)) want ≡ bit_and (pack (flags m c)) want
  same_wanted = same_number (bit_and (pack (flags n d)) want) (bit_and (pack (flags m c)) want) same_bit
    where
      bit_of : (l : List Bool) (k : ℕ) → has_bit (bit_and (pack l) want) k ≡ get_or l k false && has_bit want k
      bit_of l k = and_bit (pack l) want k ∙ ap (λ b. b && has_bit want k) (pack_bit l k)

      by_mask : (x y b : Bool) → (b ≡ true → x ≡ y) → x && b ≡ y && b
      by_mask x y true e = ap (λ x. x && true) (e refl)
      by_mask true true false e = refl
      by_mask true false false e = refl
      by_mask false true false e = refl
      by_mask false false false e = refl

      same_bit : (k : ℕ) → has_bit (bit_and (pack (flags n d)) want) k ≡ has_bit (bit_and (pack (flags m c)) want) k
      same_bit k = bit_of (flags n d) k ∙ by_mask (get_or (flags n d) k false) (get_or (flags m c) k false) (has_bit want k) (same_flag k) ∙ sym (bit_of (flags m c) k)

module _ (f g : Shape) (want : ℕ) {m n : Meetings} {c d : Classes} where
  pub wanted_of_f : (wants_other (off_classes_f f g) want ≡ true → n ≡ m) → (wants_some (off_classes_f f g) want ≡ true → d ≡ c)
      → bit_and (pack (flags_of_f_by f g n d)) want ≡ bit_and (pack (flags_of_f_by f g m c)) want
  wanted_of_f = same_wanted (flags_of_f_by f g) (off_classes_f f g) (read_off_f f g) want

  pub wanted_of_g : (wants_other (off_classes_g f g) want ≡ true → n ≡ m) → (wants_some (off_classes_g f g) want ≡ true → d ≡ c)
      → bit_and (pack (flags_of_g_by f g n d)) want ≡ bit_and (pack (flags_of_g_by f g m c)) want
  wanted_of_g = same_wanted (flags_of_g_by f g) (off_classes_g f g) (read_off_g f g) want
