-- The derived comparison of two types is that of their numbers.
use Rattle.std.proofs.Common.{◌≡◌, ◌∙◌, sym, Bool, true, false, eqb, rules}
use denote.Enum.Bare.{sameb}
use lib.Dec.{eqb→eq}
use borrow.Author.Tests.{eq-eqb}
use Rattle.whole.proofs.Logic.{is_true}
use Rattle.scene.specs.declared.Shape.{Shape}
use Rattle.scene.specs.declared.Shape.TheVariants.{Points, Line, Region}
use Rattle.scene.specs.contracts.Shape.{the_type}
use Rattle.scene.specs.Read.{shape_number}
use Rattle.scene.proofs.Passed.{same_shape}

abbrev pub is_same : Shape → Shape → Bool
is_same = sameb the_type

pub same_numbers : (e k : Shape) → is_same e k ≡ eqb (shape_number e) (shape_number k)
same_numbers Points Points = search rules
same_numbers Points Line = search rules
same_numbers Points Region = search rules
same_numbers Line Points = search rules
same_numbers Line Line = search rules
same_numbers Line Region = search rules
same_numbers Region Points = search rules
same_numbers Region Line = search rules
same_numbers Region Region = search rules

pub same : (e k : Shape) → is_same e k ≡ true → e ≡ k
same e k q = same_shape e k (eqb→eq _ _ (is_true _ (sym (same_numbers e k) ∙ q)))

pub unlike : (e k : Shape) → is_same e k ≡ false → e ≡ k → ⊥
unlike e k q is = let t : true ≡ false = sym (eq-eqb _ _ (λ i. shape_number (is i))) ∙ sym (same_numbers e k) ∙ q in cc
