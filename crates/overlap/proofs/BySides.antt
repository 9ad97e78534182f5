-- The byte of a segment from the sides of the two regions.
use Prim.Native.Nat.{ℕ, ◌+◌, ◌*◌}
use mathlib.Core.Path.{◌≡◌, ap₂, ◌∙◌}
use mathlib.Core.List.{List}
use Rattle.whole.specs.Count.{bit}
use Rattle.plane.specs.declared.Segment.{Segment}
use Rattle.scene.specs.declared.Layout.{Layout}
use Rattle.flags.specs.Flags.{Edge}
use Rattle.flags.specs.Elements.{edges}
use Rattle.overlap.specs.declared.adjoining.Sides.{Sides}
use Rattle.overlap.specs.Bytes.{byte_of}
use Rattle.overlap.specs.Walked.{SidesAre, coded, NextSides, NextByte}

pub coded_byte : (F G : List Edge) (t : Segment) {x y : Sides} {r : ℕ} → r ≡ coded x y → SidesAre x F t → SidesAre y G t → r ≡ byte_of F G t
coded_byte F G t e p q =
    e ∙ ap₂ (λ (m n : ℕ). 3 * m + n) (ap₂ (λ a b. bit a + bit b) p.0 q.0) (ap₂ (λ a b. bit a + bit b) p.1 q.1)

-- what comes next with its sides comes next with its byte
pub next_byte : (s : List ℕ) (f g : Layout) {i j k m : ℕ} {t : Segment} {x y : Sides} {r : ℕ} → NextSides s f g i j t x y k m → r ≡ coded x y → NextByte s f g i j r k m
next_byte s f g {i} {j} {k} {m} {t} n e = record { segment = t; next = n.next; byte = coded_byte (edges s f) (edges s g) t e n.of_f_lem n.of_g_lem }
