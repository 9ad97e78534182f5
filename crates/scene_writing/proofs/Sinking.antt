-- Where an element that sinks stops.
use Rattle.std.proofs.Common.{◌≡◌, ℕ, zero, suc, ◌<◌, Bool, true, false, ◌&&◌, cond, List, [], ◌∷◌, length, get_or, drop, refl, sym, ap, ◌∙◌, arith}
use Rattle.std.specs.List.{insert}
use native.Mathlib.Nat.{not-suc-le-zero, le_of_suc-le-suc}
use Rattle.whole.specs.Count.{every}
use Rattle.scene_writing.specs.Settled.{Stops, sink}

module _ {A : Type 0} (less : A → A → Bool) (a : A) where
  sink_front : (l : List A) → every (less a) l ≡ true → sink less a l ≡ a ∷ l
  sink_front [] e = refl
  sink_front (b ∷ l) e = ap (λ (t : Bool). cond t (a ∷ b ∷ l) (b ∷ sink less a l)) e

  not_every : (l : List A) (d : A) (i : ℕ) → i < length l → less a (get_or l i d) ≡ false → every (less a) l ≡ false
  not_every [] d i h e = absurd (not-suc-le-zero h)
  not_every (b ∷ l) d zero h e = ap (λ (t : Bool). t && every (less a) l) e
  not_every (b ∷ l) d (suc i) h e = ap (λ (t : Bool). less a b && t) (not_every l d i (le_of_suc-le-suc h) e) ∙ none (less a b)
    where
      none : (t : Bool) → t && false ≡ false
      none true = refl
      none false = refl

  sink_after : (l : List A) (d : A) (i : ℕ) → i < length l → less a (get_or l i d) ≡ false → every (less a) (drop (suc i) l) ≡ true
      → sink less a l ≡ insert l (suc i) a
  sink_after [] d i h stop rest = absurd (not-suc-le-zero h)
  sink_after (b ∷ l) d zero h stop rest =
      ap (λ (t : Bool). cond t (a ∷ b ∷ l) (b ∷ sink less a l)) (not_every (b ∷ l) d zero h stop) ∙ ap (λ (r : List A). b ∷ r) (sink_front l rest)
  sink_after (b ∷ l) d (suc i) h stop rest =
      ap (λ (t : Bool). cond t (a ∷ b ∷ l) (b ∷ sink less a l)) (not_every (b ∷ l) d (suc i) h stop)
      ∙ ap (λ (r : List A). b ∷ r) (sink_after l d i (le_of_suc-le-suc h) stop rest)

  pub sinks : (d : A) (l : List A) (k : ℕ) → Stops less d a l k → insert l k a ≡ sink less a l
  sinks d l zero s = sym (sink_front l s.past)
  sinks d l (suc i) s = sym (sink_after l d i (omega (arith, s.within)) (s.stop i (omega arith)) s.past)
