-- What an answer says in words: the first bad summary under 18, and which bits are set where it is a word.
use Rattle.scene.specs.declared.Reason.{Reason}
use Rattle.scene.specs.declared.Reason.TheVariants.{BadSummary, BadWindow, TooManySummaries}
use Rattle.scene.specs.Read.{number_of}
use Prim.Native.Nat.{ℕ, ◌*◌, ◌≤◌, ◌<◌}
use Rattle.std.specs.Prelude.{Result}
use native.Mathlib.Omega.{arith}
use mathlib.Core.Path.{◌≡◌, refl, sym, subst}
use mathlib.Core.Logic.{◌↔◌, ◌⊎◌, inl, inr}
use mathlib.Core.Bool.{Bool, true, false, cond}
use mathlib.Core.List.{List}
use borrow.Author.Tests.{ltb-true, ltb-false}
use lib.Dec.{T, leb, ltb}
use Rattle.whole.proofs.Logic.{less_or_not, is_true}
use Rattle.scene.specs.declared.Refusal.{Refusal}
use Rattle.flags.specs.Flags.{has_bit}
use Rattle.summary_window.specs.declared.Window.{Window}
use Rattle.summary_window.specs.declared.InWindow.{InWindow}
use Rattle.summary_window.specs.Window.{is_window, sent, most, good_one, AllGood, first_of, hit_one, word_of, refusal, found, judged, answer_of, window_values, BadRight, Shown, HitsRight}
use Rattle.summary_window.proofs.First.{First, first}
use Rattle.summary_window.proofs.Rows.{bit_of_word, no_bit_of_word, ones_counted}
use Rattle.summary_window.proofs.Points.{hit}

module _ (w : Window) (s : List ℕ) where
  f : First (good_one s) (sent s) 0 (first_of s)
  f = first (good_one s) (sent s) 0

  pub before_first : (n : ℕ) → n ≤ first_of s → AllGood s n
  before_first n h k l = f.before k (omega arith) (omega arith)

  -- bit k
  shown : T (is_window w) → AllGood s (sent s) → (k : ℕ) → T (has_bit (word_of w s) k) ↔ Shown w s k
  shown ok good k = (λ t. there t (less_or_not k (sent s)), λ (h, e, p). subst T (sym (bit_of_word (hit_one w s) (sent s) k h)) ((hit w s (20 * k) ok (good k h)).1 (e, p)))
    where
      there : T (has_bit (word_of w s) k) → (k < sent s) ⊎ (sent s ≤ k) → Shown w s k
      there t (inl h) = let r = (hit w s (20 * k) ok (good k h)).0 (subst T (bit_of_word (hit_one w s) (sent s) k h) t) in (h, r.0, r.1)
      there t (inr h) = absurd (subst T (no_bit_of_word (hit_one w s) (sent s) k h) t)

  abbrev Right : Result InWindow Refusal → Type 0
  Right r = BadRight s (window_values r) × HitsRight w s (window_values r)

  refused_right : (n : Reason) → 18 < number_of n → Right (refusal n 0)
  refused_right n h = ((λ (e : number_of n ≡ 18). absurd (omega arith), λ (e : number_of n ≡ 0). absurd (omega arith)), λ (e : number_of n ≡ 0). absurd (omega arith))

  judged_right : T (is_window w) → Right (judged w s)
  unfolding judged
  judged_right ok = go (ltb (first_of s) (sent s)) refl
    where
      go : (b : Bool) → ltb (first_of s) (sent s) ≡ b → Right (cond b (refusal BadSummary (first_of s)) (found w s))
      go true e =
          let h = ltb-true (first_of s) (sent s) e in
          ((λ _. (h, f.fails (omega arith), before_first (first_of s) (omega arith)), λ (z : 18 ≡ 0). absurd (omega arith)), λ (z : 18 ≡ 0). absurd (omega arith))
      go false e =
          let good = before_first (sent s) (ltb-false (first_of s) (sent s) e) in
          ((λ (z : 0 ≡ 18). absurd (omega arith), λ _. good), λ _. (shown ok good, refl, ones_counted (hit_one w s) (sent s)))

  pub right : Right (answer_of w s)
  unfolding answer_of
  right = go (is_window w) refl (leb (sent s) most)
    where
      go : (a : Bool) → is_window w ≡ a → (b : Bool) → Right (cond a (cond b (judged w s) (refusal TooManySummaries 0)) (refusal BadWindow 0))
      go true e true = judged_right (is_true (is_window w) e)
      go true e false = refused_right TooManySummaries (omega arith)
      go false e b = refused_right BadWindow (omega arith)
