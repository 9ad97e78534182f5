-- One turn over the summaries: what stands at summary k is good and adds its bit to the word, or it is the first that is bad.
use Rattle.scene.specs.declared.Reason.TheVariants.{BadSummary}
use Rattle.std.proofs.Common.{◌≡◌, ℕ, ◌+◌, ◌*◌, ◌%◌, ◌^◌, ◌≤◌, ◌<◌, Bool, true, false, not, ◌&&◌, cond, List, ◌++◌, length, drop, min, T, Option, Some, None, Ok, Err, refl, sym, ap, ap₂, subst, ◌∙◌, arith, ◌⊎◌, inl, inr, length-drop}
use Rattle.std.specs.Int.Count.{ones}
use Rattle.std.specs.Int.{from_bool}
use Rattle.std.proofs.Math.Nat.{eq-or-lt_of_le, lt_of_lt_of_le}
use lib.Pow.{pow_mono}
use borrow.Author.Tests.{lt-ltb, le-ltb}
use Rattle.whole.specs.Count.{bit}
use Rattle.whole.proofs.Logic.{is_true}
use Rattle.flags.specs.Flags.{pack}
use Rattle.summary.specs.declared.Summary.{Summary}
use Rattle.summary.specs.Summary.{summary_at, good_bytes, parsed_summary}
use Rattle.summary_window.specs.declared.Window.{Window}
use Rattle.summary_window.specs.Window.{sent, good_one, AllGood, meets, hit_at, hit_one, tests, first_of, refusal, found, judged}
use Rattle.summary_window.proofs.First.{first_is, none_fails}
use Rattle.summary_window.proofs.Rows.{pushed, small}
use Rattle.summary_window.proofs.Records as Records

-- ---- what was parsed

module _ (x : List ℕ) {r : Option Summary} (is : r ≡ parsed_summary x) where
  pub parsed : {m : Summary} → r ≡ Some m → (good_bytes x ≡ true) × (summary_at x 0 ≡ m)
  parsed {m} h = go (good_bytes x) (sym is ∙ h)
    where
      go : (b : Bool) → cond b (Some (summary_at x 0)) None ≡ Some m → (b ≡ true) × (summary_at x 0 ≡ m)
      go true h = (refl, cc)
      go false h = cc

  pub not_parsed : r ≡ None → good_bytes x ≡ false
  not_parsed h = go (good_bytes x) (sym is ∙ h)
    where
      go : (b : Bool) → ◌≡◌ {A = Option Summary} (cond b (Some (summary_at x 0)) None) None → b ≡ false
      go true h = cc
      go false h = refl

-- ---- the next bytes, at most 20, of those that are left from summary k on

pub record Turn (s : List ℕ) (k : ℕ) (x rest : List ℕ) : Type 0 where
  pub is : drop (20 * k) s ≡ x ++ rest
  pub long : length x ≡ min 20 (length (drop (20 * k) s))
  pub some : 0 < length (drop (20 * k) s)

pub turn : {s : List ℕ} {k : ℕ} {x rest : List ℕ} {n : ℕ} {left : List ℕ} → n ≡ 20 → left ≡ drop (20 * k) s
    → (left ≡ x ++ rest) × (length x ≡ min n (length left)) × (0 < length left) → Turn s k x rest
turn size is (cut, long, some) = record { is = sym is ∙ cut; long = long ∙ ap₂ min size (ap length is); some = omega (arith, ap length is) }

-- ---- the summaries so far, of no more than 64
module _ (w : Window) (s : List ℕ) (few : length s ≤ 1280) (k : ℕ) (good : AllGood s k) where
  module _ {x rest : List ℕ} (t : Turn s k x rest) where
    under : k < sent s
    under = omega (arith, t.some, length-drop (20 * k) s)

    pub below_64 : k < 64
    below_64 = omega (arith, under)

    pub is_bad : good_bytes x ≡ false → Err (record { reason = BadSummary; place = k }) ≡ judged w s
    unfolding judged
    is_bad e =
        let first = first_is (good_one s) (sent s) k under good (sym (Records.good_is s x rest k t.is t.long) ∙ e) in
        rw (first, lt-ltb k (sent s) under)

    module _ (e : good_bytes x ≡ true) where
      pub one_more : AllGood s (k + 1)
      one_more j h = go (eq-or-lt_of_le (less j k h))
        where
          less : (j k : ℕ) → j < k + 1 → j ≤ k
          less j k h = omega arith

          go : (j ≡ k) ⊎ (j < k) → T (good_one s j)
          go (inl q) = subst (λ (i : ℕ). T (good_one s i)) (sym q) (is_true (good_one s k) (sym (Records.good_is s x rest k t.is t.long) ∙ e))
          go (inr l) = good j l

      pub next_rest : rest ≡ drop (20 * (k + 1)) s
      next_rest = Records.next s x rest k t.is t.long e

      pub next_within : 20 * (k + 1) ≤ length s
      next_within = Records.within s x rest k t.is t.long e

      pub hit_is : {m : Summary} {hit : Bool} → summary_at x 0 ≡ m → hit ≡ (not m.empty && meets w m.bounds) → hit ≡ hit_one w s k
      unfolding hit_at
      hit_is a h = h ∙ ap (λ (m : Summary). not m.empty && meets w m.bounds) (sym a ∙ Records.holds s x rest k t.is t.long e)

  -- and at the end
  pub all_sent : length (drop (20 * k) s) ≡ 0 → 20 * k ≤ length s → {word : ℕ} → word ≡ pack (tests (hit_one w s) k 0)
      → Ok (record { word = word; hits = ones word }) ≡ judged w s
  unfolding judged
  all_sent none h is =
      ap (λ (n : ℕ). Ok (record { word = n; hits = ones n })) (is ∙ ap (λ (n : ℕ). pack (tests (hit_one w s) n 0)) all)
      ∙ sym (ap (λ (b : Bool). cond b (refusal BadSummary (first_of s)) (found w s)) (le-ltb (first_of s) (sent s) (omega (arith, no_bad))))
    where
      all : k ≡ sent s
      all = omega (arith, length-drop (20 * k) s)

      no_bad : first_of s ≡ sent s
      no_bad = none_fails (good_one s) (sent s) (subst (AllGood s) all good)

-- ---- the word, with one bit more

module _ (f : ℕ → Bool) (n : ℕ) (few : n < 64) {k word : ℕ} (at : k ≡ n) (is : word ≡ pack (tests f n 0)) (hit : Bool) (same : hit ≡ f n) where
  shifted : from_bool hit * 2 ^ n % 2 ^ 64 ≡ bit hit * 2 ^ n
  shifted = go hit (pow_mono (below n few))
    where
      below : (n : ℕ) → n < 64 → n ≤ 63
      below n h = omega arith

      go : (b : Bool) → 2 ^ n ≤ 2 ^ 63 → from_bool b * 2 ^ n % 2 ^ 64 ≡ bit b * 2 ^ n
      go true h = omega arith
      go false h = omega arith

  pub next_word : word + from_bool hit * 2 ^ k % 2 ^ 64 ≡ pack (tests f (n + 1) 0)
  next_word = rw at (ap₂ ◌+◌ is (shifted ∙ ap (λ (b : Bool). bit b * 2 ^ n) same) ∙ sym (pushed f n))

  pub fits : word + from_bool hit * 2 ^ k % 2 ^ 64 < 2 ^ 64
  fits = rw next_word (lt_of_lt_of_le (small f (n + 1)) (pow_mono (upto n few)))
    where
      upto : (n : ℕ) → n < 64 → n + 1 ≤ 64
      upto n h = omega arith
