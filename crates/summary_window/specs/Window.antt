-- Document 02, Paper 11: the window, the summaries that were sent, and which of them share a point with it. A quotation names the sentence that a definition renders.
use Rattle.scene.specs.declared.Reason.{Reason}
use Rattle.scene.specs.declared.Reason.TheVariants.{BadSummary, BadWindow, TooManySummaries}
use Rattle.scene.specs.Read.{number_of}
use Rattle.std.specs.Prelude.{ℕ, zero, suc, ◌+◌, ◌*◌, ◌/◌, ◌<◌, ◌≡◌, ◌↔◌, Bool, false, not, ◌&&◌, cond, Result, Ok, Err, List, [], ◌∷◌, T, leb, ltb, length, ℤ, Float}
use Rattle.std.specs.Int.Count.{ones}
use Rattle.std.specs.Float.{binary32}
use Rattle.std.specs.Float.Ieee.{of_int, le}
use Rattle.std.specs.Float.Ieee.Scale.{finite}
use Rattle.whole.specs.Count.{count}
use Rattle.plane.specs.Plane.{FractionPoint}
use Rattle.floats.specs.Value.{value_of, over_one, InStretch}
use Rattle.scene.specs.declared.Refusal.{Refusal}
use Rattle.flags.specs.Flags.{pack, has_bit}
use Rattle.summary.specs.declared.Bounds.{Bounds}
use Rattle.summary.specs.Summary.{size, summary_at, good_at}
use Rattle.summary_window.specs.declared.Window.{Window}
use Rattle.summary_window.specs.declared.InWindow.{InWindow}

-- ---- the window

-- "a number is not finite or a least exceeds its greatest"; both zeros are one number
unfoldable pub is_range : Float → Float → Bool
is_range l g = finite l && (finite g && le l g)

unfoldable pub is_window : Window → Bool
is_window w = is_range w.least_x w.greatest_x && is_range w.least_y w.greatest_y

-- ---- the summaries that were sent

-- "up to 64 summaries"
abbrev pub most : ℕ
most = 64

-- how many: they stand one after the other, "a cut one counting"
abbrev pub sent : List ℕ → ℕ
sent s = (length s + 19) / 20

-- a good summary stands whole at an offset; summary k stands at 20 k
unfoldable pub good_from : List ℕ → ℕ → Bool
good_from s at = leb (at + size) (length s) && good_at s at

abbrev pub good_one : List ℕ → ℕ → Bool
good_one s k = good_from s (20 * k)

abbrev pub AllGood : List ℕ → ℕ → Type 0
AllGood s n = (k : ℕ) → k < n → T (good_one s k)

-- "the first bad summary's index": of n summaries from k on; k + n if none is bad
abbrev pub first_bad : (ℕ → Bool) → ℕ → ℕ → ℕ
first_bad good zero k = k
first_bad good (suc n) k = cond (good k) (first_bad good n (suc k)) k

-- ---- hits

-- "its box shares a point with the window, edges included", along one axis and along both
unfoldable pub shares_of : Float → Float → ℤ → ℤ → Bool
shares_of l g low high = le l (of_int binary32 high) && le (of_int binary32 low) g

unfoldable pub meets : Window → Bounds → Bool
meets w b =
    shares_of w.least_x w.greatest_x b.least.x b.greatest.x && shares_of w.least_y w.greatest_y b.least.y b.greatest.y

-- "is not empty and its box shares a point with the window"
unfoldable pub hit_at : Window → List ℕ → ℕ → Bool
hit_at w s at = not (summary_at s at).empty && meets w (summary_at s at).bounds

abbrev pub hit_one : Window → List ℕ → ℕ → Bool
hit_one w s k = hit_at w s (20 * k)

-- a test of n numbers from k on
abbrev pub tests : (ℕ → Bool) → ℕ → ℕ → List Bool
tests f zero k = []
tests f (suc n) k = f k ∷ tests f n (suc k)

-- "one 64-bit word, bit k set exactly if summary k was sent", is a hit
abbrev pub word_of : Window → List ℕ → ℕ
word_of w s = pack (tests (hit_one w s) (sent s) 0)

-- ---- the answer

abbrev pub refusal : {A : Type 0} → Reason → ℕ → Result A Refusal
refusal reason place = Err (record { reason = reason; place = place })

-- "and the number of hits": the ones of the word
abbrev pub found : Window → List ℕ → Result InWindow Refusal
found w s = Ok (record { word = word_of w s; hits = ones (word_of w s) })

-- "It refuses in this order 27 at place 0 if a number is not finite or a least exceeds its greatest, 28 at place 0 for more than 64 summaries, a cut one counting,
-- and 18 at the first bad summary's index."
abbrev pub first_of : List ℕ → ℕ
first_of s = first_bad (good_one s) (sent s) 0

unfoldable pub judged : Window → List ℕ → Result InWindow Refusal
judged w s = cond (ltb (first_of s) (sent s)) (refusal BadSummary (first_of s)) (found w s)

unfoldable pub answer_of : Window → List ℕ → Result InWindow Refusal
answer_of w s = cond (is_window w) (cond (leb (sent s) most) (judged w s) (refusal TooManySummaries 0)) (refusal BadWindow 0)

-- ---- in words

-- number 0: word and hits. Any other: a refusal, with no bit and no hit.
pub record WindowValues : Type 0 where
  pub number : ℕ
  pub place : ℕ
  pub word : ℕ
  pub hits : ℕ

abbrev pub window_values : Result InWindow Refusal → WindowValues
window_values (Ok a) = record { number = 0; place = 0; word = a.word; hits = a.hits }
window_values (Err r) = record { number = number_of r.reason; place = r.place; word = 0; hits = 0 }

-- under 18 the place is the index of a bad summary, and none before it is bad; where the answer is a word every summary is good
abbrev pub BadRight : List ℕ → WindowValues → Type 0
BadRight s r =
    (r.number ≡ 18 → (r.place < sent s) × (good_one s r.place ≡ false) × AllGood s r.place)
    × (r.number ≡ 0 → AllGood s (sent s))

-- a point with fraction coordinates lies in a box, and in a window: each number of the window stands for its exact value
abbrev pub InBox : Bounds → FractionPoint → Type 0
InBox b p = InStretch (over_one b.least.x) (over_one b.greatest.x) p.at_x × InStretch (over_one b.least.y) (over_one b.greatest.y) p.at_y

abbrev pub InView : Window → FractionPoint → Type 0
InView w p =
    InStretch (value_of w.least_x) (value_of w.greatest_x) p.at_x
    × InStretch (value_of w.least_y) (value_of w.greatest_y) p.at_y

-- "summary k was sent, is not empty and its box shares a point with the window, edges included"
abbrev pub Shown : Window → List ℕ → ℕ → Type 0
Shown w s k =
    (k < sent s) × ((summary_at s (20 * k)).empty ≡ false)
    × ((p : FractionPoint) × InBox (summary_at s (20 * k)).bounds p × InView w p)

-- the numbers from k on, n of them
abbrev pub indices : ℕ → ℕ → List ℕ
indices zero k = []
indices (suc n) k = k ∷ indices n (suc k)

-- bit k of the word is set exactly for those; the hits are the ones of the word, and the number of such summaries
abbrev pub HitsRight : Window → List ℕ → WindowValues → Type 0
HitsRight w s r =
    r.number ≡ 0
    → ((k : ℕ) → T (has_bit r.word k) ↔ Shown w s k) × (r.hits ≡ ones r.word) × (r.hits ≡ count (has_bit r.word) (indices (sent s) 0))
