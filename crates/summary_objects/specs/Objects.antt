-- Summaries and the bytes of objects: 02's Paper 2 in sentences over objects that are accepted, "some" and "every" written out.
use Rattle.std.specs.Prelude.{ℕ, ◌≡◌, ◌↔◌, Option, Some, None, Result, Ok, List, ◌++◌, T}
use Rattle.scene.specs.declared.Layout.{Layout}
use Rattle.scene.specs.declared.Scene.{Scene}
use Rattle.scene.specs.declared.Refusal.{Refusal}
use Rattle.scene.specs.Conditions.{check_scene, check_object}
use Rattle.scene_written.specs.Bytes.{AreBytes}
use Rattle.flags.specs.Elements.{elements_of}
use Rattle.flags_masks.specs.declared.Wanted.{Wanted}
use Rattle.flags_vectors.specs.declared.Vectors.{Vectors}
use Rattle.flags_vectors.specs.Vectors.{vectors_in}
use Rattle.summary.specs.declared.Summary.{Summary}
use Rattle.summary.specs.Summary.{summary_of, Near, bytes_of, summary_at, good_bytes}

-- ---- one object

-- "From one object's bytes make a record of kind 83": of the elements that the bytes stand for
abbrev pub summary_in : List ℕ → Layout → Summary
summary_in s l = summary_of (elements_of s l)

-- an accepted object whose record these bytes are: "A call on one object takes 1 to 7 and 10 to 14 over its bytes alone"
pub record Made (r : List ℕ) : Type 0 where
  pub object : List ℕ
  pub layout : Layout
  pub accepted : check_object object ≡ Ok layout
  pub is : bytes_of (summary_in object layout) ≡ r

-- Nothing made is refused: the record of an accepted object is a good summary.
abbrev pub NeverBad : List ℕ → Type 0
NeverBad r = Made r → T (good_bytes r)

-- Nothing else passes: a byte string that is a good summary is the record of some accepted object, a byte string too.
abbrev pub OnlyMade : List ℕ → Type 0
OnlyMade r = AreBytes r → T (good_bytes r) → (one : Made r) × AreBytes one.object

-- "A summary is bad if its length, kind, type, yes-or-no byte or range is wrong, a least is above its greatest, or it breaks the empty rule. So are points with
-- boundary byte 1, and a non-empty line whose box is one point, or is flat with boundary byte 0. So is a non-empty region whose box is flat or whose boundary byte
-- is 0." That is, it is good (`good_bytes`) exactly if some accepted object has it.
abbrev pub GoodExactlyIfMade : List ℕ → Type 0
GoodExactlyIfMade r = NeverBad r × OnlyMade r

-- ---- two objects

-- "For summaries made from two objects that form an accepted scene, those vectors are the full answer": where vectors are told of two records, every two
-- accepted objects that have them form an accepted scene, and the vectors are those of the vectors question with all flags wanted, in the caller's order.
abbrev pub ToldInFull : List ℕ → List ℕ → Result (Option Vectors) Refusal → Type 0
ToldInFull r q answer =
    (one : Made r) (other : Made q) (v : Vectors) → answer ≡ Ok (Some v)
    → (sc : Scene) × (check_scene (one.object ++ other.object) ≡ Ok sc) × (v ≡ vectors_in (one.object ++ other.object) sc Wanted.All)

-- "if the boxes share no point or an object is empty, and "look" .. otherwise"
abbrev pub LookExactlyIfNear : List ℕ → List ℕ → Result (Option Vectors) Refusal → Type 0
LookExactlyIfNear r q answer = (answer ≡ Ok None) ↔ (T (good_bytes r) × T (good_bytes q) × Near (summary_at r 0) (summary_at q 0))
