-- The sweep over the points of F and the halfsegments of G: from event to event, the points so far have the notes that are defined.
use Rattle.std.specs.Prelude.{None}
use Prim.Native.Nat.{ℕ, ◌+◌, ◌<◌, ◌≤◌}
use native.Mathlib.Nat.{not-suc-le-zero, eq-or-lt_of_le}
use native.Mathlib.Decide.{dec_lt}
use native.Mathlib.Omega.{arith}
use mathlib.Core.Path.{◌≡◌, refl, sym, ap, subst, ◌∙◌}
use mathlib.Core.Logic.{inl, inr, ⊎_elim}
use mathlib.Core.Bool.{Bool, true, false, not, ◌||◌, cond, true≢false}
use mathlib.Core.List.{List, []}
use lib.Dec.{T, not_T, ltb}
use lib.ListN.{length, get_or, set, length-set}
use lib.Seq.{get_or-set_same, get_or-set_other}
use borrow.Author.Tests.{ltb-true, not-false}
use Rattle.whole.proofs.Logic.{less_or_not, and_left, is_true, true_is, in_nil}
use Rattle.plane.specs.Plane.{before, comes_before, grid, ends_at}
use Rattle.plane.proofs.Order.{before_irreflexive, before_trans}
use Rattle.scene.specs.declared.Shape.TheVariants.{Points}
use Rattle.scene.specs.declared.Scene.{Scene}
use Rattle.scene.specs.Read.{halfsegment_at, place, IsScene}
use Rattle.scene.specs.Conditions.{has_segments, segments, out_of_order}
use Rattle.scene_segments.proofs.Indices.{points_rise}
use Rattle.sweep_laws.specs.Swept.{object_of, total}
use Rattle.sweep_laws.specs.Noted.{point_note, PointsNoted}
use Rattle.sweep_laws.specs.Located.{NearNote, point_by, is_point_next, PointsTaken}
use Rattle.sweep_laws.proofs.Under.{NotBefore}
use Rattle.sweep_laws.proofs.Entries.{one_more}
use Rattle.sweep_laws.proofs.Objects.{read}
use Rattle.sweep_laws.proofs.Ordered.{orderly}
use Rattle.sweep_laws.proofs.Run.{point_of, Orderly, AllEndLater, Run}
use Rattle.sweep_laws.proofs.Notes.{AllNoted}
use Rattle.sweep_laws.proofs.Chosen.{none_left, one_left, both_left, not_before_trans, from_one, Chosen, chosen}
use Rattle.sweep_laws.proofs.Located.{near_is}

module _ (s : List ℕ) (sc : Scene) where
  -- a point that comes next is there
  pub next_within : (i j : ℕ) → T (is_point_next s sc i j) → i < sc.f.count
  next_within i j t =
      ltb-true i sc.f.count
      (true_is (ltb i sc.f.count) (and_left (ltb i sc.f.count) (not (ltb j (total s sc false)) || not (before (point_of s sc false j) (point_by s sc i))) t))

  -- ---- the points before one halfsegment

  module _ (j : ℕ) (entries : List ℕ) (i : ℕ) (old : List ℕ) where
    pub points_none : PointsTaken s sc j entries i i old old
    points_none =
        record {
          onward = omega arith;
          same_length = refl;
          next = λ k a b. absurd (omega arith);
          notes = λ k a b. absurd (omega arith);
          others = λ k h. refl;
        }

    pub points_more : (k : ℕ) {new : List ℕ} {note : ℕ} → PointsTaken s sc j entries i k old new → T (is_point_next s sc k j) → k < length new
        → NearNote s entries (point_by s sc k) note → PointsTaken s sc j entries i (k + 1) old (set new k note)
    points_more k {new} {note} p t room is =
        record {
          onward = omega (arith, p.onward);
          same_length = simp length-set p.same_length;
          next = λ m a b. one_more {P = λ m. i ≤ m → T (is_point_next s sc m j)} k (λ m b a. p.next m a b) (λ a. t) m b a;
          notes = λ m a b. one_more {P = λ m. i ≤ m → NearNote s entries (point_by s sc m) (get_or (set new k note) m 0)} k (λ m b a. subst (NearNote s entries (point_by s sc m)) (sym (still m (λ e. omega arith))) (p.notes m a b)) (λ a. subst (NearNote s entries (point_by s sc k)) (sym (get_or-set_same new k note 0 room)) is) m b a;
          others = λ m h. ⊎_elim (λ b. still m (λ e. omega (arith, p.onward)) ∙ p.others m (inl b)) (λ b. still m (λ e. omega arith) ∙ p.others m (inr (omega arith))) h;
        }
      where
        still : (m : ℕ) → (m ≡ k → ⊥) → get_or (set new k note) m 0 ≡ get_or new m 0
        still m h = get_or-set_other new k m note 0 h

  -- the notes of G's halfsegments stand further on
  pub still_noted : {j : ℕ} {entries : List ℕ} {i i' : ℕ} {old new : List ℕ} → PointsTaken s sc j entries i i' old new → i' ≤ 1024
      → AllNoted s sc 0 j entries old → AllNoted s sc 0 j entries new
  still_noted taken few noted later true k h none = absurd (not-suc-le-zero h)
  still_noted taken few noted later false k h none = taken.others (1024 + k) (inr (omega arith)) ∙ noted later false k h none

  -- ---- from halfsegment to halfsegment

  -- i points and j halfsegments have been taken: no later point comes before one of these halfsegments, and where all that is active ends later, the
  -- points so far have their notes
  pub record Passed (i j : ℕ) (entries notes : List ℕ) : Type 0 where
    pub in_time : (p k : ℕ) → i ≤ p → p < sc.f.count → k < j → NotBefore (point_by s sc p) (point_of s sc false k)
    pub noted : AllEndLater s sc 0 j entries → (p : ℕ) → p < i → ends_at (segments s sc.g) (grid (point_by s sc p)) ≡ 0
        → get_or notes p 0 ≡ point_note (segments s sc.g) (point_by s sc p)

  pub passed_none : (entries notes : List ℕ) → Passed 0 0 entries notes
  passed_none entries notes = record { in_time = λ p k a b h. absurd (not-suc-le-zero h); noted = λ later p h. absurd (not-suc-le-zero h) }

  module _ (is : IsScene s sc) (order : (first : Bool) → out_of_order s (object_of s sc first) ≡ None) (points : sc.f.shape ≡ Points) (has : T (has_segments sc.g.shape)) where
    abbrev pub start : Orderly s sc
    start = orderly s sc is order

    pub no_segments : has_segments sc.f.shape ≡ false
    no_segments = ap has_segments points

    pub no_events : total s sc true ≡ 0
    no_events = ap (λ (b : Bool). cond b sc.f.count 0) no_segments

    -- F has no events, so G's come one after the other
    pub only_second : (j : ℕ) → j < total s sc false → Chosen s sc start 0 j false
    only_second j h =
        chosen s sc start 0 j (omega arith) (omega (arith, h, no_events)) false
        (none_left 0 (total s sc true) j (total s sc false) (comes_before (halfsegment_at s (place sc.g j)) (halfsegment_at s (place sc.f 0))) (omega (arith, no_events)))

    -- a point that comes next does not come after a halfsegment to come
    before_next : (i j : ℕ) → T (is_point_next s sc i j) → (m : ℕ) → j ≤ m → m < total s sc false → NotBefore (point_of s sc false m) (point_by s sc i)
    before_next i j t m h l =
        not_before_trans (point_of s sc false m) (point_of s sc false j) (point_by s sc i) (from_one s sc start false j m h l)
        (subst T (both_left i sc.f.count j (total s sc false) (before (point_of s sc false j) (point_by s sc i)) (next_within i j t) (omega arith)) t)

    -- where none does, the halfsegment does not come after a point to come
    after_next : (i j : ℕ) → is_point_next s sc i j ≡ false → j < total s sc false → (p : ℕ) → i ≤ p → p < sc.f.count → NotBefore (point_by s sc p) (point_of s sc false j)
    after_next i j e l p h w = not_T (before (point_by s sc p) (point_of s sc false j)) (λ b. before_irreflexive (point_by s sc p) (before_trans (point_by s sc p) (point_of s sc false j) (point_by s sc p) b earlier))
      where
        later : T (before (point_of s sc false j) (point_by s sc i))
        later = is_true _ (not-false (before (point_of s sc false j) (point_by s sc i)) (sym (both_left i sc.f.count j (total s sc false) (before (point_of s sc false j) (point_by s sc i)) (omega arith) l) ∙ e))

        earlier : T (before (point_of s sc false j) (point_by s sc p))
        earlier =
            ⊎_elim (λ q. subst (λ (n : ℕ). T (before (point_of s sc false j) (point_by s sc n))) q later)
            (λ g. before_trans (point_of s sc false j) (point_by s sc i) (point_by s sc p) later (points_rise s sc.f (read s sc is true) (order true) no_segments i p g w)) (eq-or-lt_of_le h)

    module _ {i i' j : ℕ} {entries old new : List ℕ} (run : Run s sc 0 j entries) (within : j ≤ total s sc false) (passed : Passed i j entries old)
        (inside : i' ≤ sc.f.count) (taken : PointsTaken s sc j entries i i' old new) where
      -- after the points before a halfsegment
      pub passed_points : Passed i' j entries new
      passed_points =
          record {
            in_time = λ p k a b h. passed.in_time p k (omega (arith, taken.onward)) b h;
            noted = λ later p h away. ⊎_elim (λ l. taken.others p (inl l) ∙ passed.noted later p l away) (λ l. near_is s sc start no_segments (true_is (has_segments sc.g.shape) has) run within later (point_by s sc p) (λ k g. passed.in_time p k l (omega arith) g) (before_next p j (taken.next p l h)) away (taken.notes p l h)) (less_or_not p i);
          }

    -- and after it
    pub passed_event : {i j : ℕ} {entries new notes notes' : List ℕ} → Passed i j entries notes → is_point_next s sc i j ≡ false → j < total s sc false
        → (AllEndLater s sc 0 (j + 1) new → AllEndLater s sc 0 j entries) → ((p : ℕ) → p < i → get_or notes' p 0 ≡ get_or notes p 0) → Passed i (j + 1) new notes'
    passed_event {i} {j} passed last more back same =
        record {
          in_time = λ p k a b h. one_more {P = λ k. NotBefore (point_by s sc p) (point_of s sc false k)} j (λ k l. passed.in_time p k a b l) (after_next i j last more p a b) k h;
          noted = λ later p h away. same p h ∙ passed.noted (back later) p h away;
        }

    -- all points and all halfsegments
    pub all_noted : {i : ℕ} {notes : List ℕ} → Passed i (total s sc false) [] notes → is_point_next s sc i (total s sc false) ≡ false → PointsNoted s sc notes
    all_noted {i} passed last a b p h away = passed.noted (λ e m. absurd (in_nil m)) p (all (dec_lt p i)) away
      where
        all : Dec (p < i) → p < i
        all (yes l) = l
        all (no l) = absurd (true≢false (sym (one_left i sc.f.count (total s sc false) (total s sc false) (before (point_of s sc false (total s sc false)) (point_by s sc i)) (omega arith) (omega arith)) ∙ last))
