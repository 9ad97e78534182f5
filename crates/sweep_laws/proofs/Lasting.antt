-- In a scene where the conditions 11 to 15 find no fault, each active segment ends at an event to come; so none is active when all have been taken.
use Prim.Native.Nat.{ℕ, suc, ◌<◌, ◌≤◌}
use native.Mathlib.Omega.{arith}
use mathlib.Core.Path.{◌≡◌, refl, sym, ap, ◌∙◌, subst, subst₂}
use mathlib.Core.Logic.{◌⊎◌, inl, inr, ⊎_elim}
use mathlib.Core.Bool.{Bool, true, false, not, true≢false}
use mathlib.Core.List.{List, [], ◌∷◌, ◌++◌, map}
use lib.Dec.{T}
use lib.ListN.{length, get_or, take, drop}
use lib.Seq.{split_at}
use borrow.Author.Tests.{ltb-true}
use Rattle.whole.specs.Count.{◌∈◌, here, bit, some, count}
use Rattle.whole.proofs.Logic.{less_or_not, in_map, some_make, true_is, and_make, is_true, beq_refl}
use Rattle.whole.proofs.Counted.{count_between, some_count, at_between}
use Rattle.plane.specs.Plane.{before, ordered, is_same_segment, comes_before}
use Rattle.plane.proofs.Equal.{same_segment_refl}
use Rattle.scene.specs.declared.Scene.{Scene}
use Rattle.sweep_laws.specs.Kept.{Strand, same_object, own_equal, Kept}
use Rattle.sweep_laws.specs.Swept.{is_first, strand_of, strand_at, is_beginning, total}
use Rattle.sweep_laws.specs.Event.{Began, Ended, Taken, it_began, it_ended, CanTake}
use Rattle.sweep_laws.proofs.Under.{NotBefore}
use Rattle.sweep_laws.proofs.Begun.{strand_by, reached, strands, Next}
use Rattle.sweep_laws.proofs.Shifted.{in_inserted, in_removed}
use Rattle.sweep_laws.proofs.Ordered.{comes_by_point}
use Rattle.sweep_laws.proofs.Run.{point_of, Orderly, is_region_of, EndsLater, AllEndLater, Run, place_of, own_of, left_point, right_point, own_there, map-append}
use Rattle.sweep_laws.proofs.EventOrder.{half_by, Rises, After, Earliest, not_earlier}
use Rattle.sweep_laws.proofs.Complete.{Other, Fair, can_begin, can_end}

counted : {A : Type 0} (f : A → Bool) {l : List A} {a : A} → a ∈ l → T (f a) → 0 < count f l
counted f {l} m t = ltb-true 0 (count f l) (sym (some_count f l) ∙ true_is (some f l) (some_make f m t))

module _ (s : List ℕ) (sc : Scene) (o : Orderly s sc) (rise : Rises s sc) (fair : Fair s sc) {i j : ℕ} {entries : List ℕ} (run : Run s sc i j entries) (later : AllEndLater s sc i j entries)
    (first : Bool) (more : reached s sc i j first < total s sc first) where
  abbrev next : ℕ
  next = reached s sc i j first

  abbrev a : Strand
  a = own_of s sc i j first

  before_own : T (before a.segment.left a.segment.right)
  unfolding ordered
  before_own = o.sound first next more

  module _ {i' j' : ℕ} (step : Next s sc first i j i' j') where
    -- one that ends later, and not at this event, ends later still
    still : {e : ℕ} (l : EndsLater s sc i j e) → (is_first s sc e ≡ first → l.index ≡ next → ⊥) → EndsLater s sc i' j' e
    still {e} l other = record { index = l.index; to_come = go (less_or_not l.index (reached s sc i' j' (is_first s sc e))); within = l.within; is_end_lem = l.is_end_lem; is = l.is }
      where
        past : l.index < reached s sc i j (is_first s sc e) → ⊥
        past h = omega (arith, l.to_come)

        go : (l.index < reached s sc i' j' (is_first s sc e)) ⊎ (reached s sc i' j' (is_first s sc e) ≤ l.index) → reached s sc i' j' (is_first s sc e) ≤ l.index
        go (inl h) = ⊎_elim (λ k. absurd (past k)) (λ q. absurd (other q.0 q.1)) (step.by_one (is_first s sc e) l.index h)
        go (inr h) = h

    -- the segment that begins ends at its other halfsegment
    own_later : is_beginning s sc first next ≡ true → EndsLater s sc i' j' (place_of s sc i j first)
    own_later begins =
        record {
          index = w.index;
          to_come = subst (λ (b : Bool). reached s sc i' j' b ≤ w.index) (sym own) (go (less_or_not w.index (reached s sc i' j' first)));
          within = subst (λ (b : Bool). w.index < total s sc b) (sym own) w.there;
          is_end_lem = subst (λ (b : Bool). is_beginning s sc b w.index ≡ false) (sym own) is_right;
          is = subst (λ (b : Bool). strand_by s sc b w.index ≡ strand_of s sc b (place_of s sc i j first)) (sym own) w.is;
        }
      where
        w : Other s sc first next
        w = fair.other first next more

        own : is_first s sc (place_of s sc i j first) ≡ first
        own = o.owned first next more

        is_right : is_beginning s sc first w.index ≡ false
        is_right = w.other_side ∙ ap not begins

        comes : T (comes_before (half_by s sc first next) (half_by s sc first w.index))
        comes = comes_by_point (half_by s sc first next) (half_by s sc first w.index) (subst₂ (λ p q. T (before p q)) (sym (left_point s sc first next begins)) (ap (λ (b : Strand). b.segment.right) (sym w.is) ∙ sym (right_point s sc first w.index is_right)) before_own)

        earlier : w.index < next → ⊥
        earlier h = not_earlier s sc o rise first w.index next (omega arith) more comes

        go : (w.index < reached s sc i' j' first) ⊎ (reached s sc i' j' first ≤ w.index) → reached s sc i' j' first ≤ w.index
        go (inl h) = ⊎_elim (λ k. absurd (earlier k)) (λ q. absurd (true≢false (sym begins ∙ ap (is_beginning s sc first) (sym q.1) ∙ is_right))) (step.by_one first w.index h)
        go (inr h) = h

    begun_later : is_beginning s sc first next ≡ true → {new : List ℕ} {note : ℕ} → Began s sc first (place_of s sc i j first) entries new note → AllEndLater s sc i' j' new
    begun_later begins b e m =
        ⊎_elim (λ q. subst (EndsLater s sc i' j') (sym q) (own_later begins))
        (λ n. let l = later e n in still l (λ f g. true≢false (sym begins ∙ ap (is_beginning s sc first) (sym g) ∙ subst (λ (b : Bool). is_beginning s sc b l.index ≡ false) f l.is_end_lem)))
        (in_inserted b.position entries (subst (λ r. e ∈ r) b.new_is m))

    -- only its own entry ends at an ending
    ended_later : is_beginning s sc first next ≡ false → {notes new : List ℕ} {note : ℕ} → Ended s sc first (place_of s sc i j first) entries notes new note → AllEndLater s sc i' j' new
    ended_later ends b e m = let l = later e (in_removed 0 b.position entries (own_there s sc b) n) in still l (λ f g. twice (sym l.is ∙ ap (λ (b : Bool). strand_by s sc b l.index) f ∙ ap (strand_by s sc first) g))
      where
        n : e ∈ (take b.position entries ++ drop (suc b.position) entries)
        n = subst (λ r. e ∈ r) b.new_is m

        low : List Strand
        low = map (strand_at s sc) (take b.position entries)

        high : List Strand
        high = map (strand_at s sc) (drop (suc b.position) entries)

        k : Kept (is_region_of s sc) (strands s sc true i j) (strands s sc false i j) (low ++ (a ∷ high))
        k =
            subst (Kept (is_region_of s sc) (strands s sc true i j) (strands s sc false i j))
            (ap (map (strand_at s sc)) (split_at entries b.position 0 (own_there s sc b)) ∙ map-append (strand_at s sc) (take b.position entries) (get_or entries b.position 0 ∷ drop (suc b.position) entries) ∙ ap (λ (c : Strand). low ++ (c ∷ high)) b.found.own)
            (run.kept later)

        own : T (own_equal a a)
        own = and_make (same_object a a) (is_same_segment a.segment a.segment) (is_true (same_object a a) (beq_refl a.first)) (same_segment_refl a.segment)

        -- two active strands of one segment of one object
        twice : strand_at s sc e ≡ a → ⊥
        twice q =
            omega (
              arith,
              k.once a (k.active_begun a (at_between low a high)),
              k.counts (own_equal a),
              count_between (own_equal a) low a high,
              ap bit (true_is (own_equal a a) own),
              counted (own_equal a) (subst (λ (r : List Strand). strand_at s sc e ∈ r) (map-append (strand_at s sc) (take b.position entries) (drop (suc b.position) entries)) (in_map (strand_at s sc) n)) (subst (λ (c : Strand). T (own_equal a c)) (sym q) own),
            )

    pub lasts : {notes new : List ℕ} {note : ℕ} → Taken s sc first next notes entries new note → AllEndLater s sc i' j' new
    lasts (it_began e b) = begun_later e b
    lasts (it_ended e b) = ended_later e b

  pub can_take : After s sc i j → ((b : Bool) → reached s sc i j b ≤ total s sc b)
      → ((other : Bool) (m : ℕ) → reached s sc i j other ≤ m → m < total s sc other → NotBefore (point_of s sc other m) (point_of s sc first next))
      → Earliest s sc i j first → CanTake s sc first next entries
  can_take after within least earliest =
      record {
        can_begin = can_begin s sc o fair run later after within first more least earliest;
        can_end = can_end s sc o fair run later after within first more least earliest rise;
      }

-- when all have been taken, none is active
module _ (s : List ℕ) (sc : Scene) where
  none_active : (entries : List ℕ) → AllEndLater s sc (total s sc true) (total s sc false) entries → length entries ≡ 0
  none_active [] later = refl
  none_active (e ∷ l) later = absurd (over (is_first s sc e) w.to_come w.within)
    where
      w : EndsLater s sc (total s sc true) (total s sc false) e
      w = later e here

      over : (b : Bool) → reached s sc (total s sc true) (total s sc false) b ≤ w.index → w.index < total s sc b → ⊥
      over true h l = omega arith
      over false h l = omega arith

  module _ (entries : List ℕ) {i j : ℕ} (of_f_lem : i ≡ total s sc true) (of_g_lem : j ≡ total s sc false) where
    pub none_left : AllEndLater s sc i j entries → length entries ≡ 0
    none_left later = none_active entries (subst₂ (λ (i j : ℕ). AllEndLater s sc i j entries) of_f_lem of_g_lem later)

    -- what holds then of the elements and entries
    pub at_end_lem : (P : ℕ → ℕ → List ℕ → Type 0) → length entries ≡ 0 → P i j entries → P (total s sc true) (total s sc false) []
    at_end_lem P e p = subst₂ (λ (i j : ℕ). P i j []) of_f_lem of_g_lem (subst (P i j) (empty entries e) p)
      where
        empty : (l : List ℕ) → length l ≡ 0 → l ≡ []
        empty [] e = refl
        empty (a ∷ l) e = absurd (omega arith)
