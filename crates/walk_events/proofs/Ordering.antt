-- The order of events: it is strict, transitive, and total for what a sound scene compares. So the events of such a scene come in strictly rising order.
use Prim.Native.Nat.{ℕ, zero, suc, ◌+◌, ◌<◌, ◌≤◌}
use native.Mathlib.Omega.{arith}
use mathlib.Core.Path.{◌≡◌, refl, sym, ap, subst, ◌∙◌}
use mathlib.Core.Logic.{◌⊎◌, inl, inr, ⊎_elim}
use mathlib.Core.Bool.{Bool, true, false, not, ◌||◌, cond, beq, true≢false}
use mathlib.Core.List.{List, [], ◌∷◌, map}
use lib.Dec.{T, T_not, not_T}
use Rattle.whole.specs.Count.{◌∈◌, here, there}
use Rattle.whole.proofs.Logic.{same_test, and_left, and_right, and_make, or_cases, or_left, or_right, is_true, true_is, beq_same, beq_refl, in_cons, in_nil, Sorted, sorted_nil, sorted_cons}
use Rattle.plane.specs.declared.Point.{Point}
use Rattle.plane.specs.Plane.{before, is_same_point, is_same_segment, ordered, dominating, comes_before}
use Rattle.plane.proofs.OnSegment.{ordered_read}
use Rattle.plane.proofs.Equal.{same_point_read, same_point_refl, same_segment_read, same_segment_refl}
use Rattle.plane.proofs.AlongSegment.{Apart}
use Rattle.plane.proofs.Order.{before_irreflexive, before_trans, comes_irreflexive, comes_trans}
use Rattle.scene.specs.declared.Shape.{Shape}
use Rattle.scene.specs.declared.Shape.TheVariants.{Points, Line, Region}
use Rattle.scene.specs.declared.Layout.{Layout}
use Rattle.scene.specs.declared.Scene.{Scene}
use Rattle.scene.specs.Conditions.{indices, elements, has_segments, half}
use Rattle.scene_segments.proofs.Indices.{in_element, indices_in, halves_rise, points_rise}
use Rattle.scene_written.proofs.Compared.{Places, earlier, later, same, places, Compared, first, second, equal, compare_halves}
use Rattle.sweep_laws.proofs.Ordered.{comes_point, comes_by_point}
use Rattle.check_verdict.proofs.Laws.{SoundObject, SoundScene, across, all_ordered, segment_in}
use Rattle.walk_events.specs.declared.Event.{Event}
use Rattle.walk_events.specs.declared.Event.TheVariants.{At, Side}
use Rattle.walk_events.specs.Events.{Taken, f_alone, g_alone, of_both, event_as, event_of, same_event, event_before, merge_from, merge, events, as_event}
use Rattle.walk_events.specs.Rising.{Rises}
use Rattle.walk_events.specs.Events as ev

-- ---- points: not after

abbrev NotAfter : Point → Point → Type 0
NotAfter p q = T (before p q) ⊎ (p ≡ q)

not_after_read : (p q : Point) → T (before p q || is_same_point p q) → NotAfter p q
not_after_read p q t = ⊎_elim inl (λ e. inr (same_point_read p q e)) (or_cases (before p q) (is_same_point p q) t)

not_after_make : (p q : Point) → NotAfter p q → T (before p q || is_same_point p q)
not_after_make p q (inl t) = or_left (before p q) (is_same_point p q) t
not_after_make p q (inr e) = or_right (before p q) (is_same_point p q) (subst (λ (r : Point). T (is_same_point p r)) e (same_point_refl p))

then_before : (p q r : Point) → NotAfter p q → T (before q r) → T (before p r)
then_before p q r (inl t) u = before_trans p q r t u
then_before p q r (inr e) u = subst (λ (z : Point). T (before z r)) (sym e) u

-- as the code asks it
pub upto_is : (p q : Point) → not (before q p) ≡ before p q || is_same_point p q
upto_is p q = same_test (not (before q p)) (before p q || is_same_point p q) (λ t. not_after_make p q (to (places p q) t)) (λ t. from (not_after_read p q t))
  where
    to : Places p q → T (not (before q p)) → NotAfter p q
    to (earlier u) t = inl u
    to (later u) t = absurd (T_not (before q p) t u)
    to (same e) t = inr e

    from : NotAfter p q → T (not (before q p))
    from w = not_T (before q p) (λ u. before_irreflexive p (then_before p q p w u))

before_then : (p q r : Point) → T (before p q) → NotAfter q r → T (before p r)
before_then p q r t (inl u) = before_trans p q r t u
before_then p q r t (inr e) = subst (λ (z : Point). T (before p z)) e t

then_then : (p q r : Point) → NotAfter p q → NotAfter q r → NotAfter p r
then_then p q r (inl t) w = inl (before_then p q r t w)
then_then p q r (inr e) w = subst (λ (z : Point). NotAfter z r) (sym e) w

-- ---- events

-- a halfsegment with its left end before its right
abbrev pub Sound : Event → Type 0
Sound (At p) = Unit {0}
Sound (Side h) = T (ordered h.segment)

-- halfsegments of segments that are equal or share only common ends
abbrev pub Comparable : Event → Event → Type 0
Comparable (At p) (At q) = Unit {0}
Comparable (At p) (Side k) = Unit {0}
Comparable (Side h) (At q) = Unit {0}
Comparable (Side h) (Side k) = (h.segment ≡ k.segment) ⊎ Apart h.segment k.segment

pub event_trans : (a b c : Event) → Sound a → Sound b → Sound c → T (event_before a b) → T (event_before b c) → T (event_before a c)
unfolding event_before
event_trans (At p) (At q) (At r) x y z t u = before_trans p q r t u
event_trans (At p) (At q) (Side m) x y z t u = before_trans p q (dominating m) t u
event_trans (At p) (Side k) (At r) x y z t u = before_then p (dominating k) r t (not_after_read (dominating k) r u)
event_trans (At p) (Side k) (Side m) x y z t u = before_then p (dominating k) (dominating m) t (comes_point k m u)
event_trans (Side h) (At q) (At r) x y z t u =
    or_left (before (dominating h) r) (is_same_point (dominating h) r) (then_before (dominating h) q r (not_after_read (dominating h) q t) u)
event_trans (Side h) (At q) (Side m) x y z t u = comes_by_point h m (then_before (dominating h) q (dominating m) (not_after_read (dominating h) q t) u)
event_trans (Side h) (Side k) (At r) x y z t u =
    not_after_make (dominating h) r (then_then (dominating h) (dominating k) r (comes_point h k t) (not_after_read (dominating k) r u))
event_trans (Side h) (Side k) (Side m) x y z t u = comes_trans h k m x y z t u

pub event_irreflexive : (a : Event) → T (event_before a a) → ⊥
unfolding event_before
event_irreflexive (At p) t = before_irreflexive p t
event_irreflexive (Side h) t = comes_irreflexive h t

pub unequal : {a b : Event} → T (event_before a b) → a ≡ b → ⊥
unequal {a} {b} t e = event_irreflexive b (subst (λ (x : Event). T (event_before x b)) e t)

pub same_read : (a b : Event) → T (same_event a b) → a ≡ b
unfolding same_event
same_read (At p) (At q) t = ap At (same_point_read p q t)
same_read (At p) (Side k) t = absurd t
same_read (Side h) (At q) t = absurd t
same_read (Side h) (Side k) t =
    let s = same_segment_read h.segment k.segment (and_left (is_same_segment h.segment k.segment) (beq h.is_left k.is_left) t) in
    let d = beq_same h.is_left k.is_left (true_is (beq h.is_left k.is_left) (and_right (is_same_segment h.segment k.segment) (beq h.is_left k.is_left) t)) in
    λ j. Side (record { segment = s j; is_left = d j })

pub same_refl : (a : Event) → T (same_event a a)
unfolding same_event
same_refl (At p) = same_point_refl p
same_refl (Side h) = and_make (is_same_segment h.segment h.segment) (beq h.is_left h.is_left) (same_segment_refl h.segment) (is_true (beq h.is_left h.is_left) (beq_refl h.is_left))

-- of two that are not the same, one comes before the other
pub compare_events : (a b : Event) → Sound a → Sound b → Comparable a b → same_event a b ≡ false → event_before a b ≡ false → T (event_before b a)
unfolding event_before
compare_events a b x y c n m = go a b x y c (λ e. true≢false (sym (true_is (same_event a b) (subst (λ (z : Event). T (same_event a z)) e (same_refl a))) ∙ n)) (λ t. true≢false (sym (true_is (event_before a b) t) ∙ m))
  where
    go : (a b : Event) → Sound a → Sound b → Comparable a b → (a ≡ b → ⊥) → (T (event_before a b) → ⊥) → T (event_before b a)
    go (At p) (At q) x y c n m = by (places p q)
      where
        by : Places p q → T (before q p)
        by (earlier t) = absurd (m t)
        by (later t) = t
        by (same e) = absurd (n (ap At e))
    go (At p) (Side k) x y c n m = by (places p (dominating k))
      where
        by : Places p (dominating k) → T (before (dominating k) p || is_same_point (dominating k) p)
        by (earlier t) = absurd (m t)
        by (later t) = or_left (before (dominating k) p) (is_same_point (dominating k) p) t
        by (same e) = not_after_make (dominating k) p (inr (sym e))
    go (Side h) (At q) x y c n m = by (places (dominating h) q)
      where
        by : Places (dominating h) q → T (before q (dominating h))
        by (earlier t) = absurd (m (not_after_make (dominating h) q (inl t)))
        by (later t) = t
        by (same e) = absurd (m (not_after_make (dominating h) q (inr e)))
    go (Side h) (Side k) x y c n m = by (compare_halves h k (ordered_read h.segment x) (ordered_read k.segment y) c)
      where
        by : Compared comes_before h k → T (comes_before k h)
        by (first t) = absurd (m t)
        by (second t) = t
        by (equal e) = absurd (n (ap Side e))

-- ---- the elements of an object, and of two

module _ {s : List ℕ} {l : Layout} (o : SoundObject s l) where
  pub element_sound : (i : ℕ) → i < l.count → Sound (event_of s l i)
  element_sound i h = go l.shape refl
    where
      go : (k : Shape) → l.shape ≡ k → Sound (event_as s l k i)
      go Points e = tt
      go Line e = all_ordered o (half s l i).segment (segment_in o (ap has_segments e) i h)
      go Region e = all_ordered o (half s l i).segment (segment_in o (ap has_segments e) i h)

  pub elements_rise : (i j : ℕ) → i < j → j < l.count → T (event_before (event_of s l i) (event_of s l j))
  unfolding event_before
  elements_rise i j h k = go l.shape refl
    where
      go : (m : Shape) → l.shape ≡ m → T (event_before (event_as s l m i) (event_as s l m j))
      go Points e = points_rise s l o.read o.order (ap has_segments e) i j h k
      go Line e = halves_rise s l o.read o.order (ap has_segments e) i j h k
      go Region e = halves_rise s l o.read o.order (ap has_segments e) i j h k

module _ {s : List ℕ} {sc : Scene} (o : SoundScene s sc) where
  pub comparable : (i j : ℕ) → i < sc.f.count → j < sc.g.count → Comparable (event_of s sc.f i) (event_of s sc.g j)
  comparable i j h k = go sc.f.shape sc.g.shape refl refl
    where
      by : has_segments sc.f.shape ≡ true → has_segments sc.g.shape ≡ true → Comparable (Side (half s sc.f i)) (Side (half s sc.g j))
      by e d = across o (half s sc.f i).segment (half s sc.g j).segment (segment_in o.f_sound e i h) (segment_in o.g_sound d j k)

      go : (a b : Shape) → sc.f.shape ≡ a → sc.g.shape ≡ b → Comparable (event_as s sc.f a i) (event_as s sc.g b j)
      go Points Points e d = tt
      go Points Line e d = tt
      go Points Region e d = tt
      go Line Points e d = tt
      go Line Line e d = by (ap has_segments e) (ap has_segments d)
      go Line Region e d = by (ap has_segments e) (ap has_segments d)
      go Region Points e d = tt
      go Region Line e d = by (ap has_segments e) (ap has_segments d)
      go Region Region e d = by (ap has_segments e) (ap has_segments d)

  -- the next of G comes before the next of F where it is not the same and F's is not before it
  pub turned_about : (i j : ℕ) → i < sc.f.count → j < sc.g.count → ev.same s sc i j ≡ false → ev.earlier s sc i j ≡ false → T (event_before (event_of s sc.g j) (event_of s sc.f i))
  turned_about i j h k = compare_events (event_of s sc.f i) (event_of s sc.g j) (element_sound o.f_sound i h) (element_sound o.g_sound j k) (comparable i j h k)

-- ---- two lists in order, merged

module _ (s : List ℕ) (sc : Scene) where
  module _ (same earlier : ℕ → ℕ → Bool) (P : Event → Type 0) where
    every_g : (G : List ℕ) → ((j : ℕ) → j ∈ G → P (event_of s sc.g j)) → (x : Taken) → x ∈ map g_alone G → P (as_event s sc x)
    every_g [] g x m = absurd (in_nil m)
    every_g (j ∷ G) g x m = ⊎_elim (λ e. subst (λ (y : Taken). P (as_event s sc y)) (sym e) (g j here)) (λ n. every_g G (λ k l. g k (there l)) x n) (in_cons m)

    abbrev Every : List Taken → Type 0
    Every l = (x : Taken) → x ∈ l → P (as_event s sc x)

    head : {y : Taken} {l : List Taken} → P (as_event s sc y) → Every l → Every (y ∷ l)
    head p q x m = ⊎_elim (λ e. subst (λ (z : Taken). P (as_event s sc z)) (sym e) p) (q x) (in_cons m)

    abbrev EachG : List ℕ → Type 0
    EachG G = (j : ℕ) → j ∈ G → P (event_of s sc.g j)

    every_from : (i : ℕ) (rest : List ℕ → List Taken) → P (event_of s sc.f i) → ((G : List ℕ) → EachG G → Every (rest G)) → (G : List ℕ) → EachG G → Every (merge_from same earlier i rest G)
    every_from i rest p q [] g = head p (q [] g)
    every_from i rest p q (j ∷ G) g = by (same i j) (earlier i j) (q G tail) (q (j ∷ G) g) (every_from i rest p q G tail)
      where
        tail : EachG G
        tail k l = g k (there l)

        by : (a b : Bool) → Every (rest G) → Every (rest (j ∷ G)) → Every (merge_from same earlier i rest G)
            → Every (cond a (of_both i j ∷ rest G) (cond b (f_alone i ∷ rest (j ∷ G)) (g_alone j ∷ merge_from same earlier i rest G)))
        by true b x y z = head p x
        by false true x y z = head p y
        by false false x y z = head (g j here) z

    -- what holds of the elements of both holds of the events
    every_merge : (F G : List ℕ) → ((i : ℕ) → i ∈ F → P (event_of s sc.f i)) → EachG G → Every (merge same earlier F G)
    every_merge [] G f g = every_g G g
    every_merge (i ∷ F) G f g = every_from i (merge same earlier F) (f i here) (λ H h. every_merge F H (λ k l. f k (there l)) h) G g

module _ {s : List ℕ} {sc : Scene} (o : SoundScene s sc) where
  -- indices that rise, within an object
  abbrev Within : (n : ℕ) → List ℕ → Type 0
  Within n = Sorted (λ a b. (a < b) × (b < n))

  abbrev f : ℕ → Event
  f = event_of s sc.f

  abbrev g : ℕ → Event
  g = event_of s sc.g

  first_below : {n a : ℕ} {l : List ℕ} → Within n (a ∷ l) → (b : ℕ) → b ∈ l → (a < b) × (b < n)
  first_below (sorted_cons h t) = h

  rest_below : {n a : ℕ} {l : List ℕ} → Within n (a ∷ l) → Within n l
  rest_below (sorted_cons h t) = t

  only_g : (G : List ℕ) → Within sc.g.count G → Rises s sc (map g_alone G)
  only_g [] w = sorted_nil
  only_g (j ∷ G) w =
      sorted_cons
      (every_g s sc (ev.same s sc) (ev.earlier s sc) (λ e. T (event_before (g j) e)) G (λ k m. let r = first_below w k m in elements_rise o.g_sound j k r.0 r.1))
      (only_g G (rest_below w))

  abbrev M : List ℕ → List ℕ → List Taken
  M = merge (ev.same s sc) (ev.earlier s sc)

  all : (P : Event → Type 0) (F G : List ℕ) → ((i : ℕ) → i ∈ F → P (f i)) → ((j : ℕ) → j ∈ G → P (g j)) → (x : Taken) → x ∈ M F G → P (as_event s sc x)
  all P = every_merge s sc (ev.same s sc) (ev.earlier s sc) P

  -- indices that rise, and belong to G
  pub record Fine (G : List ℕ) : Type 0 where
    pub rising : Within sc.g.count G
    pub below : (j : ℕ) → j ∈ G → j < sc.g.count

  fine_tail : {j : ℕ} {G : List ℕ} → Fine (j ∷ G) → Fine G
  fine_tail w = record { rising = rest_below w.rising; below = λ k m. w.below k (there m) }

  module _ (i : ℕ) (F : List ℕ) (x : Within sc.f.count (i ∷ F)) (u : (k : ℕ) → k ∈ (i ∷ F) → k < sc.f.count) (rest : (G : List ℕ) → Fine G → Rises s sc (M F G)) where
    of_f_lem : (k : ℕ) → k ∈ F → T (event_before (f i) (f k))
    of_f_lem k m = let r = first_below x k m in elements_rise o.f_sound i k r.0 r.1

    from : (G : List ℕ) → Fine G → Rises s sc (M (i ∷ F) G)
    from [] w = sorted_cons (all (λ e. T (event_before (f i) e)) F [] of_f_lem (λ k m. absurd (in_nil m))) (rest [] w)
    from (j ∷ G) w = by (ev.same s sc i j) (ev.earlier s sc i j) refl refl (from G (fine_tail w))
      where
        of_g_lem : (k : ℕ) → k ∈ G → T (event_before (g j) (g k))
        of_g_lem k m = let r = first_below w.rising k m in elements_rise o.g_sound j k r.0 r.1

        sound_i : Sound (f i)
        sound_i = element_sound o.f_sound i (u i here)

        sound_j : Sound (g j)
        sound_j = element_sound o.g_sound j (w.below j here)

        trans_f : (k : ℕ) → k ∈ G → T (event_before (f i) (g j)) → T (event_before (f i) (g k))
        trans_f k m t = event_trans (f i) (g j) (g k) sound_i sound_j (element_sound o.g_sound k (w.below k (there m))) t (of_g_lem k m)

        trans_g : T (event_before (g j) (f i)) → (k : ℕ) → k ∈ (i ∷ F) → T (event_before (g j) (f k))
        trans_g t k m =
            ⊎_elim (λ e. subst (λ (z : ℕ). T (event_before (g j) (f z))) (sym e) t)
            (λ n. event_trans (g j) (f i) (f k) sound_j sound_i (element_sound o.f_sound k (u k (there n))) t (of_f_lem k n)) (in_cons m)

        by : (a b : Bool) → ev.same s sc i j ≡ a → ev.earlier s sc i j ≡ b → Rises s sc (M (i ∷ F) G)
            → Rises s sc (cond a (of_both i j ∷ M F G) (cond b (f_alone i ∷ M F (j ∷ G)) (g_alone j ∷ M (i ∷ F) G)))
        by true b e d z =
            let q = same_read (f i) (g j) (is_true (ev.same s sc i j) e) in
            sorted_cons (all (λ e. T (event_before (f i) e)) F G of_f_lem (λ k m. subst (λ (z : Event). T (event_before z (g k))) (sym q) (of_g_lem k m))) (rest G (fine_tail w))
        by false true e d z =
            let t = is_true (ev.earlier s sc i j) d in
            sorted_cons (all (λ e. T (event_before (f i) e)) F (j ∷ G) of_f_lem (λ k m. ⊎_elim (λ q. subst (λ (z : ℕ). T (event_before (f i) (g z))) (sym q) t) (λ n. trans_f k n t) (in_cons m))) (rest (j ∷ G) w)
        by false false e d z = sorted_cons (all (λ e. T (event_before (g j) e)) (i ∷ F) G (trans_g (turned_about o i j (u i here) (w.below j here) e d)) of_g_lem) z

  rises : (F G : List ℕ) → Within sc.f.count F → ((i : ℕ) → i ∈ F → i < sc.f.count) → Fine G → Rises s sc (M F G)
  rises [] G x u w = only_g G w.rising
  rises (i ∷ F) G x u w = from i F x u (λ H v. rises F H (rest_below x) (λ k m. u k (there m)) v) G w

  in_order : (n i c : ℕ) → i + n ≤ c → Within c (indices n i)
  in_order zero i c h = sorted_nil
  in_order (suc n) i c h = sorted_cons {a = i} (λ b m. let r = indices_in n (suc i) b m in (omega (arith, r.0), omega (arith, r.1))) (in_order n (suc i) c (omega arith))

  -- the events of a sound scene come in strictly rising order
  pub events_rise : Rises s sc (events s sc)
  unfolding events
  events_rise =
      rises (elements sc.f) (elements sc.g) (in_order sc.f.count 0 sc.f.count (omega arith)) (in_element sc.f)
      (record { rising = in_order sc.g.count 0 sc.g.count (omega arith); below = in_element sc.g })
