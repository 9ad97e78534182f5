-- Whether a segment is one of the other object's is told by its event: one of F alone has a segment that G has not, for the events are in strict order and
-- equal ones are one.
use Prim.Native.Nat.{ℕ, ◌<◌}
use native.Mathlib.Omega.{arith}
use mathlib.Core.Path.{◌≡◌, refl, sym, ap, subst, ◌∙◌}
use mathlib.Core.Logic.{◌⊎◌, inl, inr, ⊎_elim}
use mathlib.Core.Bool.{Bool, true, false, cond, true≢false}
use mathlib.Core.List.{List, [], ◌∷◌, map}
use lib.Dec.{T}
use Rattle.whole.specs.Count.{◌∈◌, here, there}
use Rattle.whole.proofs.Logic.{is_true, refute, some_find, in_cons, in_nil, sorted_nil, sorted_cons}
use Rattle.plane.specs.declared.Segment.{Segment}
use Rattle.plane.specs.declared.Halfsegment.{Halfsegment}
use Rattle.plane.specs.Plane.{is_same_segment}
use Rattle.plane.proofs.Equal.{same_segment_read}
use Rattle.scene.specs.declared.Shape.{Shape}
use Rattle.scene.specs.declared.Shape.TheVariants.{Points, Line, Region}
use Rattle.scene.specs.declared.Layout.{Layout}
use Rattle.scene.specs.declared.Scene.{Scene}
use Rattle.scene.specs.Conditions.{elements, has_segments, half, segments}
use Rattle.scene_segments.proofs.Indices.{element_in}
use Rattle.scene_segments.proofs.Walk.{no_segments}
use Rattle.check_verdict.proofs.Laws.{SoundObject, SoundScene, half_of_lem}
use Rattle.flags.specs.Flags.{has_segment}
use Rattle.walk_events.specs.declared.Event.TheVariants.{Side}
use Rattle.walk_events.specs.Events.{Taken, f_alone, g_alone, of_both, event_as, event_of, merge_from, merge, same, earlier, events, as_event, in_f, in_g}
use Rattle.walk_events.specs.Rising.{Rises}
use Rattle.walk_events.proofs.Merged.{all_of_f, all_of_g}
use Rattle.walk_events.proofs.Ordering.{unequal, same_read, events_rise}

-- ---- the event that an element is in

in_f_event : (i : ℕ) (l : List Taken) → i ∈ in_f l → (f_alone i ∈ l) ⊎ ((j : ℕ) × (of_both i j ∈ l))
in_f_event i [] m = absurd (in_nil m)
in_f_event i (f_alone a ∷ l) m =
    ⊎_elim (λ e. inl (subst (λ (k : ℕ). f_alone i ∈ (f_alone k ∷ l)) e here)) (λ n. ⊎_elim (λ w. inl (there w)) (λ w. inr (w.0, there w.1)) (in_f_event i l n)) (in_cons m)
in_f_event i (g_alone b ∷ l) m = ⊎_elim (λ w. inl (there w)) (λ w. inr (w.0, there w.1)) (in_f_event i l m)
in_f_event i (of_both a b ∷ l) m =
    ⊎_elim (λ e. inr (b, subst (λ (k : ℕ). of_both i b ∈ (of_both k b ∷ l)) e here)) (λ n. ⊎_elim (λ w. inl (there w)) (λ w. inr (w.0, there w.1)) (in_f_event i l n)) (in_cons m)

in_g_event : (j : ℕ) (l : List Taken) → j ∈ in_g l → (g_alone j ∈ l) ⊎ ((i : ℕ) × (of_both i j ∈ l))
in_g_event j [] m = absurd (in_nil m)
in_g_event j (f_alone a ∷ l) m = ⊎_elim (λ w. inl (there w)) (λ w. inr (w.0, there w.1)) (in_g_event j l m)
in_g_event j (g_alone b ∷ l) m =
    ⊎_elim (λ e. inl (subst (λ (k : ℕ). g_alone j ∈ (g_alone k ∷ l)) e here)) (λ n. ⊎_elim (λ w. inl (there w)) (λ w. inr (w.0, there w.1)) (in_g_event j l n)) (in_cons m)
in_g_event j (of_both a b ∷ l) m =
    ⊎_elim (λ e. inr (a, subst (λ (k : ℕ). of_both a j ∈ (of_both a k ∷ l)) e here)) (λ n. ⊎_elim (λ w. inl (there w)) (λ w. inr (w.0, there w.1)) (in_g_event j l n)) (in_cons m)

-- ---- an event of both is one of each

module _ (same earlier : ℕ → ℕ → Bool) where
  abbrev Alike : List Taken → Type 0
  Alike l = (i j : ℕ) → of_both i j ∈ l → same i j ≡ true

  first_alike : (x : Taken) (l : List Taken) → ((i j : ℕ) → of_both i j ≡ x → same i j ≡ true) → Alike l → Alike (x ∷ l)
  first_alike x l h a i j m = ⊎_elim (h i j) (a i j) (in_cons m)

  only_alike : (G : List ℕ) → Alike (map g_alone G)
  only_alike [] = λ i j m. absurd (in_nil m)
  only_alike (k ∷ G) = first_alike (g_alone k) (map g_alone G) (λ i j e. absurd (let z : ◌≡◌ {A = ℕ} 0 1 = cc in omega arith)) (only_alike G)

  from_alike : (a : ℕ) (rest : List ℕ → List Taken) → ((G : List ℕ) → Alike (rest G)) → (G : List ℕ) → Alike (merge_from same earlier a rest G)
  from_alike a rest r [] = first_alike (f_alone a) (rest []) (λ i j e. absurd (let z : ◌≡◌ {A = ℕ} 0 1 = cc in omega arith)) (r [])
  from_alike a rest r (b ∷ G) = by (same a b) (earlier a b) refl (from_alike a rest r G)
    where
      by : (x y : Bool) → same a b ≡ x → Alike (merge_from same earlier a rest G) → Alike (cond x (of_both a b ∷ rest G) (cond y (f_alone a ∷ rest (b ∷ G)) (g_alone b ∷ merge_from same earlier a rest G)))
      by true y e z = first_alike (of_both a b) (rest G) (λ i j q. let u : i ≡ a = cc in let v : j ≡ b = cc in rw (u, v) e) (r G)
      by false true e z = first_alike (f_alone a) (rest (b ∷ G)) (λ i j q. absurd (let z : ◌≡◌ {A = ℕ} 0 1 = cc in omega arith)) (r (b ∷ G))
      by false false e z = first_alike (g_alone b) (merge_from same earlier a rest G) (λ i j q. absurd (let z : ◌≡◌ {A = ℕ} 0 1 = cc in omega arith)) z

  merge_alike : (F G : List ℕ) → Alike (merge same earlier F G)
  merge_alike [] G = only_alike G
  merge_alike (a ∷ F) G = from_alike a (merge same earlier F) (merge_alike F) G

pub both_same : (s : List ℕ) (sc : Scene) (i j : ℕ) → of_both i j ∈ events s sc → event_of s sc.f i ≡ event_of s sc.g j
unfolding events
both_same s sc i j m =
    same_read (event_of s sc.f i) (event_of s sc.g j) (is_true (same s sc i j) (merge_alike (same s sc) (earlier s sc) (elements sc.f) (elements sc.g) i j m))

-- ---- no two events are equal

once : (s : List ℕ) (sc : Scene) {l : List Taken} → Rises s sc l → (x y : Taken) → x ∈ l → y ∈ l → as_event s sc x ≡ as_event s sc y → x ≡ y
once s sc sorted_nil x y m n e = absurd (in_nil m)
once s sc (sorted_cons {a = z} {l = l} first rest) x y m n e = go (in_cons m) (in_cons n) (λ p q. once s sc rest x y p q e)
  where
    go : (x ≡ z) ⊎ (x ∈ l) → (y ≡ z) ⊎ (y ∈ l) → (x ∈ l → y ∈ l → x ≡ y) → x ≡ y
    go (inl p) (inl q) r = p ∙ sym q
    go (inl p) (inr q) r = absurd (unequal (first y q) (ap (as_event s sc) (sym p) ∙ e))
    go (inr p) (inl q) r = absurd (unequal (first x p) (ap (as_event s sc) (sym q) ∙ sym e))
    go (inr p) (inr q) r = r p q

module _ {s : List ℕ} {sc : Scene} (o : SoundScene s sc) where
  pub events_once : (x y : Taken) → x ∈ events s sc → y ∈ events s sc → as_event s sc x ≡ as_event s sc y → x ≡ y
  events_once = once s sc (events_rise o)

-- ---- an event of one object alone

-- a halfsegment with a segment of the object is one of the object's, as an event too
module _ {s : List ℕ} {l : Layout} (o : SoundObject s l) (h : Halfsegment) where
  event_there : T (has_segment (segments s l) h.segment) → (m : ℕ) × (m < l.count) × (Side h ≡ event_of s l m)
  event_there t =
      let w = some_find (is_same_segment h.segment) (segments s l) t in
      let e = same_segment_read h.segment w.0 w.2 in
      let k = half_of_lem o h.is_left w.1 in
      (k.0, k.1, go l.shape refl w.1 k.0 ((λ i. record { segment = e i; is_left = h.is_left }) ∙ sym k.2))
    where
      go : (a : Shape) → l.shape ≡ a → {t : Segment} → t ∈ segments s l → (m : ℕ) → h ≡ half s l m → Side h ≡ event_as s l a m
      go Points e {t} n m q = absurd (in_nil (subst (λ (x : List Segment). t ∈ x) (no_segments s l (ap has_segments e)) n))
      go Line e n m q = ap Side q
      go Region e n m q = ap Side q

side_of : (s : List ℕ) (l : Layout) → has_segments l.shape ≡ true → (i : ℕ) → event_of s l i ≡ Side (half s l i)
side_of s l has i = go l.shape has
  where
    go : (a : Shape) → has_segments a ≡ true → event_as s l a i ≡ Side (half s l i)
    go Points e = absurd (true≢false (sym e))
    go Line e = refl
    go Region e = refl

module _ {s : List ℕ} {sc : Scene} (o : SoundScene s sc) where
  -- its segment is none of the other's
  pub alone_f : (i : ℕ) → has_segments sc.f.shape ≡ true → f_alone i ∈ events s sc → has_segment (segments s sc.g) (half s sc.f i).segment ≡ false
  alone_f i has m = refute (has_segment (segments s sc.g) (half s sc.f i).segment) λ t.
      let w = event_there o.g_sound (half s sc.f i) t in
      clash w.0 (side_of s sc.f has i ∙ w.2) (in_g_event w.0 (events s sc) (subst (λ (l : List ℕ). w.0 ∈ l) (sym (all_of_g s sc)) (element_in sc.g w.0 w.1)))
    where
      clash : (j : ℕ) → event_of s sc.f i ≡ event_of s sc.g j → (g_alone j ∈ events s sc) ⊎ ((a : ℕ) × (of_both a j ∈ events s sc)) → ⊥
      clash j e (inl n) = let q = events_once o (f_alone i) (g_alone j) m n e in let z : ◌≡◌ {A = ℕ} 0 1 = cc in omega arith
      clash j e (inr n) = let q = events_once o (f_alone i) (of_both n.0 j) m n.1 (e ∙ sym (both_same s sc n.0 j n.1)) in let z : ◌≡◌ {A = ℕ} 0 1 = cc in omega arith

  pub alone_g : (j : ℕ) → has_segments sc.g.shape ≡ true → g_alone j ∈ events s sc → has_segment (segments s sc.f) (half s sc.g j).segment ≡ false
  alone_g j has m = refute (has_segment (segments s sc.f) (half s sc.g j).segment) λ t.
      let w = event_there o.f_sound (half s sc.g j) t in
      clash w.0 (side_of s sc.g has j ∙ w.2) (in_f_event w.0 (events s sc) (subst (λ (l : List ℕ). w.0 ∈ l) (sym (all_of_f s sc)) (element_in sc.f w.0 w.1)))
    where
      clash : (i : ℕ) → event_of s sc.g j ≡ event_of s sc.f i → (f_alone i ∈ events s sc) ⊎ ((b : ℕ) × (of_both i b ∈ events s sc)) → ⊥
      clash i e (inl n) = let q = events_once o (g_alone j) (f_alone i) m n e in let z : ◌≡◌ {A = ℕ} 0 1 = cc in omega arith
      clash i e (inr n) = let q = events_once o (g_alone j) (of_both i n.0) m n.1 e in let z : ◌≡◌ {A = ℕ} 0 1 = cc in omega arith

  -- and an event of both has one segment and one side of both, and no point
  pub both_halves : (i j : ℕ) → has_segments sc.f.shape ≡ true → of_both i j ∈ events s sc → (has_segments sc.g.shape ≡ true) × (half s sc.f i ≡ half s sc.g j)
  both_halves i j has m = go sc.g.shape (sym (side_of s sc.f has i) ∙ both_same s sc i j m)
    where
      go : (b : Shape) → Side (half s sc.f i) ≡ event_as s sc.g b j → (has_segments b ≡ true) × (half s sc.f i ≡ half s sc.g j)
      go Points e = absurd (let z : ◌≡◌ {A = ℕ} 0 1 = cc in omega arith)
      go Line e = (refl, cc)
      go Region e = (refl, cc)

  pub both_halves_g : (i j : ℕ) → has_segments sc.g.shape ≡ true → of_both i j ∈ events s sc → (has_segments sc.f.shape ≡ true) × (half s sc.g j ≡ half s sc.f i)
  both_halves_g i j has m = go sc.f.shape (both_same s sc i j m ∙ side_of s sc.g has j)
    where
      go : (b : Shape) → event_as s sc.f b i ≡ Side (half s sc.g j) → (has_segments b ≡ true) × (half s sc.g j ≡ half s sc.f i)
      go Points e = absurd (let z : ◌≡◌ {A = ℕ} 0 1 = cc in omega arith)
      go Line e = (refl, cc)
      go Region e = (refl, cc)
