-- The event that the sweep takes next: there is one, and no later event's dominating point comes before its own.
use Prim.Native.Nat.{ℕ, ◌+◌, ◌<◌, ◌≤◌}
use native.Mathlib.Nat.{eq-or-lt_of_le}
use native.Mathlib.Omega.{arith}
use mathlib.Core.Path.{◌≡◌, refl, sym, ap, ◌∙◌, subst}
use mathlib.Core.Logic.{⊎_elim}
use mathlib.Core.Bool.{Bool, true, false, not, ◌&&◌, ◌||◌, true≢false}
use mathlib.Core.List.{List, [], ◌∷◌}
use lib.Dec.{T, T_not, not_T, ltb}
use lib.IntN.{ℤ, neg_ℤ, ◌+ℤ◌, ◌-ℤ◌}
use lib.Signed.{lt_z}
use borrow.Author.Tests.{ltb-true, ltb-false, lt-ltb, le-ltb}
use Rattle.whole.specs.Count.{eq_z, ◌∈◌}
use Rattle.whole.proofs.Solver.{var, ◌:+◌, ◌:-◌, opp, solve}
use Rattle.whole.proofs.Sign.{Pos, NonNeg, nonneg_add, nonneg_both, nonneg_clash, neg_of_pos, lt_z_pos, eq_z_zero, sub_zero_eq}
use Rattle.whole.proofs.Logic.{or_cases, and_left, and_right, is_true, true_is}
use Rattle.plane.specs.declared.Point.{Point}
use Rattle.plane.specs.Plane.{before, comes_before}
use Rattle.plane.proofs.Order.{before_irreflexive}
use Rattle.scene.specs.declared.Scene.{Scene}
use Rattle.scene.specs.Read.{place, halfsegment_at, IsScene}
use Rattle.sweep_laws.specs.Swept.{is_first, total, takes_first, Entry}
use Rattle.sweep_laws.proofs.Under.{NotBefore, after_x, after_y}
use Rattle.sweep_laws.proofs.Begun.{reached}
use Rattle.sweep_laws.proofs.Ordered.{not_after, comes_by_point}
use Rattle.sweep_laws.proofs.Objects.{entry}
use Rattle.sweep_laws.proofs.Run.{point_of, Orderly, Run}

-- ---- which of two comes next: the one, with i of m taken, where of the other's n, with j taken, none is left or the next does not come before

module _ (i m j n : ℕ) (later : Bool) where
  abbrev is_next : Bool
  is_next = ltb i m && (not (ltb j n) || not later)

  pub none_left : m ≤ i → is_next ≡ false
  none_left h = ap (λ (b : Bool). b && (not (ltb j n) || not later)) (le-ltb i m h)

  pub one_left : i < m → n ≤ j → is_next ≡ true
  one_left h k = ap (λ (b : Bool). b && (not (ltb j n) || not later)) (lt-ltb i m h) ∙ ap (λ (b : Bool). not b || not later) (le-ltb j n k)

  pub both_left : i < m → j < n → is_next ≡ not later
  both_left h k = ap (λ (b : Bool). b && (not (ltb j n) || not later)) (lt-ltb i m h) ∙ ap (λ (b : Bool). not b || not later) (lt-ltb j n k)

-- ---- the order of points

pub not_before_trans : (p q r : Point) → NotBefore p q → NotBefore q r → NotBefore p r
unfolding before
not_before_trans p q r h k = not_T (before p r) (λ b. ⊎_elim further level (or_cases (lt_z p.x r.x) (eq_z p.x r.x && lt_z p.y r.y) b))
  where
    sum : (a b c : ℤ) → (a -ℤ b) +ℤ (b -ℤ c) ≡ a -ℤ c
    sum a b c = solve (a ∷ b ∷ c ∷ []) (var 0 :- var 1 :+ (var 1 :- var 2)) (var 0 :- var 2) tt

    turned : (a b : ℤ) → b -ℤ a ≡ neg_ℤ (a -ℤ b)
    turned a b = solve (a ∷ b ∷ []) (var 1 :- var 0) (opp (var 0 :- var 1)) tt

    clash : (a b : ℤ) → NonNeg (a -ℤ b) → T (lt_z a b) → ⊥
    clash a b n t = nonneg_clash n (neg_of_pos (a -ℤ b) (subst Pos (turned a b) (lt_z_pos a b t)))

    x_far : NonNeg (p.x -ℤ r.x)
    x_far = subst NonNeg (sum p.x q.x r.x) (nonneg_add (after_x p q h) (after_x q r k))

    further : T (lt_z p.x r.x) → ⊥
    further t = clash p.x r.x x_far t

    level : T (eq_z p.x r.x && lt_z p.y r.y) → ⊥
    level t =
        clash p.y r.y (subst NonNeg (sum p.y q.y r.y) (nonneg_add (after_y p q h first_x) (after_y q r k second_x)))
        (and_right (eq_z p.x r.x) (lt_z p.y r.y) t)
      where
        ends : p.x ≡ r.x
        ends = sub_zero_eq p.x r.x (eq_z_zero p.x r.x (and_left (eq_z p.x r.x) (lt_z p.y r.y) t))

        first_x : p.x ≡ q.x
        first_x =
            sym (sub_zero_eq q.x p.x (nonneg_both (after_x p q h) (subst NonNeg (ap (λ z. q.x -ℤ z) (sym ends) ∙ turned p.x q.x) (after_x q r k))))

        second_x : q.x ≡ r.x
        second_x = sym first_x ∙ ends

not_before_itself : (p : Point) → NotBefore p p
not_before_itself p = not_T (before p p) (before_irreflexive p)

module _ (s : List ℕ) (sc : Scene) (o : Orderly s sc) where
  -- the elements of one object from one on
  pub from_one : (first : Bool) (k m : ℕ) → k ≤ m → m < total s sc first → NotBefore (point_of s sc first m) (point_of s sc first k)
  from_one first k m h l =
      ⊎_elim (λ e. subst (λ (n : ℕ). NotBefore (point_of s sc first n) (point_of s sc first k)) e (not_before_itself (point_of s sc first k))) (λ g. o.rises first k m g l) (eq-or-lt_of_le h)

  -- and of the other object
  from_other : (first other : Bool) (k j m : ℕ) → NotBefore (point_of s sc other j) (point_of s sc first k) → j ≤ m → m < total s sc other → NotBefore (point_of s sc other m) (point_of s sc first k)
  from_other first other k j m n h l = not_before_trans (point_of s sc other m) (point_of s sc other j) (point_of s sc first k) (from_one other j m h l) n

  pub record Chosen (i j : ℕ) (first : Bool) : Type 0 where
    pub more : reached s sc i j first < total s sc first
    pub least : (other : Bool) (m : ℕ) → reached s sc i j other ≤ m → m < total s sc other → NotBefore (point_of s sc other m) (point_of s sc first (reached s sc i j first))

  abbrev comes : ℕ → ℕ → Bool
  comes i j = comes_before (halfsegment_at s (place sc.g j)) (halfsegment_at s (place sc.f i))

  chosen_first : (i j : ℕ) → takes_first s sc i j ≡ true → Chosen i j true
  chosen_first i j e = record { more = more; least = least }
    where
      both : T (ltb i (total s sc true) && (not (ltb j (total s sc false)) || not (comes i j)))
      both = is_true _ e

      more : i < total s sc true
      more = ltb-true i (total s sc true) (true_is (ltb i (total s sc true)) (and_left (ltb i (total s sc true)) (not (ltb j (total s sc false)) || not (comes i j)) both))

      least : (other : Bool) (m : ℕ) → reached s sc i j other ≤ m → m < total s sc other → NotBefore (point_of s sc other m) (point_of s sc true i)
      least true m h l = from_one true i m h l
      least false m h l =
          from_other true false i j m (not_T (before (point_of s sc false j) (point_of s sc true i)) (λ b. ⊎_elim (λ n. T_not (ltb j (total s sc false)) n (is_true (ltb j (total s sc false)) (lt-ltb j (total s sc false) (omega arith)))) (λ n. T_not (comes i j) n (before_comes b)) (or_cases (not (ltb j (total s sc false))) (not (comes i j)) (and_right (ltb i (total s sc true)) (not (ltb j (total s sc false)) || not (comes i j)) both)))) h l
        where
          before_comes : T (before (point_of s sc false j) (point_of s sc true i)) → T (comes i j)
          before_comes b = comes_by_point (halfsegment_at s (place sc.g j)) (halfsegment_at s (place sc.f i)) b

  chosen_second : (i j : ℕ) → i ≤ total s sc true → i + j < total s sc true + total s sc false → takes_first s sc i j ≡ false → Chosen i j false
  chosen_second i j within left e = by_first (ltb i (total s sc true)) (ltb j (total s sc false)) (comes i j) refl refl refl e
    where
      by_first : (a b c : Bool) → ltb i (total s sc true) ≡ a → ltb j (total s sc false) ≡ b → comes i j ≡ c → a && (not b || not c) ≡ false → Chosen i j false
      by_first true true true p q r t =
          record {
            more = ltb-true j (total s sc false) q;
            least = λ other m h l. least other m h l;
          }
        where
          least : (other : Bool) (m : ℕ) → reached s sc i j other ≤ m → m < total s sc other → NotBefore (point_of s sc other m) (point_of s sc false j)
          least true m h l = from_other false true j i m (not_after (halfsegment_at s (place sc.g j)) (halfsegment_at s (place sc.f i)) (is_true (comes i j) r)) h l
          least false m h l = from_one false j m h l
      by_first true true false p q r t = absurd (true≢false t)
      by_first true false c p q r t = absurd (true≢false t)
      by_first false b c p q r t =
          record {
            more = omega (arith, ltb-false i (total s sc true) p);
            least = λ other m h l. least other m h l;
          }
        where
          least : (other : Bool) (m : ℕ) → reached s sc i j other ≤ m → m < total s sc other → NotBefore (point_of s sc other m) (point_of s sc false j)
          least true m h l = absurd (past (ltb-false i (total s sc true) p) h l)
            where
              past : total s sc true ≤ i → i ≤ m → m < total s sc true → ⊥
              past x y z = omega arith
          least false m h l = from_one false j m h l

  pub chosen : (i j : ℕ) → i ≤ total s sc true → i + j < total s sc true + total s sc false → (first : Bool) → takes_first s sc i j ≡ first → Chosen i j first
  chosen i j h l true e = chosen_first i j e
  chosen i j h l false e = chosen_second i j h l e

  -- of both objects, no more than there is; and the entries are records of the scene
  pub both_within : (i j : ℕ) → i ≤ total s sc true → j ≤ total s sc false → (b : Bool) → reached s sc i j b ≤ total s sc b
  both_within i j h l true = h
  both_within i j h l false = l

  pub entries_are : IsScene s sc → {i j : ℕ} {entries : List ℕ} → Run s sc i j entries → ((b : Bool) → reached s sc i j b ≤ total s sc b) → (e : ℕ) → e ∈ entries → Entry s sc e
  entries_are is run within e m =
      let t = run.taken e m in
      subst (Entry s sc) (sym t.is_place) (entry s sc is (is_first s sc e) t.index (omega (arith, t.earlier, within (is_first s sc e))))
