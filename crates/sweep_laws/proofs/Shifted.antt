-- Lists with one entry more or less: what is among the entries.
use Prim.Native.Nat.{ℕ, suc, ◌<◌}
use native.Mathlib.Omega.{arith}
use mathlib.Core.Path.{◌≡◌, sym, ap₂, subst, ◌∙◌}
use mathlib.Core.Logic.{◌⊎◌, inl, inr, ⊎_elim}
use mathlib.Core.List.{List, ◌∷◌, ◌++◌}
use lib.ListN.{length, take, drop, get_or, take-append-drop}
use lib.Seq.{length-take-le, take_at, drop_at, split_at}
use Rattle.whole.specs.Count.{◌∈◌, there}
use Rattle.whole.proofs.Logic.{in_cons, in_left, in_right, in_append}
use Rattle.sweep_laws.specs.Status.{inserted, removed}

module _ {A : Type 0} where
  -- what is removed goes back where it was
  pub inserted_removed : (d : A) (k : ℕ) (l : List A) → k < length l → inserted k (get_or l k d) (removed k l) ≡ l
  inserted_removed d k l h =
      ap₂ (λ (m r : List A). m ++ get_or l k d ∷ r) (take_at (take k l) (drop (suc k) l) k size) (drop_at (take k l) (drop (suc k) l) k size)
      ∙ sym (split_at l k d h)
    where
      size : length (take k l) ≡ k
      size = length-take-le k l (omega arith)

  module _ (k : ℕ) (l : List A) where
    pub inserted_old : (a : A) {b : A} → b ∈ l → b ∈ inserted k a l
    inserted_old a {b} m =
        ⊎_elim (λ h. in_left (a ∷ drop k l) h) (λ h. in_right (take k l) (there h))
        (in_append (take k l) (subst (λ (r : List A). b ∈ r) (sym (take-append-drop k l)) m))

    pub in_inserted : {a b : A} → b ∈ inserted k a l → (b ≡ a) ⊎ (b ∈ l)
    in_inserted {a} {b} m =
        ⊎_elim (λ h. inr (whole (in_left (drop k l) h)))
        (λ h. ⊎_elim (λ e. inl e) (λ q. inr (whole (in_right (take k l) q))) (in_cons h))
        (in_append (take k l) m)
      where
        whole : b ∈ (take k l ++ drop k l) → b ∈ l
        whole q = subst (λ (r : List A). b ∈ r) (take-append-drop k l) q

  pub in_removed : (d : A) (k : ℕ) (l : List A) → k < length l → {b : A} → b ∈ removed k l → b ∈ l
  in_removed d k l h {b} m = subst (λ (r : List A). b ∈ r) (inserted_removed d k l h) (inserted_old k (removed k l) (get_or l k d) m)

  pub removed_rest : (d : A) (k : ℕ) (l : List A) → k < length l → {b : A} → b ∈ l → (b ≡ get_or l k d) ⊎ (b ∈ removed k l)
  removed_rest d k l h {b} m = in_inserted k (removed k l) (subst (λ (r : List A). b ∈ r) (sym (inserted_removed d k l h)) m)
