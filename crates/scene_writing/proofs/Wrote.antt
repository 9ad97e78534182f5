-- Records that are written one after the other, and the object that they are.
use Rattle.std.proofs.Common.{◌≡◌, ℕ, ◌+◌, ◌*◌, ◌<◌, ◌≤◌, List, [], ◌∷◌, ◌++◌, map, length, get_or, take, refl, sym, ap, ◌∙◌, append_assoc, append-nil, length-append, arith}
use Rattle.std.proofs.lemmas.List.{map_more, take_all}
use Rattle.scene.specs.declared.Shape.{Shape}
use Rattle.scene.specs.Read.{size, shape_number}
use Rattle.scene_written.specs.Bytes.{Item, record_bytes, records_of, bytes_of}
use Rattle.scene_written.proofs.Stands.{record_length}

module _ (k : Shape) where
  records_append : (xs ys : List (Item k)) → records_of k (xs ++ ys) ≡ records_of k xs ++ records_of k ys
  records_append [] ys = refl
  records_append (x ∷ xs) ys = ap (λ (r : List ℕ). record_bytes k x ++ r) (records_append xs ys) ∙ sym (append_assoc (record_bytes k x) (records_of k xs) (records_of k ys))

  records_push : (xs : List (Item k)) (x : Item k) → records_of k (xs ++ x ∷ []) ≡ records_of k xs ++ record_bytes k x
  records_push xs x = records_append xs (x ∷ []) ∙ ap (λ (r : List ℕ). records_of k xs ++ r) (append-nil (record_bytes k x))

  -- behind `old` stand the records of the items that the first i of xs name
  pub record Wrote {A : Type 0} (item : A → Item k) (old : List ℕ) (xs : List A) (i : ℕ) (out : List ℕ) : Type 0 where
    pub so_far : out ≡ old ++ records_of k (map item (take i xs))
    pub long : length out ≡ length old + i * size k

  module _ {A : Type 0} (item : A → Item k) {old : List ℕ} {xs : List A} where
    pub wrote_more : {i : ℕ} {out : List ℕ} (d : A) → Wrote item old xs i out → i < length xs
        → {bytes after : List ℕ} → bytes ≡ record_bytes k (item (get_or xs i d)) → after ≡ out ++ bytes → Wrote item old xs (i + 1) after
    wrote_more {i} {out} d w h {bytes} {after} e p = record {
      so_far = p ∙ ap (λ (b : List ℕ). out ++ b) e ∙ ap (λ (o : List ℕ). o ++ record_bytes k (item (get_or xs i d))) w.so_far
          ∙ append_assoc old (records_of k (map item (take i xs))) (record_bytes k (item (get_or xs i d)))
          ∙ ap (λ (r : List ℕ). old ++ r) (sym (ap (records_of k) (map_more item xs i d h) ∙ records_push (map item (take i xs)) (item (get_or xs i d))));
      long = omega (arith, w.long, ap length p, ap length e, length-append out bytes, record_length k (item (get_or xs i d)));
    }

    -- an object: its type record, the records of all, the end
    pub object_wrote : (before : List ℕ) {out after : List ℕ} {i : ℕ} → old ≡ before ++ (84 ∷ shape_number k ∷ []) → Wrote item old xs i out → length xs ≤ i → after ≡ out ++ (69 ∷ [])
        → after ≡ before ++ bytes_of k (map item xs)
    object_wrote before {i = i} start w all end =
        end ∙ ap (λ (o : List ℕ). o ++ (69 ∷ [])) (w.so_far ∙ ap (λ (ys : List A). old ++ records_of k (map item ys)) (take_all i xs all))
        ∙ ap (λ (o : List ℕ). (o ++ records_of k (map item xs)) ++ (69 ∷ [])) start
        ∙ simp append_assoc
