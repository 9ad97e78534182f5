-- What is gathered by keys is the row of the keys: of the different points, and of the different segments.
use Prim.Native.Nat.{ℕ}
use mathlib.Core.Path.{◌≡◌, refl, sym, ap, ap₂, ◌∙◌}
use mathlib.Core.Bool.{Bool, true, false, cond}
use mathlib.Core.List.{List, [], ◌∷◌, ◌++◌, map, map-append}
use lib.Dec.{T}
use Rattle.std.specs.Prelude.{Some}
use Rattle.std.specs.List.{flat_map}
use Rattle.std.specs.Ordering.{nat_cmp}
use Rattle.whole.specs.Count.{◌∈◌, here, there}
use Rattle.plane.specs.declared.Point.{Point}
use Rattle.plane.specs.Plane.{before, in_range}
use Rattle.scene_keys.specs.declared.Ends.{Ends}
use Rattle.scene_keys.specs.Keyed.{key, ends_of}
use Rattle.wkb_grammar.specs.Fields.{type_at, count_at}
use Rattle.wkb_grammar.specs.Grammar.{got, Row, is_taken, many, point_part, part_at, file}
use Rattle.wkb_grammar.proofs.Taken.{taken_value}
use Rattle.wkb_rows.specs.Rows.{gathered, between, along, neighbours, all_points, all_segments, points_of, segments_of, is_below, ends_cmp}
use Rattle.wkb_rows.proofs.Keyed.{key_test, points_keyed, segments_keyed}
use Rattle.wkb_gathering.specs.Keys.{part_keys, between_keys, along_keys, row_ends, part_ends}
use Rattle.wkb_gathering.specs.Gathers.{parts_of, put_all}
use Rattle.wkb_gathering.proofs.Parts.{parts_taken, parts_are, of_points}
use Rattle.wkb_gathering.proofs.Ranged.{RowIn, file_good, file_in_range}

-- what each of a list gives, mapped
map_flat : {A B C : Type 0} (f : B → C) (g : A → List B) (h : A → List C) (l : List A) → ((a : A) → a ∈ l → h a ≡ map f (g a)) → flat_map h l ≡ map f (flat_map g l)
map_flat f g h [] e = refl
map_flat f g h (a ∷ l) e = ap₂ ◌++◌ (e a here) (map_flat f g h l (λ b m. e b (there m))) ∙ sym (map-append f (g a) (flat_map g l))

-- ---- points
keys_of_all : (parts : List (List Row)) → flat_map part_keys parts ≡ map key (all_points parts)
keys_of_all parts = map_flat key (flat_map (λ row. row)) part_keys parts (λ part _. map_flat key (λ row. row) (map key) part (λ row _. refl))

-- ---- segments
between_lem : (p q : Point) → T (in_range p) → T (in_range q) → between_keys (key p) (key q) ≡ map ends_of (between p q)
between_lem p q h k = rw (← key_test p q h k, ← key_test q p k h) (go (before p q) (before q p))
  where
    go : (x y : Bool) → ◌≡◌ {A = List Ends} (cond x (record { left = key p; right = key q } ∷ []) (cond y (record { left = key q; right = key p } ∷ []) []))
        (map ends_of (cond x (record { left = p; right = q } ∷ []) (cond y (record { left = q; right = p } ∷ []) [])))
    go true y = refl
    go false true = refl
    go false false = refl

along_lem : (p : Point) (row : Row) → T (in_range p) → RowIn row → along_keys (Some (key p)) (map key row) ≡ map ends_of (along p row)
along_lem p [] h g = refl
along_lem p (q ∷ row) h g =
    ap₂ ◌++◌ (between_lem p q h (g q here)) (along_lem q row (g q here) (λ r k. g r (there k))) ∙ sym (map-append ends_of (between p q) (along q row))

row_lem : (row : Row) → RowIn row → row_ends row ≡ map ends_of (neighbours row)
row_lem [] g = refl
row_lem (p ∷ row) g = along_lem p row (g p here) (λ r k. g r (there k))

ends_of_all : (s : List ℕ) → flat_map part_ends (parts_of s) ≡ map ends_of (all_segments (parts_of s))
ends_of_all s = map_flat ends_of (flat_map neighbours) part_ends (parts_of s) (λ part m. map_flat ends_of neighbours row_ends part (λ row k. row_lem row (file_good s part m row k)))

-- ---- of the file
module _ (s : List ℕ) (t : T (is_taken (file s))) where
  its : (parts : List (List Row)) × (at : ℕ) × (many (part_at s (type_at s 0)) (count_at s 0) 9 ≡ got parts at)
  its = taken_value (many (part_at s (type_at s 0)) (count_at s 0) 9) (parts_taken s t)

  module _ (n : ℕ) (counted : n ≡ count_at s 0) where
    pub points_row : type_at s 0 ≡ 4 → (put_all nat_cmp (flat_map part_keys) (many (point_part s) n 9) []).row ≡ map key (points_of (parts_of s))
    points_row e =
        ap (λ r. (put_all nat_cmp (flat_map part_keys) r []).row) (ap (λ m. many (point_part s) m 9) counted ∙ sym (of_points s (count_at s 0) 9 e) ∙ its.2)
        ∙ ap (λ parts. gathered (is_below nat_cmp) [] (flat_map part_keys parts)) (parts_are s t its.0 its.1 its.2)
        ∙ ap (gathered (is_below nat_cmp) []) (keys_of_all (parts_of s))
        ∙ points_keyed (parts_of s) (file_in_range s)

    pub segments_row : (kind : ℕ) → kind ≡ type_at s 0 → (put_all ends_cmp (flat_map part_ends) (many (part_at s kind) n 9) []).row ≡ map ends_of (segments_of (parts_of s))
    segments_row kind k =
        ap (λ r. (put_all ends_cmp (flat_map part_ends) r []).row) (ap₂ (λ j m. many (part_at s j) m 9) k counted ∙ its.2)
        ∙ ap (λ parts. gathered (is_below ends_cmp) [] (flat_map part_ends parts)) (parts_are s t its.0 its.1 its.2)
        ∙ ap (gathered (is_below ends_cmp) []) (ends_of_all s)
        ∙ segments_keyed (parts_of s) (file_in_range s)
