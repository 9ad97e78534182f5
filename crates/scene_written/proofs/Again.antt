-- Written again: bytes that are read as an object are those that are written for the elements read from them.
use Rattle.std.specs.Prelude.{Err, Ok}
use Prim.Native.Nat.{ℕ, zero, suc, ◌+◌, ◌*◌, ◌-◌, ◌<◌, ◌≤◌}
use native.Mathlib.Nat.{not-suc-le-zero, le_of_suc-le-suc}
use native.Mathlib.Decide.{dec_lt}
use native.Mathlib.Omega.{arith}
use mathlib.Core.Path.{◌≡◌, refl, sym, ap, subst, ◌∙◌}
use mathlib.Core.Bool.{Bool, true, false, cond}
use mathlib.Core.List.{List, [], ◌∷◌, ◌++◌, map}
use lib.ListN.{length, length-append, length-map, get_or-append}
use lib.Seq.{get_or-append-add, ext_get_or}
use lib.Dec.{T, leb, leb→le, eqb}
use borrow.Author.Tests.{eqb-true}
use Rattle.whole.specs.Count.{bit}
use Rattle.whole.proofs.Logic.{and_left, and_right}
use Rattle.scene.specs.declared.Shape.{Shape}
use Rattle.scene.specs.declared.Shape.TheVariants.{Points, Line, Region}
use Rattle.scene.specs.declared.Kind.{Kind}
use Rattle.scene.specs.declared.Kind.TheVariants.{Start, Element, End, Unknown}
use Rattle.scene.specs.declared.Layout.{Layout}
use Rattle.scene.specs.Read.{Record, byte, coordinate, point_from, kind_of, shape_number, shape_of, stands_in, starts_object, record_at, size, place, end_place, most, begun, elements_from, read_object, IsObject}
use Rattle.scene.specs.Conditions.{indices, elements}
use Rattle.scene.proofs.Passed.{Passed, passed}
use Rattle.scene.proofs.Outcomes.{never_taken}
use Rattle.scene.proofs.Taken.{TakenObject, taken_object, TakenAlone}
use Rattle.scene_written.specs.Bytes.{Item, item_at, AreBytes, digit, coordinate_then, point_then, record_bytes, records_of, bytes_of}
use Rattle.scene_written.proofs.Coordinates.{digits_again}
use Rattle.scene_written.proofs.AreBytes.{byte_below}
use Rattle.scene_written.proofs.Stands.{Stands, record_length}
use Rattle.scene_written.proofs.ReadBack.{records_length, bytes_length}

-- ---- bytes that stand one after the other

stands_nil : (s : List ℕ) (at : ℕ) → at ≤ length s → Stands s at []
stands_nil s at h = record { fits = omega arith; same = λ i b. absurd (not-suc-le-zero b) }

stands_cons : {s : List ℕ} {at : ℕ} {b : ℕ} {bs : List ℕ} → byte s at ≡ b → Stands s (at + 1) bs → Stands s at (b ∷ bs)
stands_cons {s} {at} {b} {bs} e h = record { fits = omega (arith, h.fits); same = same }
  where
    none : at + 0 ≡ at
    none = omega arith

    along : (i : ℕ) → at + suc i ≡ at + 1 + i
    along i = omega arith

    same : (i : ℕ) → i < length (b ∷ bs) → byte s (at + i) ≡ byte (b ∷ bs) i
    same zero k = ap (byte s) none ∙ e
    same (suc i) k = ap (byte s) (along i) ∙ h.same i (le_of_suc-le-suc k)

pub stands_append : {s : List ℕ} {at : ℕ} {bs cs : List ℕ} → Stands s at bs → Stands s (at + length bs) cs → Stands s at (bs ++ cs)
stands_append {s} {at} {bs} {cs} h k = record { fits = omega (arith, k.fits, length-append bs cs); same = λ i b. go i b (dec_lt i (length bs)) }
  where
    go : (i : ℕ) → i < length (bs ++ cs) → Dec (i < length bs) → byte s (at + i) ≡ byte (bs ++ cs) i
    go i b (yes f) = h.same i f ∙ sym (get_or-append bs cs 0 i f)
    go i b (no f) =
        ap (byte s) along ∙ k.same (i - length bs) (omega (arith, length-append bs cs)) ∙ sym (get_or-append-add bs cs (i - length bs) 0) ∙ ap (byte (bs ++ cs)) back
      where
        along : at + i ≡ at + length bs + (i - length bs)
        along = omega arith

        back : length bs + (i - length bs) ≡ i
        back = omega arith

-- ---- a record

module _ (s : List ℕ) (bytes : AreBytes s) where
  again_coordinate : (at o : ℕ) {rest : List ℕ} → o ≡ at + 4 → Stands s o rest → Stands s at (coordinate_then (coordinate s at) rest)
  again_coordinate at o {rest} e h =
      stands_cons (sym g.0) (stands_cons (sym g.1) (stands_cons (ap (byte s) two ∙ sym g.2) (stands_cons (ap (byte s) three ∙ sym g.3) (subst (λ (o : ℕ). Stands s o rest) four h))))
    where
      two : at + 1 + 1 ≡ at + 2
      two = omega arith

      three : at + 1 + 1 + 1 ≡ at + 3
      three = omega arith

      four : o ≡ at + 1 + 1 + 1 + 1
      four = omega arith

      g : (digit (coordinate s at) 1 ≡ byte s at) × (digit (coordinate s at) 256 ≡ byte s (at + 1)) × (digit (coordinate s at) 65536 ≡ byte s (at + 2)) × (digit (coordinate s at) 16777216 ≡ byte s (at + 3))
      g = digits_again s (byte_below s bytes) at

  again_point : (at o : ℕ) {rest : List ℕ} → o ≡ at + 8 → Stands s o rest → Stands s at (point_then (point_from s at) rest)
  again_point at o e h = again_coordinate at (at + 4) refl (again_coordinate (at + 4) o (omega arith) h)

small_bit : (n : ℕ) → n ≤ 1 → n ≡ bit (eqb n 1)
small_bit n h = go (dec_lt n 1)
  where
    go : Dec (n < 1) → n ≡ bit (eqb n 1)
    go (yes k) = let e : n ≡ 0 = omega arith in rw e
    go (no k) = let e : n ≡ 1 = omega arith in rw e

-- the number of a kind
abbrev number : Kind → ℕ
number Start = 84
number (Element Points) = 80
number (Element Line) = 76
number (Element Region) = 82
number End = 69
number Unknown = 0

known : Kind → Bool
known Start = true
known (Element k) = true
known End = true
known Unknown = false

kind_number : (b : ℕ) (k : Kind) → kind_of b ≡ k → T (known k) → b ≡ number k
unfolding kind_of known
kind_number b k e t = go (eqb b 84) (eqb b 80) (eqb b 76) (eqb b 82) (eqb b 69) (eqb-true b 84) (eqb-true b 80) (eqb-true b 76) (eqb-true b 82) (eqb-true b 69) e
  where
    at : (j : Kind) → j ≡ k → b ≡ number j → b ≡ number k
    at j q f = f ∙ ap number q

    go : (a c d f g : Bool) → (a ≡ true → b ≡ 84) → (c ≡ true → b ≡ 80) → (d ≡ true → b ≡ 76) → (f ≡ true → b ≡ 82) → (g ≡ true → b ≡ 69)
        → cond a Start (cond c (Element Points) (cond d (Element Line) (cond f (Element Region) (cond g End Unknown)))) ≡ k → b ≡ number k
    go true c d f g p₁ p₂ p₃ p₄ p₅ q = at Start q (p₁ refl)
    go false true d f g p₁ p₂ p₃ p₄ p₅ q = at (Element Points) q (p₂ refl)
    go false false true f g p₁ p₂ p₃ p₄ p₅ q = at (Element Line) q (p₃ refl)
    go false false false true g p₁ p₂ p₃ p₄ p₅ q = at (Element Region) q (p₄ refl)
    go false false false false true p₁ p₂ p₃ p₄ p₅ q = at End q (p₅ refl)
    go false false false false false p₁ p₂ p₃ p₄ p₅ q = absurd (subst (λ (j : Kind). T (known j)) (sym q) t)

module _ (s : List ℕ) (bytes : AreBytes s) where
  pub again_record : (k : Shape) (at : ℕ) → Passed s at (stands_in k) false (Element k) → Stands s at (record_bytes k (item_at k s at))
  unfolding record_bytes known
  again_record Points at p = stands_cons (kind_number (byte s at) (Element Points) p.kind tt) (again_point s bytes (at + 1) (at + 9) (omega arith) (stands_nil s (at + 9) (omega (arith, p.whole))))
  again_record Line at p =
      stands_cons (kind_number (byte s at) (Element Line) p.kind tt)
      (again_point s bytes (at + 1) (at + 9) (omega arith)
      (again_point s bytes (at + 9) (at + 17) (omega arith)
      (stands_cons (small_bit (byte s (at + 17)) (leb→le (byte s (at + 17)) 1 p.fields)) (stands_nil s (at + 17 + 1) (omega (arith, p.whole))))))
  again_record Region at p =
      stands_cons (kind_number (byte s at) (Element Region) p.kind tt)
      (again_point s bytes (at + 1) (at + 9) (omega arith)
      (again_point s bytes (at + 9) (at + 17) (omega arith)
      (stands_cons (small_bit (byte s (at + 17)) (leb→le (byte s (at + 17)) 1 (and_left (leb (byte s (at + 17)) 1) (leb (byte s (at + 18)) 1) p.fields)))
      (subst (λ (o : ℕ). Stands s o (bit (eqb (byte s (at + 18)) 1) ∷ [])) eighteen
      (stands_cons (small_bit (byte s (at + 18)) (leb→le (byte s (at + 18)) 1 (and_right (leb (byte s (at + 17)) 1) (leb (byte s (at + 18)) 1) p.fields))) (stands_nil s (at + 18 + 1) (omega (arith, p.whole))))))))
    where
      eighteen : at + 18 ≡ at + 17 + 1
      eighteen = omega arith

-- ---- an object

shape_number_lem : (n : ℕ) → 1 ≤ n → n ≤ 3 → n ≡ shape_number (shape_of n)
unfolding shape_of
shape_number_lem n h k = go (dec_lt n 2) (dec_lt n 3)
  where
    go : Dec (n < 2) → Dec (n < 3) → n ≡ shape_number (shape_of n)
    go (yes a) b = let e : n ≡ 1 = omega arith in rw e
    go (no a) (yes b) = let e : n ≡ 2 = omega arith in rw e
    go (no a) (no b) = let e : n ≡ 3 = omega arith in rw e

-- the bytes around the elements of an object that is taken
record Around (s : List ℕ) (at : ℕ) (l : Layout) : Type 0 where
  type : byte s at ≡ 84
  shape : byte s (at + 1) ≡ shape_number l.shape
  end : byte s (end_place l) ≡ 69

around : (s : List ℕ) (at : ℕ) (l : Layout) → read_object s at ≡ Ok l → Around s at l
unfolding read_object known
around s at l e = go (record_at s at starts_object false) refl e
  where
    t : TakenObject s at l
    t = taken_object s at l e

    started : (j : Kind) → Passed s at starts_object false j → Around s at l
    started Start p = record {
      type = kind_number (byte s at) Start p.kind tt;
      shape = shape_number_lem (byte s (at + 1)) (leb→le 1 (byte s (at + 1)) (and_left (leb 1 (byte s (at + 1))) (leb (byte s (at + 1)) 3) p.fields)) (leb→le (byte s (at + 1)) 3 (and_right (leb 1 (byte s (at + 1))) (leb (byte s (at + 1)) 3) p.fields))
          ∙ ap shape_number (sym t.type);
      end = kind_number (byte s (end_place l)) End t.end tt;
    }
    started (Element x) p = absurd p.allows
    started End p = absurd p.allows
    started Unknown p = absurd p.allows

    go : (r : Record) → record_at s at starts_object false ≡ r → begun r (elements_from s most (record { shape = shape_of (byte s (at + 1)); start = at; count = 0 })) ≡ Ok l → Around s at l
    go (Err r) x q = absurd (never_taken q)
    go (Ok j) x q = started j (passed s at starts_object false j x)

-- the elements of an object, as they are read
abbrev pub items_at : List ℕ → (l : Layout) → List (Item l.shape)
items_at s l = map (λ i. item_at l.shape s (place l i)) (elements l)

pub indices_length : (n i : ℕ) → length (indices n i) ≡ n
indices_length zero i = refl
indices_length (suc n) i = ap suc (indices_length n (suc i))

pub items_length : (s : List ℕ) (l : Layout) → length (items_at s l) ≡ l.count
items_length s l = length-map (elements l) (λ i. item_at l.shape s (place l i)) ∙ indices_length l.count 0

module _ (s : List ℕ) (bytes : AreBytes s) where
  again_records : (l : Layout) → TakenObject s l.start l → (n i : ℕ) → i + n ≡ l.count
      → Stands s (place l i) (records_of l.shape (map (λ j. item_at l.shape s (place l j)) (indices n i)))
  again_records l t zero i e = stands_nil s (place l i) (subst (λ (j : ℕ). place l j ≤ length s) all (omega (arith, t.ends)))
    where
      all : l.count ≡ i
      all = omega arith
  again_records l t (suc n) i e =
      stands_append (again_record s bytes l.shape (place l i) (t.elements i (omega arith)))
      (subst (λ (o : ℕ). Stands s o (records_of l.shape (map (λ j. item_at l.shape s (place l j)) (indices n (suc i))))) along (again_records l t n (suc i) (omega arith)))
    where
      along : place l (suc i) ≡ place l i + length (record_bytes l.shape (item_at l.shape s (place l i)))
      along = omega (arith, record_length l.shape (item_at l.shape s (place l i)))

  -- an object's bytes are those written for its elements
  pub stands_again : (l : Layout) → IsObject s l → Stands s l.start (bytes_of l.shape (items_at s l))
  stands_again l is =
      stands_cons a.type
      (stands_cons a.shape
      (stands_append (subst (λ (o : ℕ). Stands s o (records_of l.shape (items_at s l))) begin (again_records l t l.count 0 (omega arith)))
      (stands_cons (ap (byte s) finish ∙ a.end) (stands_nil s (l.start + 1 + 1 + length (records_of l.shape (items_at s l)) + 1) (omega (arith, t.ends, finish))))))
    where
      a : Around s l.start l
      a = around s l.start l is

      t : TakenObject s l.start l
      t = taken_object s l.start l is

      begin : place l 0 ≡ l.start + 1 + 1
      begin = omega arith

      long : length (records_of l.shape (items_at s l)) ≡ l.count * size l.shape
      long = records_length l.shape (items_at s l) ∙ ap (λ (n : ℕ). n * size l.shape) (items_length s l)

      finish : l.start + 1 + 1 + length (records_of l.shape (items_at s l)) ≡ end_place l
      finish = omega (arith, long)

  pub alone_again : (l : Layout) → TakenAlone s 0 l → s ≡ bytes_of l.shape (items_at s l)
  alone_again l t = ext_get_or 0 s (bytes_of l.shape (items_at s l)) lengths (λ i h. ap (byte s) (none i) ∙ (stands_again l t.read).same i (omega (arith, lengths)))
    where
      none : (i : ℕ) → i ≡ l.start + i
      none i = omega (arith, t.object.starts)

      long : length (bytes_of l.shape (items_at s l)) ≡ 2 + l.count * size l.shape + 1
      long = bytes_length l.shape (items_at s l) ∙ ap (λ (n : ℕ). 2 + n * size l.shape + 1) (items_length s l)

      lengths : length s ≡ length (bytes_of l.shape (items_at s l))
      lengths = omega (arith, t.all, t.object.starts, long)
