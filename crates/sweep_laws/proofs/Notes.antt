-- The notes of a run: of each element that has been taken, the parity of the other object's strands that pass under its segment's beginning.
-- An element that begins is noted as its event finds it, and no later beginning is under it; one that ends gets the note of the one that began it.
use Prim.Native.Nat.{ℕ, ◌<◌, ◌≤◌}
use native.Mathlib.Nat.{not-suc-le-zero}
use native.Mathlib.Omega.{arith}
use mathlib.Core.Path.{◌≡◌, refl, sym, ap, ◌∙◌, subst}
use mathlib.Core.Logic.{⊎_elim}
use mathlib.Core.Bool.{Bool, true, false, not}
use mathlib.Core.List.{List, [], ◌∷◌}
use lib.ListN.{length, get_or, set}
use lib.Seq.{get_or-set_same, get_or-set_other}
use Rattle.whole.specs.Count.{◌∈◌, there, bit, odd, count}
use Rattle.scene.specs.declared.Scene.{Scene}
use Rattle.scene.specs.Read.{place}
use Rattle.sweep_laws.specs.Kept.{Strand, under_of, NoneEqual}
use Rattle.sweep_laws.specs.Swept.{slot, object_of, is_first, strand_of, is_beginning, total}
use Rattle.sweep_laws.specs.Event.{Began, Ended, Taken, it_began, it_ended}
use Rattle.sweep_laws.proofs.Under.{NotBefore}
use Rattle.sweep_laws.proofs.Events.{Beginning, now_under, still_under}
use Rattle.sweep_laws.proofs.Begun.{Same, strand_by, reached, strands, make_of, Next}
use Rattle.sweep_laws.proofs.Run.{point_of, Orderly, AllEndLater, TakenBefore, is_region_of, Run, place_of, own_of, below, above, count_below_lem, beginning, own_entry, own_in, own_first, later_begun, later_ended}

-- two elements have two places
slots_apart : (f g : Bool) (k m : ℕ) → k < 1024 → m < 1024 → (f ≡ g → k ≡ m → ⊥) → slot f k ≡ slot g m → ⊥
slots_apart true true k m h l n e = n refl e
slots_apart true false k m h l n e = omega arith
slots_apart false true k m h l n e = omega arith
slots_apart false false k m h l n e = n refl (omega arith)

pub slot_room : (f : Bool) (k : ℕ) → k < 1024 → slot f k < 2048
slot_room true k h = omega arith
slot_room false k h = omega arith

module _ (s : List ℕ) (sc : Scene) where
  abbrev parity_under : ℕ → ℕ → Bool → Strand → ℕ
  parity_under i j object a = bit (odd (count (under_of object a) (strands s sc true i j)))

  -- an element whose segment is none of the other object's is noted
  abbrev NotedAt : ℕ → ℕ → List ℕ → Bool → ℕ → Type 0
  NotedAt i j notes first k =
      NoneEqual (not first) (strand_by s sc first k) (strands s sc true i j) → get_or notes (slot first k) 0 ≡ parity_under i j (not first) (strand_by s sc first k)

  abbrev pub AllNoted : ℕ → ℕ → List ℕ → List ℕ → Type 0
  AllNoted i j entries notes = AllEndLater s sc i j entries → (first : Bool) (k : ℕ) → k < reached s sc i j first → NotedAt i j notes first k

  pub noted_start : (notes : List ℕ) → AllNoted 0 0 [] notes
  noted_start notes later true k h = absurd (not-suc-le-zero h)
  noted_start notes later false k h = absurd (not-suc-le-zero h)

  -- ---- the next element

  module _ (o : Orderly s sc) {i j : ℕ} {entries : List ℕ} (run : Run s sc i j entries) (first : Bool) (more : reached s sc i j first < total s sc first)
      (least : (other : Bool) (m : ℕ) → reached s sc i j other ≤ m → m < total s sc other → NotBefore (point_of s sc other m) (point_of s sc first (reached s sc i j first)))
      {i' j' : ℕ} (next : Next s sc first i j i' j') (within : (b : Bool) → reached s sc i j b ≤ total s sc b) (notes : List ℕ) (room : 2048 ≤ length notes) where
    abbrev own : ℕ
    own = reached s sc i j first

    written : (note : ℕ) → ((f : Bool) (k : ℕ) → k < reached s sc i j f → NotedAt i' j' notes f k)
        → (NoneEqual (not first) (strand_by s sc first own) (strands s sc true i' j') → note ≡ parity_under i' j' (not first) (strand_by s sc first own))
        → (f : Bool) (k : ℕ) → k < reached s sc i' j' f → NotedAt i' j' (set notes (slot first own) note) f k
    written note old new f k h =
        ⊎_elim (λ l none. get_or-set_other notes (slot first own) (slot f k) note 0 (apart l) ∙ old f k l none)
        (λ q. subst (NotedAt i' j' (set notes (slot first own) note) f) (sym q.1) (subst (λ (b : Bool). NotedAt i' j' (set notes (slot first own) note) b own) (sym q.0) here_noted)) (next.by_one f k h)
      where
        short : own < 1024
        short = omega (arith, more, o.few first)

        apart : k < reached s sc i j f → slot f k ≡ slot first own → ⊥
        apart l =
            slots_apart f first k own (omega (arith, l, within f, o.few f)) short
            (λ p q. less (subst (λ (b : Bool). k < reached s sc i j b) p l) q)
          where
            less : k < own → k ≡ own → ⊥
            less l e = omega arith

        here_noted : NotedAt i' j' (set notes (slot first own) note) first own
        here_noted none = get_or-set_same notes (slot first own) note 0 (omega (arith, slot_room first own short, room)) ∙ new none

    -- a strand that an element taken before begins or ends has begun
    has_begun : AllEndLater s sc i j entries → (f : Bool) (k : ℕ) → k < reached s sc i j f → strand_by s sc f k ∈ strands s sc true i j
    has_begun later f k h = go (is_beginning s sc f k) refl
      where
        go : (b : Bool) → is_beginning s sc f k ≡ b → strand_by s sc f k ∈ strands s sc true i j
        go true e = make_of s sc true f i j k h e
        go false e = (run.kept later).ended_begun (strand_by s sc f k) (make_of s sc false f i j k h e)

    begun_noted : {new : List ℕ} {note : ℕ} → AllNoted i j entries notes → is_beginning s sc first own ≡ true → Began s sc first (place_of s sc i j first) entries new note
        → AllNoted i' j' new (set notes (slot first own) note)
    begun_noted {note = note} noted e b later' =
        written note
        (λ f k h none. noted later f k h (λ c m. none c (same.to c (there m))) ∙ ap (λ (n : ℕ). bit (odd n)) (sym (still_under (is_region_of s sc) g (not f) (strand_by s sc f k) (has_begun later f k h)) ∙ same.counts (under_of (not f) (strand_by s sc f k))))
        (λ none. b.noted ∙ ap (λ (n : ℕ). bit (odd n)) (sym (count_below_lem s sc b (not first)) ∙ sym (now_under (is_region_of s sc) g (not first) (λ c m. none c (same.to c (there m)))) ∙ same.counts (under_of (not first) (strand_by s sc first own))))
      where
        later : AllEndLater s sc i j entries
        later = later_begun s sc o run first more least next b later'

        same : Same (own_of s sc i j first ∷ strands s sc true i j) (strands s sc true i' j')
        same = next.more true e

        g : Beginning (is_region_of s sc) (strands s sc true i j) (strands s sc false i j) (own_of s sc i j first) (below s sc b) (above s sc b)
        g = beginning s sc o run first more least b e later

    ended_noted : {new : List ℕ} {note : ℕ} → AllNoted i j entries notes → is_beginning s sc first own ≡ false → Ended s sc first (place_of s sc i j first) entries notes new note
        → AllNoted i' j' new (set notes (slot first own) note)
    ended_noted {note = note} noted e b later' =
        written note
        (λ f k h none. still f k h (λ c m. none c (same.to c m)))
        (λ none. b.noted t.index at ∙ subst (λ (a : Strand). NoneEqual (not first) a (strands s sc true i j) → get_or notes (slot first t.index) 0 ≡ parity_under i' j' (not first) a) is (still first t.index earlier) (λ c m. none c (same.to c m)))
      where
        later : AllEndLater s sc i j entries
        later = later_ended s sc o run first more least next e b later'

        same : Same (strands s sc true i j) (strands s sc true i' j')
        same = next.same false e

        still : (f : Bool) (k : ℕ) → k < reached s sc i j f → NoneEqual (not f) (strand_by s sc f k) (strands s sc true i j) → get_or notes (slot f k) 0 ≡ parity_under i' j' (not f) (strand_by s sc f k)
        still f k h none = noted later f k h none ∙ ap (λ (n : ℕ). bit (odd n)) (same.counts (under_of (not f) (strand_by s sc f k)))

        entry : ℕ
        entry = own_entry s sc b

        of_first : is_first s sc entry ≡ first
        of_first = own_first s sc b

        t : TakenBefore s sc i j entry
        t = run.taken entry (own_in s sc b)

        at : entry ≡ place (object_of s sc first) t.index
        at = t.is_place ∙ ap (λ (c : Bool). place (object_of s sc c) t.index) of_first

        earlier : t.index < reached s sc i j first
        earlier = subst (λ (c : Bool). t.index < reached s sc i j c) of_first t.earlier

        is : strand_by s sc first t.index ≡ own_of s sc i j first
        is = ap (strand_of s sc first) (sym at) ∙ ap (λ (c : Bool). strand_of s sc c entry) (sym of_first) ∙ b.found.own

    pub noted_next : {new : List ℕ} {note : ℕ} → AllNoted i j entries notes → Taken s sc first own notes entries new note → AllNoted i' j' new (set notes (slot first own) note)
    noted_next noted (it_began e b) = begun_noted noted e b
    noted_next noted (it_ended e b) = ended_noted noted e b
