-- One turn of a run over the events: an element is chosen, and where it is taken, what held of the run before holds of it after.
use Rattle.std.proofs.Common.{◌≡◌, ℕ, ◌+◌, ◌<◌, ◌≤◌, Bool, true, false, cond, List, [], T, eqb, length, set, refl, sym, subst, ◌∙◌, add-one, arith}
use lib.Dec.{eqb→eq}
use Rattle.whole.specs.Decides.{Decides}
use Rattle.whole.proofs.Logic.{in_nil}
use Rattle.whole.proofs.Deciding.{by_equality, same_as, retest}
use Rattle.plane.specs.Plane.{comes_before}
use Rattle.scene.specs.declared.Scene.{Scene}
use Rattle.scene.specs.declared.Shape.TheVariants.{Points}
use Rattle.scene.specs.Read.{IsScene}
use Rattle.scene.specs.Conditions.{has_segments, half}
use Rattle.sweep_laws.specs.Swept.{slot, is_beginning, total, takes_first, InOrder, Passes}
use Rattle.sweep_laws.specs.Evenly.{RegionsEndEvenly}
use Rattle.sweep_laws.specs.Event.{Taken, CanTake}
use Rattle.sweep_laws.specs.Noted.{SegmentsNoted}
use Rattle.sweep_laws.specs.Held.{Held}
use Rattle.sweep_laws.proofs.Begun.{reached, Next, next_first, next_second}
use Rattle.sweep_laws.proofs.Run.{Run, Orderly, AllEndLater, run_start, advance, later_taken}
use Rattle.sweep_laws.proofs.EventOrder.{After, Earliest, rises, earliest, after_start, after_next}
use Rattle.sweep_laws.proofs.Final.{passes, notes_hold}
use Rattle.sweep_laws.proofs.GoesOn
use Rattle.sweep_laws.proofs.GoesOn.{goes_on, all_later}
use Rattle.sweep_laws.proofs.Lasting
use Rattle.sweep_laws.proofs.Lasting.{at_end_lem}
use Rattle.sweep_laws.proofs.Notes.{AllNoted, noted_start, noted_next}
use Rattle.sweep_laws.proofs.Objects.{few_events}
use Rattle.sweep_laws.proofs.Ordered.{orderly}
use Rattle.sweep_laws.proofs.Chosen.{Chosen, none_left, chosen, both_within, entries_are}
use Rattle.sweep_laws.proofs.PointRun.{no_events}

-- i elements of F and j of G have been taken and noted, and the entries are the active segments of such a run
pub record SoFar (s : List ℕ) (sc : Scene) (i j : ℕ) (entries notes : List ℕ) : Type 0 where
  pub run : Run s sc i j entries
  pub noted : AllNoted s sc i j entries notes
  pub after : After s sc i j
  pub later : Passes s sc → AllEndLater s sc i j entries

pub none_yet : (s : List ℕ) (sc : Scene) (notes : List ℕ) → SoFar s sc 0 0 [] notes
none_yet s sc notes = record { run = run_start s sc; noted = noted_start s sc notes; after = after_start s sc; later = λ pass e m. absurd (in_nil m) }

-- the entries of a run are records of the scene
pub held_at : {s : List ℕ} {sc : Scene} → IsScene s sc → InOrder s sc → {i j : ℕ} → i ≤ total s sc true → j ≤ total s sc false → {entries : List ℕ} → Run s sc i j entries → Held s sc entries
held_at {s} {sc} is order {i} {j} a b run =
    let o = orderly s sc is order in
    record { each = entries_are s sc o is run (both_within s sc o i j a b) }

-- where all elements have been taken, no condition finds a fault where no segment is active, and then each element is noted
pub at_end : {s : List ℕ} {sc : Scene} → IsScene s sc → InOrder s sc → RegionsEndEvenly s sc → {i j : ℕ} → i ≡ total s sc true → j ≡ total s sc false
    → {entries notes : List ℕ} → SoFar s sc i j entries notes → {none_active : Bool} → none_active ≡ eqb (length entries) 0
    → Decides (Passes s sc) none_active × (T none_active → SegmentsNoted s sc notes)
at_end {s} {sc} is order even {i} {j} of_f of_g {entries} {notes} so_far none_is = (
  same_as (λ none. passes s sc o (run none) even) (λ pass. Lasting.none_left s sc entries of_f of_g (so_far.later pass)) (retest none_is (by_equality (length entries) 0)),
  λ t. let none = eqb→eq (length entries) 0 (subst T none_is t) in
      notes_hold s sc o (run none) even notes (ends (λ i j l. AllNoted s sc i j l notes) none so_far.noted),
)
  where
    o : Orderly s sc
    o = orderly s sc is order

    ends : (P : ℕ → ℕ → List ℕ → Type 0) → length entries ≡ 0 → P i j entries → P (total s sc true) (total s sc false) []
    ends = at_end_lem s sc entries of_f of_g

    run : length entries ≡ 0 → Run s sc (total s sc true) (total s sc false) []
    run none = ends (Run s sc) none so_far.run

-- where i elements of F and j of G have been taken, the element k of F, or of G, is next
pub record Turn (s : List ℕ) (sc : Scene) (i j : ℕ) (first : Bool) (k : ℕ) : Type 0 where
  pub scene : IsScene s sc
  pub order : InOrder s sc
  pub within_f : i ≤ total s sc true
  pub within_g : j ≤ total s sc false
  pub left : i + j < total s sc true + total s sc false
  pub by_order : first ≡ takes_first s sc i j
  pub index : k ≡ cond first i j

module _ {s : List ℕ} {sc : Scene} {i j : ℕ} {first : Bool} {k : ℕ} (t : Turn s sc i j first k) where
  abbrev start : Orderly s sc
  start = orderly s sc t.scene t.order

  reached_within : (b : Bool) → reached s sc i j b ≤ total s sc b
  reached_within = both_within s sc start i j t.within_f t.within_g

  it : Chosen s sc start i j first
  it = chosen s sc start i j t.within_f t.left first (sym t.by_order)

  its_index : reached s sc i j first ≡ k
  its_index = go first ∙ sym t.index
    where
      go : (b : Bool) → reached s sc i j b ≡ cond b i j
      go true = refl
      go false = refl

  first_one : Earliest s sc i j first
  first_one = earliest s sc start (rises s sc t.scene t.order) i j first it.more (sym t.by_order)

  pub within : k < total s sc first
  within = subst (λ (k : ℕ). k < total s sc first) its_index it.more

  pub short : k < 1024
  short = omega (arith, within, few_events s sc t.scene first)

  -- one element further, in F or in G
  pub on_first : first ≡ true → {i' : ℕ} → i' ≡ i + 1 → (i' ≤ total s sc true) × Next s sc first i j i' j
  on_first e {i'} more = (
    omega (arith, more, subst (λ (b : Bool). reached s sc i j b < total s sc b) e it.more),
    subst (λ (b : Bool). Next s sc b i j i' j) (sym e) (subst (λ (m : ℕ). Next s sc true i j m j) (sym (more ∙ add-one i)) (next_first s sc i j)),
  )

  pub on_second : first ≡ false → {j' : ℕ} → j' ≡ j + 1 → (j' ≤ total s sc false) × Next s sc first i j i j'
  on_second e {j'} more = (
    omega (arith, more, subst (λ (b : Bool). reached s sc i j b < total s sc b) e it.more),
    subst (λ (b : Bool). Next s sc b i j i j') (sym e) (subst (λ (m : ℕ). Next s sc false i j i m) (sym (more ∙ add-one j)) (next_second s sc i j)),
  )

  module _ {entries notes : List ℕ} (so_far : SoFar s sc i j entries notes) where
    pub held : Held s sc entries
    held = record { each = entries_are s sc start t.scene so_far.run reached_within }

    -- where 11 to 15 find no fault, there is room for it, and its tests hold
    pub can_take : Passes s sc → (is_beginning s sc first k ≡ true → length entries < 1024) × CanTake s sc first k entries
    can_take pass =
        let later = so_far.later pass in (
          λ e. omega (arith, GoesOn.room s sc t.scene t.order pass so_far.run later first it reached_within (subst (λ (k : ℕ). is_beginning s sc first k ≡ true) (sym its_index) e)),
          subst (λ (k : ℕ). CanTake s sc first k entries) its_index (goes_on s sc t.scene t.order pass so_far.run later first it reached_within so_far.after first_one),
        )

    -- it was taken, and noted
    module _ {new : List ℕ} {note : ℕ} (taken : Taken s sc first k notes entries new note) {i' j' : ℕ} (next : Next s sc first i j i' j') where
      event : Taken s sc first (reached s sc i j first) notes entries new note
      event = subst (λ (k : ℕ). Taken s sc first k notes entries new note) (sym its_index) taken

      pub taken_on : 2048 ≤ length notes → SoFar s sc i' j' new (set notes (slot first k) note)
      taken_on room =
          record {
            run = advance s sc start so_far.run first it.more it.least next event;
            noted = subst (λ (k : ℕ). AllNoted s sc i' j' new (set notes (slot first k) note)) its_index
                (noted_next s sc start so_far.run first it.more it.least next reached_within notes room so_far.noted event);
            after = after_next s sc so_far.after first_one next;
            later = λ pass. all_later s sc t.scene t.order pass so_far.run (so_far.later pass) first it next event;
          }

      -- where every segment that is active then ends later, each did so before
      pub before : AllEndLater s sc i' j' new → AllEndLater s sc i j entries
      before = later_taken s sc start so_far.run first it.more it.least next event

-- where F has points and G segments, G's halfsegments come one after the other
pub point_turn : {s : List ℕ} {sc : Scene} → IsScene s sc → InOrder s sc → sc.f.shape ≡ Points → T (has_segments sc.g.shape) → {j : ℕ} → j < total s sc false → Turn s sc 0 j false j
point_turn {s} {sc} is order points has {j} h =
    let none = no_events s sc is order points has in
    record {
      scene = is;
      order = order;
      within_f = omega arith;
      within_g = omega arith;
      left = omega (arith, none);
      by_order = sym (none_left 0 (total s sc true) j (total s sc false) (comes_before (half s sc.g j) (half s sc.f 0)) (omega (arith, none)));
      index = refl;
    }
