-- A loop over what was read one after the other: what it has still to do comes to what the whole does.
use Prim.Native.Nat.{ℕ, suc, ◌+◌, ◌-◌, ◌≤◌, ◌<◌}
use native.Mathlib.Omega.{arith}
use mathlib.Core.Path.{◌≡◌, refl, sym, ap, ◌∙◌, subst}
use mathlib.Core.Bool.{Bool}
use mathlib.Core.List.{List, [], ◌∷◌, ◌++◌, map, append-nil}
use lib.Dec.{T}
use lib.ListN.{length}
use Rattle.std.specs.Prelude.{Option, Some, None}
use Rattle.std.specs.List.{flat_map}
use Rattle.std.specs.declared.cmp.Ordering.{Ordering}
use Rattle.std.proofs.lemmas.List.Sums.{fold-append}
use Rattle.plane.specs.declared.Point.{Point}
use Rattle.scene_keys.specs.declared.Ends.{Ends}
use Rattle.scene_keys.specs.Keyed.{key}
use Rattle.scene_written.specs.Arranged.{insert}
use Rattle.wkb_grammar.specs.Grammar.{Read, got, bad, is_taken, followed_by, many, one, point_at}
use Rattle.wkb_grammar.proofs.Taken.{first_taken, taken_value}
use Rattle.wkb_rows.specs.Rows.{gathered, is_below, ends_cmp}
use Rattle.wkb_rows.proofs.Gathered.{gathered_longer}
use Rattle.wkb_gathering.specs.Keys.{linked, along_keys, row_ends}
use Rattle.wkb_gathering.specs.Gathers.{KeyRead, put_all}

-- The things of a list have keys one after the other, each by what was before it.
pub record Turns (K A B : Type 0) : Type 0 where
  pub keys : B → A → List K
  pub next : B → A → B
  pub all : B → List A → List K
  pub none : (b : B) → all b [] ≡ []
  pub more : (b : B) (a : A) (l : List A) → all b (a ∷ l) ≡ keys b a ++ all (next b a) l

-- rings and parts have keys of their own
abbrev pub alone : {K A : Type 0} → (A → List K) → Turns K A (Unit {0})
alone keys = record { keys = λ _. keys; next = λ _ _. tt; all = λ _. flat_map keys; none = λ _. refl; more = λ _ _ _. refl }

-- a point in a row has the segment from the point before
abbrev pub linking : Turns Ends Point (Option ℕ)
linking = record {
  keys = λ before p. linked before (key p);
  next = λ _ p. Some (key p);
  all = λ before l. along_keys before (map key l);
  none = λ _. refl;
  more = λ _ _ _. refl;
}

module _ {K : Type 0} (cmp : K → K → Ordering) where
  -- no key is lost
  pub longer : {A : Type 0} (keys : A → List K) (r : Read A) (row : List K) → length row ≤ length (put_all cmp keys r row).row
  longer keys (got a at) row = gathered_longer (is_below cmp) row (keys a)
  longer keys (bad f) row = omega arith

  module _ {A B : Type 0} (t : Turns K A B) (item : ℕ → Read A) where
    turn : (m at end : ℕ) (a : A) (b : B) (row : List K) → item at ≡ got a end → T (is_taken (many item (suc m) at))
        → T (is_taken (many item m end)) × (put_all cmp (t.all b) (many item (suc m) at) row ≡ put_all cmp (t.all (t.next b a)) (many item m end) (gathered (is_below cmp) row (t.keys b a)))
    turn m at end a b row e h = rw e (go (many item m end) (rw e at h))
      where
        go : (q : Read (List A)) → T (is_taken {A = List A} (followed_by q (λ l end. got (a ∷ l) end)))
            → T (is_taken q) × (put_all cmp (t.all b) (followed_by q (λ l end. got (a ∷ l) end)) row ≡ put_all cmp (t.all (t.next b a)) q (gathered (is_below cmp) row (t.keys b a)))
        go (got l end) h = (
          tt,
          ap (λ r. record { row = r; place = end }) (ap (gathered (is_below cmp) row) (t.more b a l) ∙ fold-append (λ r k. insert (is_below cmp) k r) row (t.keys b a) (t.all (t.next b a) l)),
        )
        go (bad f) h = absurd h

    module _ (n from : ℕ) (first : B) (start : List K) where
      -- after i of n
      pub record Onward (i at : ℕ) (b : B) (row : List K) : Type 0 where
        pub taken : T (is_taken (many item (n - i) at))
        pub same : put_all cmp (t.all first) (many item n from) start ≡ put_all cmp (t.all b) (many item (n - i) at) row

      pub begins : T (is_taken (many item n from)) → Onward 0 from first start
      begins h = record { taken = subst (λ m. T (is_taken (many item m from))) none_off h; same = ap (λ m. put_all cmp (t.all first) (many item m from) start) none_off }
        where
          none_off : n ≡ n - 0
          none_off = omega arith

      module _ {i at : ℕ} {b : B} {row : List K} (h : i < n) (w : Onward i at b row) where
        less_one : n - i ≡ suc (n - (i + 1))
        less_one = omega arith

        one_taken : T (is_taken (many item (suc (n - (i + 1))) at))
        one_taken = subst (λ m. T (is_taken (many item m at))) less_one w.taken

        pub item_taken : T (is_taken (item at))
        item_taken = first_taken (item at) _ one_taken

        pub goes_on : (a : A) (end : ℕ) → item at ≡ got a end → Onward (i + 1) end (t.next b a) (gathered (is_below cmp) row (t.keys b a))
        goes_on a end e =
            let p = turn (n - (i + 1)) at end a b row e one_taken in
            record { taken = p.0; same = w.same ∙ ap (λ m. put_all cmp (t.all b) (many item m at) row) less_one ∙ p.1 }

        -- where one has no room, the whole has none
        pub stops : (room : ℕ) (a : A) (end : ℕ) → item at ≡ got a end → room < length (gathered (is_below cmp) row (t.keys b a)) → room < length (put_all cmp (t.all first) (many item n from) start).row
        stops room a end e k =
            subst (λ r. room < length r.row) (sym (goes_on a end e).same)
            (omega (arith, k, longer (t.all (t.next b a)) (many item (n - (i + 1)) end) (gathered (is_below cmp) row (t.keys b a))))

      pub ends : {i at : ℕ} {b : B} {row : List K} → n ≤ i → Onward i at b row → put_all cmp (t.all first) (many item n from) start ≡ record { row = row; place = at }
      ends {i} {at} {b} {row} h w =
          w.same ∙ ap (λ m. put_all cmp (t.all b) (many item m at) row) nothing ∙ ap (λ l. record { row = gathered (is_below cmp) row l; place = at }) (t.none b)
        where
          nothing : n - i ≡ 0
          nothing = omega arith

-- a thing alone has the keys of a list of one
pub put_one : {K A : Type 0} (cmp : K → K → Ordering) (keys : A → List K) (r : Read A) (row : List K) → put_all cmp (flat_map keys) (one r) row ≡ put_all cmp keys r row
put_one cmp keys (got a at) row = ap (λ l. record { row = gathered (is_below cmp) row l; place = at }) (append-nil (keys a))
put_one cmp keys (bad f) row = refl

-- ---- rows, and parts: each has its own keys
module _ {K A : Type 0} (cmp : K → K → Ordering) (keys : A → List K) (item : ℕ → Read A) (n from : ℕ) (start : List K) where
  abbrev pub Each : ℕ → ℕ → List K → Type 0
  Each i at row = Onward cmp (alone keys) item n from tt start i at tt row

  pub each_begins : T (is_taken (many item n from)) → Each 0 from start
  each_begins t = begins cmp (alone keys) item n from tt start t

  module _ {i at : ℕ} {row : List K} (h : i < n) (w : Each i at row) where
    pub each_taken : T (is_taken (item at))
    each_taken = item_taken cmp (alone keys) item n from tt start h w

    value : (a : A) × (end : ℕ) × (item at ≡ got a end)
    value = taken_value (item at) each_taken

    pub each_goes_on : (end : ℕ) (next : List K) → (end ≡ (put_all cmp keys (item at) row).place) × (next ≡ (put_all cmp keys (item at) row).row) → Each (i + 1) end next
    each_goes_on end next e =
        subst (λ x. Each (i + 1) x next) (sym (e.0 ∙ ap (λ r. (put_all cmp keys r row).place) value.2))
        (subst (λ y. Each (i + 1) value.1 y) (sym (e.1 ∙ ap (λ r. (put_all cmp keys r row).row) value.2))
        (goes_on cmp (alone keys) item n from tt start h w value.0 value.1 value.2))

    pub each_stops : (room : ℕ) → room < length (put_all cmp keys (item at) row).row → room < length (put_all cmp (flat_map keys) (many item n from) start).row
    each_stops room k =
        stops cmp (alone keys) item n from tt start h w room value.0 value.1 value.2
        (subst (λ r. room < length (put_all cmp keys r row).row) value.2 k)

  pub each_ends : {i at : ℕ} {row : List K} → n ≤ i → Each i at row → put_all cmp (flat_map keys) (many item n from) start ≡ record { row = row; place = at }
  each_ends h w = ends cmp (alone keys) item n from tt start h w

-- ---- the points of a row: each has a segment from the point before
module _ (s : List ℕ) (little : Bool) (n from : ℕ) (start : List Ends) where
  abbrev pub Along : ℕ → ℕ → Option ℕ → List Ends → Type 0
  Along i at before row =
      Onward ends_cmp linking (point_at s little) n from None start i at before row

  module _ {i at : ℕ} {before : Option ℕ} {row : List Ends} (h : i < n) (w : Along i at before row) (k : ℕ) (read : KeyRead s little at k) (l : List Ends) (segment : l ≡ linked before k) where
    along_l : l ≡ linked before (key read.point)
    along_l = segment ∙ ap (linked before) read.keyed

    pub along_goes_on : (next : List Ends) → next ≡ gathered (is_below ends_cmp) row l → Along (i + 1) (at + 16) (Some k) next
    along_goes_on next e =
        subst (λ j. Along (i + 1) (at + 16) (Some j) next) (sym read.keyed)
        (subst (λ y. Along (i + 1) (at + 16) (Some (key read.point)) y) (sym (e ∙ ap (gathered (is_below ends_cmp) row) along_l))
        (goes_on ends_cmp linking (point_at s little) n from None start h w read.point (at + 16) read.is))

    pub along_stops : (room : ℕ) → room < length (gathered (is_below ends_cmp) row l) → room < length (put_all ends_cmp row_ends (many (point_at s little) n from) start).row
    along_stops room e =
        stops ends_cmp linking (point_at s little) n from None start h w room read.point (at + 16) read.is
        (subst (λ l. room < length (gathered (is_below ends_cmp) row l)) along_l e)
