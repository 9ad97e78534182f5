-- A point of the scene, whose elements of F and of G are two runs of one key: how many they are are its degrees; and what is left of it at each turn.
use Rattle.std.specs.Prelude.{Ok}
use Prim.Native.Nat.{ℕ, ◌+◌, ◌-◌, ◌<◌, ◌≤◌, min}
use native.Mathlib.Decide.{dec_lt}
use native.Mathlib.Omega.{arith}
use mathlib.Core.Path.{◌≡◌, sym, ap, ◌∙◌}
use mathlib.Core.List.{List}
use lib.Dec.{T, eqb}
use Rattle.whole.specs.Count.{count}
use Rattle.plane.specs.declared.Point.{Point}
use Rattle.plane.specs.Plane.{in_range}
use Rattle.scene.specs.declared.Scene.{Scene}
use Rattle.scene.specs.Conditions.{indices, check_scene}
use Rattle.check_verdict.proofs.Laws.{SoundScene}
use Rattle.scene_keys.specs.Keyed.{top, key, element_point, keys, next_key}
use Rattle.scene_keys.proofs.Keys.{next_in}
use Rattle.scene_keys.proofs.Elements.{point_in_range}
use Rattle.flags_meetings.specs.Met.{degree}
use Rattle.flags_meetings.specs.Keyed.{Passed}
use Rattle.flags_meetings.proofs.Runs.{InOrder, run_same, run_next, run_count}
use Rattle.flags_meetings.proofs.Elements.{in_order}
use Rattle.flags_meetings.proofs.Walking.{degree_is}
use Rattle.flags_classes.proofs.Merging.{few}
use Rattle.flags_vectors.proofs.Answered.{accepted}
use Rattle.walk_flags.specs.declared.Degrees.{Degrees}
use Rattle.walk.specs.declared.laying.Place.{Place}
use Rattle.walk.specs.declared.laying.Ends.{Ends}
use Rattle.walk.specs.Laying.{PointFrom, PointAt, Between, RestOfF, RestOfG}

module _ {s : List ℕ} {sc : Scene} (o : SoundScene s sc) where
  in_f : InOrder sc.f.count (keys s sc.f)
  in_f = in_order s sc.f o.f_sound.read o.f_sound.order

  in_g : InOrder sc.g.count (keys s sc.g)
  in_g = in_order s sc.g o.g_sound.read o.g_sound.order

  -- no more than an object may have
  pub few_f : {i : ℕ} → i < sc.f.count → i < 1024
  few_f h = omega (arith, h, few s sc.f o.f_sound.read)

  pub few_g : {j : ℕ} → j < sc.g.count → j < 1024
  few_g h = omega (arith, h, few s sc.g o.g_sound.read)

  -- past the last element
  pub all_f : {i : ℕ} → top ≤ next_key s sc.f i → sc.f.count ≤ i
  all_f {i} h = go (dec_lt i sc.f.count)
    where
      go : Dec (i < sc.f.count) → sc.f.count ≤ i
      go (yes l) = absurd (omega (arith, h, next_in sc.f.count (keys s sc.f) i l, in_f.below i l))
      go (no l) = omega (arith, l)

  pub all_g : {j : ℕ} → top ≤ next_key s sc.g j → sc.g.count ≤ j
  all_g {j} h = go (dec_lt j sc.g.count)
    where
      go : Dec (j < sc.g.count) → sc.g.count ≤ j
      go (yes l) = absurd (omega (arith, h, next_in sc.g.count (keys s sc.g) j l, in_g.below j l))
      go (no l) = omega (arith, l)

  module _ {at : Place} {to : Ends} (p : PointFrom s sc at to) where
    of_f : (v : Point) → T (in_range v) → key v ≡ p.key → to.i - at.i ≡ degree s sc.f v
    of_f v h e = sym (degree_is s sc.f o.f_sound.read v h ∙ ap (λ x. count (λ m. eqb (keys s sc.f m) x) (indices sc.f.count 0)) e ∙ run_count in_f p.low p.least_f p.few_f p.f_run p.f_passed)

    of_g : (v : Point) → T (in_range v) → key v ≡ p.key → to.j - at.j ≡ degree s sc.g v
    of_g v h e = sym (degree_is s sc.g o.g_sound.read v h ∙ ap (λ x. count (λ m. eqb (keys s sc.g m) x) (indices sc.g.count 0)) e ∙ run_count in_g p.low p.least_g p.few_g p.g_run p.g_passed)

    pub point_at : PointAt s sc (record { f = to.i - at.i; g = to.j - at.j }) at to
    point_at = record {
      key = p.key;
      few_f = p.few_f;
      few_g = p.few_g;
      on_f = p.f_run.on;
      on_g = p.g_run.on;
      f_here = λ m a b.
          let e = run_same in_f p.low p.least_f p.few_f p.f_run m a b in
          let v = element_point s sc.f m in
          let h = point_in_range s sc.f o.f_sound.read m (omega (arith, b, p.few_f)) in
          (e, (of_f v h e, of_g v h e));
      g_here = λ m a b.
          let e = run_same in_g p.low p.least_g p.few_g p.g_run m a b in
          let v = element_point s sc.g m in
          let h = point_in_range s sc.g o.g_sound.read m (omega (arith, b, p.few_g)) in
          (e, (of_f v h e, of_g v h e));
      f_beyond = run_next in_f p.low p.least_f p.few_f p.f_run;
      g_beyond = run_next in_g p.low p.least_g p.few_g p.g_run;
    }

    -- what is passed has lower keys than what is next
    pub passed_f : {k : ℕ} → p.key < k → (m : ℕ) → m < to.i → keys s sc.f m < k
    passed_f {k} l m h = go (dec_lt m at.i)
      where
        go : Dec (m < at.i) → keys s sc.f m < k
        go (yes a) = omega (arith, p.f_passed m a, l)
        go (no a) = omega (arith, run_same in_f p.low p.least_f p.few_f p.f_run m (omega (arith, a)) h, l)

    pub passed_g : {k : ℕ} → p.key < k → (m : ℕ) → m < to.j → keys s sc.g m < k
    passed_g {k} l m h = go (dec_lt m at.j)
      where
        go : Dec (m < at.j) → keys s sc.g m < k
        go (yes a) = omega (arith, p.g_passed m a, l)
        go (no a) = omega (arith, run_same in_g p.low p.least_g p.few_g p.g_run m (omega (arith, a)) h, l)

    pub rises : p.key < min (next_key s sc.f to.i) (next_key s sc.g to.j)
    rises = omega (arith, run_next in_f p.low p.least_f p.few_f p.f_run, run_next in_g p.low p.least_g p.few_g p.g_run)

-- the runs of the least key that is left
abbrev pub point_from : (s : List ℕ) (sc : Scene) {at : Place} {to : Ends} {k : ℕ} → k < top → k ≡ min (next_key s sc.f at.i) (next_key s sc.g at.j)
    → to.i ≤ sc.f.count → to.j ≤ sc.g.count → Passed sc.f.count (keys s sc.f) k at.i to.i → Passed sc.g.count (keys s sc.g) k at.j to.j
    → ((m : ℕ) → m < at.i → keys s sc.f m < k) → ((m : ℕ) → m < at.j → keys s sc.g m < k) → PointFrom s sc at to
point_from s sc {k = k} low e few_f few_g a b c d = record {
  key = k;
  low = low;
  few_f = few_f;
  few_g = few_g;
  least_f = omega (arith, e);
  least_g = omega (arith, e);
  f_run = a;
  g_run = b;
  f_passed = c;
  g_passed = d;
}

-- no more elements than two objects may have
pub few_elements : (s : List ℕ) (sc : Scene) → check_scene s ≡ Ok sc → sc.f.count + sc.g.count ≤ 2048
few_elements s sc chk = let o = accepted s sc chk in omega (arith, few s sc.f o.f_sound.read, few s sc.g o.g_sound.read)

-- within a point
module _ {s : List ℕ} {sc : Scene} {d : Degrees} {from : Place} {to : Ends} (p : PointAt s sc d from to) {at : Place} (b : Between from at to) where
  pub rest_of_f : (at.i < to.i → at.j ≡ to.j) → RestOfF s sc d at to.i
  rest_of_f h = record {
    on = b.upto_f;
    few = p.few_f;
    other = omega (arith, b.upto_g, p.few_g);
    first = λ m a l.
        let here = p.f_here m (omega (arith, a, b.on_f)) l in
        let e : next_key s sc.g at.j ≡ next_key s sc.g to.j = ap (next_key s sc.g) (h (omega (arith, a, l))) in
        (omega (arith, here.0, e, p.g_beyond), here.1);
  }

  pub rest_of_g : {a : Place} → a.i ≡ to.i → a.j ≡ at.j → RestOfG s sc d a to.j
  rest_of_g {a} e q = record {
    on = omega (arith, q, b.upto_g);
    few = p.few_g;
    other = omega (arith, e, p.few_f);
    first = λ m x l.
        let here = p.g_here m (omega (arith, x, q, b.on_g)) l in
        let k : next_key s sc.f a.i ≡ next_key s sc.f to.i = ap (next_key s sc.f) e in
        (omega (arith, here.0, k, p.f_beyond), here.1);
  }
