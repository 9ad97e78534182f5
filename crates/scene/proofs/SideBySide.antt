-- Two objects put side by side: a ++ b, where a and b are each one object's bytes. What is read of it; each object in it; and its conditions 10 to 14,
-- which find no fault in the scene where, and only where, they find none in either object alone.
use Rattle.std.specs.Prelude.{Err, Ok}
use Rattle.scene.specs.Read.{CheckedObject}
use Prim.Native.Nat.{ℕ, ◌+◌}
use native.Mathlib.Nat.{add-zero, zero-add, add_comm}
use native.Mathlib.Omega.{arith}
use mathlib.Core.Path.{◌≡◌, refl, sym, ap, subst, ◌∙◌}
use mathlib.Core.List.{List, ◌++◌, map}
use lib.ListN.{length, length-append, get_or-append}
use lib.Seq.{get_or-append-add}
use Rattle.scene.specs.declared.Layout.{Layout}
use Rattle.scene.specs.declared.Scene.{Scene}
use Rattle.scene.specs.Read.{byte, after, arranged, read_object, read_scene, read_alone, IsObject}
use Rattle.scene.specs.Conditions.{over_both, check_object, object_rules}
use Rattle.scene.proofs.Taken.{TakenAlone, Arranged, arrange, taken_object, taken_alone, alone_read, scene_read}
use Rattle.scene.proofs.Outcomes.{never_taken, same_taken}
use Rattle.scene.proofs.Given.{NoFault, checked_object_lem, object_checked, in_neither, over_both_lem}
use Rattle.scene.proofs.Moved.{moved, moved_object, unmoved, Agree, agree_itself, moved_object_lem, taken_reach}
use Rattle.scene.proofs.Standing.{Stands, faultless_there, faultless_here}

-- ---- an object's bytes that stand in t from offset d on

-- what is read of s alone, and is l where its places are raised by d
pub record Alone (d : ℕ) (s : List ℕ) (l : Layout) : Type 0 where
  pub own : Layout
  pub read : read_alone s ≡ Ok own
  pub is : l ≡ moved d own

module _ {d : ℕ} {s t : List ℕ} (g : Agree d (length s) s t) where
  object_there : (l : Layout) → read_alone s ≡ Ok l → read_object t d ≡ Ok (moved d l)
  object_there l e =
      moved_object_lem g 0 d (sym (zero-add d)) (taken_reach (agree_itself s) 0 0 refl l taken.object (omega (arith, taken.all)))
      ∙ ap (moved_object d) (subst (λ (at : ℕ). read_object s at ≡ Ok l) taken.object.starts taken.read)
    where
      taken : TakenAlone s 0 l
      taken = taken_alone s l e

  -- and back, for an object that takes all of s
  object_alone : (l : Layout) → read_object t d ≡ Ok l → after l ≡ length s + d → Alone d s l
  object_alone l e all = go (read_object s 0) refl
    where
      there : read_object t d ≡ moved_object d (read_object s 0)
      there = moved_object_lem g 0 d (sym (zero-add d)) (taken_reach g 0 d (sym (zero-add d)) l (taken_object t d l e) (omega arith))

      go : (o : CheckedObject) → read_object s 0 ≡ o → Alone d s l
      go (Err r) q = absurd (never_taken (sym (there ∙ ap (moved_object d) q) ∙ e))
      go (Ok own) q = record { own = own; read = alone_read s own q (omega (arith, ap after is)); is = is }
        where
          is : l ≡ moved d own
          is = same_taken (sym e ∙ there ∙ ap (moved_object d) q)

-- ---- a before b

module _ (a b : List ℕ) where
  first_agrees : Agree 0 (length a) a (a ++ b)
  first_agrees = record {
    long_s = omega arith;
    long_t = omega (arith, length-append a b);
    same = λ i h. ap (byte (a ++ b)) (add-zero i) ∙ get_or-append a b 0 i h;
  }

  second_agrees : Agree (length a) (length b) b (a ++ b)
  second_agrees = record {
    long_s = omega arith;
    long_t = omega (arith, length-append a b);
    same = λ i h. ap (byte (a ++ b)) (add_comm i (length a)) ∙ get_or-append-add a b i 0;
  }

  -- in a ++ b the object of a stands where it stood, and that of b stands after a: Standing.antt says what follows
  pub first_stands : (l : Layout) → IsObject a l → Stands 0 a l (a ++ b) l.start
  first_stands l e = record {
    reach = length a;
    agree = first_agrees;
    within = omega (arith, (taken_object a l.start l e).ends);
    start = sym (add-zero l.start);
  }

  pub second_stands : (m : Layout) → IsObject b m → Stands (length a) b m (a ++ b) (m.start + length a)
  second_stands m e = record {
    reach = length b;
    agree = second_agrees;
    within = omega (arith, (taken_object b m.start m e).ends);
    start = refl;
  }

  -- ---- reading an object

  pub first_read : (l : Layout) → read_alone a ≡ Ok l → read_object (a ++ b) 0 ≡ Ok l
  first_read l e = object_there first_agrees l e ∙ ap Ok (unmoved l)

  pub second_read : (m : Layout) → read_alone b ≡ Ok m → read_object (a ++ b) (length a) ≡ Ok (moved (length a) m)
  second_read m e = object_there second_agrees m e

  pub first_alone : (l : Layout) → read_object (a ++ b) 0 ≡ Ok l → after l ≡ length a → read_alone a ≡ Ok l
  first_alone l e all =
      let o = object_alone first_agrees l e (omega arith) in
      o.read ∙ ap Ok (sym (unmoved o.own) ∙ sym o.is)

  pub second_alone : (g : Layout) → read_object (a ++ b) (length a) ≡ Ok g → after g ≡ length (a ++ b) → Alone (length a) b g
  second_alone g e all = object_alone second_agrees g e (omega (arith, length-append a b))

  -- ---- the conditions 10 to 14 of an object

  pub first_faultless : (l : Layout) → check_object a ≡ Ok l → NoFault (a ++ b) l object_rules
  first_faultless l e = let c = checked_object_lem a l e in faultless_there (first_stands l c.0.read) c.1

  pub second_faultless : (m : Layout) → check_object b ≡ Ok m → NoFault (a ++ b) (moved (length a) m) object_rules
  second_faultless m e = let c = checked_object_lem b m e in faultless_there (second_stands m c.0.read) c.1

  pub first_checked : (l : Layout) → read_alone a ≡ Ok l → NoFault (a ++ b) l object_rules → check_object a ≡ Ok l
  first_checked l e n = object_checked a l e (faultless_here (first_stands l (taken_alone a l e).read) n)

  pub second_checked : (m : Layout) → read_alone b ≡ Ok m → NoFault (a ++ b) (moved (length a) m) object_rules → check_object b ≡ Ok m
  second_checked m e n = object_checked b m e (faultless_here (second_stands m (taken_alone b m e).read) n)

-- ---- the scene that two objects form

module _ (a b : List ℕ) (l m : Layout) where
  abbrev pub beside : Scene
  beside = arranged l (moved (length a) m)

  module _ (first : read_alone a ≡ Ok l) (second : read_alone b ≡ Ok m) where
    pub beside_read : read_scene (a ++ b) ≡ Ok beside
    beside_read =
        scene_read (a ++ b) l (moved (length a) m) (first_read a b l first) there (omega (arith, length-append a b, (taken_alone b m second).all))
      where
        there : read_object (a ++ b) (after l) ≡ Ok (moved (length a) m)
        there = subst (λ (at : ℕ). read_object (a ++ b) at ≡ Ok (moved (length a) m)) (taken_alone a l first).all (second_read a b m second)

    pub beside_given : Arranged l (moved (length a) m) beside
    beside_given = arrange l (moved (length a) m) (omega (arith, (taken_alone a l first).object.starts, (taken_alone a l first).all))

    -- 10 to 14, whose rules find no fault in the scene where they find none in either object
    pub beside_faultless : check_object a ≡ Ok l → check_object b ≡ Ok m → NoFault (a ++ b) beside (map over_both object_rules)
    beside_faultless e q =
        over_both_lem (a ++ b) beside object_rules (subst (λ (x : Layout). NoFault (a ++ b) x object_rules) (sym beside_given.first) (first_faultless a b l e))
        (subst (λ (x : Layout). NoFault (a ++ b) x object_rules) (sym beside_given.second) (second_faultless a b m q))

    pub beside_checked : NoFault (a ++ b) beside (map over_both object_rules) → (check_object a ≡ Ok l) × (check_object b ≡ Ok m)
    beside_checked n =
        let c = in_neither (a ++ b) beside object_rules n in (
          first_checked a b l first (subst (λ (x : Layout). NoFault (a ++ b) x object_rules) beside_given.first c.0),
          second_checked a b m second (subst (λ (x : Layout). NoFault (a ++ b) x object_rules) beside_given.second c.1),
        )
