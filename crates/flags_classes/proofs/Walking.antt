-- The walk over the left halfsegments of two objects, step by step: the marks so far and those of what is left are all, and give the classes.
use Prim.Native.Nat.{ℕ, ◌+◌}
use native.Mathlib.Omega.{arith}
use mathlib.Core.Path.{◌≡◌, sym, ap, ◌∙◌}
use mathlib.Core.Bool.{true, false}
use mathlib.Core.List.{List}
use lib.Bits.{bit_or}
use lib.ListN.{get_or}
use Rattle.whole.specs.Count.{some}
use Rattle.scene.specs.declared.Layout.{Layout}
use Rattle.scene.specs.declared.Scene.{Scene}
use Rattle.scene.specs.Conditions.{elements, ia, left_test}
use Rattle.check_verdict.proofs.Laws.{SoundScene}
use Rattle.flags.specs.Flags.{pack, has_bit}
use Rattle.flags.proofs.Bits.{pack_bit}
use Rattle.flags.proofs.Elements.{some_same}
use Rattle.flags.proofs.Marks.{gather, gather_bit, Gathering, gathered_one, gathered_none, gathered_all}
use Rattle.flags_classes.specs.Classed.{classes, classes_of_f, classes_of_g}
use Rattle.flags_classes.specs.Marked.{unshared_marks, shared_marks, named}
use Rattle.flags_classes.specs.Walked.{NextLeft, Nexts, NextOfF, NextOfG, NextOfBoth}
use Rattle.flags_classes.proofs.Behind.{tests_at, marks_unshared, marks_shared}
use Rattle.flags_classes.proofs.Standing.{Standing, stands_next, one_segment, standing_f, alone_f, standing_g, alone_g, standing_both}

-- ---- over one object

module _ (s : List ℕ) (own other : Layout) (note : ℕ → ℕ) where
  -- the marks of the element i
  abbrev pub marks_at : ℕ → ℕ
  marks_at i = pack (tests_at s own other note i)

  -- right halfsegments have none
  pub gathered_left : {sofar i k : ℕ} → Gathering marks_at own.count sofar i → NextLeft s own i k → Gathering marks_at own.count sofar k
  gathered_left q n = gathered_none marks_at own.count q n.onwards n.within (λ m h l. rw (n.passed m h l))

  -- the marks of all by their names are the classes
  all_named : named (gather marks_at (elements own)) ≡ classes s own other note
  all_named = λ i. record {
    above_outside = bit 0 i;
    below_outside = bit 1 i;
    above_inside = bit 2 i;
    below_inside = bit 3 i;
    both_above = bit 4 i;
    both_below = bit 5 i;
    opposite = bit 6 i;
  }
    where
      bit : (k : ℕ) → has_bit (gather marks_at (elements own)) k ≡ some (λ i. get_or (tests_at s own other note i) k false) (elements own)
      bit k = gather_bit marks_at (elements own) k ∙ some_same _ _ (λ i. pack_bit (tests_at s own other note i) k) (elements own)

-- ---- over both objects

module _ (s : List ℕ) (f g : Layout) (notes : List ℕ) where
  -- the marks of an element of F, and of G, by its note
  abbrev pub marks_of_f : ℕ → ℕ
  marks_of_f = marks_at s f g (λ k. get_or notes k 0)

  abbrev pub marks_of_g : ℕ → ℕ
  marks_of_g = marks_at s g f (λ k. get_or notes (1024 + k) 0)

  pub record Walking (of_f_lem of_g_lem : ℕ) (i j : ℕ) : Type 0 where
    pub found_f : Gathering marks_of_f f.count of_f_lem i
    pub found_g : Gathering marks_of_g g.count of_g_lem j
    pub stands : Standing s f g i j

  to_next : {of_f_lem of_g_lem : ℕ} {i j a b : ℕ} → Walking of_f_lem of_g_lem i j → Nexts s f g i j a b → Walking of_f_lem of_g_lem a b
  to_next w n = record {
    found_f = gathered_left s f g (λ k. get_or notes k 0) w.found_f n.of_f_lem;
    found_g = gathered_left s g f (λ k. get_or notes (1024 + k) 0) w.found_g n.of_g_lem;
    stands = stands_next s f g w.stands n;
  }

-- one step, by what comes next
module _ {s : List ℕ} {sc : Scene} (o : SoundScene s sc) (notes : List ℕ) where
  abbrev f : Layout
  f = sc.f

  abbrev g : Layout
  g = sc.g

  module _ {of_f_lem of_g_lem : ℕ} {i j : ℕ} (w : Walking s f g notes of_f_lem of_g_lem i j) where
    pub walking_f : {a b : ℕ} → NextOfF s f g i j a b → {x y : ℕ} → x ≡ unshared_marks (ia s f a) (get_or notes a 0) → y ≡ bit_or of_f_lem x → Walking s f g notes y of_g_lem (a + 1) b
    walking_f {a} {b} n e q = record {
      found_f = gathered_one (marks_of_f s f g notes) f.count v.found_f n.there (e ∙ marks_unshared s f g o.g_sound n.there (n.nexts.of_f_lem.there n.there) (alone_f o w.stands n) (λ k. get_or notes k 0)) q;
      found_g = v.found_g;
      stands = standing_f o w.stands n;
    }
      where
        v : Walking s f g notes of_f_lem of_g_lem a b
        v = to_next s f g notes w n.nexts

    pub walking_g : {a b : ℕ} → NextOfG s f g i j a b → {x y : ℕ} → x ≡ unshared_marks (ia s g b) (get_or notes (1024 + b) 0) → y ≡ bit_or of_g_lem x → Walking s f g notes of_f_lem y a (b + 1)
    walking_g {a} {b} n e q = record {
      found_f = v.found_f;
      found_g = gathered_one (marks_of_g s f g notes) g.count v.found_g n.there (e ∙ marks_unshared s g f o.f_sound n.there (n.nexts.of_g_lem.there n.there) (alone_g o w.stands n) (λ k. get_or notes (1024 + k) 0)) q;
      stands = standing_g o w.stands n;
    }
      where
        v : Walking s f g notes of_f_lem of_g_lem a b
        v = to_next s f g notes w n.nexts

    pub walking_both : {a b : ℕ} → NextOfBoth s f g i j a b → {x y p q : ℕ}
        → x ≡ shared_marks (ia s f a) (ia s g b) → y ≡ bit_or of_f_lem x
        → p ≡ shared_marks (ia s g b) (ia s f a) → q ≡ bit_or of_g_lem p
        → Walking s f g notes y q (a + 1) (b + 1)
    walking_both {a} {b} n e y d q = record {
      found_f = gathered_one (marks_of_f s f g notes) f.count v.found_f n.there_f (e ∙ marks_shared s f g o.g_sound n.there_f left_f n.there_g left_g (one_segment n) (λ k. get_or notes k 0)) y;
      found_g = gathered_one (marks_of_g s f g notes) g.count v.found_g n.there_g (d ∙ marks_shared s g f o.f_sound n.there_g left_g n.there_f left_f (sym (one_segment n)) (λ k. get_or notes (1024 + k) 0)) q;
      stands = standing_both o w.stands n;
    }
      where
        v : Walking s f g notes of_f_lem of_g_lem a b
        v = to_next s f g notes w n.nexts

        left_f : left_test s f a ≡ true
        left_f = n.nexts.of_f_lem.there n.there_f

        left_g : left_test s g b ≡ true
        left_g = n.nexts.of_g_lem.there n.there_g

    pub walked : Nexts s f g i j f.count g.count → (named of_f_lem ≡ classes_of_f s sc notes) × (named of_g_lem ≡ classes_of_g s sc notes)
    walked n =
        let v = to_next s f g notes w n in
        (ap named (gathered_all (marks_of_f s f g notes) f.count v.found_f (omega arith)) ∙ all_named s f g (λ k. get_or notes k 0), ap named (gathered_all (marks_of_g s f g notes) g.count v.found_g (omega arith)) ∙ all_named s g f (λ k. get_or notes (1024 + k) 0))
