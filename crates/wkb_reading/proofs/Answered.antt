-- The answer by its cases: a fault of the file, too many elements, a refusal of 01's checks, and the buffer.
use Rattle.std.proofs.Common.{Result, Ok, Err, ℕ, ◌≡◌, Bool, true, false, cond, List, length, ltb, refl, sym, ap, ◌∙◌}
use Rattle.plane.specs.Plane.{Object}
use Rattle.scene.specs.Read.{most, CheckedObject}
use Rattle.scene.specs.Conditions.{check_object}
use Rattle.wkb_grammar.specs.declared.Fault.{Fault}
use Rattle.wkb_grammar.specs.Fields.{type_at}
use Rattle.wkb_grammar.specs.Grammar.{Read, got, bad, outcome, Row, file}
use Rattle.wkb_gathering.specs.Gathers.{parts_of}
use Rattle.wkb_reading.specs.declared.ReadFault.{ReadFault}
use Rattle.wkb_reading.specs.declared.ReadFault.TheVariants.{Bytes, TooMany, Refused}
use Rattle.wkb_reading.specs.Reading.{object_of, elements_in, bytes_in, checked_bytes, Makes, ReadAnswer, handed, fitted, filled, file_bytes, read_object, read_file, buffer_after}

-- the answer, and the buffer after the call
abbrev pub Answers : List ℕ → List ℕ → ReadAnswer → List ℕ → Type 0
Answers s before r after = (r ≡ read_file s (length before)) × (after ≡ buffer_after s before)

module _ {A : Type 0} where
  pub stopped : (r : Read A) {f : Fault} → outcome r ≡ Err f → r ≡ bad f
  stopped (got a at) e = cc
  stopped (bad g) e = ap bad (cc)

  pub reached : (r : Read A) {end : ℕ} → outcome r ≡ Ok end → (a : A) × (r ≡ got a end)
  reached (got a at) e = (a, ap (got a) (cc))
  reached (bad f) e = cc

module _ (s before : List ℕ) where
  -- whatever is wrong, the buffer is as it was
  refused : {e : ReadFault} → read_file s (length before) ≡ Err e → Answers s before (Err e) before
  unfolding buffer_after
  refused q = (sym q, rw q)

  pub at_fault : (f : Fault) → outcome (file s) ≡ Err f → Answers s before (Err (Bytes f)) before
  unfolding read_file
  at_fault f e = refused (rw (stopped (file s) e))

  module _ (parts : List (List Row)) (end : ℕ) (e : file s ≡ got parts end) where
    abbrev o : Object
    o = object_of (type_at s 0) (parts_of s)

    its_object : read_file s (length before) ≡ read_object o (length before)
    unfolding read_file
    its_object = rw e

    bytes_are : file_bytes (type_at s 0) (file s) ≡ bytes_in o
    bytes_are = rw e

    -- ---- 20, or a refusal of 01's checks
    pub given_up : (f : ReadFault) → Makes o (Err f) → Answers s before (Err f) before
    unfolding read_object
    given_up f m = refused (its_object ∙ go (ltb most (elements_in o)) (check_object (bytes_in o)) m)
      where
        go : (b : Bool) (k : CheckedObject) → ◌≡◌ {A = Result (List ℕ) ReadFault} (Err f) (cond b (Err TooMany) (checked_bytes (bytes_in o) k))
            → cond b (Err TooMany) (fitted (bytes_in o) (length before) k) ≡ Err f
        go true k q = let same : f ≡ TooMany = cc in ap Err (sym same)
        go false (Err r) q = let same : f ≡ Refused r.reason = cc in ap Err (sym same)
        go false (Ok l) q = cc

    -- ---- 21, or the buffer is filled
    module _ (bytes : List ℕ) (m : Makes o (Ok bytes)) where
      made : (bytes ≡ bytes_in o) × (read_object o (length before) ≡ handed (bytes_in o) (length before))
      unfolding read_object
      made = go (ltb most (elements_in o)) (check_object (bytes_in o)) m
        where
          go : (b : Bool) (k : CheckedObject) → ◌≡◌ {A = Result (List ℕ) ReadFault} (Ok bytes) (cond b (Err TooMany) (checked_bytes (bytes_in o) k))
              → (bytes ≡ bytes_in o) × (cond b (Err TooMany) (fitted (bytes_in o) (length before) k) ≡ handed (bytes_in o) (length before))
          go true k q = cc
          go false (Err r) q = cc
          go false (Ok l) q = (cc, refl)

      pub handed_over : (r : ReadAnswer) (after : List ℕ) → r ≡ handed bytes (length before) → after ≡ filled bytes r before → Answers s before r after
      unfolding buffer_after
      handed_over r after q w = (q ∙ sym is, w ∙ ap (λ x. filled bytes x before) (q ∙ sym is) ∙ sym buffer_is)
        where
          is : read_file s (length before) ≡ handed bytes (length before)
          is = its_object ∙ made.1 ∙ ap (λ (b : List ℕ). handed b (length before)) (sym made.0)

          buffer_is : buffer_after s before ≡ filled bytes (read_file s (length before)) before
          buffer_is = ap (λ (b : List ℕ). filled b (read_file s (length before)) before) (bytes_are ∙ sym made.0)
