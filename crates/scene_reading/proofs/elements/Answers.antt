-- The definition passes over the elements that were counted, and the record after them is no element that could follow, so it decides.
use Rattle.std.proofs.Common.{◌≡◌, ◌∙◌, ◌+◌, ◌<◌, ◌≤◌, sym, refl, ap, ℕ, Bool, zero, suc, true, false, List, eqb, Ok, Err, add-one, arith, ne_eqb, le_refl}
use Rattle.scene.specs.declared.Shape.{Shape}
use Rattle.scene.specs.declared.Kind.{Kind}
use Rattle.scene.specs.declared.Kind.TheVariants.{Element}
use Rattle.scene.specs.declared.Refusal.{Refusal}
use Rattle.scene.specs.Read.{most, place, record_at, stands_in, is_end}
use Rattle.scene.specs.Read.{CheckedObject}
use Rattle.scene.proofs.Outcomes.{handed_on}
use Rattle.scene.proofs.Passed.{passed}
use Rattle.scene.proofs.Taken.{layout, rest, record_of, element_kind, stops, ends_here, goes_on}
use Rattle.scene_reading.specs.Faultless.{Faultless}
use Rattle.scene_reading.proofs.elements.Goals as goal

not_full : (m : ℕ) → m < most → eqb m most ≡ false
not_full m h = ne_eqb m most (λ q. omega arith)

module _ (s : List ℕ) (k : Shape) (start n : ℕ) (counted : Faultless s k (start + 2) n) where
  -- the elements that were counted
  passed_over : (m : ℕ) → m ≤ n → rest s k start 0 ≡ rest s k start m
  passed_over zero h = refl
  passed_over (suc m) h = passed_over m (omega arith) ∙ (goes_on s k start m (omega (arith, counted.few)) (Element k) here refl).on ∙ rw (add-one m)
    where
      here : record_of s k start m ≡ Ok (Element k)
      here = rw (not_full m (omega (arith, counted.few))) (counted.each m (omega arith))

  -- after them a good record is the end
  is_end_lem : (j : Kind) → record_of s k start n ≡ Ok j → is_end j ≡ true
  is_end_lem j e = go (is_end j) refl
    where
      go : (b : Bool) → is_end j ≡ b → is_end j ≡ true
      go true q = q
      go false q = absurd (counted.no_more room one_more)
        where
          room : n < most
          room = (goes_on s k start n counted.few j e q).room

          one_more : record_at s (place (layout k start n) n) (stands_in k) false ≡ Ok (Element k)
          one_more =
              ap (record_at s (place (layout k start n) n) (stands_in k)) (sym (not_full n room))
              ∙ e
              ∙ ap Ok (element_kind k j (passed s (place (layout k start n) n) (stands_in k) (eqb n most) j e).allows q)

  refused : (r : Refusal) → record_of s k start n ≡ Err r → ◌≡◌ {A = CheckedObject} (Err r) (rest s k start 0)
  refused r e = sym (passed_over n (le_refl n) ∙ stops s k start n counted.few r e)

  taken : (j : Kind) → record_of s k start n ≡ Ok j → ◌≡◌ {A = CheckedObject} (Ok (layout k start n)) (rest s k start 0)
  taken j e = sym (passed_over n (le_refl n) ∙ ends_here s k start n counted.few j e (is_end_lem j e))

pub returns-in_err-element_record : goal.returns-in_err-element_record
returns-in_err-element_record c =
    let a = c.args in
    let r = c.in_err-element_record.field-0.0 in
    handed_on c.from_residual.result c.from_residual.ensures.1
    ∙ refused a.s.now a.shape a.start c.count-count.result c.count-count.ensures r
    (ap (λ (at : ℕ). record_at a.s.now at (stands_in a.shape) (eqb c.count-count.result most)) (sym c.place.ensures) ∙ sym c.element_record.ensures ∙ c.in_err-element_record.was)

pub returns : goal.returns
returns c =
    let a = c.args in
    taken a.s.now a.shape a.start c.count-count.result c.count-count.ensures c.in_ok-element_record.field-0
    (ap (λ (at : ℕ). record_at a.s.now at (stands_in a.shape) (eqb c.count-count.result most)) (sym c.place.ensures) ∙ sym c.element_record.ensures ∙ c.in_ok-element_record.was)
