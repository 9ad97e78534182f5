-- The keys that are looked at are the row, which rises.
use Rattle.std.proofs.Common.{◌≡◌, List, ℕ, ◌-◌, ◌<◌, Result, length, get_or, ◌∙◌, ap, sym, subst, T, arith}
use Rattle.std.specs.declared.cmp.Ordering.{Ordering}
use Rattle.std.specs.declared.cmp.Ordering.TheVariants.{Less}
use Rattle.std.specs.Ordering.{is_lt}
use Rattle.std.specs.Cmp.{IsTotalOrder}
use Rattle.std.specs.List.Sorted.{IsSearchInRange, IsBinarySearchResult}
use Rattle.std.specs.Result.{MatchResult}
use Rattle.whole.proofs.Logic.{is_true, Sorted}
use Rattle.scene_written.specs.Arranged.{insert}
use Rattle.wkb_rows.specs.Rows.{is_below, GoesTo}
use Rattle.wkb_rows.proofs.Placing.{less, below_is, at_end, searched}
use Rattle.wkb_rows.proofs.OrderedRow.find.Goals as goal

module _ {K : Type 0} {cmp : K → K → Ordering} (o : IsTotalOrder cmp) (a : K) {l kept row : List K} (looked : l ≡ kept) (viewed : kept ≡ row) (s : Sorted (less o) kept) where
  rises : Sorted (less o) l
  rises = subst (Sorted (less o)) (sym looked) s

  after_last : (last : K) → 0 < length l → last ≡ get_or l (length l - 1) last → T (is_below cmp last a) → GoesTo cmp a row (length l)
  after_last last h e t =
      subst (λ r. GoesTo cmp a r (length l)) (looked ∙ viewed)
      (omega arith, at_end o a rises last h (subst (λ b. cmp b a ≡ Less) e (below_is o t)))

  there_or_place : (r : Result ℕ ℕ) → IsSearchInRange r (length l) → IsBinarySearchResult (λ b. cmp b a) l r → MatchResult r (λ _. insert (is_below cmp) a row ≡ row) (GoesTo cmp a row)
  there_or_place r h e = subst (λ q. MatchResult r (λ _. insert (is_below cmp) a q ≡ q) (GoesTo cmp a q)) (looked ∙ viewed) (searched o a rises r h e)

pub returns-in-Some : goal.returns-in-Some
returns-in-Some g c =
    let i = c.in-Some.ensures.item in
    let test = c.is_lt.ensures ∙ ap is_lt c.cmp.ensures in
    after_last g.met.K.Ord.total c.args.key.now c.as_slice-keys.ensures.value c.self.view_is c.self.invariant c.in-Some.last.now (i.3).0 i.1 (is_true _ (sym test ∙ c.if-is_lt.true))

pub returns-in_default : goal.returns-in_default
returns-in_default g c =
    there_or_place g.met.K.Ord.total c.args.key.now c.as_slice-keys.ensures.value c.self.view_is c.self.invariant c.binary_search.result c.binary_search.ensures.bound
    c.binary_search.ensures.position
