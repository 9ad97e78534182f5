-- A row that closes up at place k, by what stands below it and from it on.
use Rattle.std.proofs.Common.{◌≡◌, ℕ, List, [], ◌∷◌, ◌++◌, ◌+◌, ◌-◌, ◌<◌, length, take, drop, sym, ap, ◌∙◌, append_assoc, add-one, remove, arith}
use Rattle.std.proofs.Math.Seq.{take-append_seam}
use Rattle.std.proofs.lemmas.Grind.{common_steps}
use Rattle.std.proofs.lemmas.List.{take-append-drop, drop_more}

pub closed : {X : Type 0} (row old : List X) (k : ℕ) (held value : X) → k < length old → take k row ≡ take k old → held ∷ drop k row ≡ drop k old ++ value ∷ []
    → row ≡ take k old ++ drop (k + 1) old ++ value ∷ []
closed row old k held value within below moved =
    sym (take-append-drop k row)
    ∙ ap (λ l. l ++ drop k row) below
    ∙ ap (λ l. take k old ++ l) (ap (drop 1) (moved ∙ ap (λ l. l ++ value ∷ []) (drop_more old k held within)))
    ∙ sym (append_assoc (take k old) (drop (k + 1) old) (value ∷ []))

-- with the value on its top taken off again
fewer : {X : Type 0} (old : List X) (k : ℕ) → k < length old → length (take k old ++ drop (k + 1) old) ≡ length old - 1
fewer old k within = grind (arith, common_steps)

pub uncovered : {X : Type 0} (row old : List X) (k : ℕ) (value : X) → k < length old → length row ≡ length old → row ≡ take k old ++ drop (k + 1) old ++ value ∷ []
    → take (length row - 1) row ≡ remove old k
uncovered row old k value within same e =
    ap (λ n. take (n - 1) row) same
    ∙ ap (take (length old - 1)) e
    ∙ ap (λ n. take n (take k old ++ drop (k + 1) old ++ value ∷ [])) (sym (fewer old k within))
    ∙ take-append_seam (take k old ++ drop (k + 1) old) (value ∷ [])
    ∙ ap (λ n. take k old ++ drop n old) (add-one k)
