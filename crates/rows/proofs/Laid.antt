-- A row over whose first values those of another row are laid.
use Rattle.std.proofs.Common.{◌≡◌, ℕ, List, [], ◌∷◌, ◌++◌, ◌+◌, ◌-◌, ◌<◌, ◌≤◌, length, take, drop, set, get_or, sym, ap, ◌∙◌, append_assoc, arith}
use Rattle.std.proofs.Math.Seq.{set-append_seam}
use Rattle.std.proofs.lemmas.Grind.{common_steps}
use Rattle.std.proofs.lemmas.List.{take_more, drop_more}

module _ {X : Type 0} (values old : List X) (m : ℕ) (next : m < length values) (room : length values ≤ length old) where
  there : length (take m values) ≡ m
  there = grind (arith, common_steps)

  one_more : (held : X) → held ≡ get_or values m held → set (take m values ++ drop m old) m held ≡ take (m + 1) values ++ drop (m + 1) old
  one_more held is =
      ap (λ n. set (take m values ++ drop m old) n held) (sym there)
      ∙ ap (λ l. set (take m values ++ l) (length (take m values)) held) (drop_more old m held (omega (arith, next, room)))
      ∙ set-append_seam (take m values) (get_or old m held) (drop (m + 1) old) held
      ∙ sym (append_assoc (take m values) (held ∷ []) (drop (m + 1) old))
      ∙ ap (λ l. l ++ drop (m + 1) old) (ap (λ x. take m values ++ x ∷ []) is ∙ sym (take_more values m held next))

-- with the value before i in hand
pub laid : {X : Type 0} (values old row : List X) (i : ℕ) (held : X) → 1 ≤ i → i ≤ length values → length values ≤ length old
    → row ≡ take (i - 1) values ++ drop (i - 1) old → held ≡ get_or values (i - 1) held → set row (i - 1) held ≡ take i values ++ drop i old
laid values old row i held some within room so_far in_hand =
    let above : i - 1 + 1 ≡ i = omega (arith, some) in
    ap (λ l. set l (i - 1) held) so_far ∙ one_more values old (i - 1) (omega (arith, some, within)) room held in_hand ∙ ap (λ n. take n values ++ drop n old) above
