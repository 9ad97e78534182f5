-- A note of F stands before those of G, and one of G after those of F.
use Rattle.std.proofs.Common.{◌≡◌, ◌∙◌, sym, ap, ◌+◌, ◌-◌, ◌++◌, length, set, arith, rules}
use Rattle.std.specs.Prelude.{map}
use Rattle.std.proofs.lemmas.List.{set-append_left, set-append_right, map-set, length-map}
use Rattle.sweep_notes.specs.Numbers.{note_number}
use Rattle.sweep_notes.proofs.Notes.write.Goals as goal

pub returns-then-first-clause-is : goal.returns-then-first-clause-is
returns-then-first-clause-is c =
    let i = c.self.inside in
    let f = map note_number i.of_f in
    let g = map note_number i.of_g in
    let k = c.args.k in
    let n = note_number c.args.note in
    let all : length c.self.inside.of_f ≡ 1024 = search rules in
    let room : length f ≡ 1024 = length-map c.self.inside.of_f note_number ∙ all in
    rw (c.if-first.true, ← c.self.view_is) (ap (λ l. l ++ g) (map-set note_number i.of_f k c.args.note) ∙ sym (set-append_left f g k n (omega (arith, room, c.requires))))

pub returns-else-first-clause-is : goal.returns-else-first-clause-is
returns-else-first-clause-is c =
    let i = c.self.inside in
    let f = map note_number i.of_f in
    let g = map note_number i.of_g in
    let k = c.args.k in
    let n = note_number c.args.note in
    let here : 1024 + k - 1024 ≡ k = omega arith in
    let all : length c.self.inside.of_f ≡ 1024 = search rules in
    let room : length f ≡ 1024 = length-map c.self.inside.of_f note_number ∙ all in
    rw (c.if-first.false, ← c.self.view_is)
    (ap (λ l. f ++ l) (map-set note_number i.of_g k c.args.note) ∙ sym (set-append_right f g 1024 (1024 + k) n room (omega arith) ∙ ap (λ x. f ++ set g x n) here))
