-- G's notes stand after those of F.
use Rattle.std.proofs.Common.{◌≡◌, ◌∙◌, sym, ap, ◌+◌, ◌-◌, length, get_or, arith, rules}
use Rattle.std.specs.Prelude.{map}
use Rattle.std.proofs.lemmas.List.{get_or-append_right, length-map}
use Rattle.std.proofs.Math.ListN.{get_or-map}
use Rattle.sweep_notes.specs.declared.Note.TheVariants.{Even}
use Rattle.sweep_notes.specs.Numbers.{note_number}
use Rattle.sweep_notes.proofs.Notes.of.Goals as goal

pub returns-else-first : goal.returns-else-first
returns-else-first c =
    let f = map note_number c.self.inside.of_f in
    let g = map note_number c.self.inside.of_g in
    let k = c.args.k in
    let here : 1024 + k - 1024 ≡ k = omega arith in
    let all : length c.self.inside.of_f ≡ 1024 = search rules in
    let room : length f ≡ 1024 = length-map c.self.inside.of_f note_number ∙ all in
    rw (c.if-first.false, ← c.self.view_is)
    (sym (get_or-append_right f g 1024 (1024 + k) 0 room (omega arith) ∙ ap (λ n. get_or g n 0) here ∙ get_or-map note_number c.self.inside.of_g k Even))
