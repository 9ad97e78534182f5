-- Type, emptiness, box and boundary, each as the elements have it.
use Rattle.std.proofs.Common.{Bool, not, sym, ap₂, ◌∙◌}
use Rattle.scene.specs.declared.Shape.{Shape}
use Rattle.flags.specs.Flags.{pack}
use Rattle.flags.specs.Elements.{elements_of}
use Rattle.summary.specs.Summary.{flags_f, has_boundary}
use Rattle.check_verdict.proofs.Laws.{sound_object}
use Rattle.summary_making.proofs.Summarized.{shape_is, empty_is}
use Rattle.summary_making.proofs.made.Goals as goal

pub returns : goal.returns
returns c =
    let s = c.args.o.bytes.now in
    let l = c.args.o.layout in
    let type = shape_is s l in
    let empty = empty_is s l (sound_object s l c.requires.0) in
    λ i. record {
      shape = sym type i;
      empty = sym empty i;
      bounds = c.bounds_in.ensures i;
      boundary = c.has_boundary.ensures (elements_of s l) type empty (c.requires.1 ∙ ap₂ (λ (k : Shape) (e : Bool). pack (flags_f k k (not e) (has_boundary (elements_of s l)))) type empty) i;
    }
