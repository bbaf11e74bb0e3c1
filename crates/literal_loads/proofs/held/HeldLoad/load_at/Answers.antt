use Rattle.std.proofs.Common.{sym, ap, ◌∙◌}
use Rattle.std.proofs.lemmas.Slice.Eq.{bytes_eq-Decides}
use Rattle.input_values.specs.inputs.Shapes.{shape_tree}
use Rattle.literal_loads.proofs.held.HeldLoad.load_at.Goals as goal

pub returns-then-eq : goal.returns-then-eq
returns-then-eq c = λ e held t value.
    let name = (bytes_eq-Decides c.args.self.now.name.now c.args.name.now).0 (sym c.if-eq.ensures) in
    (held.everywhere (shape_tree c.args.shape.now) (sym (c.if-self-of.true ∙ c.innermost-of.ensures)) (sym (c.if-self-lists.true ∙ c.in_ok-lists.ensures)) t (ap e.values name ∙ value))
