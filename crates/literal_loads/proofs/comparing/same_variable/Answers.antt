use Rattle.std.proofs.Common.{sym, ◌∙◌}
use Rattle.std.proofs.lemmas.Slice.Eq.{bytes_eq-Decides}
use Rattle.literal_loads.proofs.WrittenPlaces.{alike_variables}
use Rattle.literal_loads.proofs.comparing.same_variable.Goals as goal

pub returns-in-Var-other : goal.returns-in-Var-other
returns-in-Var-other c = λ same.
    let texts = (bytes_eq-Decides c.as_str.result.now c.as_str-in-Var-other.result.now).0 (sym c.eq.ensures ∙ same) in
    alike_variables c.args.value.now c.args.other.now c.in-Var.name c.in-Var-other.same c.in-Var.is c.in-Var-other.is (sym c.as_str.ensures ∙ (texts ∙ c.as_str-in-Var-other.ensures))
