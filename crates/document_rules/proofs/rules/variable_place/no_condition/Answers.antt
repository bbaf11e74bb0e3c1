use Rattle.std.proofs.Common.{ap, sym, ◌∙◌}
use Rattle.std.specs.Prelude.{not, option_map}
use Rattle.document_reader.specs.Trees.{variable_tree}
use Rattle.schema_rules.specs.First.{fault_where}
use Rattle.document_rules.specs.Rules.{no_condition}
use Rattle.document_rules.proofs.rules.variable_place.no_condition.Goals as goal

pub returns-in-Some : goal.returns-in-Some
returns-in-Some c = c.fault_where.ensures ∙ (ap (λ b. fault_where (not b) c.args.at) c.fits_boolean.ensures ∙ ap (no_condition c.args.at) (ap (option_map (λ v. variable_tree v.now)) (sym c.in-Some.is) ∙ c.variable_named.ensures))

pub returns-in-None : goal.returns-in-None
returns-in-None c = ap (no_condition c.args.at) (ap (option_map (λ v. variable_tree v.now)) (sym c.in-None.is) ∙ c.variable_named.ensures)
