use Rattle.std.proofs.Common.{sym, ap, ◌∙◌, map}
use Rattle.std.specs.Prelude.{not, option_map}
use Rattle.gql_base.specs.names.Names.{first_of_name}
use Rattle.document_reader.specs.Trees.{variable_tree}
use Rattle.schema_rules.specs.First.{fault_where}
use Rattle.schema_model.specs.SchemaViews.{schema_data}
use Rattle.document_rules.specs.Rules.{variable_name, misplaced_variable}
use Rattle.document_rules.specs.Views.{declared_tree, use_at}
use Rattle.document_rules.proofs.rules.variable_place.misplaced.Goals as goal

pub returns-in-Some : goal.returns-in-Some
returns-in-Some c = c.fault_where.ensures ∙ (ap (λ b. fault_where (not b) c.args.name.now.at) (c.is_usable-usable.ensures c.args.name.now)
    ∙ ap (misplaced_variable (schema_data c.args.rule.now.schema.now) (use_at c.args.name.now c.args.place.now c.args.has_default)) (ap (option_map (λ v. variable_tree v.now)) (sym c.in-Some.is) ∙ (c.variable_named.ensures ∙ ap (first_of_name variable_name (map declared_tree c.args.rule.now.variables.now.items.items)) c.as_str.ensures)))
