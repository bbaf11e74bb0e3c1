use Rattle.std.proofs.Common.{sym, ap, ap₂, ◌∙◌, map}
use Rattle.std.specs.Prelude.{Some}
use Rattle.std.proofs.lemmas.Result.{IfOk-weaker}
use Rattle.document_reader.specs.Trees.{variable_tree}
use Rattle.schema_model.specs.SchemaViews.{schema_data}
use Rattle.document_rules.specs.Sites.{all_sites}
use Rattle.document_rules.specs.Checking.{breach_of_sites}
use Rattle.document_rules.specs.Views.{declared_tree, defined_data, met_data, site_data}
use Rattle.document_rules.proofs.checking.breach_of_parts.Goals as goal

pub returns : goal.returns
returns c = λ root. IfOk-weaker c.breach_of_sites.result _ _ (λ b e. e ∙ ap₂ (λ vs ss. breach_of_sites (schema_data c.args.schema.now) (map defined_data c.args.fragments.now.items.items) (map met_data c.args.met.now) vs ss)
    (ap (map declared_tree) c.in_ok-variables.ensures ∙ (c.in_ok-declared.ensures ∙ ap (map variable_tree) c.as_slice.ensures.value))
    (ap (map site_data) c.as_slice-2.ensures.value ∙ (c.in_ok-sites.ensures ∙ (ap (λ l. all_sites (schema_data c.args.schema.now) (Some c.args.root.number) (map defined_data l) (map met_data c.args.met.now) c.args.operation.now) c.items.ensures
    ∙ ap (λ r. all_sites (schema_data c.args.schema.now) r (map defined_data c.args.fragments.now.items.items) (map met_data c.args.met.now) c.args.operation.now) (sym root))))) c.breach_of_sites.ensures
