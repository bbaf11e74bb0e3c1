use Rattle.std.proofs.Common.{refl, sym, ap, ap₂, ◌∙◌, map}
use Rattle.document_reader.specs.Trees.{set_tree}
use Rattle.schema_model.specs.SchemaViews.{schema_data}
use Rattle.document_rules.specs.Parts.{fragment_data, fragments_of}
use Rattle.document_rules.specs.Met.{reached, fragments_met}
use Rattle.document_rules.specs.Checking.{breach_of_parts}
use Rattle.document_rules.specs.Views.{defined_fragment, defined_data, met_data}
use Rattle.document_rules.proofs.Lists.{map_twice}
use Rattle.document_rules.proofs.checking.check_parts.Goals as goal

pub returns-in-Some : goal.returns-in-Some
returns-in-Some c = λ root.
    let fragments = ap (map defined_data) c.in_ok-fragments.ensures ∙ (sym (map_twice fragment_data defined_fragment c.in_ok-defined.defined.items) ∙ ap (map fragment_data) (c.in_ok-defined.ensures ∙ ap fragments_of c.as_slice.ensures.value)) in
    let met = ap (map met_data) c.as_slice-3.ensures.value ∙ (c.in_ok-met.ensures ∙ ap₂ reached fragments (ap set_tree c.as_slice-2.ensures.value)) in
    sym (c.in_ok-rule.ensures root ∙ ap₂ (λ f m. breach_of_parts (schema_data c.args.schema.now) f c.args.operation.now m) fragments met) ∙ c.in-Some.is

pub returns : goal.returns
returns c = λ root.
    let defined = c.in_ok-defined.ensures ∙ ap fragments_of c.as_slice.ensures.value in
    let fragments = ap (map defined_data) c.in_ok-fragments.ensures ∙ (sym (map_twice fragment_data defined_fragment c.in_ok-defined.defined.items) ∙ ap (map fragment_data) defined) in
    let reaches = c.in_ok-met.ensures ∙ ap₂ reached fragments (ap set_tree c.as_slice-2.ensures.value) in (
      sym (c.in_ok-rule.ensures root ∙ ap₂ (λ f m. breach_of_parts (schema_data c.args.schema.now) f c.args.operation.now m) fragments (ap (map met_data) c.as_slice-3.ensures.value ∙ reaches)) ∙ c.in-None.is,
      record {
        document = refl;
        operation = refl;
        fragments = c.in_ok-fragments_met-in-None.ensures ∙ ap₂ fragments_met (ap (map defined_fragment) (c.items.ensures ∙ c.in_ok-fragments.ensures) ∙ defined) (ap (map met_data) c.as_slice-in-None.ensures.value ∙ reaches);
        root = root;
      },
    )
