use Rattle.std.proofs.Common.{map, sym, ap, ◌∙◌}
use Rattle.gql_base.specs.parts.Trees.{identifier_of, directive_tree}
use Rattle.document_reader.specs.Trees.{selection_tree}
use Rattle.document_reader.proofs.PrintingSteps.{tree_of_spread}
use Rattle.variable_coercion.specs.Calls.{environment}
use Rattle.distinct_selections.proofs.IncludedSelections.{spread_told}
use Rattle.collected_fields.proofs.alone.spread_in.Goals as goal

pub returns-then-is_included : goal.returns-then-is_included
returns-then-is_included c = record {
  written = identifier_of c.in-Spread.name;
  directives = map directive_tree c.in-Spread.directives.items;
  spread = ap selection_tree c.in-Spread.is ∙ tree_of_spread c.in-Spread.name c.in-Spread.directives;
  named = sym c.as_str.ensures;
  included = spread_told (environment c.args.variables.now) (identifier_of c.in-Spread.name) c.in-Spread.directives.items c.as_slice.result.now c.is_included.result c.is_included.ensures c.as_slice.ensures.value ∙ c.if-is_included.true;
}
