-- Selections that stay by their directives.
use Rattle.std.proofs.Common.{◌≡◌, List, map, Bool, not, Option, sym, ap, ◌∙◌}
use Rattle.std.specs.List.{list_any}
use Rattle.gql_base.specs.declared.parts.trees.Directive.{Directive}
use Rattle.gql_base.specs.ways.Reading.{Identifier}
use Rattle.gql_base.specs.parts.Trees.{directive_tree}
use Rattle.document_reader.specs.declared.trees.Field.{Field}
use Rattle.document_reader.specs.Documents.{SelectionTrees, fragment_spread, inline_fragment}
use Rattle.document_reader.specs.Trees.{field_tree}
use Rattle.document_reader.proofs.PrintingSteps.{open_field}
use Rattle.input_values.specs.coercion.Literals.{Environment}
use Rattle.plan_model.specs.Collecting.{is_included, leaves_out}

-- what is told of the directives of a selection
abbrev pub TellsIncluded : Environment → List Directive → Bool → Type 0
TellsIncluded values directives b = b ≡ not (list_any (leaves_out values) (map directive_tree directives))

pub field_told : (values : Environment) (f : Field) (given : List Directive) (b : Bool) → TellsIncluded values given b → given ≡ f.directives.items → is_included values (field_tree f) ≡ b
unfolding is_included
field_told values f given b told same = ap (is_included values) (open_field f) ∙ (ap (λ ds. not (list_any (leaves_out values) (map directive_tree ds))) (sym same) ∙ sym told)

pub spread_told : (values : Environment) (name : Identifier) (directives given : List Directive) (b : Bool) → TellsIncluded values given b → given ≡ directives → is_included values (fragment_spread name (map directive_tree directives)) ≡ b
unfolding is_included
spread_told values name directives given b told same = ap (λ ds. not (list_any (leaves_out values) (map directive_tree ds))) (sym same) ∙ sym told

pub inline_told : (values : Environment) (on : Option Identifier) (directives given : List Directive) (below : SelectionTrees) (b : Bool) → TellsIncluded values given b → given ≡ directives → is_included values (inline_fragment on (map directive_tree directives) below) ≡ b
unfolding is_included
inline_told values on directives given below b told same = ap (λ ds. not (list_any (leaves_out values) (map directive_tree ds))) (sym same) ∙ sym told
