-- A document without offsets loses none.
use Rattle.std.proofs.Common.{◌≡◌, List, [], ◌∷◌, Option, None, Some, refl, ap}
use Rattle.std.specs.Prelude.{map}
use Rattle.gql_base.specs.ways.Reading.{Identifier}
use Rattle.gql_base.specs.parts.Values.{ValueTree, NamedValue}
use Rattle.gql_base.specs.parts.Arguments.{DirectiveTree}
use Rattle.document_reader.specs.Documents.{FieldNames, SelectionTree, field_selection, fragment_spread, inline_fragment, SelectionTrees, no_selection, selection_then, VariableTree, DefinitionTree, operation_tree, fragment_tree}
use Rattle.document_reader.specs.PlacelessDocuments.{maybe_name_placeless, names_placeless, argument_placeless, directive_placeless, selection_placeless, selections_placeless, default_placeless, variable_placeless, definition_placeless, document_placeless}
use Rattle.gql_base.proofs.PrintingLaws.ReadAgain.{placeless_twice, type_placeless_twice}

-- what has no offsets loses none

all_twice : {A : Type 0} (f : A → A) → ((a : A) → f (f a) ≡ f a) → (l : List A) → map f (map f l) ≡ map f l
all_twice f twice [] = refl
all_twice f twice (a ∷ l) = cc (twice a, all_twice f twice l)

maybe_name_twice : (n : Option Identifier) → maybe_name_placeless (maybe_name_placeless n) ≡ maybe_name_placeless n
maybe_name_twice None = refl
maybe_name_twice (Some n) = refl

names_twice : (n : FieldNames) → names_placeless (names_placeless n) ≡ names_placeless n
names_twice n = ap (λ (m : Option Identifier). ((n.0.0, 0), m)) (maybe_name_twice n.1)

argument_twice : (a : NamedValue) → argument_placeless (argument_placeless a) ≡ argument_placeless a
argument_twice a = ap (λ (t : ValueTree). ((a.0.0, 0), t)) (placeless_twice a.1)

arguments_twice : (l : List NamedValue) → map argument_placeless (map argument_placeless l) ≡ map argument_placeless l
arguments_twice l = all_twice argument_placeless argument_twice l

directive_twice : (d : DirectiveTree) → directive_placeless (directive_placeless d) ≡ directive_placeless d
directive_twice d = ap (λ (l : List NamedValue). ((d.0.0, 0), l)) (arguments_twice d.1)

directives_twice : (l : List DirectiveTree) → map directive_placeless (map directive_placeless l) ≡ map directive_placeless l
directives_twice l = all_twice directive_placeless directive_twice l

mutual
  unfolding selection_placeless

  selection_twice : (s : SelectionTree) → selection_placeless (selection_placeless s) ≡ selection_placeless s
  selection_twice (field_selection names arguments directives below) = cc (names_twice names, arguments_twice arguments, directives_twice directives, selections_twice below)
  selection_twice (fragment_spread name directives) = ap (fragment_spread (name.0, 0)) (directives_twice directives)
  selection_twice (inline_fragment on directives below) = cc (maybe_name_twice on, directives_twice directives, selections_twice below)

  selections_twice : (ss : SelectionTrees) → selections_placeless (selections_placeless ss) ≡ selections_placeless ss
  selections_twice no_selection = refl
  selections_twice (selection_then s others) = cc (selection_twice s, selections_twice others)

default_twice : (v : Option ValueTree) → default_placeless (default_placeless v) ≡ default_placeless v
default_twice None = refl
default_twice (Some v) = ap (λ (t : ValueTree). Some t) (placeless_twice v)

variable_twice : (v : VariableTree) → variable_placeless (variable_placeless v) ≡ variable_placeless v
variable_twice v = cc (type_placeless_twice v.1, default_twice v.2, directives_twice v.3)

definition_twice : (t : DefinitionTree) → definition_placeless (definition_placeless t) ≡ definition_placeless t
definition_twice (operation_tree kind name variables directives below) = cc (maybe_name_twice name, all_twice variable_placeless variable_twice variables, directives_twice directives, selections_twice below)
definition_twice (fragment_tree name on directives below) = cc (directives_twice directives, selections_twice below)

pub document_placeless_twice : (ts : List DefinitionTree) → document_placeless (document_placeless ts) ≡ document_placeless ts
document_placeless_twice ts = all_twice definition_placeless definition_twice ts
