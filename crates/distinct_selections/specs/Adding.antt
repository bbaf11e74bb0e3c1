-- Selections that are put behind those that are kept.
use Rattle.std.specs.Prelude.{◌≡◌, ◌⊎◌, true, List, [], ◌∷◌, ◌++◌, map, Option}
use Rattle.std.specs.Borrow.{Bor}
use Rattle.gql_base.specs.ways.Reading.{Identifier}
use Rattle.gql_base.specs.parts.Arguments.{DirectiveTree}
use Rattle.gql_base.specs.parts.Values.{NamedValue}
use Rattle.gql_base.specs.parts.Trees.{named_value}
use Rattle.document_reader.specs.declared.trees.Field.{Field}
use Rattle.document_reader.specs.declared.trees.Fragment.{Fragment}
use Rattle.document_reader.specs.Trees.{names_of}
use Rattle.document_reader.specs.Documents.{SelectionTree, field_selection, fragment_spread, inline_fragment, SelectionTrees}
use Rattle.document_reader.specs.DocumentReading.{selections_from}
use Rattle.input_values.specs.coercion.Literals.{Environment}
use Rattle.document_rules.specs.Parts.{FragmentData, fragment_data}
use Rattle.plan_model.specs.Collecting.{is_included}
use Rattle.plan_model.specs.GivenAlike.{AreGivenSame}
use Rattle.plan_model.specs.Shortening.{HasSelection, AreShortened}
use Rattle.distinct_selections.specs.Alike.{IsAlike}

abbrev pub fragment_seen : Bor Fragment → FragmentData
fragment_seen f = fragment_data f.now

-- A field without directives and with these selections, to which the same arguments are given.
pub record IsFieldWith (values : Environment) (f : Field) (below : SelectionTrees) (copy : SelectionTree) : Type 0 where
  pub arguments : List NamedValue
  pub given : AreGivenSame values (map named_value f.arguments.items) arguments
  pub is : copy ≡ field_selection (names_of f.alias f.name) arguments [] below

-- One of the selections is written as this one.
abbrev pub IsRepeated : SelectionTree → List SelectionTree → Type 0
IsRepeated t kept = HasSelection (λ u. IsAlike t u) (selections_from kept)

-- The selection is put behind the others, or one that is written as it is stands there already.
abbrev pub KeepsOne : SelectionTree → List SelectionTree → List SelectionTree → Type 0
KeepsOne t old new = (IsRepeated t old × (new ≡ old)) ⊎ (new ≡ old ++ (t ∷ []))

-- Where some selections were shortened, they are with this one behind them.
abbrev pub AddsOne : Environment → SelectionTree → List SelectionTree → List SelectionTree → Type 0
AddsOne values s old new = (ss : List SelectionTree) → AreShortened values (selections_from ss) (selections_from old) → AreShortened values (selections_from (ss ++ (s ∷ []))) (selections_from new)

-- the same of a selection that isn't left out
abbrev pub AddsIncluded : Environment → SelectionTree → List SelectionTree → List SelectionTree → Type 0
AddsIncluded values s old new = is_included values s ≡ true → AddsOne values s old new

-- the same of a spread, whatever the values of variables are
abbrev pub AddsSpread : Identifier → List SelectionTree → List SelectionTree → Type 0
AddsSpread name old new = (values : Environment) (directives : List DirectiveTree) → AddsIncluded values (fragment_spread name directives) old new

abbrev pub AddsInline : Environment → Option Identifier → SelectionTrees → List SelectionTree → List SelectionTree → Type 0
AddsInline values on below old new = (directives : List DirectiveTree) → AddsIncluded values (inline_fragment on directives below) old new
