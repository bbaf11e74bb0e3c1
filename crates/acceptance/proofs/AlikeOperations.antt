-- What becomes of an operation depends on its tree and offset, and on what is seen of its document.
use Rattle.std.proofs.Common.{◌≡◌, ◌∙◌, ℕ, true, List, [], ◌∷◌, ◌++◌, map, Option, None, Some, refl, sym, ap, ap₂}
use Rattle.std.specs.Prelude.{slice_get, option_map, is_some, not, ◌&&◌}
use Rattle.std.proofs.lemmas.Option.{same_Some, slice_get-map}
use Rattle.gql_base.specs.declared.parts.trees.OperationKind.{OperationKind}
use Rattle.gql_base.specs.declared.parts.trees.OperationKind.TheVariants.{Query}
use Rattle.gql_base.specs.ways.Reading.{Identifier}
use Rattle.gql_base.specs.parts.Arguments.{DirectiveTree}
use Rattle.gql_base.specs.parts.Trees.{directive_tree}
use Rattle.document_reader.specs.declared.trees.Operation.{Operation}
use Rattle.document_reader.specs.declared.trees.Fragment.{Fragment}
use Rattle.document_reader.specs.declared.trees.Definition.{Definition}
use Rattle.document_reader.specs.Documents.{SelectionTrees, VariableTree, DefinitionTree, operation_tree, fragment_tree}
use Rattle.document_reader.specs.Trees.{maybe_identifier, variable_tree, set_tree, definition_tree}
use Rattle.serde_json.specs.Data.{Data}
use Rattle.input_values.specs.coercion.Literals.{Environment}
use Rattle.schema_rules.specs.First.{or_else, fault_where}
use Rattle.schema_model.specs.SchemaData.{SchemaData}
use Rattle.schema_model.specs.InputForms.{input_forms}
use Rattle.cost_directives.specs.Weights.{WeightsData}
use Rattle.variable_coercion.specs.Refusals.{all_in_order}
use Rattle.input_values.specs.inputs.Shapes.{shape_by}
use Rattle.variable_coercion.specs.Variables.{Declared, number_in, declared_of, variable_answer, variables_answer}
use Rattle.document_rules.specs.declared.rule.Rule.TheVariants.{RepeatedName, LoneAnonymous, Subscription, NoRoot}
use Rattle.document_rules.specs.Parts.{FragmentData, fragment_data, fragments_of}
use Rattle.document_rules.specs.Met.{Met, reached, before_reached, fragments_met}
use Rattle.document_rules.specs.Sites.{variable_site, operation_site, type_of_kind, sites_in, sites_of_met}
use Rattle.document_rules.specs.Rules.{is_subscription, is_mutation}
use Rattle.document_rules.specs.Checking.{Breach, breach, breach_of_sites, fragments_in, reached_by, breach_before_parts, first_broken}
use Rattle.plan_model.specs.Operations.{setting_of, root_position}
use Rattle.acceptance.proofs.AlikeDocuments.{Seen, seen_in, seen_of, seen_alike, same_fragments, same_repeated_name, same_lone_anonymous}

-- ---- the parts of an operation

abbrev kind_in : DefinitionTree → OperationKind
kind_in (operation_tree kind name variables directives below) = kind
kind_in (fragment_tree name on directives below) = Query

abbrev named_in : DefinitionTree → Option Identifier
named_in (operation_tree kind name variables directives below) = name
named_in (fragment_tree name on directives below) = None

abbrev variables_in : DefinitionTree → List VariableTree
variables_in (operation_tree kind name variables directives below) = variables
variables_in (fragment_tree name on directives below) = []

abbrev directives_in : DefinitionTree → List DirectiveTree
directives_in (operation_tree kind name variables directives below) = directives
directives_in (fragment_tree name on directives below) = directives

abbrev below_in : DefinitionTree → SelectionTrees
below_in (operation_tree kind name variables directives below) = below
below_in (fragment_tree name on directives below) = below

-- Their trees and their offsets are the same.
pub record AreAlike (o p : Operation) : Type 0 where
  pub kind : o.kind ≡ p.kind
  pub name : maybe_identifier o.name ≡ maybe_identifier p.name
  pub variables : map variable_tree o.variables.items ≡ map variable_tree p.variables.items
  pub directives : map directive_tree o.directives.items ≡ map directive_tree p.directives.items
  pub below : set_tree o.selections.items ≡ set_tree p.selections.items
  pub offset : o.at ≡ p.at

pub parts_alike : (o p : Operation) → seen_of o ≡ seen_of p → AreAlike o p
parts_alike o p same = record {
  kind = ap (λ (s : Seen). kind_in s.0) same;
  name = ap (λ (s : Seen). named_in s.0) same;
  variables = ap (λ (s : Seen). variables_in s.0) same;
  directives = ap (λ (s : Seen). directives_in s.0) same;
  below = ap (λ (s : Seen). below_in s.0) same;
  offset = same_Some o.at p.at (ap (λ (s : Seen). s.1) same);
}

-- ---- the rules

-- the rules on the parts of an operation, by its tree
parts_breach : SchemaData → List FragmentData → OperationKind → List VariableTree → List DirectiveTree → SelectionTrees → Option Breach
parts_breach s fragments kind variables directives below =
    breach_of_sites s fragments (reached fragments below) variables
    ((map variable_site variables ++ (operation_site variables directives ∷ sites_in s None (type_of_kind s kind) below)) ++ sites_of_met s fragments 0 (reached fragments below))

by_parts : (s : SchemaData) (fs gs : List FragmentData) (k j : OperationKind) (vs ws : List VariableTree) (ds es : List DirectiveTree) (b c : SelectionTrees) → fs ≡ gs → k ≡ j → vs ≡ ws → ds ≡ es → b ≡ c
    → parts_breach s fs k vs ds b ≡ parts_breach s gs j ws es c
by_parts s fs gs k j vs ws ds es b c fragments kind variables directives below = cc

before_alike : (s : SchemaData) (ds es : List Definition) (o p : Operation) → map seen_in ds ≡ map seen_in es → map definition_tree ds ≡ map definition_tree es → AreAlike o p → breach_before_parts s ds o ≡ breach_before_parts s es p
before_alike s ds es o p seen trees alike =
    ap₂ (λ x y. or_else (breach RepeatedName x) y) (same_repeated_name ds es seen trees)
    (ap₂ (λ x y. or_else (breach LoneAnonymous x) y) (same_lone_anonymous ds es seen)
    (ap₂ (λ k at. or_else (breach Subscription (fault_where (is_subscription k) at)) (breach NoRoot (fault_where (is_mutation k && not (is_some s.mutation)) at))) alike.kind alike.offset))

pub broken_alike : (s : SchemaData) (ds es : List Definition) (o p : Operation) → map seen_in ds ≡ map seen_in es → map definition_tree ds ≡ map definition_tree es → AreAlike o p → first_broken s ds o ≡ first_broken s es p
unfolding parts_breach
broken_alike s ds es o p seen trees alike =
    ap₂ or_else (before_alike s ds es o p seen trees alike)
    (by_parts s (fragments_in ds) (fragments_in es) o.kind p.kind _ _ _ _ (set_tree o.selections.items) (set_tree p.selections.items) (same_fragments ds es trees) alike.kind alike.variables alike.directives alike.below)

-- ---- the values of its variables

abbrev declared_in : SchemaData → VariableTree → Declared
declared_in s v = record { name = v.0.0; shape = shape_by (number_in s) true v.1; default = v.2 }

pub values_alike : (s : SchemaData) (given : Data) (o p : Operation) → AreAlike o p → variables_answer s o.variables.items given ≡ variables_answer s p.variables.items given
values_alike s given o p alike =
    ap (all_in_order (variable_answer (input_forms s) given)) (seen_alike (declared_of s) variable_tree (declared_in s) (λ v. refl) o.variables.items p.variables.items alike.variables)

-- ---- what it is planned by

abbrev before_data : Option FragmentData → List FragmentData → List FragmentData
before_data None others = others
before_data (Some f) others = f ∷ others

abbrev data_met : List FragmentData → List Met → List FragmentData
data_met fragments [] = []
data_met fragments (m ∷ met) = before_data (slice_get fragments m.fragment) (data_met fragments met)

met_by_data : (fs : List Fragment) (met : List Met) → map fragment_data (fragments_met fs met) ≡ data_met (map fragment_data fs) met
met_by_data fs [] = refl
met_by_data fs (m ∷ met) =
    in_front (slice_get fs m.fragment) (fragments_met fs met)
    ∙ ap₂ before_data (sym (slice_get-map fragment_data fs m.fragment)) (met_by_data fs met)
  where
    in_front : (f : Option Fragment) (others : List Fragment) → map fragment_data (before_reached f others) ≡ before_data (option_map fragment_data f) (map fragment_data others)
    in_front None others = refl
    in_front (Some f) others = refl

pub setting_alike : (s : SchemaData) (w : WeightsData) (values : Environment) (ds es : List Definition) (o p : Operation) → map definition_tree ds ≡ map definition_tree es → AreAlike o p
    → setting_of s w values ds o ≡ setting_of s w values es p
setting_alike s w values ds es o p trees alike = ap (λ fragments. record { schema = s; weights = w; values = values; fragments = fragments }) same
  where
    same : map fragment_data (fragments_met (fragments_of ds) (reached_by ds o)) ≡ map fragment_data (fragments_met (fragments_of es) (reached_by es p))
    same = met_by_data (fragments_of ds) (reached_by ds o)
        ∙ (ap₂ (λ fs below. data_met fs (reached fs below)) (same_fragments ds es trees) alike.below ∙ sym (met_by_data (fragments_of es) (reached_by es p)))

pub position_alike : (root : ℕ) (o p : Operation) → AreAlike o p → root_position root o ≡ root_position root p
position_alike root o p alike = ap (λ below. record { selections = (Some root, below) ∷ []; handed = None }) alike.below
