-- Which rule is broken first, and what the check of an operation answers.
use Rattle.std.specs.Prelude.{IfOk, ◌≡◌, ℕ, List, [], ◌∷◌, map, Option, None, Some, Result, Ok, Err}
use Rattle.document_reader.specs.declared.trees.Definition.{Definition}
use Rattle.document_reader.specs.declared.trees.Operation.{Operation}
use Rattle.document_reader.specs.Documents.{VariableTree}
use Rattle.document_reader.specs.Trees.{variable_tree, set_tree}
use Rattle.schema_rules.specs.First.{or_else, first_of}
use Rattle.schema_model.specs.SchemaData.{SchemaData}
use Rattle.document_rules.specs.declared.rule.Rule.{Rule}
use Rattle.document_rules.specs.declared.rule.Rule.TheVariants.{RepeatedName, LoneAnonymous, Subscription, NoRoot, UnknownFragment, FragmentCycle, FragmentOn, UnknownDirective, CustomDirective, DirectiveUse, Introspection, UnknownField, LeafWithSelection, CompositeWithout, RepeatedVariable, VariableType, UndefinedVariable, UnknownArgument, RepeatedArgument, VariablePlace}
use Rattle.document_rules.specs.declared.rule.RuleFault.{RuleFault}
use Rattle.document_rules.specs.declared.rule.RuleFault.TheVariants.{Broken, Memory}
use Rattle.document_rules.specs.declared.checking.Checked.{Checked}
use Rattle.document_rules.specs.Parts.{FragmentData, fragment_data, fragments_of, operation_at}
use Rattle.document_rules.specs.Met.{Met, reached, fragments_met}
use Rattle.document_rules.specs.Sites.{Site, type_of_kind, all_sites}
use Rattle.document_rules.specs.Rules.{repeated_name, lone_anonymous, subscription, no_root, unknown_fragment, fragment_cycle, fragment_on, unknown_directive, custom_directive, directive_use, introspection, unknown_field, leaf_with_selection, composite_without, repeated_variable, variable_type, undefined_variable, unknown_argument, repeated_argument, variable_place}

-- a rule that is broken, and where
abbrev pub Breach : Type 0
Breach = Rule × ℕ

abbrev pub breach : Rule → Option ℕ → Option Breach
breach rule None = None
breach rule (Some at) = Some (rule, at)

-- a rule with where a part breaks it
abbrev pub SiteRule : Type 0
SiteRule = Rule × (Site → Option ℕ)

-- The first of these rules that is broken, and the first place at which it is.
abbrev pub first_breach : List SiteRule → List Site → Option Breach
first_breach [] sites = None
first_breach (r ∷ rules) sites = or_else (breach r.0 (first_of r.1 sites)) (first_breach rules sites)

-- The rules in their order.

abbrev pub rules_of_fragments : SchemaData → List FragmentData → List Met → List SiteRule
rules_of_fragments s fragments met = (UnknownFragment, unknown_fragment fragments) ∷ (FragmentCycle, fragment_cycle fragments met) ∷ (FragmentOn, fragment_on s) ∷ []

abbrev pub rules_of_directives : SchemaData → List SiteRule
rules_of_directives s = (UnknownDirective, unknown_directive s) ∷ (CustomDirective, custom_directive s) ∷ (DirectiveUse, directive_use) ∷ []

abbrev pub rules_of_fields : SchemaData → List SiteRule
rules_of_fields s = (Introspection, introspection s) ∷ (UnknownField, unknown_field) ∷ (LeafWithSelection, leaf_with_selection s) ∷ (CompositeWithout, composite_without s) ∷ []

abbrev pub rules_of_variables : SchemaData → List VariableTree → List SiteRule
rules_of_variables s variables = (RepeatedVariable, repeated_variable) ∷ (VariableType, variable_type s) ∷ (UndefinedVariable, undefined_variable variables) ∷ []

abbrev pub rules_of_arguments : SchemaData → List VariableTree → List SiteRule
rules_of_arguments s variables = (UnknownArgument, unknown_argument s) ∷ (RepeatedArgument, repeated_argument) ∷ (VariablePlace, variable_place s variables) ∷ []

-- the first that is broken of the rules on the parts of an operation
abbrev pub breach_of_sites : SchemaData → List FragmentData → List Met → List VariableTree → List Site → Option Breach
breach_of_sites s fragments met variables sites =
    or_else (first_breach (rules_of_fragments s fragments met) sites)
    (or_else (first_breach (rules_of_directives s) sites)
    (or_else (first_breach (rules_of_fields s) sites)
    (or_else (first_breach (rules_of_variables s variables) sites)
    (first_breach (rules_of_arguments s variables) sites))))

abbrev pub breach_of_parts : SchemaData → List FragmentData → Operation → List Met → Option Breach
breach_of_parts s fragments o met = breach_of_sites s fragments met (map variable_tree o.variables.items) (all_sites s (type_of_kind s o.kind) fragments met o)

-- the fragments of a document, as rules look at them
abbrev pub fragments_in : List Definition → List FragmentData
fragments_in ds = map fragment_data (fragments_of ds)

-- what an operation of a document reaches
abbrev pub reached_by : List Definition → Operation → List Met
reached_by ds o = reached (fragments_in ds) (set_tree o.selections.items)

-- The first that is broken of the rules on the whole document, and then of those on the kind of the operation.
abbrev pub breach_before_parts : SchemaData → List Definition → Operation → Option Breach
breach_before_parts s ds o =
    or_else (breach RepeatedName (repeated_name ds))
    (or_else (breach LoneAnonymous (lone_anonymous ds))
    (or_else (breach Subscription (subscription o))
    (breach NoRoot (no_root s o))))

-- The first of all rules that is broken, in their order: those on the document and on the kind of the operation, and then
-- those on its parts and on the parts of the fragments that it reaches.
abbrev pub first_broken : SchemaData → List Definition → Operation → Option Breach
first_broken s ds o = or_else (breach_before_parts s ds o) (breach_of_parts s (fragments_in ds) o (reached_by ds o))

-- The document, the operation, the fragments that it reaches in the order in which they are met, and the type on which its
-- selections are written.
pub record IsCheckOf (s : SchemaData) (ds : List Definition) (o : Operation) (c : Checked) : Type 0 where
  pub document : c.document.now.definitions.items ≡ ds
  pub operation : c.operation.now ≡ o
  pub fragments : map (λ f. f.now) c.fragments.items ≡ fragments_met (fragments_of ds) (reached_by ds o)
  pub root : type_of_kind s o.kind ≡ Some c.root.number

-- The answer is the first broken rule with its place, or where none is broken what was checked. Want of memory is let
-- through.
abbrev pub AnswersBreach : {X : Type 0} → (X → Type 0) → Result X RuleFault → Option Breach → Type 0
AnswersBreach Gives (Ok x) first = (first ≡ None) × Gives x
AnswersBreach Gives (Err (Broken rule at)) first = first ≡ Some (rule, at)
AnswersBreach Gives (Err Memory) first = Unit {0}

-- The same of the operation that stands at a place among definitions.
abbrev pub AnswersCheck : SchemaData → List Definition → ℕ → Result Checked RuleFault → Type 0
AnswersCheck s ds place result = (o : Operation) → operation_at ds place ≡ Some o → AnswersBreach (IsCheckOf s ds o) result (first_broken s ds o)

-- The same for an operation whose selections are written on a type, where only the rules on its parts are left.
abbrev pub PartsAnswer : SchemaData → List Definition → Operation → ℕ → Result Checked RuleFault → Type 0
PartsAnswer s ds o root answer = type_of_kind s o.kind ≡ Some root → AnswersBreach (IsCheckOf s ds o) answer (breach_of_parts s (fragments_in ds) o (reached_by ds o))

-- What was checked is an operation of its document that breaks no rule of this schema.
pub record IsChecked (s : SchemaData) (c : Checked) : Type 0 where
  pub kept : first_broken s c.document.now.definitions.items c.operation.now ≡ None
  pub of : IsCheckOf s c.document.now.definitions.items c.operation.now c

-- What is told of an operation's parts where its selections are written on a type: the first broken rule of those on parts.
abbrev pub TellsParts : {E : Type 0} → SchemaData → List FragmentData → Operation → List Met → ℕ → Result (Option Breach) E → Type 0
TellsParts s fragments o met root told = type_of_kind s o.kind ≡ Some root → IfOk told (λ found. found ≡ breach_of_parts s fragments o met)
