-- Executable documents (GraphQL October 2021, 2.2 to 2.12): their trees, and the symbols that they are written with.
use Rattle.std.specs.Prelude.{ℕ, suc, ◌≡◌, ◌⊎◌, Bool, true, false, List, [], ◌++◌, Option, None, Some, codes}
use Rattle.std.specs.Str.{bytes_eq}
use Rattle.gql_base.specs.declared.lexical.token.TokenKind.TheVariants.{Dollar, Colon, Spread, OpenParen, CloseParen, OpenBrace, CloseBrace}
use Rattle.gql_base.specs.declared.parts.trees.OperationKind.{OperationKind}
use Rattle.gql_base.specs.declared.parts.trees.OperationKind.TheVariants.{Query}
use Rattle.gql_base.specs.ways.Symbols.{punctuator, identifier, integer, decimal, string}
use Rattle.gql_base.specs.ways.Reading.{Taking, exact, Identifier, any_name, keyword, inside, some_second}
use Rattle.gql_base.specs.ways.Grammar.{Nested, Single, Pair, Image, Choice, Optional, OneOrMore, Bracketed}
use Rattle.gql_base.specs.parts.Values.{ValueTree, NamedValue}
use Rattle.gql_base.specs.parts.TypeReferences.{TypeTree, IsType}
use Rattle.gql_base.specs.parts.Arguments.{DirectiveTree, AreArguments, AreDirectives, IsDefault}
use Rattle.gql_base.specs.parts.OperationKinds.{kind_word}

-- trees

-- the first name of a field, and the second one where the first is an alias
abbrev pub FieldNames : Type 0
FieldNames = Identifier × Option Identifier

mutual
  pub data SelectionTree : Type 0 where
    field_selection : (names : FieldNames) (arguments : List NamedValue) (directives : List DirectiveTree) (below : SelectionTrees) → SelectionTree
    fragment_spread : (name : Identifier) (directives : List DirectiveTree) → SelectionTree
    inline_fragment : (on : Option Identifier) (directives : List DirectiveTree) (below : SelectionTrees) → SelectionTree

  pub data SelectionTrees : Type 0 where
    no_selection : SelectionTrees
    selection_then : SelectionTree → SelectionTrees → SelectionTrees

-- a variable by its name and type, its default, and its directives
abbrev pub VariableTree : Type 0
VariableTree = Identifier × TypeTree × Option ValueTree × List DirectiveTree

pub data DefinitionTree : Type 0 where
  operation_tree : (kind : OperationKind) (name : Option Identifier) (variables : List VariableTree) (directives : List DirectiveTree) (below : SelectionTrees) → DefinitionTree
  fragment_tree : (name : Identifier) (on : Identifier) (directives : List DirectiveTree) (below : SelectionTrees) → DefinitionTree

-- words

abbrev pub on_word : Taking (Unit {0})
on_word = keyword (codes "on")

abbrev pub fragment_word : Taking (Unit {0})
fragment_word = keyword (codes "fragment")

abbrev pub unless : {A : Type 0} → Bool → A → Option A
unless true a = None
unless false a = Some a

-- the name of a fragment: any name but `on`
abbrev pub fragment_name : Taking Identifier
fragment_name (identifier bytes at) = unless (bytes_eq bytes (codes "on")) (bytes, at)
fragment_name (punctuator kind) = None
fragment_name (integer value) = None
fragment_name (decimal bytes) = None
fragment_name (string value) = None

-- the grammar, with the number of open levels; constants hold no variables

abbrev pub AreFieldNames : ℕ → FieldNames → Nested → Type 0
AreFieldNames d = Pair (Single any_name d) (Optional None (Image some_second (Pair (Single (exact Colon) d) (Single any_name d))))

-- what a field has before its selections
abbrev pub IsFieldHead : ℕ → FieldNames × (List NamedValue × List DirectiveTree) → Nested → Type 0
IsFieldHead d = Pair (AreFieldNames d) (Pair (Optional [] (AreArguments false d)) (AreDirectives false d))

abbrev pub IsTypeCondition : ℕ → Option Identifier → Nested → Type 0
IsTypeCondition d = Image some_second (Pair (Single on_word d) (Single any_name d))

-- what a fragment spread has after its `...`
abbrev pub IsSpreadEnd : ℕ → Identifier × List DirectiveTree → Nested → Type 0
IsSpreadEnd d = Pair (Single fragment_name d) (AreDirectives false d)

-- what an inline fragment has between its `...` and its selections
abbrev pub IsInlineHead : ℕ → Option Identifier × List DirectiveTree → Nested → Type 0
IsInlineHead d = Pair (Optional None (IsTypeCondition d)) (AreDirectives false d)

unfoldable mutual
  pub IsSelection : ℕ → SelectionTree → Nested → Type 0
  IsSelection d (field_selection names arguments directives below) ws = (f g : Nested) × (ws ≡ f ++ g) × IsFieldHead d (names, (arguments, directives)) f × (IsSelectionSet d below g ⊎ ((below ≡ no_selection) × (g ≡ [])))
  IsSelection d (fragment_spread name directives) ws = (f g : Nested) × (ws ≡ f ++ g) × Single (exact Spread) d tt f × IsSpreadEnd d (name, directives) g
  IsSelection d (inline_fragment on directives below) ws = (e f g : Nested) × (ws ≡ e ++ (f ++ g)) × Single (exact Spread) d tt e × IsInlineHead d (on, directives) f × IsSelectionSet d below g

  -- one selection or more in braces
  pub IsSelectionSet : ℕ → SelectionTrees → Nested → Type 0
  IsSelectionSet d no_selection ws = ⊥
  IsSelectionSet d (selection_then s others) ws = Bracketed OpenBrace CloseBrace d (λ inner. (f g : Nested) × (inner ≡ f ++ g) × IsSelection (suc d) s f × AreSelections (suc d) others g) ws

  pub AreSelections : ℕ → SelectionTrees → Nested → Type 0
  AreSelections d no_selection ws = ws ≡ []
  AreSelections d (selection_then s others) ws = (f g : Nested) × (ws ≡ f ++ g) × IsSelection d s f × AreSelections d others g

abbrev pub variable_of : Unit {0} × (Identifier × (Unit {0} × (TypeTree × (Option ValueTree × List DirectiveTree)))) → VariableTree
variable_of p = (p.1.0, p.1.1.1.0, p.1.1.1.1.0, p.1.1.1.1.1)

abbrev pub IsVariable : ℕ → VariableTree → Nested → Type 0
IsVariable d = Image variable_of (Pair (Single (exact Dollar) d) (Pair (Single any_name d) (Pair (Single (exact Colon) d) (Pair (IsType d) (Pair (Optional None (IsDefault d)) (AreDirectives true d))))))

abbrev pub AreVariables : ℕ → List VariableTree → Nested → Type 0
AreVariables d = Image inside (Pair (Single (exact OpenParen) d) (Pair (OneOrMore (IsVariable d)) (Single (exact CloseParen) d)))

-- what an operation has after its kind, and before its selections
abbrev pub OperationHead : Type 0
OperationHead = Option Identifier × (List VariableTree × List DirectiveTree)

abbrev pub IsOperationHead : ℕ → OperationHead → Nested → Type 0
IsOperationHead d = Pair (Optional None (Image Some (Single any_name d))) (Pair (Optional [] (AreVariables d)) (AreDirectives false d))

-- the operation that a selection set alone is
abbrev pub bare_operation : SelectionTrees → DefinitionTree
bare_operation below = operation_tree Query None [] [] below

abbrev pub operation_of : OperationKind × (OperationHead × SelectionTrees) → DefinitionTree
operation_of p = operation_tree p.0 p.1.0.0 p.1.0.1.0 p.1.0.1.1 p.1.1

abbrev pub FragmentHead : Type 0
FragmentHead = Identifier × (Identifier × List DirectiveTree)

abbrev pub head_of_fragment : Unit {0} × (Identifier × (Unit {0} × (Identifier × List DirectiveTree))) → FragmentHead
head_of_fragment p = (p.1.0, (p.1.1.1.0, p.1.1.1.1))

abbrev pub IsFragmentHead : ℕ → FragmentHead → Nested → Type 0
IsFragmentHead d = Image head_of_fragment (Pair (Single fragment_word d) (Pair (Single fragment_name d) (Pair (Single on_word d) (Pair (Single any_name d) (AreDirectives false d)))))

abbrev pub fragment_of : FragmentHead × SelectionTrees → DefinitionTree
fragment_of p = fragment_tree p.0.0 p.0.1.0 p.0.1.1 p.1

-- a selection set alone, a fragment, or an operation that begins with its kind
unfoldable pub IsDefinition : ℕ → DefinitionTree → Nested → Type 0
IsDefinition d = Choice (Image bare_operation (IsSelectionSet d)) (Choice (Image fragment_of (Pair (IsFragmentHead d) (IsSelectionSet d))) (Image operation_of (Pair (Single kind_word d) (Pair (IsOperationHead d) (IsSelectionSet d)))))

-- A document is one definition or more.
unfoldable pub IsDocument : List DefinitionTree → Nested → Type 0
IsDocument = OneOrMore (IsDefinition 0)
