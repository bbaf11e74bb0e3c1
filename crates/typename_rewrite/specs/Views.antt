-- What the program's values stand for.
use Rattle.std.specs.Prelude.{ℕ, List, map, option_map, Option}
use Rattle.std.specs.Borrow.{Bor}
use Rattle.input_values.specs.declared.inputs.shape.TypeId.{TypeId}
use Rattle.document_reader.specs.declared.trees.Operation.{Operation}
use Rattle.document_reader.specs.declared.trees.Fragment.{Fragment}
use Rattle.document_reader.specs.declared.trees.Selection.{Selection}
use Rattle.document_reader.specs.declared.trees.Field.{Field}
use Rattle.document_reader.specs.Trees.{selection_tree, field_tree, set_tree}
use Rattle.document_reader.specs.Documents.{SelectionTree, SelectionTrees, DefinitionTree}
use Rattle.schema_model.specs.Numbers.{type_number}
use Rattle.schema_model.specs.SchemaData.{SchemaData}
use Rattle.schema_model.specs.SchemaViews.{schema_data}
use Rattle.document_rules.specs.declared.checking.Checked.{Checked}
use Rattle.document_rules.specs.Parts.{FragmentData, fragment_data}
use Rattle.typename_rewrite.specs.declared.adding.Adding.{Adding}
use Rattle.typename_rewrite.specs.declared.words.Word.{Word}
use Rattle.typename_rewrite.specs.Rewriting.{rewritten_selection, rewritten_selections, rewritten_operation, rewritten_definition, rewritten_document}

abbrev pub fragment_seen : Bor Fragment → FragmentData
fragment_seen f = fragment_data f.now

-- the document that is sent in place of a checked operation's own
abbrev pub rewritten_of : SchemaData → List ℕ → Checked → List DefinitionTree
rewritten_of s alias c = rewritten_document s alias c.root.number c.operation.now (map fragment_seen c.fragments.items)

-- a selection, a field and selections that are written on a type
abbrev pub selection_by : Adding → Option TypeId → Selection → SelectionTree
selection_by by parent x = rewritten_selection (schema_data by.schema.now) by.alias.now (option_map type_number parent) (selection_tree x)

abbrev pub field_by : Adding → Option TypeId → Field → SelectionTree
field_by by parent f = rewritten_selection (schema_data by.schema.now) by.alias.now (option_map type_number parent) (field_tree f)

abbrev pub set_by : Adding → Option TypeId → List Selection → SelectionTrees
set_by by parent xs = rewritten_selections (schema_data by.schema.now) by.alias.now (option_map type_number parent) (set_tree xs)

-- an operation whose selections are written on the type of this number, and fragments
abbrev pub operation_by : Adding → ℕ → Operation → DefinitionTree
operation_by by root o = rewritten_operation (schema_data by.schema.now) by.alias.now root o

abbrev pub fragment_by : Adding → Fragment → DefinitionTree
fragment_by by f = rewritten_definition (schema_data by.schema.now) by.alias.now (fragment_data f)

abbrev pub fragments_by : Adding → List (Bor Fragment) → List DefinitionTree
fragments_by by fs = map (λ f. fragment_by by f.now) fs

abbrev pub word_text : Word → List ℕ
word_text word = word.text.now
