-- The definitions of a document that is received: the operation, and behind it the fragments.
use Rattle.std.proofs.Common.{ℕ, ◌+◌, ◌≡◌, Bool, true, List, [], ◌∷◌, map, Option, None, Some, Result, Ok, if◌then◌else◌, refl, sym, ap, ap₂, ◌∙◌, subst, arith}
use Rattle.std.specs.Prelude.{option_map}
use Rattle.std.proofs.lemmas.Option.{same_Some}
use Rattle.std.proofs.lemmas.Slice.Eq.{bytes_eq-Decides}
use Rattle.gql_base.specs.declared.parts.trees.Name.{Name}
use Rattle.gql_base.specs.ways.Reading.{Identifier}
use Rattle.gql_base.specs.parts.Trees.{directive_tree}
use Rattle.document_reader.specs.declared.trees.Operation.{Operation}
use Rattle.document_reader.specs.declared.trees.Fragment.{Fragment}
use Rattle.document_reader.specs.declared.trees.Definition.{Definition}
use Rattle.document_reader.specs.declared.trees.Definition.TheVariants.{Op, Frag}
use Rattle.document_reader.specs.declared.picking.PickFault.{PickFault}
use Rattle.document_reader.specs.Documents.{SelectionTrees, no_selection, DefinitionTree, operation_tree, fragment_tree}
use Rattle.document_reader.specs.Trees.{maybe_identifier, variable_tree, set_tree, definition_tree}
use Rattle.document_reader.specs.PlacelessDocuments.{maybe_name_placeless, variable_placeless, selections_placeless, definition_placeless, document_placeless}
use Rattle.document_reader.specs.Picking.{is_operation, same_name, is_named, first_where, count_where, alone, there, picked}
use Rattle.document_rules.specs.Parts.{FragmentData, fragment_data, name_text, operation_at}
use Rattle.document_rules.specs.Sites.{type_of_kind}
use Rattle.document_rules.proofs.Lists.{map_twice}
use Rattle.typename_rewrite.specs.Rewriting.{rewritten_fragment, rewritten_definition, rewritten_document}
use Rattle.acceptance.specs.Requests.{RequestData, Prepared, AsksFor, setting}
use Rattle.acceptance.specs.Forwarding.{sent_document}
use Rattle.received_requests.specs.Received.{IsReceived, HasSelections, selections_sent, fragments_sent}
use Rattle.received_requests.specs.Offsets.{fragment_placeless}

-- ---- definitions by their trees

-- An operation is another one but for the offsets of names, with these selections.
pub record IsCopy (o of : Operation) (below : SelectionTrees) : Type 0 where
  pub kind : o.kind ≡ of.kind
  pub name : maybe_name_placeless (maybe_identifier o.name) ≡ maybe_name_placeless (maybe_identifier of.name)
  pub variables : map variable_placeless (map variable_tree o.variables.items) ≡ map variable_placeless (map variable_tree of.variables.items)
  pub selections : selections_placeless (set_tree o.selections.items) ≡ selections_placeless below

abbrev pub as_fragment : Fragment → Definition
as_fragment f = Frag f

abbrev tree_of_data : FragmentData → DefinitionTree
tree_of_data f = fragment_tree f.name f.on f.directives f.below

-- an operation with other selections
abbrev with_selections : Operation → SelectionTrees → DefinitionTree
with_selections o below = operation_tree o.kind (maybe_identifier o.name) (map variable_tree o.variables.items) (map directive_tree o.directives.items) below

abbrev data_of_tree : DefinitionTree → FragmentData
data_of_tree (fragment_tree name on directives below) = record { name = name; on = on; directives = directives; below = below }
data_of_tree (operation_tree kind name variables directives below) = record { name = ([], 0); on = ([], 0); directives = []; below = no_selection }

operation_there : (d : Definition) (of : Operation) (below : SelectionTrees) → definition_placeless (definition_tree d) ≡ definition_placeless (with_selections of below) → (o : Operation) × (d ≡ Op o) × IsCopy o of below
operation_there (Op o) of below same = (o, refl, record { kind = cc; name = cc; variables = cc; selections = cc })
operation_there (Frag f) of below same = absurd (cc)

fragment_there : (d : Definition) (f : FragmentData) → definition_placeless (definition_tree d) ≡ definition_placeless (tree_of_data f) → (g : Fragment) × (d ≡ Frag g) × (fragment_placeless (fragment_data g) ≡ fragment_placeless f)
fragment_there (Op o) f same = absurd (cc)
fragment_there (Frag g) f same = (g, refl, ap data_of_tree same)

fragments_there : (ds : List Definition) (fs : List FragmentData) → document_placeless (map definition_tree ds) ≡ document_placeless (map tree_of_data fs)
    → (gs : List Fragment) × (ds ≡ map as_fragment gs) × (map fragment_placeless (map fragment_data gs) ≡ map fragment_placeless fs)
fragments_there [] [] same = ([], refl, refl)
fragments_there [] (f ∷ fs) same = absurd (cc)
fragments_there (d ∷ ds) [] same = absurd (cc)
fragments_there (d ∷ ds) (f ∷ fs) same =
    let one = fragment_there d f (cc) in
    let rest = fragments_there ds fs (cc) in
    (one.0 ∷ rest.0, ap₂ (λ (x : Definition) (xs : List Definition). x ∷ xs) one.1 rest.1, ap₂ (λ (x : FragmentData) (xs : List FragmentData). x ∷ xs) one.2 rest.2)

-- ---- the document that is received

-- The definitions of a received document.
pub record Picked (r : RequestData) (p : Prepared r) (alias : List ℕ) (q : RequestData) : Type 0 where
  pub operation : Operation
  pub fragments : List Fragment
  pub document : q.document ≡ Op operation ∷ map as_fragment fragments
  pub copy : IsCopy operation p.operation (selections_sent r p alias)
  pub same : map fragment_placeless (map fragment_data fragments) ≡ map fragment_placeless (fragments_sent r p alias)

module _ (r : RequestData) (p : Prepared r) (alias : List ℕ) (q : RequestData) where
  by_definitions : (ds : List Definition) → q.document ≡ ds → document_placeless (map definition_tree ds) ≡ document_placeless (sent_document r p alias) → Picked r p alias q
  unfolding rewritten_document
  by_definitions [] is same = absurd (cc)
  by_definitions (d ∷ ds) is same =
      let one = operation_there d p.operation (selections_sent r p alias) (cc) in
      let tails : document_placeless (map definition_tree ds) ≡ document_placeless (map (rewritten_definition r.schema alias) (setting r p).fragments) = cc in
      let rest = fragments_there ds (fragments_sent r p alias) (tails ∙ ap document_placeless (sym (map_twice tree_of_data (rewritten_fragment r.schema alias) (setting r p).fragments))) in
      record {
        operation = one.0;
        fragments = rest.0;
        document = is ∙ ap₂ (λ (x : Definition) (xs : List Definition). x ∷ xs) one.1 rest.1;
        copy = one.2;
        same = rest.2;
      }

  pub parts_picked : IsReceived r p alias q → Picked r p alias q
  parts_picked is = by_definitions q.document refl is.document

-- ---- the operation that is picked

no_operations : (fs : List Fragment) → count_where is_operation (map as_fragment fs) ≡ 0
unfolding count_where
no_operations [] = refl
no_operations (f ∷ fs) = let none = no_operations fs in omega (arith, none)

name_again : (name : Option Name) (n : Name) → maybe_name_placeless (maybe_identifier name) ≡ maybe_name_placeless (maybe_identifier (Some n)) → same_name n.text name ≡ true
name_again None n same = absurd (cc)
name_again (Some m) n same = (bytes_eq-Decides m.text n.text).1 (ap (λ (i : Identifier). i.0) (same_Some (m.text, 0) (n.text, 0) same))

first_picked : (o : Operation) (fs : List Fragment) (name : Option Name) → maybe_name_placeless (maybe_identifier o.name) ≡ maybe_name_placeless (maybe_identifier name)
    → picked (option_map name_text (maybe_identifier name)) (Op o ∷ map as_fragment fs) ≡ Ok 0
unfolding first_where count_where
first_picked o fs None same = ap (λ (k : ℕ). alone 0 (1 + k)) (no_operations fs)
first_picked o fs (Some n) same = ap (λ (b : Bool). there (if b then Some 0 else first_where (is_named n.text) 1 (map as_fragment fs))) (name_again o.name n same)

same_place : (n m : ℕ) → ◌≡◌ {A = Result ℕ PickFault} (Ok n) (Ok m) → n ≡ m
same_place n m same = cc

module _ (r : RequestData) (p : Prepared r) (alias : List ℕ) (q : RequestData) (is : IsReceived r p alias q) where
  abbrev parts : Picked r p alias q
  parts = parts_picked r p alias q is

  picked_first : picked q.name q.document ≡ Ok 0
  picked_first = ap₂ picked is.name parts.document ∙ first_picked parts.operation parts.fragments p.operation.name parts.copy.name

  there_first : operation_at q.document 0 ≡ Some parts.operation
  there_first = ap (λ (ds : List Definition). operation_at ds 0) parts.document

  pub asks_for_it : (o : Operation) × AsksFor q o
  asks_for_it = (parts.operation, (0, picked_first, there_first))

  pub is_first : (o : Operation) → AsksFor q o → operation_at q.document 0 ≡ Some o
  is_first o asks = subst (λ (n : ℕ). operation_at q.document n ≡ Some o) (same_place asks.0 0 (sym asks.1 ∙ picked_first)) asks.2

  -- it is the operation of the parts
  pub is_it : (o : Operation) → AsksFor q o → parts.operation ≡ o
  is_it o asks = same_Some parts.operation o (sym there_first ∙ is_first o asks)

  pub copied : (o : Operation) → AsksFor q o → IsCopy o p.operation (selections_sent r p alias)
  copied o asks = subst (λ (x : Operation). IsCopy x p.operation (selections_sent r p alias)) (is_it o asks) parts.copy

  pub kind_kept : (o : Operation) → AsksFor q o → type_of_kind q.schema o.kind ≡ Some p.root
  kind_kept o asks = ap₂ type_of_kind is.schema (copied o asks).kind ∙ p.on_root

  pub selections_kept : (o : Operation) → AsksFor q o → HasSelections o (selections_sent r p alias)
  selections_kept o asks = (copied o asks).selections
