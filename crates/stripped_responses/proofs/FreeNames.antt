-- A name that no name of a document is equal to is no response key of it.
use Rattle.std.proofs.Common.{◌≡◌, ◌⊎◌, inl, inr, ⊎_elim, ℕ, zero, suc, List, [], ◌∷◌, ◌++◌, map, flat_map, Bool, true, false, true≢false, ◌||◌, bytes_eq, Option, None, Some, refl, sym, ap, ◌∙◌, subst}
use Rattle.std.specs.Prelude.{slice_get}
use Rattle.std.specs.List.{list_any}
use Rattle.std.proofs.lemmas.Bool.{cases_Bool}
use Rattle.std.proofs.lemmas.Grind.{flat_map-append}
use Rattle.std.proofs.lemmas.List.Folds.{list_any-append}
use Rattle.std.proofs.lemmas.Slice.Eq.{bytes_eq-Decides}
use Rattle.gql_base.specs.ways.Symbols.{Symbol, Symbols}
use Rattle.gql_base.specs.ways.Reading.{Identifier}
use Rattle.gql_base.specs.parts.Values.{NamedValue}
use Rattle.gql_base.specs.parts.Arguments.{DirectiveTree}
use Rattle.document_reader.specs.declared.trees.Definition.{Definition}
use Rattle.document_reader.specs.declared.trees.Definition.TheVariants.{Op, Frag}
use Rattle.document_reader.specs.declared.trees.Operation.{Operation}
use Rattle.document_reader.specs.declared.trees.Fragment.{Fragment}
use Rattle.document_reader.specs.Documents.{FieldNames, SelectionTree, field_selection, fragment_spread, inline_fragment, SelectionTrees, no_selection, selection_then, DefinitionTree}
use Rattle.document_reader.specs.Trees.{definition_tree, set_tree, maybe_identifier, variable_tree}
use Rattle.document_reader.specs.PrintedDocuments.{names_symbols, arguments_symbols, directives_symbols, condition_symbols, selection_symbols, set_symbols, selections_symbols, kind_name, maybe_name_symbols, variables_symbols, definition_symbols, document_symbols}
use Rattle.gql_base.specs.printing.PrintedTrees.{printed_name}
use Rattle.gql_base.specs.parts.Trees.{directive_tree}
use Rattle.document_rules.specs.Parts.{fragment_data, fragments_of, operation_in, operation_at}
use Rattle.document_rules.specs.Met.{Met, before_reached, fragments_met}
use Rattle.std.proofs.lemmas.Option.{same_Some}
use Rattle.typename_rewrite.specs.AddedNames.{name_in, names_in, names_of_document, is_taken}
use Rattle.stripped_responses.specs.Stripping.{IsFreeOne, IsFree, AreFragmentsFree}

module _ (alias : List ℕ) where
  -- no name among these symbols is the alias
  abbrev pub Avoids : Symbols → Type 0
  Avoids symbols = is_taken (names_in symbols) alias ≡ false

  abbrev is_alias : List ℕ → Bool
  is_alias name = bytes_eq name alias

  neither : (b c : Bool) → (b || c) ≡ false → (b ≡ false) × (c ≡ false)
  neither true c h = absurd (true≢false h)
  neither false c h = (refl, h)

  split : (xs ys : Symbols) → Avoids (xs ++ ys) → Avoids xs × Avoids ys
  unfolding names_in
  split xs ys h =
      neither (list_any is_alias (flat_map name_in xs)) (list_any is_alias (flat_map name_in ys))
      (sym (ap (list_any is_alias) (flat_map-append name_in xs ys) ∙ list_any-append is_alias (flat_map name_in xs) (flat_map name_in ys)) ∙ h)

  rest_of : (x : Symbol) (xs : Symbols) → Avoids (x ∷ xs) → Avoids xs
  rest_of x xs h = (split (x ∷ []) xs h).1

  free_key : (names : FieldNames) → Avoids (names_symbols names) → bytes_eq names.0.0 alias ≡ false
  unfolding names_in
  free_key (key, None) h = (neither (is_alias key.0) false h).0
  free_key (key, Some name) h = (neither (is_alias key.0) (list_any is_alias (name.0 ∷ [])) h).0

  mutual
    unfolding selection_symbols set_symbols selections_symbols

    free_selection : (x : SelectionTree) → Avoids (selection_symbols x) → IsFreeOne alias x
    free_selection (field_selection names arguments directives below) h =
        let behind : Avoids (arguments_symbols arguments ++ (directives_symbols directives ++ set_symbols below)) = (split (names_symbols names) (arguments_symbols arguments ++ (directives_symbols directives ++ set_symbols below)) h).1 in (
          free_key names (split (names_symbols names) (arguments_symbols arguments ++ (directives_symbols directives ++ set_symbols below)) h).0,
          free_set below (split (directives_symbols directives) (set_symbols below) (split (arguments_symbols arguments) (directives_symbols directives ++ set_symbols below) behind).1).1,
        )
    free_selection (fragment_spread name directives) h = tt
    free_selection (inline_fragment on directives below) h =
        free_set below (split (directives_symbols directives) (set_symbols below) (split (condition_symbols on) (directives_symbols directives ++ set_symbols below) (rest_of _ (condition_symbols on ++ (directives_symbols directives ++ set_symbols below)) h)).1).1

    free_set : (xs : SelectionTrees) → Avoids (set_symbols xs) → IsFree alias xs
    free_set no_selection h = tt
    free_set (selection_then x others) h =
        let inside : Avoids (selection_symbols x ++ selections_symbols others) = (split (selection_symbols x ++ selections_symbols others) _ (rest_of _ _ h)).0 in
        let both : Avoids (selection_symbols x) × Avoids (selections_symbols others) = split (selection_symbols x) (selections_symbols others) inside in
        (free_selection x both.0, free_selections others both.1)

    free_selections : (xs : SelectionTrees) → Avoids (selections_symbols xs) → IsFree alias xs
    free_selections no_selection h = tt
    free_selections (selection_then x others) h =
        let both : Avoids (selection_symbols x) × Avoids (selections_symbols others) = split (selection_symbols x) (selections_symbols others) h in
        (free_selection x both.0, free_selections others both.1)

  -- ---- of an operation and of fragments

  free_operation : (o : Operation) → Avoids (definition_symbols (definition_tree (Op o))) → IsFree alias (set_tree o.selections.items)
  free_operation o h =
      let name : Symbols = maybe_name_symbols (maybe_identifier o.name) in
      let variables : Symbols = variables_symbols (map variable_tree o.variables.items) in
      let directives : Symbols = directives_symbols (map directive_tree o.directives.items) in
      let below : Symbols = set_symbols (set_tree o.selections.items) in
      let behind : Avoids (variables ++ (directives ++ below)) = (split name (variables ++ (directives ++ below)) (rest_of (printed_name (kind_name o.kind)) (name ++ (variables ++ (directives ++ below))) h)).1 in
      free_set (set_tree o.selections.items) (split directives below (split variables (directives ++ below) behind).1).1

  free_fragment : (f : Fragment) → Avoids (definition_symbols (definition_tree (Frag f))) → IsFree alias (set_tree f.selections.items)
  free_fragment f h = free_set (set_tree f.selections.items) (split _ _ (rest_of _ _ (rest_of _ _ (rest_of _ _ (rest_of _ _ h))))).1

  abbrev AvoidsAll : List Definition → Type 0
  AvoidsAll ds = Avoids (document_symbols (map definition_tree ds))

  pub free_at : (ds : List Definition) (place : ℕ) (o : Operation) → AvoidsAll ds → operation_at ds place ≡ Some o → IsFree alias (set_tree o.selections.items)
  free_at [] place o h found = absurd (cc)
  free_at (d ∷ ds) zero o h found = here d o (split (definition_symbols (definition_tree d)) (document_symbols (map definition_tree ds)) h).0 found
    where
      here : (d : Definition) (o : Operation) → Avoids (definition_symbols (definition_tree d)) → operation_in (Some d) ≡ Some o → IsFree alias (set_tree o.selections.items)
      here (Op p) o h found = subst (λ (q : Operation). IsFree alias (set_tree q.selections.items)) (same_Some p o found) (free_operation p h)
      here (Frag f) o h found = absurd (cc)
  free_at (d ∷ ds) (suc place) o h found = free_at ds place o (split (definition_symbols (definition_tree d)) (document_symbols (map definition_tree ds)) h).1 found

  -- the fragments of a document
  abbrev AreFree : List Fragment → Type 0
  AreFree [] = Unit {0}
  AreFree (f ∷ fs) = IsFree alias (set_tree f.selections.items) × AreFree fs

  free_fragments : (ds : List Definition) → AvoidsAll ds → AreFree (fragments_of ds)
  free_fragments [] h = tt
  free_fragments (Op o ∷ ds) h = free_fragments ds (split (definition_symbols (definition_tree (Op o))) (document_symbols (map definition_tree ds)) h).1
  free_fragments (Frag f ∷ ds) h =
      let both = split (definition_symbols (definition_tree (Frag f))) (document_symbols (map definition_tree ds)) h in
      (free_fragment f both.0, free_fragments ds both.1)

  got : (fs : List Fragment) (i : ℕ) (f : Fragment) → AreFree fs → slice_get fs i ≡ Some f → IsFree alias (set_tree f.selections.items)
  got [] i f free found = absurd (cc)
  got (g ∷ fs) zero f free found = subst (λ (x : Fragment). IsFree alias (set_tree x.selections.items)) (same_Some g f found) free.0
  got (g ∷ fs) (suc i) f free found = got fs i f free.1 found

  reached : (fs others : List Fragment) (i : ℕ) → AreFree fs → AreFragmentsFree alias (map fragment_data others) → AreFragmentsFree alias (map fragment_data (before_reached (slice_get fs i) others))
  reached fs others i free rest = by_place (slice_get fs i) refl
    where
      by_place : (o : Option Fragment) → slice_get fs i ≡ o → AreFragmentsFree alias (map fragment_data (before_reached o others))
      by_place None is = rest
      by_place (Some f) is = (got fs i f free is, rest)

  pub free_met : (ds : List Definition) (met : List Met) → AvoidsAll ds → AreFragmentsFree alias (map fragment_data (fragments_met (fragments_of ds) met))
  free_met ds [] h = tt
  free_met ds (m ∷ met) h = reached (fragments_of ds) (fragments_met (fragments_of ds) met) m.fragment (free_fragments ds h) (free_met ds met h)
