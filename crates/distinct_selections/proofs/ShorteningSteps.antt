-- One selection that is copied without directives, and put behind those that are kept.
use Rattle.std.proofs.Common.{◌≡◌, List, [], map, Option, Some, None, Vec, Global, refl, sym, ap, ◌∙◌, subst}
use Rattle.gql_base.specs.declared.parts.trees.Name.{Name}
use Rattle.gql_base.specs.declared.parts.trees.Directive.{Directive}
use Rattle.gql_base.specs.parts.Arguments.{DirectiveTree}
use Rattle.gql_base.specs.parts.Trees.{identifier_of, named_value, directive_tree}
use Rattle.document_reader.specs.declared.trees.Field.{Field}
use Rattle.document_reader.specs.declared.trees.Fragment.{Fragment}
use Rattle.document_reader.specs.declared.trees.Selection.{Selection}
use Rattle.document_reader.specs.declared.trees.Selection.TheViews.{Field as FieldSelection, Inline as InlineSelection}
use Rattle.document_reader.specs.declared.trees.Selection.TheBlock.{Spread as SpreadSelection}
use Rattle.document_reader.specs.Documents.{SelectionTree, field_selection, fragment_spread, inline_fragment}
use Rattle.document_reader.specs.Trees.{names_of, maybe_identifier, selection_tree, field_tree, set_tree}
use Rattle.document_reader.proofs.ReadingSteps.{tree_of_field, tree_of_inline}
use Rattle.document_reader.proofs.PrintingSteps.{tree_of_spread, open_field}
use Rattle.document_rules.specs.Parts.{fragment_data}
use Rattle.input_values.specs.coercion.Literals.{Environment}
use Rattle.plan_model.specs.Shortening.{IsSameType, Shortens, AreShortened, IsShortenedFragment}
use Rattle.distinct_selections.specs.Adding.{IsFieldWith, KeepsOne, AddsIncluded, AddsInline}
use Rattle.distinct_selections.proofs.AddingSteps.{one_added}

same_type_itself : (on other : Option Name) → other ≡ on → IsSameType (maybe_identifier on) (maybe_identifier other)
same_type_itself on other is = subst (λ (o : Option Name). IsSameType (maybe_identifier on) (maybe_identifier o)) (sym is) (itself on)
  where
    itself : (o : Option Name) → IsSameType (maybe_identifier o) (maybe_identifier o)
    itself None = tt
    itself (Some n) = refl

module _ (values : Environment) where
  field_short : (f : Field) (t : SelectionTree) (given kept : List Selection) → IsFieldWith values f (set_tree kept) t → given ≡ f.selections.items → AreShortened values (set_tree given) (set_tree kept) → Shortens values (field_tree f) t
  field_short f t given kept is same h =
      subst (λ (s : SelectionTree). Shortens values s t) (sym (open_field f))
      (subst (λ (u : SelectionTree). Shortens values (field_selection (names_of f.alias f.name) (map named_value f.arguments.items) (map directive_tree f.directives.items) (set_tree f.selections.items)) u) (sym is.is)
      (((refl, refl), is.given), (refl, subst (λ (ss : List Selection). AreShortened values (set_tree ss) (set_tree kept)) same h)))

  pub field_added : (f g : Field) (given kept : List Selection) (old new : List SelectionTree) → IsFieldWith values f (set_tree kept) (field_tree g) → given ≡ f.selections.items → AreShortened values (set_tree given) (set_tree kept)
      → KeepsOne (selection_tree (FieldSelection g)) old new → AddsIncluded values (field_tree f) old new
  field_added f g given kept old new is same h keeps stays = one_added values (field_tree f) (selection_tree (FieldSelection g)) old new (field_short f (selection_tree (FieldSelection g)) given kept (record { arguments = is.arguments; given = is.given; is = tree_of_field g ∙ is.is }) same h) keeps stays

  pub spread_added : (name copy : Name) (ds : Vec Directive Global) (old new : List SelectionTree) → copy ≡ name → ds.items ≡ [] → KeepsOne (selection_tree (SpreadSelection copy ds)) old new → (directives : List DirectiveTree) → AddsIncluded values (fragment_spread (identifier_of name) directives) old new
  spread_added name copy ds old new same none keeps directives stays = one_added values (fragment_spread (identifier_of name) directives) (selection_tree (SpreadSelection copy ds)) old new
      (subst (λ (t : SelectionTree). Shortens values (fragment_spread (identifier_of name) directives) t) (sym (tree_of_spread copy ds)) (ap (λ (n : Name). n.text) (sym same), ap (map directive_tree) none)) keeps stays

  pub inline_added : (on copy : Option Name) (ds : Vec Directive Global) (ss : Vec Selection Global) (given : List Selection) (old new : List SelectionTree) → copy ≡ on → ds.items ≡ [] → AreShortened values (set_tree given) (set_tree ss.items) → KeepsOne (selection_tree (InlineSelection copy ds ss)) old new
      → AddsInline values (maybe_identifier on) (set_tree given) old new
  inline_added on copy ds ss given old new same none h keeps directives stays = one_added values (inline_fragment (maybe_identifier on) directives (set_tree given)) (selection_tree (InlineSelection copy ds ss)) old new
      (subst (λ (t : SelectionTree). Shortens values (inline_fragment (maybe_identifier on) directives (set_tree given)) t) (sym (tree_of_inline copy ds ss)) (same_type_itself on copy same, (ap (map directive_tree) none, h))) keeps stays

  pub fragment_shortened : (f g : Fragment) (given : List Selection) → g.name ≡ f.name → g.on ≡ f.on → given ≡ f.selections.items → AreShortened values (set_tree given) (set_tree g.selections.items) → IsShortenedFragment values (fragment_data f) (fragment_data g)
  fragment_shortened f g given name on same h = ((ap (λ (n : Name). n.text) (sym name), ap (λ (n : Name). n.text) (sym on)), subst (λ (ss : List Selection). AreShortened values (set_tree ss) (set_tree g.selections.items)) same h)
