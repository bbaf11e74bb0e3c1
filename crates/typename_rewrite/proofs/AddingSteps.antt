-- Printing selections with what is added.
use Rattle.std.proofs.Common.{ℕ, ◌≡◌, ◌==◌, Bool, true, false, List, [], ◌∷◌, ◌++◌, length, map, Option, refl, sym, ap, ◌∙◌, append_assoc, append-nil}
use Rattle.std.specs.List.{flat_map}
use Rattle.gql_base.specs.declared.lexical.token.TokenKind.TheVariants.{Spread, Colon, OpenBrace, CloseBrace}
use Rattle.gql_base.specs.ways.Symbols.{punctuator, Symbols}
use Rattle.gql_base.specs.ways.Reading.{Identifier}
use Rattle.gql_base.specs.parts.Values.{NamedValue}
use Rattle.gql_base.specs.parts.Arguments.{DirectiveTree}
use Rattle.gql_base.specs.parts.Trees.{named_value, directive_tree}
use Rattle.std.specs.Borrow.{Bor}
use Rattle.gql_base.specs.printing.Printing.{Printed, put, put_all}
use Rattle.gql_base.specs.printing.PrintedTrees.{printed_name}
use Rattle.gql_base.proofs.PrintingLaws.PrintSteps.{put_all_append}
use Rattle.document_reader.specs.declared.trees.Selection.{Selection}
use Rattle.document_reader.specs.declared.trees.Field.{Field}
use Rattle.document_reader.specs.declared.trees.Operation.{Operation}
use Rattle.document_reader.specs.declared.trees.Fragment.{Fragment}
use Rattle.document_reader.specs.Documents.{FieldNames, SelectionTree, fragment_spread, inline_fragment, SelectionTrees, no_selection, selection_then}
use Rattle.document_reader.specs.Trees.{names_of, selection_tree, field_tree, set_tree}
use Rattle.document_reader.specs.PrintedDocuments.{arguments_symbols, directives_symbols, names_symbols, condition_symbols, selection_symbols, set_symbols, selections_symbols, definition_symbols, document_symbols}
use Rattle.document_reader.proofs.PrintingSteps.{nothing_more, one_more, tree_of_spread, open_field}
use Rattle.document_reader.proofs.ReadingSteps.{tree_of_field, tree_of_inline}
use Rattle.schema_model.specs.SchemaData.{SchemaData}
use Rattle.document_rules.specs.Parts.{fragment_data}
use Rattle.document_rules.proofs.Lists.{map_twice}
use Rattle.document_rules.specs.Sites.{typename, meaning_on, below_field, below_inline}
use Rattle.document_rules.proofs.SiteSteps.{name_of_names}
use Rattle.plan_model.specs.SelectedFields.{is_abstract, written_below, is_asked}
use Rattle.typename_rewrite.specs.Rewriting.{typename_under, and_then, ended, call_of, rewritten_selection, rewritten_selections, rewritten_operation, rewritten_definition, rewritten_document}
use Rattle.typename_rewrite.specs.Views.{fragment_seen}
use Rattle.typename_rewrite.specs.Endings.{end_symbols}

-- ---- the end of a set

ends : (x : SelectionTree) (xs : SelectionTrees) → selections_symbols (and_then xs x) ≡ selections_symbols xs ++ selection_symbols x
unfolding selection_symbols and_then
ends x no_selection = append-nil (selection_symbols x)
ends x (selection_then y xs) = ap (λ l. selection_symbols y ++ l) (ends x xs) ∙ sym (append_assoc (selection_symbols y) (selections_symbols xs) (selection_symbols x))

typename_printed : (alias : List ℕ) → selection_symbols (typename_under alias) ≡ end_symbols alias true
unfolding selection_symbols
typename_printed alias = refl

behind : (x y : SelectionTree) (xs : SelectionTrees) → set_symbols (and_then (selection_then y xs) x) ≡ punctuator OpenBrace ∷ (selections_symbols (and_then (selection_then y xs) x) ++ (punctuator CloseBrace ∷ []))
unfolding and_then selection_symbols
behind x y xs = refl

-- selections in braces with their end
set_ended : (alias : List ℕ) (asked : Bool) (x : SelectionTree) (xs : SelectionTrees)
    → set_symbols (ended alias asked (selection_then x xs)) ≡ punctuator OpenBrace ∷ ((selections_symbols (selection_then x xs) ++ end_symbols alias asked) ++ (punctuator CloseBrace ∷ []))
unfolding selection_symbols
set_ended alias false x xs = ap (λ l. punctuator OpenBrace ∷ (l ++ (punctuator CloseBrace ∷ []))) (sym (append-nil (selection_symbols x ++ selections_symbols xs)))
set_ended alias true x xs = behind (typename_under alias) x xs ∙ ap (λ l. punctuator OpenBrace ∷ (l ++ (punctuator CloseBrace ∷ []))) (ends (typename_under alias) (selection_then x xs))

pub not_ended : (alias : List ℕ) (xs : SelectionTrees) → ended alias false xs ≡ xs
not_ended alias no_selection = refl
not_ended alias (selection_then x xs) = refl

pub no_end : (alias : List ℕ) (asked : Bool) → asked ≡ false → end_symbols alias asked ≡ []
no_end alias false e = refl
no_end alias true e = cc

pub end_put : (p a b d : Printed) (alias : List ℕ) (asked : Bool) → asked ≡ true → a ≡ put p (printed_name alias) → b ≡ put a (punctuator Colon) → d ≡ put b (printed_name typename) → d ≡ put_all p (end_symbols alias asked)
unfolding put_all
end_put p a b d alias true is first second third = third ∙ ap (λ m. put m (printed_name typename)) (second ∙ ap (λ m. put m (punctuator Colon)) first)
end_put p a b d alias false is first second third = cc

-- ---- selections by the type on which they are written

module _ (s : SchemaData) (alias : List ℕ) (parent : Option ℕ) where
  abbrev pub added : Selection → SelectionTree
  added x = rewritten_selection s alias parent (selection_tree x)

  all_added : (xs : List Selection) → selections_symbols (rewritten_selections s alias parent (set_tree xs)) ≡ flat_map selection_symbols (map added xs)
  unfolding rewritten_selection selection_symbols
  all_added [] = refl
  all_added (x ∷ xs) = ap (λ l. selection_symbols (added x) ++ l) (all_added xs)

  pub nothing_added : (asked : Bool) (xs : List Selection) → length xs ≡ 0 → set_symbols (ended alias asked (rewritten_selections s alias parent (set_tree xs))) ≡ []
  unfolding rewritten_selection selection_symbols
  nothing_added asked [] e = refl
  nothing_added asked (x ∷ xs) e = cc

  pub something_added : (asked : Bool) (xs : List Selection) → (length xs == 0) ≡ false
      → set_symbols (ended alias asked (rewritten_selections s alias parent (set_tree xs))) ≡ punctuator OpenBrace ∷ ((flat_map selection_symbols (map added xs) ++ end_symbols alias asked) ++ (punctuator CloseBrace ∷ []))
  unfolding rewritten_selection
  something_added asked [] e = cc
  something_added asked (x ∷ xs) e = set_ended alias asked (added x) (rewritten_selections s alias parent (set_tree xs))
      ∙ ap (λ l. punctuator OpenBrace ∷ ((l ++ end_symbols alias asked) ++ (punctuator CloseBrace ∷ []))) (all_added (x ∷ xs))

  pub spread_added : (name : Identifier) (directives : List DirectiveTree) → selection_symbols (rewritten_selection s alias parent (fragment_spread name directives)) ≡ punctuator Spread ∷ printed_name name.0 ∷ directives_symbols directives
  unfolding rewritten_selection selection_symbols
  spread_added name directives = refl

  pub inline_added : (on : Option Identifier) (directives : List DirectiveTree) (below : SelectionTrees)
      → selection_symbols (rewritten_selection s alias parent (inline_fragment on directives below)) ≡ punctuator Spread ∷ (condition_symbols on ++ (directives_symbols directives ++ set_symbols (rewritten_selections s alias (below_inline s parent on) below)))
  unfolding rewritten_selection selection_symbols
  inline_added on directives below = refl

  pub field_added : (f : Field) (name : List ℕ) (below : Option ℕ) (asked : Bool) → name ≡ f.name.text → below ≡ below_field s (meaning_on s parent name) → asked ≡ is_abstract s below
      → names_symbols (names_of f.alias f.name) ++ (arguments_symbols (map named_value f.arguments.items) ++ (directives_symbols (map directive_tree f.directives.items) ++ set_symbols (ended alias asked (rewritten_selections s alias below (set_tree f.selections.items)))))
      ≡ selection_symbols (rewritten_selection s alias parent (field_tree f))
  unfolding rewritten_selection selection_symbols written_below is_asked
  field_added f name below asked named under is =
      let names : FieldNames = names_of f.alias f.name in
      let arguments : List NamedValue = map named_value f.arguments.items in
      let directives : List DirectiveTree = map directive_tree f.directives.items in
      let on : Option ℕ = written_below s parent (call_of names arguments) in
      let same : below ≡ on = under ∙ ap (λ n. below_field s (meaning_on s parent n)) (named ∙ sym (ap (λ (i : Identifier). i.0) (name_of_names f.alias f.name))) in
      ap (λ b. names_symbols names ++ (arguments_symbols arguments ++ (directives_symbols directives ++ set_symbols (ended alias b (rewritten_selections s alias below (set_tree f.selections.items)))))) is
      ∙ (ap (λ o. names_symbols names ++ (arguments_symbols arguments ++ (directives_symbols directives ++ set_symbols (ended alias (is_abstract s o) (rewritten_selections s alias o (set_tree f.selections.items)))))) same
      ∙ ap (λ x. selection_symbols (rewritten_selection s alias parent x)) (sym (open_field f)))

pub ruleset adding_steps = (nothing_more, one_more, put_all_append, tree_of_field, tree_of_spread, tree_of_inline, nothing_added, something_added, not_ended, spread_added, inline_added)

-- four parts that are printed one after another
pub four_put : (p a b c d : Printed) (names arguments directives set whole : Symbols) → a ≡ put_all p names → b ≡ put_all a arguments → c ≡ put_all b directives → d ≡ put_all c set → names ++ (arguments ++ (directives ++ set)) ≡ whole → d ≡ put_all p whole
four_put p a b c d names arguments directives set whole first second third fourth are =
    fourth ∙ (ap (λ m. put_all m set) (third ∙ ap (λ m. put_all m directives) (second ∙ ap (λ m. put_all m arguments) first))
    ∙ (sym (put_all_append (put_all (put_all p names) arguments) directives set) ∙ (sym (put_all_append (put_all p names) arguments (directives ++ set)) ∙ (sym (put_all_append p names (arguments ++ (directives ++ set))) ∙ ap (put_all p) are))))

-- an operation, and its fragments behind it
pub document_put : (s : SchemaData) (alias : List ℕ) (root : ℕ) (o : Operation) (fs : List (Bor Fragment)) (p q r : Printed) → q ≡ put_all p (definition_symbols (rewritten_operation s alias root o))
    → r ≡ put_all q (document_symbols (map (λ f. rewritten_definition s alias (fragment_data f.now)) fs)) → r ≡ put_all p (document_symbols (rewritten_document s alias root o (map fragment_seen fs)))
unfolding rewritten_document
document_put s alias root o fs p q r first second =
    second ∙ (ap (λ l. put_all q (document_symbols l)) (sym (map_twice (rewritten_definition s alias) fragment_seen fs))
    ∙ (ap (λ m. put_all m (document_symbols (map (rewritten_definition s alias) (map fragment_seen fs)))) first ∙ sym (put_all_append p (definition_symbols (rewritten_operation s alias root o)) (document_symbols (map (rewritten_definition s alias) (map fragment_seen fs))))))

pub ruleset end_steps = (nothing_more, one_more, no_end)

pub ruleset definition_steps = (nothing_more, one_more, put_all_append, not_ended)
