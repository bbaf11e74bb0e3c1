-- Printing one part after another.
use Rattle.std.proofs.Common.{ℕ, ◌+◌, ◌≡◌, ◌<◌, ◌≤◌, ◌==◌, false, List, [], ◌∷◌, ◌++◌, Option, length, drop, map, get_or, Vec, Global, refl, sym, ap, ◌∙◌}
use Rattle.std.specs.List.{flat_map}
use Rattle.std.proofs.lemmas.List.{at_drop_more, drop_all}
use Rattle.gql_base.specs.declared.lexical.token.TokenKind.TheVariants.{Spread, OpenParen, CloseParen, OpenBrace, CloseBrace}
use Rattle.gql_base.specs.declared.parts.trees.Name.{Name}
use Rattle.gql_base.specs.declared.parts.trees.Directive.{Directive}
use Rattle.gql_base.specs.ways.Symbols.{Symbol, punctuator, Symbols}
use Rattle.gql_base.specs.ways.Reading.{Identifier}
use Rattle.gql_base.specs.parts.Values.{NamedValue, fields_from}
use Rattle.gql_base.specs.parts.Trees.{identifier_of, named_value, directive_tree}
use Rattle.gql_base.specs.printing.Printing.{Printed, put, put_all}
use Rattle.gql_base.specs.printing.PrintedTrees.{printed_name, value_symbols, fields_symbols, in_parentheses}
use Rattle.gql_base.proofs.PrintingLaws.PrintSteps.{put_all_append}
use Rattle.gql_base.specs.parts.Arguments.{DirectiveTree}
use Rattle.document_reader.specs.declared.trees.Selection.{Selection}
use Rattle.document_reader.specs.declared.trees.Field.{Field}
use Rattle.document_reader.specs.declared.trees.Selection.TheBlock.{Spread as SpreadSelection}
use Rattle.document_reader.specs.declared.trees.Selection.TheOpen.{Selection-F}
use Rattle.document_reader.specs.declared.trees.Selection.TheFolds.{fold-roll-Selection, fold_out-Field}
use Rattle.document_reader.specs.Documents.{FieldNames, SelectionTree, field_selection, fragment_spread, inline_fragment, SelectionTrees}
use Rattle.document_reader.specs.DocumentReading.{selections_from}
use Rattle.document_reader.specs.Trees.{names_of, selection_tree, field_tree, selection_step, field_step, set_tree}
use Rattle.document_reader.specs.PrintedDocuments.{argument_symbols, arguments_symbols, directives_symbols, names_symbols, condition_symbols, selection_symbols, set_symbols, selections_symbols}
use Rattle.document_reader.proofs.ReadingSteps.{tree_of_field, tree_of_inline}

pub nothing_more : (p : Printed) → put_all p [] ≡ p
unfolding put_all
nothing_more p = refl

pub one_more : (p : Printed) (w : Symbol) (ws : Symbols) → put_all p (w ∷ ws) ≡ put_all (put p w) ws
unfolding put_all
one_more p w ws = refl

pub ruleset printing_steps = (nothing_more, one_more, put_all_append)

-- things one after the other: what is left prints as the whole

pub next_item : {X T : Type 0} (view : X → T) (symbols : T → Symbols) (p q : Printed) (xs : List X) (at : ℕ) (x : X) → at < length xs → x ≡ get_or xs at x → q ≡ put_all p (symbols (view x))
    → put_all q (flat_map symbols (map view (drop (at + 1) xs))) ≡ put_all p (flat_map symbols (map view (drop at xs)))
next_item view symbols p q xs at x h is e = let rest : Symbols = flat_map symbols (map view (drop (at + 1) xs)) in
    ap (λ m. put_all m rest) (e ∙ ap (λ y. put_all p (symbols (view y))) is)
    ∙ (sym (put_all_append p (symbols (view (get_or xs at x))) rest) ∙ sym (at_drop_more (λ l. put_all p (flat_map symbols (map view l))) xs at x h))

pub no_item : {X T : Type 0} (view : X → T) (symbols : T → Symbols) (p : Printed) (xs : List X) (at : ℕ) → length xs ≤ at → put_all p (flat_map symbols (map view (drop at xs))) ≡ p
unfolding put_all
no_item view symbols p xs at h = ap (λ l. put_all p (flat_map symbols (map view l))) (drop_all at xs h)

-- things in brackets, if there are any

pub arguments_printed : (fs : List NamedValue) → fields_symbols (fields_from fs) ≡ flat_map argument_symbols fs
unfolding value_symbols
arguments_printed [] = refl
arguments_printed (f ∷ fs) = ap (λ l. argument_symbols f ++ l) (arguments_printed fs)

pub nothing_in_parentheses : {X T : Type 0} (view : X → T) (symbols : T → Symbols) (xs : List X) → length xs ≡ 0 → in_parentheses symbols (map view xs) ≡ []
nothing_in_parentheses view symbols [] e = refl
nothing_in_parentheses view symbols (x ∷ xs) e = cc

pub something_in_parentheses : {X T : Type 0} (view : X → T) (symbols : T → Symbols) (xs : List X) → (length xs == 0) ≡ false
    → in_parentheses symbols (map view xs) ≡ punctuator OpenParen ∷ (flat_map symbols (map view xs) ++ (punctuator CloseParen ∷ []))
something_in_parentheses view symbols [] e = cc
something_in_parentheses view symbols (x ∷ xs) e = refl

pub selections_printed : (ts : List SelectionTree) → selections_symbols (selections_from ts) ≡ flat_map selection_symbols ts
unfolding selection_symbols
selections_printed [] = refl
selections_printed (t ∷ ts) = ap (λ l. selection_symbols t ++ l) (selections_printed ts)

pub nothing_in_braces : (ss : List Selection) → length ss ≡ 0 → set_symbols (set_tree ss) ≡ []
unfolding selection_symbols
nothing_in_braces [] e = refl
nothing_in_braces (s ∷ ss) e = cc

pub something_in_braces : (ss : List Selection) → (length ss == 0) ≡ false → set_symbols (set_tree ss) ≡ punctuator OpenBrace ∷ (flat_map selection_symbols (map selection_tree ss) ++ (punctuator CloseBrace ∷ []))
unfolding selection_symbols
something_in_braces [] e = cc
something_in_braces (s ∷ ss) e = ap (λ l. punctuator OpenBrace ∷ ((selection_symbols (selection_tree s) ++ l) ++ (punctuator CloseBrace ∷ []))) (selections_printed (map selection_tree ss))

-- selections

pub tree_of_spread : (name : Name) (ds : Vec Directive Global) → selection_tree (SpreadSelection name ds) ≡ fragment_spread (identifier_of name) (map directive_tree ds.items)
unfolding selection_tree Rattle.document_reader.specs.declared.trees.Selection.TheViews.roll-Selection denote.Hole.Carrier.roll
tree_of_spread name ds = fold-roll-Selection SelectionTree SelectionTree selection_step field_step (Selection-F.Spread name ds)

pub open_field : (f : Field) → field_tree f ≡ field_selection (names_of f.alias f.name) (map named_value f.arguments.items) (map directive_tree f.directives.items) (set_tree f.selections.items)
unfolding selection_tree field_tree
open_field f = fold_out-Field SelectionTree SelectionTree selection_step field_step f

pub field_printed : (names : FieldNames) (arguments : List NamedValue) (directives : List DirectiveTree) (below : SelectionTrees)
    → selection_symbols (field_selection names arguments directives below) ≡ names_symbols names ++ (arguments_symbols arguments ++ (directives_symbols directives ++ set_symbols below))
unfolding selection_symbols
field_printed names arguments directives below = refl

pub spread_printed : (name : Identifier) (directives : List DirectiveTree) → selection_symbols (fragment_spread name directives) ≡ punctuator Spread ∷ printed_name name.0 ∷ directives_symbols directives
unfolding selection_symbols
spread_printed name directives = refl

pub inline_printed : (on : Option Identifier) (directives : List DirectiveTree) (below : SelectionTrees)
    → selection_symbols (inline_fragment on directives below) ≡ punctuator Spread ∷ (condition_symbols on ++ (directives_symbols directives ++ set_symbols below))
unfolding selection_symbols
inline_printed on directives below = refl

pub ruleset selection_steps = (nothing_more, one_more, put_all_append, tree_of_field, tree_of_spread, tree_of_inline, open_field, field_printed, spread_printed, inline_printed, nothing_in_braces, something_in_braces)

pub ruleset list_steps = (nothing_more, one_more, put_all_append, arguments_printed, nothing_in_parentheses, something_in_parentheses)
