-- Selections that are opened, beside one that is written alike.
use Rattle.std.proofs.Common.{◌≡◌, true, List, [], ◌∷◌, map, length, Option, Vec, Global, refl, sym, ap, ◌∙◌, subst, arith, vec_len, ◌==◌}
use Rattle.std.proofs.lemmas.Bool.{eqb-true}
use Rattle.gql_base.specs.declared.parts.trees.Name.{Name}
use Rattle.gql_base.specs.declared.parts.trees.Directive.{Directive}
use Rattle.gql_base.specs.parts.Arguments.{DirectiveTree}
use Rattle.gql_base.specs.parts.Trees.{identifier_of, named_value, directive_tree}
use Rattle.document_reader.specs.declared.trees.Field.{Field}
use Rattle.document_reader.specs.declared.trees.Selection.{Selection}
use Rattle.document_reader.specs.declared.trees.Selection.TheViews.{Inline as InlineSelection}
use Rattle.document_reader.specs.declared.trees.Selection.TheBlock.{Spread as SpreadSelection}
use Rattle.document_reader.specs.Documents.{SelectionTree, field_selection, fragment_spread, inline_fragment}
use Rattle.document_reader.specs.Trees.{names_of, maybe_identifier, selection_tree, field_tree, set_tree}
use Rattle.document_reader.proofs.ReadingSteps.{tree_of_inline}
use Rattle.document_reader.proofs.PrintingSteps.{tree_of_spread, open_field}
use Rattle.plan_model.specs.GivenAlike.{AreGivenAlike}
use Rattle.plan_model.specs.Shortening.{AreSameNames, IsSameType}
use Rattle.distinct_selections.specs.Alike.{IsAlike, AreAlike}

none_there : {A : Type 0} (xs : List A) → length xs ≡ 0 → xs ≡ []
none_there [] is = refl
none_there (x ∷ xs) is = absurd (cc)

-- what is empty by its length
nothing_in : {A : Type 0} (v : Vec A Global) → true ≡ (vec_len v == 0) → v.items ≡ []
nothing_in v is = none_there v.items (omega (arith, v.ok.0, eqb-true (vec_len v) 0 (sym is)))

no_directives : (ds : Vec Directive Global) → true ≡ (vec_len ds == 0) → map directive_tree ds.items ≡ []
no_directives ds is = ap (map directive_tree) (nothing_in ds is)

abbrev AreAlikeTrees : List Selection → List Selection → Type 0
AreAlikeTrees ss ts = AreAlike (set_tree ss) (set_tree ts)

pub fields_alike : (f g : Field) (ss ts : List Selection) → true ≡ (vec_len g.directives == 0) → AreSameNames (names_of f.alias f.name) (names_of g.alias g.name) → AreGivenAlike (map named_value f.arguments.items) (map named_value g.arguments.items)
    → ss ≡ f.selections.items → ts ≡ g.selections.items → AreAlikeTrees ss ts → IsAlike (field_tree f) (field_tree g)
fields_alike f g ss ts bare names given is same alike =
    let inside : AreAlikeTrees f.selections.items g.selections.items = subst (λ (xs : List Selection). AreAlikeTrees xs g.selections.items) is (subst (λ (ys : List Selection). AreAlikeTrees ss ys) same alike) in
    subst (λ (t : SelectionTree). IsAlike t (field_tree g)) (sym (open_field f))
    (subst (λ (t : SelectionTree). IsAlike (field_selection (names_of f.alias f.name) (map named_value f.arguments.items) (map directive_tree f.directives.items) (set_tree f.selections.items)) t) (sym (open_field g))
    ((names, given), (no_directives g.directives bare, inside)))

pub spread_alike : (name other : Name) (ds : Vec Directive Global) (s : Selection) (directives : List DirectiveTree) → s ≡ SpreadSelection other ds → true ≡ (vec_len ds == 0) → name.text ≡ other.text → IsAlike (fragment_spread (identifier_of name) directives) (selection_tree s)
spread_alike name other ds s directives is bare same =
    subst (λ (t : SelectionTree). IsAlike (fragment_spread (identifier_of name) directives) t) (sym (ap selection_tree is ∙ tree_of_spread other ds)) (same, no_directives ds bare)

pub inline_alike : (on other : Option Name) (ds : Vec Directive Global) (others : Vec Selection Global) (ss ts : List Selection) (s : Selection) (directives : List DirectiveTree) → s ≡ InlineSelection other ds others → true ≡ (vec_len ds == 0) → IsSameType (maybe_identifier on) (maybe_identifier other)
    → ts ≡ others.items → AreAlikeTrees ss ts → IsAlike (inline_fragment (maybe_identifier on) directives (set_tree ss)) (selection_tree s)
inline_alike on other ds others ss ts s directives is bare type same alike =
    subst (λ (t : SelectionTree). IsAlike (inline_fragment (maybe_identifier on) directives (set_tree ss)) t) (sym (ap selection_tree is ∙ tree_of_inline other ds others))
    (type, (no_directives ds bare, subst (λ (xs : List Selection). AreAlikeTrees ss xs) same alike))

-- ---- the first is opened

pub spread_opened : (s : Selection) (name : Name) (ds : Vec Directive Global) (t : SelectionTree) → s ≡ SpreadSelection name ds → ((directives : List DirectiveTree) → IsAlike (fragment_spread (identifier_of name) directives) t) → IsAlike (selection_tree s) t
spread_opened s name ds t is alike = subst (λ (u : SelectionTree). IsAlike u t) (sym (ap selection_tree is ∙ tree_of_spread name ds)) (alike (map directive_tree ds.items))

pub inline_opened : (s : Selection) (on : Option Name) (ds : Vec Directive Global) (ss : Vec Selection Global) (given : List Selection) (t : SelectionTree) → s ≡ InlineSelection on ds ss → given ≡ ss.items
    → ((directives : List DirectiveTree) → IsAlike (inline_fragment (maybe_identifier on) directives (set_tree given)) t) → IsAlike (selection_tree s) t
inline_opened s on ds ss given t is same alike = subst (λ (u : SelectionTree). IsAlike u t) (sym (ap selection_tree is ∙ tree_of_inline on ds ss))
    (subst (λ (xs : List Selection). IsAlike (inline_fragment (maybe_identifier on) (map directive_tree ds.items) (set_tree xs)) t) same (alike (map directive_tree ds.items)))
