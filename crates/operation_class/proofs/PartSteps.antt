-- The parts of selections, and how they wait.
use Rattle.std.proofs.Common.{◌≡◌, ℕ, List, [], ◌∷◌, ◌++◌, map, drop, length, reverse, Option, None, Some, refl, sym, ap, ◌∙◌, append_assoc}
use Rattle.std.proofs.lemmas.List.{length-reverse, length-map, reverse-append}
use Rattle.gql_base.specs.declared.parts.trees.Name.{Name}
use Rattle.gql_base.specs.ways.Reading.{Identifier}
use Rattle.gql_base.specs.parts.Values.{NamedValue}
use Rattle.gql_base.specs.parts.Arguments.{DirectiveTree}
use Rattle.gql_base.specs.parts.Trees.{identifier_of}
use Rattle.document_reader.specs.declared.trees.Selection.{Selection}
use Rattle.document_reader.specs.Documents.{SelectionTree, SelectionTrees, field_selection, fragment_spread, inline_fragment}
use Rattle.document_reader.specs.Trees.{selection_tree, set_tree, names_of}
use Rattle.document_rules.specs.Sites.{name_of_field}
use Rattle.operation_class.specs.declared.root_parts.Part.{Part}
use Rattle.operation_class.specs.RootParts.{RootPart, field_part, spread_part, root_parts, parts_of_one, part_data, waiting}

-- what is pushed waits in front
pub waiting_pushed : (parts : List Part) (p : Part) → waiting (parts ++ (p ∷ [])) ≡ part_data p ∷ waiting parts
waiting_pushed parts p = ap (map part_data) (reverse-append parts (p ∷ []))

pub length_waiting : (parts : List Part) → length (waiting parts) ≡ length parts
length_waiting parts = length-map (reverse parts) part_data ∙ length-reverse parts

pub no_parts : root_parts (set_tree []) ≡ []
unfolding root_parts
no_parts = refl

parts_of_first : (x : Selection) (rest : List Selection) → root_parts (set_tree (x ∷ rest)) ≡ parts_of_one (selection_tree x) ++ root_parts (set_tree rest)
unfolding root_parts
parts_of_first x rest = refl

-- selections from the end on: one more is put in front
pub one_more : (selections : List Selection) (at next : ℕ) (x : Selection) (new mid old : List RootPart) → drop at selections ≡ x ∷ drop next selections
    → new ≡ parts_of_one (selection_tree x) ++ mid → mid ≡ root_parts (set_tree (drop next selections)) ++ old → new ≡ root_parts (set_tree (drop at selections)) ++ old
one_more selections at next x new mid old front put before =
    let one : List RootPart = parts_of_one (selection_tree x) in
    let rest : List RootPart = root_parts (set_tree (drop next selections)) in
    put ∙ ap (λ l. one ++ l) before ∙ sym (append_assoc one rest old)
    ∙ ap (λ l. l ++ old) (sym (parts_of_first x (drop next selections)) ∙ ap (λ l. root_parts (set_tree l)) (sym front))

pub inline_put : (x : SelectionTree) (on : Option Identifier) (directives : List DirectiveTree) (below given : SelectionTrees) (new old : List RootPart)
    → x ≡ inline_fragment on directives below → given ≡ below → new ≡ root_parts given ++ old → new ≡ parts_of_one x ++ old
unfolding root_parts
inline_put x on directives below given new old is same put = put ∙ ap (λ b. root_parts b ++ old) same ∙ ap (λ y. parts_of_one y ++ old) (sym is)

-- an alias isn't looked at
own_name : (alias : Option Name) (name : Name) → name_of_field (names_of alias name) ≡ identifier_of name
own_name None name = refl
own_name (Some alias) name = refl

pub field_put : (x : SelectionTree) (alias : Option Name) (name : Name) (arguments : List NamedValue) (directives : List DirectiveTree) (below : SelectionTrees) (old new : List Part) (p : Part)
    → x ≡ field_selection (names_of alias name) arguments directives below → new ≡ old ++ (p ∷ []) → part_data p ≡ field_part (identifier_of name) → waiting new ≡ parts_of_one x ++ waiting old
unfolding root_parts
field_put x alias name arguments directives below old new p is pushed seen =
    ap waiting pushed ∙ waiting_pushed old p ∙ ap (λ d. d ∷ waiting old) (seen ∙ ap field_part (sym (own_name alias name))) ∙ ap (λ y. parts_of_one y ++ waiting old) (sym is)

pub spread_put : (x : SelectionTree) (name : Identifier) (directives : List DirectiveTree) (old new : List Part) (p : Part)
    → x ≡ fragment_spread name directives → new ≡ old ++ (p ∷ []) → part_data p ≡ spread_part name.0 → waiting new ≡ parts_of_one x ++ waiting old
unfolding root_parts
spread_put x name directives old new p is pushed seen =
    ap waiting pushed ∙ waiting_pushed old p ∙ ap (λ d. d ∷ waiting old) seen ∙ ap (λ y. parts_of_one y ++ waiting old) (sym is)
