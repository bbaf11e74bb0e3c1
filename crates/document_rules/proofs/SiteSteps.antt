-- The parts of selections, one after another.
use Rattle.std.proofs.Common.{◌≡◌, ◌+◌, ◌<◌, ◌≤◌, ◌==◌, ℕ, not, List, [], ◌∷◌, ◌++◌, map, drop, length, get_or, Option, None, Some, refl, sym, ap, ◌∙◌, append_assoc, append-nil, arith}
use Rattle.std.proofs.lemmas.Bool.{ne_eqb}
use Rattle.std.proofs.lemmas.List.{drop_all, map_push}
use Rattle.gql_base.proofs.Lists.{at_front}
use Rattle.gql_base.specs.ways.Reading.{Identifier}
use Rattle.gql_base.specs.parts.Values.{NamedValue}
use Rattle.gql_base.specs.parts.Arguments.{DirectiveTree}
use Rattle.gql_base.specs.parts.Trees.{identifier_of, named_value, directive_tree}
use Rattle.gql_base.specs.declared.parts.trees.Name.{Name}
use Rattle.document_reader.specs.declared.trees.Selection.{Selection}
use Rattle.document_reader.specs.declared.trees.Field.{Field}
use Rattle.document_reader.proofs.PrintingSteps.{open_field}
use Rattle.document_reader.specs.Documents.{FieldNames, SelectionTree, field_selection, fragment_spread, inline_fragment, SelectionTrees}
use Rattle.document_reader.specs.Trees.{names_of, selection_tree, field_tree, set_tree}
use Rattle.schema_model.specs.SchemaData.{SchemaData}
use Rattle.document_rules.specs.declared.sites.Site.{Site as Part}
use Rattle.document_rules.specs.Sites.{Meaning, Site, field_site, spread_site, inline_site, name_of_field, has_selections, meaning_on, below_field, below_inline, sites_in, sites_in_one}
use Rattle.document_rules.specs.Views.{site_data}

pub name_of_names : (alias : Option Name) (name : Name) → name_of_field (names_of alias name) ≡ identifier_of name
name_of_names None name = refl
name_of_names (Some alias) name = refl

pub has_some : (ss : List Selection) → has_selections (set_tree ss) ≡ not (length ss == 0)
has_some [] = refl
has_some (x ∷ ss) = ap not (sym (ne_eqb (length (x ∷ ss)) 0 (λ e. absurd (omega (arith, e)))))

-- a part that was put behind others, and then those below it
pub put_then : (old pushed : List Part) (x : Part) (below new : List Site) (here : Site) → pushed ≡ old ++ (x ∷ []) → site_data x ≡ here → new ≡ map site_data pushed ++ below → new ≡ map site_data old ++ (here ∷ below)
put_then old pushed x below new here grown is rest =
    rest ∙ (ap (λ l. map site_data l ++ below) grown ∙ (ap (λ l. l ++ below) (map_push site_data old x)
    ∙ (append_assoc (map site_data old) (site_data x ∷ []) below ∙ ap (λ h. map site_data old ++ (h ∷ below)) is)))

pub put_alone : (old pushed : List Part) (x : Part) (here : Site) → pushed ≡ old ++ (x ∷ []) → site_data x ≡ here → map site_data pushed ≡ map site_data old ++ (here ∷ [])
put_alone old pushed x here grown is = ap (map site_data) grown ∙ (map_push site_data old x ∙ ap (λ h. map site_data old ++ (h ∷ [])) is)

module _ (s : SchemaData) (within : Option ℕ) (parent : Option ℕ) where
  pub sites_next : (ss : List Selection) (at : ℕ) (x : Selection) (old new whole : List Site) → at < length ss → x ≡ get_or ss at x → new ≡ old ++ sites_in_one s within parent (selection_tree x)
      → old ++ sites_in s within parent (set_tree (drop at ss)) ≡ whole → new ++ sites_in s within parent (set_tree (drop (at + 1) ss)) ≡ whole
  unfolding sites_in
  sites_next ss at x old new whole here is grown before =
      let rest : List Site = sites_in s within parent (set_tree (drop (at + 1) ss)) in
      ap (λ l. l ++ rest) grown ∙ (append_assoc old (sites_in_one s within parent (selection_tree x)) rest
      ∙ (ap (λ l. old ++ sites_in s within parent (set_tree l)) (sym (at_front ss at x here is)) ∙ before))

  pub sites_end : (ss : List Selection) (at : ℕ) (old whole : List Site) → length ss ≤ at → old ++ sites_in s within parent (set_tree (drop at ss)) ≡ whole → old ≡ whole
  unfolding sites_in
  sites_end ss at old whole past before = sym (append-nil old) ∙ (ap (λ l. old ++ sites_in s within parent (set_tree l)) (sym (drop_all at ss past)) ∙ before)

  pub sites_of_field : (x : SelectionTree) (names : FieldNames) (arguments : List NamedValue) (directives : List DirectiveTree) (below : SelectionTrees) (name : Identifier) → x ≡ field_selection names arguments directives below → name_of_field names ≡ name
      → field_site (meaning_on s parent name.0) name arguments directives (has_selections below) ∷ sites_in s within (below_field s (meaning_on s parent name.0)) below ≡ sites_in_one s within parent x
  unfolding sites_in
  sites_of_field x names arguments directives below name is named =
      ap (λ (i : Identifier). field_site (meaning_on s parent i.0) i arguments directives (has_selections below) ∷ sites_in s within (below_field s (meaning_on s parent i.0)) below) (sym named)
      ∙ ap (sites_in_one s within parent) (sym is)

  pub sites_of_spread : (x : SelectionTree) (name : Identifier) (directives : List DirectiveTree) → x ≡ fragment_spread name directives → spread_site within name directives ∷ [] ≡ sites_in_one s within parent x
  unfolding sites_in
  sites_of_spread x name directives is = ap (sites_in_one s within parent) (sym is)

  pub sites_of_inline : (x : SelectionTree) (on : Option Identifier) (directives : List DirectiveTree) (below : SelectionTrees) → x ≡ inline_fragment on directives below
      → inline_site on directives ∷ sites_in s within (below_inline s parent on) below ≡ sites_in_one s within parent x
  unfolding sites_in
  sites_of_inline x on directives below is = ap (sites_in_one s within parent) (sym is)

  pub field_gathered : (f : Field) (m : Meaning) (name : List ℕ) (below : Option ℕ) (given : List Selection) (old pushed : List Part) (x : Part) (new : List Site) → pushed ≡ old ++ (x ∷ [])
      → site_data x ≡ field_site m (identifier_of f.name) (map named_value f.arguments.items) (map directive_tree f.directives.items) (not (length f.selections.items == 0))
      → m ≡ meaning_on s parent name → name ≡ f.name.text → below ≡ below_field s m → given ≡ f.selections.items
      → new ≡ map site_data pushed ++ sites_in s within below (set_tree given) → new ≡ map site_data old ++ sites_in_one s within parent (field_tree f)
  field_gathered f m name below given old pushed x new grown seen means named under is rest =
      let same : m ≡ meaning_on s parent f.name.text = means ∙ ap (meaning_on s parent) named in
      let arguments : List NamedValue = map named_value f.arguments.items in
      let directives : List DirectiveTree = map directive_tree f.directives.items in
      put_then old pushed x (sites_in s within (below_field s (meaning_on s parent f.name.text)) (set_tree f.selections.items)) new _ grown
      (seen ∙ (ap (λ k. field_site k (identifier_of f.name) arguments directives (not (length f.selections.items == 0))) same
      ∙ ap (λ b. field_site (meaning_on s parent f.name.text) (identifier_of f.name) arguments directives b) (sym (has_some f.selections.items))))
      (rest ∙ (ap (λ o. map site_data pushed ++ sites_in s within o (set_tree given)) (under ∙ ap (below_field s) same)
      ∙ ap (λ l. map site_data pushed ++ sites_in s within (below_field s (meaning_on s parent f.name.text)) (set_tree l)) is))
      ∙ ap (λ l. map site_data old ++ l) (sites_of_field (field_tree f) (names_of f.alias f.name) arguments directives (set_tree f.selections.items) (identifier_of f.name) (open_field f) (name_of_names f.alias f.name))

  pub inline_gathered : (x : SelectionTree) (on : Option Identifier) (directives : List DirectiveTree) (selections given : List Selection) (below : Option ℕ) (old pushed : List Part) (part : Part) (new : List Site)
      → x ≡ inline_fragment on directives (set_tree selections) → pushed ≡ old ++ (part ∷ []) → site_data part ≡ inline_site on directives → below ≡ below_inline s parent on → given ≡ selections
      → new ≡ map site_data pushed ++ sites_in s within below (set_tree given) → new ≡ map site_data old ++ sites_in_one s within parent x
  inline_gathered x on directives selections given below old pushed part new is grown seen under same rest =
      put_then old pushed part (sites_in s within (below_inline s parent on) (set_tree selections)) new _ grown seen
      (rest ∙ (ap (λ o. map site_data pushed ++ sites_in s within o (set_tree given)) under
      ∙ ap (λ l. map site_data pushed ++ sites_in s within (below_inline s parent on) (set_tree l)) same))
      ∙ ap (λ l. map site_data old ++ l) (sites_of_inline x on directives (set_tree selections) is)
