-- The fields that selections have without the offsets of names are their own fields without these.
use Rattle.std.proofs.Common.{◌≡◌, ⊎_elim, ℕ, zero, suc, ◌+◌, List, [], ◌∷◌, ◌++◌, map, Bool, true, false, bytes_eq, Option, Some, None, refl, sym, ap, ap₂, ◌∙◌}
use Rattle.std.specs.Prelude.{option_map, find, if◌then◌else◌}
use Rattle.std.proofs.lemmas.Bool.{cases_Bool}
use Rattle.std.proofs.lemmas.List.{map-append, length-map}
use Rattle.gql_base.specs.ways.Reading.{Identifier}
use Rattle.document_reader.specs.Documents.{SelectionTree, field_selection, fragment_spread, inline_fragment, SelectionTrees, no_selection, selection_then}
use Rattle.document_reader.specs.PlacelessDocuments.{maybe_name_placeless, argument_placeless, selection_placeless, selections_placeless}
use Rattle.document_rules.specs.Parts.{FragmentData, fragment_name}
use Rattle.document_rules.specs.Sites.{composite_named, below_inline}
use Rattle.schema_model.specs.SchemaData.{SchemaData}
use Rattle.plan_model.specs.SelectedFields.{Setting, FieldCall}
use Rattle.plan_model.specs.Collecting.{is_included, applies_if_named, applies_by_name, fragment_named, nesting, CollectedField, WrittenSelections, fields_of, fields_in, fields_written, fields_entered, fields_spread, collected_to, collected}
use Rattle.stripped_responses.proofs.RewrittenFields.{map_where}
use Rattle.received_requests.specs.Offsets.{fragment_placeless, setting_placeless, written_placeless}
use Rattle.received_requests.proofs.OffsetsLiterals.{same_inclusion}

abbrev pub call_placeless : FieldCall → FieldCall
call_placeless c = record c { arguments = map argument_placeless c.arguments }

abbrev pub field_placeless : CollectedField → CollectedField
field_placeless f = record { parent = f.parent; key = f.key; call = call_placeless f.call; below = selections_placeless f.below }

same_below : (s : SchemaData) (parent : Option ℕ) (on : Option Identifier) → below_inline s parent (maybe_name_placeless on) ≡ below_inline s parent on
same_below s None on = refl
same_below s (Some parent) None = refl
same_below s (Some parent) (Some on) = refl

same_application : (s : SchemaData) (T : ℕ) (on : Option Identifier) → applies_if_named s T (maybe_name_placeless on) ≡ applies_if_named s T on
same_application s T None = refl
same_application s T (Some on) = refl

named_fragment : (fs : List FragmentData) (name : List ℕ) → find (λ f. bytes_eq (fragment_name f) name) (map fragment_placeless fs) ≡ option_map fragment_placeless (find (λ f. bytes_eq (fragment_name f) name) fs)
named_fragment [] name = refl
named_fragment (f ∷ fs) name = ⊎_elim
    (λ (is : bytes_eq (fragment_name f) name ≡ true). rw (is) refl)
    (λ (isnt : bytes_eq (fragment_name f) name ≡ false). rw (isnt) (named_fragment fs name))
    (cases_Bool (bytes_eq (fragment_name f) name))

module _ (e : Setting) where
  abbrev pub e' : Setting
  e' = setting_placeless e

  same_fragment : (name : List ℕ) → fragment_named e' name ≡ option_map fragment_placeless (fragment_named e name)
  unfolding fragment_named
  same_fragment name = named_fragment e.fragments name

  same_nesting : nesting e' ≡ nesting e
  same_nesting = ap (λ (n : ℕ). n + 2) (length-map e.fragments fragment_placeless)

  module _ (T : ℕ) where
    -- what a fragment gives, and what it gives without offsets
    abbrev AreSame : (List ℕ → List CollectedField) → (List ℕ → List CollectedField) → Type 0
    AreSame f g = (name : List ℕ) → g name ≡ map field_placeless (f name)

    mutual
      unfolding selection_placeless

      same_one : (f g : List ℕ → List CollectedField) (parent : Option ℕ) (x : SelectionTree) → AreSame f g → fields_of e' T g parent (selection_placeless x) ≡ map field_placeless (fields_of e T f parent x)
      same_one f g parent (field_selection (name, None) arguments directives below) same = refl
      same_one f g parent (field_selection (alias, Some name) arguments directives below) same = refl
      same_one f g parent (fragment_spread name directives) same = same name.0
      same_one f g parent (inline_fragment on directives below) same =
          ap₂ (λ (b : Bool) (from : Option ℕ). if b then fields_in e' T g from (selections_placeless below) else []) (same_application e.schema T on) (same_below e.schema parent on)
          ∙ (ap (λ (zs : List CollectedField). if applies_if_named e.schema T on then zs else []) (same_all f g (below_inline e.schema parent on) below same)
          ∙ map_where field_placeless (applies_if_named e.schema T on) (fields_in e T f (below_inline e.schema parent on) below))

      same_all : (f g : List ℕ → List CollectedField) (parent : Option ℕ) (xs : SelectionTrees) → AreSame f g → fields_in e' T g parent (selections_placeless xs) ≡ map field_placeless (fields_in e T f parent xs)
      same_all f g parent no_selection same = refl
      same_all f g parent (selection_then x others) same =
          ap₂ (λ (zs ys : List CollectedField). zs ++ ys)
          (ap₂ (λ (b : Bool) (zs : List CollectedField). if b then zs else []) (same_inclusion e.values x) (same_one f g parent x same) ∙ map_where field_placeless (is_included e.values x) (fields_of e T f parent x))
          (same_all f g parent others same)
          ∙ sym (map-append field_placeless (if is_included e.values x then fields_of e T f parent x else []) (fields_in e T f parent others))

    same_entered : (f g : List ℕ → List CollectedField) (o : Option FragmentData) → AreSame f g → fields_entered e' T g (option_map fragment_placeless o) ≡ map field_placeless (fields_entered e T f o)
    same_entered f g None same = refl
    same_entered f g (Some b) same =
        ap (λ (zs : List CollectedField). if applies_by_name e.schema T b.on.0 then zs else []) (same_all f g (composite_named e.schema b.on.0) b.below same)
        ∙ map_where field_placeless (applies_by_name e.schema T b.on.0) (fields_in e T f (composite_named e.schema b.on.0) b.below)

    same_spread : (depth : ℕ) → AreSame (fields_spread e T depth) (fields_spread e' T depth)
    unfolding fields_spread
    same_spread zero name = refl
    same_spread (suc depth) name = ap (fields_entered e' T (fields_spread e' T depth)) (same_fragment name) ∙ same_entered (fields_spread e T depth) (fields_spread e' T depth) (fragment_named e name) (same_spread depth)

    same_to : (depth : ℕ) (ws : List WrittenSelections) → collected_to e' T depth (map written_placeless ws) ≡ map field_placeless (collected_to e T depth ws)
    same_to depth [] = refl
    same_to depth (w ∷ ws) =
        ap₂ (λ (zs ys : List CollectedField). zs ++ ys) (same_all (fields_spread e T depth) (fields_spread e' T depth) w.0 w.1 (same_spread depth)) (same_to depth ws)
        ∙ sym (map-append field_placeless (fields_written e T (fields_spread e T depth) w) (collected_to e T depth ws))

    pub same_fields : (ws : List WrittenSelections) → collected e' T (map written_placeless ws) ≡ map field_placeless (collected e T ws)
    unfolding collected
    same_fields ws = ap (λ (depth : ℕ). collected_to e' T depth (map written_placeless ws)) same_nesting ∙ same_to (nesting e) ws
