-- The types of a schema ask what those of its text ask, with the defaults filled.
use Rattle.std.proofs.Common.{◌≡◌, ◌+◌, ℕ, zero, suc, Bool, false, true≢false, List, [], ◌∷◌, ◌++◌, map, length, get_or, Option, None, Some, Ok, Err, refl, sym, ap, ap₂, ◌∙◌, subst}
use Rattle.std.specs.Prelude.{slice_get}
use Rattle.std.proofs.Math.Path.{fun_ext}
use Rattle.gql_base.specs.parts.Values.{ValueTree}
use Rattle.gql_base.specs.parts.Arguments.{DirectiveTree}
use Rattle.input_values.specs.values.Coerced.{CoercedTree}
use Rattle.input_values.specs.inputs.Shapes.{ShapeTree}
use Rattle.input_values.specs.coercion.Answers.{Answer}
use Rattle.input_values.specs.coercion.Forms.{absence_at, InputForm, object_form, field_form}
use Rattle.input_values.specs.defaults.Drafts.{default_value, default_absence, draft_absence, filled_field, filled_form, AreFilled}
use Rattle.schema_reader.specs.Schemas.{InputDefTree, BodyTree, schema_body, scalar_body, object_body, interface_body, union_body, enum_body, input_body, directive_body, DefinitionTree}
use Rattle.schema_rules.proofs.FirstFaults.{not_told}
use Rattle.schema_rules.specs.declared.kind.Kind.{Kind}
use Rattle.schema_rules.specs.declared.kind.Kind.TheVariants.{Scalar, Object, Interface, Union, Enum, Input}
use Rattle.schema_rules.specs.Items.{ItemTree, input_field_item, body_items, definition_items, items_of}
use Rattle.schema_rules.specs.TypeNames.{NamedKind, types_of}
use Rattle.schema_rules.specs.First.{AreGood}
use Rattle.schema_rules.proofs.FirstFaults.{none_are_good}
use Rattle.schema_model.specs.Drafts.{InputDraft, TypeDraft, input_draft, body_draft, definition_draft, scalar_draft, defined_drafts, drafts_of}
use Rattle.schema_model.specs.Defaults.{asked_field, asked_by, asked_or, text_asks, value_in, default_of}
use Rattle.schema_model.specs.BadDefault.{lacks_value, is_bad_draft, bad_default_at, bad_default}
use Rattle.schema_model.specs.Schemas.{input_of, type_with, types_from, no_type, schema_with}
use Rattle.schema_model.specs.SchemaViews.{schema_data}
use Rattle.schema_model.specs.InputForms.{form_by, type_form, input_forms, schema_forms}
use Rattle.schema_model.specs.declared.schema.Schema.{Schema}
use Rattle.schema_model.specs.Faults.{SchemaBuilds}

module _ (form : ℕ → InputForm) where
  -- each default has a value
  abbrev InputsGood : List InputDraft → Type 0
  InputsGood [] = Unit {0}
  InputsGood (d ∷ ds) = (is_bad_draft form d ≡ false) × InputsGood ds

  abbrev TypesGood : List TypeDraft → Type 0
  TypesGood [] = Unit {0}
  TypesGood (d ∷ ds) = InputsGood d.inputs × TypesGood ds

  -- ## One type

  by_value : (literal : ValueTree) (shape : ShapeTree) (a : Answer CoercedTree) → lacks_value (Some literal) (value_in a) ≡ false → absence_at (value_in a) shape ≡ default_absence a
  by_value literal shape (Ok t) good = refl
  by_value literal shape (Err path) good = absurd (true≢false good)

  absence_alike : (shape : ShapeTree) (default : Option ValueTree) → lacks_value default (default_of form shape default) ≡ false → absence_at (default_of form shape default) shape ≡ draft_absence (default_value form) shape default
  absence_alike shape None good = refl
  absence_alike shape (Some literal) good = by_value literal shape (default_value form shape literal) good

  inputs_alike : (ds : List InputDraft) → InputsGood ds → map field_form (map (input_of form) ds) ≡ map (filled_field (default_value form)) (map asked_field ds)
  inputs_alike [] good = refl
  inputs_alike (d ∷ ds) good = ap₂ (λ a rest. record { name = d.name; shape = d.shape; absence = a } ∷ rest) (absence_alike d.shape d.default good.0) (inputs_alike ds good.1)

  type_alike : (fields : List ℕ) (kind : Kind) (d : TypeDraft) → InputsGood d.inputs → form_by kind (type_with form fields d) ≡ filled_form (default_value form) (asked_by kind d)
  type_alike fields Scalar d good = refl
  type_alike fields Object d good = refl
  type_alike fields Interface d good = refl
  type_alike fields Union d good = refl
  type_alike fields Enum d good = refl
  type_alike fields Input d good = ap object_form (inputs_alike d.inputs good)

  types_alike : (first : ℕ) (ds : List TypeDraft) (of : ℕ) → TypesGood ds → type_form (get_or (types_from form first ds) of no_type) ≡ filled_form (default_value form) (asked_or (slice_get ds of))
  types_alike first [] of good = refl
  types_alike first (d ∷ ds) zero good = type_alike _ d.kind d good.0
  types_alike first (d ∷ ds) (suc of) good = types_alike (first + length d.fields) ds of good.1

  -- ## All types of a text

  types_append : (xs ys : List TypeDraft) → TypesGood xs → TypesGood ys → TypesGood (xs ++ ys)
  types_append [] ys first second = second
  types_append (x ∷ xs) ys first second = (first.0, types_append xs ys first.1 second)

  scalars_good : (types : List NamedKind) → TypesGood (map scalar_draft types)
  scalars_good [] = tt
  scalars_good (t ∷ types) = (tt, scalars_good types)

  module _ (types : List NamedKind) where
    abbrev AllGood : List ItemTree → Type 0
    AllGood items = AreGood (bad_default_at form types) items

    split : (xs ys : List ItemTree) → AllGood (xs ++ ys) → AllGood xs × AllGood ys
    unfolding AreGood
    split [] ys good = (tt, good)
    split (x ∷ xs) ys good = let rest = split xs ys good.1 in ((good.0, rest.0), rest.1)

    fields_good : (of : List ℕ) (fields : List InputDefTree) → AllGood (map (input_field_item of) fields) → InputsGood (map (input_draft types) fields)
    unfolding AreGood
    fields_good of [] good = tt
    fields_good of (f ∷ fields) good = (not_told (is_bad_draft form (input_draft types f)) _ good.0, fields_good of fields good.1)

    body_good : (name : List ℕ) (cost : Option (List ℕ)) (lax : Bool) (directives : List DirectiveTree) (body : BodyTree) → AllGood (body_items name directives body) → TypesGood (body_draft types name cost lax body)
    unfolding AreGood
    body_good name cost lax directives (schema_body roots) good = tt
    body_good name cost lax directives scalar_body good = (tt, tt)
    body_good name cost lax directives (object_body interfaces fields) good = (tt, tt)
    body_good name cost lax directives (interface_body interfaces fields) good = (tt, tt)
    body_good name cost lax directives (union_body members) good = (tt, tt)
    body_good name cost lax directives (enum_body values) good = (tt, tt)
    body_good name cost lax directives (input_body fields) good = (fields_good name fields good.1, tt)
    body_good name cost lax directives (directive_body arguments repeatable locations) good = tt

    text_good : (text : List DefinitionTree) → AllGood (items_of text) → TypesGood (defined_drafts types text)
    text_good [] good = tt
    text_good (d ∷ text) good =
        let two = split (definition_items d) (items_of text) good in
        types_append (definition_draft types d) (defined_drafts types text) (body_good d.1.0 _ _ d.1.1 d.1.2 two.0) (text_good text two.1)

    drafts_good : (text : List DefinitionTree) → bad_default form types (items_of text) ≡ None → TypesGood (drafts_of types text)
    drafts_good text none = types_append (defined_drafts types text) _ (text_good text (none_are_good (bad_default_at form types) (items_of text) none)) (scalars_good _)

-- ## The schema

own_forms : (text : List DefinitionTree) (s : Schema) (form : ℕ → InputForm) → AreFilled (text_asks text) form → bad_default form (types_of (items_of text)) (items_of text) ≡ None
    → schema_data s ≡ schema_with form (items_of text) (types_of (items_of text)) (drafts_of (types_of (items_of text)) text) → schema_forms s ≡ form
own_forms text s form filled none is =
    ap input_forms is ∙ fun_ext (λ of. types_alike form 0 (drafts_of (types_of (items_of text)) text) of (drafts_good form (types_of (items_of text)) text none) ∙ sym (filled of))

pub fills : (text : List DefinitionTree) (s : Schema) → SchemaBuilds text (Ok s) → AreFilled (text_asks text) (schema_forms s)
unfolding SchemaBuilds
fills text s built =
    let form = (built.1).0 in
    let filled = (built.1).1 in
    let same = own_forms text s form filled ((built.1).2).0 ((built.1).2).1 in
    subst (AreFilled (text_asks text)) (sym same) filled
