-- What is planned over a schema of schemas that passes the test has its form.
use Rattle.std.proofs.Common.{◌≡◌, ◌⊎◌, inl, inr, ℕ, true, false, List, [], Some, sym, ap, ap₂, subst, ◌∙◌}
use Rattle.std.specs.Str.{bytes_eq}
use Rattle.std.proofs.lemmas.Bool.{eqb-true, true≢false}
use Rattle.cost_num.specs.declared.TheConstants.{UNIT}
use Rattle.schema_model.specs.SchemaData.{type_at, field_named}
use Rattle.schema_model.specs.SchemaViews.{schema_data}
use Rattle.cost_directives.specs.Weights.{type_in}
use Rattle.cost_directives.proofs.FirstsFound.{both}
use Rattle.plan_model.specs.SelectedFields.{Setting, FieldCall, object_place, lacks_types, place_at}
use Rattle.asked_fields.specs.declared.asked.Argument.{Argument}
use Rattle.asked_fields.specs.Asked.{IsOfOneType}
use Rattle.meta_schema.specs.declared.schema.MetaSchema.{MetaSchema}
use Rattle.meta_schema.specs.MetaForms.{meta_name}
use Rattle.meta_schema.specs.Fields.{what_asked}
use Rattle.meta_schema.specs.MetaFields.{object_types, IsObjectType, IsMetaField, HasMetaForm}
use Rattle.meta_schema.specs.MetaTests.{is_object_type, no_argument, is_meta}
use Rattle.meta_schema.specs.MetaSchemas.{IsOver}
use Rattle.meta_schema.specs.TestedSchemas.{name_of_queries, FindsItsFields, HasFreeArguments}
use Rattle.meta_schema.proofs.Same.{same_text, of_all}
use Rattle.meta_schema.proofs.BuiltFields.{IsFieldOf}
use Rattle.meta_schema.proofs.Passed.{Passes, passed, field_passes}
use Rattle.meta_schema.proofs.Leaves.{leaves_hold}
use Rattle.meta_schema.proofs.FoundFields.{IsAsked, asked_by_name, FieldFound, is_typename, is_none, is_known, field_found, none_placed, typename_asked, name_planned, known_planned, one_type_of}

-- ---- a setting over a schema that passes

module _ (query : List ℕ) (e : Setting) (finds : FindsItsFields e.schema) (free : HasFreeArguments e.schema e.weights) (p : Passes query e.schema e.weights) where
  field_of_name : (T f : ℕ) (name : List ℕ) → field_named e.schema T name ≡ Some f → IsFieldOf e.schema T name f
  field_of_name T f name found = let x = finds T f name found in record { named = x.0; owned = x.1; within = x.2 }

  asked_known : (T f : ℕ) (name : List ℕ) (a : Argument) → field_named e.schema T name ≡ Some f → IsAsked e.schema e.weights f T (what_asked name a)
  asked_known T f name a found =
      let x = field_of_name T f name found in
      asked_by_name e.schema e.weights f T name a x (field_passes query e.schema e.weights p f x.within)

  abbrev Found : ℕ → FieldCall → Argument → Type 0
  Found T c a = (place_at e T c ≡ object_place []) ⊎ IsMetaField e T c (what_asked c.name a)

  by_meaning : (T : ℕ) (c : FieldCall) (a : Argument) → FieldFound e T c.name → Found T c a
  by_meaning T c a (is_typename is means) = inr (subst (λ w. IsMetaField e T c w) (sym (typename_asked e T c a is)) (name_planned e T c means))
  by_meaning T c a (is_none means) = inl (none_placed e T c means)
  by_meaning T c a (is_known f found means) =
      inr (known_planned e T c f (what_asked c.name a) means (asked_known T f c.name a found) (λ args. free f args (field_of_name T f c.name found).within))

  found_at : (T : ℕ) (c : FieldCall) (a : Argument) → Found T c a
  found_at T c a = by_meaning T c a (field_found e T c.name)

  one_type_at : (T : ℕ) (c : FieldCall) → Found T c no_argument → IsOfOneType (place_at e T c)
  one_type_at T c (inl none) = subst IsOfOneType (sym none) tt
  one_type_at T c (inr x) = one_type_of e T c (what_asked c.name no_argument) x

  has_field : (T : ℕ) (c : FieldCall) (a : Argument) → lacks_types (place_at e T c) ≡ false → Found T c a → IsMetaField e T c (what_asked c.name a)
  has_field T c a there (inl none) = absurd (true≢false (sym (ap lacks_types none) ∙ there))
  has_field T c a there (inr x) = x

  object_passes : (T : ℕ) → IsObjectType T → is_object_type query e.schema e.weights T ≡ true
  object_passes T is = of_all (is_object_type query e.schema e.weights) object_types T is p.objects

  has_form : HasMetaForm query e
  has_form = record {
    root = p.root;
    one_type = λ T c. one_type_at T c (found_at T c no_argument);
    fields = λ T c a there. has_field T c a there (found_at T c a);
    inputs = λ T f name a found. (asked_known T f name a found).inputs;
    weights = λ T is. eqb-true (type_in e.weights T).weight UNIT ((both (bytes_eq (type_at e.schema T).name (meta_name query T)) _ (object_passes T is)).1);
    names = λ T is. same_text (type_at e.schema T).name (meta_name query T) ((both (bytes_eq (type_at e.schema T).name (meta_name query T)) _ (object_passes T is)).0);
    leaves = leaves_hold e.schema p.leaves;
  }

pub has_meta_form : (m : MetaSchema) (e : Setting) → IsOver m e → HasMetaForm (name_of_queries (schema_data m.schema)) e
has_meta_form m e over =
    let query : List ℕ = name_of_queries (schema_data m.schema) in
    let tested : is_meta query e.schema e.weights ≡ true = ap₂ (is_meta query) over.schema over.weights ∙ m.tested in
    let free : HasFreeArguments e.schema e.weights =
    subst (λ s. HasFreeArguments s e.weights) (sym over.schema) (subst (HasFreeArguments (schema_data m.schema)) (sym over.weights) m.free) in
    has_form query e (subst FindsItsFields (sym over.schema) m.finds) free (passed query e.schema e.weights tested)
