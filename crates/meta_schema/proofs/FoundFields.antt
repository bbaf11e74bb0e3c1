-- What a field asks but for its argument, and what it is where anything may stand at it.
use Rattle.std.proofs.Common.{◌≡◌, inl, inr, ℕ, Bool, true, false, not, List, [], Option, None, Some, refl, sym, ap, ap₂, subst, ◌∙◌}
use Rattle.std.specs.Prelude.{nat_eq, codes, if◌then◌else◌}
use Rattle.std.specs.Str.{bytes_eq}
use Rattle.std.proofs.lemmas.Bool.{cases_Bool, eqb-true}
use Rattle.response_model.specs.Plan.{LeafType, numbered}
use Rattle.schema_model.specs.SchemaData.{SchemaData, field_at, field_named, possible}
use Rattle.schema_model.specs.Arguments.{ArgData}
use Rattle.cost_directives.specs.Weights.{WeightsData, type_in, field_in, argument_cost_in}
use Rattle.cost_directives.proofs.FirstsFound.{both}
use Rattle.document_rules.specs.Sites.{no_such_field, name_of_type, known_field, is_composite, type_of_field, typename, meaning_on, field_or_none}
use Rattle.plan_model.specs.SelectedFields.{Setting, FieldCall, Place, leaf_place, object_place, form_of as form_meant, form_of_shape, form_at, place_at, place_of, place_of_type, weight_at, meaning_weight, cost_at, cost_of, arguments_at, if_coerced, fill_of}
use Rattle.asked_fields.specs.declared.asked.Argument.{Argument}
use Rattle.asked_fields.specs.Asked.{IsOfOneType}
use Rattle.schema_facts.specs.declared.table.What.{What}
use Rattle.schema_facts.specs.declared.table.What.TheVariants as what
use Rattle.meta_schema.specs.MetaTypes.{weight_of}
use Rattle.meta_schema.specs.MetaForms.{form_of, below_of, leaf_type_of, is_of}
use Rattle.meta_schema.specs.Fields.{what_asked, of_schema_asked}
use Rattle.meta_schema.specs.MetaFields.{arguments_of, place_by, meta_fill, IsMetaField}
use Rattle.meta_schema.specs.MetaTests.{same_form, same_inputs, is_numbered, is_only, may_stand, is_asked_field, no_argument, is_field}
use Rattle.meta_schema.proofs.Same.{same_text, forms, inputs, leaf_numbered, only}
use Rattle.meta_schema.proofs.BuiltFields.{IsFieldOf}

-- ---- what is asked, whatever the argument is

by_flags : {X : Type 0} (of : What → X) (other : What) (a b : Argument) → of (what.Named a.place) ≡ of (what.Named b.place) → of (what.Fields a.is_true) ≡ of (what.Fields b.is_true)
    → of (what.EnumValues a.is_true) ≡ of (what.EnumValues b.is_true) → (x y z : Bool)
    → of (if x then what.Named a.place else if y then what.Fields a.is_true else if z then what.EnumValues a.is_true else other)
    ≡ of (if x then what.Named b.place else if y then what.Fields b.is_true else if z then what.EnumValues b.is_true else other)
by_flags of other a b named fields values true y z = named
by_flags of other a b named fields values false true z = fields
by_flags of other a b named fields values false false true = values
by_flags of other a b named fields values false false false = refl

module _ (name : List ℕ) (a b : Argument) where
  alike : {X : Type 0} (of : What → X) → of (what.Named a.place) ≡ of (what.Named b.place) → of (what.Fields a.is_true) ≡ of (what.Fields b.is_true)
      → of (what.EnumValues a.is_true) ≡ of (what.EnumValues b.is_true) → of (what_asked name a) ≡ of (what_asked name b)
  alike of named fields values = by_flags of (of_schema_asked name) a b named fields values (bytes_eq name (codes "__type")) (bytes_eq name (codes "fields")) (bytes_eq name (codes "enumValues"))

  own_alike : (T : ℕ) → is_of T (what_asked name a) ≡ is_of T (what_asked name b)
  own_alike T = alike (is_of T) refl refl refl

  form_alike : (T : ℕ) → form_of T (what_asked name a) ≡ form_of T (what_asked name b)
  form_alike T = alike (form_of T) refl refl refl

  weight_alike : weight_of (what_asked name a) ≡ weight_of (what_asked name b)
  weight_alike = alike weight_of refl refl refl

  below_alike : below_of (what_asked name a) ≡ below_of (what_asked name b)
  below_alike = alike below_of refl refl refl

  leaf_alike : leaf_type_of (what_asked name a) ≡ leaf_type_of (what_asked name b)
  leaf_alike = alike leaf_type_of refl refl refl

  arguments_alike : arguments_of (what_asked name a) ≡ arguments_of (what_asked name b)
  arguments_alike = alike arguments_of refl refl refl

-- ---- what the test tells of a field

pub record IsAsked (s : SchemaData) (w : WeightsData) (f T : ℕ) (asked : What) : Type 0 where
  pub own : is_of T asked ≡ true
  pub form : form_of_shape (field_at s f).shape ≡ form_of T asked
  pub inputs : (field_at s f).arguments ≡ arguments_of asked
  pub weight : (field_in w f).weight ≡ weight_of asked
  pub stands : may_stand s w (type_of_field s f) (leaf_type_of asked) (below_of asked) ≡ true

told : (s : SchemaData) (w : WeightsData) (f : ℕ) (asked : What) → is_asked_field s w f (field_at s f) asked ≡ true → IsAsked s w f (field_at s f).owner asked
told s w f asked passes =
    let field = field_at s f in
    let owned = both (is_of field.owner asked) _ passes in
    let formed = both (same_form (form_of_shape field.shape) (form_of field.owner asked)) _ owned.1 in
    let taken = both (same_inputs (arguments_of asked) field.arguments) _ formed.1 in
    let weighed = both (nat_eq (field_in w f).weight (weight_of asked)) _ taken.1 in
    record {
      own = owned.0;
      form = forms (form_of_shape field.shape) (form_of field.owner asked) formed.0;
      inputs = sym (inputs (arguments_of asked) field.arguments taken.0);
      weight = eqb-true (field_in w f).weight (weight_of asked) weighed.0;
      stands = weighed.1;
    }

-- of the name and the type that it has, with any argument
pub asked_by_name : (s : SchemaData) (w : WeightsData) (f T : ℕ) (name : List ℕ) (a : Argument) → IsFieldOf s T name f → is_field s w f ≡ true → IsAsked s w f T (what_asked name a)
asked_by_name s w f T name a x passes =
    let own = told s w f (what_asked (field_at s f).name no_argument) passes in
    let here : IsAsked s w f T (what_asked name no_argument) = subst (λ n. IsAsked s w f T (what_asked n no_argument)) x.named (subst (λ U. IsAsked s w f U (what_asked (field_at s f).name no_argument)) x.owned own) in
    record {
      own = own_alike name a no_argument T ∙ here.own;
      form = here.form ∙ form_alike name no_argument a T;
      inputs = here.inputs ∙ arguments_alike name no_argument a;
      weight = here.weight ∙ weight_alike name no_argument a;
      stands = ap₂ (may_stand s w (type_of_field s f)) (leaf_alike name a no_argument) (below_alike name a no_argument) ∙ here.stands;
    }

-- ---- what may stand there

none_composite : (s : SchemaData) (of : ℕ) (leaf place : Place) → is_composite s of ≡ false → (if is_composite s of then place else leaf) ≡ leaf
none_composite s of leaf place none = rw none refl

composite : (s : SchemaData) (of : ℕ) (leaf place : Place) → is_composite s of ≡ true → (if is_composite s of then place else leaf) ≡ place
composite s of leaf place is = rw is refl

negated : (b : Bool) → not b ≡ true → b ≡ false
negated true no_more = absurd (cc)
negated false no_more = refl

stands_there : (e : Setting) (T of : ℕ) (leaf : LeafType) (below : Option ℕ) → may_stand e.schema e.weights of leaf below ≡ true → place_of_type e of ≡ place_by e.schema T leaf below
stands_there e T of leaf (Some U) may =
    let parts = both (is_composite e.schema of) (is_only U (possible e.schema of)) may in
    composite e.schema of _ (object_place (possible e.schema of)) parts.0 ∙ ap object_place (only U (possible e.schema of) parts.1)
stands_there e T of leaf None may =
    let parts = both (not (is_composite e.schema of)) _ may in
    let weighed = both (is_numbered of leaf) _ parts.1 in
    let filled = ap₂ (λ (weight : ℕ) (type : LeafType). leaf_place type weight (meta_fill e.schema T type)) (eqb-true (type_in e.weights of).weight 0 weighed.1) (sym (leaf_numbered of leaf weighed.0)) in
    none_composite e.schema of (leaf_place (numbered of) (type_in e.weights of).weight (fill_of e.schema of)) _ (negated (is_composite e.schema of) parts.0) ∙ filled

-- ---- a field where it is planned

-- The name of a type may stand there, nothing, or what a field of the schema has.
pub data FieldFound (e : Setting) (T : ℕ) (name : List ℕ) : Type 0 where
  is_typename : name ≡ typename → meaning_on e.schema (Some T) name ≡ name_of_type → FieldFound e T name
  is_none : meaning_on e.schema (Some T) name ≡ no_such_field → FieldFound e T name
  is_known : (f : ℕ) → field_named e.schema T name ≡ Some f → meaning_on e.schema (Some T) name ≡ known_field f → FieldFound e T name

by_field : (e : Setting) (T : ℕ) (name : List ℕ) (found : Option ℕ) → field_named e.schema T name ≡ found → meaning_on e.schema (Some T) name ≡ field_or_none e.schema (field_named e.schema T name) → FieldFound e T name
by_field e T name None is means = is_none (means ∙ ap (field_or_none e.schema) is)
by_field e T name (Some f) is means = is_known f is (means ∙ ap (field_or_none e.schema) is)

pub field_found : (e : Setting) (T : ℕ) (name : List ℕ) → FieldFound e T name
field_found e T name = elim (cases_Bool (bytes_eq name typename)) [
  | inl same ↦ is_typename (same_text name typename same) (rw same refl)
  | inr other ↦ by_field e T name (field_named e.schema T name) refl (rw other refl)
]

module _ (e : Setting) (T : ℕ) (c : FieldCall) where
  pub none_placed : meaning_on e.schema (Some T) c.name ≡ no_such_field → place_at e T c ≡ object_place []
  unfolding place_at
  none_placed means = ap (place_of e T) means

  pub typename_asked : (a : Argument) → c.name ≡ typename → what_asked c.name a ≡ what.TypeName
  typename_asked a is = ap (λ name. what_asked name a) is

  pub name_planned : meaning_on e.schema (Some T) c.name ≡ name_of_type → IsMetaField e T c what.TypeName
  unfolding place_at form_at weight_at cost_at
  name_planned means = record {
    own = refl;
    form = ap (form_meant e.schema) means;
    weight = ap (meaning_weight e) means;
    arguments = ap (λ m. cost_of e m (if_coerced (arguments_at e T c))) means;
    place = ap (place_of e T) means;
  }

  pub known_planned : (f : ℕ) (asked : What) → meaning_on e.schema (Some T) c.name ≡ known_field f → IsAsked e.schema e.weights f T asked
      → ((args : List ArgData) → argument_cost_in e.weights f args ≡ 0) → IsMetaField e T c asked
  unfolding place_at form_at weight_at cost_at
  known_planned f asked means x free = record {
    own = x.own;
    form = ap (form_meant e.schema) means ∙ x.form;
    weight = ap (meaning_weight e) means ∙ x.weight;
    arguments = ap (λ m. cost_of e m (if_coerced (arguments_at e T c))) means ∙ free (if_coerced (arguments_at e T c));
    place = ap (place_of e T) means ∙ stands_there e T (type_of_field e.schema f) (leaf_type_of asked) (below_of asked) x.stands;
  }

-- ---- one type

one_below : (s : SchemaData) (T : ℕ) (leaf : LeafType) (below : Option ℕ) → IsOfOneType (place_by s T leaf below)
one_below s T leaf None = tt
one_below s T leaf (Some U) = tt

pub one_type_of : (e : Setting) (T : ℕ) (c : FieldCall) (asked : What) → IsMetaField e T c asked → IsOfOneType (place_at e T c)
one_type_of e T c asked x = subst IsOfOneType (sym x.place) (one_below e.schema T (leaf_type_of asked) (below_of asked))
