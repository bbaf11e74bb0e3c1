-- The values of a received operation's variables are those of the client's own.
use Rattle.std.proofs.Common.{ℕ, ◌≡◌, Bool, true, false, true≢false, ◌||◌, List, [], ◌∷◌, map, Option, None, Some, Result, if◌then◌else◌, refl, sym, ap, ap₂, ◌∙◌, nat_cmp}
use Rattle.std.specs.Str.{bytes_eq}
use Rattle.std.specs.Ordering.{match_ordering}
use Rattle.std.specs.Cmp.Lexicographic.{slice_cmp}
use Rattle.std.proofs.Math.Bool.{or-true}
use Rattle.serde_json.specs.Data.{Data, null, boolean, number, string, array, object, Members, no_members, member}
use Rattle.serde_json.specs.Find.{get, get_member}
use Rattle.gql_base.specs.parts.Values.{ValueTree, variable_value, integer_value, float_value, string_value, boolean_value, null_value, enum_value, list_value, object_value, ValueTrees, no_value, value_then, FieldTrees, no_field, field_then}
use Rattle.gql_base.specs.parts.TypeReferences.{TypeTree, named_type, list_type, non_null_type}
use Rattle.gql_base.specs.printing.PrintedTrees.{placeless, all_placeless, fields_placeless, type_placeless}
use Rattle.document_reader.specs.declared.trees.VariableDef.{VariableDef}
use Rattle.document_reader.specs.Documents.{VariableTree}
use Rattle.document_reader.specs.Trees.{variable_tree}
use Rattle.document_reader.specs.PlacelessDocuments.{default_placeless, variable_placeless}
use Rattle.document_reader.specs.declared.trees.Operation.{Operation}
use Rattle.input_values.specs.coercion.Forms.{InputForm}
use Rattle.input_values.specs.coercion.Literals.{no_variables, literal_given, literal_items, literal_fields}
use Rattle.input_values.specs.coercion.Coercion.{coerced}
use Rattle.input_values.specs.coercion.Given.{given_list, given_object, given_then, given_field_then, Given}
use Rattle.input_values.specs.inputs.Shapes.{ShapeTree, list_shape, shape_by}
use Rattle.schema_model.specs.SchemaData.{SchemaData}
use Rattle.schema_model.specs.InputForms.{input_forms}
use Rattle.variable_coercion.specs.Refusals.{Refusal, fitting, given_value, and_then, all_in_order}
use Rattle.variable_coercion.specs.Variables.{Declared, VariableData, number_in, declared_of, variable_refusal, default_answer, value_answer, named_answer, variable_answer, variables_answer}
use Rattle.typename_rewrite.specs.ForwardedBodies.{members_of, members_where, declares, sent_variables}
use Rattle.acceptance.specs.Requests.{RequestData, Prepared, AsksFor, AreValues}
use Rattle.acceptance.proofs.FoundMembers.{equal_bytes, found_later}
use Rattle.received_requests.specs.Received.{IsReceived}
use Rattle.received_requests.proofs.PickedParts.{copied}

-- ---- without offsets

mutual
  unfolding placeless

  literal_alike : (v : ValueTree) → literal_given no_variables (placeless v) ≡ literal_given no_variables v
  literal_alike (variable_value name at) = refl
  literal_alike (integer_value z) = refl
  literal_alike (float_value z) = refl
  literal_alike (string_value s) = refl
  literal_alike (boolean_value b) = refl
  literal_alike null_value = refl
  literal_alike (enum_value name at) = refl
  literal_alike (list_value values) = ap given_list (items_alike values)
  literal_alike (object_value fields) = ap (given_object false) (fields_alike fields)

  items_alike : (vs : ValueTrees) → literal_items no_variables (all_placeless vs) ≡ literal_items no_variables vs
  items_alike no_value = refl
  items_alike (value_then v others) = ap₂ given_then (literal_alike v) (items_alike others)

  fields_alike : (fs : FieldTrees) → literal_fields no_variables (fields_placeless fs) ≡ literal_fields no_variables fs
  fields_alike no_field = refl
  fields_alike (field_then name at v others) = ap₂ (given_field_then name) (literal_alike v) (fields_alike others)

shape_alike : (s : SchemaData) (nullable : Bool) (t : TypeTree) → shape_by (number_in s) nullable (type_placeless t) ≡ shape_by (number_in s) nullable t
unfolding shape_by type_placeless
shape_alike s nullable (named_type name at) = refl
shape_alike s nullable (list_type t) = ap (λ (x : ShapeTree). list_shape x nullable) (shape_alike s true t)
shape_alike s nullable (non_null_type t) = shape_alike s false t

default_alike : (form : ℕ → InputForm) (name : List ℕ) (shape : ShapeTree) (default : Option ValueTree) → default_answer form name shape (default_placeless default) ≡ default_answer form name shape default
default_alike form name shape None = refl
default_alike form name shape (Some v) = ap (λ (g : Given). given_value (variable_refusal name) (fitting (coerced form g shape))) (literal_alike v)

-- a variable as its tree declares it
abbrev declared_by : SchemaData → VariableTree → Declared
declared_by s t = record { name = t.0.0; shape = shape_by (number_in s) true t.1; default = t.2 }

abbrev answer_with : (ℕ → InputForm) → List ℕ → Option ValueTree → Option Data → ShapeTree → Result VariableData Refusal
answer_with form name default given shape = named_answer name (value_answer form record { name = name; shape = shape; default = default } given)

value_alike : (form : ℕ → InputForm) (name : List ℕ) (shape : ShapeTree) (default : Option ValueTree) (given : Option Data)
    → answer_with form name (default_placeless default) given shape ≡ answer_with form name default given shape
value_alike form name shape default (Some json) = refl
value_alike form name shape default None = ap (named_answer name) (default_alike form name shape default)

variable_alike : (s : SchemaData) (form : ℕ → InputForm) (given : Data) (t : VariableTree) → variable_answer form given (declared_by s (variable_placeless t)) ≡ variable_answer form given (declared_by s t)
variable_alike s form given t =
    value_alike form t.0.0 (shape_by (number_in s) true (type_placeless t.1)) t.2 (get t.0.0 given) ∙ ap (answer_with form t.0.0 t.2 (get t.0.0 given)) (shape_alike s true t.1)

-- the answer of variables without offsets
variables_alike : (s : SchemaData) (form : ℕ → InputForm) (given : Data) (vs : List VariableDef)
    → all_in_order (variable_answer form given) (map (declared_of s) vs) ≡ all_in_order (λ (t : VariableTree). variable_answer form given (declared_by s t)) (map variable_placeless (map variable_tree vs))
variables_alike s form given [] = refl
variables_alike s form given (v ∷ vs) = ap₂ and_then (sym (variable_alike s form given (variable_tree v))) (variables_alike s form given vs)

-- ---- what is given

-- a name that is kept has what it had
module _ (keeps : List ℕ → Bool) (name : List ℕ) (kept : keeps name ≡ true) where
  one_kept : (other : List ℕ) (d : Data) (ms : Members) (b : Bool) → keeps other ≡ b → get_member name (members_where keeps ms) ≡ get_member name ms
      → get_member name (if b then member other d (members_where keeps ms) else members_where keeps ms) ≡ get_member name (member other d ms)
  one_kept other d ms true is rest = ap (λ (o : Option Data). match_ordering (slice_cmp nat_cmp name other) o (Some d) o) rest
  one_kept other d ms false is rest = rest ∙ sym (found_later name other d ms (λ same. true≢false (sym kept ∙ (ap keeps same ∙ is))))

  member_kept : (ms : Members) → get_member name (members_where keeps ms) ≡ get_member name ms
  member_kept no_members = refl
  member_kept (member other d ms) = one_kept other d ms (keeps other) refl (member_kept ms)

  given_kept : (given : Data) → get name (object (members_where keeps (members_of given))) ≡ get name given
  given_kept null = refl
  given_kept (boolean b) = refl
  given_kept (number n) = refl
  given_kept (string s) = refl
  given_kept (array items) = refl
  given_kept (object ms) = member_kept ms

module _ (s : SchemaData) (form : ℕ → InputForm) (given : Data) (all : List VariableTree) where
  -- what is sent answers as what is given
  sent_alike : (vs : List VariableDef) → ((name : List ℕ) → declares (map variable_tree vs) name ≡ true → declares all name ≡ true)
      → all_in_order (variable_answer form (object (sent_variables all given))) (map (declared_of s) vs) ≡ all_in_order (variable_answer form given) (map (declared_of s) vs)
  sent_alike [] among = refl
  sent_alike (v ∷ vs) among = ap₂ and_then
      (ap (λ (o : Option Data). named_answer v.name.text (value_answer form (declared_of s v) o)) (given_kept (declares all) v.name.text (among v.name.text (ap (λ (b : Bool). b || declares (map variable_tree vs) v.name.text) (equal_bytes v.name.text))) given))
      (sent_alike vs (λ name h. among name (ap (λ (b : Bool). bytes_eq v.name.text name || b) h ∙ or-true (bytes_eq v.name.text name))))

pub values_kept : (r : RequestData) (p : Prepared r) (alias : List ℕ) (q : RequestData) (is : IsReceived r p alias q) (o : Operation) → AsksFor q o → AreValues q o p.values
values_kept r p alias q is o asks =
    let own = p.operation.variables.items in
    let sent : Data = object (sent_variables (map variable_tree own) r.given) in
    let form : ℕ → InputForm = input_forms r.schema in
    ap₂ (λ (s : SchemaData) (given : Data). variables_answer s o.variables.items given) is.schema is.given
    ∙ (variables_alike r.schema form sent o.variables.items
    ∙ (ap (all_in_order (λ (t : VariableTree). variable_answer form sent (declared_by r.schema t))) (copied r p alias q is o asks).variables
    ∙ (sym (variables_alike r.schema form sent own)
    ∙ (sent_alike r.schema form r.given (map variable_tree own) own (λ name h. h) ∙ p.are_values))))
