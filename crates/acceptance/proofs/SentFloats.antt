-- A body that is sent holds no float where the schema takes none: the values of declared variables are coerced, and no others are sent.
use Rattle.std.proofs.Common.{◌≡◌, ◌∙◌, ⊎_elim, ℕ, bytes_eq, codes, List, [], ◌∷◌, map, Bool, true, false, true≢false, ◌||◌, if◌then◌else◌, Option, Some, None, refl, sym, ap, subst}
use Rattle.std.proofs.lemmas.Bool.{or_from, cases_Bool}
use Rattle.serde_json.specs.Data.{Data, null, boolean, number, string, array, object, Members, no_members, member}
use Rattle.serde_json.specs.Find.{get, get_member}
use Rattle.serde_json.specs.Written.{has_float, members_have_float}
use Rattle.gql_base.specs.ways.Reading.{Identifier}
use Rattle.document_reader.specs.declared.trees.VariableDef.{VariableDef}
use Rattle.document_reader.specs.Trees.{maybe_identifier, variable_tree}
use Rattle.document_reader.specs.PrintedDocuments.{document_symbols}
use Rattle.gql_base.specs.printing.Printing.{printed}
use Rattle.input_values.specs.values.Coerced.{CoercedTree}
use Rattle.input_values.specs.inputs.Shapes.{ShapeTree}
use Rattle.input_values.specs.coercion.Forms.{InputForm}
use Rattle.input_values.specs.coercion.Kinds.{scalar_form}
use Rattle.schema_rules.specs.declared.kind.Kind.{Kind}
use Rattle.schema_rules.specs.declared.kind.Kind.TheVariants.{Scalar, Object, Interface, Union, Enum, Input}
use Rattle.schema_model.specs.SchemaData.{TypeData, SchemaData, type_at, has_floats}
use Rattle.schema_model.proofs.PlainTypes.{types_plain}
use Rattle.schema_model.specs.InputForms.{form_by, input_forms}
use Rattle.variable_coercion.specs.Json.{json_given}
use Rattle.variable_coercion.specs.Variables.{Declared, VariableData, declared_of, variable_answer}
use Rattle.variable_coercion.specs.Relation.{AreAll, IsFitting, IsValue, IsVariable, AreVariables}
use Rattle.variable_coercion.proofs.Related.{variable_iff, all_iff}
use Rattle.typename_rewrite.specs.ForwardedBodies.{members_where, declares, sent_variables, body_with, body_data}
use Rattle.acceptance.specs.Requests.{RequestData, Prepared}
use Rattle.acceptance.specs.Keys.{HasEachKeyOnce, MembersHaveEachKeyOnce}
use Rattle.acceptance.specs.Forwarding.{sent_document, sent_body}
use Rattle.acceptance.proofs.FoundMembers.{by_cases, other_bytes, found_here, found_later, another_key}
use Rattle.acceptance.proofs.Floatless.{IsWhole, coerced_floatless}

-- ---- what types take

scalar_whole : (name : List ℕ) → IsWhole (scalar_form false name)
scalar_whole name = ⊎_elim
    (λ (is : bytes_eq name (codes "Int") ≡ true). rw (is) tt)
    (λ (no_int : bytes_eq name (codes "Int") ≡ false). rw (no_int) (⊎_elim
    (λ (is : bytes_eq name (codes "String") ≡ true). rw (is) tt)
    (λ (no_string : bytes_eq name (codes "String") ≡ false). rw (no_string) (⊎_elim
    (λ (is : bytes_eq name (codes "Boolean") ≡ true). rw (is) tt)
    (λ (no_boolean : bytes_eq name (codes "Boolean") ≡ false). rw (no_boolean) (⊎_elim
    (λ (is : bytes_eq name (codes "ID") ≡ true). rw (is) tt)
    (λ (no_id : bytes_eq name (codes "ID") ≡ false). rw (no_id) tt)
    (cases_Bool (bytes_eq name (codes "ID")))))
    (cases_Bool (bytes_eq name (codes "Boolean")))))
    (cases_Bool (bytes_eq name (codes "String")))))
    (cases_Bool (bytes_eq name (codes "Int")))

form_whole : (k : Kind) (t : TypeData) → t.lax ≡ false → IsWhole (form_by k t)
form_whole Scalar t plain = subst (λ (lax : Bool). IsWhole (scalar_form lax t.name)) (sym plain) (scalar_whole t.name)
form_whole Enum t plain = tt
form_whole Input t plain = tt
form_whole Object t plain = tt
form_whole Interface t plain = tt
form_whole Union t plain = tt

-- no type of a schema without floats takes one
forms_whole : (s : SchemaData) → has_floats s ≡ false → (of : ℕ) → IsWhole (input_forms s of)
forms_whole s none of = form_whole (type_at s of).kind (type_at s of) (types_plain s none of)

-- ---- the value of a declared variable

module _ (form : ℕ → InputForm) (whole : (of : ℕ) → IsWhole (form of)) where
  fitting_floatless : (json : Data) (shape : ShapeTree) (value : Option CoercedTree) → HasEachKeyOnce json → IsFitting form (json_given json) shape value → has_float json ≡ false
  fitting_floatless json shape None once is = absurd is
  fitting_floatless json shape (Some t) once is = coerced_floatless form whole json shape t once is.0

  value_floatless : (given json : Data) (v : Declared) (x : VariableData) → get v.name given ≡ Some json → HasEachKeyOnce json → IsVariable form given v x → has_float json ≡ false
  value_floatless given json v x found once is =
      fitting_floatless json v.shape x.value once (subst (λ (o : Option Data). IsValue form v o x.value) found is.1)

  declared_floatless : (s : SchemaData) (given json : Data) (name : List ℕ) (vs : List VariableDef) (values : List VariableData) → get name given ≡ Some json → HasEachKeyOnce json
      → declares (map variable_tree vs) name ≡ true → AreAll (IsVariable form given) (map (declared_of s) vs) values → has_float json ≡ false
  declared_floatless s given json name [] values found once declared are = absurd (true≢false (sym declared))
  declared_floatless s given json name (v ∷ vs) [] found once declared are = absurd are
  declared_floatless s given json name (v ∷ vs) (x ∷ values) found once declared are =
      by_cases v.name.text name (has_float json ≡ false)
      (λ same. value_floatless given json (declared_of s v) x (ap (λ n. get n given) same ∙ found) once are.0)
      (λ apart. declared_floatless s given json name vs values found once (ap (λ b. b || declares (map variable_tree vs) name) (sym (other_bytes v.name.text name apart)) ∙ declared) are.1)

-- ---- the members that are sent

kept_floatless : (test : Bool) (key : List ℕ) (json : Data) (rest : Members) → (test ≡ true → has_float json ≡ false) → members_have_float rest ≡ false
    → members_have_float (if test then member key json rest else rest) ≡ false
kept_floatless true key json rest first later = or_from (has_float json) (members_have_float rest) (first refl) later
kept_floatless false key json rest first later = later

where_floatless : (keeps : List ℕ → Bool) (ms : Members) → MembersHaveEachKeyOnce ms
    → ((key : List ℕ) (json : Data) → keeps key ≡ true → get_member key ms ≡ Some json → HasEachKeyOnce json → has_float json ≡ false)
    → members_have_float (members_where keeps ms) ≡ false
where_floatless keeps no_members once each = refl
where_floatless keeps (member key json others) once each =
    kept_floatless (keeps key) key json (members_where keeps others)
    (λ kept. each key json kept (found_here key json others) once.1)
    (where_floatless keeps others once.2 (λ name d kept found within.
    let apart = another_key key name d others once.0 found in
    each name d kept (found_later name key json others (λ same. apart (sym same)) ∙ found) within))

variables_floatless : (s : SchemaData) (vs : List VariableDef) (values : List VariableData) (given : Data) → has_floats s ≡ false → HasEachKeyOnce given → AreVariables s vs given values
    → members_have_float (sent_variables (map variable_tree vs) given) ≡ false
variables_floatless s vs values null none once are = refl
variables_floatless s vs values (boolean b) none once are = refl
variables_floatless s vs values (number n) none once are = refl
variables_floatless s vs values (string t) none once are = refl
variables_floatless s vs values (array ds) none once are = refl
variables_floatless s vs values (object ms) none once are =
    where_floatless (declares (map variable_tree vs)) ms once (λ key json declared found within. declared_floatless (input_forms s) (forms_whole s none) s (object ms) json key vs values found within declared are)

-- ---- the body

body_floatless : (name : Option Identifier) (document : List ℕ) (variables : Members) → members_have_float variables ≡ false → has_float (body_with name document variables) ≡ false
body_floatless None document variables none = or_from (members_have_float variables) false none refl
body_floatless (Some name) document variables none = or_from (members_have_float variables) false none refl

pub sent_floatless : (r : RequestData) (p : Prepared r) (alias : List ℕ) → has_floats r.schema ≡ false → HasEachKeyOnce r.given → has_float (sent_body r p alias) ≡ false
unfolding body_data
sent_floatless r p alias none once =
    let vs = p.operation.variables.items in
    let are = (all_iff (variable_answer (input_forms r.schema) r.given) (IsVariable (input_forms r.schema) r.given) (variable_iff (input_forms r.schema) r.given) (map (declared_of r.schema) vs) p.values).0 p.are_values in
    body_floatless (maybe_identifier p.operation.name) (printed (document_symbols (sent_document r p alias))) (sent_variables (map variable_tree vs) r.given)
    (variables_floatless r.schema vs p.values r.given none once are)
