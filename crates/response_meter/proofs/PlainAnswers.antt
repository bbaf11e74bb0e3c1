-- Over a schema that lets no floats in leaves hold none, and an answer is one text.
use Rattle.std.proofs.Common.{◌≡◌, ◌∙◌, ⊎_elim, ℕ, bytes_eq, codes, append_assoc, List, [], ◌∷◌, ◌++◌, Bool, true, false, true≢false, cond, eqb, Option, Some, None, refl, sym, ap, subst}
use Rattle.std.proofs.lemmas.Bool.{not-true, cases_Bool}
use Rattle.serde_json.specs.Data.{Data, null as json_null, boolean, number, string, array, object as json_object, unsigned, negative, float}
use Rattle.serde_json.specs.Written.{has_float, items_have_float, members_have_float}
use Rattle.input_values.specs.coercion.Kinds.{scalar_kind}
use Rattle.input_values.specs.declared.inputs.types.InputKind.{InputKind}
use Rattle.input_values.specs.declared.inputs.types.InputKind.TheVariants.{Int, String, Boolean, Float, Id, Custom, Lax, Enum as EnumInput, Object as ObjectInput, None as NoInput}
use Rattle.schema_rules.specs.declared.kind.Kind.{Kind}
use Rattle.schema_rules.specs.declared.kind.Kind.TheVariants.{Scalar, Object, Interface, Union, Enum, Input}
use Rattle.schema_model.specs.SchemaData.{TypeData, SchemaData, type_at, has_floats}
use Rattle.schema_model.proofs.PlainTypes.{types_plain}
use Rattle.response_model.specs.Plan.{Form, single, listed, LeafType, type_name, numbered, Plan, leaf_plan, position, ObjectTypes, no_type, object_type, Nodes, no_node, node, nodes_of}
use Rattle.response_model.specs.Response.{Tree, null, leaf, list_of, object, Elements, no_element, element, Entries, no_entry, entry, IsLeafOf, Fits, EntriesFit, ElementsFit}
use Rattle.response_model.specs.Errors.{ResponseError}
use Rattle.response_model.specs.ResponseText.{errors_part, tree_text, data_part, response_text}
use Rattle.response_model.specs.WrittenJson.{IsFloatless, AreFloatless, HaveFloatless}
use Rattle.response_model.specs.AnswerTexts.{IsTreeText, IsDataPart, IsAnswerText}
use Rattle.plan_model.specs.SelectedFields.{scalar_holds, enum_holds, holds_by, holds}
use Rattle.plan_table.specs.declared.table.Plan.{Plan as Table}
use Rattle.plan_table.specs.Tables.{setting_in}
use Rattle.response_meter.specs.declared.metered.Metered.{Metered}
use Rattle.response_meter.specs.FirstFault.{IsFilled, AreNamed, TypesNamed, NodesNamed}
use Rattle.response_meter.specs.Reply.{IsResponseOrNone}
use Rattle.response_meter.specs.Metered.{name_in, HasOneText}

-- ---- what leaves hold

-- no number with a fraction is held
abbrev IsWhole : InputKind → Type 0
IsWhole Float = ⊥
IsWhole Lax = ⊥
IsWhole kind = Unit {0}

kind_of_name : (name : List ℕ) → IsWhole (scalar_kind false name)
kind_of_name name = ⊎_elim
    (λ (is : bytes_eq name (codes "Int") ≡ true). rw (is) tt)
    (λ (no_int : bytes_eq name (codes "Int") ≡ false). rw (no_int) (⊎_elim
    (λ (is : bytes_eq name (codes "String") ≡ true). rw (is) tt)
    (λ (no_string : bytes_eq name (codes "String") ≡ false). rw (no_string) (⊎_elim
    (λ (is : bytes_eq name (codes "Boolean") ≡ true). rw (is) tt)
    (λ (no_boolean : bytes_eq name (codes "Boolean") ≡ false). rw (no_boolean) (⊎_elim
    (λ (is : bytes_eq name (codes "ID") ≡ true). rw (is) tt)
    (λ (no_id : bytes_eq name (codes "ID") ≡ false). rw (no_id) tt)
    (cases_Bool (bytes_eq name (codes "ID")))))
    (cases_Bool (bytes_eq name (codes "Boolean")))))
    (cases_Bool (bytes_eq name (codes "String")))))
    (cases_Bool (bytes_eq name (codes "Int")))

scalar_whole : (kind : InputKind) (d : Data) → IsWhole kind → scalar_holds kind d ≡ true → has_float d ≡ false
scalar_whole kind json_null whole h = refl
scalar_whole kind (boolean b) whole h = refl
scalar_whole kind (string s) whole h = refl
scalar_whole kind (number (unsigned n)) whole h = refl
scalar_whole kind (number (negative z)) whole h = refl
scalar_whole Int (number (float x)) whole h = absurd (true≢false (sym h))
scalar_whole String (number (float x)) whole h = absurd (true≢false (sym h))
scalar_whole Boolean (number (float x)) whole h = absurd (true≢false (sym h))
scalar_whole Float (number (float x)) whole h = absurd whole
scalar_whole Id (number (float x)) whole h = absurd (true≢false (sym h))
scalar_whole Custom (number (float x)) whole h = absurd (true≢false (sym h))
scalar_whole Lax (number (float x)) whole h = absurd whole
scalar_whole EnumInput (number (float x)) whole h = absurd (true≢false (sym h))
scalar_whole ObjectInput (number (float x)) whole h = absurd (true≢false (sym h))
scalar_whole NoInput (number (float x)) whole h = absurd (true≢false (sym h))
scalar_whole Int (array ds) whole h = absurd (true≢false (sym h))
scalar_whole String (array ds) whole h = absurd (true≢false (sym h))
scalar_whole Boolean (array ds) whole h = absurd (true≢false (sym h))
scalar_whole Float (array ds) whole h = absurd whole
scalar_whole Id (array ds) whole h = absurd (true≢false (sym h))
scalar_whole Custom (array ds) whole h = not-true (items_have_float ds) h
scalar_whole Lax (array ds) whole h = absurd whole
scalar_whole EnumInput (array ds) whole h = absurd (true≢false (sym h))
scalar_whole ObjectInput (array ds) whole h = absurd (true≢false (sym h))
scalar_whole NoInput (array ds) whole h = absurd (true≢false (sym h))
scalar_whole Int (json_object ms) whole h = absurd (true≢false (sym h))
scalar_whole String (json_object ms) whole h = absurd (true≢false (sym h))
scalar_whole Boolean (json_object ms) whole h = absurd (true≢false (sym h))
scalar_whole Float (json_object ms) whole h = absurd whole
scalar_whole Id (json_object ms) whole h = absurd (true≢false (sym h))
scalar_whole Custom (json_object ms) whole h = not-true (members_have_float ms) h
scalar_whole Lax (json_object ms) whole h = absurd whole
scalar_whole EnumInput (json_object ms) whole h = absurd (true≢false (sym h))
scalar_whole ObjectInput (json_object ms) whole h = absurd (true≢false (sym h))
scalar_whole NoInput (json_object ms) whole h = absurd (true≢false (sym h))

enum_whole : (names : List (List ℕ)) (d : Data) → enum_holds names d ≡ true → has_float d ≡ false
enum_whole names json_null h = refl
enum_whole names (boolean b) h = refl
enum_whole names (number n) h = absurd (true≢false (sym h))
enum_whole names (string s) h = refl
enum_whole names (array ds) h = absurd (true≢false (sym h))
enum_whole names (json_object ms) h = absurd (true≢false (sym h))

-- a scalar that isn't lax
plain_whole : (t : TypeData) (d : Data) → t.lax ≡ false → scalar_holds (scalar_kind t.lax t.name) d ≡ true → has_float d ≡ false
plain_whole t d plain h = scalar_whole (scalar_kind false t.name) d (kind_of_name t.name) (subst (λ (lax : Bool). scalar_holds (scalar_kind lax t.name) d ≡ true) plain h)

kind_whole : (kind : Kind) (t : TypeData) (d : Data) → t.lax ≡ false → holds_by kind t d ≡ true → has_float d ≡ false
kind_whole Enum t d plain h = enum_whole t.values d h
kind_whole Scalar t d plain h = plain_whole t d plain h
kind_whole Object t d plain h = plain_whole t d plain h
kind_whole Interface t d plain h = plain_whole t d plain h
kind_whole Union t d plain h = plain_whole t d plain h
kind_whole Input t d plain h = plain_whole t d plain h

held_whole : (s : SchemaData) (of : ℕ) (d : Data) → has_floats s ≡ false → holds s of d ≡ true → has_float d ≡ false
unfolding holds
held_whole s of d none h = kind_whole (type_at s of).kind (type_at s of) d (types_plain s none of) h

-- what fills a type name
name_whole : (fill : Data) → IsFilled type_name fill → has_float fill ≡ false
name_whole json_null filled = absurd filled
name_whole (boolean b) filled = absurd filled
name_whole (number n) filled = absurd filled
name_whole (string s) filled = refl
name_whole (array ds) filled = absurd filled
name_whole (json_object ms) filled = absurd filled

-- ---- what fits a plan

module _ (s : SchemaData) (none : has_floats s ≡ false) (name : ℕ → List ℕ) where
  leaf_whole : (type : LeafType) (fill json : Data) → IsFilled type fill → IsLeafOf (holds s) type fill json → has_float json ≡ false
  leaf_whole type_name fill json filled is = ap has_float is ∙ name_whole fill filled
  leaf_whole (numbered T) fill json filled is = held_whole s T json none is

  either_named : (b : Bool) (nodes others : Nodes) → NodesNamed name nodes → NodesNamed name others → NodesNamed name (cond b nodes others)
  either_named true nodes others named later = named
  either_named false nodes others named later = later

  nodes_named : (T : ℕ) (possible : ObjectTypes) → TypesNamed name possible → NodesNamed name (nodes_of T possible)
  nodes_named T no_type named = tt
  nodes_named T (object_type U w nodes others) named = either_named (eqb U T) nodes (nodes_of T others) named.0 (nodes_named T others named.1)

  mutual
    fitting_floatless : (form : Form) (plan : Plan) (t : Tree) → AreNamed name plan → Fits (holds s) form plan t → IsFloatless t
    fitting_floatless form plan null named fits = tt
    fitting_floatless (single n) (leaf_plan type w fill) (leaf json) named fits = leaf_whole type fill json named fits.1
    fitting_floatless (single n) (position possible) (leaf json) named fits = absurd fits
    fitting_floatless (listed n i) plan (leaf json) named fits = absurd fits
    fitting_floatless (single n) plan (list_of ts) named fits = absurd fits
    fitting_floatless (listed n i) plan (list_of ts) named fits = elements_floatless i plan ts named fits
    fitting_floatless (single n) (leaf_plan type w fill) (object T es) named fits = absurd fits
    fitting_floatless (single n) (position possible) (object T es) named fits = entries_floatless (nodes_of T possible) es (nodes_named T possible named.1) fits.1
    fitting_floatless (listed n i) plan (object T es) named fits = absurd fits

    entries_floatless : (nodes : Nodes) (es : Entries) → NodesNamed name nodes → EntriesFit (holds s) nodes es → HaveFloatless es
    entries_floatless no_node no_entry named fits = tt
    entries_floatless no_node (entry k t es) named fits = absurd fits
    entries_floatless (node d below others) no_entry named fits = absurd fits
    entries_floatless (node d below others) (entry k t es) named fits = (fitting_floatless d.form below t named.0 fits.1, entries_floatless others es named.1 fits.2)

    elements_floatless : (nullable : Bool) (plan : Plan) (ts : Elements) → AreNamed name plan → ElementsFit (holds s) nullable plan ts → AreFloatless ts
    elements_floatless nullable plan no_element named fits = tt
    elements_floatless nullable plan (element t ts) named fits = (fitting_floatless (single nullable) plan t named fits.0, elements_floatless nullable plan ts named fits.1)

-- ---- texts

-- no leaf of what is answered holds a float
abbrev IsContentFloatless : Option Tree → Type 0
IsContentFloatless None = Unit {0}
IsContentFloatless (Some tree) = IsFloatless tree

module _ (one_text : (t : Tree) (text : List ℕ) → IsTreeText t text → IsFloatless t → text ≡ tree_text t) where
  one_data : (errors : List ResponseError) (content : Option Tree) (text : List ℕ) → IsContentFloatless content → IsDataPart errors content text → text ≡ data_part errors content
  one_data errors None text none is = is
  one_data [] (Some tree) text none is = is.1 ∙ ap (λ s. codes "\"data\":" ++ s) (one_text tree is.0 is.2 none)
  one_data (e ∷ es) (Some tree) text none is = is.1 ∙ ap (λ s. codes ",\"data\":" ++ s) (one_text tree is.0 is.2 none)

  one_answer : (content : Option Tree) (errors : List ResponseError) (text : List ℕ) → IsContentFloatless content → IsAnswerText content errors text → text ≡ response_text content errors
  one_answer content errors text none is =
      let both = is.2 in
      is.1
      ∙ ap (λ s. (codes "{" ++ errors_part errors) ++ s)
      (both.2 ∙ (ap (λ front. front ++ both.1) (one_data errors content both.0 none both.3) ∙ ap (λ end. data_part errors content ++ end) both.4))
      ∙ in_parts (errors_part errors) (data_part errors content)
    where
      in_parts : (front middle : List ℕ) → (codes "{" ++ front) ++ (middle ++ codes "}") ≡ codes "{" ++ front ++ middle ++ codes "}"
      in_parts front middle = simp append_assoc

  content_floatless : (s : SchemaData) (name : ℕ → List ℕ) (tree : Plan) (content : Option Tree) → has_floats s ≡ false → AreNamed name tree → IsResponseOrNone (holds s) tree content → IsContentFloatless content
  content_floatless s name tree None none named is = tt
  content_floatless s name tree (Some t) none named is = fitting_floatless s none name (single true) tree t named is.0

  pub answered_plainly : (table : Table) (alias : List ℕ) (tree : Plan) (bytes : List ℕ) (metered : Metered) → has_floats (setting_in table).schema ≡ false → AreNamed (name_in table) tree → HasOneText table alias tree bytes metered
  answered_plainly table alias tree bytes metered none named is =
      one_answer is.content is.errors metered.text (content_floatless (setting_in table).schema (name_in table) tree is.content none named is.is_response) is.text
