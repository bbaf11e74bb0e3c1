-- What the arguments of a field come to costs nothing, where they are scalars without weights.
use Rattle.std.proofs.Common.{◌≡◌, inl, inr, ◌+◌, ℕ, zero, suc, Bool, true, false, List, [], ◌∷◌, map, get_or, Option, None, Some, refl, ap, ◌∙◌}
use Rattle.std.specs.Prelude.{codes}
use Rattle.std.specs.Str.{bytes_eq}
use Rattle.std.proofs.lemmas.Bool.{cases_lt}
use Rattle.input_values.specs.values.Coerced.{CoercedTree, coerced_null, coerced_integer, coerced_float, coerced_string, coerced_boolean, coerced_enum, coerced_list, coerced_object}
use Rattle.input_values.specs.inputs.Shapes.{named_shape}
use Rattle.schema_rules.specs.Kinds.{is_scalar}
use Rattle.schema_model.specs.SchemaData.{TypeData, SchemaData, type_at}
use Rattle.schema_model.specs.Arguments.{ArgData}
use Rattle.cost_directives.specs.ArgumentCosts.{ObjectInputs, value_cost, argument_cost, arguments_cost, front_value}
use Rattle.cost_directives.specs.Weights.{TypeWeightData, weights_of, inputs_of, input_weight_of, no_type_weight, type_in, inputs_in, objects_in}
use Rattle.cost_directives.proofs.LookedUp.{type_looked_up, other_type}
use Rattle.cost_directives.proofs.FirstsFound.{both}
use Rattle.schema_facts.specs.declared.table.What.{What}
use Rattle.schema_facts.specs.declared.table.What.TheVariants as what
use Rattle.meta_schema.specs.MetaFields.{arguments_of}
use Rattle.meta_schema.specs.MetaTests.{is_scalar_named}
use Rattle.meta_schema.proofs.Same.{a_scalar}

-- ---- scalars have no fields

no_inputs : (t : TypeData) → is_scalar t.kind ≡ true → inputs_of t ≡ None
no_inputs t scalar = ap (λ kind. inputs_of record t { kind = kind }) (a_scalar t.kind scalar)

no_inputs_in : (s : SchemaData) (n : ℕ) → is_scalar (type_at s n).kind ≡ true → (type_in (weights_of s 1) n).inputs ≡ None
no_inputs_in s n scalar = elim (cases_lt n s.defined) [
  | inl within ↦ ap inputs_in (type_looked_up s 1 n within) ∙ no_inputs (type_at s n) scalar
  | inr past ↦ ap inputs_in (other_type s 1 n past)
]

no_object : (ts : List TypeWeightData) (n : ℕ) → (get_or ts n no_type_weight).inputs ≡ None → get_or (map inputs_in ts) n None ≡ None
no_object [] n none = refl
no_object (t ∷ ts) zero none = none
no_object (t ∷ ts) (suc n) none = no_object ts n none

-- ---- values of scalars

value_free : (objects : ObjectInputs) (of : ℕ) (nullable : Bool) (v : CoercedTree) → get_or objects of None ≡ None → value_cost objects (named_shape of nullable) None v ≡ 0
unfolding value_cost
value_free objects of nullable coerced_null none = refl
value_free objects of nullable (coerced_integer z) none = refl
value_free objects of nullable (coerced_float z) none = refl
value_free objects of nullable (coerced_string s) none = refl
value_free objects of nullable (coerced_boolean b) none = refl
value_free objects of nullable (coerced_enum name) none = refl
value_free objects of nullable (coerced_list items) none = refl
value_free objects of nullable (coerced_object fields) none = rw none refl

argument_free : (objects : ObjectInputs) (name : List ℕ) (of : ℕ) (nullable : Bool) (v : Option CoercedTree) → get_or objects of None ≡ None → argument_cost objects record { name = name; shape = named_shape of nullable; own = None } v ≡ 0
argument_free objects name of nullable None none = refl
argument_free objects name of nullable (Some v) none = value_free objects of nullable v none

one_free : (objects : ObjectInputs) (name : List ℕ) (of : ℕ) (nullable : Bool) (args : List ArgData) → get_or objects of None ≡ None → arguments_cost objects (record { name = name; shape = named_shape of nullable; own = None } ∷ []) args ≡ 0
one_free objects name of nullable args none = ap (λ n. n + 0) (argument_free objects name of nullable (front_value args) none)

module _ (objects : ObjectInputs) (texts : get_or objects 11 None ≡ None) (flags : get_or objects 12 None ≡ None) where
  pub arguments_free : (w : What) (args : List ArgData) → arguments_cost objects (map input_weight_of (arguments_of w)) args ≡ 0
  arguments_free (what.Named of) args = one_free objects (codes "name") 11 false args texts
  arguments_free (what.Fields all) args = one_free objects (codes "includeDeprecated") 12 true args flags
  arguments_free (what.EnumValues all) args = one_free objects (codes "includeDeprecated") 12 true args flags
  arguments_free what.TypeName args = refl
  arguments_free what.Schema args = refl
  arguments_free what.Description args = refl
  arguments_free what.Types args = refl
  arguments_free what.QueryType args = refl
  arguments_free what.MutationType args = refl
  arguments_free what.SubscriptionType args = refl
  arguments_free what.Directives args = refl
  arguments_free what.Kind args = refl
  arguments_free what.Name args = refl
  arguments_free what.Interfaces args = refl
  arguments_free what.PossibleTypes args = refl
  arguments_free what.InputFields args = refl
  arguments_free what.OfType args = refl
  arguments_free what.SpecifiedByUrl args = refl
  arguments_free what.Args args = refl
  arguments_free what.FieldType args = refl
  arguments_free what.IsDeprecated args = refl
  arguments_free what.DeprecationReason args = refl
  arguments_free what.DefaultValue args = refl
  arguments_free what.Locations args = refl
  arguments_free what.IsRepeatable args = refl

pub scalars_free : (s : SchemaData) (n : ℕ) (name : List ℕ) → is_scalar_named name (type_at s n) ≡ true → get_or (objects_in (weights_of s 1)) n None ≡ None
scalars_free s n name is = no_object (weights_of s 1).types n (no_inputs_in s n ((both (is_scalar (type_at s n).kind) (bytes_eq (type_at s n).name name) is).0))
