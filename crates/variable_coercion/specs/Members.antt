-- What objects of JSON come to at the places where they are given.
use Rattle.std.specs.Prelude.{ℕ, true, List, [], drop, Option}
use Rattle.serde_json.specs.Data.{Members}
use Rattle.input_values.specs.values.Coerced.{CoercedTree, CoercedFields}
use Rattle.input_values.specs.coercion.Answers.{Answer}
use Rattle.input_values.specs.coercion.Given.{given_names}
use Rattle.input_values.specs.coercion.Forms.{FieldForm, InputForm, fields_of}
use Rattle.input_values.specs.coercion.Objects.{Finder, wrong_name, field_answer, fields_at, object_of, object_at}
use Rattle.input_values.specs.coercion.Coercion.{find_coerced}
use Rattle.variable_coercion.specs.Json.{json_members}

-- `form` says what each named type asks.
module _ (form : ℕ → InputForm) (members : Members) where
  -- what coerces the member of a name
  abbrev pub member_under : Finder
  member_under name = find_coerced form name (json_members members)

  -- an object at the type of this number
  abbrev pub members_at_type : ℕ → Answer CoercedTree
  members_at_type of = object_at (form of) true (json_members members) member_under

  -- the first name that is no field's
  abbrev pub unknown_member : ℕ → Option (List ℕ)
  unknown_member of = wrong_name true (fields_of (form of)) [] (given_names (json_members members))

  -- the fields of an input object from a place on, in the order of their definitions
  abbrev pub members_from : ℕ → ℕ → Answer CoercedFields
  members_from of at = fields_at (drop at (fields_of (form of))) member_under

  -- an input object: its names are looked at before its fields
  abbrev pub members_as_input : ℕ → Answer CoercedTree
  members_as_input of = object_of (unknown_member of) (members_from of 0)

  -- a field of an input object
  abbrev pub member_field : FieldForm → Answer (Option CoercedTree)
  member_field f = field_answer f (member_under f.name)
