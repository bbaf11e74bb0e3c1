-- The things of a schema: what stands where the schema of schemas has an object or a leaf.
use Rattle.std.specs.Prelude.{ℕ, List, map, Bool, Option, Some, None}
use Rattle.serde_json.specs.Data.{Data, string, boolean}
use Rattle.gql_base.specs.printing.Printing.{printed}
use Rattle.gql_base.specs.printing.PrintedTrees.{value_symbols}
use Rattle.gql_base.specs.parts.Values.{ValueTree}
use Rattle.gql_base.specs.parts.Trees.{value_tree, type_tree}
use Rattle.gql_base.specs.parts.TypeReferences.{TypeTree as ReferenceTree, named_type, list_type, non_null_type}
use Rattle.schema_reader.specs.Schemas.{InputDefTree, FieldDefTree, EnumValueTree, DefinitionTree}
use Rattle.schema_reader.specs.Trees.{field_tree, input_tree, enum_value_tree, definition_tree}
use Rattle.schema_facts.specs.declared.things.Thing.{Thing}
use Rattle.schema_facts.specs.declared.things.Thing.TheVariants.{Root, Schema, TypeAt, ListOf, NonNull, Field, Input, EnumValue, Directive, Word, Flag, Default}
use Rattle.schema_facts.specs.declared.held.Held.{Held}
use Rattle.schema_facts.specs.declared.held.Held.TheVariants.{Nothing, One, Many}
use Rattle.schema_facts.specs.Facts.{FactsData, number_named}

pub data ThingData : Type 0 where
  -- what the type of queries has beside its own fields
  the_root : ThingData
  the_schema : ThingData
  -- a type by its number
  a_type : (number : ℕ) → ThingData
  -- the list type, and the non-null type, of a type
  a_list_type : (of : ReferenceTree) → ThingData
  a_non_null_type : (of : ReferenceTree) → ThingData
  a_field : FieldDefTree → ThingData
  an_input : InputDefTree → ThingData
  an_enum_value : EnumValueTree → ThingData
  a_directive : DefinitionTree → ThingData
  a_word : (text : List ℕ) → ThingData
  a_flag : (is : Bool) → ThingData
  -- a default as it is printed
  a_default : ValueTree → ThingData

-- what a field of a thing holds
pub data HeldData : Type 0 where
  nothing : HeldData
  one : ThingData → HeldData
  many : List ThingData → HeldData

abbrev pub word : List ℕ → HeldData
word text = one (a_word text)

abbrev pub maybe_word : Option (List ℕ) → HeldData
maybe_word None = nothing
maybe_word (Some text) = word text

-- the type to which a reference refers
abbrev pub type_thing : FactsData → ReferenceTree → ThingData
type_thing f (named_type name at) = a_type (number_named f.types name)
type_thing f (list_type t) = a_list_type t
type_thing f (non_null_type t) = a_non_null_type t

-- the JSON of a thing that is a leaf
abbrev pub leaf_of : ThingData → Option Data
leaf_of (a_word text) = Some (string text)
leaf_of (a_flag is) = Some (boolean is)
leaf_of (a_default value) = Some (string (printed (value_symbols value)))
leaf_of the_root = None
leaf_of the_schema = None
leaf_of (a_type number) = None
leaf_of (a_list_type of) = None
leaf_of (a_non_null_type of) = None
leaf_of (a_field f) = None
leaf_of (an_input v) = None
leaf_of (an_enum_value v) = None
leaf_of (a_directive d) = None

-- ---- what the program's things stand for

abbrev pub thing_data : Thing → ThingData
thing_data Root = the_root
thing_data Schema = the_schema
thing_data (TypeAt number) = a_type number
thing_data (ListOf of) = a_list_type (type_tree of.now)
thing_data (NonNull of) = a_non_null_type (type_tree of.now)
thing_data (Field f) = a_field (field_tree f.of.now)
thing_data (Input v) = an_input (input_tree v.now)
thing_data (EnumValue v) = an_enum_value (enum_value_tree v.of.now)
thing_data (Directive d) = a_directive (definition_tree d.now)
thing_data (Word text) = a_word text.now
thing_data (Flag is) = a_flag is
thing_data (Default value) = a_default (value_tree value.now)

abbrev pub held_data : Held → HeldData
held_data Nothing = nothing
held_data (One thing) = one (thing_data thing)
held_data (Many things) = many (map thing_data things.items)
