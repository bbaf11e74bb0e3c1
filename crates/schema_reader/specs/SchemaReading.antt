-- How schema texts are read, where so many levels may still be opened. These words serve the proof of the readers: what
-- a schema text is stands in `Schemas`.
use Rattle.std.specs.Prelude.{ℕ, ◌&&◌, not, Bool, true, false, List, [], None, Some, codes}
use Rattle.gql_base.specs.declared.lexical.token.TokenKind.{TokenKind}
use Rattle.gql_base.specs.declared.lexical.token.TokenKind.TheVariants.{Amp, Colon, Equals, At, OpenParen, CloseParen, OpenBrace, CloseBrace, Pipe}
use Rattle.gql_base.specs.ways.Reading.{Reader, Test, takes, single, pair, image, choice, optional, repeated, one_or_more, second, inside, listed, exact, any_name, any_string, keyword, up_to, is_there}
use Rattle.gql_base.specs.parts.TypeReferences.{type_at, there}
use Rattle.gql_base.specs.parts.Arguments.{directives_at, maybe_default_at}
use Rattle.gql_base.specs.parts.OperationKinds.{kind_word}
use Rattle.schema_reader.specs.Schemas.{NameText, Description, RootTree, InputDefTree, FieldDefTree, EnumValueTree, NamedBody, DefinitionTree, HeadTree, FieldedTree, name_of, input_of, field_of, enum_name, root_of, schema_of, scalar_of, object_type_of, interface_of, union_of, enum_of, input_object_of, directive_of}

abbrev pub name_at : Reader NameText
name_at = image name_of (single any_name)

abbrev pub description_at : Reader Description
description_at = optional (takes any_string) None (image Some (single any_string))

abbrev pub other_name_at : TokenKind → Reader NameText
other_name_at mark = image second (pair (single (exact mark)) name_at)

abbrev pub some_names_at : TokenKind → Reader (List NameText)
some_names_at mark = image listed (pair name_at (repeated (takes (exact mark)) (other_name_at mark)))

abbrev pub maybe_mark_at : TokenKind → Reader (Unit {0})
maybe_mark_at mark = optional (takes (exact mark)) tt (single (exact mark))

abbrev pub names_at : TokenKind → Reader (List NameText)
names_at mark = image second (pair (maybe_mark_at mark) (some_names_at mark))

abbrev pub between : {A : Type 0} → TokenKind → TokenKind → Reader A → Reader (List A)
between open_kind close_kind r = image inside (pair (single (exact open_kind)) (pair (one_or_more (up_to close_kind) r) (single (exact close_kind))))

abbrev pub input_at : ℕ → Reader InputDefTree
input_at left = image input_of (pair description_at (pair name_at (pair (single (exact Colon)) (pair (type_at left) (pair (maybe_default_at left) (directives_at true left))))))

abbrev pub arguments_at : ℕ → Reader (List InputDefTree)
arguments_at left = between OpenParen CloseParen (input_at left)

abbrev pub maybe_arguments_at : ℕ → Reader (List InputDefTree)
maybe_arguments_at left = optional (takes (exact OpenParen)) [] (arguments_at left)

abbrev pub input_fields_at : ℕ → Reader (List InputDefTree)
input_fields_at left = between OpenBrace CloseBrace (input_at left)

abbrev pub maybe_input_fields_at : ℕ → Reader (List InputDefTree)
maybe_input_fields_at left = optional (takes (exact OpenBrace)) [] (input_fields_at left)

abbrev pub field_definition_at : ℕ → Reader FieldDefTree
field_definition_at left = image field_of (pair description_at (pair name_at (pair (maybe_arguments_at left) (pair (single (exact Colon)) (pair (type_at left) (directives_at true left))))))

abbrev pub fields_at : ℕ → Reader (List FieldDefTree)
fields_at left = between OpenBrace CloseBrace (field_definition_at left)

abbrev pub maybe_fields_at : ℕ → Reader (List FieldDefTree)
maybe_fields_at left = optional (takes (exact OpenBrace)) [] (fields_at left)

abbrev pub enum_value_at : ℕ → Reader EnumValueTree
enum_value_at left = pair description_at (pair (single enum_name) (directives_at true left))

abbrev pub enum_values_at : ℕ → Reader (List EnumValueTree)
enum_values_at left = between OpenBrace CloseBrace (enum_value_at left)

abbrev pub maybe_enum_values_at : ℕ → Reader (List EnumValueTree)
maybe_enum_values_at left = optional (takes (exact OpenBrace)) [] (enum_values_at left)

abbrev pub root_at : Reader RootTree
root_at = image root_of (pair (single kind_word) (pair (single (exact Colon)) name_at))

abbrev pub roots_at : Reader (List RootTree)
roots_at = between OpenBrace CloseBrace root_at

abbrev pub schema_definition_at : ℕ → Reader NamedBody
schema_definition_at left = image schema_of (pair (single (keyword (codes "schema"))) (pair (directives_at true left) roots_at))

abbrev pub type_head_at : List ℕ → ℕ → Reader HeadTree
type_head_at word left = image second (pair (single (keyword word)) (pair name_at (directives_at true left)))

abbrev pub scalar_at : ℕ → Reader NamedBody
scalar_at left = image scalar_of (type_head_at (codes "scalar") left)

abbrev pub interfaces_at : Reader (List NameText)
interfaces_at = image second (pair (single (keyword (codes "implements"))) (names_at Amp))

abbrev pub maybe_interfaces_at : Reader (List NameText)
maybe_interfaces_at = optional (takes (keyword (codes "implements"))) [] interfaces_at

abbrev pub fielded_type_at : List ℕ → ℕ → Reader FieldedTree
fielded_type_at word left = image second (pair (single (keyword word)) (pair name_at (pair maybe_interfaces_at (pair (directives_at true left) (maybe_fields_at left)))))

abbrev pub object_at : ℕ → Reader NamedBody
object_at left = image object_type_of (fielded_type_at (codes "type") left)

abbrev pub interface_at : ℕ → Reader NamedBody
interface_at left = image interface_of (fielded_type_at (codes "interface") left)

abbrev pub members_at : Reader (List NameText)
members_at = image second (pair (single (exact Equals)) (names_at Pipe))

abbrev pub maybe_members_at : Reader (List NameText)
maybe_members_at = optional (takes (exact Equals)) [] members_at

abbrev pub union_at : ℕ → Reader NamedBody
union_at left = image union_of (pair (type_head_at (codes "union") left) maybe_members_at)

abbrev pub enum_at : ℕ → Reader NamedBody
enum_at left = image enum_of (pair (type_head_at (codes "enum") left) (maybe_enum_values_at left))

abbrev pub input_object_at : ℕ → Reader NamedBody
input_object_at left = image input_object_of (pair (type_head_at (codes "input") left) (maybe_input_fields_at left))

unfoldable pub type_definition_at : ℕ → Reader NamedBody
type_definition_at left = choice (takes (keyword (codes "scalar"))) (scalar_at left)
    (choice (takes (keyword (codes "type"))) (object_at left)
    (choice (takes (keyword (codes "interface"))) (interface_at left)
    (choice (takes (keyword (codes "union"))) (union_at left)
    (choice (takes (keyword (codes "enum"))) (enum_at left) (input_object_at left)))))

abbrev pub repeatable_at : Reader Bool
repeatable_at = optional (takes (keyword (codes "repeatable"))) false (image there (single (keyword (codes "repeatable"))))

abbrev pub locations_at : Reader (List NameText)
locations_at = image second (pair (single (keyword (codes "on"))) (names_at Pipe))

abbrev pub directive_definition_at : ℕ → Reader NamedBody
directive_definition_at left = image directive_of (pair (single (keyword (codes "directive"))) (pair (single (exact At)) (pair name_at (pair (maybe_arguments_at left) (pair repeatable_at locations_at)))))

unfoldable pub body_at : ℕ → Reader NamedBody
body_at left = choice (takes (keyword (codes "schema"))) (schema_definition_at left)
    (choice (takes (keyword (codes "directive"))) (directive_definition_at left) (type_definition_at left))

unfoldable pub definition_at : ℕ → Reader DefinitionTree
definition_at left = pair description_at (body_at left)

-- there is a next symbol, and it isn't `extend`
abbrev pub begins_definition : Test
begins_definition w = is_there w && not (takes (keyword (codes "extend")) w)

-- definitions up to the end or to `extend`
unfoldable pub definitions_at : ℕ → Reader (List DefinitionTree)
definitions_at left = repeated begins_definition (definition_at left)
