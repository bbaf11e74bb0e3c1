-- What of schema texts can be repeated.
use Rattle.std.proofs.Common.{ℕ, refl, arith}
use Rattle.gql_base.specs.declared.lexical.token.TokenKind.{TokenKind}
use Rattle.gql_base.specs.declared.lexical.token.TokenKind.TheVariants.{CloseBrace}
use Rattle.gql_base.specs.ways.Reading.{takes, exact, up_to, is_there}
use Rattle.gql_base.proofs.WayLaws.RepeatingLaws.{Repeats, repeats}
use Rattle.gql_base.proofs.WayLaws.WordLaws.{takes_mark}
use Rattle.schema_reader.specs.SchemaReading.{other_name_at, input_at, field_definition_at, enum_value_at, root_at, definition_at, begins_definition}
use Rattle.schema_reader.proofs.FieldLaws.{heads_other_name, other_name_law, heads_input, input_law, heads_field, field_law, heads_enum_value, enum_value_law}
use Rattle.schema_reader.proofs.DefinitionLaws.{root_begins, root_law, heads_definition, definition_law, definition_begins}

pub names_repeat : (mark : TokenKind) → Repeats (takes (exact mark)) (other_name_at mark)
names_repeat mark = repeats {n = 0} (takes (exact mark)) (other_name_law {d = 0} mark (omega arith)) (heads_other_name mark (takes_mark mark)) refl

-- up to any kind of token
pub inputs_repeat : (close : TokenKind) (n : ℕ) → Repeats (up_to close) (input_at n)
inputs_repeat close n = record { at_end = refl; less = (repeats is_there (input_law n n 0 n (omega arith) (omega arith)) (heads_input 0 (λ v. refl) (λ b at. refl)) refl).less }

pub fields_repeat : (n : ℕ) → Repeats (up_to CloseBrace) (field_definition_at n)
fields_repeat n = repeats (up_to CloseBrace) (field_law n n 0 n (omega arith) (omega arith)) (heads_field 0 (λ v. refl) (λ b at. refl)) refl

pub enum_values_repeat : (n : ℕ) → Repeats (up_to CloseBrace) (enum_value_at n)
enum_values_repeat n = repeats (up_to CloseBrace) (enum_value_law n n 0 n (omega arith) (omega arith)) (heads_enum_value 0 (λ v. refl) (λ b at. refl)) refl

pub roots_repeat : Repeats (up_to CloseBrace) root_at
roots_repeat = repeats {n = 0} (up_to CloseBrace) (root_law {d = 0} (omega arith)) (root_begins 0) refl

pub definitions_repeat : (n : ℕ) → Repeats begins_definition (definition_at n)
definitions_repeat n = repeats begins_definition (definition_law n n 0 n (omega arith) (omega arith)) (heads_definition 0 definition_begins) refl
