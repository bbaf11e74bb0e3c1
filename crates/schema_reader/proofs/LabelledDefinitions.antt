-- The nestings of the symbols of definitions are told by the symbols.
use Rattle.std.proofs.Common.{ℕ, ◌≡◌, inl, inr, Bool, true, false, List, [], None, Some, refl, sym, ap, subst}
use Rattle.std.specs.Prelude.{codes}
use Rattle.gql_base.specs.declared.lexical.token.TokenKind.{TokenKind}
use Rattle.gql_base.specs.declared.lexical.token.TokenKind.TheVariants.{Amp, Colon, Equals, At, OpenParen, CloseParen, OpenBrace, CloseBrace, Pipe}
use Rattle.gql_base.specs.declared.parts.trees.OperationKind.{OperationKind}
use Rattle.gql_base.specs.ways.Symbols.{Symbol, punctuator, identifier, integer, decimal, string, kind_of}
use Rattle.gql_base.specs.ways.Reading.{exact, second, inside, listed}
use Rattle.gql_base.specs.ways.Grammar.{Nested, Single, Pair, Image, Optional, Repeated}
use Rattle.gql_base.specs.parts.TypeReferences.{there}
use Rattle.gql_base.specs.parts.OperationKinds.{kind_word}
use Rattle.schema_reader.specs.Schemas.{name_of, IsName, IsDescription, IsOtherName, AreNames, Between, input_of, IsInput, AreArgumentDefinitions, field_of, IsField, enum_name, IsEnumValue, root_of, IsRoot, schema_of, IsSchemaDefinition, IsTypeHead, scalar_of, AreInterfaces, IsFieldedType, object_type_of, interface_of, AreMembers, union_of, enum_of, input_object_of, IsTypeDefinition, AreLocations, directive_of, IsDirectiveDefinition, IsDefinition, IsSchema}
use Rattle.schema_reader.proofs.FieldLaws.{enum_name_is}
use Rattle.schema_reader.proofs.SchemaLevels.{Runs, none_runs, joined_runs, IsFlat, Labelled, single_labelled, mark_labelled, name_labelled, word_labelled, string_labelled, pair_labelled, image_labelled, choice_labelled, optional_labelled, repeated_labelled, one_or_more_labelled, type_labelled, colon_labelled, directives_labelled, default_labelled}

-- parts

plain_name_labelled : Labelled (IsName 0) false false 0
plain_name_labelled = image_labelled name_of name_labelled

description_labelled : Labelled (IsDescription 0) false false 0
description_labelled = optional_labelled None (image_labelled Some string_labelled)

some_names_labelled : {b : Bool} (mark : TokenKind) → Labelled (Single (exact mark) 0) false false 0 → Labelled (Image listed (Pair (IsName 0) (Repeated (IsOtherName mark 0)))) b false 0
some_names_labelled mark m = image_labelled listed (pair_labelled {m = false} (image_labelled name_of name_labelled) (repeated_labelled (image_labelled second (pair_labelled m plain_name_labelled))))

-- names whose mark is no colon and no equals sign
names_labelled : {b : Bool} (mark : TokenKind) → Labelled (Single (exact mark) 0) b false 0 → Labelled (Single (exact mark) 0) false false 0 → Labelled (AreNames mark 0) b false 0
names_labelled {b = b} mark first m = image_labelled second (record {
  runs = λ p ws is. elim is.3 [
    | inl there ↦ joined_runs b false false 0 is.0 is.1 ws (first.runs p.0 is.0 there) ((some_names_labelled mark m).runs p.1 is.1 is.4) is.2
    | inr left_out ↦ joined_runs b b false 0 is.0 is.1 ws (subst (Runs b b 0) (sym left_out.1) (none_runs b 0)) ((some_names_labelled mark m).runs p.1 is.1 is.4) is.2
  ];
})

braces_labelled : {A : Type 0} {S : A → Nested → Type 0} → Labelled S false false 0 → Labelled (Optional [] (Between OpenBrace CloseBrace 0 S)) false false 0
braces_labelled s = optional_labelled [] (image_labelled inside (pair_labelled {m = false} (mark_labelled OpenBrace tt (refl, refl, refl)) (pair_labelled (one_or_more_labelled s) (mark_labelled CloseBrace tt (refl, refl, refl)))))

input_labelled : Labelled (IsInput 0) false false 0
input_labelled = image_labelled input_of (pair_labelled description_labelled (pair_labelled plain_name_labelled (pair_labelled colon_labelled (pair_labelled type_labelled (pair_labelled (optional_labelled None default_labelled) (directives_labelled true))))))

arguments_labelled : Labelled (Optional [] (AreArgumentDefinitions 0)) false false 0
arguments_labelled = optional_labelled [] (image_labelled inside (pair_labelled {m = false} (mark_labelled OpenParen tt (refl, refl, refl)) (pair_labelled (one_or_more_labelled input_labelled) (mark_labelled CloseParen tt (refl, refl, refl)))))

field_labelled : Labelled (IsField 0) false false 0
field_labelled = image_labelled field_of (pair_labelled description_labelled (pair_labelled plain_name_labelled (pair_labelled arguments_labelled (pair_labelled colon_labelled (pair_labelled type_labelled (directives_labelled true))))))

enum_value_labelled : Labelled (IsEnumValue 0) false false 0
enum_value_labelled = pair_labelled description_labelled (pair_labelled (single_labelled enum_name (λ w name e. subst (IsFlat false false 0) (sym (ap kind_of (enum_name_is w name e).1)) (refl, refl, refl))) (directives_labelled true))

kind_flat : (w : Symbol) (k : OperationKind) → kind_word w ≡ Some k → IsFlat false false 0 (kind_of w)
kind_flat (identifier bytes at) k e = (refl, refl, refl)
kind_flat (punctuator kind) k e = cc
kind_flat (integer v) k e = cc
kind_flat (decimal bytes) k e = cc
kind_flat (string v) k e = cc

root_labelled : Labelled (IsRoot 0) false false 0
root_labelled = image_labelled root_of (pair_labelled {m = false} (single_labelled kind_word kind_flat) (pair_labelled {m = true} (mark_labelled Colon tt (refl, refl, refl)) (image_labelled name_of name_labelled)))

-- definitions

schema_definition_labelled : Labelled (IsSchemaDefinition 0) false false 0
schema_definition_labelled = image_labelled schema_of (pair_labelled {m = false} (word_labelled (codes "schema")) (pair_labelled (directives_labelled true) (image_labelled inside (pair_labelled {m = false} (mark_labelled OpenBrace tt (refl, refl, refl)) (pair_labelled (one_or_more_labelled root_labelled) (mark_labelled CloseBrace tt (refl, refl, refl)))))))

head_labelled : (word : List ℕ) → Labelled (IsTypeHead word 0) false false 0
head_labelled word = image_labelled second (pair_labelled {m = false} (word_labelled word) (pair_labelled plain_name_labelled (directives_labelled true)))

interfaces_labelled : Labelled (AreInterfaces 0) false false 0
interfaces_labelled = image_labelled second (pair_labelled {m = false} (word_labelled (codes "implements")) (names_labelled Amp (mark_labelled Amp tt (refl, refl, refl)) (mark_labelled Amp tt (refl, refl, refl))))

fielded_labelled : (word : List ℕ) → Labelled (IsFieldedType word 0) false false 0
fielded_labelled word = image_labelled second (pair_labelled {m = false} (word_labelled word) (pair_labelled plain_name_labelled (pair_labelled (optional_labelled [] interfaces_labelled) (pair_labelled (directives_labelled true) (braces_labelled field_labelled)))))

-- the names after the equals sign or the word before them
members_labelled : Labelled (AreMembers 0) false false 0
members_labelled = image_labelled second (pair_labelled {m = true} (mark_labelled Equals tt (refl, refl, refl)) (names_labelled Pipe (mark_labelled Pipe tt (refl, refl, refl)) (mark_labelled Pipe tt (refl, refl, refl))))

locations_labelled : Labelled (AreLocations 0) false false 0
locations_labelled = image_labelled second (pair_labelled {m = false} (word_labelled (codes "on")) (names_labelled Pipe (mark_labelled Pipe tt (refl, refl, refl)) (mark_labelled Pipe tt (refl, refl, refl))))

type_definition_labelled : Labelled (IsTypeDefinition 0) false false 0
type_definition_labelled =
    choice_labelled (image_labelled scalar_of (head_labelled (codes "scalar")))
    (choice_labelled (image_labelled object_type_of (fielded_labelled (codes "type")))
    (choice_labelled (image_labelled interface_of (fielded_labelled (codes "interface")))
    (choice_labelled (image_labelled union_of (pair_labelled (head_labelled (codes "union")) (optional_labelled [] members_labelled)))
    (choice_labelled (image_labelled enum_of (pair_labelled (head_labelled (codes "enum")) (braces_labelled enum_value_labelled)))
    (image_labelled input_object_of (pair_labelled (head_labelled (codes "input")) (braces_labelled input_labelled)))))))

directive_definition_labelled : Labelled (IsDirectiveDefinition 0) false false 0
directive_definition_labelled = image_labelled directive_of (pair_labelled {m = false} (word_labelled (codes "directive")) (pair_labelled {m = false} (mark_labelled At tt (refl, refl, refl)) (pair_labelled plain_name_labelled (pair_labelled arguments_labelled (pair_labelled (optional_labelled false (image_labelled there (word_labelled (codes "repeatable")))) locations_labelled)))))

pub schema_labelled : Labelled IsSchema false false 0
unfolding IsDefinition IsSchema
schema_labelled = one_or_more_labelled (pair_labelled description_labelled (choice_labelled schema_definition_labelled (choice_labelled directive_definition_labelled type_definition_labelled)))
