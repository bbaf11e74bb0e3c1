-- The names of values, types, arguments and directives, one after another.
use Rattle.std.proofs.Common.{ℕ, ◌+◌, ◌≡◌, ◌<◌, ◌≤◌, Bool, ℤ, List, [], ◌∷◌, ◌++◌, length, map, drop, get_or, refl, sym, ap, ◌∙◌, append_assoc, append-nil}
use Rattle.std.specs.Prelude.{codes}
use Rattle.std.specs.List.{flat_map}
use Rattle.std.proofs.lemmas.Grind.{flat_map-append}
use Rattle.std.proofs.lemmas.List.{drop_all}
use Rattle.gql_base.proofs.Lists.{at_front}
use Rattle.gql_base.specs.declared.lexical.token.TokenKind.{TokenKind}
use Rattle.gql_base.specs.declared.lexical.token.TokenKind.TheVariants.{CloseBracket, CloseBrace, CloseParen, Bang}
use Rattle.gql_base.specs.declared.parts.trees.Value.{Value}
use Rattle.gql_base.specs.declared.parts.trees.Argument.{Argument}
use Rattle.gql_base.specs.declared.parts.trees.Directive.{Directive}
use Rattle.gql_base.specs.ways.Symbols.{punctuator, Symbols}
use Rattle.gql_base.specs.parts.Values.{variable_value, integer_value, float_value, string_value, boolean_value, null_value, enum_value, list_value, object_value, ValueTrees, FieldTrees, values_from, fields_from, NamedValue}
use Rattle.gql_base.specs.parts.TypeReferences.{TypeTree, named_type, list_type, non_null_type}
use Rattle.gql_base.specs.parts.Trees.{value_tree, named_value, directive_tree}
use Rattle.gql_base.specs.printing.PrintedTrees.{printed_name, boolean_name, value_symbols, values_symbols, fields_symbols, type_symbols, in_parentheses}
use Rattle.gql_base.proofs.PrintingLaws.PrintSteps.{open_argument}
use Rattle.gql_base.proofs.PartLaws.ValueSteps.{variable_tree, integer_tree, float_tree, string_tree, boolean_tree, null_tree, enum_tree, list_tree, object_tree, named_type_tree, list_type_tree, non_null_tree}
use Rattle.document_reader.specs.PrintedDocuments.{argument_symbols, arguments_symbols, directive_symbols}
use Rattle.typename_rewrite.specs.AddedNames.{name_in, names_in}

-- ---- names of symbols

pub names_append : (xs ys : Symbols) → names_in (xs ++ ys) ≡ names_in xs ++ names_in ys
unfolding names_in
names_append xs ys = flat_map-append name_in xs ys

pub no_names : names_in [] ≡ []
unfolding names_in
no_names = refl

pub names_of_name : (name : List ℕ) (ws : Symbols) → names_in (printed_name name ∷ ws) ≡ name ∷ names_in ws
unfolding names_in
names_of_name name ws = refl

pub names_of_mark : (kind : TokenKind) (ws : Symbols) → names_in (punctuator kind ∷ ws) ≡ names_in ws
unfolding names_in
names_of_mark kind ws = refl

-- ---- things one after another: what is left has the names of the whole

pub next_names : {X : Type 0} (names : X → List (List ℕ)) (old new whole : List (List ℕ)) (xs : List X) (at : ℕ) (x : X) → at < length xs → x ≡ get_or xs at x → new ≡ old ++ names x
    → old ++ flat_map names (drop at xs) ≡ whole → new ++ flat_map names (drop (at + 1) xs) ≡ whole
next_names names old new whole xs at x here is grown before = let rest : List (List ℕ) = flat_map names (drop (at + 1) xs) in
    ap (λ l. l ++ rest) grown ∙ (append_assoc old (names x) rest ∙ (ap (λ l. old ++ flat_map names l) (sym (at_front xs at x here is)) ∙ before))

pub names_end : {X : Type 0} (names : X → List (List ℕ)) (old whole : List (List ℕ)) (xs : List X) (at : ℕ) → length xs ≤ at → old ++ flat_map names (drop at xs) ≡ whole → old ≡ whole
names_end names old whole xs at past before = sym (append-nil old) ∙ (ap (λ l. old ++ flat_map names l) (sym (drop_all at xs past)) ∙ before)

pub names_of_all : {X T : Type 0} (view : X → T) (symbols : T → Symbols) (xs : List X) → names_in (flat_map symbols (map view xs)) ≡ flat_map (λ x. names_in (symbols (view x))) xs
names_of_all view symbols [] = no_names
names_of_all view symbols (x ∷ xs) = names_append (symbols (view x)) (flat_map symbols (map view xs)) ∙ ap (λ l. names_in (symbols (view x)) ++ l) (names_of_all view symbols xs)

pub names_in_parentheses : {X T : Type 0} (view : X → T) (symbols : T → Symbols) (xs : List X) → names_in (in_parentheses symbols (map view xs)) ≡ flat_map (λ x. names_in (symbols (view x))) xs
unfolding names_in
names_in_parentheses view symbols [] = refl
names_in_parentheses view symbols (x ∷ xs) = names_append (flat_map symbols (map view (x ∷ xs))) (punctuator CloseParen ∷ []) ∙ (append-nil _ ∙ names_of_all view symbols (x ∷ xs))

-- ---- values

pub names_of_variable : (name : List ℕ) (at : ℕ) → names_in (value_symbols (variable_value name at)) ≡ name ∷ []
unfolding names_in value_symbols
names_of_variable name at = refl

pub names_of_integer : (v : ℤ) → names_in (value_symbols (integer_value v)) ≡ []
unfolding names_in value_symbols
names_of_integer v = refl

pub names_of_float : (digits : List ℕ) → names_in (value_symbols (float_value digits)) ≡ []
unfolding names_in value_symbols
names_of_float digits = refl

pub names_of_string : (v : List ℕ) → names_in (value_symbols (string_value v)) ≡ []
unfolding names_in value_symbols
names_of_string v = refl

pub names_of_boolean : (b : Bool) → names_in (value_symbols (boolean_value b)) ≡ boolean_name b ∷ []
unfolding names_in value_symbols
names_of_boolean b = refl

pub names_of_null : names_in (value_symbols null_value) ≡ codes "null" ∷ []
unfolding names_in value_symbols
names_of_null = refl

pub names_of_enum : (name : List ℕ) (at : ℕ) → names_in (value_symbols (enum_value name at)) ≡ name ∷ []
unfolding names_in value_symbols
names_of_enum name at = refl

pub names_of_list : (vs : ValueTrees) → names_in (value_symbols (list_value vs)) ≡ names_in (values_symbols vs)
unfolding names_in value_symbols
names_of_list vs = names_append (values_symbols vs) (punctuator CloseBracket ∷ []) ∙ append-nil _

pub names_of_object : (fs : FieldTrees) → names_in (value_symbols (object_value fs)) ≡ names_in (fields_symbols fs)
unfolding names_in value_symbols
names_of_object fs = names_append (fields_symbols fs) (punctuator CloseBrace ∷ []) ∙ append-nil _

pub names_of_argument : (a : NamedValue) → names_in (argument_symbols a) ≡ a.0.0 ∷ names_in (value_symbols a.1)
unfolding names_in
names_of_argument a = refl

pub names_of_values : (vs : List Value) → names_in (values_symbols (values_from (map value_tree vs))) ≡ flat_map (λ v. names_in (value_symbols (value_tree v))) vs
unfolding names_in value_symbols
names_of_values [] = refl
names_of_values (v ∷ vs) = names_append (value_symbols (value_tree v)) (values_symbols (values_from (map value_tree vs))) ∙ ap (λ l. names_in (value_symbols (value_tree v)) ++ l) (names_of_values vs)

pub names_of_fields : (fs : List Argument) → names_in (fields_symbols (fields_from (map named_value fs))) ≡ flat_map (λ f. names_in (argument_symbols (named_value f))) fs
unfolding names_in value_symbols
names_of_fields [] = refl
names_of_fields (f ∷ fs) = names_append (argument_symbols (named_value f)) (fields_symbols (fields_from (map named_value fs))) ∙ ap (λ l. names_in (argument_symbols (named_value f)) ++ l) (names_of_fields fs)

pub ruleset value_steps = (variable_tree, integer_tree, float_tree, string_tree, boolean_tree, null_tree, enum_tree, list_tree, object_tree, names_of_variable, names_of_integer, names_of_float, names_of_string, names_of_boolean, names_of_null, names_of_enum, names_of_list, names_of_object, names_of_argument, open_argument, append_assoc, append-nil)

-- ---- types

pub names_of_named : (name : List ℕ) (at : ℕ) → names_in (type_symbols (named_type name at)) ≡ name ∷ []
unfolding names_in type_symbols
names_of_named name at = refl

pub names_of_list_type : (t : TypeTree) → names_in (type_symbols (list_type t)) ≡ names_in (type_symbols t)
unfolding names_in type_symbols
names_of_list_type t = names_append (type_symbols t) (punctuator CloseBracket ∷ []) ∙ append-nil _

pub names_of_non_null : (t : TypeTree) → names_in (type_symbols (non_null_type t)) ≡ names_in (type_symbols t)
unfolding names_in type_symbols
names_of_non_null t = names_append (type_symbols t) (punctuator Bang ∷ []) ∙ append-nil _

pub ruleset type_steps = (named_type_tree, list_type_tree, non_null_tree, names_of_named, names_of_list_type, names_of_non_null)

-- ---- arguments and directives

pub names_of_arguments : (fs : List Argument) → names_in (arguments_symbols (map named_value fs)) ≡ names_in (fields_symbols (fields_from (map named_value fs)))
names_of_arguments fs = names_in_parentheses named_value argument_symbols fs ∙ sym (names_of_fields fs)

pub names_of_directive : (d : Directive) → names_in (directive_symbols (directive_tree d)) ≡ d.name.text ∷ names_in (fields_symbols (fields_from (map named_value d.arguments.items)))
unfolding names_in
names_of_directive d = ap (λ l. d.name.text ∷ l) (names_of_arguments d.arguments.items)

pub ruleset part_steps = (names_of_directive, append_assoc, append-nil)
