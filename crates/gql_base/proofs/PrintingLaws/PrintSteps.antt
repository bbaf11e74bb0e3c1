-- Printing symbol after symbol, and what values and types that are looked at stand for.
use Rattle.std.proofs.Common.{ℕ, ◌+◌, ◌≡◌, ◌<◌, ◌≤◌, List, [], ◌∷◌, ◌++◌, length, map, drop, get_or, refl, sym, ap, ◌∙◌, arith, append_assoc, append-nil}
use Rattle.std.proofs.lemmas.List.{drop_all}
use Rattle.gql_base.proofs.Lists.{at_front}
use Rattle.gql_base.specs.declared.lexical.token.TokenKind.TheVariants.{Bang, Dollar, Colon, OpenBracket, CloseBracket, OpenBrace, CloseBrace}
use Rattle.gql_base.specs.declared.parts.trees.Value.{Value}
use Rattle.gql_base.specs.declared.parts.trees.Argument.{Argument}
use Rattle.gql_base.specs.declared.parts.trees.TypeRef.{TypeRef}
use Rattle.gql_base.specs.ways.Symbols.{Symbol, punctuator, identifier, Symbols}
use Rattle.gql_base.specs.printing.Printing.{Printed, put, put_all}
use Rattle.gql_base.specs.printing.PrintedTrees.{printed_name, value_symbols, values_symbols, fields_symbols, type_symbols}
use Rattle.gql_base.specs.parts.Values.{ValueTree, list_value, object_value, variable_value, values_from, fields_from}
use Rattle.gql_base.specs.parts.TypeReferences.{TypeTree, named_type, list_type, non_null_type}
use Rattle.gql_base.specs.parts.Trees.{value_tree, named_value, type_tree, value_step, argument_step}
use Rattle.gql_base.specs.parts.Values.{NamedValue}
use Rattle.gql_base.specs.declared.parts.trees.Value.TheFolds.{fold_out-Argument}
use Rattle.gql_base.specs.printing.Printing.{escaped, all_escaped}
use Rattle.std.specs.List.{flat_map}
use Rattle.std.specs.Str.{chars}

pub put_all_append : (p : Printed) (a b : Symbols) → put_all p (a ++ b) ≡ put_all (put_all p a) b
unfolding put_all
put_all_append p [] b = refl
put_all_append p (w ∷ a) b = put_all_append (put p w) a b

-- one symbol
pub printed_single : (p q : Printed) (v : Value) (t : ValueTree) (w : Symbol) → value_tree v ≡ t → value_symbols t ≡ w ∷ [] → q ≡ put p w → q ≡ put_all p (value_symbols (value_tree v))
unfolding put_all
printed_single p q v t w is one e = e ∙ (ap (put_all p) (sym one) ∙ ap (λ t. put_all p (value_symbols t)) (sym is))

pub printed_variable : (p mid q : Printed) (v : Value) (name : List ℕ) (at : ℕ) → value_tree v ≡ variable_value name at → mid ≡ put p (punctuator Dollar) → q ≡ put mid (identifier name 0) → q ≡ put_all p (value_symbols (value_tree v))
unfolding put_all value_symbols
printed_variable p mid q v name at is e f = f ∙ (ap (λ m. put m (identifier name 0)) e ∙ ap (λ t. put_all p (value_symbols t)) (sym is))

pub printed_tree : (p q : Printed) (v : Value) (t u : ValueTree) → value_tree v ≡ t → u ≡ t → q ≡ put_all p (value_symbols u) → q ≡ put_all p (value_symbols (value_tree v))
printed_tree p q v t u is same e = e ∙ ap (λ t. put_all p (value_symbols t)) (same ∙ sym is)

-- in brackets
pub printed_list : (p one two q : Printed) (vs : List Value) → one ≡ put p (punctuator OpenBracket) → two ≡ put_all one (values_symbols (values_from (map value_tree vs))) → q ≡ put two (punctuator CloseBracket) → q ≡ put_all p (value_symbols (list_value (values_from (map value_tree vs))))
unfolding put_all value_symbols
printed_list p one two q vs e f g = g ∙ (ap (λ m. put m (punctuator CloseBracket)) (f ∙ ap (λ m. put_all m (values_symbols (values_from (map value_tree vs)))) e)
    ∙ sym (put_all_append (put p (punctuator OpenBracket)) (values_symbols (values_from (map value_tree vs))) (punctuator CloseBracket ∷ [])))

pub printed_object : (p one two q : Printed) (fs : List Argument) → one ≡ put p (punctuator OpenBrace) → two ≡ put_all one (fields_symbols (fields_from (map named_value fs))) → q ≡ put two (punctuator CloseBrace) → q ≡ put_all p (value_symbols (object_value (fields_from (map named_value fs))))
unfolding put_all value_symbols
printed_object p one two q fs e f g = g ∙ (ap (λ m. put m (punctuator CloseBrace)) (f ∙ ap (λ m. put_all m (fields_symbols (fields_from (map named_value fs)))) e)
    ∙ sym (put_all_append (put p (punctuator OpenBrace)) (fields_symbols (fields_from (map named_value fs))) (punctuator CloseBrace ∷ [])))

-- one after the other: what is left prints as the whole

pub next_value : (p q : Printed) (vs : List Value) (at : ℕ) (v : Value) → at < length vs → v ≡ get_or vs at v → q ≡ put_all p (value_symbols (value_tree v)) → put_all q (values_symbols (values_from (map value_tree (drop (at + 1) vs)))) ≡ put_all p (values_symbols (values_from (map value_tree (drop at vs))))
unfolding value_symbols
next_value p q vs at v h is e = ap (λ m. put_all m (values_symbols (values_from (map value_tree (drop (at + 1) vs))))) e
    ∙ (sym (put_all_append p (value_symbols (value_tree v)) (values_symbols (values_from (map value_tree (drop (at + 1) vs))))) ∙ ap (λ l. put_all p (values_symbols (values_from (map value_tree l)))) (sym (at_front vs at v h is)))

pub no_value_left : (p : Printed) (vs : List Value) (at : ℕ) → length vs ≤ at → put_all p (values_symbols (values_from (map value_tree (drop at vs)))) ≡ p
unfolding value_symbols put_all
no_value_left p vs at h = ap (λ l. put_all p (values_symbols (values_from (map value_tree l)))) (drop_all at vs h)

abbrev argument_symbols : Argument → Symbols
argument_symbols a = printed_name (named_value a).0.0 ∷ punctuator Colon ∷ value_symbols (named_value a).1

pub next_argument : (p q : Printed) (fs : List Argument) (at : ℕ) (a : Argument) → at < length fs → a ≡ get_or fs at a → q ≡ put_all p (argument_symbols a) → put_all q (fields_symbols (fields_from (map named_value (drop (at + 1) fs)))) ≡ put_all p (fields_symbols (fields_from (map named_value (drop at fs))))
unfolding value_symbols
next_argument p q fs at a h is e = ap (λ m. put_all m (fields_symbols (fields_from (map named_value (drop (at + 1) fs))))) e
    ∙ (sym (put_all_append p (argument_symbols a) (fields_symbols (fields_from (map named_value (drop (at + 1) fs))))) ∙ ap (λ l. put_all p (fields_symbols (fields_from (map named_value l)))) (sym (at_front fs at a h is)))

pub no_argument_left : (p : Printed) (fs : List Argument) (at : ℕ) → length fs ≤ at → put_all p (fields_symbols (fields_from (map named_value (drop at fs)))) ≡ p
unfolding value_symbols put_all
no_argument_left p fs at h = ap (λ l. put_all p (fields_symbols (fields_from (map named_value l)))) (drop_all at fs h)

pub printed_argument : (p one two q : Printed) (a : Argument) (name : List ℕ) (t : ValueTree) → (named_value a).0.0 ≡ name → (named_value a).1 ≡ t → one ≡ put p (identifier name 0) → two ≡ put one (punctuator Colon) → q ≡ put_all two (value_symbols t) → q ≡ put_all p (argument_symbols a)
unfolding put_all
printed_argument p one two q a name t n is e f g = g ∙ (ap (λ m. put_all m (value_symbols t)) (f ∙ ap (λ m. put m (punctuator Colon)) (e ∙ ap (λ b. put p (identifier b 0)) (sym n)))
    ∙ ap (λ u. put_all (put (put p (identifier (named_value a).0.0 0)) (punctuator Colon)) (value_symbols u)) (sym is))

-- types

pub printed_name_type : (p q : Printed) (t : TypeRef) (name : List ℕ) (at : ℕ) → type_tree t ≡ named_type name at → q ≡ put p (identifier name 0) → q ≡ put_all p (type_symbols (type_tree t))
unfolding put_all type_symbols
printed_name_type p q t name at is e = e ∙ ap (λ u. put_all p (type_symbols u)) (sym is)

pub printed_list_type : (p one two q : Printed) (t : TypeRef) (inner : TypeTree) → type_tree t ≡ list_type inner → one ≡ put p (punctuator OpenBracket) → two ≡ put_all one (type_symbols inner) → q ≡ put two (punctuator CloseBracket) → q ≡ put_all p (type_symbols (type_tree t))
unfolding put_all type_symbols
printed_list_type p one two q t inner is e f g = g ∙ (ap (λ m. put m (punctuator CloseBracket)) (f ∙ ap (λ m. put_all m (type_symbols inner)) e)
    ∙ (sym (put_all_append (put p (punctuator OpenBracket)) (type_symbols inner) (punctuator CloseBracket ∷ [])) ∙ ap (λ u. put_all p (type_symbols u)) (sym is)))

pub printed_non_null : (p one q : Printed) (t : TypeRef) (inner : TypeTree) → type_tree t ≡ non_null_type inner → one ≡ put_all p (type_symbols inner) → q ≡ put one (punctuator Bang) → q ≡ put_all p (type_symbols (type_tree t))
unfolding put_all type_symbols
printed_non_null p one q t inner is e f = f ∙ (ap (λ m. put m (punctuator Bang)) e ∙ (sym (put_all_append p (type_symbols inner) (punctuator Bang ∷ [])) ∙ ap (λ u. put_all p (type_symbols u)) (sym is)))

-- arguments that are looked at

pub open_argument : (a : Argument) → named_value a ≡ ((a.name.text, a.name.at), value_tree a.value)
unfolding named_value value_tree
open_argument a = fold_out-Argument ValueTree NamedValue value_step argument_step a

-- strings, character after character

pub escaped_step : (old new before after whole : List ℕ) (character : ℕ) → chars before ≡ character ∷ chars after → new ≡ old ++ escaped character → old ++ all_escaped before ≡ whole → new ++ all_escaped after ≡ whole
escaped_step old new before after whole character step e h = ap (λ l. l ++ all_escaped after) e ∙ (append_assoc old (escaped character) (all_escaped after) ∙ (ap (λ l. old ++ flat_map escaped l) (sym step) ∙ h))

pub escaped_end : (old rest whole : List ℕ) → length rest ≡ 0 → old ++ all_escaped rest ≡ whole → old ≡ whole
unfolding chars
escaped_end old [] whole e h = sym (append-nil old) ∙ h
escaped_end old (c ∷ cs) whole e h = absurd (omega (arith, e))
