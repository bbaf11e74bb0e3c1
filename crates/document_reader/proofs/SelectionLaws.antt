-- Reading arguments, directives and selections gives what is written as them.
use Rattle.std.proofs.Common.{ℕ, zero, suc, ◌+◌, ◌≡◌, ◌≤◌, inl, inr, Bool, true, false, List, [], ◌∷◌, ◌++◌, Option, None, Some, refl, sym, ap, ◌∙◌, subst, arith}
use Rattle.std.specs.Prelude.{◌||◌, codes}
use Rattle.std.specs.Str.{bytes_eq}
use Rattle.gql_base.specs.declared.lexical.token.TokenKind.TheVariants.{Colon, At, Spread, OpenParen, OpenBrace, CloseBrace}
use Rattle.gql_base.specs.ways.Symbols.{Symbol, punctuator, identifier, integer, decimal, string, Symbols}
use Rattle.gql_base.specs.ways.Reading.{Reader, Test, next, is_some, takes, optional, second, level, exact, Identifier, any_name, up_to, never, some_second}
use Rattle.gql_base.specs.ways.Grammar.{Nested, plain, Single, Pair, Image, Choice, Optional, Repeated, OneOrMore, Level}
use Rattle.gql_base.proofs.WayLaws.WordLaws.{left_false, right_false}
use Rattle.gql_base.proofs.PartLaws.ArgumentLaws.{goes_directives, heads_arguments, maybe_arguments_law, heads_directive, directives_law}
use Rattle.document_reader.specs.Documents.{SelectionTree, field_selection, fragment_spread, inline_fragment, SelectionTrees, no_selection, selection_then, on_word, unless, fragment_name, AreFieldNames, IsFieldHead, IsTypeCondition, IsSpreadEnd, IsInlineHead, IsSelection, IsSelectionSet, AreSelections}
use Rattle.document_reader.specs.DocumentReading.{second_name_at, field_names_at, field_head_at, type_condition_at, selections_from, set_of, field_of, spread_of, inline_of, field_with, spread_at, inline_head_at, inline_with, dots_with, selection_with, in_set, set_at}
use Rattle.gql_base.proofs.WayLaws.ReadingLaws.{Law, Heads, image_law, single_law, choice_law, as_law, after, wider_law}
use Rattle.gql_base.proofs.WayLaws.RepeatingLaws.{one_or_more_law, optional_law, passes_repeated}
use Rattle.gql_base.proofs.WayLaws.LevelLaws.{open_law, shut_law}
use Rattle.gql_base.proofs.WayLaws.SymbolTests.{when_true, mark_law, name_law, heads_single, heads_mark, heads_name, SaysOfNames, heads_pair, heads_image, heads_choice, passes_heads, passes_optional, passes_pair, heads_after, then_law, from_brackets, to_brackets}
use Rattle.std.proofs.lemmas.Bool.{or_parts}

-- with what things may go on

abbrev goes_head : Test
goes_head w = takes (exact Colon) w || goes_directives w

abbrev pub goes_field : Test
goes_field w = takes (exact OpenBrace) w || goes_head w

-- fields

second_name_law : {d n : ℕ} → d ≤ n → Law (Optional None (Image some_second (Pair (Single (exact Colon) d) (Single any_name d)))) n (takes (exact Colon)) (optional (takes (exact Colon)) None second_name_at) (optional (takes (exact Colon)) None second_name_at)
second_name_law le = optional_law (takes (exact Colon)) None (image_law some_second (after (mark_law Colon le) (name_law le))) (heads_image (heads_pair _ (heads_mark Colon tt refl))) (λ w h. (refl, h))

field_names_law : {d n : ℕ} → d ≤ n → Law (AreFieldNames d) n (takes (exact Colon)) field_names_at field_names_at
field_names_law le = after (name_law le) (second_name_law le)

field_head_law : (left more d n : ℕ) → left ≤ more → n ≡ d + left → Law (IsFieldHead d) n goes_head (field_head_at left) (field_head_at more)
field_head_law left more d n le e = then_law (field_names_law (omega (arith, e)))
    (then_law (maybe_arguments_law false left more d n le e) (wider_law (λ w h. right_false (takes (exact Colon) w) (goes_directives w) h) (directives_law false left more d n le e))
    (passes_repeated (heads_directive false d refl) (λ w h. left_false (takes (exact OpenParen) w) (takes (exact At) w) (right_false (takes (exact Colon) w) (goes_directives w) h))))
    (passes_pair (passes_optional (heads_arguments false d refl) (λ w h. h)) (passes_repeated (heads_directive false d refl) (λ w h. left_false (takes (exact Colon) w) (goes_directives w) h)))

set_begins : {b : Bool} (test : Test) (d : ℕ) → test (Some (punctuator OpenBrace)) ≡ b → (ss : SelectionTrees) (f : Nested) (rest : Symbols) → IsSelectionSet d ss f → test (next (plain f ++ rest)) ≡ b
unfolding IsSelection
set_begins test d e no_selection f rest is = absurd is
set_begins test d e (selection_then s others) f rest is = ap (λ (l : Nested). test (next (plain l ++ rest))) is.1 ∙ e

pub heads_set : {b : Bool} {test : Test} (d : ℕ) → test (Some (punctuator OpenBrace)) ≡ b → Heads b test (IsSelectionSet d)
heads_set {test = test} d e = record { says = set_begins test d e }

abbrev WrittenField : ℕ → SelectionTree → Nested → Type 0
WrittenField d = Image field_of (Pair (IsFieldHead d) (Optional no_selection (IsSelectionSet d)))

field_selection_law : (left more d n : ℕ) (set set2 : Reader SelectionTrees) → left ≤ more → n ≡ d + left → Law (IsSelectionSet d) n never set set2 → Law (WrittenField d) n goes_field (field_with left set) (field_with more set2)
field_selection_law left more d n set set2 le e l = image_law field_of (then_law (field_head_law left more d n le e)
    (optional_law (takes (exact OpenBrace)) no_selection l (heads_set d refl) (λ w h. (refl, left_false (takes (exact OpenBrace) w) (goes_head w) h)))
    (passes_optional (heads_set d refl) (λ w h. right_false (takes (exact OpenBrace) w) (goes_head w) h)))

-- fragments in selections

spread_law : (left more d n : ℕ) → left ≤ more → n ≡ d + left → Law (Image spread_of (IsSpreadEnd d)) n goes_directives (spread_at left) (spread_at more)
spread_law left more d n le e = image_law spread_of (after (single_law fragment_name ([], 0) (identifier [] 0) refl (omega (arith, e))) (directives_law false left more d n le e))

condition_law : {d n : ℕ} → d ≤ n → Law (IsTypeCondition d) n never type_condition_at type_condition_at
condition_law le = image_law some_second (after (single_law on_word tt (identifier (codes "on") 0) refl le) (name_law le))

is_on : (w : Symbol) (a : Unit {0}) → on_word w ≡ Some a → takes on_word (Some w) ≡ true
is_on w a e = ap is_some e

on_is_no_name : (w : Symbol) (a : Unit {0}) → on_word w ≡ Some a → takes fragment_name (Some w) ≡ false
on_is_no_name (identifier bytes at) a e = ap (λ b. is_some {A = Identifier} (unless b (bytes, at))) (when_true (bytes_eq bytes (codes "on")) a e)
on_is_no_name (punctuator k) a e = cc
on_is_no_name (integer v) a e = cc
on_is_no_name (decimal bytes) a e = cc
on_is_no_name (string v) a e = cc

heads_condition : {b : Bool} {test : Test} (d : ℕ) → ((w : Symbol) (a : Unit {0}) → on_word w ≡ Some a → test (Some w) ≡ b) → Heads b test (IsTypeCondition d)
heads_condition {b = b} {test = test} d says = heads_image (heads_pair _ (heads_single b test on_word d says))

abbrev goes_inline : Test
goes_inline w = takes on_word w || goes_directives w

inline_head_law : (left more d n : ℕ) → left ≤ more → n ≡ d + left → Law (IsInlineHead d) n goes_inline (inline_head_at left) (inline_head_at more)
inline_head_law left more d n le e = then_law (optional_law (takes on_word) None (condition_law (omega (arith, e))) (heads_condition d is_on) (λ w h. (refl, h)))
    (wider_law (λ w h. right_false (takes on_word w) (goes_directives w) h) (directives_law false left more d n le e))
    (passes_repeated (heads_directive false d refl) (λ w h. left_false (takes on_word w) (goes_directives w) h))

inline_law : (left more d n : ℕ) (set set2 : Reader SelectionTrees) → left ≤ more → n ≡ d + left → Law (IsSelectionSet d) n never set set2 → Law (Image inline_of (Pair (IsInlineHead d) (IsSelectionSet d))) n never (inline_with left set) (inline_with more set2)
inline_law left more d n set set2 le e l = image_law inline_of (then_law (inline_head_law left more d n le e) l (passes_heads (heads_set d refl)))

heads_inline : (d : ℕ) → Heads false (takes fragment_name) (Image inline_of (Pair (IsInlineHead d) (IsSelectionSet d)))
heads_inline d = heads_image (heads_after (passes_pair (passes_optional (heads_condition d on_is_no_name) (λ w h. h)) (passes_repeated (heads_directive false d refl) (λ w h. h))) (heads_set d refl))

abbrev WrittenDots : ℕ → SelectionTree → Nested → Type 0
WrittenDots d = Image second (Pair (Single (exact Spread) d) (Choice (Image spread_of (IsSpreadEnd d)) (Image inline_of (Pair (IsInlineHead d) (IsSelectionSet d)))))

dots_law : (left more d n : ℕ) (set set2 : Reader SelectionTrees) → left ≤ more → n ≡ d + left → Law (IsSelectionSet d) n never set set2 → Law (WrittenDots d) n goes_directives (dots_with left set) (dots_with more set2)
dots_law left more d n set set2 le e l = image_law second (after (mark_law Spread (omega (arith, e)))
    (choice_law (takes fragment_name) (spread_law left more d n le e) (inline_law left more d n set set2 le e l) (λ w h. (h, refl))
    (heads_image (heads_pair _ (heads_single true (takes fragment_name) fragment_name d (λ w a is. ap is_some is)))) (passes_heads (heads_inline d))))

-- selections by the ways of reading

dots_are : (d : ℕ) (s : SelectionTree) (f e g : Nested) → f ≡ e ++ g → Single (exact Spread) d tt e → Choice (Image spread_of (IsSpreadEnd d)) (Image inline_of (Pair (IsInlineHead d) (IsSelectionSet d))) s g → IsSelection d s f
unfolding IsSelection
dots_are d s f e g cut dots (inl x) = subst (λ (s : SelectionTree). IsSelection d s f) (sym x.1) (e, g, cut, dots, x.2)
dots_are d s f e g cut dots (inr x) = subst (λ (s : SelectionTree). IsSelection d s f) (sym x.1) (e, x.2.0, x.2.1, cut ∙ ap (λ (l : Nested). e ++ l) x.2.2, dots, x.2.3, x.2.4)

selection_is : (d : ℕ) (s : SelectionTree) (f : Nested) → Choice (WrittenDots d) (WrittenField d) s f → IsSelection d s f
unfolding IsSelection
selection_is d s f (inr is) = subst (λ (s : SelectionTree). IsSelection d s f) (sym is.1) (is.2.0, is.2.1, is.2.2, is.2.3, is.2.4)
selection_is d s f (inl is) = subst (λ (s : SelectionTree). IsSelection d s f) (sym is.1) (dots_are d is.0.1 f is.2.0 is.2.1 is.2.2 is.2.3 is.2.4)

of_selection : (d : ℕ) (s : SelectionTree) (f : Nested) → IsSelection d s f → Choice (WrittenDots d) (WrittenField d) s f
unfolding IsSelection
of_selection d (field_selection names arguments directives below) f is = inr (((names, (arguments, directives)), below), refl, (is.0, is.1, is.2, is.3, is.4))
of_selection d (fragment_spread name directives) f is = inl ((tt, fragment_spread name directives), refl, (is.0, is.1, is.2, is.3, inl ((name, directives), refl, is.4)))
of_selection d (inline_fragment on directives below) f is = inl ((tt, inline_fragment on directives below), refl, (is.0, is.1 ++ is.2, is.3, is.4, inr (((on, directives), below), refl, (is.1, is.2, refl, is.5, is.6))))

heads_dots : {b : Bool} {test : Test} (d : ℕ) → test (Some (punctuator Spread)) ≡ b → Heads b test (WrittenDots d)
heads_dots d e = heads_image (heads_pair _ (heads_mark Spread tt e))

heads_field : {b : Bool} {test : Test} (d : ℕ) → SaysOfNames b test → Heads b test (WrittenField d)
heads_field d says = heads_image (heads_pair _ (heads_pair _ (heads_pair _ (heads_name says))))

pub heads_selection : {b : Bool} {test : Test} (d : ℕ) → test (Some (punctuator Spread)) ≡ b → SaysOfNames b test → Heads b test (IsSelection d)
heads_selection {b = b} {test = test} d e says = let h : Heads b test (Choice (WrittenDots d) (WrittenField d)) = heads_choice (heads_dots d e) (heads_field d says) in record { says = λ s f rest is. h.says s f rest (of_selection d s f is) }

pub selection_law : (left more d n : ℕ) (set set2 : Reader SelectionTrees) → left ≤ more → n ≡ d + left → Law (IsSelectionSet d) n never set set2 → Law (IsSelection d) n goes_field (selection_with left set) (selection_with more set2)
selection_law left more d n set set2 le e l = as_law (selection_is d) (of_selection d)
    (choice_law (takes (exact Spread)) (dots_law left more d n set set2 le e l) (field_selection_law left more d n set set2 le e l)
    (λ w h. (right_false (takes (exact Colon) w) (goes_directives w) (right_false (takes (exact OpenBrace) w) (goes_head w) h), h))
    (heads_dots d refl) (passes_heads (heads_field d (λ b at. refl))))

-- selection sets

selections_are : (d : ℕ) (ss : List SelectionTree) (f : Nested) → Repeated (IsSelection d) ss f → AreSelections d (selections_from ss) f
unfolding IsSelection
selections_are d [] f is = is
selections_are d (s ∷ ss) f is = (is.0, is.1, is.2, is.3, selections_are d ss is.1 is.4)

of_selections : (d : ℕ) (ss : SelectionTrees) (f : Nested) → AreSelections d ss f → (l : List SelectionTree) × (ss ≡ selections_from l) × Repeated (IsSelection d) l f
unfolding IsSelection
of_selections d no_selection f is = ([], refl, is)
of_selections d (selection_then s ss) f is = let r = of_selections d ss is.1 is.4 in (s ∷ r.0, ap (selection_then s) r.1, (is.0, is.1, is.2, is.3, r.2))

abbrev WrittenSet : ℕ → SelectionTrees → Nested → Type 0
WrittenSet d = Level (exact OpenBrace) d (Image set_of (Pair (OneOrMore (IsSelection (suc d))) (Single (exact CloseBrace) (suc d))))

set_is : (d : ℕ) (ss : SelectionTrees) (f : Nested) → WrittenSet d ss f → IsSelectionSet d ss f
unfolding IsSelection
set_is d ss f is = let m = from_brackets OpenBrace CloseBrace d (OneOrMore (IsSelection (suc d))) set_of ss f tt tt is in let p = m.2.2 in
    subst (λ (ss : SelectionTrees). IsSelectionSet d ss f) (sym (m.1 ∙ ap selections_from p.1)) (m.2.0, m.2.1, (p.2.0, p.2.1, p.2.2, p.2.3, selections_are (suc d) p.0.1 p.2.1 p.2.4))

of_set : (d : ℕ) (ss : SelectionTrees) (f : Nested) → IsSelectionSet d ss f → WrittenSet d ss f
unfolding IsSelection
of_set d no_selection f is = absurd is
of_set d (selection_then s ss) f is = let r = of_selections (suc d) ss is.2.1 is.2.4 in
    subst (λ (l : SelectionTrees). WrittenSet d (selection_then s l) f) (sym r.1) (to_brackets OpenBrace CloseBrace d (OneOrMore (IsSelection (suc d))) set_of (s ∷ r.0) f (is.0, is.1, ((s, r.0), refl, (is.2.0, is.2.1, is.2.2, is.2.3, r.2))))

in_set_law : (left more d n : ℕ) (set set2 : Reader SelectionTrees) → left ≤ more → n ≡ d + left → Law (IsSelectionSet d) n never set set2
    → Law (Image set_of (Pair (OneOrMore (IsSelection d)) (Single (exact CloseBrace) d))) n never (in_set (selection_with left set)) (in_set (selection_with more set2))
in_set_law left more d n set set2 le e l = image_law set_of (then_law
    (one_or_more_law {goes = both} (up_to CloseBrace) (selection_law left more d n set set2 le e l) (heads_selection d refl (λ b at. refl)) refl (heads_selection d refl (λ b at. refl)) (λ w h. or_parts (goes_field w) (up_to CloseBrace w) h))
    (mark_law CloseBrace (omega (arith, e))) (passes_heads (heads_mark CloseBrace tt refl)))
  where
    both : Test
    both w = goes_field w || up_to CloseBrace w

some_set : (d : ℕ) → (b : SelectionTrees) × (f : Nested) × Image set_of (Pair (OneOrMore (IsSelection d)) (Single (exact CloseBrace) d)) b f
unfolding IsSelection
some_set d = let s : SelectionTree = field_selection (([], 0), None) [] [] no_selection in let w : Nested = (identifier [] 0, d) ∷ [] in
    (selection_then s no_selection, (identifier [] 0, d) ∷ (punctuator CloseBrace, d) ∷ [], ((s ∷ [], tt), refl, (w, (punctuator CloseBrace, d) ∷ [], refl, ((s, []), refl, (w, [], refl, (w, [], refl, (w, [], refl, (w, [], refl, (identifier [] 0, refl, refl), inr (refl, refl)), ([], [], refl, inr (refl, refl), refl)), inr (refl, refl)), refl)), (punctuator CloseBrace, refl, refl))))

shut_set_law : (d n : ℕ) (inner : Option (Reader SelectionTrees)) → d ≡ n → Law (IsSelectionSet d) n never (level (exact OpenBrace) None) (level (exact OpenBrace) inner)
shut_set_law d n inner e = as_law (set_is d) (of_set d) (subst (λ n. Law (WrittenSet d) n never (level (exact OpenBrace) None) (level (exact OpenBrace) inner)) e (shut_law (exact OpenBrace) tt (punctuator OpenBrace) refl (some_set (suc d)) inner))

pub set_law : (left more d n : ℕ) → left ≤ more → n ≡ d + left → Law (IsSelectionSet d) n never (set_at left) (set_at more)
unfolding set_at
set_law zero zero d n le e = shut_set_law d n None (omega (arith, e))
set_law zero (suc more) d n le e = shut_set_law d n (Some (in_set (selection_with more (set_at more)))) (omega (arith, e))
set_law (suc left) zero d n le e = absurd (omega arith)
set_law (suc left) (suc more) d n le e = let f : n ≡ suc d + left = omega (arith, e) in
    as_law (set_is d) (of_set d) (open_law (exact OpenBrace) tt (punctuator OpenBrace) refl (omega (arith, e)) (in_set_law left more (suc d) n (set_at left) (set_at more) (omega arith) f (set_law left more (suc d) n (omega arith) f)))
