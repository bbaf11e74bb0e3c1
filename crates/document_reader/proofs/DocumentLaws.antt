-- Reading definitions and documents gives what is written as them.
use Rattle.std.proofs.Common.{ℕ, ◌+◌, ◌≡◌, ◌≤◌, inl, inr, Bool, true, false, List, [], None, Some, refl, sym, ap, ◌∙◌, arith}
use Rattle.std.specs.Prelude.{◌||◌, codes}
use Rattle.std.specs.Str.{bytes_eq}
use Rattle.std.proofs.lemmas.Bool.{cases_Bool}
use Rattle.std.proofs.lemmas.Slice.Eq.{bytes_eq-Decides}
use Rattle.gql_base.specs.declared.lexical.token.TokenKind.TheVariants.{Bang, Dollar, Colon, Equals, At, OpenParen, OpenBrace}
use Rattle.gql_base.specs.declared.parts.trees.OperationKind.{OperationKind}
use Rattle.gql_base.specs.declared.parts.trees.OperationKind.TheVariants.{Query}
use Rattle.gql_base.specs.ways.Symbols.{Symbol, punctuator, identifier, integer, decimal, string}
use Rattle.gql_base.specs.ways.Reading.{Test, is_some, takes, when, exact, any_name, never, keyword, is_there}
use Rattle.gql_base.specs.ways.Grammar.{Single, Pair, Image, Optional}
use Rattle.gql_base.specs.parts.OperationKinds.{kind_named, kind_word}
use Rattle.gql_base.proofs.PartLaws.ArgumentLaws.{goes_directives, heads_directive, directives_law, goes_default, goes_variable, heads_default, default_law}
use Rattle.gql_base.proofs.WayLaws.WordLaws.{left_false, right_false, parens_law}
use Rattle.document_reader.specs.Documents.{on_word, fragment_word, fragment_name, IsSelectionSet, variable_of, IsVariable, AreVariables, IsOperationHead, bare_operation, operation_of, head_of_fragment, IsFragmentHead, fragment_of, IsDefinition, IsDocument}
use Rattle.document_reader.specs.DocumentReading.{variable_at, maybe_variables_at, maybe_name_at, operation_head_at, bare_at, operation_at, fragment_head_at, fragment_at, definition_at, document_at}
use Rattle.gql_base.proofs.WayLaws.ReadingLaws.{Law, Heads, image_law, single_law, choice_law, after, wider_law}
use Rattle.gql_base.proofs.WayLaws.RepeatingLaws.{one_or_more_law, optional_law, passes_repeated}
use Rattle.gql_base.proofs.WayLaws.LevelLaws.{Family}
use Rattle.gql_base.proofs.WayLaws.SymbolTests.{mark_law, name_law, heads_single, heads_mark, heads_name, heads_pair, heads_image, heads_choice, passes_heads, passes_optional, passes_pair, then_law}
use Rattle.gql_base.proofs.PartLaws.TypeLaws.{type_law}
use Rattle.document_reader.proofs.SelectionLaws.{heads_set, set_law}

-- variables

pub variable_law : (left more d n : ℕ) → left ≤ more → n ≡ d + left → Law (IsVariable d) n goes_variable (variable_at left) (variable_at more)
variable_law left more d n le e = let inner : d ≤ n = omega (arith, e) in
    image_law variable_of (after (mark_law Dollar inner) (after (name_law inner) (after (mark_law Colon inner)
    (then_law (type_law left more d n le e)
    (then_law (default_law left more d n le e)
    (wider_law (λ w h. right_false (takes (exact Equals) w) (goes_directives w) (right_false (takes (exact Bang) w) (goes_default w) h)) (directives_law true left more d n le e))
    (passes_repeated (heads_directive true d refl) (λ w h. left_false (takes (exact Equals) w) (goes_directives w) (right_false (takes (exact Bang) w) (goes_default w) h))))
    (passes_pair (passes_optional (heads_default d refl) (λ w h. h)) (passes_repeated (heads_directive true d refl) (λ w h. left_false (takes (exact Bang) w) (goes_default w) h)))))))

pub heads_variable : {b : Bool} {test : Test} (d : ℕ) → test (Some (punctuator Dollar)) ≡ b → Heads b test (IsVariable d)
heads_variable d e = heads_image (heads_pair _ (heads_mark Dollar tt e))

heads_variables : {b : Bool} {test : Test} (d : ℕ) → test (Some (punctuator OpenParen)) ≡ b → Heads b test (AreVariables d)
heads_variables d e = heads_image (heads_pair _ (heads_mark OpenParen tt e))

maybe_variables_law : (left more d n : ℕ) → left ≤ more → n ≡ d + left → Law (Optional [] (AreVariables d)) n (takes (exact OpenParen)) (maybe_variables_at left) (maybe_variables_at more)
maybe_variables_law left more d n le e = optional_law (takes (exact OpenParen)) [] (parens_law (omega (arith, e)) (variable_law left more d n le e) (heads_variable d refl) (heads_variable d refl) refl) (heads_variables d refl) (λ w h. (refl, h))

-- operations

abbrev goes_operation : Test
goes_operation w = takes any_name w || goes_directives w

maybe_name_law : {d n : ℕ} → d ≤ n → Law (Optional None (Image Some (Single any_name d))) n (takes any_name) maybe_name_at maybe_name_at
maybe_name_law le = optional_law (takes any_name) None (image_law Some (name_law le)) (heads_image (heads_name (λ b at. refl))) (λ w h. (refl, h))

operation_head_law : (left more d n : ℕ) → left ≤ more → n ≡ d + left → Law (IsOperationHead d) n goes_operation (operation_head_at left) (operation_head_at more)
operation_head_law left more d n le e = then_law (maybe_name_law (omega (arith, e)))
    (then_law (maybe_variables_law left more d n le e) (wider_law (λ w h. right_false (takes any_name w) (goes_directives w) h) (directives_law false left more d n le e))
    (passes_repeated (heads_directive false d refl) (λ w h. left_false (takes (exact OpenParen) w) (takes (exact At) w) (right_false (takes any_name w) (goes_directives w) h))))
    (passes_pair (passes_optional (heads_variables d refl) (λ w h. h)) (passes_repeated (heads_directive false d refl) (λ w h. left_false (takes any_name w) (goes_directives w) h)))

-- the law of each kind of definition

bare_law : (left more d n : ℕ) → left ≤ more → n ≡ d + left → Law (Image bare_operation (IsSelectionSet d)) n never (bare_at left) (bare_at more)
bare_law left more d n le e = image_law bare_operation (set_law left more d n le e)

operation_law : (left more d n : ℕ) → left ≤ more → n ≡ d + left → Law (Image operation_of (Pair (Single kind_word d) (Pair (IsOperationHead d) (IsSelectionSet d)))) n never (operation_at left) (operation_at more)
operation_law left more d n le e = image_law operation_of (after (single_law kind_word Query (identifier (codes "query") 0) refl (omega (arith, e))) (then_law (operation_head_law left more d n le e) (set_law left more d n le e) (passes_heads (heads_set d refl))))

fragment_head_law : (left more d n : ℕ) → left ≤ more → n ≡ d + left → Law (IsFragmentHead d) n goes_directives (fragment_head_at left) (fragment_head_at more)
fragment_head_law left more d n le e = let inner : d ≤ n = omega (arith, e) in
    image_law head_of_fragment (after (single_law fragment_word tt (identifier (codes "fragment") 0) refl inner) (after (single_law fragment_name ([], 0) (identifier [] 0) refl inner) (after (single_law on_word tt (identifier (codes "on") 0) refl inner) (after (name_law inner) (directives_law false left more d n le e)))))

fragment_law : (left more d n : ℕ) → left ≤ more → n ≡ d + left → Law (Image fragment_of (Pair (IsFragmentHead d) (IsSelectionSet d))) n never (fragment_at left) (fragment_at more)
fragment_law left more d n le e = image_law fragment_of (then_law (fragment_head_law left more d n le e) (set_law left more d n le e) (passes_heads (heads_set d refl)))

-- what words a test is asked of

heads_bare : {b : Bool} {test : Test} (d : ℕ) → test (Some (punctuator OpenBrace)) ≡ b → Heads b test (Image bare_operation (IsSelectionSet d))
heads_bare d e = heads_image (heads_set d e)

heads_fragment : {b : Bool} {test : Test} (d : ℕ) → ((w : Symbol) (a : Unit {0}) → fragment_word w ≡ Some a → test (Some w) ≡ b) → Heads b test (Image fragment_of (Pair (IsFragmentHead d) (IsSelectionSet d)))
heads_fragment {b = b} {test = test} d says = heads_image (heads_pair _ (heads_image (heads_pair _ (heads_single b test fragment_word d says))))

heads_operation : {b : Bool} {test : Test} (d : ℕ) → ((w : Symbol) (k : OperationKind) → kind_word w ≡ Some k → test (Some w) ≡ b) → Heads b test (Image operation_of (Pair (Single kind_word d) (Pair (IsOperationHead d) (IsSelectionSet d))))
heads_operation {b = b} {test = test} d says = heads_image (heads_pair _ (heads_single b test kind_word d says))

-- no kind is the word `fragment`
kind_is_no_fragment : (w : Symbol) (k : OperationKind) → kind_word w ≡ Some k → takes fragment_word (Some w) ≡ false
kind_is_no_fragment (identifier bytes at) k e = elim (cases_Bool (bytes_eq bytes (codes "fragment"))) [
  | inl t ↦ let is : bytes ≡ codes "fragment" = (bytes_eq-Decides bytes (codes "fragment")).0 t in let none : None ≡ Some k = sym (ap kind_named is) ∙ e in cc
  | inr t ↦ ap (λ b. is_some (when b)) t
]
kind_is_no_fragment (punctuator kind) k e = cc
kind_is_no_fragment (integer v) k e = cc
kind_is_no_fragment (decimal bytes) k e = cc
kind_is_no_fragment (string v) k e = cc

word_is_no_brace : (w : Symbol) (a : Unit {0}) (word : List ℕ) → keyword word w ≡ Some a → takes (exact OpenBrace) (Some w) ≡ false
word_is_no_brace (identifier bytes at) a word e = refl
word_is_no_brace (punctuator kind) a word e = cc
word_is_no_brace (integer v) a word e = cc
word_is_no_brace (decimal bytes) a word e = cc
word_is_no_brace (string v) a word e = cc

kind_is_no_brace : (w : Symbol) (k : OperationKind) → kind_word w ≡ Some k → takes (exact OpenBrace) (Some w) ≡ false
kind_is_no_brace (identifier bytes at) k e = refl
kind_is_no_brace (punctuator kind) k e = cc
kind_is_no_brace (integer v) k e = cc
kind_is_no_brace (decimal bytes) k e = cc
kind_is_no_brace (string v) k e = cc

pub definition_law : (left more d n : ℕ) → left ≤ more → n ≡ d + left → Law (IsDefinition d) n never (definition_at left) (definition_at more)
unfolding IsDefinition definition_at
definition_law left more d n le e = choice_law (takes (exact OpenBrace)) (bare_law left more d n le e)
    (choice_law (takes fragment_word) (fragment_law left more d n le e) (operation_law left more d n le e) (λ w h. (refl, refl)) (heads_fragment d (λ w a h. ap is_some h)) (passes_heads (heads_operation d kind_is_no_fragment)))
    (λ w h. (refl, refl)) (heads_bare d refl)
    (passes_heads (heads_choice (heads_fragment d (λ w a h. word_is_no_brace w a (codes "fragment") h)) (heads_operation d kind_is_no_brace)))

pub heads_definition : (d : ℕ) → Heads true is_there (IsDefinition d)
unfolding IsDefinition
heads_definition d = heads_choice (heads_bare d refl) (heads_choice (heads_fragment d (λ w a h. refl)) (heads_operation d (λ w k h. refl)))

pub document_law : (n more : ℕ) → n ≤ more → Law IsDocument n is_there (document_at n) (document_at more)
unfolding IsDocument document_at
document_law n more le = one_or_more_law is_there (definition_law n more 0 n le (omega arith)) (heads_definition 0) refl (record { says = λ a f rest is. refl }) (λ w h. (refl, h))

pub document_family : Family IsDocument is_there document_at
document_family = record { law = document_law; at_end = refl }
