-- Each text is a thing that a grammar has or has one fault, and not both; and what follows for calls that read texts.
use Rattle.std.proofs.Common.{ℕ, ◌≡◌, ◌⊎◌, inl, inr, List, [], ◌++◌, Ok, Err, refl, sym, ap, ◌∙◌, subst, append-nil, Bool}
use Rattle.gql_base.specs.declared.lexical.token.Token.{Token}
use Rattle.gql_base.specs.declared.lexical.lexing.LexFault.{LexFault}
use Rattle.gql_base.specs.declared.lexical.lexing.LexFault.TheVariants as lexical
use Rattle.gql_base.specs.declared.ways.source.Source.{Source}
use Rattle.gql_base.specs.declared.ways.source.Halt.{Halt}
use Rattle.gql_base.specs.lexical.Faults.{HasFault}
use Rattle.gql_base.specs.lexical.Tokens.{Lexes, IsFaultOf}
use Rattle.gql_base.specs.ways.Symbols.{Symbols, symbols_from}
use Rattle.gql_base.specs.ways.Reading.{Reader, Test, Stop, unexpected, too_deep, Reading}
use Rattle.gql_base.specs.ways.Grammar.{Nested, plain, Within}
use Rattle.gql_base.specs.ways.FirstFaults.{level_limit, IsWritten}
use Rattle.gql_base.specs.ways.TextFaults.{TextFault, lexical_fault, unexpected_at, too_deep_at, no_memory, HasTree, IsFaultFrom, IsTextFault, HasTextFault}
use Rattle.gql_base.specs.ways.Sources.{ahead, Halts, offset_of}
use Rattle.gql_base.specs.ways.Halting.{fault_of_halt, fault_of_lexing}
use Rattle.gql_base.proofs.LexicalLaws.OneDivision.{lexes_once, lexes_or_has_fault, no_fault, one_fault}
use Rattle.gql_base.proofs.LexicalLaws.TextFaults.{no_memory_fault}
use Rattle.gql_base.proofs.WayLaws.ReadingLaws.{within_front, within_back, ok_same}
use Rattle.gql_base.proofs.WayLaws.LevelLaws.{Family, deep_enough, is_unexpected, is_too_deep, is_written, is_read}
use Rattle.gql_base.proofs.WayLaws.DeterminedNestings.{Determined}
use Rattle.gql_base.proofs.WayLaws.FirstPlace.{written_or_unexpected, written_or_too_deep}
use Rattle.gql_base.proofs.WayLaws.FaultPlaces.{unexpected_place, too_deep_place, one_fault_from}
use Rattle.gql_base.proofs.WayLaws.Readings.{halts_for_memory}

-- a text is a thing or has a fault

abbrev pub TreeOrFault : {A : Type 0} → (floats : Bool) → (A → Nested → Type 0) → List ℕ → Type 0
TreeOrFault floats S text = ((a : _) × HasTree floats S text a) ⊎ ((fault : TextFault) × HasTextFault floats S text fault)

-- where reading stops, the text has a fault
pub fault_where_read_stops : {A : Type 0} {S : A → Nested → Type 0} {goes : Test} {r : ℕ → Reader A} → (floats : Bool) → Family S goes r → (text : List ℕ) (tokens : List Token) → Lexes floats text tokens → (stop : Stop) (rest : Symbols) → r level_limit (symbols_from text tokens 0) ≡ Err (stop, rest) → (fault : TextFault) × HasTextFault floats S text fault
fault_where_read_stops floats f text tokens lexes unexpected rest e =
    let u = unexpected_place level_limit text tokens 0 rest (is_unexpected level_limit f (symbols_from text tokens 0) rest e) in
    (unexpected_at (offset_of text tokens u.0), ((tokens, lexes, (u.0, refl, u.1)), λ is. cc))
fault_where_read_stops floats f text tokens lexes too_deep rest e =
    let t = too_deep_place level_limit text tokens 0 rest (is_too_deep level_limit f (symbols_from text tokens 0) rest e) in
    (too_deep_at (offset_of text tokens t.0), ((tokens, lexes, (t.0, refl, t.1)), λ is. cc))

by_reading : {A : Type 0} {S : A → Nested → Type 0} {goes : Test} {r : ℕ → Reader A} → (floats : Bool) → Family S goes r → ((ws : Symbols) (x : A × Symbols) → r level_limit ws ≡ Ok x → x.1 ≡ []) → (text : List ℕ) (tokens : List Token) → Lexes floats text tokens → (o : Reading A) → r level_limit (symbols_from text tokens 0) ≡ o → TreeOrFault floats S text
by_reading {S = S} floats f whole text tokens lexes (Ok x) e = inl (x.0, (tokens, lexes, subst (IsWritten S level_limit (symbols_from text tokens 0) x.0) (whole (symbols_from text tokens 0) x e) (is_written level_limit f (symbols_from text tokens 0) x.0 x.1 e)))
by_reading floats f whole text tokens lexes (Err stop) e = inr (fault_where_read_stops floats f text tokens lexes stop.0 stop.1 e)

-- so for a reader that leaves nothing
pub tree_or_fault : {A : Type 0} {S : A → Nested → Type 0} {goes : Test} {r : ℕ → Reader A} → (floats : Bool) → Family S goes r → ((ws : Symbols) (x : A × Symbols) → r level_limit ws ≡ Ok x → x.1 ≡ []) → (text : List ℕ) → TreeOrFault floats S text
tree_or_fault {r = r} floats f whole text = elim (lexes_or_has_fault floats text) [
  | inl l ↦ by_reading floats f whole text l.0 l.1 (r level_limit (symbols_from text l.0 0)) refl
  | inr bad ↦ inr (lexical_fault bad.0, ((inl bad.1, λ e. no_memory_fault floats text (subst (HasFault floats text) e bad.1)), λ is. cc))
]

-- not both

pub is_lexical_fault : (floats : Bool) (text : List ℕ) (fault : LexFault) → IsFaultOf floats text fault → (fault ≡ lexical.Memory → ⊥) → HasFault floats text fault
is_lexical_fault floats text fault (inl bad) not_memory = bad
is_lexical_fault floats text fault (inr is) not_memory = absurd (not_memory is)

pub no_text_fault : {A : Type 0} {S : A → Nested → Type 0} → (floats : Bool) → Determined S → (text : List ℕ) (a : A) (fault : TextFault) → HasTree floats S text a → HasTextFault floats S text fault → ⊥
no_text_fault floats s text a (lexical_fault fault) is bad = no_fault floats text is.0 fault is.1 (is_lexical_fault floats text fault bad.0.0 bad.0.1)
no_text_fault {S = S} floats s text a (unexpected_at at) is bad =
    let same : bad.0.0 ≡ is.0 = lexes_once floats text bad.0.0 is.0 bad.0.1 is.1 in
    let among : IsFaultFrom S text is.0 0 (unexpected_at at) = subst (λ ts. IsFaultFrom S text ts 0 (unexpected_at at)) same bad.0.2 in
    written_or_unexpected level_limit (symbols_from text is.0 0) a (symbols_from text is.0 among.0) is.2 among.2
no_text_fault {S = S} floats s text a (too_deep_at at) is bad =
    let same : bad.0.0 ≡ is.0 = lexes_once floats text bad.0.0 is.0 bad.0.1 is.1 in
    let among : IsFaultFrom S text is.0 0 (too_deep_at at) = subst (λ ts. IsFaultFrom S text ts 0 (too_deep_at at)) same bad.0.2 in
    written_or_too_deep s level_limit (symbols_from text is.0 0) a (symbols_from text is.0 among.0) is.2 among.2
no_text_fault floats s text a no_memory is bad = bad.1 refl

-- one fault: it is lexical or one among the tokens

abbrev Found : {A : Type 0} → (floats : Bool) → (A → Nested → Type 0) → List ℕ → TextFault → Type 0
Found floats S text fault = ((f : LexFault) × (fault ≡ lexical_fault f) × HasFault floats text f) ⊎ ((tokens : List Token) × Lexes floats text tokens × IsFaultFrom S text tokens 0 fault)

found : {A : Type 0} (floats : Bool) (S : A → Nested → Type 0) (text : List ℕ) (fault : TextFault) → HasTextFault floats S text fault → Found floats S text fault
found floats S text (lexical_fault fault) is = inl (fault, refl, is_lexical_fault floats text fault is.0.0 is.0.1)
found floats S text (unexpected_at at) is = inr is.0
found floats S text (too_deep_at at) is = inr is.0
found floats S text no_memory is = absurd (is.1 refl)

pub one_text_fault : {A : Type 0} {S : A → Nested → Type 0} → (floats : Bool) → Determined S → (text : List ℕ) (fault other : TextFault) → HasTextFault floats S text fault → HasTextFault floats S text other → fault ≡ other
one_text_fault {S = S} floats s text fault other is it = elim (found floats S text fault is) [
  | inl f ↦ elim (found floats S text other it) [
    | inl g ↦ f.1 ∙ (ap lexical_fault (one_fault floats text f.0 g.0 f.2 g.2) ∙ sym g.1)
    | inr g ↦ absurd (no_fault floats text g.0 f.0 g.1 f.2)
  ]
  | inr f ↦ elim (found floats S text other it) [
    | inl g ↦ absurd (no_fault floats text f.0 g.0 f.1 g.2)
    | inr g ↦ one_fault_from s text f.0 0 fault other f.2 (subst (λ ts. IsFaultFrom S text ts 0 other) (lexes_once floats text g.0 f.0 g.1 f.1) g.2) is.1 it.1
  ]
]

-- one thing: a reader that may open enough levels gives both

pub one_tree : {A : Type 0} {S : A → Nested → Type 0} {goes : Test} {r : ℕ → Reader A} → Family S goes r → (a b : A) (ws vs : Nested) → S a ws → S b vs → plain ws ≡ plain vs → a ≡ b
one_tree {r = r} f a b ws vs is it same =
    let m = deep_enough (ws ++ vs) 0 in
    let one : r m.0 (plain ws) ≡ Ok (a, []) = is_read m.0 f a ws (plain ws) [] is (within_front m.0 ws vs m.2) (sym (append-nil (plain ws))) f.at_end in
    let other : r m.0 (plain ws) ≡ Ok (b, []) = is_read m.0 f b vs (plain ws) [] it (within_back m.0 ws vs m.2) (same ∙ sym (append-nil (plain vs))) f.at_end in
    ap (λ x. x.0) (ok_same (a, []) (b, []) (sym one ∙ other))

pub one_tree_of : {A : Type 0} {S : A → Nested → Type 0} {goes : Test} {r : ℕ → Reader A} → (floats : Bool) → Family S goes r → (text : List ℕ) (a b : A) → HasTree floats S text a → HasTree floats S text b → a ≡ b
one_tree_of floats f text a b is it =
    let one = is.2 in let two = it.2 in
    let same : symbols_from text is.0 0 ≡ symbols_from text it.0 0 = ap (λ ts. symbols_from text ts 0) (lexes_once floats text is.0 it.0 is.1 it.1) in
    one_tree f a b one.front two.front one.written two.written
    (sym (append-nil (plain one.front)) ∙ (sym one.cut ∙ (same ∙ (two.cut ∙ append-nil (plain two.front)))))

-- calls that read whole texts

pub tree_read : {A : Type 0} {S : A → Nested → Type 0} {goes : Test} {r : ℕ → Reader A} → Family S goes r → (a : A) (front : Nested) (ws : Symbols) → S a front → Within level_limit front → ws ≡ plain front → r level_limit ws ≡ Ok (a, [])
tree_read f a front ws is within cut = is_read level_limit f a front ws [] is within (cut ∙ sym (append-nil (plain front))) f.at_end

pub tree_same : {A : Type 0} (r : ℕ → Reader A) (a other : A) (ws rest : Symbols) → r level_limit ws ≡ Ok (other, rest) → r level_limit ws ≡ Ok (a, []) → other ≡ a
tree_same r a other ws rest e is = ap (λ y. y.0) (ok_same (other, rest) (a, []) (sym e ∙ is))

-- a call that halted where something is read tells want of memory
pub memory_alone : {A : Type 0} (r : ℕ → Reader A) (s : Source) (halt : Halt) (told : TextFault) (a : A) → Halts s halt (r level_limit (ahead s 0)) → told ≡ fault_of_halt s halt → r level_limit (ahead s 0) ≡ Ok (a, []) → told ≡ no_memory
memory_alone r s halt told a e is ok = is ∙ ap (fault_of_halt s) (halts_for_memory s halt (r level_limit (ahead s 0)) (a, []) e ok)

pub fault_of_text : {A : Type 0} (floats : Bool) (S : A → Nested → Type 0) (text : List ℕ) (tokens : List Token) (fault : TextFault) → Lexes floats text tokens → IsFaultFrom S text tokens 0 fault → IsTextFault floats S text fault
fault_of_text floats S text tokens (lexical_fault fault) l is = absurd is
fault_of_text floats S text tokens (unexpected_at at) l is = (tokens, l, is)
fault_of_text floats S text tokens (too_deep_at at) l is = (tokens, l, is)
fault_of_text floats S text tokens no_memory l is = tt

told_lexical : {A : Type 0} (floats : Bool) (S : A → Nested → Type 0) (text : List ℕ) (fault : LexFault) → IsFaultOf floats text fault → IsTextFault floats S text (fault_of_lexing fault)
told_lexical floats S text lexical.Memory is = tt
told_lexical floats S text (lexical.BadChar at) is = (is, λ e. cc)
told_lexical floats S text (lexical.BadNumber at) is = (is, λ e. cc)
told_lexical floats S text (lexical.OpenText at) is = (is, λ e. cc)
told_lexical floats S text (lexical.BadEscape at) is = (is, λ e. cc)
told_lexical floats S text (lexical.FloatValue at) is = (is, λ e. cc)

pub fault_of_no_tokens : {A : Type 0} (floats : Bool) (S : A → Nested → Type 0) (text : List ℕ) (fault : LexFault) (told : TextFault) → IsFaultOf floats text fault → told ≡ fault_of_lexing fault → IsTextFault floats S text told
fault_of_no_tokens floats S text fault told is e = subst (IsTextFault floats S text) (sym e) (told_lexical floats S text fault is)

pub memory_of_lexing : (fault : LexFault) (told : TextFault) → fault ≡ lexical.Memory → told ≡ fault_of_lexing fault → told ≡ no_memory
memory_of_lexing fault told is e = e ∙ ap fault_of_lexing is
