-- What is printed of a thing that a text spells is a text that spells it again.
use Rattle.std.proofs.Common.{ℕ, ◌≡◌, List, sym, ap, ◌∙◌, subst, append-nil, All, IsUtf8}
use Rattle.std.specs.Prelude.{map, Bool}
use Rattle.std.proofs.lemmas.List.Elements.{All-map}
use Rattle.gql_base.specs.ways.Symbols.{Symbol, punctuator, identifier, integer, decimal, string, Symbols, symbols_from}
use Rattle.gql_base.specs.ways.Grammar.{Nested, plain, Within}
use Rattle.gql_base.specs.ways.FirstFaults.{level_limit}
use Rattle.gql_base.specs.ways.TextFaults.{HasTree}
use Rattle.gql_base.specs.printing.Printing.{printed}
use Rattle.gql_base.specs.printing.PlacelessSymbols.{placeless_symbol}
use Rattle.gql_base.specs.printing.PrintableSymbols.{IsTextual}
use Rattle.gql_base.specs.printing.ReadingBack.{SpellsAgain}
use Rattle.gql_base.proofs.WayLaws.AlikeLaws.{Alike}
use Rattle.gql_base.proofs.PartLaws.AlikeTrees.{value_alike, type_alike}
use Rattle.gql_base.proofs.PrintingLaws.PrintedSymbols.{value_is_bare, type_is_bare}
use Rattle.gql_base.proofs.PrintingLaws.PrintedPieces.{printed_lexes}
use Rattle.gql_base.proofs.PrintingLaws.TextSymbols.{symbols_textual}
use Rattle.gql_base.proofs.PrintingLaws.ReadAgain.{read_again, symbols_placeless_twice}
use Rattle.gql_base.specs.parts.Values.{ValueTree, IsValue}
use Rattle.gql_base.specs.parts.TypeReferences.{TypeTree, IsType}
use Rattle.gql_base.specs.printing.PrintedTrees.{value_symbols, type_symbols, placeless, type_placeless}

pub textual_anywhere : (floats : Bool) (w : Symbol) → IsTextual floats w → IsTextual floats (placeless_symbol w)
textual_anywhere floats (punctuator kind) is = is
textual_anywhere floats (identifier bytes at) is = is
textual_anywhere floats (integer value) is = is
textual_anywhere floats (decimal bytes) is = is
textual_anywhere floats (string value) is = is

pub all_textual_anywhere : (floats : Bool) (ws : Symbols) → All (IsTextual floats) ws → All (IsTextual floats) (map placeless_symbol ws)
all_textual_anywhere floats ws all = All-map (IsTextual floats) placeless_symbol ws (λ k w below. textual_anywhere floats _ (all k w below))

-- the symbols with which a thing is spelled are those of a text
pub spelled_textual : {A : Type 0} {S : A → Nested → Type 0} (floats : Bool) (text : List ℕ) (a : A) → IsUtf8 text → (s : HasTree floats S text a) → All (IsTextual floats) (plain s.2.front)
spelled_textual floats text a utf8 s =
    subst (All (IsTextual floats)) (s.2.cut ∙ append-nil (plain s.2.front)) (symbols_textual floats text s.0 utf8 s.1)

-- If a thing is printed in symbols that are textual, and is written with them but for offsets, its printed text
-- spells it again.
pub spelled_again : {A : Type 0} {S : A → Nested → Type 0} {f : A → A} → (floats : Bool) → Alike S f → (a : A) (ws : Nested) (symbols : Symbols) → S a ws → Within level_limit ws → map placeless_symbol (plain ws) ≡ map placeless_symbol symbols → All (IsTextual floats) symbols → SpellsAgain floats S f (printed symbols) a
spelled_again floats alike a ws symbols is within same all =
    let l = printed_lexes floats symbols all in
    let r = read_again alike level_limit a ws (symbols_from (printed symbols) l.0 0) is within (same ∙ sym l.2) in
    record {
      tokens = l.0;
      lexes = l.1;
      again = r.again;
      written = record { front = r.front; cut = sym (append-nil (plain r.front) ∙ r.cut); within = r.within; written = r.written };
      same = r.same;
    }

-- what is spelled again, said of a thing that is the same without offsets
pub again_of_same : {A : Type 0} {S : A → Nested → Type 0} {f : A → A} (floats : Bool) (text : List ℕ) (a b : A) → SpellsAgain floats S f text a → f a ≡ f b → SpellsAgain floats S f text b
again_of_same floats text a b s same = record { tokens = s.tokens; lexes = s.lexes; again = s.again; written = s.written; same = s.same ∙ same }

-- the same for a thing that is printed in the symbols that it is written with, without their offsets
bare_again : {A : Type 0} {S : A → Nested → Type 0} {f : A → A} → (floats : Bool) → Alike S f → (text : List ℕ) (a : A) (symbols : Symbols) → IsUtf8 text → (s : HasTree floats S text a) → symbols ≡ map placeless_symbol (plain s.2.front) → SpellsAgain floats S f (printed symbols) a
bare_again floats alike text a symbols utf8 s bare =
    spelled_again floats alike a s.2.front symbols s.2.written s.2.within
    (sym (ap (map placeless_symbol) bare ∙ symbols_placeless_twice (plain s.2.front)))
    (subst (All (IsTextual floats)) (sym bare) (all_textual_anywhere floats (plain s.2.front) (spelled_textual floats text a utf8 s)))

pub value_again_spelled : (floats : Bool) (constant : Bool) (t : ValueTree) (text : List ℕ) → IsUtf8 text → HasTree floats (IsValue constant 0) text t → SpellsAgain floats (IsValue constant 0) placeless (printed (value_symbols t)) t
value_again_spelled floats constant t text utf8 s = bare_again floats (value_alike constant 0) text t (value_symbols t) utf8 s (value_is_bare constant 0 t s.2.front s.2.written)

pub type_again_spelled : (floats : Bool) (t : TypeTree) (text : List ℕ) → IsUtf8 text → HasTree floats (IsType 0) text t → SpellsAgain floats (IsType 0) type_placeless (printed (type_symbols t)) t
type_again_spelled floats t text utf8 s = bare_again floats (type_alike 0) text t (type_symbols t) utf8 s (type_is_bare 0 t s.2.front s.2.written)
