-- What is passed on of a head is lines of fields.
use Rattle.std.proofs.Common.{◌≡◌, ◌++◌, ℕ, List, [], ◌∷◌, Bool, true, false, ◌&&◌, IsTrue, map, refl, sym, ap, ◌∙◌, subst, append_assoc}
use Rattle.std.specs.Prelude.{All}
use Rattle.std.specs.List.{flat_map}
use Rattle.std.proofs.lemmas.Bool.{and_parts}
use Rattle.std.proofs.lemmas.List.Elements.{All-nil, All-cons, All-head, All-tail}
use Rattle.httparse.specs.Grammar.{RequestHead, IsRequestHead, Field, IsField, LineEnd, crlf, is_value_byte, print_field}
use Rattle.httparse.specs.Spans.{name_and_value}
use Rattle.httparse.proofs.GrammarLemmas.{cons-append}
use Rattle.httparse.proofs.TrimLemmas.{AllPass-trim_ows}
use Rattle.http_fields.specs.Fields.{NameAndValue}
use Rattle.http_front.specs.declared.front.Ask.{Ask}
use Rattle.http_front.specs.Passed.{is_among, may_be_passed, field_line, line_if_named, passed_lines, IsPassedOn, ArePassedLines}
use Rattle.http_front.specs.Asks.{IsAsk}

-- the field of a line that is passed on
as_passed : Field → Field
as_passed field = record { name = field.name; raw = 32 ∷ (name_and_value field).1; end = crlf }

is_passed : (field : Field) → IsField field → IsTrue (may_be_passed field.name) → IsPassedOn (as_passed field)
unfolding as_passed
is_passed field is may = (
  record { name = is.name; raw = All-cons (λ b. IsTrue (is_value_byte b)) 32 _ refl (AllPass-trim_ows is_value_byte field.raw is.raw) },
  may,
)

regroup : (n v : List ℕ) → n ++ (58 ∷ (32 ∷ [])) ++ v ++ (13 ∷ (10 ∷ [])) ≡ n ++ 58 ∷ (32 ∷ v) ++ (13 ∷ (10 ∷ []))
regroup n v = simp (append_assoc, cons-append)

line_is_printed : (field : Field) → field_line (name_and_value field) ≡ print_field (as_passed field)
unfolding as_passed
line_is_printed field = regroup field.name (name_and_value field).1

pub are_lines : (names : List (List ℕ)) (fields : List Field) → All IsField fields → ArePassedLines (passed_lines names (map name_and_value fields))
are_lines names [] each = ([], All-nil IsPassedOn, refl)
are_lines names (field ∷ fields) each = by_test (is_among names field.name && may_be_passed field.name) refl (are_lines names fields (All-tail IsField field fields each))
  where
    by_test : (t : Bool) → (is_among names field.name && may_be_passed field.name) ≡ t → ArePassedLines (passed_lines names (map name_and_value fields))
        → ArePassedLines (passed_lines names (map name_and_value (field ∷ fields)))
    by_test false other later = rw (other) later
    by_test true named later = rw (named) (
      as_passed field ∷ later.0,
      All-cons IsPassedOn (as_passed field) later.0 (is_passed field (All-head IsField field fields each) (and_parts _ _ named).1) later.1,
      ap (λ l. l ++ passed_lines names (map name_and_value fields)) (line_is_printed field) ∙ ap (λ l. print_field (as_passed field) ++ l) later.2,
    )

pub ask_passes_lines : (names : List (List ℕ)) (bytes rest : List ℕ) (ask : Ask) → IsAsk names bytes ask rest → ArePassedLines ask.passed.items
ask_passes_lines names bytes rest ask is = subst ArePassedLines (sym is.passed) (are_lines names is.head.fields is.asks.0.1.0.fields)
