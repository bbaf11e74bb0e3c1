use Rattle.std.proofs.Common.{◌≡◌, ◌+◌, ◌-◌, ◌++◌, ◌∙◌, sym, ap, arith, drop, take, length, string_bytes, Some, None}
use Rattle.std.specs.Char.{encode_utf8}
use Rattle.std.specs.List.{prefix_len}
use Rattle.std.proofs.lemmas.List.{length-drop}
use Rattle.std.proofs.lemmas.Str.{IsCharBoundary-start}
use Rattle.gql_base.specs.lexical.Scans.{escape_at, text_value, is_plain_byte}
use Rattle.gql_base.proofs.LexicalLaws.Escapes.{escape_scalar, escape_some, escape_last}
use Rattle.gql_base.proofs.LexicalLaws.StringValues.{value_of_escape, value_of_run, value_of_none, border_of_run, border_of_escape, added, nothing_added}
use Rattle.gql_base.proofs.LexicalLaws.ScannedStrings.{body_value}
use Rattle.gql_base.proofs.lexical.literals.string_value.Goals as goal

pub loop-at-init : goal.loop-at-init
loop-at-init c = record {
  border = IsCharBoundary-start c.args.body.now c.utf8.body;
  so_far = ap (λ xs. xs ++ text_value 0 c.args.body.now) c.new-value.ensures.bytes;
}

pub character_of-requires : goal.character_of-requires
character_of-requires c =
    escape_scalar (drop c.loop-at.at c.args.body.now) c.in-Some.escape
    (ap escape_at (ap (drop c.loop-at.at) (sym c.as_bytes.ensures.value) ∙ sym c.after.ensures) ∙ sym c.escape_at.ensures.escape ∙ c.in-Some.is)

pub loop-at-preserved-in-Some : goal.loop-at-preserved-in-Some
loop-at-preserved-in-Some c =
    let here : escape_at (drop c.loop-at.at c.args.body.now) ≡ Some c.in-Some.escape = ap escape_at (ap (drop c.loop-at.at) (sym c.as_bytes.ensures.value) ∙ sym c.after.ensures) ∙ sym c.escape_at.ensures.escape ∙ c.in-Some.is in
    record {
      border = border_of_escape c.args.body.now c.loop-at.at c.in-Some.escape.length c.utf8.body
          (escape_some (drop c.loop-at.at c.args.body.now) c.in-Some.escape here)
          (omega (arith, c.in-Some.ensures.within.1, ap length c.after.ensures, ap length c.as_bytes.ensures.value, length-drop c.loop-at.at c.as_bytes.result.now, c.loop-at-test.true))
          (escape_last (drop c.loop-at.at c.args.body.now) c.in-Some.escape here);
      so_far = added (string_bytes c.loop-at.value) (encode_utf8 c.in-Some.escape.character) (string_bytes c.push.new.self) (text_value 0 (drop c.loop-at.at c.args.body.now)) _ _
          (c.in_ok-push-in-Some.ensures.bytes ∙ ap (λ x. string_bytes c.loop-at.value ++ encode_utf8 x) c.character_of.ensures)
          (value_of_escape c.args.body.now c.loop-at.at c.in-Some.escape c.loop-at-test.true (escape_some (drop c.loop-at.at c.args.body.now) c.in-Some.escape here) here)
          c.loop-at.invariant.so_far;
    }

pub range-requires-clause-end_boundary : goal.range-requires-clause-end_boundary
range-requires-clause-end_boundary c =
    (border_of_run c.args.body.now c.loop-at.at c.plain_end-end.result c.loop-at-test.true
    (c.plain_end-end.ensures ∙ ap (λ xs. c.loop-at.at + 1 + prefix_len is_plain_byte (drop (c.loop-at.at + 1) xs)) c.as_bytes-in-None.ensures.value)).1

pub loop-at-preserved : goal.loop-at-preserved
loop-at-preserved c =
    let end : c.plain_end-end.result ≡ c.loop-at.at + 1 + prefix_len is_plain_byte (drop (c.loop-at.at + 1) c.args.body.now) =
    c.plain_end-end.ensures ∙ ap (λ xs. c.loop-at.at + 1 + prefix_len is_plain_byte (drop (c.loop-at.at + 1) xs)) c.as_bytes-in-None.ensures.value in
    let none : escape_at (drop c.loop-at.at c.args.body.now) ≡ None = ap escape_at (ap (drop c.loop-at.at) (sym c.as_bytes.ensures.value) ∙ sym c.after.ensures) ∙ sym c.escape_at.ensures.escape ∙ c.in-None.is in
    record {
      border = (border_of_run c.args.body.now c.loop-at.at c.plain_end-end.result c.loop-at-test.true end).1;
      so_far = added (string_bytes c.loop-at.value) (take (c.plain_end-end.result - c.loop-at.at) (drop c.loop-at.at c.args.body.now)) (string_bytes c.push_str.new.self) (text_value 0 (drop c.loop-at.at c.args.body.now)) _ _
          (c.in_ok-push_str-in-None.ensures.bytes ∙ ap (λ xs. string_bytes c.loop-at.value ++ xs) c.range.ensures.value)
          (value_of_run c.args.body.now c.loop-at.at c.plain_end-end.result c.loop-at-test.true none end)
          c.loop-at.invariant.so_far;
    }

pub returns-clause-value : goal.returns-clause-value
returns-clause-value c =
    c.from.ensures ∙ nothing_added (string_bytes c.loop-at.value) (text_value 0 (drop c.loop-at.at c.args.body.now)) _
    (value_of_none c.args.body.now c.loop-at.at (omega (arith, c.loop-at-test.false))) c.loop-at.invariant.so_far

pub returns-clause-characters : goal.returns-clause-characters
returns-clause-characters c = λ characters is.
    c.from.ensures ∙ (nothing_added (string_bytes c.loop-at.value) (text_value 0 (drop c.loop-at.at c.args.body.now)) _
    (value_of_none c.args.body.now c.loop-at.at (omega (arith, c.loop-at-test.false))) c.loop-at.invariant.so_far ∙ body_value characters c.args.body.now is)
