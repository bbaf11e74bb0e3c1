use Rattle.std.proofs.Common.{◌≡◌, ◌+◌, ◌-◌, ◌++◌, ◌∷◌, [], ◌&&◌, ◌==◌, true, false, ◌∙◌, sym, ap, arith, length, drop, take, get_or, string_bytes}
use Rattle.std.specs.List.{prefix_len}
use Rattle.std.proofs.lemmas.Str.{IsCharBoundary-start}
use Rattle.gql_base.specs.lexical.Strings.{begins_with_marks}
use Rattle.gql_base.specs.lexical.Scans.{is_plain_byte}
use Rattle.gql_base.specs.lexical.Blocks.{unescaped}
use Rattle.gql_base.proofs.LexicalLaws.StringValues.{border_of_run, border_of_escape, added, nothing_added}
use Rattle.gql_base.proofs.LexicalLaws.BlockMarks.{copy_of_marks, copy_of_run, copy_of_none, mark_is_ascii}
use Rattle.gql_base.proofs.lexical.blocks.unescaped.Goals as goal
use Rattle.std.proofs.lemmas.Bool.{and_parts}

pub loop-at-init : goal.loop-at-init
loop-at-init c = record {
  border = IsCharBoundary-start c.args.raw.now c.utf8.raw;
  so_far = ap (λ xs. xs ++ unescaped c.args.raw.now) c.new-text.ensures.bytes;
}

pub loop-at-preserved-then-escapes_marks : goal.loop-at-preserved-then-escapes_marks
loop-at-preserved-then-escapes_marks c =
    let here : ((get_or c.args.raw.now c.loop-at.at 0 == 92) && begins_with_marks (drop (c.loop-at.at + 1) c.args.raw.now)) ≡ true =
    ap (λ xs. (get_or xs c.loop-at.at 0 == 92) && begins_with_marks (drop (c.loop-at.at + 1) xs)) (sym c.as_bytes.ensures.value) ∙ sym c.escapes_marks.ensures.test ∙ c.if-escapes_marks.true in
    record {
      border = border_of_escape c.args.raw.now c.loop-at.at 4 c.utf8.raw (omega arith) (omega (arith, c.if-escapes_marks.ensures.within, ap length c.as_bytes.ensures.value))
          (mark_is_ascii c.args.raw.now c.loop-at.at c.loop-at-test.true (and_parts (get_or c.args.raw.now c.loop-at.at 0 == 92) (begins_with_marks (drop (c.loop-at.at + 1) c.args.raw.now)) here).1);
      so_far = added (string_bytes c.loop-at.text) (34 ∷ 34 ∷ 34 ∷ []) (string_bytes c.push_str.new.self) (unescaped (drop c.loop-at.at c.args.raw.now)) _ _
          c.in_ok-push_str.ensures.bytes
          (copy_of_marks c.args.raw.now c.loop-at.at c.loop-at-test.true here)
          c.loop-at.invariant.so_far;
    }

pub range-requires-clause-end_boundary : goal.range-requires-clause-end_boundary
range-requires-clause-end_boundary c =
    (border_of_run c.args.raw.now c.loop-at.at c.plain_end-end.result c.loop-at-test.true
    (c.plain_end-end.ensures ∙ ap (λ xs. c.loop-at.at + 1 + prefix_len is_plain_byte (drop (c.loop-at.at + 1) xs)) c.as_bytes-else-escapes_marks.ensures.value)).1

pub loop-at-preserved : goal.loop-at-preserved
loop-at-preserved c =
    let end : c.plain_end-end.result ≡ c.loop-at.at + 1 + prefix_len is_plain_byte (drop (c.loop-at.at + 1) c.args.raw.now) =
    c.plain_end-end.ensures ∙ ap (λ xs. c.loop-at.at + 1 + prefix_len is_plain_byte (drop (c.loop-at.at + 1) xs)) c.as_bytes-else-escapes_marks.ensures.value in
    let other : ((get_or c.args.raw.now c.loop-at.at 0 == 92) && begins_with_marks (drop (c.loop-at.at + 1) c.args.raw.now)) ≡ false =
    ap (λ xs. (get_or xs c.loop-at.at 0 == 92) && begins_with_marks (drop (c.loop-at.at + 1) xs)) (sym c.as_bytes.ensures.value) ∙ sym c.escapes_marks.ensures.test ∙ c.if-escapes_marks.false in
    record {
      border = (border_of_run c.args.raw.now c.loop-at.at c.plain_end-end.result c.loop-at-test.true end).1;
      so_far = added (string_bytes c.loop-at.text) (take (c.plain_end-end.result - c.loop-at.at) (drop c.loop-at.at c.args.raw.now)) (string_bytes c.push_str-else-escapes_marks.new.self) (unescaped (drop c.loop-at.at c.args.raw.now)) _ _
          (c.in_ok-push_str-2.ensures.bytes ∙ ap (λ xs. string_bytes c.loop-at.text ++ xs) c.range.ensures.value)
          (copy_of_run c.args.raw.now c.loop-at.at c.plain_end-end.result c.loop-at-test.true other end)
          c.loop-at.invariant.so_far;
    }

pub returns : goal.returns
returns c =
    nothing_added (string_bytes c.loop-at.text) (unescaped (drop c.loop-at.at c.args.raw.now)) _
    (copy_of_none c.args.raw.now c.loop-at.at (omega (arith, c.loop-at-test.false))) c.loop-at.invariant.so_far
