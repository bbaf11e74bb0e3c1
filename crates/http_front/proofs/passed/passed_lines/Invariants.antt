use Rattle.std.proofs.Common.{◌≡◌, ◌++◌, drop, map}
use Rattle.httparse.specs.Spans.{header_bytes}
use Rattle.http_fields.specs.Fields.{pairs_of}
use Rattle.http_front.specs.Passed.{passed_lines}
use Rattle.http_front.proofs.passed.passed_lines.Given as goal

abbrev pub invariant-fields : goal.invariant-fields
invariant-fields l = l.lines.items ++ passed_lines l.names (map (header_bytes l.fields.bytes.now) (drop l.field-index l.fields.headers.now)) ≡ passed_lines l.names (pairs_of l.fields)
