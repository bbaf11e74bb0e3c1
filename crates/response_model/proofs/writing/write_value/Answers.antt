-- What serde_json writes is JSON by which the value is written.
use Rattle.std.proofs.Common.{string_bytes}
use Rattle.serde_json.specs.View.{view}
use Rattle.response_model.proofs.WrittenTexts.{value_appended, leaf_appended}
use Rattle.response_model.proofs.writing.write_value.Goals as goal

pub returns-clause-written : goal.returns-clause-written
returns-clause-written c =
    value_appended (view c.args.value.now) (string_bytes c.in_ok-text.text) c.as_str.result.now (string_bytes c.args.into.now) (string_bytes c.push_str.new.self) c.push_str.result
    c.in_ok-text.ensures.compact c.in_ok-text.ensures.order c.in_ok-text.ensures.reads_back c.as_str.ensures.value c.push_str.ensures.bytes

pub returns-clause-leaf : goal.returns-clause-leaf
returns-clause-leaf c =
    leaf_appended (view c.args.value.now) (string_bytes c.in_ok-text.text) c.as_str.result.now (string_bytes c.args.into.now) (string_bytes c.push_str.new.self) c.push_str.result
    c.in_ok-text.ensures.compact c.in_ok-text.ensures.order c.in_ok-text.ensures.reads_back c.in_ok-text.ensures.text c.as_str.ensures.value c.push_str.ensures.bytes
