-- The three pieces are the text of the response.
use Rattle.std.proofs.Common.{string_bytes}
use Rattle.response_model.proofs.ErrorTexts.{one_error_written}
use Rattle.response_model.proofs.writing.write_error_response.Goals as goal

pub returns : goal.returns
returns c =
    one_error_written (string_bytes c.args.into.now) (string_bytes c.push_str.new.self) (string_bytes c.write_string.new.into) (string_bytes c.push_str-2.new.self) c.args.message.now
    c.in_ok-push_str.ensures.bytes c.in_ok-write_string.ensures c.in_ok-push_str-2.ensures.bytes
