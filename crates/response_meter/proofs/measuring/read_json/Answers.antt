-- Bytes are JSON where they are UTF-8 and are read.
use Rattle.std.proofs.Common.{sym, ap, ◌∙◌, None, true≢false}
use Rattle.response_meter.specs.declared.fault.Why.TheVariants.{NotJson}
use Rattle.response_meter.specs.Faults.{given}
use Rattle.response_meter.proofs.Replies.{json_read, not_json}
use Rattle.response_meter.proofs.Left.{tells_same}
use Rattle.response_meter.proofs.measuring.read_json.Goals as goal

pub returns-in-Ok-clause-read : goal.returns-in-Ok-clause-read
returns-in-Ok-clause-read c = json_read c.args.bytes.now _ c.in-Ok.ensures.ok.0 c.in-Ok.ensures.ok.1

pub returns-else-is_memory-clause-refused : goal.returns-else-is_memory-clause-refused
returns-else-is_memory-clause-refused c =
    tells_same c.not_response.result _ _ (ap (λ o. given o NotJson (λ d. None)) (sym (not_json c.args.bytes.now (c.in-Err.ensures.err (λ m. true≢false (sym (c.is_memory.ensures.1 m) ∙ c.if-is_memory.false)))))) c.not_response.ensures
