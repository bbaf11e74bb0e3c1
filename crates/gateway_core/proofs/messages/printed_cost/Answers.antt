-- What is printed is ASCII.
use Rattle.std.proofs.Common.{subst, sym}
use Rattle.std.specs.Prelude.{IsUtf8}
use Rattle.cost_num.specs.CostText.{cost_text}
use Rattle.client_files.proofs.WrittenFiles.{front_text, printed_utf8}
use Rattle.gateway_core.proofs.messages.printed_cost.Goals as goal

pub unreachable-requires : goal.unreachable-requires
unreachable-requires c =
    let front = front_text (cost_text c.args.cost) _ c.cost_bytes-length.new.into c.cost_bytes-length.result c.cost_bytes-length.ensures.end c.cost_bytes-length.ensures.written in
    c.in-Err.ensures.cases.0 (subst IsUtf8 (sym front) (printed_utf8 c.args.cost c.requires.types c.requires.fields))
