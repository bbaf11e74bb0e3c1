use Rattle.response_meter.proofs.Named.{table_named}
use Rattle.response_meter.proofs.laws.named_tables.Goals as goal

pub returns : goal.returns
returns c table tree differ holds = table_named table differ tree holds
