use Rattle.collected_fields.proofs.GrowingLaws.{grows_itself}
use Rattle.collected_fields.proofs.collector.Collector.note_many.Goals as goal

pub returns-else-are_many : goal.returns-else-are_many
returns-else-are_many c = grows_itself c.args.self.now
