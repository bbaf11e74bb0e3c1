use Rattle.distinct_selections.proofs.WrittenAlike as alike
use Rattle.distinct_selections.proofs.written.is_enum.Goals as goal

pub returns-in-EnumName : goal.returns-in-EnumName
returns-in-EnumName c = alike.is_enum c.same_text.result c.args.name.now c.in-EnumName.other c.args.value.now c.in-EnumName.is c.same_text.ensures
