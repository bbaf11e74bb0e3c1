use Rattle.schema_facts.specs.MetaText.{directive_types}
use Rattle.schema_facts.proofs.Appends.{three_pieces}
use Rattle.schema_facts.proofs.meta_schema.push_directive_types.Goals as goal

pub returns : goal.returns
unfolding directive_types
returns c = three_pieces _ _ _ _ _ _ _ c.in_ok-push_str.ensures.bytes c.in_ok-push_str-2.ensures.bytes c.in_ok-push_str-3.ensures.bytes
