use Rattle.schema_facts.specs.MetaText.{schema_types}
use Rattle.schema_facts.proofs.Appends.{two_pieces}
use Rattle.schema_facts.proofs.meta_schema.push_schema_types.Goals as goal

pub returns : goal.returns
unfolding schema_types
returns c = two_pieces _ _ _ _ _ c.in_ok-push_str.ensures.bytes c.in_ok-push_str-2.ensures.bytes
