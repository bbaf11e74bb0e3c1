-- What the facts of the program stand for.
use Rattle.std.specs.Prelude.{map}
use Rattle.schema_reader.specs.Trees.{definition_tree}
use Rattle.schema_facts.specs.declared.facts.SchemaFacts.{SchemaFacts}
use Rattle.schema_facts.specs.Facts.{FactsData, known_type}

abbrev pub facts_data : SchemaFacts → FactsData
facts_data f = record {
  description = f.description;
  types = map known_type f.types.items.items;
  query_name = f.query_name;
  query = f.query;
  mutation = f.mutation;
  subscription = f.subscription;
  directives = map definition_tree f.directives.items;
}
