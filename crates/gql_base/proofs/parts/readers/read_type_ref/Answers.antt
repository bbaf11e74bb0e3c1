use Rattle.gql_base.specs.declared.ways.source.Source.{Source}
use Rattle.gql_base.specs.ways.FirstFaults.{level_limit}
use Rattle.gql_base.specs.ways.Sources.{ahead}
use Rattle.gql_base.specs.parts.Trees.{type_tree}
use Rattle.gql_base.specs.parts.TypeReferences.{type_at}
use Rattle.gql_base.proofs.WayLaws.LevelLaws.{is_written}
use Rattle.gql_base.proofs.PartLaws.TypeLaws.{type_family}
use Rattle.gql_base.proofs.WayLaws.Readings.{fault_from}
use Rattle.gql_base.specs.parts.Answers.{told_of_value}
use Rattle.gql_base.proofs.PartLaws.PartReadings.{gives_ok, gives_err, type_is_read, written_type_is_read}
use Rattle.gql_base.proofs.parts.readers.read_type_ref.Goals as goal

pub returns-in-Ok-clause-found : goal.returns-in-Ok-clause-found
returns-in-Ok-clause-found c = is_written level_limit type_family _ _ _ c.in-Ok.ensures.read

pub returns-in-Ok-clause-only : goal.returns-in-Ok-clause-only
returns-in-Ok-clause-only c = λ t front rest is within end cut.
    let s : Source = record { text = c.args.text; tokens = c.args.tokens } in
    gives_ok type_tree s (type_at level_limit (ahead s c.args.from)) (c.in-Ok.of, c.in-Ok.end) t rest c.in-Ok.ensures.read (type_is_read level_limit t front (ahead s c.args.from) rest is within end cut)

pub returns-in-Err-clause-only : goal.returns-in-Err-clause-only
returns-in-Err-clause-only c = λ t front rest is within end cut.
    let s : Source = record { text = c.args.text; tokens = c.args.tokens } in
    gives_err s c.in-Err.halt c.fault_of.result (type_at level_limit (ahead s c.args.from)) (t, rest) c.in-Err.ensures.read c.fault_of.ensures (type_is_read level_limit t front (ahead s c.args.from) rest is within end cut)

pub returns-in-Err-clause-fault : goal.returns-in-Err-clause-fault
returns-in-Err-clause-fault c =
    let s : Source = record { text = c.args.text; tokens = c.args.tokens } in (
      fault_from type_family s c.args.from c.in-Err.halt (told_of_value c.fault_of.result) c.in-Err.ensures.read c.fault_of.ensures,
      λ not_memory t rest w.
          let r = written_type_is_read level_limit t w.front (ahead s c.args.from) rest w.written w.within w.cut in
          not_memory (gives_err s c.in-Err.halt c.fault_of.result (type_at level_limit (ahead s c.args.from)) r.0 c.in-Err.ensures.read c.fault_of.ensures r.1),
    )
