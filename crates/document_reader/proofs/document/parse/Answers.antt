use Rattle.std.proofs.Common.{◌∙◌, append-nil}
use Rattle.gql_base.specs.ways.Grammar.{plain}
use Rattle.gql_base.specs.ways.FirstFaults.{level_limit}
use Rattle.gql_base.specs.ways.Sources.{ahead}
use Rattle.gql_base.proofs.WayLaws.LevelLaws.{is_written}
use Rattle.gql_base.proofs.WayLaws.Readings.{fault_from}
use Rattle.gql_base.proofs.WayLaws.OneTextFault.{tree_read, tree_same, memory_alone}
use Rattle.document_reader.specs.DocumentReading.{document_at}
use Rattle.document_reader.specs.DocumentAnswers.{document_trees, told_of_document}
use Rattle.document_reader.proofs.DocumentLaws.{document_family}
use Rattle.document_reader.proofs.DocumentSteps.{whole_document}
use Rattle.document_reader.proofs.document.parse.Goals as goal

pub returns-in-Ok-clause-found : goal.returns-in-Ok-clause-found
returns-in-Ok-clause-found c = record {
  written = is_written level_limit document_family _ _ _ (whole_document c.args.source.now (document_trees (record { definitions = c.in-Ok.definitions })) c.in-Ok.ensures.read);
  places = c.in-Ok.ensures.places;
}

pub returns-in-Ok-clause-only : goal.returns-in-Ok-clause-only
returns-in-Ok-clause-only c = λ trees w.
    tree_same document_at trees (document_trees (record { definitions = c.in-Ok.definitions })) (ahead c.args.source.now 0) _ c.in-Ok.ensures.read (tree_read document_family trees w.front (ahead c.args.source.now 0) w.written w.within (w.cut ∙ append-nil (plain w.front)))

pub returns-in-Err-clause-only : goal.returns-in-Err-clause-only
returns-in-Err-clause-only c = λ trees w.
    memory_alone document_at c.args.source.now c.in-Err.halt (told_of_document c.fault_of.result) trees c.in-Err.ensures.read c.fault_of.ensures (tree_read document_family trees w.front (ahead c.args.source.now 0) w.written w.within (w.cut ∙ append-nil (plain w.front)))

pub returns-in-Err-clause-fault : goal.returns-in-Err-clause-fault
returns-in-Err-clause-fault c = fault_from document_family c.args.source.now 0 c.in-Err.halt (told_of_document c.fault_of.result) c.in-Err.ensures.read c.fault_of.ensures
