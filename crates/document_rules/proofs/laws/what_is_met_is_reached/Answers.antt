use Rattle.document_rules.proofs.Reaching.{only_reached, all_reached, reached_before, reached_once, inside_is_cycle}
use Rattle.document_rules.proofs.laws.what_is_met_is_reached.Goals as goal

pub returns-clause-only : goal.returns-clause-only
returns-clause-only c = only_reached

pub returns-clause-all : goal.returns-clause-all
returns-clause-all c = all_reached

pub returns-clause-before : goal.returns-clause-before
returns-clause-before c = reached_before

pub returns-clause-once : goal.returns-clause-once
returns-clause-once c = reached_once

pub returns-clause-cycles : goal.returns-clause-cycles
returns-clause-cycles c = λ fragments below place number inside m there. inside_is_cycle fragments below place m number there inside
