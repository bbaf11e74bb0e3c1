use Rattle.std.proofs.Common.{◌≡◌, ◌++◌, drop, map}
use Rattle.document_reader.specs.Trees.{variable_tree}
use Rattle.document_rules.specs.Views.{declared_tree}
use Rattle.document_rules.proofs.indexes.declared_of.Given as goal

abbrev pub invariant-loop-variable : goal.invariant-loop-variable
invariant-loop-variable l = map declared_tree l.declared.items ++ map variable_tree (drop l.variable-index l.variables) ≡ map variable_tree l.variables
