use Rattle.std.proofs.Common.{◌≡◌, ◌++◌, drop}
use Rattle.document_reader.specs.Trees.{set_tree}
use Rattle.operation_class.specs.RootParts.{root_parts, waiting}
use Rattle.operation_class.proofs.root_parts.+parts.Given as goal

abbrev pub invariant-put_in_front-loop-at : goal.invariant-put_in_front-loop-at
invariant-put_in_front-loop-at l = waiting l.parts.items ≡ root_parts (set_tree (drop l.at l.selections)) ++ waiting l.fn.parts.items
