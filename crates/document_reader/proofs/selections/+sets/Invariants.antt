use Rattle.std.proofs.Common.{◌≡◌, ◌<◌, ◌+◌, ◌*◌, ◌-◌, length, map}
use Rattle.gql_base.specs.declared.lexical.token.TokenKind.TheVariants.{CloseBrace}
use Rattle.gql_base.specs.ways.Reading.{repeated, one_or_more, up_to}
use Rattle.gql_base.specs.ways.Sources.{ahead}
use Rattle.gql_base.proofs.WayLaws.Loops.{joined}
use Rattle.document_reader.specs.DocumentReading.{selection_with, set_at}
use Rattle.document_reader.specs.Trees.{selection_tree}
use Rattle.document_reader.proofs.selections.+sets.Given as goal

abbrev pub decreases-some_selections : goal.decreases-some_selections
decreases-some_selections l = 10 * l.levels + 9

abbrev pub decreases-selection : goal.decreases-selection
decreases-selection l = 10 * l.levels + 8

abbrev pub decreases-dots : goal.decreases-dots
decreases-dots l = 10 * l.levels + 6

abbrev pub decreases-after_dots : goal.decreases-after_dots
decreases-after_dots l = 10 * l.levels + 5

abbrev pub decreases-inline : goal.decreases-inline
decreases-inline l = 10 * l.levels + 4

abbrev pub decreases-field : goal.decreases-field
decreases-field l = 10 * l.levels + 4

abbrev pub decreases-maybe_set : goal.decreases-maybe_set
decreases-maybe_set l = 10 * l.levels + 3

abbrev pub decreases-selection_set : goal.decreases-selection_set
decreases-selection_set l = 10 * l.levels + 2

abbrev pub decreases-opened_set : goal.decreases-opened_set
decreases-opened_set l = 10 * l.levels + 1

abbrev pub invariant-some_selections-rest : goal.invariant-some_selections-rest
invariant-some_selections-rest l = record {
  whole : joined (map selection_tree l.selections.items) (repeated (up_to CloseBrace) (selection_with l.levels (set_at l.levels)) (ahead l.source l.at)) ≡ one_or_more (up_to CloseBrace) (selection_with l.levels (set_at l.levels)) (ahead l.source l.start);
  onward : l.start < l.at;
}

abbrev pub decreases-some_selections-rest : goal.decreases-some_selections-rest
decreases-some_selections-rest l = length l.source.tokens.now - l.at
