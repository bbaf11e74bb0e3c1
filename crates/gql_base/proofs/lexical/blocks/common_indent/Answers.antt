use Rattle.std.proofs.Common.{◌∙◌, ap}
use Rattle.std.specs.Option.{unwrap_or}
use Rattle.gql_base.proofs.LexicalLaws.BlockLines.{indent_seen}
use Rattle.gql_base.proofs.lexical.blocks.common_indent.Goals as goal

pub returns : goal.returns
returns c = c.unwrap_or.ensures ∙ ap (λ least. unwrap_or least 0) c.least_indent.ensures ∙ indent_seen (λ line. line.now) c.args.lines.now
