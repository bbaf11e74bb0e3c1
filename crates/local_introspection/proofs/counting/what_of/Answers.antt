use Rattle.std.proofs.Common.{sym, ap, ◌∙◌}
use Rattle.meta_schema.specs.PassedOn.{out-AskedNode}
use Rattle.meta_schema.specs.Fields.{what_asked}
use Rattle.local_introspection.specs.Counting.{what_of}
use Rattle.local_introspection.proofs.Opened.{open_asked}
use Rattle.local_introspection.proofs.counting.what_of.Goals as goal

pub returns : goal.returns
returns c = c.what_asked.ensures ∙ ap (λ name. what_asked name (out-AskedNode c.args.node.now).argument) c.as_str.ensures ∙ ap what_of (sym (open_asked c.args.node.now))
