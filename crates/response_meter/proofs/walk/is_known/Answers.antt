-- A key is known as that of a node, or as the alias.
use Rattle.std.proofs.Common.{sym, ◌∙◌, false, true, bytes_eq}
use Rattle.response_model.specs.Reading.{has_key}
use Rattle.response_meter.specs.Walks.{nodes_in}
use Rattle.response_meter.proofs.NodesSeen.{has_key_in, known_key, known_else}
use Rattle.response_meter.proofs.walk.is_known.Goals as goal

pub returns-then-has : goal.returns-then-has
returns-then-has c =
    known_key c.has.result (has_key c.args.key.now (nodes_in c.args.by.now c.args.keys.now.items.now)) _ (c.has.ensures ∙ has_key_in c.args.by.now c.args.keys.now.items.now c.args.key.now) c.if-has.true

pub returns-then-asked : goal.returns-then-asked
returns-then-asked c =
    c.eq.ensures
    ∙ sym (known_else c.has.result (has_key c.args.key.now (nodes_in c.args.by.now c.args.keys.now.items.now)) c.args.asked (bytes_eq c.args.key.now c.args.by.now.alias.now) true
    (c.has.ensures ∙ has_key_in c.args.by.now c.args.keys.now.items.now c.args.key.now) c.if-has.false c.if-asked.true)

pub returns-else-asked : goal.returns-else-asked
returns-else-asked c =
    c.if-asked.false
    ∙ sym (known_else c.has.result (has_key c.args.key.now (nodes_in c.args.by.now c.args.keys.now.items.now)) c.args.asked (bytes_eq c.args.key.now c.args.by.now.alias.now) false
    (c.has.ensures ∙ has_key_in c.args.by.now c.args.keys.now.items.now c.args.key.now) c.if-has.false c.if-asked.false)
