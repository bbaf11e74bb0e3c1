-- What is looked up in the opened types are the nodes of the type.
use Rattle.std.proofs.Common.{sym, ap, ◌∙◌, map}
use Rattle.response_meter.specs.Nested.{nodes_at, set_of}
use Rattle.response_meter.specs.declared.nested.Node.TheViews.{out-Types}
use Rattle.response_meter.proofs.Opened.{types_opened, set_opened}
use Rattle.response_meter.proofs.nested.Types.set.Goals as goal

pub returns-in-Some : goal.returns-in-Some
returns-in-Some c e =
    sym (set_opened e c.set_at.result.now) ∙ c.set_at.ensures e
    ∙ ap (λ o. nodes_at o (map (set_of e) (out-Types c.args.self.now).sets.items) (set_of e (out-Types c.args.self.now).none)) c.in-Some.ensures.value
    ∙ sym (types_opened e c.args.self.now c.args.on)

pub returns-in-None : goal.returns-in-None
returns-in-None c e =
    sym (set_opened e (out-Types c.args.self.now).none)
    ∙ ap (λ o. nodes_at o (map (set_of e) (out-Types c.args.self.now).sets.items) (set_of e (out-Types c.args.self.now).none)) c.in-None.ensures.value
    ∙ sym (types_opened e c.args.self.now c.args.on)
