use Rattle.std.proofs.Common.{map, ap, sym, ◌∙◌}
use Rattle.std.specs.Option.{option_copied_mut}
use Rattle.indexmap.proofs.CallerLemmas.{keys-with_value_at}
use Rattle.collected_fields.specs.Walks.{numbered}
use Rattle.collected_fields.proofs.GroupLaws.{set_longer, set_nothing}
use Rattle.collected_fields.proofs.group.Groups.add_to.Goals as goal

pub returns-in_ok-push-in-Some-clause-keys : goal.returns-in_ok-push-in-Some-clause-keys
returns-in_ok-push-in-Some-clause-keys c = ap (map (λ k. k.now)) (keys-with_value_at c.args.self.now.by_key c.args.place c.push.new.self)

pub returns-in_err-push-in-Some-clause-keys : goal.returns-in_err-push-in-Some-clause-keys
returns-in_err-push-in-Some-clause-keys c = ap (map (λ k. k.now)) (keys-with_value_at c.args.self.now.by_key c.args.place c.push.new.self)

pub returns-in_ok-push-in-Some-clause-added : goal.returns-in_ok-push-in-Some-clause-added
returns-in_ok-push-in-Some-clause-added c = set_longer c.args.self.now.by_key.entries c.args.place c.args.field c.push.new.self c.in-Some.group.now
    (sym c.get_index_mut.ensures.value ∙ ap option_copied_mut c.in-Some.is) c.in_ok-push-in-Some.ensures.items

pub returns-in-None-clause-added : goal.returns-in-None-clause-added
returns-in-None-clause-added c = set_nothing c.args.self.now.by_key.entries c.args.place (numbered c.args.field) (sym c.get_index_mut.ensures.value ∙ ap option_copied_mut c.in-None.is)
