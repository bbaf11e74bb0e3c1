use Rattle.std.proofs.Common.{◌∙◌, ◌++◌, sym, ap, map, bytes_eq, append-nil}
use Rattle.std.proofs.lemmas.Result.{on_ok_weaker}
use Rattle.schema_rules.proofs.Namings.{position_view}
use Rattle.document_rules.specs.Parts.{fragment_name}
use Rattle.collected_fields.specs.Steps.{step_data}
use Rattle.collected_fields.specs.Prepared.{reached_fragment, spread_steps}
use Rattle.collected_fields.proofs.prepare.add_spread.Goals as goal

pub returns-in-Some-clause-adds : goal.returns-in-Some-clause-adds
returns-in-Some-clause-adds c = on_ok_weaker c.spread.result (λ e. e ∙ ap (λ o. map step_data c.args.draft.now.steps.items ++ spread_steps o)
    (sym c.in-Some.is ∙ (c.position.ensures.place ∙ position_view reached_fragment (λ f. bytes_eq (fragment_name f) c.args.name.now) 0 c.args.source.now.fragments.now.items.items))) c.spread.ensures.steps

pub returns-in-None-clause-adds : goal.returns-in-None-clause-adds
returns-in-None-clause-adds c = sym (append-nil (map step_data c.args.draft.now.steps.items)) ∙ ap (λ o. map step_data c.args.draft.now.steps.items ++ spread_steps o)
    (sym c.in-None.is ∙ (c.position.ensures.place ∙ position_view reached_fragment (λ f. bytes_eq (fragment_name f) c.args.name.now) 0 c.args.source.now.fragments.now.items.items))
