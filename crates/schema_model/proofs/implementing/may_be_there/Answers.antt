use Rattle.std.proofs.Common.{ap₂, ◌∙◌}
use Rattle.std.specs.Prelude.{◌||◌}
use Rattle.std.specs.Str.{bytes_eq}
use Rattle.schema_model.specs.DraftViews.{input_view}
use Rattle.schema_model.proofs.NamedDrafts.{any_view, is_written}
use Rattle.schema_model.proofs.implementing.may_be_there.Goals as goal

pub returns : goal.returns
returns c = ap₂ (λ a b. a || b) (c.has-known.ensures ∙ any_view input_view (λ d. bytes_eq d.name c.args.argument.now.name.now) c.args.wanted.now.items.items)
    (ap₂ (λ a b. a || b) (c.is_some-filled.ensures ∙ is_written c.args.argument.now.default) c.is_nullable-nullable.ensures)
