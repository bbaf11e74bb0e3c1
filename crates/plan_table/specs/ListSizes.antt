-- The size of a list by its source.
use Rattle.std.specs.Prelude.{ℕ, Option, None, Some, Ok}
use Rattle.cost_directives.specs.declared.sources.SizeSource.{SizeSource}
use Rattle.cost_directives.specs.SizeSources.{size_told}
use Rattle.plan_model.specs.SelectedFields.{length_in}

-- how many items it has; none where it is no list, or may have any length
abbrev pub size_from : Option SizeSource → Option ℕ
size_from None = None
size_from (Some source) = length_in (Ok (size_told source))
