-- The texts of response keys, each held by one row or by several.
use Rattle.std.specs.Prelude.{ℕ, List}
use Rattle.plan_table.specs.declared.keys.Held.{Held}
use Rattle.plan_table.specs.declared.keys.Held.TheVariants.{Own, Common}

abbrev pub text_held : Held → List ℕ
text_held (Own text) = text
text_held (Common text) = text.value
