-- Fields as they are written.
use Rattle.std.proofs.Common.{◌≡◌, ℕ, List, Option, ap, sym, ◌∙◌}
use Rattle.document_reader.specs.declared.trees.Field.{Field}
use Rattle.schema_model.specs.SchemaData.{SchemaData}
use Rattle.document_rules.specs.Sites.{below_field, meaning_on}
use Rattle.document_rules.proofs.SiteSteps.{name_of_names}
use Rattle.plan_model.specs.SelectedFields.{written_below}
use Rattle.collected_fields.specs.Views.{written_field}

pub below_is : (s : SchemaData) (parent : Option ℕ) (f : Field) (o : Option ℕ) (name : List ℕ) → o ≡ below_field s (meaning_on s parent name) → name ≡ f.name.text → o ≡ written_below s parent (written_field parent f).call
unfolding written_below
below_is s parent f o name is named = is ∙ (ap (λ n. below_field s (meaning_on s parent n)) named ∙ ap (λ i. below_field s (meaning_on s parent i.0)) (sym (name_of_names f.alias f.name)))
