-- Settings and positions without the offsets of names, and such as differ in these alone.
use Rattle.std.specs.Prelude.{◌≡◌, map}
use Rattle.gql_base.specs.printing.PlacelessSymbols.{name_placeless}
use Rattle.document_reader.specs.PlacelessDocuments.{directive_placeless, selections_placeless}
use Rattle.document_rules.specs.Parts.{FragmentData}
use Rattle.plan_model.specs.SelectedFields.{Setting}
use Rattle.plan_model.specs.Collecting.{WrittenSelections}
use Rattle.plan_model.specs.Merging.{Position}

abbrev pub fragment_placeless : FragmentData → FragmentData
fragment_placeless f = record { name = name_placeless f.name; on = name_placeless f.on; directives = map directive_placeless f.directives; below = selections_placeless f.below }

abbrev pub setting_placeless : Setting → Setting
setting_placeless e = record e { fragments = map fragment_placeless e.fragments }

abbrev pub written_placeless : WrittenSelections → WrittenSelections
written_placeless w = (w.0, selections_placeless w.1)

abbrev pub position_placeless : Position → Position
position_placeless p = record p { selections = map written_placeless p.selections }

-- Two positions, each in a setting, that differ in the offsets of names alone.
pub record DifferInOffsets (e f : Setting) (p q : Position) : Type 0 where
  pub schema : f.schema ≡ e.schema
  pub weights : f.weights ≡ e.weights
  pub values : f.values ≡ e.values
  pub fragments : map fragment_placeless f.fragments ≡ map fragment_placeless e.fragments
  pub selections : map written_placeless q.selections ≡ map written_placeless p.selections
  pub handed : q.handed ≡ p.handed
