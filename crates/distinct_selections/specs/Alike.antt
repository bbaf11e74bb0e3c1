-- What is compared of two selections, wherever they stand.
use Rattle.std.specs.Prelude.{◌≡◌, ℤ, Bool, false, []}
use Rattle.std.specs.Ordering.{int_eq}
use Rattle.gql_base.specs.parts.Values.{ValueTree, integer_value}
use Rattle.document_reader.specs.Documents.{SelectionTree, field_selection, fragment_spread, inline_fragment, SelectionTrees, no_selection, selection_then}
use Rattle.plan_model.specs.GivenAlike.{AreGivenAlike}
use Rattle.plan_model.specs.Shortening.{IsSameName, AreSameNames, IsSameType}

abbrev pub is_the_integer : ℤ → ValueTree → Bool
is_the_integer z (integer_value y) = int_eq z y
is_the_integer z value = false

-- The second selection is written as the first, without directives, and so is all that stands below it.
abbrev mutual
  pub IsAlike : SelectionTree → SelectionTree → Type 0
  IsAlike (field_selection names arguments directives below) (field_selection others given marks inside) = (AreSameNames names others × AreGivenAlike arguments given) × ((marks ≡ []) × AreAlike below inside)
  IsAlike (field_selection names arguments directives below) (fragment_spread other marks) = ⊥
  IsAlike (field_selection names arguments directives below) (inline_fragment other marks inside) = ⊥
  IsAlike (fragment_spread name directives) (field_selection others given marks inside) = ⊥
  IsAlike (fragment_spread name directives) (fragment_spread other marks) = IsSameName name other × (marks ≡ [])
  IsAlike (fragment_spread name directives) (inline_fragment other marks inside) = ⊥
  IsAlike (inline_fragment on directives below) (field_selection others given marks inside) = ⊥
  IsAlike (inline_fragment on directives below) (fragment_spread other marks) = ⊥
  IsAlike (inline_fragment on directives below) (inline_fragment other marks inside) = IsSameType on other × ((marks ≡ []) × AreAlike below inside)

  -- one after the other
  pub AreAlike : SelectionTrees → SelectionTrees → Type 0
  AreAlike no_selection no_selection = Unit {0}
  AreAlike no_selection (selection_then t ts) = ⊥
  AreAlike (selection_then s ss) no_selection = ⊥
  AreAlike (selection_then s ss) (selection_then t ts) = IsAlike s t × AreAlike ss ts
