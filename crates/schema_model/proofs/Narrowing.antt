-- Comparing shapes, level after level.
use Rattle.std.proofs.Common.{Bool, List, ◌≡◌, sym, ap₂, ◌∙◌}
use Rattle.input_values.specs.inputs.Shapes.{ShapeTree}
use Rattle.schema_model.specs.Drafts.{TypeDraft}
use Rattle.schema_model.specs.Implementing.{is_narrower, is_same}

pub narrower : (types : List TypeDraft) (own wanted o w : ShapeTree) (r : Bool) → own ≡ o → wanted ≡ w → r ≡ is_narrower types o w → r ≡ is_narrower types own wanted
narrower types own wanted o w r a b e = e ∙ ap₂ (is_narrower types) (sym a) (sym b)

pub same : (own wanted o w : ShapeTree) (r : Bool) → own ≡ o → wanted ≡ w → r ≡ is_same o w → r ≡ is_same own wanted
same own wanted o w r a b e = e ∙ ap₂ is_same (sym a) (sym b)
