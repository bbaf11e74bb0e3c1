-- Where the operation is answered that is asked for by its name, or without one.
use Rattle.std.specs.Prelude.{◌≡◌, ◌≢◌, ℕ, List, Option, Ok}
use Rattle.document_reader.specs.declared.trees.Definition.{Definition}
use Rattle.document_reader.specs.Picking.{picked}
use Rattle.operation_class.specs.declared.classes.Class.{Class}
use Rattle.operation_class.specs.declared.classes.Class.TheVariants as class
use Rattle.operation_class.specs.declared.routes.Route.{Route}
use Rattle.operation_class.specs.declared.routes.Route.TheVariants.{Upstream, Local, Mixed}
use Rattle.operation_class.specs.Classes.{class_at}

-- The operation that is picked goes to the upstream, if one is.
abbrev pub GoesUpstream : Option (List ℕ) → List Definition → Type 0
GoesUpstream name definitions = (place : ℕ) → picked name definitions ≡ Ok place → class_at definitions place ≡ class.Upstream

-- An operation of this class is picked at this place.
abbrev pub IsPicked : Option (List ℕ) → List Definition → ℕ → Class → Type 0
IsPicked name definitions place class = (picked name definitions ≡ Ok place) × (class_at definitions place ≡ class)

abbrev pub IsRoute : Option (List ℕ) → List Definition → Route → Type 0
IsRoute name definitions Upstream = GoesUpstream name definitions
IsRoute name definitions (Local place) = IsPicked name definitions place class.Local
IsRoute name definitions (Mixed at) = (place : ℕ) × IsPicked name definitions place (class.Mixed at)
