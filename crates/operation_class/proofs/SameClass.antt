-- The class of an operation by the trees of definitions.
use Rattle.std.proofs.Common.{◌≡◌, ◌∙◌, ℕ, List, [], ◌∷◌, map, flat_map, Option, None, Some, refl, sym, ap, ap₂}
use Rattle.std.specs.Prelude.{slice_get, option_map}
use Rattle.std.proofs.lemmas.Option.{slice_get-map}
use Rattle.document_reader.specs.declared.trees.Definition.{Definition}
use Rattle.document_reader.specs.declared.trees.Definition.TheVariants.{Op, Frag}
use Rattle.document_reader.specs.Documents.{DefinitionTree, operation_tree, fragment_tree}
use Rattle.document_reader.specs.Trees.{definition_tree}
use Rattle.document_rules.specs.Parts.{FragmentData, fragment_data, fragments_of, operation_in}
use Rattle.operation_class.specs.declared.classes.Class.{Class}
use Rattle.operation_class.specs.declared.classes.Class.TheVariants.{Upstream}
use Rattle.operation_class.specs.RootFields.{root_fields}
use Rattle.operation_class.specs.Classes.{class_by_fields, class_of_kind, class_there, class_at}

abbrev fragments_in : DefinitionTree → List FragmentData
fragments_in (operation_tree kind name variables directives below) = []
fragments_in (fragment_tree name on directives below) = record { name = name; on = on; directives = directives; below = below } ∷ []

fragments_by_trees : (ds : List Definition) → map fragment_data (fragments_of ds) ≡ flat_map fragments_in (map definition_tree ds)
fragments_by_trees [] = refl
fragments_by_trees (Op o ∷ ds) = fragments_by_trees ds
fragments_by_trees (Frag f ∷ ds) = ap (λ others. fragment_data f ∷ others) (fragments_by_trees ds)

abbrev class_in : List FragmentData → Option DefinitionTree → Class
class_in fragments None = Upstream
class_in fragments (Some (operation_tree kind name variables directives below)) = class_of_kind kind (class_by_fields (root_fields fragments below))
class_in fragments (Some (fragment_tree name on directives below)) = Upstream

class_by_tree : (ds : List Definition) (d : Option Definition) → class_there ds (operation_in d) ≡ class_in (map fragment_data (fragments_of ds)) (option_map definition_tree d)
class_by_tree ds None = refl
class_by_tree ds (Some (Op o)) = refl
class_by_tree ds (Some (Frag f)) = refl

class_by_trees : (ds : List Definition) (place : ℕ) → class_at ds place ≡ class_in (flat_map fragments_in (map definition_tree ds)) (slice_get (map definition_tree ds) place)
class_by_trees ds place =
    class_by_tree ds (slice_get ds place) ∙ ap₂ class_in (fragments_by_trees ds) (sym (slice_get-map definition_tree ds place))

pub one_class : (ds es : List Definition) (place : ℕ) → map definition_tree ds ≡ map definition_tree es → class_at ds place ≡ class_at es place
one_class ds es place same =
    class_by_trees ds place ∙ ap (λ (trees : List DefinitionTree). class_in (flat_map fragments_in trees) (slice_get trees place)) same ∙ sym (class_by_trees es place)
