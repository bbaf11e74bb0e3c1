-- An operation stands at the place that is picked.
use Rattle.std.proofs.Common.{◌≡◌, ◌∙◌, ℕ, suc, ◌+◌, Bool, true, false, List, [], ◌∷◌, Option, None, Some, Ok, Err, refl, sym, ap, subst, arith}
use Rattle.std.specs.Prelude.{slice_get, IsSome, if◌then◌else◌, ◌==◌}
use Rattle.document_reader.specs.declared.trees.Definition.{Definition}
use Rattle.document_reader.specs.declared.trees.Definition.TheVariants.{Op, Frag}
use Rattle.document_reader.specs.declared.picking.PickFault.TheVariants.{Several}
use Rattle.document_reader.specs.Picking.{is_operation, is_named, first_where, count_where, there, picked_with, picked}
use Rattle.document_rules.specs.Parts.{operation_in, operation_at}

-- a test that only operations pass
abbrev ForOperations : (Definition → Bool) → Type 0
ForOperations test = (d : Definition) → test d ≡ true → is_operation d ≡ true

is_there : (d : Definition) → is_operation d ≡ true → IsSome (operation_in (Some d))
is_there (Op o) is = refl
is_there (Frag f) is = absurd (cc)

passes : (test : Definition → Bool) (d : Definition) (ds : List Definition) (at place : ℕ) (b : Bool) → ForOperations test → test d ≡ b
    → ((n place : ℕ) → first_where test n ds ≡ Some place → (k : ℕ) × (place ≡ n + k) × IsSome (operation_in (slice_get ds k)))
    → (if b then Some at else first_where test (suc at) ds) ≡ Some place → (k : ℕ) × (place ≡ at + k) × IsSome (operation_in (slice_get (d ∷ ds) k))
passes test d ds at place true only is later found = (0, omega (arith, at_place at place found), is_there d (only d is))
  where
    at_place : (at place : ℕ) → Some at ≡ Some place → at ≡ place
    at_place at place e = cc
passes test d ds at place false only is later found =
    let next = later (suc at) place found in (suc next.0, omega (arith, next.1), next.2)

stands : (test : Definition → Bool) (ds : List Definition) → ForOperations test → (n place : ℕ) → first_where test n ds ≡ Some place → (k : ℕ) × (place ≡ n + k) × IsSome (operation_in (slice_get ds k))
unfolding first_where
stands test [] only n place found = absurd (cc)
stands test (d ∷ ds) only n place found = passes test d ds n place (test d) only refl (stands test ds only) found

first_stands : (test : Definition → Bool) (ds : List Definition) (place : ℕ) → ForOperations test → first_where test 0 ds ≡ Some place → IsSome (operation_at ds place)
first_stands test ds place only found =
    let k = stands test ds only 0 place found in at_start k.0 k.1 k.2
  where
    at_start : (k : ℕ) → place ≡ 0 + k → IsSome (operation_at ds k) → IsSome (operation_at ds place)
    at_start k same there = subst (λ n. IsSome (operation_at ds n)) (sym (whole k place same)) there
      where
        whole : (k place : ℕ) → place ≡ 0 + k → place ≡ k
        whole k place same = omega (arith, same)

operations : ForOperations is_operation
operations d is = is

named : (name : List ℕ) → ForOperations (is_named name)
named name (Op o) is = refl
named name (Frag f) is = absurd (cc)

pub picked_stands : (name : Option (List ℕ)) (ds : List Definition) (place : ℕ) → picked name ds ≡ Ok place → IsSome (operation_at ds place)
picked_stands name ds place found = by_first name ds place (first_where is_operation 0 ds) refl found
  where
    of_there : (found : Option ℕ) (place : ℕ) → there found ≡ Ok place → found ≡ Some place
    of_there None place e = absurd (cc)
    of_there (Some at) place e = cc

    of_alone : (one : Bool) (first count place : ℕ) → (if one then Ok first else Err (Several count)) ≡ Ok place → first ≡ place
    of_alone true first count place e = cc
    of_alone false first count place e = absurd (cc)

    by_first : (name : Option (List ℕ)) (ds : List Definition) (place : ℕ) (first : Option ℕ) → first_where is_operation 0 ds ≡ first → picked_with name ds first ≡ Ok place → IsSome (operation_at ds place)
    by_first name ds place None is e = absurd (cc)
    by_first None ds place (Some first) is e = first_stands is_operation ds place operations (is ∙ ap Some (of_alone (count_where is_operation ds == 1) first (count_where is_operation ds) place e))
    by_first (Some bytes) ds place (Some first) is e = first_stands (is_named bytes) ds place (named bytes) (of_there (first_where (is_named bytes) 0 ds) place e)
