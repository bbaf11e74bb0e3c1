-- Facts are the same however it is known that the type of queries has one name in them.
use Rattle.std.proofs.Common.{◌≡◌, ℕ, Option, ap}
use Rattle.std.proofs.Math.Nat.{ℕ_set}
use mathlib.Core.List.{is_set}
use Rattle.schema_model.specs.SchemaViews.{schema_data}
use Rattle.schema_facts.specs.FactsViews.{facts_data}
use Rattle.meta_schema.specs.TestedSchemas.{name_of_queries}
use Rattle.local_introspection.specs.declared.facts.Facts.{Facts}

abbrev IsNamed : Facts → Type 0
IsNamed f = name_of_queries (schema_data f.meta.schema) ≡ (facts_data f.known).query_name

abbrev named_so : (f : Facts) → Option ℕ → IsNamed f → Facts
named_so f most named = record { known = f.known; meta = f.meta; most = most; named = named }

pub same_facts : (f : Facts) (most : Option ℕ) (named : IsNamed f) → named_so f most named ≡ record f { most = most }
same_facts f most named = ap (named_so f most) (is_set ℕ_set (name_of_queries (schema_data f.meta.schema)) (facts_data f.known).query_name named f.named)
