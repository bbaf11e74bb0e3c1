-- No type of a schema without floats is lax.
use Rattle.std.proofs.Common.{◌≡◌, ℕ, zero, suc, get_or, List, [], ◌∷◌, false}
use Rattle.std.proofs.lemmas.Bool.{or_parts}
use Rattle.schema_model.specs.SchemaData.{TypeData, SchemaData, type_at, has_lax, has_floats}

each_plain : (types : List TypeData) (other : TypeData) (n : ℕ) → has_lax types ≡ false → other.lax ≡ false → (get_or types n other).lax ≡ false
each_plain [] other n none plain = plain
each_plain (t ∷ types) other zero none plain = (or_parts t.lax (has_lax types) none).0
each_plain (t ∷ types) other (suc n) none plain = each_plain types other n (or_parts t.lax (has_lax types) none).1 plain

pub types_plain : (s : SchemaData) → has_floats s ≡ false → (of : ℕ) → (type_at s of).lax ≡ false
types_plain s none of = let parts = or_parts (has_lax s.types) s.other_type.lax none in each_plain s.types s.other_type of parts.0 parts.1
