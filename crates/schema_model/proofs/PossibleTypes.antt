-- What a schema knows of the possible types of each type.
use Rattle.std.proofs.Common.{ℕ, ◌≡◌, ◌<◌, ◌≤◌, List, [], length, map, get_or, sym, ap, ◌∙◌, arith}
use Rattle.std.proofs.lemmas.List.{get_or-map, get_or_past, length-map}
use Rattle.schema_model.specs.declared.entries.TypeEntry.{TypeEntry}
use Rattle.schema_model.specs.declared.marks.TypeList.{TypeList}
use Rattle.schema_model.specs.SchemaData.{all_possible}
use Rattle.schema_model.specs.Entries.{type_data, numbers_listed, KnowsPossible}

pub known : (possible : List TypeList) (types : List TypeEntry) (n : ℕ) (v : TypeList) → KnowsPossible possible types → n < length possible → v ≡ get_or possible n v → numbers_listed v ≡ get_or (all_possible 0 (map type_data types) (map type_data types)) n []
known possible types n v knows h is = ap numbers_listed is ∙ (sym (get_or-map numbers_listed possible n v [] h) ∙ ap (λ l. get_or l n []) knows)

pub past_known : (possible : List TypeList) (types : List TypeEntry) (n : ℕ) → KnowsPossible possible types → length possible ≤ n → [] ≡ get_or (all_possible 0 (map type_data types) (map type_data types)) n []
past_known possible types n knows h = sym (get_or_past (all_possible 0 (map type_data types) (map type_data types)) n [] (let l = ap length (sym knows) ∙ length-map possible numbers_listed in omega (arith, l)))
