-- A condition applies to just those object types that are possible where it stands.
use Rattle.std.proofs.Common.{ℕ, ◌≡◌, ◌<◌, Bool, true, false, true≢false, List, map, length, get_or, nat_eq, ltb, Option, None, Some, Bor, refl, sym, ap, ◌∙◌, subst, ltb-true}
use Rattle.std.specs.List.{list_any}
use Rattle.std.specs.Prelude.{IfSome, is_some}
use Rattle.std.proofs.lemmas.List.{get_or-map, length-map}
use Rattle.schema_rules.specs.Kinds.{is_object}
use Rattle.schema_model.specs.declared.entries.TypeEntry.{TypeEntry}
use Rattle.schema_model.specs.declared.marks.TypeList.{TypeList}
use Rattle.schema_model.specs.declared.schema.Schema.{Schema}
use Rattle.schema_model.specs.Entries.{type_data, numbers_listed}
use Rattle.schema_model.specs.SchemaData.{TypeData, SchemaData, type_at, applies, possible, IsPossibleType}
use Rattle.schema_model.specs.SchemaViews.{schema_data}
use Rattle.schema_model.proofs.PossibleLaws.{possible_iff, all_length}
use Rattle.schema_model.proofs.PossibleTypes.{known}

possible_where_applies : (s : SchemaData) (c o : ℕ) → c < length s.types → o < length s.types → is_object (type_at s o).kind ≡ true → list_any (nat_eq o) (possible s c) ≡ applies s c o
possible_where_applies s c o condition type object = by (applies s c o) (list_any (nat_eq o) (possible s c)) refl refl
  where
    by : (does there : Bool) → applies s c o ≡ does → list_any (nat_eq o) (possible s c) ≡ there → list_any (nat_eq o) (possible s c) ≡ applies s c o
    by true true a h = h ∙ sym a
    by true false a h = absurd (true≢false (sym ((possible_iff s c o).1 (record { condition = condition; type = type; object = object; applies_there = a })) ∙ h))
    by false true a h = let is : IsPossibleType s c o = (possible_iff s c o).0 h in absurd (true≢false (sym is.applies_there ∙ a))
    by false false a h = h ∙ sym a

-- what is found at a condition, beside an object type
pub applies_beside : (s : Schema) (c o : ℕ) (found : Option (Bor TypeList)) (t : TypeEntry) → is_some found ≡ ltb c (length s.possible.items) → IfSome found (λ l. l.now ≡ get_or s.possible.items c l.now)
    → o < length s.types.items.items → t ≡ get_or s.types.items.items o t → is_object t.kind ≡ true → IfSome found (λ l. list_any (nat_eq o) (numbers_listed l.now) ≡ applies (schema_data s) c o)
applies_beside s c o None t some is less at object = tt
applies_beside s c o (Some l) t some is less at object =
    let types : List TypeEntry = s.types.items.items in
    let here : c < length s.possible.items = ltb-true c (length s.possible.items) (sym some) in
    let as_many : length s.possible.items ≡ length (map type_data types) = sym (length-map s.possible.items numbers_listed) ∙ (ap length s.knows ∙ all_length 0 (map type_data types) (map type_data types)) in
    let kind : is_object (type_at (schema_data s) o).kind ≡ true = ap (λ (d : TypeData). is_object d.kind) (get_or-map type_data types o t (type_data s.other_type) less) ∙ (ap (λ (x : TypeEntry). is_object x.kind) (sym at) ∙ object) in
    ap (list_any (nat_eq o)) (known s.possible.items types c l.now s.knows here is)
    ∙ possible_where_applies (schema_data s) c o (subst (λ n. c < n) as_many here) (subst (λ n. o < n) (sym (length-map types type_data)) less) kind
