-- Leaves over the schema of schemas hold what its tables say.
use Rattle.std.proofs.Common.{◌≡◌, ◌∙◌, ℕ, List, Bool, true, false, ◌||◌, ◌&&◌, eqb, eqb-true, refl, sym, subst}
use Rattle.std.specs.List.{list_any}
use Rattle.std.specs.Str.{bytes_eq}
use Rattle.serde_json.specs.Data.{Data, null, boolean, number, string, array, object}
use Rattle.schema_facts.specs.Table.{is_location}
use Rattle.plan_model.specs.SelectedFields.{Setting, holds}
use Rattle.meta_schema.specs.MetaForms.{kind_names, holds_text, holds as table_holds}
use Rattle.meta_schema.specs.MetaFields.{IsLeafType, HasMetaForm}
use Rattle.local_introspection.proofs.Fitting.{HoldAsSaid}

by_either : {X : Type 0} (a b : Bool) → (a || b) ≡ true → (a ≡ true → X) → (b ≡ true → X) → X
by_either true b h first second = first refl
by_either false b h first second = second h

first_holds : (a b : Bool) → (a && b) ≡ true → a ≡ true
first_holds true b h = refl
first_holds false b h = h

leaf_type : (T n : ℕ) → eqb T n ≡ true → IsLeafType n → IsLeafType T
leaf_type T n is leaf = subst IsLeafType (sym (eqb-true T n is)) leaf

text_type : (T : ℕ) (text : List ℕ) → holds_text T text ≡ true → IsLeafType T
text_type T text h =
    by_either (eqb T 11) (eqb T 3 && list_any (bytes_eq text) kind_names || eqb T 8 && is_location text) h (λ is. leaf_type T 11 is refl)
    (λ others. by_either (eqb T 3 && list_any (bytes_eq text) kind_names) (eqb T 8 && is_location text) others
    (λ is. leaf_type T 3 (first_holds (eqb T 3) (list_any (bytes_eq text) kind_names) is) refl) (λ is. leaf_type T 8 (first_holds (eqb T 8) (is_location text) is) refl))

held_type : (T : ℕ) (json : Data) → table_holds T json ≡ true → IsLeafType T
held_type T (string text) h = text_type T text h
held_type T (boolean is) h = leaf_type T 12 h refl
held_type T null h = absurd (cc)
held_type T (number n) h = absurd (cc)
held_type T (array items) h = absurd (cc)
held_type T (object entries) h = absurd (cc)

pub said_of_leaves : (query : List ℕ) (e : Setting) → HasMetaForm query e → HoldAsSaid (holds e.schema)
said_of_leaves query e meta T json h = meta.leaves T json (held_type T json h) ∙ h
