-- What types ask, by their numbers.
use Rattle.std.proofs.Common.{◌≡◌, ℕ, List, map, Option, None, Some, option_map, Result, Ok, Err, refl, sym, ap, ◌∙◌}
use Rattle.std.specs.Prelude.{slice_get, IfOk}
use Rattle.std.proofs.lemmas.Option.{slice_get-map}
use Rattle.input_values.specs.coercion.Forms.{InputForm, no_form}
use Rattle.input_values.specs.declared.defaults.drafts.DraftType.{DraftType as AskedType}
use Rattle.input_values.specs.declared.defaults.filled.FilledTypes.{FilledTypes}
use Rattle.input_values.specs.defaults.Drafts.{Draft, settled, default_value, filled_form, AreFilled}
use Rattle.input_values.specs.defaults.Filling.{type_draft, draft_or, drafts, filled_forms}
use Rattle.schema_model.specs.Drafts.{TypeDraft}
use Rattle.schema_model.specs.Defaults.{asked, asked_or, all_asked}

abbrev settled_or : Option Draft → Draft
settled_or None = settled no_form
settled_or (Some d) = d

drafted_at : (o : Option AskedType) → draft_or o ≡ settled_or (option_map type_draft o)
drafted_at None = refl
drafted_at (Some t) = refl

asked_at : (o : Option TypeDraft) → asked_or o ≡ settled_or (option_map asked o)
asked_at None = refl
asked_at (Some d) = refl

same_asked : (types : List AskedType) (ds : List TypeDraft) (of : ℕ) → map type_draft types ≡ map asked ds → drafts types of ≡ all_asked ds of
same_asked types ds of same =
    drafted_at (slice_get types of) ∙ (ap settled_or (sym (slice_get-map type_draft types of) ∙ (ap (λ l. slice_get l of) same ∙ slice_get-map asked ds of)) ∙ sym (asked_at (slice_get ds of)))

asked_filled : (types : List AskedType) (ds : List TypeDraft) (form : ℕ → InputForm) → map type_draft types ≡ map asked ds → AreFilled (drafts types) form → AreFilled (all_asked ds) form
asked_filled types ds form same are = λ of. are of ∙ ap (filled_form (default_value form)) (same_asked types ds of same)

pub filled_result : {E : Type 0} (r : Result FilledTypes E) (types : List AskedType) (ds : List TypeDraft) → map type_draft types ≡ map asked ds → IfOk r (λ f. AreFilled (drafts types) (filled_forms f)) → IfOk r (λ f. AreFilled (all_asked ds) (filled_forms f))
filled_result (Ok f) types ds same are = asked_filled types ds (filled_forms f) same are
filled_result (Err e) types ds same are = tt
