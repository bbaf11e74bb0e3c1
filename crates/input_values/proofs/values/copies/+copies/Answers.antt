use Rattle.std.proofs.Common.{sym, ap, ◌∙◌}
use Rattle.input_values.specs.values.Coerced.{coerced_tree}
use Rattle.input_values.proofs.CoercedTrees.{field_made, field_opened, shared_made}
use Rattle.input_values.proofs.Copied.{same_lists, same_objects}
use Rattle.input_values.proofs.values.copies.+copies.Goals as goal

pub copy_value-returns-in_ok-copy_items-in-List : goal.copy_value-returns-in_ok-copy_items-in-List
copy_value-returns-in_ok-copy_items-in-List t c = same_lists c.in_ok-copy_items-in-List.field-0 c.in-List.items c.as_slice.result.now c.as_slice.ensures.value c.in_ok-copy_items-in-List.ensures ∙ ap coerced_tree (sym c.in-List.is)

pub copy_value-returns-in_ok-copy_fields-in-Object : goal.copy_value-returns-in_ok-copy_fields-in-Object
copy_value-returns-in_ok-copy_fields-in-Object t c =
    same_objects c.in_ok-copy_fields-in-Object.field-0 c.in-Object.fields c.as_slice-in-Object.result.now c.as_slice-in-Object.ensures.value c.in_ok-copy_fields-in-Object.ensures ∙ ap coerced_tree (sym c.in-Object.is)

pub copy_value-returns-in_ok-try_clone-in-Shared : goal.copy_value-returns-in_ok-try_clone-in-Shared
copy_value-returns-in_ok-try_clone-in-Shared t c =
    shared_made c.in_ok-try_clone-in-Shared.field-0 ∙ (ap coerced_tree c.in_ok-try_clone-in-Shared.ensures ∙ (sym (shared_made c.in-Shared.held) ∙ ap coerced_tree (sym c.in-Shared.is)))

pub copy_field-returns : goal.copy_field-returns
copy_field-returns t c =
    field_made c.in_ok-name.name c.in_ok-value.value
    ∙ (ap (λ n. (n, coerced_tree c.in_ok-value.value)) c.in_ok-name.ensures ∙ (ap (λ v. (c.args.field.now.name, v)) c.in_ok-value.ensures ∙ sym (field_opened c.args.field.now)))
