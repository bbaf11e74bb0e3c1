use Rattle.std.proofs.Common.{true, None, Some, ◌≡◌, All, refl, ◌+◌, ◌-◌, ◌*◌, ◌<◌, length, sym, ap, ◌∙◌, subst, arith, rules}
use Rattle.std.proofs.lemmas.List.{take_all}
use Rattle.std.proofs.lemmas.List.Elements.{All-more}
use Rattle.gql_base.specs.names.Names.{are_distinct, first_of_name}
use Rattle.gql_base.specs.parts.Trees.{value_tree}
use Rattle.input_values.specs.inputs.Shapes.{shape_tree, list_shape}
use Rattle.input_values.specs.coercion.Sizes.{names_written, items_written, fields_written, tree_size, items_size, fields_size}
use Rattle.input_values.proofs.ShapeTrees.{list_made}
use Rattle.input_values.proofs.CoercionSteps.Literals.{item_smaller, field_smaller}
use Rattle.literal_loads.specs.Sums.{placed_name}
use Rattle.literal_loads.specs.KnownInputs.{scale_of, placed_in, placed_seen}
use Rattle.literal_loads.specs.Comparing.{written_for, IsSameAmong, IsAmong, AreSameObjects}
use Rattle.literal_loads.proofs.SameInputs.{one_among, inputs_same, objects_same, same_objects_at, same_lists_at}
use Rattle.literal_loads.proofs.loads.Loads.+compares.Goals as goal

pub are_same_lists-are_same_literals-requires : goal.are_same_lists-are_same_literals-requires
are_same_lists-are_same_literals-requires t c =
    let within : c.items.at - 1 < length c.args.items.now = omega (arith, c.items-test.true, c.items.auto.at) in
    let s = item_smaller c.args.items.now (c.items.at - 1) c.index-items-at.result within c.index-items-at.is in
    let less : 3 * tree_size (value_tree c.index-items-at.result) < 3 * items_size (items_written c.args.items.now) + 1 = omega (arith, s) in
    search (rules, less)

pub are_same_inputs-is_same_among-requires : goal.are_same_inputs-is_same_among-requires
are_same_inputs-is_same_among-requires t c =
    let s = field_smaller c.args.written.now c.written.argument-index c.argument-item.result c.written-test.true c.argument-item.is in
    let less : 3 * tree_size (value_tree c.argument-item.result.value) + 1 < 3 * fields_size (fields_written c.args.written.now) + 1 = omega (arith, s) in
    search (rules, less)

pub are_same_inputs-written-preserved : goal.are_same_inputs-written-preserved
are_same_inputs-written-preserved t c = λ right known.
    let e = scale_of c.args.self.now.of in
    let placed = placed_in c.args.known.now in
    let P = IsSameAmong e placed c.args.others.now in
    let a = c.argument-item.result in
    All-more P c.args.written.now c.written.argument-index a c.written-test.true (c.written.invariant right known)
    (subst P c.argument-item.is (subst (λ os. IsSameAmong e placed os a) c.in-Ok-index_of.ensures (c.if-not-is_same_among.ensures right known refl)))

pub are_same_inputs-returns-in-Ok-index_of : goal.are_same_inputs-returns-in-Ok-index_of
are_same_inputs-returns-in-Ok-index_of t c = λ right known same.
    let e = scale_of c.args.self.now.of in
    let placed = placed_in c.args.known.now in
    let written = c.args.written.now in
    let others = c.args.others.now in
    inputs_same e placed written others
    (subst (λ l. are_distinct (names_written l) ≡ true) c.in-Ok.ensures (sym c.if-not-are_distinct.ensures))
    (subst (λ l. are_distinct (names_written l) ≡ true) c.in-Ok-index_of.ensures (sym c.if-not-are_distinct-2.ensures))
    (subst (λ l. All (IsAmong e placed l) others) c.in-Ok.ensures (c.if-not-are_among.ensures refl))
    (subst (All (IsSameAmong e placed others)) (take_all c.written.argument-index written c.written-test.false) (c.written.invariant right known))

pub are_same_literals-returns-in-ListOf : goal.are_same_literals-returns-in-ListOf
are_same_literals-returns-in-ListOf t c = λ right same.
    let s = shape_tree c.args.shape.now in
    let item = shape_tree c.deref.result.now in
    let shaped = ap shape_tree c.in-ListOf.is ∙ (list_made c.in-ListOf.item c.in-ListOf.nullable ∙ ap (λ x. list_shape (shape_tree x) c.in-ListOf.nullable) (sym c.deref.ensures)) in
    same_lists_at (scale_of c.args.self.now.of) s c.args.value.now c.args.other.now item c.in-ListOf.nullable c.in-List.items c.in-List-other.others c.as_slice.result.now c.as_slice-in-ListOf.result.now shaped c.in-List.is c.as_slice.ensures.value c.in-List-other.is c.as_slice-in-ListOf.ensures.value (c.are_same_lists.ensures right same)

pub are_same_literals-returns-in-Input : goal.are_same_literals-returns-in-Input
are_same_literals-returns-in-Input t c = λ right same.
    let e = scale_of c.args.self.now.of in
    let fields = c.as_slice-in-Input.result.now in
    let others = c.as_slice-in-Input-2.result.now in
    same_objects_at e (shape_tree c.args.shape.now) c.args.value.now c.args.other.now c.in-Object.fields c.in-Object-other.others fields others c.in-Object.is c.as_slice-in-Input.ensures.value c.in-Object-other.is c.as_slice-in-Input-2.ensures.value
    (subst (λ n. AreSameObjects e n fields others) c.innermost-in-Input.ensures (c.are_same_objects.ensures right same))

pub are_same_objects-returns-in-Some : goal.are_same_objects-returns-in-Some
are_same_objects-returns-in-Some t c = λ right same.
    let known = c.in-Some.ensures.known right in
    objects_same (scale_of c.args.self.now.of) c.in-Some.known.now known c.args.fields.now c.args.others.now (c.are_same_inputs.ensures right known same) c.args.of c.in-Some.ensures.owner (sym c.kind.ensures ∙ c.in-Input.is)

pub is_same_among-returns-else-not-are_alike_absent : goal.is_same_among-returns-else-not-are_alike_absent
is_same_among-returns-else-not-are_alike_absent t c = λ right known same.
    let placed = placed_in c.args.known.now in
    let items = c.args.others.now.items.now in
    let found = ap (first_of_name placed_name placed) (sym c.as_str-name.ensures) ∙ sym c.in-Some.ensures.found in
    one_among (scale_of c.args.self.now.of) placed c.args.argument.now (placed_seen c.in-Some.placed.now) found items (Some c.in-Some-first_named.other.now) (c.in-Some-first_named.ensures ∙ ap (written_for items) c.as_str-name.ensures)
    (c.if-not-are_alike_absent.ensures refl, c.are_same_literals.ensures right same)

pub is_same_among-returns-in-None-first_named : goal.is_same_among-returns-in-None-first_named
is_same_among-returns-in-None-first_named t c = λ right known same.
    let placed = placed_in c.args.known.now in
    let items = c.args.others.now.items.now in
    let found = ap (first_of_name placed_name placed) (sym c.as_str-name.ensures) ∙ sym c.in-Some.ensures.found in
    one_among (scale_of c.args.self.now.of) placed c.args.argument.now (placed_seen c.in-Some.placed.now) found items None (c.in-None-first_named.ensures ∙ ap (written_for items) c.as_str-name.ensures) (c.is_default.ensures same)
