use Rattle.std.proofs.Common.{◌≡◌, ◌+◌, ◌-◌, ◌*◌, ◌<◌, ◌≤◌, length, drop, refl, sym, ap, ◌∙◌, subst, arith, rules}
use Rattle.std.specs.Prelude.{IfSome}
use Rattle.std.proofs.lemmas.List.{drop_all}
use Rattle.std.proofs.lemmas.Option.{IfSome_then}
use Rattle.gql_base.specs.names.Names.{first_of_name}
use Rattle.gql_base.specs.parts.Trees.{value_tree}
use Rattle.input_values.specs.inputs.Shapes.{shape_tree, list_shape}
use Rattle.input_values.specs.coercion.Sizes.{items_written, fields_written, tree_size, items_size, fields_size}
use Rattle.input_values.proofs.ShapeTrees.{list_made}
use Rattle.input_values.proofs.CoercionSteps.Literals.{item_smaller, field_smaller}
use Rattle.literal_loads.specs.Loads.{WeighsVariable, WeighsNamed, object_answer}
use Rattle.literal_loads.specs.Sums.{placed_name, IsSum}
use Rattle.literal_loads.specs.KnownInputs.{scale_of, placed_in, placed_seen}
use Rattle.literal_loads.specs.Walks.{AreInputs}
use Rattle.literal_loads.proofs.ItemsTogether.{ItemsWeigh, no_items, one_item_more, all_items}
use Rattle.literal_loads.proofs.WrittenInputs.{takes_nothing, takes_value}
use Rattle.literal_loads.proofs.WrittenPlaces.{variable_literal, list_weighs, object_literal_weighs}
use Rattle.literal_loads.proofs.KeptInputs.{one_written_more, object_weighs}
use Rattle.literal_loads.proofs.loads.Loads.+weighs.Goals as goal

-- ---- literals

pub literal_load-returns-in-Var : goal.literal_load-returns-in-Var
literal_load-returns-in-Var t c = λ right.
    let e = scale_of c.args.self.now.of in
    let s = shape_tree c.args.shape.now in
    IfSome_then c.variable_load.result (c.variable_load.ensures right)
    (λ load weighs. variable_literal e s c.args.value.now load c.in-Var.name c.in-Var.is (subst (λ n. WeighsVariable e s n load) c.as_str.ensures weighs))

pub literal_load-returns-in-ListOf : goal.literal_load-returns-in-ListOf
literal_load-returns-in-ListOf t c = λ right.
    let e = scale_of c.args.self.now.of in
    let s = shape_tree c.args.shape.now in
    let item = shape_tree c.deref.result.now in
    let is = ap shape_tree c.in-ListOf.is ∙ (list_made c.in-ListOf.item c.in-ListOf.nullable ∙ ap (λ x. list_shape (shape_tree x) c.in-ListOf.nullable) (sym c.deref.ensures)) in
    IfSome_then c.items_load.result (c.items_load.ensures right)
    (λ load weighs. list_weighs e s c.args.value.now load item c.in-ListOf.nullable c.in-List.items c.as_slice.result.now is c.in-List.is c.as_slice.ensures.value weighs)

pub literal_load-returns-in-Input : goal.literal_load-returns-in-Input
literal_load-returns-in-Input t c = λ right.
    let e = scale_of c.args.self.now.of in
    let s = shape_tree c.args.shape.now in
    let fields = c.as_slice-in-Input.result.now in
    IfSome_then c.wrapped.result
    (c.wrapped.ensures e (object_answer e fields) (subst (λ n. IfSome c.input_load.result (WeighsNamed e n (object_answer e fields n))) c.innermost-in-Input.ensures (c.input_load.ensures right)))
    (λ load weighs. object_literal_weighs e s c.args.value.now load c.in-Object.fields fields c.in-Object.is c.as_slice-in-Input.ensures.value weighs)

-- ---- lists

pub items_load-literal_load-requires : goal.items_load-literal_load-requires
items_load-literal_load-requires t c =
    let within : c.items.at - 1 < length c.args.items.now = omega (arith, c.items-test.true, c.items.auto.at) in
    let s = item_smaller c.args.items.now (c.items.at - 1) c.index-items-at.result within c.index-items-at.is in
    let less : 3 * tree_size (value_tree c.index-items-at.result) < 3 * items_size (items_written c.args.items.now) + 1 = omega (arith, s) in
    search (rules, less)

pub items_load-items-init : goal.items_load-items-init
items_load-items-init t c = λ right. no_items (scale_of c.args.self.now.of) (shape_tree c.args.item.now) (length c.args.items.now) (drop (length c.args.items.now) c.args.items.now) _ (drop_all (length c.args.items.now) c.args.items.now (omega arith)) refl refl refl refl

pub items_load-items-preserved : goal.items_load-items-preserved
items_load-items-preserved t c = λ right. one_item_more (scale_of c.args.self.now.of) (shape_tree c.args.item.now) c.args.items.now c.items.at c.index-items-at.result c.items.sum c.in_ok-load.load c.in_ok-sum.sum c.items-test.true c.items.auto.at c.index-items-at.is (c.items.invariant right) (c.in_ok-load.ensures right) c.in_ok-sum.ensures

pub items_load-returns : goal.items_load-returns
items_load-returns t c = λ right.
    let e = scale_of c.args.self.now.of in
    let item = shape_tree c.args.item.now in
    let end : c.items.at ≡ 0 = omega (arith, c.items-test.false) in
    IfSome_then c.list_of.result c.list_of.ensures
    (λ list round. all_items e item c.args.items.now c.items.sum list (subst (λ n. ItemsWeigh e item n (drop n c.args.items.now) c.items.sum) end (c.items.invariant right)) round)

-- ---- inputs

pub input_load-returns-in_ok-inputs_sum-in-Input : goal.input_load-returns-in_ok-inputs_sum-in-Input
input_load-returns-in_ok-inputs_sum-in-Input t c = λ right.
    let known = c.in_ok-known-in-Input.ensures.known right in
    IfSome_then c.object_of.result c.object_of.ensures
    (λ load round. object_weighs (scale_of c.args.self.now.of) c.args.of c.in_ok-known-in-Input.known.now known c.in_ok-known-in-Input.ensures.owner c.args.fields.now c.in_ok-inputs_sum-in-Input.field-0 load (sym c.kind.ensures ∙ c.in-Input.is) (c.in_ok-inputs_sum-in-Input.ensures right known) round)

pub inputs_sum-one_more-requires : goal.inputs_sum-one_more-requires
inputs_sum-one_more-requires t c =
    let within : c.written.at - 1 < length c.args.written.now = omega (arith, c.written-test.true, c.written.auto.at) in
    let s = field_smaller c.args.written.now (c.written.at - 1) c.index-written-at.result within c.index-written-at.is in
    let less : 3 * tree_size (value_tree c.index-written-at.result.value) + 1 < 3 * fields_size (fields_written c.args.written.now) + 1 = omega (arith, s) in
    search (rules, less)

pub inputs_sum-written-preserved : goal.inputs_sum-written-preserved
inputs_sum-written-preserved t c =
    let e = scale_of c.args.self.now.of in
    let placed = placed_in c.args.known.now in
    let a = c.index-written-at.result in
    let now = c.in_ok-sum.sum in
    record {
      inputs = λ right known. (one_written_more e placed c.args.written.now c.written.at a c.written.sum now (c.if-not-are_once.ensures refl) c.written-test.true c.written.auto.at c.index-written-at.is (c.in_ok-sum.ensures right known) (c.written.invariant.inputs right known) (c.written.invariant.sums right known)).0;
      sums = λ right known. (one_written_more e placed c.args.written.now c.written.at a c.written.sum now (c.if-not-are_once.ensures refl) c.written-test.true c.written.auto.at c.index-written-at.is (c.in_ok-sum.ensures right known) (c.written.invariant.inputs right known) (c.written.invariant.sums right known)).1;
    }

pub inputs_sum-returns : goal.inputs_sum-returns
inputs_sum-returns t c = λ right known.
    let end : c.written.at ≡ 0 = omega (arith, c.written-test.false) in
    let placed = placed_in c.args.known.now in
    record {
      once = c.if-not-are_once.ensures refl;
      inputs = subst (λ n. AreInputs placed (drop n c.args.written.now)) end (c.written.invariant.inputs right known);
      sums = subst (λ n. IsSum (scale_of c.args.self.now.of) placed (drop n c.args.written.now) c.written.sum) end (c.written.invariant.sums right known);
    }

pub one_more-returns-then-is_absent : goal.one_more-returns-then-is_absent
one_more-returns-then-is_absent t c = λ right known.
    let placed = placed_in c.args.known.now in
    let found = ap (first_of_name placed_name placed) (sym c.as_str.ensures) ∙ sym c.in_ok-placed.ensures.found in
    takes_nothing (scale_of c.args.self.now.of) placed c.args.argument.now (placed_seen c.in_ok-placed.placed.now) c.args.sum found
    (sym c.if-is_absent.ensures)

pub one_more-returns : goal.one_more-returns
one_more-returns t c = λ right known.
    let e = scale_of c.args.self.now.of in
    let placed = placed_in c.args.known.now in
    let found = ap (first_of_name placed_name placed) (sym c.as_str.ensures) ∙ sym c.in_ok-placed.ensures.found in
    let there = sym c.if-is_absent.ensures in
    let small = subst (λ n. c.in_ok-load.load.nodes ≤ n) c.from.ensures c.if-load-from.false in
    IfSome_then c.with_value.result c.with_value.ensures
    (λ next moved. takes_value e placed c.args.argument.now (placed_seen c.in_ok-placed.placed.now) c.args.sum c.in_ok-placed.placed.now.absent next c.in_ok-load.load c.in_ok-cost.cost found known.once there (c.in_ok-load.ensures right) c.in_ok-cost.ensures small (c.in_ok-placed.ensures.right e known.each) moved)
