use Rattle.std.proofs.Common.{None, ap, sym, ◌∙◌, option_map}
use Rattle.input_values.specs.coercion.Places.{list_of_one}
use Rattle.input_values.specs.coercion.Calls.{tree_in}
use Rattle.input_values.proofs.CoercionSteps.Places.{one_list_more}
use Rattle.input_values.proofs.coercion.places.list_of_one.Goals as goal

pub returns-in_ok-one_of-in-Some : goal.returns-in_ok-one_of-in-Some
returns-in_ok-one_of-in-Some c = λ before answer h.
    one_list_more c.args.limit before c.args.count.now c.count_node.new.count c.args.item c.in_ok-one_of-in-Some.field-0 answer h c.count_node.ensures
    (λ k. c.in_ok-one_of-in-Some.ensures k ∙ ap (λ i. option_map list_of_one (tree_in i)) (sym c.in-Some.is))

pub returns-in-None : goal.returns-in-None
returns-in-None c = λ before answer h.
    one_list_more c.args.limit before c.args.count.now c.count_node.new.count c.args.item None answer h c.count_node.ensures
    (λ k. ap (λ i. option_map list_of_one (tree_in i)) (sym c.in-None.is))
