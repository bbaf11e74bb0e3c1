use Rattle.std.proofs.Common.{ap, ◌∙◌, arith}
use Rattle.input_values.specs.defaults.Filling.{table_of}
use Rattle.input_values.proofs.FillingSteps.Found.{round_of, rounds_end, rounds_go_on}
use Rattle.input_values.proofs.defaults.rounds.fill.Goals as goal

pub returns-then-len : goal.returns-then-len
returns-then-len c =
    rounds_end c.args.types.items c.fill_round.new.filled.types.items (table_of c.rounds.filled.values) (table_of c.fill_round.new.filled.values) c.rounds.missing.items c.in_ok-still.still.items
    (ap (λ t. t.items) c.fill_round.ensures.same ∙ c.rounds.invariant.0) c.rounds.invariant.1
    (round_of c.args.types.items c.rounds.filled.types.items (table_of c.rounds.filled.values) (table_of c.fill_round.new.filled.values) c.deref-in-rounds.result.now c.rounds.missing.items c.in_ok-still.still.items c.rounds.invariant.0 c.deref-in-rounds.ensures.value c.in_ok-still.ensures.round)
    (let a = c.len.ensures in let b = c.len-in-rounds.ensures in let e = c.if-len.true in omega (arith, a, b, e))

pub rounds-preserved : goal.rounds-preserved
rounds-preserved c = (
  ap (λ t. t.items) c.fill_round.ensures.same ∙ c.rounds.invariant.0,
  rounds_go_on c.args.types.items (table_of c.rounds.filled.values) (table_of c.fill_round.new.filled.values) c.rounds.missing.items c.in_ok-still.still.items c.reverse.new.self.items c.rounds.invariant.1
      (round_of c.args.types.items c.rounds.filled.types.items (table_of c.rounds.filled.values) (table_of c.fill_round.new.filled.values) c.deref-in-rounds.result.now c.rounds.missing.items c.in_ok-still.still.items c.rounds.invariant.0 c.deref-in-rounds.ensures.value c.in_ok-still.ensures.round) c.reverse.ensures.permutation,
)
