use Rattle.std.proofs.Common.{get_or, ap, ◌∙◌}
use Rattle.std.proofs.lemmas.List.{drop_more}
use Rattle.input_values.specs.defaults.Filling.{drafts, table_of}
use Rattle.input_values.proofs.FillingSteps.Found.{place_left, types_alike}
use Rattle.input_values.proofs.defaults.rounds.fill_round.Goals as goal

pub missing-preserved : goal.missing-preserved
missing-preserved c =
    let place = get_or c.args.missing.now c.missing.n (0, 0) in (
      c.fill_place.ensures.same ∙ c.missing.invariant.0,
      place_left (drafts c.args.filled.now.types.items) (table_of c.args.filled.now.values) (table_of c.missing.filled.values) (table_of c.fill_place.new.filled.values) c.args.missing.now c.missing.still.items _ c.missing.n place c.in_ok-done.done
          c.missing-test.true (drop_more c.args.missing.now c.missing.n (0, 0) c.missing-test.true) c.missing.invariant.1
          (types_alike c.args.filled.now.types.items c.missing.filled.types.items (table_of c.missing.filled.values) (table_of c.fill_place.new.filled.values) place.0 place.1 c.in_ok-done.done (ap (λ t. t.items) c.missing.invariant.0) c.in_ok-done.ensures.fills) c.in_ok-push_unless.ensures,
    )
