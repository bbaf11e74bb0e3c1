use Rattle.std.proofs.Common.{sym, subst}
use Rattle.std.specs.Prelude.{Some}
use Rattle.std.proofs.lemmas.Map.Text.{btree_map_updates_str}
use Rattle.gql_base.specs.names.Indexes.{at_name}
use Rattle.gql_base.proofs.NameLaws.RepeatedLaws.{sees}
use Rattle.replay_scripts.specs.Steps.{step_data}
use Rattle.replay_scripts.specs.Scripts.{with_begun}
use Rattle.replay_scripts.specs.Fronts.{Know}
use Rattle.replay_scripts.proofs.reading.note_begun.Goals as goal

pub returns-in_ok-insert-in-Begin-clause-known : goal.returns-in_ok-insert-in-Begin-clause-known
returns-in_ok-insert-in-Begin-clause-known c = λ ids know.
    subst (λ step. Know (at_name c.insert.new.self) (with_begun (step_data step) ids)) (sym c.in-Begin.is)
    (sees _ _ c.in-Begin.id.now c.args.count ids (btree_map_updates_str c.in-Begin.id.now c.args.begun.now c.insert.new.self (Some c.args.count) c.in_ok-insert-in-Begin.ensures.updates) know)
