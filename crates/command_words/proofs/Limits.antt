-- What words ask to serve keeps the limits.
use Rattle.std.proofs.Common.{◌≤◌, ◌<◌, inl, inr, List, ℕ, [], ◌∷◌, Option, subst, arith}
use Rattle.std.specs.Prelude.{None, Some}
use Rattle.command_words.specs.declared.command.Command.{Command}
use Rattle.command_words.specs.declared.command.Command.TheVariants.{Help, Version, Check, Price, Explain, ExplainSchema, Audit, Introspect, Worst, Forward, Meter, Replay, Serve, Exercise, Migrate}
use Rattle.clap.specs.Simple.{matches_of}
use Rattle.command_words.specs.Apps.{serve_app}
use Rattle.command_words.specs.Defaults.{usual_workers, greatest_workers, greatest_connections, endless_connections}
use Rattle.command_words.specs.Words.{Rows, IsWithin, IsWorkers, IsConnections, Asks, ServesAlone, ServesWithinLimits}

between : (greatest usual n : ℕ) (given : Option (List ℕ)) → 1 ≤ usual → usual ≤ greatest → IsWithin 1 greatest usual given n → (0 < n) × (n ≤ greatest)
between greatest usual n None least most is = (omega (arith, least, is), omega (arith, most, is))
between greatest usual n (Some text) least most is = (omega (arith, is.1), is.0.2)

workers_within : (n : ℕ) (journal given : Option (List ℕ)) → IsWorkers journal given n → (0 < n) × (n ≤ greatest_workers)
workers_within n None given is = between greatest_workers usual_workers n given (omega (arith)) (omega (arith)) is
workers_within n (Some journal) given is = (omega (arith, is.1), omega (arith, is.1))

alone_within : (n : ℕ) (journal given : Option (List ℕ)) → IsWorkers journal given n → ServesAlone journal n
alone_within n None given is = tt
alone_within n (Some journal) given is = is.1

connections_within : (n : ℕ) (rows : Rows) → IsConnections rows n → (0 < n) × (n ≤ endless_connections)
connections_within n rows (inl is) = (omega (arith, is.2), omega (arith, is.2))
connections_within n rows (inr is) =
    let within = between greatest_connections greatest_connections n _ (omega (arith)) (omega (arith)) is.1 in
    (within.0, omega (arith, within.1))

pub serves_within : (words : List (List ℕ)) (command : Command) → Asks words command → ServesWithinLimits command
serves_within [] command asks = absurd asks
serves_within (name ∷ words) Help asks = tt
serves_within (name ∷ words) Version asks = tt
serves_within (name ∷ words) (Check schema) asks = tt
serves_within (name ∷ words) (Price asked) asks = tt
serves_within (name ∷ words) (Explain asked) asks = tt
serves_within (name ∷ words) (ExplainSchema schema undeclared) asks = tt
serves_within (name ∷ words) (Audit asked) asks = tt
serves_within (name ∷ words) (Introspect asked) asks = tt
serves_within (name ∷ words) (Worst asked part) asks = tt
serves_within (name ∷ words) (Forward asked) asks = tt
serves_within (name ∷ words) (Meter asked reply) asks = tt
serves_within (name ∷ words) (Replay asked) asks = tt
serves_within (name ∷ words) (Serve asked) asks =
    let workers = workers_within asked.workers _ _ asks.1.1.workers in
    let connections = connections_within asked.connections (matches_of serve_app words) asks.1.1.connections in
    let alone = subst (λ journal. ServesAlone journal asked.workers) asks.1.1.journal (alone_within asked.workers _ _ asks.1.1.workers) in
    (workers.0, workers.1, connections.0, connections.1, alone)
serves_within (name ∷ words) (Exercise requests) asks = tt
serves_within (name ∷ words) (Migrate clients) asks = tt
