use Rattle.std.proofs.Common.{inl, inr, subst}
use Rattle.account_commands.specs.Migrate.{MigrateOf}
use Rattle.account_commands.proofs.migrating.migrate.Goals as goal

pub returns-in-Ok : goal.returns-in-Ok
returns-in-Ok g c = inr (c.in-Ok.text, c.in-Ok.ensures.held, subst (λ text. MigrateOf text c.migrate_text.result) c.as_str.ensures c.migrate_text.ensures, c.in-Ok.ensures.still)

pub returns-in-Err : goal.returns-in-Err
returns-in-Err g c = inl c.in-Err.ensures.none
