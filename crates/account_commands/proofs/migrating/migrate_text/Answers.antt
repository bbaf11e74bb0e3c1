-- The file that is written ends with a line end.
use Rattle.std.proofs.Common.{inl, inr, refl, sym, subst}
use Rattle.client_files.specs.Written.{Migrates}
use Rattle.account_commands.proofs.Migrations.{written_line}
use Rattle.account_commands.proofs.migrating.migrate_text.Goals as goal

pub unended-requires : goal.unended-requires
unended-requires c = written_line c.args.text.now c.in-Ok.file c.in-Ok.ensures.migrated

pub returns-in-Ok : goal.returns-in-Ok
returns-in-Ok c = inr (inl (c.unended.result.items, subst (Migrates c.args.text.now) (sym c.unended.ensures) c.in-Ok.ensures.migrated, refl))
