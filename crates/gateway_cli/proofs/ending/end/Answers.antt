-- The doors were made for what the words came to, so for the words.
use Rattle.std.proofs.Common.{inl, option_map, string_bytes}
use Rattle.gateway_cli.proofs.Entered.{entered}
use Rattle.gateway_cli.proofs.ending.end.Goals as goal

pub end_run-requires-clause-such : goal.end_run-requires-clause-such
end_run-requires-clause-such g c κs within =
    let doors = c.in-Ok-doors_for.doors in (
      entered c.args.words.now c.command_of-command.result doors.waiting (option_map string_bytes doors.stop_file) c.command_of-command.ensures.asked c.command_of-command.ensures.usage c.in-Ok-doors_for.ensures.entered,
      c.in-Ok-doors_for.ensures.patience,
    )

pub returns-in-Ok-doors_for-clause-ends : goal.returns-in-Ok-doors_for-clause-ends
returns-in-Ok-doors_for-clause-ends g c =
    let doors = c.in-Ok-doors_for.doors in
    inl (record {
      doors_before = doors;
      doors_now = c.end_run.new.doors;
      such = (
        entered c.args.words.now c.command_of-command.result doors.waiting (option_map string_bytes doors.stop_file) c.command_of-command.ensures.asked c.command_of-command.ensures.usage c.in-Ok-doors_for.ensures.entered,
        c.in-Ok-doors_for.ensures.patience,
      );
      idle = c.in-Ok-doors_for.ensures.new.1;
      files_before = c.new-files.result;
      files_now = c.end_run.new.files;
      disks_before = c.new-disks.result;
      disks_now = c.end_run.new.disks;
      runs = c.end_run.ensures.ran;
    })
