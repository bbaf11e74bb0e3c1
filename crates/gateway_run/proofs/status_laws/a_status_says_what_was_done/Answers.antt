-- By cases on the outcome.
use Rattle.std.proofs.Common.{arith}
use Rattle.gateway_run.proofs.Statuses.{known, usage, other_words, file_failed, stream_failed, done, refused, faulty, disk_failed, door_failed, no_memory}
use Rattle.gateway_run.proofs.ReadFiles.{all_read}
use Rattle.gateway_run.proofs.status_laws.a_status_says_what_was_done.Goals as goal

pub returns-clause-known : goal.returns-clause-known
returns-clause-known c status words files outside out err runs = known words files outside status out err runs.0 runs.1 runs.2

pub returns-clause-usage : goal.returns-clause-usage
returns-clause-usage c words files outside out err runs = usage words files outside out err runs.0 runs.1 runs.2

pub returns-clause-other_words : goal.returns-clause-other_words
returns-clause-other_words c status words files outside out err runs none = other_words words files outside status out err runs.0 none runs.1 runs.2

pub returns-clause-file_failed : goal.returns-clause-file_failed
returns-clause-file_failed c words files outside out err runs = file_failed words files outside out err runs.0 runs.1 runs.2

pub returns-clause-stream_failed : goal.returns-clause-stream_failed
returns-clause-stream_failed c words files outside out err runs = stream_failed words files outside out err runs.0 runs.1 runs.2

pub returns-clause-done : goal.returns-clause-done
returns-clause-done c words files outside out err runs = done words files outside out err runs.0 runs.1 runs.2

pub returns-clause-refused : goal.returns-clause-refused
returns-clause-refused c words files outside out err runs = refused words files outside out err runs.0 runs.1 runs.2

pub returns-clause-faulty : goal.returns-clause-faulty
returns-clause-faulty c status large small words files outside out err runs = faulty words files outside status out err runs.0 large (λ same. omega (arith, small, same)) runs.1 runs.2

pub returns-clause-disk_failed : goal.returns-clause-disk_failed
returns-clause-disk_failed c words files outside out err runs = disk_failed words files outside out err runs.0 runs.1 runs.2

pub returns-clause-no_memory : goal.returns-clause-no_memory
returns-clause-no_memory c words files outside out err runs = no_memory words files outside out err runs.0 runs.1 runs.2

pub returns-clause-door_failed : goal.returns-clause-door_failed
returns-clause-door_failed c words files outside out err runs = door_failed words files outside out err runs.0 runs.1 runs.2

pub returns-clause-all_read : goal.returns-clause-all_read
returns-clause-all_read c status other words files outside out err runs = all_read words files outside status out err runs.0 other runs.1 runs.2
