-- The test of std says whether the texts in lower case are equal.
use Rattle.std.proofs.Common.{map}
use Rattle.std.specs.Char.{to_ascii_lowercase}
use Rattle.http_fields.specs.Fields.{same_in_any_case}
use Rattle.http_fields.proofs.Cases.{decided}
use Rattle.http_fields.proofs.values.is_same.Goals as goal

pub returns : goal.returns
unfolding same_in_any_case
returns c =
    decided c.eq_ignore_ascii_case.result (map to_ascii_lowercase c.args.a.now) (map to_ascii_lowercase c.args.b.now) c.eq_ignore_ascii_case.ensures.test
