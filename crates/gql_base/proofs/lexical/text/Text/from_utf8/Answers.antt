-- The bytes of a string are UTF-8.
use Rattle.std.proofs.Common.{ap, subst, IsUtf8}
use Rattle.std.proofs.lemmas.Str.{IsUtf8-string_bytes}
use Rattle.gql_base.proofs.lexical.text.Text.from_utf8.Goals as goal

pub returns-in-Ok-clause-utf8 : goal.returns-in-Ok-clause-utf8
returns-in-Ok-clause-utf8 c =
    subst IsUtf8 (ap (λ v. v.items) c.in-Ok.ensures.ok) (IsUtf8-string_bytes c.in-Ok.inner)
