-- Byte by byte.
use Rattle.upstream_link.proofs.TrailerLines.{trailer_found, trailer_only}
use Rattle.upstream_link.proofs.laws.a_trailer_is_lines.Goals as goal

pub returns-clause-found : goal.returns-clause-found
returns-clause-found c = trailer_found

pub returns-clause-only : goal.returns-clause-only
returns-clause-only c = trailer_only
