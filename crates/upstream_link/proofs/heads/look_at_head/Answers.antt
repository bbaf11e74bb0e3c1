use Rattle.std.proofs.Common.{inr, subst, ap, length, drop, arith}
use Rattle.std.proofs.lemmas.List.{length-take}
use Rattle.http_fields.proofs.Fronts.{fields_fit}
use Rattle.httparse.specs.Grammar.{ReadsResponse, HasNoResponse}
use Rattle.httparse.specs.Spans.{IsResponseOf, IsResponseWithin}
use Rattle.upstream_link.proofs.Fronts.{partial_at, complete_at}
use Rattle.upstream_link.proofs.heads.look_at_head.Goals as goal

pub returns-in-Ok-Complete-clause-within : goal.returns-in-Ok-Complete-clause-within
returns-in-Ok-Complete-clause-within c =
    let within = complete_at (IsResponseWithin c.room_of-front.result.now c.parse_response.new.headers) c.in-Ok-Complete.field-0 c.in-Ok-Complete.spans c.in-Ok-Complete.field-0-is c.in-Ok-Complete.ensures.within in
    omega (arith, within.section.len_fits, ap length c.room_of-front.ensures, length-take 16384 c.args.bytes.now)

pub returns-else-bytes-lt-ROOM-clause-exact : goal.returns-else-bytes-lt-ROOM-clause-exact
returns-else-bytes-lt-ROOM-clause-exact c =
    inr (inr (subst HasNoResponse c.room_of-front.ensures (partial_at (HasNoResponse c.room_of-front.result.now) c.in-Ok-Partial.field-0 c.in-Ok-Partial.field-0-is c.in-Ok-Partial.ensures.partial), c.if-bytes-lt-ROOM.false))

pub returns-in-Ok-Complete-clause-exact : goal.returns-in-Ok-Complete-clause-exact
returns-in-Ok-Complete-clause-exact c =
    let front = c.room_of-front.result.now in
    let at = complete_at (IsResponseOf front c.parse_response.new.headers) c.in-Ok-Complete.field-0 c.in-Ok-Complete.spans c.in-Ok-Complete.field-0-is c.in-Ok-Complete.ensures.complete in
    let within = complete_at (IsResponseWithin front c.parse_response.new.headers) c.in-Ok-Complete.field-0 c.in-Ok-Complete.spans c.in-Ok-Complete.field-0-is c.in-Ok-Complete.ensures.within in record {
      h = at.0;
      has = (
        _,
        subst (λ room. ReadsResponse room at.0 (drop c.in-Ok-Complete.spans.len front)) c.room_of-front.ensures at.1.reads,
        fields_fit front c.parse_response.new.headers c.in-Ok-Complete.spans.headers at.0.fields at.1.fields (omega (arith, within.section.count_fits, c.parse_response.auto.headers)),
      );
      len_is = at.1.len;
      code_is = at.1.code;
      framing_is = c.framing_at.ensures at.0 at.1;
    }
