-- What the parser answers says what stands at the front.
use Rattle.std.proofs.Common.{inr, subst, arith, drop}
use Rattle.http_fields.proofs.Fronts.{fields_fit}
use Rattle.httparse.specs.Grammar.{ReadsRequest, HasNoRequest, MayBecomeRequest}
use Rattle.httparse.specs.Spans.{IsRequestAt, IsRequestOf, IsRequestWithin}
use Rattle.http_front.proofs.Fronts.{complete_at, partial_at}
use Rattle.http_front.proofs.head.find_head.Goals as goal

pub returns-in-Ok-Complete : goal.returns-in-Ok-Complete
returns-in-Ok-Complete c =
    let front = c.front_of.result.now in
    let headers = c.parse_request.new.headers in
    let spans = c.in-Ok-Complete.spans in
    let at = complete_at (IsRequestOf front headers) c.in-Ok-Complete.field-0 spans c.in-Ok-Complete.field-0-is c.in-Ok-Complete.ensures.complete in
    let within = complete_at (IsRequestWithin front headers) c.in-Ok-Complete.field-0 spans c.in-Ok-Complete.field-0-is c.in-Ok-Complete.ensures.within in record {
      within = subst (λ room. IsRequestWithin room headers spans) c.front_of.ensures within;
      head = at.0;
      at = subst (λ room. IsRequestAt room headers spans at.0) c.front_of.ensures at.1;
      begins = (
        _,
        subst (λ room. ReadsRequest room at.0 (drop spans.len front)) c.front_of.ensures at.1.reads,
        fields_fit front headers spans.headers at.0.fields at.1.fields (omega (arith, within.section.count_fits, c.parse_request.auto.headers, c.requires.room)),
      );
    }

pub returns-else-bytes-lt-HEAD_BYTES : goal.returns-else-bytes-lt-HEAD_BYTES
returns-else-bytes-lt-HEAD_BYTES c =
    let none = subst HasNoRequest c.front_of.ensures (partial_at (HasNoRequest c.front_of.result.now) c.in-Ok-Partial.field-0 c.in-Ok-Partial.field-0-is c.in-Ok-Partial.ensures.partial) in
    let may = subst MayBecomeRequest c.front_of.ensures (partial_at (MayBecomeRequest c.front_of.result.now) c.in-Ok-Partial.field-0 c.in-Ok-Partial.field-0-is c.in-Ok-Partial.ensures.unfinished) in
    (inr ((none, may), c.if-bytes-lt-HEAD_BYTES.false), ((λ e. cc e), (λ e. cc e)))
