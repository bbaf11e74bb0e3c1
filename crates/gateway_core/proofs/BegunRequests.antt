-- How a request begins, by what was promised and reserved.
use Rattle.std.proofs.Common.{◌≡◌, inl, inr, ℕ, List, Some, refl, sym, subst}
use Rattle.gateway_core.specs.declared.beginning.Begun.{Begun}
use Rattle.gateway_core.specs.declared.beginning.Begun.TheVariants.{Granted, Answered, Denied}
use Rattle.gateway_core.specs.declared.beginning.Denial.TheVariants.{UnknownKey, Unexpanded, BadBody, Refused, NotLocal, Short, Full, Work, Memory}
use Rattle.gateway_core.specs.declared.promise.Promise.{Promise}
use Rattle.gateway_core.specs.Rules.{Rules, client_of}
use Rattle.local_introspection.specs.declared.walk.Local.{Local}
use Rattle.gateway_core.specs.Requests.{IsPricedAt, IsPromisedFor, IsAnsweredFor}
use Rattle.gateway_core.specs.Begins.{IsBegun, IsReserved, IsPaid}

-- what is promised is affordable
pub priced : (rules : Rules) (body : List ℕ) (promise : Promise) → IsPromisedFor rules body promise → IsPricedAt rules body promise.bound
priced rules body promise (asked, is_request, (document, is_document, (goes, promised))) =
    let accepted = promised.is_accepted in
    (asked, is_request, (document, is_document, (goes, (accepted.is_planned.prepared, accepted.is_planned.well, accepted.has_bound))))

pub begun_by : (rules : Rules) (key body : List ℕ) (client made : ℕ) (promise : Promise) (begun : Begun) → client_of rules key ≡ Some client → IsPromisedFor rules body promise
    → IsReserved promise client made begun → IsBegun rules key body client made begun
begun_by rules key body client made promise (Granted g) known promised reserved = record {
  known = known;
  promised = subst (IsPromisedFor rules body) (sym reserved.0) promised;
  to_client = reserved.1;
  numbered = reserved.2;
}
begun_by rules key body client made promise (Answered a) known promised reserved = absurd reserved
begun_by rules key body client made promise (Denied UnknownKey) known promised reserved = absurd reserved
begun_by rules key body client made promise (Denied (Unexpanded fault)) known promised reserved = absurd reserved
begun_by rules key body client made promise (Denied (BadBody fault)) known promised reserved = absurd reserved
begun_by rules key body client made promise (Denied (Refused refusal)) known promised reserved = absurd reserved
begun_by rules key body client made promise (Denied (NotLocal fault)) known promised reserved = absurd reserved
begun_by rules key body client made promise (Denied (Short left bound)) known promised reserved = (known, inl (subst (IsPricedAt rules body) (sym reserved) (priced rules body promise promised)))
begun_by rules key body client made promise (Denied Full) known promised reserved = (known, (promise.bound, inl (priced rules body promise promised)))
begun_by rules key body client made promise (Denied Work) known promised reserved = absurd reserved
begun_by rules key body client made promise (Denied Memory) known promised reserved = absurd reserved

-- how it begins by what was answered and paid
pub begun_with : (rules : Rules) (key body : List ℕ) (client made : ℕ) (answer : Local) (begun : Begun) → client_of rules key ≡ Some client → IsAnsweredFor rules body answer
    → IsPaid answer made begun → IsBegun rules key body client made begun
begun_with rules key body client made answer (Granted g) known answered paid = absurd paid
begun_with rules key body client made answer (Answered a) known answered paid = record {
  known = known;
  answer = answer;
  answered = answered;
  finished = paid.0;
  numbered = paid.1;
}
begun_with rules key body client made answer (Denied UnknownKey) known answered paid = absurd paid
begun_with rules key body client made answer (Denied (Unexpanded fault)) known answered paid = absurd paid
begun_with rules key body client made answer (Denied (BadBody fault)) known answered paid = absurd paid
begun_with rules key body client made answer (Denied (Refused refusal)) known answered paid = absurd paid
begun_with rules key body client made answer (Denied (NotLocal fault)) known answered paid = absurd paid
begun_with rules key body client made answer (Denied (Short left bound)) known answered paid = (known, inr (answer, answered, sym paid))
begun_with rules key body client made answer (Denied Full) known answered paid = (known, (answer.cost, inr (answer, answered, refl)))
begun_with rules key body client made answer (Denied Work) known answered paid = absurd paid
begun_with rules key body client made answer (Denied Memory) known answered paid = absurd paid
