use Rattle.std.proofs.Common.{inr, refl, sym, subst}
use Rattle.std.proofs.lemmas.Result.{IfOk-weaker}
use Rattle.acceptance.specs.Requests.{request_data}
use Rattle.operation_commands.specs.OwnAnswers.{IfOwnRefused}
use Rattle.operation_commands.specs.Price.{IsPriceRefusal}
use Rattle.operation_commands.specs.Audit.{IsVerdict, inputs_of}
use Rattle.operation_commands.proofs.OwnRequests.{unpriced}
use Rattle.operation_commands.proofs.Verdicts.{priced_alone, refused_alone}
use Rattle.operation_commands.proofs.auditing.verdict_of.Goals as goal

pub returns-in-Ok : goal.returns-in-Ok
returns-in-Ok c =
    record {
      verdict = priced_alone c.args.asked.now c.args.texts.now (inputs_of c.args.of.now c.args.document.now) (request_data c.request_alone-request.result) c.in-Ok.cost c.requires.held c.request_alone-request.ensures
          c.in-Ok.ensures.price c.in-Ok.ensures.types_within c.in-Ok.ensures.fields_within;
    }

pub returns-in-Err-Refused : goal.returns-in-Err-Refused
returns-in-Err-Refused c =
    let asked = c.args.asked.now in
    let texts = c.args.texts.now in
    let why = unpriced asked texts (inputs_of c.args.of.now c.args.document.now) c.requires.held (request_data c.request_alone-request.result) c.request_alone-request.ensures c.in-Err-Refused.field-0 c.in-Err-Refused.ensures.refused in
    record {
      verdict = IfOk-weaker c.refusal_of.result _ (λ v. IsVerdict asked texts v)
          (λ v told. refused_alone asked texts c.in-Err-Refused.refusal v (subst (λ f. IfOwnRefused f (IsPriceRefusal asked texts)) c.in-Err-Refused.field-0-is why) told) c.refusal_of.ensures;
    }

pub returns-in-Err-Memory : goal.returns-in-Err-Memory
returns-in-Err-Memory c =
    record {
      verdict = IfOk-weaker c.wanting_verdict.result _ (λ v. IsVerdict c.args.asked.now c.args.texts.now v)
          (λ v told. subst (IsVerdict c.args.asked.now c.args.texts.now) (sym told.1) (inr (told.0, refl))) c.wanting_verdict.ensures;
    }
