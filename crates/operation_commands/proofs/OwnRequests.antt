-- What an operation comes to that is answered from the schema of a text.
use Rattle.std.proofs.Common.{◌≡◌, ◌≢◌, ◌∙◌, sym, inr, ℕ, List, Some, Result, Ok, Err, subst}
use Rattle.std.specs.Prelude.{IfOk, IfErr}
use Rattle.acceptance.specs.Requests.{RequestData}
use Rattle.cost_num.specs.declared.Cost.{Cost}
use Rattle.operation_class.specs.declared.classes.Class.{Class}
use Rattle.operation_class.specs.declared.classes.Class.TheVariants as class
use Rattle.operation_class.specs.Classes.{class_at}
use Rattle.operation_class.specs.Routes.{IsPicked}
use Rattle.command_outcomes.specs.PassedOn.{Facts, Mixed, Local, IsAnsweredWith, asked_at}
use Rattle.command_words.specs.declared.command.Asked.{Asked}
use Rattle.operation_commands.specs.declared.asked.AskedTexts.{AskedTexts}
use Rattle.operation_commands.specs.declared.asking.Inputs.{Inputs}
use Rattle.operation_commands.specs.declared.asking.AskedRefusal.TheVariants.{NoSchema, NotJson, BadVariables, NoOperation}
use Rattle.operation_commands.specs.declared.own_answers.OwnFault.{OwnFault}
use Rattle.operation_commands.specs.declared.own_answers.OwnFault.TheVariants.{Refused, Memory}
use Rattle.operation_commands.specs.declared.own_answers.OwnRefusal.TheVariants as refusal
use Rattle.operation_commands.specs.Asked.{HoldInputs, request_in}
use Rattle.command_outcomes.specs.Known.{AreKnownOf}
use Rattle.operation_commands.specs.OwnAnswers.{IsOwn, IsOwnCost, CostsAt, IsNotOwn, TellsLocal, IfOwnRefused}
use Rattle.operation_commands.specs.Price.{IsUnpricedAs, IsPriceRefusal}
use Rattle.operation_commands.specs.Introspect.{IsUnansweredOf, IsIntrospectRefusal}

module _ (text : List ℕ) (r : RequestData) (facts : Facts) (known : AreKnownOf text facts) (place : ℕ) where
  pub is_mixed : (at : ℕ) → IsPicked r.name r.document place (class.Mixed at) → IsNotOwn text r (refusal.NotAnswered (Mixed at))
  is_mixed at picked = ((λ e. cc e), (facts, known, (place, picked.0, (λ e. let f : ◌≡◌ {A = Class} (class.Mixed at) class.Upstream = sym picked.1 ∙ e in cc f), picked.1)))

  module _ (picked : IsPicked r.name r.document place class.Local) where
    not_upstream : class_at r.document place ≢ class.Upstream
    not_upstream e = let f : ◌≡◌ {A = Class} class.Local class.Upstream = sym picked.1 ∙ e in cc f

    pub answered_own : (result : Result Local OwnFault) → IfOk result (IsAnsweredWith (asked_at facts r place)) → IfOk result (λ answer. IsOwn text r (Some answer))
    answered_own (Ok answer) is = (facts, known, (place, picked.0, not_upstream, is))
    answered_own (Err fault) is = tt

    pub costs_own : (result : Result Cost OwnFault) → IfOk result (CostsAt (asked_at facts r place)) → IfOk result (λ cost. IsOwnCost text r (Some cost))
    costs_own (Ok cost) (answer, is, same) = (answer, (facts, known, (place, picked.0, not_upstream, is)), same)
    costs_own (Err fault) is = tt

    pub refused_own : {T : Type 0} (result : Result T OwnFault) → IfErr result (TellsLocal (asked_at facts r place)) → IfErr result (λ fault. IfOwnRefused fault (IsNotOwn text r))
    refused_own (Ok answer) told = tt
    refused_own (Err (Refused (refusal.Asked q))) told = absurd told
    refused_own (Err (Refused (refusal.NotAnswered fault))) told = (told.0, (facts, known, (place, picked.0, not_upstream, told.1)))
    refused_own (Err (Refused refusal.NotLocal)) told = absurd told
    refused_own (Err Memory) told = tt

-- ---- what a request comes to, its texts come to

module _ (asked : Asked) (texts : AskedTexts) (inputs : Inputs) (held : HoldInputs asked texts inputs) (r : RequestData) (same : r ≡ request_in asked inputs) where
  pub unpriced : (fault : OwnFault) → IfOwnRefused fault (IsUnpricedAs texts r) → IfOwnRefused fault (IsPriceRefusal asked texts)
  unpriced fault told = by_fault fault (subst (λ q. IfOwnRefused fault (IsUnpricedAs texts q)) same told)
    where
      by_fault : (fault : OwnFault) → IfOwnRefused fault (IsUnpricedAs texts (request_in asked inputs)) → IfOwnRefused fault (IsPriceRefusal asked texts)
      by_fault (Refused (refusal.Asked (NoSchema f))) told = absurd told
      by_fault (Refused (refusal.Asked NotJson)) told = absurd told
      by_fault (Refused (refusal.Asked BadVariables)) told = absurd told
      by_fault (Refused (refusal.Asked (NoOperation f))) told = inr (inputs, held, told.0, told.1)
      by_fault (Refused (refusal.NotAnswered f)) told = (inputs, held, told)
      by_fault (Refused refusal.NotLocal) told = absurd told
      by_fault Memory told = tt

  pub unanswered : (fault : OwnFault) → IfOwnRefused fault (IsUnansweredOf texts r) → IfOwnRefused fault (IsIntrospectRefusal asked texts)
  unanswered fault told = by_fault fault (subst (λ q. IfOwnRefused fault (IsUnansweredOf texts q)) same told)
    where
      by_fault : (fault : OwnFault) → IfOwnRefused fault (IsUnansweredOf texts (request_in asked inputs)) → IfOwnRefused fault (IsIntrospectRefusal asked texts)
      by_fault (Refused (refusal.Asked (NoSchema f))) told = absurd told
      by_fault (Refused (refusal.Asked NotJson)) told = absurd told
      by_fault (Refused (refusal.Asked BadVariables)) told = absurd told
      by_fault (Refused (refusal.Asked (NoOperation f))) told = inr (inputs, held, told)
      by_fault (Refused (refusal.NotAnswered f)) told = (inputs, held, told)
      by_fault (Refused refusal.NotLocal) told = (inputs, held, told)
      by_fault Memory told = tt
