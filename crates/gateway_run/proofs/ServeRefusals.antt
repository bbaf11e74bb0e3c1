-- What is refused of the texts by which a gateway is served.
use Rattle.std.proofs.Common.{ℕ}
use Rattle.account_commands.specs.RuleFiles.{HoldsSchema, HoldsClients}
use Rattle.gateway_run.specs.declared.serve_inputs.ServeTexts.{ServeTexts}
use Rattle.gateway_run.specs.declared.serve_inputs.ServeRefusal.TheVariants.{NoRules, NoList}
use Rattle.gateway_run.specs.declared.serve_inputs.InputsFault.{InputsFault}
use Rattle.gateway_run.specs.declared.serve_inputs.InputsFault.TheVariants.{Refused, Memory}
use Rattle.gateway_run.specs.ServeFiles.{IsServeRefusal, IfServeRefused, HaveNoRulesIn, IsNoList}

pub no_rules : (texts : ServeTexts) (undeclared : ℕ) (fault : InputsFault) → IfServeRefused fault (HaveNoRulesIn texts.rules undeclared) → IfServeRefused fault (IsServeRefusal texts undeclared)
no_rules texts undeclared (Refused (NoRules refusal)) none = none
no_rules texts undeclared (Refused (NoList fault)) none = absurd none
no_rules texts undeclared Memory none = tt

pub no_list : (texts : ServeTexts) (undeclared : ℕ) (fault : InputsFault) → HoldsSchema texts.rules undeclared → HoldsClients texts.rules → IfServeRefused fault (IsNoList texts.list) → IfServeRefused fault (IsServeRefusal texts undeclared)
no_list texts undeclared (Refused (NoRules refusal)) schema clients none = absurd none
no_list texts undeclared (Refused (NoList fault)) schema clients none = (schema, clients, none)
no_list texts undeclared Memory schema clients none = tt
