-- A request has one verdict.
use Rattle.std.proofs.Common.{◌≡◌, ◌≤◌, ◌<◌, ◌⊎◌, inl, inr, ◌∙◌, ℕ, List, Bool, true, false, Option, None, Some, Result, Ok, Err, refl, sym, ap, ap₂, subst, arith}
use Rattle.std.specs.Prelude.{◌↔◌, IsTrue}
use Rattle.std.proofs.lemmas.Option.{same_Some}
use Rattle.cost_num.specs.declared.Cost.{Cost}
use Rattle.cost_num.proofs.Costs.{cost_eq}
use Rattle.response_model.specs.Cost.{Part, types, fields}
use Rattle.document_reader.specs.declared.trees.Operation.{Operation}
use Rattle.document_reader.specs.declared.picking.PickFault.{PickFault}
use Rattle.document_reader.specs.Picking.{picked}
use Rattle.document_rules.specs.declared.rule.Rule.{Rule as RuleName}
use Rattle.document_rules.specs.declared.rule.RuleFault.{RuleFault}
use Rattle.document_rules.specs.declared.rule.RuleFault.TheVariants.{Broken, Memory as NoRuleMemory}
use Rattle.document_rules.specs.Parts.{operation_at}
use Rattle.document_rules.specs.Sites.{type_of_kind}
use Rattle.document_rules.specs.Checking.{Breach, first_broken}
use Rattle.variable_coercion.specs.declared.faults.CoerceFault.{CoerceFault}
use Rattle.variable_coercion.specs.declared.faults.CoerceFault.TheVariants.{Missing, BadValue, TooLarge as LargeValue, Memory as NoVariableMemory}
use Rattle.variable_coercion.specs.declared.faults.ArgFault.{ArgFault}
use Rattle.variable_coercion.specs.declared.faults.ArgFault.TheVariants.{Missing as MissingArgument, BadValue as BadArgument, TooLarge as LargeArgument, Memory as NoArgumentMemory}
use Rattle.variable_coercion.specs.Refusals.{Refusal as Unvalued, missing, bad_value, too_large as too_large_value}
use Rattle.variable_coercion.specs.Variables.{VariableData, values_by_name, variables_answer}
use Rattle.variable_coercion.specs.Calls.{variable_told, argument_told}
use Rattle.cost_directives.specs.declared.sizes.SizeFault.{SizeFault}
use Rattle.merged_selections.specs.declared.fault.PlanFault.{PlanFault}
use Rattle.merged_selections.specs.declared.fault.PlanFault.TheVariants.{Argument, Conflict, Size, NoPossibleType, TooLarge, TooDeep, Memory as NoPlanMemory}
use Rattle.merged_selections.specs.Faults.{path_text, IsFaultAt, IsTold}
use Rattle.plan_model.specs.SelectedFields.{Setting}
use Rattle.plan_model.specs.Visits.{NodeFault, too_deep, conflict, refused_argument, refused_size, no_possible_type, PlanAnswer, planned_well, faulty, too_large}
use Rattle.plan_model.specs.Operations.{setting_of, operation_answer, root_place, root_position, IsOperationBound}
use Rattle.static_cost.specs.PassedOn.{Plan}
use Rattle.static_cost.specs.declared.too_costly.TooCostly.{TooCostly}
use Rattle.acceptance.specs.declared.fault.Refusal.{Refusal}
use Rattle.acceptance.specs.declared.fault.Refusal.TheVariants.{Document, Pick, Rule, Variable, Plan as NoPlan, Bound}
use Rattle.acceptance.specs.Requests.{RequestData, AsksFor, AreValues, Prepared, setting, plan_answer}
use Rattle.acceptance.specs.Bounds.{IsBoundFor, ExceedsCap, NamesExceeding, HasBound, IsAffordable, IsAccepted}
use Rattle.cost_num.specs.declared.TheConstants.{CAP}
use Rattle.response_model.specs.Response.{Tree}
use Rattle.plan_model.specs.Responses.{IsResponseTo, response_cost}
use Rattle.acceptance.specs.Refusals.{NamesBreach, NamesVariable, NamesNode, IsRefusedFor}

-- ---- what is asked for, and what is planned

ok_differs : {A E : Type 0} (x : A) (e : E) (result : Result A E) → result ≡ Ok x → result ≡ Err e → ⊥
ok_differs x e result ok err = differ x e (sym ok ∙ err)
  where
    differ : {A E : Type 0} (x : A) (e : E) → ◌≡◌ {A = Result A E} (Ok x) (Err e) → ⊥
    differ x e same = cc

same_ok : {A E : Type 0} (x y : A) (result : Result A E) → result ≡ Ok x → result ≡ Ok y → x ≡ y
same_ok {A} {E} x y result is other = of_ok x y (sym is ∙ other)
  where
    of_ok : {A E : Type 0} (x y : A) → ◌≡◌ {A = Result A E} (Ok x) (Ok y) → x ≡ y
    of_ok x y same = cc

same_err : {A E : Type 0} (x y : E) (result : Result A E) → result ≡ Err x → result ≡ Err y → x ≡ y
same_err {A} {E} x y result is other = of_err x y (sym is ∙ other)
  where
    of_err : {A E : Type 0} (x y : E) → ◌≡◌ {A = Result A E} (Err x) (Err y) → x ≡ y
    of_err x y same = cc

none_some : {A : Type 0} (x : A) (o : Option A) → o ≡ None → o ≡ Some x → ⊥
none_some x o none some = differ x (sym none ∙ some)
  where
    differ : {A : Type 0} (x : A) → ◌≡◌ {A = Option A} None (Some x) → ⊥
    differ x same = cc

pub same_operation : (r : RequestData) (o p : Operation) → AsksFor r o → AsksFor r p → o ≡ p
same_operation r o p a b =
    let place = same_ok a.0 b.0 (picked r.name r.document) a.1 b.1 in
    same_Some o p (sym a.2 ∙ (ap (operation_at r.document) place ∙ b.2))

no_pick : (r : RequestData) (o : Operation) (fault : PickFault) → picked r.name r.document ≡ Err fault → AsksFor r o → ⊥
no_pick r o fault none asks = ok_differs asks.0 fault (picked r.name r.document) asks.1 none

-- a property of operation, root and values that holds of one holds of the other
pub moved : (r : RequestData) (P : Operation → ℕ → List VariableData → Type 0) (p q : Prepared r) → P p.operation p.root p.values → P q.operation q.root q.values
moved r P p q holds =
    let same = same_operation r p.operation q.operation p.keeps.0 q.keeps.0 in
    let root = same_Some p.root q.root (sym (subst (λ (o : Operation). type_of_kind r.schema o.kind ≡ Some p.root) same p.on_root) ∙ q.on_root) in
    let values = same_ok p.values q.values (variables_answer r.schema q.operation.variables.items r.given) (subst (λ o. AreValues r o p.values) same p.are_values) q.are_values in
    subst (λ o. P o q.root q.values) same (subst (λ root. P p.operation root q.values) root (subst (λ values. P p.operation p.root values) values holds))

-- ---- faults of each stage

same_breach : (fault other : RuleFault) (first : Option Breach) → NamesBreach fault first → NamesBreach other first → fault ≡ other
same_breach (Broken rule at) (Broken name place) first a b = of_some rule name at place (sym a ∙ b)
  where
    of_some : (rule name : RuleName) (at place : ℕ) → ◌≡◌ {A = Option Breach} (Some (rule, at)) (Some (name, place)) → Broken rule at ≡ Broken name place
    of_some rule name at place same = let pair = same_Some (rule, at) (name, place) same in ap₂ Broken (ap (λ x. x.0) pair) (ap (λ x. x.1) pair)
same_breach (Broken rule at) NoRuleMemory first a b = absurd b
same_breach NoRuleMemory other first a b = absurd a

no_breach : (fault : RuleFault) (first : Option Breach) → first ≡ None → NamesBreach fault first → ⊥
no_breach (Broken rule at) first none some = none_some (rule, at) first none some
no_breach NoRuleMemory first none some = some

same_told : (fault other : CoerceFault) (refusal : Unvalued) → variable_told fault ≡ Some refusal → variable_told other ≡ Some refusal → fault ≡ other
same_told (Missing x) (Missing y) refusal a b = cc
same_told (Missing x) (BadValue y) refusal a b = absurd (cc)
same_told (Missing x) (LargeValue y) refusal a b = absurd (cc)
same_told (Missing x) NoVariableMemory refusal a b = absurd (cc)
same_told (BadValue x) (Missing y) refusal a b = absurd (cc)
same_told (BadValue x) (BadValue y) refusal a b = cc
same_told (BadValue x) (LargeValue y) refusal a b = absurd (cc)
same_told (BadValue x) NoVariableMemory refusal a b = absurd (cc)
same_told (LargeValue x) (Missing y) refusal a b = absurd (cc)
same_told (LargeValue x) (BadValue y) refusal a b = absurd (cc)
same_told (LargeValue x) (LargeValue y) refusal a b = cc
same_told (LargeValue x) NoVariableMemory refusal a b = absurd (cc)
same_told NoVariableMemory (Missing y) refusal a b = absurd (cc)
same_told NoVariableMemory (BadValue y) refusal a b = absurd (cc)
same_told NoVariableMemory (LargeValue y) refusal a b = absurd (cc)
same_told NoVariableMemory NoVariableMemory refusal a b = absurd (cc)

same_variable : (fault other : CoerceFault) (answer : Result (List VariableData) Unvalued) → NamesVariable fault answer → NamesVariable other answer → fault ≡ other
same_variable fault other answer a b = same_told fault other a.0 a.1 (subst (λ refusal. variable_told other ≡ Some refusal) (sym (same_err a.0 b.0 answer a.2 b.2)) b.1)

-- ---- faults of plans

same_faulty : (path step : List (List ℕ)) (fault why : NodeFault) → ◌≡◌ {A = PlanAnswer} (faulty (path, fault)) (faulty (step, why)) → (path ≡ step) × (fault ≡ why)
same_faulty path step fault why same = let pair = of_faulty path step fault why same in (ap (λ x. x.0) pair, ap (λ x. x.1) pair)
  where
    of_faulty : (path step : List (List ℕ)) (fault why : NodeFault) → ◌≡◌ {A = PlanAnswer} (faulty (path, fault)) (faulty (step, why)) → ◌≡◌ {A = List (List ℕ) × NodeFault} (path, fault) (step, why)
    of_faulty path step fault why same = cc

same_at : (answer : PlanAnswer) (at place : List ℕ) (fault why : NodeFault) → IsFaultAt answer at fault → IsFaultAt answer place why → (at ≡ place) × (fault ≡ why)
same_at answer at place fault why a b =
    let same = same_faulty a.0 b.0 fault why (sym a.2 ∙ b.2) in (a.1 ∙ (ap path_text same.0 ∙ sym b.1), same.1)

not_large : (answer : PlanAnswer) (at : List ℕ) (fault : NodeFault) → IsFaultAt answer at fault → answer ≡ too_large → ⊥
not_large answer at fault a large = differ a.0 fault (sym a.2 ∙ large)
  where
    differ : (path : List (List ℕ)) (fault : NodeFault) → faulty (path, fault) ≡ too_large → ⊥
    differ path fault same = cc

not_well : (answer : PlanAnswer) (at : List ℕ) (fault : NodeFault) → answer ≡ planned_well → IsFaultAt answer at fault → ⊥
not_well answer at fault well a = differ a.0 fault (sym a.2 ∙ well)
  where
    differ : (path : List (List ℕ)) (fault : NodeFault) → faulty (path, fault) ≡ planned_well → ⊥
    differ path fault same = cc

argument_at : (answer : PlanAnswer) (at : List ℕ) (fault : ArgFault) → IsTold answer (Argument at fault) → (refusal : Unvalued) × (argument_told fault ≡ Some refusal) × IsFaultAt answer at (refused_argument refusal)
argument_at answer at (MissingArgument x) told = (missing x, refl, told)
argument_at answer at (BadArgument x) told = (bad_value x, refl, told)
argument_at answer at (LargeArgument x) told = (too_large_value x, refl, told)
argument_at answer at NoArgumentMemory told = absurd told

same_argument : (fault other : ArgFault) (refusal : Unvalued) → argument_told fault ≡ Some refusal → argument_told other ≡ Some refusal → fault ≡ other
same_argument (MissingArgument x) (MissingArgument y) refusal a b = cc
same_argument (MissingArgument x) (BadArgument y) refusal a b = absurd (cc)
same_argument (MissingArgument x) (LargeArgument y) refusal a b = absurd (cc)
same_argument (MissingArgument x) NoArgumentMemory refusal a b = absurd (cc)
same_argument (BadArgument x) (MissingArgument y) refusal a b = absurd (cc)
same_argument (BadArgument x) (BadArgument y) refusal a b = cc
same_argument (BadArgument x) (LargeArgument y) refusal a b = absurd (cc)
same_argument (BadArgument x) NoArgumentMemory refusal a b = absurd (cc)
same_argument (LargeArgument x) (MissingArgument y) refusal a b = absurd (cc)
same_argument (LargeArgument x) (BadArgument y) refusal a b = absurd (cc)
same_argument (LargeArgument x) (LargeArgument y) refusal a b = cc
same_argument (LargeArgument x) NoArgumentMemory refusal a b = absurd (cc)
same_argument NoArgumentMemory (MissingArgument y) refusal a b = absurd (cc)
same_argument NoArgumentMemory (BadArgument y) refusal a b = absurd (cc)
same_argument NoArgumentMemory (LargeArgument y) refusal a b = absurd (cc)
same_argument NoArgumentMemory NoArgumentMemory refusal a b = absurd (cc)

of_refusal : (a b : Unvalued) → refused_argument a ≡ refused_argument b → a ≡ b
of_refusal a b same = cc

apart_Argument_Conflict : (a : Unvalued) → refused_argument a ≡ conflict → ⊥
apart_Argument_Conflict a same = cc

apart_Argument_Size : (a : Unvalued) (b : SizeFault) → refused_argument a ≡ refused_size b → ⊥
apart_Argument_Size a b same = cc

apart_Argument_NoPossibleType : (a : Unvalued) → refused_argument a ≡ no_possible_type → ⊥
apart_Argument_NoPossibleType a same = cc

apart_Argument_TooDeep : (a : Unvalued) → refused_argument a ≡ too_deep → ⊥
apart_Argument_TooDeep a same = cc

apart_Conflict_Argument : (b : Unvalued) → conflict ≡ refused_argument b → ⊥
apart_Conflict_Argument b same = cc

apart_Conflict_Size : (b : SizeFault) → conflict ≡ refused_size b → ⊥
apart_Conflict_Size b same = cc

apart_Conflict_NoPossibleType : conflict ≡ no_possible_type → ⊥
apart_Conflict_NoPossibleType same = cc

apart_Conflict_TooDeep : conflict ≡ too_deep → ⊥
apart_Conflict_TooDeep same = cc

apart_Size_Argument : (a : SizeFault) (b : Unvalued) → refused_size a ≡ refused_argument b → ⊥
apart_Size_Argument a b same = cc

apart_Size_Conflict : (a : SizeFault) → refused_size a ≡ conflict → ⊥
apart_Size_Conflict a same = cc

apart_Size_NoPossibleType : (a : SizeFault) → refused_size a ≡ no_possible_type → ⊥
apart_Size_NoPossibleType a same = cc

apart_Size_TooDeep : (a : SizeFault) → refused_size a ≡ too_deep → ⊥
apart_Size_TooDeep a same = cc

apart_NoPossibleType_Argument : (b : Unvalued) → no_possible_type ≡ refused_argument b → ⊥
apart_NoPossibleType_Argument b same = cc

apart_NoPossibleType_Conflict : no_possible_type ≡ conflict → ⊥
apart_NoPossibleType_Conflict same = cc

apart_NoPossibleType_Size : (b : SizeFault) → no_possible_type ≡ refused_size b → ⊥
apart_NoPossibleType_Size b same = cc

apart_NoPossibleType_TooDeep : no_possible_type ≡ too_deep → ⊥
apart_NoPossibleType_TooDeep same = cc

apart_TooDeep_Argument : (b : Unvalued) → too_deep ≡ refused_argument b → ⊥
apart_TooDeep_Argument b same = cc

apart_TooDeep_Conflict : too_deep ≡ conflict → ⊥
apart_TooDeep_Conflict same = cc

apart_TooDeep_Size : (b : SizeFault) → too_deep ≡ refused_size b → ⊥
apart_TooDeep_Size b same = cc

apart_TooDeep_NoPossibleType : too_deep ≡ no_possible_type → ⊥
apart_TooDeep_NoPossibleType same = cc

of_size : (a b : SizeFault) → refused_size a ≡ refused_size b → a ≡ b
of_size a b same = cc

same_node : (fault other : PlanFault) (answer : PlanAnswer) → NamesNode fault answer → NamesNode other answer → fault ≡ other
same_node (Argument at a) (Argument place b) answer told named = let x = argument_at answer at a told.0 in let y = argument_at answer place b named.0 in let same = same_at answer at place (refused_argument x.0) (refused_argument y.0) x.2 y.2 in ap₂ Argument same.0 (same_argument a b x.0 x.1 (y.1 ∙ ap Some (sym (of_refusal x.0 y.0 same.1))))
same_node (Argument at a) (Conflict place) answer told named = let x = argument_at answer at a told.0 in let same = same_at answer at place (refused_argument x.0) conflict x.2 named.0 in absurd (apart_Argument_Conflict x.0 same.1)
same_node (Argument at a) (Size place b) answer told named = let x = argument_at answer at a told.0 in let same = same_at answer at place (refused_argument x.0) (refused_size b) x.2 named.0 in absurd (apart_Argument_Size x.0 b same.1)
same_node (Argument at a) (NoPossibleType place) answer told named = let x = argument_at answer at a told.0 in let same = same_at answer at place (refused_argument x.0) no_possible_type x.2 named.0 in absurd (apart_Argument_NoPossibleType x.0 same.1)
same_node (Argument at a) TooLarge answer told named = let x = argument_at answer at a told.0 in absurd (not_large answer at (refused_argument x.0) x.2 named.0)
same_node (Argument at a) (TooDeep place) answer told named = let x = argument_at answer at a told.0 in let same = same_at answer at place (refused_argument x.0) too_deep x.2 named.0 in absurd (apart_Argument_TooDeep x.0 same.1)
same_node (Argument at a) NoPlanMemory answer told named = absurd (named.1 refl)
same_node (Conflict at) (Argument place b) answer told named = let y = argument_at answer place b named.0 in let same = same_at answer at place conflict (refused_argument y.0) told.0 y.2 in absurd (apart_Conflict_Argument y.0 same.1)
same_node (Conflict at) (Conflict place) answer told named = let same = same_at answer at place conflict conflict told.0 named.0 in ap Conflict same.0
same_node (Conflict at) (Size place b) answer told named = let same = same_at answer at place conflict (refused_size b) told.0 named.0 in absurd (apart_Conflict_Size b same.1)
same_node (Conflict at) (NoPossibleType place) answer told named = let same = same_at answer at place conflict no_possible_type told.0 named.0 in absurd (apart_Conflict_NoPossibleType same.1)
same_node (Conflict at) TooLarge answer told named = absurd (not_large answer at conflict told.0 named.0)
same_node (Conflict at) (TooDeep place) answer told named = let same = same_at answer at place conflict too_deep told.0 named.0 in absurd (apart_Conflict_TooDeep same.1)
same_node (Conflict at) NoPlanMemory answer told named = absurd (named.1 refl)
same_node (Size at a) (Argument place b) answer told named = let y = argument_at answer place b named.0 in let same = same_at answer at place (refused_size a) (refused_argument y.0) told.0 y.2 in absurd (apart_Size_Argument a y.0 same.1)
same_node (Size at a) (Conflict place) answer told named = let same = same_at answer at place (refused_size a) conflict told.0 named.0 in absurd (apart_Size_Conflict a same.1)
same_node (Size at a) (Size place b) answer told named = let same = same_at answer at place (refused_size a) (refused_size b) told.0 named.0 in ap₂ Size same.0 (of_size a b same.1)
same_node (Size at a) (NoPossibleType place) answer told named = let same = same_at answer at place (refused_size a) no_possible_type told.0 named.0 in absurd (apart_Size_NoPossibleType a same.1)
same_node (Size at a) TooLarge answer told named = absurd (not_large answer at (refused_size a) told.0 named.0)
same_node (Size at a) (TooDeep place) answer told named = let same = same_at answer at place (refused_size a) too_deep told.0 named.0 in absurd (apart_Size_TooDeep a same.1)
same_node (Size at a) NoPlanMemory answer told named = absurd (named.1 refl)
same_node (NoPossibleType at) (Argument place b) answer told named = let y = argument_at answer place b named.0 in let same = same_at answer at place no_possible_type (refused_argument y.0) told.0 y.2 in absurd (apart_NoPossibleType_Argument y.0 same.1)
same_node (NoPossibleType at) (Conflict place) answer told named = let same = same_at answer at place no_possible_type conflict told.0 named.0 in absurd (apart_NoPossibleType_Conflict same.1)
same_node (NoPossibleType at) (Size place b) answer told named = let same = same_at answer at place no_possible_type (refused_size b) told.0 named.0 in absurd (apart_NoPossibleType_Size b same.1)
same_node (NoPossibleType at) (NoPossibleType place) answer told named = let same = same_at answer at place no_possible_type no_possible_type told.0 named.0 in ap NoPossibleType same.0
same_node (NoPossibleType at) TooLarge answer told named = absurd (not_large answer at no_possible_type told.0 named.0)
same_node (NoPossibleType at) (TooDeep place) answer told named = let same = same_at answer at place no_possible_type too_deep told.0 named.0 in absurd (apart_NoPossibleType_TooDeep same.1)
same_node (NoPossibleType at) NoPlanMemory answer told named = absurd (named.1 refl)
same_node TooLarge (Argument place b) answer told named = let x = argument_at answer place b named.0 in absurd (not_large answer place (refused_argument x.0) x.2 told.0)
same_node TooLarge (Conflict place) answer told named = absurd (not_large answer place conflict named.0 told.0)
same_node TooLarge (Size place b) answer told named = absurd (not_large answer place (refused_size b) named.0 told.0)
same_node TooLarge (NoPossibleType place) answer told named = absurd (not_large answer place no_possible_type named.0 told.0)
same_node TooLarge TooLarge answer told named = refl
same_node TooLarge (TooDeep place) answer told named = absurd (not_large answer place too_deep named.0 told.0)
same_node TooLarge NoPlanMemory answer told named = absurd (named.1 refl)
same_node (TooDeep at) (Argument place b) answer told named = let y = argument_at answer place b named.0 in let same = same_at answer at place too_deep (refused_argument y.0) told.0 y.2 in absurd (apart_TooDeep_Argument y.0 same.1)
same_node (TooDeep at) (Conflict place) answer told named = let same = same_at answer at place too_deep conflict told.0 named.0 in absurd (apart_TooDeep_Conflict same.1)
same_node (TooDeep at) (Size place b) answer told named = let same = same_at answer at place too_deep (refused_size b) told.0 named.0 in absurd (apart_TooDeep_Size b same.1)
same_node (TooDeep at) (NoPossibleType place) answer told named = let same = same_at answer at place too_deep no_possible_type told.0 named.0 in absurd (apart_TooDeep_NoPossibleType same.1)
same_node (TooDeep at) TooLarge answer told named = absurd (not_large answer at too_deep told.0 named.0)
same_node (TooDeep at) (TooDeep place) answer told named = let same = same_at answer at place too_deep too_deep told.0 named.0 in ap TooDeep same.0
same_node (TooDeep at) NoPlanMemory answer told named = absurd (named.1 refl)
same_node NoPlanMemory (Argument place b) answer told named = absurd (told.1 refl)
same_node NoPlanMemory (Conflict place) answer told named = absurd (told.1 refl)
same_node NoPlanMemory (Size place b) answer told named = absurd (told.1 refl)
same_node NoPlanMemory (NoPossibleType place) answer told named = absurd (told.1 refl)
same_node NoPlanMemory TooLarge answer told named = absurd (told.1 refl)
same_node NoPlanMemory (TooDeep place) answer told named = absurd (told.1 refl)
same_node NoPlanMemory NoPlanMemory answer told named = absurd (told.1 refl)

no_node_fault : (fault : PlanFault) (answer : PlanAnswer) → answer ≡ planned_well → NamesNode fault answer → ⊥
no_node_fault (Argument at a) answer well told = let x = argument_at answer at a told.0 in not_well answer at (refused_argument x.0) well x.2
no_node_fault (Conflict at) answer well told = not_well answer at conflict well told.0
no_node_fault (Size at a) answer well told = not_well answer at (refused_size a) well told.0
no_node_fault (NoPossibleType at) answer well told = not_well answer at no_possible_type well told.0
no_node_fault TooLarge answer well told = differ (sym well ∙ told.0)
  where
    differ : planned_well ≡ too_large → ⊥
    differ same = cc
no_node_fault (TooDeep at) answer well told = not_well answer at too_deep well told.0
no_node_fault NoPlanMemory answer well told = told.1 refl

-- ---- bounds

same_bool : (a b : Bool) {P : Type 0} → IsTrue a ↔ P → IsTrue b ↔ P → a ≡ b
same_bool true true f g = refl
same_bool false false f g = refl
same_bool true false f g = absurd (differ (g.1 (f.0 refl)))
  where
    differ : false ≡ true → ⊥
    differ same = cc
same_bool false true f g = absurd (differ (f.1 (g.0 refl)))
  where
    differ : false ≡ true → ⊥
    differ same = cc

same_costly : (a b : TooCostly) → a.types ≡ b.types → a.fields ≡ b.fields → a ≡ b
same_costly a b of_types of_fields = ap₂ (λ x y. record { types = x; fields = y }) of_types of_fields

-- a part of the cost that is too great is so for all that is planned of the request
same_exceeds : (r : RequestData) (part : Part) (p q : Prepared r) → ExceedsCap r p part → ExceedsCap r q part
same_exceeds r part p q = moved r (λ o root values.
    (t : Tree) × IsResponseTo (setting_of r.schema r.weights (values_by_name values) r.document o) (root_place root) (root_position root o) t
    × (CAP < response_cost (setting_of r.schema r.weights (values_by_name values) r.document o) part (root_place root) (root_position root o) t)) p q

same_parts : (r : RequestData) (p q : Prepared r) (a b : TooCostly) → NamesExceeding r p a → NamesExceeding r q b → a ≡ b
same_parts r p q a b named other =
    same_costly a b
    (same_bool a.types b.types named.of_types (both (other.of_types) (same_exceeds r types q p) (same_exceeds r types p q)))
    (same_bool a.fields b.fields named.of_fields (both (other.of_fields) (same_exceeds r fields q p) (same_exceeds r fields p q)))
  where
    both : {A B C : Type 0} → A ↔ B → (B → C) → (C → B) → A ↔ C
    both f there back = (λ x. there (f.0 x), λ x. f.1 (back x))

-- what is planned is answered alike
same_answer : (r : RequestData) (p q : Prepared r) → plan_answer r p ≡ plan_answer r q
same_answer r p q = moved r (λ o root values. plan_answer r p ≡ operation_answer (setting_of r.schema r.weights (values_by_name values) r.document o) root o) p q refl

one_bound_of : (e : Setting) (part : Part) (root : ℕ) (o : Operation) (a b : ℕ) → IsOperationBound e part root o a → IsOperationBound e part root o b → a ≡ b
one_bound_of e part root o a b is other =
    omega (arith, is.attained.2, other.attained.2, other.upper is.attained.0 is.attained.1, is.upper other.attained.0 other.attained.1)

same_bound : (r : RequestData) (part : Part) (p q : Prepared r) (a b : ℕ) → IsBoundFor r p part a → IsBoundFor r q part b → a ≡ b
same_bound r part p q a b is other =
    one_bound_of (setting r q) part q.root q.operation a b
    (moved r (λ o root values. IsOperationBound (setting_of r.schema r.weights (values_by_name values) r.document o) part root o a) p q is) other

pub is_affordable : (r : RequestData) (plan : Plan) (bound : Cost) → IsAccepted r plan bound → IsAffordable r bound
is_affordable r plan bound accepted = (accepted.is_planned.prepared, accepted.is_planned.well, accepted.has_bound)

pub one_affordable : (r : RequestData) (bound cost : Cost) → IsAffordable r bound → IsAffordable r cost → bound ≡ cost
one_affordable r bound cost a b =
    cost_eq bound cost
    (same_bound r types a.0 b.0 bound.types cost.types a.2.of_types b.2.of_types)
    (same_bound r fields a.0 b.0 bound.fields cost.fields a.2.of_fields b.2.of_fields)

pub one_bound : (r : RequestData) (plan other : Plan) (bound cost : Cost) → IsAccepted r plan bound → IsAccepted r other cost → bound ≡ cost
one_bound r plan other bound cost a b = one_affordable r bound cost (is_affordable r plan bound a) (is_affordable r other cost b)

-- ---- refusals

-- a refusal before what is planned
abbrev IsBefore : Refusal → Type 0
IsBefore (NoPlan fault) = ⊥
IsBefore (Bound fault) = ⊥
IsBefore other = Unit {0}

-- a request that is planned isn't refused before
before_plan : (r : RequestData) (p : Prepared r) (refusal : Refusal) → IsRefusedFor r refusal → IsBefore refusal → ⊥
before_plan r p (Document fault) refused before = refused
before_plan r p (Pick fault) refused before = no_pick r p.operation fault refused p.keeps.0
before_plan r p (Rule fault) refused before =
    no_breach fault (first_broken r.schema r.document p.operation) p.keeps.1 (subst (λ o. NamesBreach fault (first_broken r.schema r.document o)) (same_operation r refused.0 p.operation refused.1 p.keeps.0) refused.2)
before_plan r p (Variable fault) refused before =
    let same = same_operation r refused.0 p.operation refused.1.0 p.keeps.0 in
    let named = subst (λ o. NamesVariable fault (variables_answer r.schema o.variables.items r.given)) same refused.2 in
    ok_differs p.values named.0 (variables_answer r.schema p.operation.variables.items r.given) p.are_values named.2
before_plan r p (NoPlan fault) refused before = before
before_plan r p (Bound fault) refused before = before

exceeded : (r : RequestData) (p q : Prepared r) (part : Part) (n : ℕ) → IsBoundFor r p part n → n ≤ CAP → ExceedsCap r q part → ⊥
exceeded r p q part n bound within exceeds =
    let there = same_exceeds r part q p exceeds in omega (arith, bound.upper there.0 there.1, there.2, within)

some_exceeds : (r : RequestData) (p q : Prepared r) (fault : TooCostly) (bound : Cost) → HasBound r p bound → NamesExceeding r q fault → IsTrue fault.types ⊎ IsTrue fault.fields → ⊥
some_exceeds r p q fault bound has named (inl of_types) = exceeded r p q types bound.types has.of_types has.types_within (named.of_types.0 of_types)
some_exceeds r p q fault bound has named (inr of_fields) = exceeded r p q fields bound.fields has.of_fields has.fields_within (named.of_fields.0 of_fields)

pub affordable_or_refused : (r : RequestData) (bound : Cost) (refusal : Refusal) → IsAffordable r bound → IsRefusedFor r refusal → ⊥
affordable_or_refused r bound (Document fault) a refused = refused
affordable_or_refused r bound (Pick fault) a refused = before_plan r a.0 (Pick fault) refused tt
affordable_or_refused r bound (Rule fault) a refused = before_plan r a.0 (Rule fault) refused tt
affordable_or_refused r bound (Variable fault) a refused = before_plan r a.0 (Variable fault) refused tt
affordable_or_refused r bound (NoPlan fault) a refused = no_node_fault fault (plan_answer r refused.0) (same_answer r refused.0 a.0 ∙ a.1) refused.1
affordable_or_refused r bound (Bound fault) a refused = some_exceeds r a.0 refused.0 fault bound a.2 refused.2 refused.2.some

pub not_both : (r : RequestData) (plan : Plan) (bound : Cost) (refusal : Refusal) → IsAccepted r plan bound → IsRefusedFor r refusal → ⊥
not_both r plan bound refusal accepted = affordable_or_refused r bound refusal (is_affordable r plan bound accepted)

pub one_refusal : (r : RequestData) (refusal other : Refusal) → IsRefusedFor r refusal → IsRefusedFor r other → refusal ≡ other
one_refusal r (Document f) (Document g) a b = absurd a
one_refusal r (Document f) (Pick g) a b = absurd a
one_refusal r (Document f) (Rule g) a b = absurd a
one_refusal r (Document f) (Variable g) a b = absurd a
one_refusal r (Document f) (NoPlan g) a b = absurd a
one_refusal r (Document f) (Bound g) a b = absurd a
one_refusal r (Pick f) (Document g) a b = absurd b
one_refusal r (Pick f) (Pick g) a b = ap Pick (same_err f g (picked r.name r.document) a b)
one_refusal r (Pick f) (Rule g) a b = absurd (no_pick r b.0 f a b.1)
one_refusal r (Pick f) (Variable g) a b = absurd (no_pick r b.0 f a b.1.0)
one_refusal r (Pick f) (NoPlan g) a b = absurd (before_plan r b.0 (Pick f) a tt)
one_refusal r (Pick f) (Bound g) a b = absurd (before_plan r b.0 (Pick f) a tt)
one_refusal r (Rule f) (Document g) a b = absurd b
one_refusal r (Rule f) (Pick g) a b = absurd (no_pick r a.0 g b a.1)
one_refusal r (Rule f) (Rule g) a b = ap Rule (same_breach f g (first_broken r.schema r.document b.0) (subst (λ o. NamesBreach f (first_broken r.schema r.document o)) (same_operation r a.0 b.0 a.1 b.1) a.2) b.2)
one_refusal r (Rule f) (Variable g) a b = absurd (no_breach f (first_broken r.schema r.document b.0) b.1.1 (subst (λ o. NamesBreach f (first_broken r.schema r.document o)) (same_operation r a.0 b.0 a.1 b.1.0) a.2))
one_refusal r (Rule f) (NoPlan g) a b = absurd (before_plan r b.0 (Rule f) a tt)
one_refusal r (Rule f) (Bound g) a b = absurd (before_plan r b.0 (Rule f) a tt)
one_refusal r (Variable f) (Document g) a b = absurd b
one_refusal r (Variable f) (Pick g) a b = absurd (no_pick r a.0 g b a.1.0)
one_refusal r (Variable f) (Rule g) a b = absurd (no_breach g (first_broken r.schema r.document a.0) a.1.1 (subst (λ o. NamesBreach g (first_broken r.schema r.document o)) (same_operation r b.0 a.0 b.1 a.1.0) b.2))
one_refusal r (Variable f) (Variable g) a b = ap Variable (same_variable f g (variables_answer r.schema b.0.variables.items r.given) (subst (λ (o : Operation). NamesVariable f (variables_answer r.schema o.variables.items r.given)) (same_operation r a.0 b.0 a.1.0 b.1.0) a.2) b.2)
one_refusal r (Variable f) (NoPlan g) a b = absurd (before_plan r b.0 (Variable f) a tt)
one_refusal r (Variable f) (Bound g) a b = absurd (before_plan r b.0 (Variable f) a tt)
one_refusal r (NoPlan f) (Document g) a b = absurd b
one_refusal r (NoPlan f) (Pick g) a b = absurd (before_plan r a.0 (Pick g) b tt)
one_refusal r (NoPlan f) (Rule g) a b = absurd (before_plan r a.0 (Rule g) b tt)
one_refusal r (NoPlan f) (Variable g) a b = absurd (before_plan r a.0 (Variable g) b tt)
one_refusal r (NoPlan f) (NoPlan g) a b = ap NoPlan (same_node f g (plan_answer r b.0) (subst (NamesNode f) (same_answer r a.0 b.0) a.1) b.1)
one_refusal r (NoPlan f) (Bound g) a b = absurd (no_node_fault f (plan_answer r a.0) (same_answer r a.0 b.0 ∙ b.1) a.1)
one_refusal r (Bound f) (Document g) a b = absurd b
one_refusal r (Bound f) (Pick g) a b = absurd (before_plan r a.0 (Pick g) b tt)
one_refusal r (Bound f) (Rule g) a b = absurd (before_plan r a.0 (Rule g) b tt)
one_refusal r (Bound f) (Variable g) a b = absurd (before_plan r a.0 (Variable g) b tt)
one_refusal r (Bound f) (NoPlan g) a b = absurd (no_node_fault g (plan_answer r b.0) (same_answer r b.0 a.0 ∙ a.1) b.1)
one_refusal r (Bound f) (Bound g) a b = ap Bound (same_parts r a.0 b.0 f g a.2 b.2)
