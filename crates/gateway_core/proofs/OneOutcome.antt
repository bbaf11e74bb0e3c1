-- A body comes to one thing: it has one price, or one reason why it is unfit.
use Rattle.std.proofs.Common.{◌≡◌, ◌≢◌, inl, inr, ◌∙◌, ℕ, ◌≤◌, List, Bool, Option, Result, Ok, map, refl, sym, ap, subst}
use Rattle.cost_num.specs.declared.Cost.{Cost}
use Rattle.cost_num.specs.declared.TheConstants.{CAP}
use Rattle.std.proofs.lemmas.Option.{same_Some}
use Rattle.cost_num.proofs.Costs.{cost_eq}
use Rattle.response_model.specs.Cost.{Part, types, fields}
use Rattle.response_model.specs.Bound.{greatest_cost}
use Rattle.plan_model.specs.Sound.{IsOfSchema}
use Rattle.document_reader.specs.declared.picking.PickFault.{PickFault}
use Rattle.document_reader.specs.declared.trees.Definition.{Definition}
use Rattle.document_reader.specs.declared.trees.Document.{Document}
use Rattle.document_reader.specs.Picking.{picked}
use Rattle.document_reader.specs.declared.document.DocFault.{DocFault}
use Rattle.document_reader.specs.Documents.{DefinitionTree}
use Rattle.document_reader.specs.Trees.{definition_tree}
use Rattle.document_reader.specs.Places.{operation_offset}
use Rattle.schema_model.specs.SchemaData.{has_floats}
use Rattle.document_reader.specs.DocumentAnswers.{IsDocumentOf, HasDocument, HasDocumentFault}
use Rattle.request_bodies.specs.Bodies.{RequestData as Asked}
use Rattle.trusted_documents.specs.Listings.{Listing}
use Rattle.trusted_documents.specs.Requests.{IsRequestBy, IsUnreadBy}
use Rattle.trusted_documents.specs.declared.fault.ExpandFault.{ExpandFault}
use Rattle.trusted_documents.specs.declared.requests.Unread.{Unread}
use Rattle.trusted_documents.specs.declared.requests.Unread.TheVariants as unread
use Rattle.request_bodies.specs.declared.fault.BodyFault.{BodyFault}
use Rattle.local_introspection.specs.PassedOn.{Refusal, Document as NoDocument, Pick, Rule, Variable, Plan as NoPlan, Bound, RequestData, Prepared, setting, plan_tree, IsBoundFor, IsAffordable, IsUnread, IsRefusedFor, AskAlike}
use Rattle.local_introspection.proofs.PassedOn.{same_pick}
use Rattle.operation_class.specs.Classes.{class_at}
use Rattle.local_introspection.specs.declared.facts.Facts.{Facts}
use Rattle.local_introspection.specs.declared.fault.LocalFault.{LocalFault}
use Rattle.local_introspection.specs.declared.fault.LocalFault.TheVariants.{Memory as NoLocalMemory}
use Rattle.local_introspection.specs.declared.walk.Local.{Local}
use Rattle.local_introspection.specs.LocalRequests.{LocalRequest}
use Rattle.local_introspection.specs.LocalAnswers.{IsAnsweredWith, IsRefusedFor as IsNotAnsweredFor}
use Rattle.local_introspection.specs.AskAlike.{AskAlike as LocalAlike}
use Rattle.local_introspection.specs.AskedHere.{asked_at, IsHereThat}
use Rattle.gateway_core.specs.declared.beginning.Denial.{Denial}
use Rattle.gateway_core.specs.declared.beginning.Denial.TheVariants.{UnknownKey, Unexpanded, BadBody, Refused, NotLocal, Short, Full, Work, Memory}
use Rattle.gateway_core.specs.Rules.{Rules, HasWeights}
use Rattle.gateway_core.specs.Requests.{request_of, Asks, AsksThat, GoesUpstream, IsRefusedBody, IsPricedAt, Knows, IsAnsweredFor, IsLocalAt, IsNotLocal}
use Rattle.gateway_core.specs.Begins.{IsUnfit, IsVerdict, HasOneAnswer}
use Rattle.gateway_core.proofs.PlanCovers.{Counting}

-- A body is read in one way, and requests that ask the same have one verdict.
pub record OneBody : Type 0 where
  pub asked_or_unread : (list : Option Listing) (body : List ℕ) (asked : Asked) (reason : Unread) → reason ≢ unread.Memory → IsRequestBy list body asked → IsUnreadBy list body reason → ⊥
  pub one_asked : (list : Option Listing) (body : List ℕ) (asked other : Asked) → IsRequestBy list body asked → IsRequestBy list body other → asked ≡ other
  pub one_unread_for : (list : Option Listing) (body : List ℕ) (reason other : Unread) → reason ≢ unread.Memory → other ≢ unread.Memory → IsUnreadBy list body reason → IsUnreadBy list body other → reason ≡ other
  pub trees : (floats : Bool) (text : List ℕ) (document other : Document) → IsDocumentOf floats text document → IsDocumentOf floats text other → map definition_tree document.definitions.items ≡ map definition_tree other.definitions.items
  pub offsets : (floats : Bool) (text : List ℕ) (document other : Document) → IsDocumentOf floats text document → IsDocumentOf floats text other → map operation_offset document.definitions.items ≡ map operation_offset other.definitions.items
  pub read_or_not : (floats : Bool) (text : List ℕ) (trees : List DefinitionTree) (fault : DocFault) → HasDocument floats text trees → HasDocumentFault floats text fault → ⊥
  pub one_reading : (floats : Bool) (text : List ℕ) (fault other : DocFault) → HasDocumentFault floats text fault → HasDocumentFault floats text other → fault ≡ other
  pub documents : (floats : Bool) (text : List ℕ) (document : Document) → IsDocumentOf floats text document → HasDocument floats text (map definition_tree document.definitions.items)
  pub affordable_or_refused : (r : RequestData) (bound : Cost) (refusal : Refusal) → IsAffordable r bound → IsRefusedFor r refusal → ⊥
  pub refused : (r q : RequestData) (refusal : Refusal) → AskAlike r q → IsRefusedFor r refusal → IsRefusedFor q refusal
  pub one_plan : (r q : RequestData) (p : Prepared r) (other : Prepared q) → AskAlike r q → plan_tree r p ≡ plan_tree q other
  pub counting : Counting
  pub one_class : (ds es : List Definition) (place : ℕ) → map definition_tree ds ≡ map definition_tree es → class_at ds place ≡ class_at es place
  pub one_local_answer : (r q : LocalRequest) (answer other : Local) → LocalAlike r q → IsAnsweredWith r answer → IsAnsweredWith q other → (answer.text ≡ other.text) × (answer.cost ≡ other.cost)
  pub one_local_refusal : (r q : LocalRequest) (fault other : LocalFault) → LocalAlike r q → fault ≢ NoLocalMemory → other ≢ NoLocalMemory → IsNotAnsweredFor r fault → IsNotAnsweredFor q other → fault ≡ other
  pub answered_or_refused : (r q : LocalRequest) (answer : Local) (fault : LocalFault) → LocalAlike r q → fault ≢ NoLocalMemory → IsAnsweredWith r answer → IsNotAnsweredFor q fault → ⊥
  pub one_refusal : (r q : RequestData) (refusal other : Refusal) → AskAlike r q → IsRefusedFor r refusal → IsRefusedFor q other → refusal ≡ other

-- ---- requests that ask the same have one bound

-- it has a bound, by the weights of its schema
abbrev IsPriced : Cost → RequestData → Type 0
IsPriced bound r = IsAffordable r bound × HasWeights r.schema r.weights

-- the bound is the greatest cost of what is planned
greatest_of : OneBody → (r : RequestData) (bound : Cost) (priced : IsPriced bound r) (part : Part) (n : ℕ) → n ≤ CAP → IsBoundFor r priced.0.0 part n → greatest_cost part (plan_tree r priced.0.0) ≡ n
greatest_of laws r bound priced part n low is =
    let p = priced.0.0 in
    let weighed = priced.1 in
    let of_schema : IsOfSchema weighed.0.0 (setting r p) = record { weights = weighed.0.1; fills = weighed.1 } in
    (laws.counting.of_operations (setting r p) p.root p.operation priced.0.1 weighed.0.0 of_schema part n low).0 is

one_bound : OneBody → (r q : RequestData) (bound cost : Cost) → AskAlike r q → IsPriced bound r → IsPriced cost q → bound ≡ cost
one_bound laws r q bound cost alike a b =
    let tree = laws.one_plan r q a.0.0 b.0.0 alike in
    let has = a.0.2 in
    let has_too = b.0.2 in
    cost_eq bound cost
    (sym (greatest_of laws r bound a types bound.types has.types_within has.of_types) ∙ (ap (greatest_cost types) tree ∙ greatest_of laws q cost b types cost.types has_too.types_within has_too.of_types))
    (sym (greatest_of laws r bound a fields bound.fields has.fields_within has.of_fields) ∙ (ap (greatest_cost fields) tree ∙ greatest_of laws q cost b fields cost.fields has_too.fields_within has_too.of_fields))

-- ---- what a body asks

abbrev AsksFor : Rules → (RequestData → Type 0) → Asked → Type 0
AsksFor rules P asked = (document : Document) × IsDocumentOf (has_floats rules.schema) asked.query document × P (request_of rules asked document)

-- why a body is no request, as a denial
abbrev unread_as : Unread → Denial
unread_as (unread.Unexpanded fault) = Unexpanded fault
unread_as (unread.BadBody fault) = BadBody fault
unread_as unread.Memory = Memory

-- what two requests that ask the same ask of the gateway, by the same facts and at the same place
asked_alike : (facts : Facts) (r q : RequestData) (place : ℕ) → AskAlike r q → LocalAlike (asked_at facts r place) (asked_at facts q place)
asked_alike facts r q place alike = record {
  facts = refl;
  schema = refl;
  weights = refl;
  most = refl;
  place = refl;
  given = alike.given;
  trees = alike.trees;
  offsets = alike.offsets;
}

moved : (Q : LocalRequest → Type 0) (q : RequestData) (facts more : Facts) (place other : ℕ) → facts ≡ more → place ≡ other → Q (asked_at facts q place) → Q (asked_at more q other)
moved Q q facts more place other same_facts same_place holds =
    subst (λ f. Q (asked_at f q other)) same_facts (subst (λ k. Q (asked_at facts q k)) same_place holds)

module _ (laws : OneBody) (rules : Rules) (body : List ℕ) where
  -- the operation goes to the upstream, and this holds
  abbrev Upwards : (RequestData → Type 0) → RequestData → Type 0
  Upwards P r = GoesUpstream rules r × P r

  both : (P Q : RequestData → Type 0) → Asks rules body P → Asks rules body Q → (r : RequestData) × (q : RequestData) × AskAlike r q × P r × Q q
  both P Q (asked, is, (document, read, p)) (asked_too, is_too, asks) =
      let moved : AsksFor rules Q asked = subst (AsksFor rules Q) (laws.one_asked rules.trusted body asked_too asked is_too is) asks in (
        request_of rules asked document,
        request_of rules asked moved.0,
        record {
          schema = refl;
          weights = refl;
          name = refl;
          given = refl;
          trees = laws.trees (has_floats rules.schema) asked.query document moved.0 read moved.1;
          offsets = laws.offsets (has_floats rules.schema) asked.query document moved.0 read moved.1;
        },
        p,
        moved.2,
      )

  -- ---- an operation goes to the upstream, or it is asked of the gateway

  picks : (r q : RequestData) → AskAlike r q → picked r.name r.document ≡ picked q.name q.document
  picks r q alike = ap (λ name. picked name r.document) alike.name ∙ same_pick q.name r.document q.document alike.trees

  -- what goes to the upstream isn't asked of the gateway
  up_or_here : (P : LocalRequest → Type 0) (r q : RequestData) → AskAlike r q → GoesUpstream rules r → IsHereThat (Knows rules) P q → ⊥
  up_or_here P r q alike goes (facts, known, (place, at, other, p)) =
      other (sym (laws.one_class r.document q.document place alike.trees) ∙ goes facts known place (picks r q alike ∙ at))

  upstream_or_here : (P : RequestData → Type 0) (Q : LocalRequest → Type 0) → AsksThat rules body P → Asks rules body (IsHereThat (Knows rules) Q) → ⊥
  upstream_or_here P Q asks too = let x = both (Upwards P) (IsHereThat (Knows rules) Q) asks too in up_or_here Q x.0 x.1 x.2 x.3.0 x.4

  -- ---- what is asked of the gateway

  local_alike : (P Q : LocalRequest → Type 0) (r q : RequestData) → AskAlike r q → IsHereThat (Knows rules) P r → IsHereThat (Knows rules) Q q
      → (a : LocalRequest) × (b : LocalRequest) × LocalAlike a b × P a × Q b
  local_alike P Q r q alike here there =
      let same_facts : there.0 ≡ here.0 = same_Some there.0 here.0 (sym there.1 ∙ here.1) in
      let d : ◌≡◌ {A = Result ℕ PickFault} (Ok there.2.0) (Ok here.2.0) = sym there.2.1 ∙ (sym (picks r q alike) ∙ here.2.1) in
      let same_place : there.2.0 ≡ here.2.0 = cc d in (
        asked_at here.0 r here.2.0,
        asked_at here.0 q here.2.0,
        asked_alike here.0 r q here.2.0 alike,
        here.2.3,
        moved Q q there.0 here.0 there.2.0 here.2.0 same_facts same_place there.2.3,
      )

  local_both : (P Q : LocalRequest → Type 0) → Asks rules body (IsHereThat (Knows rules) P) → Asks rules body (IsHereThat (Knows rules) Q)
      → (a : LocalRequest) × (b : LocalRequest) × LocalAlike a b × P a × Q b
  local_both P Q asks too = let x = both (IsHereThat (Knows rules) P) (IsHereThat (Knows rules) Q) asks too in local_alike P Q x.0 x.1 x.2 x.3 x.4

  -- a text that was read isn't refused, nor in two ways
  not_unread : (text : List ℕ) (document : Document) (refusal : Refusal) → IsDocumentOf (has_floats rules.schema) text document → IsUnread (has_floats rules.schema) text refusal → ⊥
  not_unread text document (NoDocument fault) is not = laws.read_or_not (has_floats rules.schema) text (map definition_tree document.definitions.items) fault (laws.documents (has_floats rules.schema) text document is) not
  not_unread text document (Pick fault) is not = not
  not_unread text document (Rule fault) is not = not
  not_unread text document (Variable fault) is not = not
  not_unread text document (NoPlan fault) is not = not
  not_unread text document (Bound fault) is not = not

  one_unread : (text : List ℕ) (refusal another : Refusal) → IsUnread (has_floats rules.schema) text refusal → IsUnread (has_floats rules.schema) text another → refusal ≡ another
  one_unread text (NoDocument f) (NoDocument g) a b = ap NoDocument (laws.one_reading (has_floats rules.schema) text f g a b)
  one_unread text (NoDocument f) (Pick g) a b = absurd b
  one_unread text (NoDocument f) (Rule g) a b = absurd b
  one_unread text (NoDocument f) (Variable g) a b = absurd b
  one_unread text (NoDocument f) (NoPlan g) a b = absurd b
  one_unread text (NoDocument f) (Bound g) a b = absurd b
  one_unread text (Pick f) another a b = absurd a
  one_unread text (Rule f) another a b = absurd a
  one_unread text (Variable f) another a b = absurd a
  one_unread text (NoPlan f) another a b = absurd a
  one_unread text (Bound f) another a b = absurd a

  -- where the query of one reading is read, that of the other is
  read_or_refused : (P : RequestData → Type 0) (asked : Asked) (refusal : Refusal) → Asks rules body P → IsRequestBy rules.trusted body asked → IsUnread (has_floats rules.schema) asked.query refusal → ⊥
  read_or_refused P asked refusal (asked_too, is_too, (document, read, holds)) is unread =
      not_unread asked_too.query document refusal read (subst (λ (a : Asked). IsUnread (has_floats rules.schema) a.query refusal) (laws.one_asked rules.trusted body asked asked_too is is_too) unread)

  priced_or_refused : (bound : Cost) (refusal : Refusal) → IsPricedAt rules body bound → IsRefusedBody rules body refusal → ⊥
  priced_or_refused bound refusal priced (inl (asked, is, unread)) = read_or_refused (Upwards (λ r. IsAffordable r bound)) asked refusal priced is unread
  priced_or_refused bound refusal priced (inr refused) =
      let x = both (Upwards (λ r. IsRefusedFor r refusal)) (Upwards (λ r. IsAffordable r bound)) refused priced in
      laws.affordable_or_refused x.1 bound refusal x.4.1 (laws.refused x.0 x.1 refusal x.2 x.3.1)

  one_refused : (refusal another : Refusal) → IsRefusedBody rules body refusal → IsRefusedBody rules body another → refusal ≡ another
  one_refused refusal another (inl (asked, is, unread)) (inl (asked_too, is_too, unread_too)) =
      one_unread asked.query refusal another unread (subst (λ (a : Asked). IsUnread (has_floats rules.schema) a.query another) (laws.one_asked rules.trusted body asked_too asked is_too is) unread_too)
  one_refused refusal another (inl (asked, is, unread)) (inr refused) = absurd (read_or_refused (Upwards (λ r. IsRefusedFor r another)) asked refusal refused is unread)
  one_refused refusal another (inr refused) (inl (asked, is, unread)) = absurd (read_or_refused (Upwards (λ r. IsRefusedFor r refusal)) asked another refused is unread)
  one_refused refusal another (inr refused) (inr refused_too) =
      let x = both (Upwards (λ r. IsRefusedFor r refusal)) (Upwards (λ r. IsRefusedFor r another)) refused refused_too in
      laws.one_refusal x.0 x.1 refusal another x.2 x.3.1 x.4.1

  -- what is asked of the gateway isn't refused for the upstream
  refused_or_here : (refusal : Refusal) (Q : LocalRequest → Type 0) → IsRefusedBody rules body refusal → Asks rules body (IsHereThat (Knows rules) Q) → ⊥
  refused_or_here refusal Q (inl (asked, is, unread)) asks = read_or_refused (IsHereThat (Knows rules) Q) asked refusal asks is unread
  refused_or_here refusal Q (inr refused) asks = upstream_or_here (λ r. IsRefusedFor r refusal) Q refused asks

  -- what is refused of the gateway, as asked of it
  refused_asks : (fault : LocalFault) → IsNotLocal rules body fault → (fault ≢ NoLocalMemory) × Asks rules body (IsHereThat (Knows rules) (λ q. IsNotAnsweredFor q fault))
  refused_asks fault (asked, is, (document, read, (told, here))) = (told, (asked, is, (document, read, here)))

  one_not_local : (fault another : LocalFault) → IsNotLocal rules body fault → IsNotLocal rules body another → fault ≡ another
  one_not_local fault another a b =
      let c = refused_asks fault a in
      let d = refused_asks another b in
      let x = local_both (λ q. IsNotAnsweredFor q fault) (λ q. IsNotAnsweredFor q another) c.1 d.1 in laws.one_local_refusal x.0 x.1 fault another x.2 c.0 d.0 x.3 x.4

  answered_or_not : (answer : Local) (fault : LocalFault) → IsAnsweredFor rules body answer → IsNotLocal rules body fault → ⊥
  answered_or_not answer fault a b =
      let d = refused_asks fault b in
      let x = local_both (λ q. IsAnsweredWith q answer) (λ q. IsNotAnsweredFor q fault) a d.1 in laws.answered_or_refused x.0 x.1 answer fault x.2 d.0 x.3 x.4

  -- what is refused is a request
  unread_or_asked : (reason : Unread) (asked : Asked) → reason ≢ unread.Memory → IsUnreadBy rules.trusted body reason → IsRequestBy rules.trusted body asked → ⊥
  unread_or_asked reason asked told not is = laws.asked_or_unread rules.trusted body asked reason told is not

  unread_or_asks : (reason : Unread) (P : RequestData → Type 0) → reason ≢ unread.Memory → IsUnreadBy rules.trusted body reason → Asks rules body P → ⊥
  unread_or_asks reason P told not (asked, is, more) = unread_or_asked reason asked told not is

  unread_or_refused : (reason : Unread) (refusal : Refusal) → reason ≢ unread.Memory → IsUnreadBy rules.trusted body reason → IsRefusedBody rules body refusal → ⊥
  unread_or_refused reason refusal told not (inl (asked, is, unread)) = unread_or_asked reason asked told not is
  unread_or_refused reason refusal told not (inr asks) = unread_or_asks reason (Upwards (λ r. IsRefusedFor r refusal)) told not asks

  is_bad : (fault : BodyFault) → unread.BadBody fault ≢ unread.Memory
  is_bad fault h = cc

  is_unexpanded : (fault : ExpandFault) → unread.Unexpanded fault ≢ unread.Memory
  is_unexpanded fault h = cc

  -- ---- the laws

  with_weights : (bound : Cost) → HasWeights rules.schema rules.weights → IsPricedAt rules body bound → AsksThat rules body (IsPriced bound)
  with_weights bound weighed (asked, is, (document, read, (goes, priced))) = (asked, is, (document, read, (goes, (priced, weighed))))

  pub one_price : (bound cost : Cost) → HasWeights rules.schema rules.weights → IsPricedAt rules body bound → IsPricedAt rules body cost → bound ≡ cost
  one_price bound cost weighed a b =
      let x = both (Upwards (IsPriced bound)) (Upwards (IsPriced cost)) (with_weights bound weighed a) (with_weights cost weighed b) in
      one_bound laws x.0 x.1 bound cost x.2 x.3.1 x.4.1

  one_local_cost : (cost another : Cost) → IsLocalAt rules body cost → IsLocalAt rules body another → cost ≡ another
  one_local_cost cost another (a, asks, costs) (b, asks_too, costs_too) =
      let x = local_both (λ l. IsAnsweredWith l a) (λ l. IsAnsweredWith l b) asks asks_too in
      sym costs ∙ ((laws.one_local_answer x.0 x.1 a b x.2 x.3 x.4).1 ∙ costs_too)

  one_local_answer : (a b : Local) → IsAnsweredFor rules body a → IsAnsweredFor rules body b → (a.text ≡ b.text) × (a.cost ≡ b.cost)
  one_local_answer a b asks asks_too =
      let x = local_both (λ l. IsAnsweredWith l a) (λ l. IsAnsweredWith l b) asks asks_too in
      laws.one_local_answer x.0 x.1 a b x.2 x.3 x.4

  priced_or_local : (bound cost : Cost) → IsPricedAt rules body bound → IsLocalAt rules body cost → ⊥
  priced_or_local bound cost priced (answer, asks, costs) =
      upstream_or_here (λ r. IsAffordable r bound) (λ q. IsAnsweredWith q answer) priced asks

  pub priced_or_unfit : (bound : Cost) (denial : Denial) → IsVerdict denial → IsPricedAt rules body bound → IsUnfit rules body denial → ⊥
  priced_or_unfit bound UnknownKey told priced unfit = unfit
  priced_or_unfit bound (Unexpanded fault) told priced unfit = unread_or_asks (unread.Unexpanded fault) (Upwards (λ r. IsAffordable r bound)) (is_unexpanded fault) unfit priced
  priced_or_unfit bound (BadBody fault) told priced unfit = unread_or_asks (unread.BadBody fault) (Upwards (λ r. IsAffordable r bound)) (is_bad fault) unfit priced
  priced_or_unfit bound (Refused refusal) told priced unfit = priced_or_refused bound refusal priced unfit
  priced_or_unfit bound (NotLocal fault) told priced unfit = upstream_or_here (λ r. IsAffordable r bound) (λ q. IsNotAnsweredFor q fault) priced (refused_asks fault unfit).1
  priced_or_unfit bound (Short left cost) told priced unfit = unfit
  priced_or_unfit bound Full told priced unfit = unfit
  priced_or_unfit bound Work told priced unfit = told
  priced_or_unfit bound Memory told priced unfit = told

  local_or_unfit : (cost : Cost) (denial : Denial) → IsVerdict denial → IsLocalAt rules body cost → IsUnfit rules body denial → ⊥
  local_or_unfit cost UnknownKey told local unfit = unfit
  local_or_unfit cost (Unexpanded fault) told (answer, asks, costs) unfit = unread_or_asks (unread.Unexpanded fault) (IsHereThat (Knows rules) (λ q. IsAnsweredWith q answer)) (is_unexpanded fault) unfit asks
  local_or_unfit cost (BadBody fault) told (answer, asks, costs) unfit = unread_or_asks (unread.BadBody fault) (IsHereThat (Knows rules) (λ q. IsAnsweredWith q answer)) (is_bad fault) unfit asks
  local_or_unfit cost (Refused refusal) told (answer, asks, costs) unfit = refused_or_here refusal (λ q. IsAnsweredWith q answer) unfit asks
  local_or_unfit cost (NotLocal fault) told (answer, asks, costs) unfit = answered_or_not answer fault asks unfit
  local_or_unfit cost (Short left bound) told local unfit = unfit
  local_or_unfit cost Full told local unfit = unfit
  local_or_unfit cost Work told local unfit = told
  local_or_unfit cost Memory told local unfit = told

  -- a body that is no request is unfit for that alone
  unread_alone : (reason : Unread) → reason ≢ unread.Memory → IsUnreadBy rules.trusted body reason → (another : Denial) → IsVerdict another → IsUnfit rules body another → unread_as reason ≡ another
  unread_alone reason told a UnknownKey too b = absurd b
  unread_alone reason told a (Unexpanded g) too b = ap unread_as (laws.one_unread_for rules.trusted body reason (unread.Unexpanded g) told (is_unexpanded g) a b)
  unread_alone reason told a (BadBody g) too b = ap unread_as (laws.one_unread_for rules.trusted body reason (unread.BadBody g) told (is_bad g) a b)
  unread_alone reason told a (Refused g) too b = absurd (unread_or_refused reason g told a b)
  unread_alone reason told a (NotLocal g) too b = absurd (unread_or_asks reason (IsHereThat (Knows rules) (λ q. IsNotAnsweredFor q g)) told a (refused_asks g b).1)
  unread_alone reason told a (Short left bound) too b = absurd b
  unread_alone reason told a Full too b = absurd b
  unread_alone reason told a Work too b = absurd too
  unread_alone reason told a Memory too b = absurd too

  refused_alone : (refusal : Refusal) → IsRefusedBody rules body refusal → (another : Denial) → IsVerdict another → IsUnfit rules body another → Refused refusal ≡ another
  refused_alone f a UnknownKey too b = absurd b
  refused_alone f a (Unexpanded g) too b = sym (unread_alone (unread.Unexpanded g) (is_unexpanded g) b (Refused f) tt a)
  refused_alone f a (BadBody g) too b = sym (unread_alone (unread.BadBody g) (is_bad g) b (Refused f) tt a)
  refused_alone f a (Refused g) too b = ap Refused (one_refused f g a b)
  refused_alone f a (NotLocal g) too b = absurd (refused_or_here f (λ q. IsNotAnsweredFor q g) a (refused_asks g b).1)
  refused_alone f a (Short left bound) too b = absurd b
  refused_alone f a Full too b = absurd b
  refused_alone f a Work too b = absurd too
  refused_alone f a Memory too b = absurd too

  not_local_alone : (fault : LocalFault) → IsNotLocal rules body fault → (another : Denial) → IsVerdict another → IsUnfit rules body another → NotLocal fault ≡ another
  not_local_alone f a UnknownKey too b = absurd b
  not_local_alone f a (Unexpanded g) too b = sym (unread_alone (unread.Unexpanded g) (is_unexpanded g) b (NotLocal f) tt a)
  not_local_alone f a (BadBody g) too b = sym (unread_alone (unread.BadBody g) (is_bad g) b (NotLocal f) tt a)
  not_local_alone f a (Refused g) too b = sym (refused_alone g b (NotLocal f) tt a)
  not_local_alone f a (NotLocal g) too b = ap NotLocal (one_not_local f g a b)
  not_local_alone f a (Short left bound) too b = absurd b
  not_local_alone f a Full too b = absurd b
  not_local_alone f a Work too b = absurd too
  not_local_alone f a Memory too b = absurd too

  pub one_reason : (denial another : Denial) → IsVerdict denial → IsVerdict another → IsUnfit rules body denial → IsUnfit rules body another → denial ≡ another
  one_reason UnknownKey another told too a b = absurd a
  one_reason (Unexpanded f) another told too a b = unread_alone (unread.Unexpanded f) (is_unexpanded f) a another too b
  one_reason (BadBody f) another told too a b = unread_alone (unread.BadBody f) (is_bad f) a another too b
  one_reason (Refused f) another told too a b = refused_alone f a another too b
  one_reason (NotLocal f) another told too a b = not_local_alone f a another too b
  one_reason (Short left bound) another told too a b = absurd a
  one_reason Full another told too a b = absurd a
  one_reason Work another told too a b = absurd told
  one_reason Memory another told too a b = absurd told

  pub one_answer : HasOneAnswer rules body
  one_answer = record {
    text = λ a b asks asks_too. (one_local_answer a b asks asks_too).0;
    cost = one_local_cost;
    not_priced = priced_or_local;
    not_unfit = local_or_unfit;
  }
