-- What is sent in place of a whole operation.
use Rattle.std.proofs.Common.{◌≡◌, inl, ⊎_elim, ℕ, List, [], ◌∷◌, Bool, false, true, true≢false, ◌||◌, eqb, eqb-true, Some, refl, ap, sym, ◌∙◌}
use Rattle.std.proofs.lemmas.Bool.{cases_Bool}
use Rattle.serde_json.specs.Data.{Data}
use Rattle.document_reader.specs.Documents.{SelectionTrees}
use Rattle.document_reader.specs.Trees.{set_tree}
use Rattle.response_model.specs.Plan.{single}
use Rattle.response_model.specs.Response.{Tree}
use Rattle.plan_model.specs.SelectedFields.{Setting}
use Rattle.plan_model.specs.Responses.{is_among}
use Rattle.plan_model.specs.Visits.{visits, level_limit, node_limit}
use Rattle.plan_model.proofs.FaultlessPlans.{faultless_is_planned}
use Rattle.plan_model.proofs.PlannedWell.{none_at_fault}
use Rattle.plan_model.specs.Operations.{root_place, root_position}
use Rattle.typename_rewrite.specs.Rewriting.{rewritten_selections}
use Rattle.stripped_responses.specs.Stripping.{stripped, rewritten_root, SentOperation, own_setting, IsSentResponse}
use Rattle.stripped_responses.proofs.Sent.{unended, no_alias}
use Rattle.sent_replies.specs.Saying.{SaysTree}
use Rattle.sent_replies.specs.Asking.{IsSentAsking, IsSentBy, TellsTypes, IsPlannedWell, own_plan, ReadsReplyTo}
use Rattle.sent_replies.proofs.RulesKept.{operation_has}
use Rattle.sent_replies.proofs.Readings.{value_reads}
use Rattle.sent_replies.proofs.Placed.{AllStandAt}
use Rattle.sent_replies.proofs.Telling.{plan_tells}
use Rattle.sent_replies.proofs.KnownFields.{operation_known}

module _ (alias : List ℕ) (x : SentOperation alias) where
  -- at the root no name is asked for
  root_asks : IsSentAsking alias (own_setting alias x) false (root_position x.root x.operation) (rewritten_root alias x.schema x.root x.operation)
  root_asks = record {
    marked = (false, (Some x.root, set_tree x.operation.selections.items)) ∷ [];
    own = refl;
    sent = ap (λ (xs : SelectionTrees). (Some x.root, xs) ∷ []) (unended alias (rewritten_selections x.schema alias (Some x.root) (set_tree x.operation.selections.items)));
    asks = refl;
    can_be_ended = (λ is. absurd (true≢false (sym is)), tt);
    handed = refl;
  }

  abbrev e : Setting
  e = own_setting alias x

  abbrev root_selections : SelectionTrees
  root_selections = set_tree x.operation.selections.items

  at_root : (U : ℕ) → is_among U (x.root ∷ []) ≡ true → x.root ≡ U
  at_root U among = ⊎_elim
      (λ (here : eqb x.root U ≡ true). eqb-true x.root U here)
      (λ (other : eqb x.root U ≡ false). absurd (true≢false (sym among ∙ ap (λ (b : Bool). b || false) other)))
      (cases_Bool (eqb x.root U))

  pub tells : IsPlannedWell alias x → TellsTypes false (own_plan alias x)
  tells well =
      let known = operation_known x.schema x.document x.operation x.root well.kept well.root in
      let stands : (U : ℕ) → is_among U (x.root ∷ []) ≡ true → AllStandAt x.schema U (root_position x.root x.operation).selections = (λ U among. ((x.root, refl, inl (at_root U among), known.0), tt)) in
      plan_tells e well.keeps known.1 level_limit false (root_place x.root) (root_position x.root x.operation) (λ unasked. tt) stands (none_at_fault node_limit (visits e level_limit (x.root ∷ []) (root_position x.root x.operation)) well.well)

  root_sent : IsPlannedWell alias x → IsSentBy alias e false (root_place x.root) (root_position x.root x.operation) (rewritten_root alias x.schema x.root x.operation) (own_plan alias x)
  root_sent well =
      let has = operation_has x.schema x.document x.operation x.root well.kept well.root in
      record {
        has_none = no_alias alias x;
        own_selections = (has.0, tt);
        fragments = has.1;
        is_sent = root_asks;
        is_plan = faultless_is_planned e level_limit (root_place x.root) (root_position x.root x.operation) (none_at_fault node_limit (visits e level_limit (x.root ∷ []) (root_position x.root x.operation)) well.well);
        tells = tells well;
      }

  pub reply_reads : (t : Tree) (json : Data) → IsPlannedWell alias x → IsSentResponse alias x t → SaysTree json t → ReadsReplyTo alias x json (stripped alias t)
  reply_reads t json well response say =
      value_reads alias e (single true) false (root_place x.root) (root_position x.root x.operation) (rewritten_root alias x.schema x.root x.operation) (own_plan alias x) t json (root_sent well) response.0 say
