-- What is sent in place of an operation is its rewritten selections.
use Rattle.std.proofs.Common.{◌≡◌, ℕ, List, [], ◌∷◌, false, None, Some, true, refl, ap}
use Rattle.document_reader.specs.Documents.{SelectionTrees, no_selection, selection_then}
use Rattle.document_reader.specs.Trees.{set_tree}
use Rattle.document_rules.specs.Checking.{reached_by}
use Rattle.response_model.specs.Plan.{single}
use Rattle.response_model.specs.Response.{Tree}
use Rattle.plan_model.specs.Operations.{root_place, root_position}
use Rattle.typename_rewrite.specs.Rewriting.{ended, rewritten_selections}
use Rattle.stripped_responses.specs.Stripping.{stripped, rewritten_root, IsRewritten, HasNoAlias, SentOperation, own_setting, IsOwnResponse, IsSentResponse}
use Rattle.stripped_responses.proofs.FreeNames.{free_at, free_met}
use Rattle.stripped_responses.proofs.Stripping.{Stripped, value_stripped}
use Rattle.stripped_responses.proofs.Filling.{Fills, value_filled}

-- without an end a selection set stays
pub unended : (alias : List ℕ) (xs : SelectionTrees) → xs ≡ ended alias false xs
unended alias no_selection = refl
unended alias (selection_then x others) = refl

module _ (alias : List ℕ) (x : SentOperation alias) where
  pub no_alias : HasNoAlias alias (own_setting alias x) (root_position x.root x.operation)
  no_alias = record { own = (free_at alias x.document x.free.place x.operation x.free.free x.free.stands, tt); fragments = free_met alias x.document (reached_by x.document x.operation) x.free.free }

  is_rewritten : IsRewritten alias x.schema (root_position x.root x.operation) (rewritten_root alias x.schema x.root x.operation)
  is_rewritten = record {
    selections = ((false, ap (λ (xs : SelectionTrees). (Some x.root, xs)) (unended alias (rewritten_selections x.schema alias (Some x.root) (set_tree x.operation.selections.items)))), tt);
    handed = refl;
  }

  pub response_stripped : (t : Tree) → IsSentResponse alias x t → Stripped alias (own_setting alias x) (single true) (root_place x.root) (root_position x.root x.operation) (rewritten_root alias x.schema x.root x.operation) t (stripped alias t)
  response_stripped t response = value_stripped alias (own_setting alias x) (single true) (root_place x.root) (root_position x.root x.operation) (rewritten_root alias x.schema x.root x.operation) t no_alias is_rewritten response.0

  pub response_filled : (r : Tree) → IsOwnResponse alias x r → Fills alias (own_setting alias x) (single true) None (root_place x.root) (root_position x.root x.operation) (rewritten_root alias x.schema x.root x.operation) r
  response_filled r response = value_filled alias (own_setting alias x) (single true) None (root_place x.root) (root_position x.root x.operation) (rewritten_root alias x.schema x.root x.operation) r no_alias is_rewritten response.0
