use Rattle.std.proofs.Common.{◌≡◌, ◌≤◌, ℕ, List, Option, drop}
use Rattle.gql_base.specs.declared.lexical.token.TokenKind.{TokenKind}
use Rattle.schema_rules.specs.Places.{PlaceTree}
use Rattle.schema_rules.specs.Views.{maybe_place}
use Rattle.definition_places.specs.Sites.{Seen, at_first, first_site}
use Rattle.definition_places.proofs.finding.first_site.Given as goal

abbrev pub seen_by : ℕ → TokenKind → List ℕ → TokenKind → Option PlaceTree → Option PlaceTree → Seen
seen_by depth last lead outer owner field = record { depth = depth; last = last; lead = lead; outer = outer; owner = owner; field = field }

-- What is left answers as the whole. (A value that holds borrows is told here by its parts, in their order.)
abbrev pub invariant-loop-at : goal.invariant-loop-at
invariant-loop-at l = record {
  same : first_site l.text l.place (seen_by l.walk.0 l.walk.1.0 l.walk.1.1.0.now l.walk.1.1.1.0 (maybe_place l.walk.1.1.1.1.0) (maybe_place l.walk.1.1.1.1.1.0)) (drop l.at l.tokens) ≡ first_site l.text l.place at_first l.tokens;
  within : l.walk.0 ≤ l.at;
}
