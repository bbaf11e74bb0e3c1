-- What a body gives for the variables comes from a reader, and leaves a level of nesting.
use Rattle.std.proofs.Common.{◌≡◌, inl, inr, ◌∙◌, ◌<◌, ℕ, List, sym, subst, arith, codes}
use Rattle.serde_json.specs.Data.{Data, object, no_members, depth}
use Rattle.serde_json.specs.Read.{max_depth}
use Rattle.request_bodies.specs.Bodies.{RequestData as BodyData, IsRequest}
use Rattle.request_bodies.proofs.Bodies.{variables_source}
use Rattle.acceptance.specs.Requests.{RequestData}
use Rattle.acceptance.specs.Forwarding.{IsGivenAsRead}
use Rattle.acceptance.proofs.ReadKeys.{read_so, member_so, member_within}
use Rattle.typename_rewrite.specs.ReadJson.{IsAsRead}

pub variables_so : (r : RequestData) (body : List ℕ) (asked : BodyData) → IsRequest body asked → r.given ≡ asked.variables → IsGivenAsRead r.given
variables_so r body asked is same = elim (variables_source body asked is) [
  | inl none ↦ let empty : r.given ≡ object no_members = same ∙ none in record {
    as_read = subst IsAsRead (sym empty) tt;
    within = subst (λ (d : Data). depth d < max_depth) (sym empty) (omega arith);
  }
  | inr there ↦ record {
    as_read = subst IsAsRead (sym same) (member_so there.0 asked.variables (codes "variables") (read_so body there.0 there.1) there.2);
    within = subst (λ (d : Data). depth d < max_depth) (sym same) (member_within body there.0 asked.variables (codes "variables") there.1 there.2);
  }
]
