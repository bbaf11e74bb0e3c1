use Rattle.local_introspection.proofs.AlikeRequests.{comes_alike}
use Rattle.local_introspection.proofs.laws.alike_requests_are_answered_alike.Goals as goal

pub returns : goal.returns
returns c = λ r q result alike. comes_alike c.equal_trees_have_one_class.ensures r q alike result
