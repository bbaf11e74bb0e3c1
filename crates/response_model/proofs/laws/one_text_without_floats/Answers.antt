use Rattle.response_model.proofs.OneText.{one_value_text, one_tree_text}
use Rattle.response_model.proofs.laws.one_text_without_floats.Goals as goal

pub returns-clause-value : goal.returns-clause-value
returns-clause-value c json text is none = one_value_text json text is none

pub returns-clause-tree : goal.returns-clause-tree
returns-clause-tree c t text is none = one_tree_text t text is none
