use Rattle.response_model.proofs.WrittenTexts.{tree_text_read}
use Rattle.response_model.proofs.laws.tree_texts_are_read_back.Goals as goal

pub returns : goal.returns
returns c t text is shallow = tree_text_read t text is shallow
