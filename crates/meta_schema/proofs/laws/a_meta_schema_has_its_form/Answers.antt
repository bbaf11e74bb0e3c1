use Rattle.meta_schema.proofs.Form.{has_meta_form}
use Rattle.meta_schema.proofs.laws.a_meta_schema_has_its_form.Goals as goal

pub returns : goal.returns
returns c = has_meta_form
