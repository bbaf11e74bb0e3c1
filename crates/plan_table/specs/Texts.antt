-- The texts of lists and objects.
use Rattle.std.specs.Prelude.{◌++◌, ℕ, List, [], codes}
use Rattle.response_model.specs.ResponseText.{elements_text, entries_text}
use Rattle.response_model.specs.Response.{Elements, Entries}

abbrev pub list_text : Elements → List ℕ
list_text ts = codes "[" ++ elements_text [] ts

abbrev pub object_text : Entries → List ℕ
object_text es = codes "{" ++ entries_text [] es
