use Rattle.text_places.proofs.CountedCharacters.{all_counted}
use Rattle.text_places.proofs.laws.columns_count_characters.Goals as goal

pub returns : goal.returns
returns c = all_counted
