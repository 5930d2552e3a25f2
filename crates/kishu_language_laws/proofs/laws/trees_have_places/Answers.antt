use Rattle.kishu_language_laws.specs.reading.ExactText.{read_found}
use Rattle.kishu_language_laws.specs.trees.ParsedFits.{parsed_places}
use Rattle.kishu_language_laws.proofs.laws.trees_have_places.Goals as goal

pub returns : goal.returns
returns c = λ profile text tree e. parsed_places profile text tree (read_found profile text tree e)
