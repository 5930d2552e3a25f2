use Rattle.kishu_live_laws.specs.Asked.{bytes_alike, bytes_here}
use Rattle.kishu_live_laws.proofs.laws.pictures_are_asked_alike.Goals as goal

pub returns-clause-same : goal.returns-clause-same
returns-clause-same c = λ s t here there same test text. bytes_alike text s t here there same test

pub returns-clause-asked : goal.returns-clause-asked
returns-clause-asked c = λ file of s g rows attached test text. bytes_here file of s g rows attached text test
