use Rattle.kishu_text.proofs.Found.{cut_place, cut_pieces}
use Rattle.kishu_text.proofs.search.cut_once.Goals as goal

pub returns-clause-place : goal.returns-clause-place
returns-clause-place c = cut_place c.args.part.now c.args.text.now c.split_once.result c.utf8.part c.utf8.text c.split_once.ensures.cases

pub returns-clause-pieces : goal.returns-clause-pieces
returns-clause-pieces c = λ some. cut_pieces c.args.part.now c.args.text.now c.split_once.result c.utf8.part c.utf8.text c.split_once.ensures.cases some
