use Rattle.kishu_text.proofs.White.{white_pieces, white_shorter}
use Rattle.kishu_text.proofs.space.cut_at_white.Goals as goal

pub returns-clause-pieces : goal.returns-clause-pieces
returns-clause-pieces c = white_pieces c.args.text.now c.split_once.result c.utf8.text c.split_once.ensures.cases

pub returns-clause-shorter : goal.returns-clause-shorter
returns-clause-shorter c = white_shorter c.args.text.now c.split_once.result c.split_once.ensures.cases
