use Rattle.kishu_live_laws.specs.AtHead.{committed_makes}
use Rattle.kishu_live_laws.specs.CellsAlike.{cells_make}
use Rattle.kishu_live_laws.specs.Fewer.{picture_few, opened_makes, moved_makes}
use Rattle.kishu_live_laws.proofs.laws.requests_make_nodes.Goals as goal

pub returns-clause-committed : goal.returns-clause-committed
returns-clause-committed c = committed_makes

pub returns-clause-opened : goal.returns-clause-opened
returns-clause-opened c = opened_makes

pub returns-clause-moved : goal.returns-clause-moved
returns-clause-moved c = moved_makes

pub returns-clause-same : goal.returns-clause-same
returns-clause-same c = cells_make

pub returns-clause-pictures : goal.returns-clause-pictures
returns-clause-pictures c = picture_few
