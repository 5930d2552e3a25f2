use Rattle.std.proofs.Common.{◌∷◌, sym}
use Rattle.kishu_journal.proofs.ByKind.{added, newest-added}
use Rattle.kishu_journal.proofs.following.add_commit.Goals as goal

pub returns-clause-made : goal.returns-clause-made
returns-clause-made c made others count =
    let a = c.add_commit.ensures in
    added c.args.graph.now c.add_commit.new.self c.add_commit.result c.args.profile (c.args.first.now ∷ others) _ _ (c.is_made.ensures.made made) a.room a.stands (sym count) (sym c.line_of-line.ensures)

pub returns-clause-newest : goal.returns-clause-newest
returns-clause-newest c made =
    let a = c.add_commit.ensures in
    newest-added c.args.graph.now c.add_commit.new.self c.add_commit.result c.args.profile _ c.line_of-line.result.now (c.is_made.ensures.made made) a.added a.noted
