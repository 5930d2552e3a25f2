use Rattle.std.proofs.Common.{◌+◌, length, refl}
use Rattle.kishu_record.specs.Commits.{IsCommitHead}
use Rattle.kishu_journal.proofs.Committing.{none-told, takes-told}
use Rattle.kishu_journal.proofs.take.note_record.Goals as goal

pub returns-in-Some-clause-made : goal.returns-in-Some-clause-made
returns-in-Some-clause-made c done =
    let head = c.args.head.now in
    let told = c.in-Some.commit in
    let t : IsCommitHead head c.args.pictures told = rw c.in-Some.is at c.in-Ok.ensures.found in
    takes-told c.args.graph.now told head c.args.pictures c.args.body (c.args.body + 4 + length head) t refl c.note_commit.new.graph (c.note_commit.ensures.made done)

pub returns-in-Some-clause-none : goal.returns-in-Some-clause-none
returns-in-Some-clause-none c refused =
    let head = c.args.head.now in
    let told = c.in-Some.commit in
    let t : IsCommitHead head c.args.pictures told = rw c.in-Some.is at c.in-Ok.ensures.found in
    none-told c.args.graph.now told head c.args.pictures c.args.body (c.args.body + 4 + length head) t refl (c.note_commit.ensures.refused refused)
