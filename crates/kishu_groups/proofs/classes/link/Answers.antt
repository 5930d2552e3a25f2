use Rattle.kishu_groups.proofs.Roots.{link_under, link_over}
use Rattle.kishu_groups.proofs.classes.link.Goals as goal

pub returns-then-first-second-clause-falls : goal.returns-then-first-second-clause-falls
returns-then-first-second-clause-falls c =
    (link_under c.args.parents.now c.args.first c.args.second c.requires.falls c.requires.first c.requires.second c.if-first-second.true).falls

pub returns-then-first-second-clause-joined : goal.returns-then-first-second-clause-joined
returns-then-first-second-clause-joined c =
    (link_under c.args.parents.now c.args.first c.args.second c.requires.falls c.requires.first c.requires.second c.if-first-second.true).joined

pub returns-else-first-second-clause-falls : goal.returns-else-first-second-clause-falls
returns-else-first-second-clause-falls c =
    (link_over c.args.parents.now c.args.first c.args.second c.requires.falls c.requires.first c.requires.second c.if-first-second.false).falls

pub returns-else-first-second-clause-joined : goal.returns-else-first-second-clause-joined
returns-else-first-second-clause-joined c =
    (link_over c.args.parents.now c.args.first c.args.second c.requires.falls c.requires.first c.requires.second c.if-first-second.false).joined
