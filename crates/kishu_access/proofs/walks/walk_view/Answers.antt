use Rattle.std.proofs.Common.{◌∙◌, ap}
use Rattle.kishu_meaning_laws.specs.Bare.{over}
use Rattle.kishu_items.specs.Walks.{view_of}
use Rattle.kishu_machine.specs.Machine.{moment_of}
use Rattle.kishu_access.proofs.Walking.{view_bare}
use Rattle.kishu_access.proofs.walks.walk_view.Goals as goal

pub returns-clause-gives : goal.returns-clause-gives
returns-clause-gives g c =
    let s = moment_of c.args.machine.now in
    (view_bare c.args.id.0 (view_of c.args.view)).ends s ∙ ap (over s) (c.walk_view.ensures.gives c.args.machine.now.budget)
