use Rattle.std.proofs.Common.{sym, ap, ◌∙◌}
use Rattle.serde_json.proofs.Views.{view-Object}
use Rattle.serde_json.specs.Data.{object}
use Rattle.serde_json.specs.View.{view, members_view}
use Rattle.kishu_model.specs.notebooks.Setting.{with_run}
use Rattle.kishu_notebook.proofs.Changes.{as_object_is, run_unchanged}
use Rattle.kishu_notebook.proofs.setting.set_run.Goals as goal

pub returns-in-Some : goal.returns-in-Some
returns-in-Some c =
    let was = as_object_is (view c.args.cell.now) (members_view c.in-Some.members.now.entries) c.in-Some.ensures.value in
    view-Object c.set_members.new.members ∙ ap object c.set_members.ensures ∙ ap (with_run (view c.args.outputs) (view c.args.count)) (sym was)

pub returns-in_default : goal.returns-in_default
returns-in_default c =
    sym (run_unchanged (view c.args.outputs) (view c.args.count) (view c.args.cell.now) (rw c.in_default.is at c.as_object_mut.ensures.value))
