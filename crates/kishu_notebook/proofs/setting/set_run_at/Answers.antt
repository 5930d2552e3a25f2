use Rattle.std.proofs.Common.{codes, sym, ap, ◌∙◌}
use Rattle.serde_json.proofs.Views.{view-Object}
use Rattle.serde_json.specs.Data.{object}
use Rattle.serde_json.specs.View.{view, members_view}
use Rattle.kishu_notebook.specs.Places.{item_changed}
use Rattle.kishu_model.specs.notebooks.Setting.{changed_at, in_cells, with_run}
use Rattle.kishu_notebook.proofs.Changes.{as_object_is, changed_unchanged}
use Rattle.kishu_notebook.proofs.setting.set_run_at.Goals as goal

pub returns-in-Some : goal.returns-in-Some
returns-in-Some c =
    let f = in_cells (item_changed c.args.place (with_run (view c.args.outputs) (view c.args.count))) in
    let was = as_object_is (view c.args.value.now) (members_view c.in-Some.members.now.entries) c.in-Some.ensures.value in
    view-Object c.set_run_in_members.new.members ∙ ap object c.set_run_in_members.ensures ∙ ap (changed_at (codes "cells") f) (sym was)

pub returns-in_default : goal.returns-in_default
returns-in_default c =
    let f = in_cells (item_changed c.args.place (with_run (view c.args.outputs) (view c.args.count))) in
    sym (changed_unchanged (codes "cells") f (view c.args.value.now) (rw c.in_default.is at c.as_object_mut.ensures.value))
