use Rattle.std.proofs.Common.{sym, ap, ◌∙◌}
use Rattle.serde_json.proofs.Views.{view-Array}
use Rattle.serde_json.specs.Data.{array}
use Rattle.serde_json.specs.View.{view, items_view}
use Rattle.kishu_notebook.specs.Places.{item_changed}
use Rattle.kishu_model.specs.notebooks.Setting.{in_cells, with_run}
use Rattle.kishu_notebook.proofs.Changes.{as_array_is, cells_unchanged}
use Rattle.kishu_notebook.proofs.setting.set_run_in_cells.Goals as goal

pub returns-in-Some : goal.returns-in-Some
returns-in-Some c =
    let f = item_changed c.args.place (with_run (view c.args.outputs) (view c.args.count)) in
    let was = as_array_is (view c.args.cells.now) (items_view c.in-Some.items.now.items) c.in-Some.ensures.value in
    view-Array c.set_run_in_items.new.items ∙ ap array c.set_run_in_items.ensures ∙ ap (in_cells f) (sym was)

pub returns-in_default : goal.returns-in_default
returns-in_default c =
    sym (cells_unchanged (item_changed c.args.place (with_run (view c.args.outputs) (view c.args.count))) (view c.args.cells.now) (rw c.in_default.is at c.as_array_mut.ensures.value))
