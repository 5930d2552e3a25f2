use Rattle.std.proofs.Common.{codes, sym, ap, ◌∙◌}
use Rattle.serde_json.specs.View.{view, members_view}
use Rattle.kishu_notebook.specs.Places.{item_changed}
use Rattle.kishu_model.specs.notebooks.Setting.{in_cells, with_run}
use Rattle.kishu_notebook.proofs.Changes.{written, unwritten}
use Rattle.kishu_notebook.proofs.setting.set_run_in_members.Goals as goal

pub returns-in-Some : goal.returns-in-Some
returns-in-Some c =
    let f = in_cells (item_changed c.args.place (with_run (view c.args.outputs) (view c.args.count))) in
    let w = c.set_run_in_cells.new.cells in
    ap members_view (c.get_mut.follows.holds w).0
    ∙ written (codes "cells") f c.args.members.now.entries c.in-Some.cells.now w (sym c.in-Some.ensures.value) c.set_run_in_cells.ensures

pub returns-in_default : goal.returns-in_default
returns-in_default c =
    let f = in_cells (item_changed c.args.place (with_run (view c.args.outputs) (view c.args.count))) in
    let none = sym (rw c.in_default.is at c.get_mut.ensures.value) in
    ap (λ m. members_view m.entries) c.get_mut.follows.holds-at-none ∙ sym (unwritten (codes "cells") f c.args.members.now.entries none)
