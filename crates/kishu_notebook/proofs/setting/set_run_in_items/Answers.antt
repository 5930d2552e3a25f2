use Rattle.std.proofs.Common.{◌<◌, ◌≤◌, length, refl, sym, arith}
use Rattle.std.proofs.lemmas.Bool.{false≢true}
use Rattle.serde_json.specs.View.{view}
use Rattle.kishu_model.specs.notebooks.Setting.{with_run}
use Rattle.kishu_notebook.proofs.Changes.{item_written, item_unwritten, not_below}
use Rattle.kishu_notebook.proofs.setting.set_run_in_items.Goals as goal

pub returns-in-Some : goal.returns-in-Some
returns-in-Some c =
    let list = c.args.items.now in
    let within : c.args.place < length list.items = omega (arith, c.in-Some.ensures.variant.0 refl, list.ok.0) in
    item_written (with_run (view c.args.outputs) (view c.args.count)) list.items c.args.place c.in-Some.cell.now c.set_run.new.cell within c.in-Some.ensures.value c.set_run.ensures

pub returns-in_default : goal.returns-in_default
returns-in_default c =
    let list = c.args.items.now in
    let past : length list.items ≤ c.args.place = not_below c.args.place (length list.items) (λ below. false≢true (c.in_default.ensures.variant.1 (omega (arith, below, list.ok.0)))) in
    sym (item_unwritten (with_run (view c.args.outputs) (view c.args.count)) list.items c.args.place past)
