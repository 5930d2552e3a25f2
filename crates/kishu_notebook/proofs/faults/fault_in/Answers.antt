use Rattle.std.proofs.Common.{◌≡◌, None, arith, rules}
use Rattle.serde_json.specs.View.{view}
use Rattle.kishu_model.specs.notebooks.Notebook.{missing_key}
use Rattle.kishu_notebook.proofs.Verdicts.{cells_len, cells_there}
use Rattle.kishu_notebook.proofs.faults.fault_in.Goals as goal

pub fault_in_cells-requires : goal.fault_in_cells-requires
fault_in_cells-requires c =
    let cells = c.in-Some-list_at.cells.now in
    omega (arith, c.requires, cells_len (view c.args.value.now) cells.items c.in-Some-list_at.ensures, cells.ok.0)

pub returns-in-None : goal.returns-in-None
returns-in-None c =
    let missing : None ≡ missing_key (view c.args.value.now) = search rules in
    absurd (cells_there (view c.args.value.now) missing c.in-None.ensures)
