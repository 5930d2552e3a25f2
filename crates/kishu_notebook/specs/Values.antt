-- Which fault a value of the program is, and what an answer of a reading says.
use Rattle.std.specs.Prelude.{◌≡◌, ⊤, Result, Err}
use Rattle.serde_json.specs.Data.{Data}
use Rattle.kishu_notebook.specs.declared.refusal.NotebookKey as rust_key
use Rattle.kishu_notebook.specs.declared.refusal.NotebookKey.TheVariants as keys
use Rattle.kishu_notebook.specs.declared.refusal.NotebookRefusal as rust_refusal
use Rattle.kishu_notebook.specs.declared.refusal.NotebookRefusal.TheVariants as refuses
use Rattle.kishu_notebook.specs.declared.refusal.NotebookFault as rust_fault
use Rattle.kishu_notebook.specs.declared.refusal.NotebookFault.TheVariants as faults
use Rattle.kishu_model.specs.notebooks.Notebook.{Key, format_key, minor_key, metadata_key, cells_key, Fault, not_json, not_notebook, version, bad_cell, repeated_id, not_whole}

abbrev pub key_of : rust_key.NotebookKey → Key
key_of keys.Format = format_key
key_of keys.Minor = minor_key
key_of keys.Metadata = metadata_key
key_of keys.Cells = cells_key

abbrev pub fault_of : rust_refusal.NotebookRefusal → Fault
fault_of refuses.NotJson = not_json
fault_of (refuses.NotNotebook key) = not_notebook (key_of key)
fault_of (refuses.Version minor) = version minor
fault_of (refuses.BadCell index) = bad_cell index
fault_of (refuses.RepeatedId index) = repeated_id index
fault_of refuses.NotWhole = not_whole

-- A refusal tells the fault, and want of memory nothing.
abbrev pub Tells : rust_fault.NotebookFault → Result Data Fault → Type 0
Tells (faults.Refused refusal) opening = opening ≡ Err (fault_of refusal)
Tells faults.NoMemory opening = ⊤
