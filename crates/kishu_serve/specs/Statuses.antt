-- How a run can end: the program's exit code and what it says on standard error.
use Rattle.std.specs.Prelude.{ℕ, List, [], ◌++◌, codes, decimal}
use Rattle.kishu_model.specs.notebooks.Notebook.{reason}
use Rattle.kishu_notebook.specs.Values.{fault_of}
use Rattle.kishu_serve.specs.declared.status.Status.{Status}
use Rattle.kishu_serve.specs.declared.status.Status.TheVariants.{Done, Usage, NotAJournal, Damaged, NotebookRefused, DiskFault, InputFault, OutputFault, NoMemory, InputTooLong}

abbrev pub code_of : Status → ℕ
code_of Done = 0
code_of Usage = 2
code_of NotAJournal = 3
code_of (Damaged at) = 3
code_of (NotebookRefused why) = 4
code_of DiskFault = 5
code_of InputFault = 6
code_of OutputFault = 7
code_of NoMemory = 8
code_of InputTooLong = 9

abbrev pub text_of : Status → List ℕ
text_of Done = []
text_of Usage = codes "usage: kishu STORE COMMAND"
text_of NotAJournal = codes "not a journal"
text_of (Damaged at) = codes "damaged at " ++ decimal at
text_of (NotebookRefused why) = codes "notebook refused: " ++ reason (fault_of why)
text_of DiskFault = codes "disk fault"
text_of InputFault = codes "input fault"
text_of OutputFault = codes "output fault"
text_of NoMemory = codes "no memory"
text_of InputTooLong = codes "input too long"
