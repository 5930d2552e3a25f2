-- The value that a notebook of the program stands for.
use Rattle.serde_json.specs.Data.{Data}
use Rattle.serde_json.specs.View.{view}
use Rattle.kishu_notebook.specs.declared.notebook.Notebook.{Notebook}

abbrev pub data_of : Notebook → Data
data_of notebook = view notebook.value
