-- What a run does with a notebook.
use Rattle.std.specs.Prelude.{◌≡◌, ℕ, Bool, List, map, Result, Ok}
use Rattle.std.specs.Rc.{rc_str_bytes}
use Rattle.serde_json.specs.Data.{Data}
use Rattle.kishu_store.specs.Graph.{Graph}
use Rattle.kishu_model.specs.Request.{Request}
use Rattle.kishu_model.specs.Serve.{Item, closing}
use Rattle.kishu_model.specs.Step.{step}
use Rattle.kishu_model.specs.notebooks.Notebook.{Fault, sources_of}
use Rattle.kishu_model.specs.notebooks.Run.{with_answer, cell_requests, items_from}
use Rattle.kishu_model.specs.notebooks.Setting.{written}
use Rattle.kishu_notebook.specs.Views.{data_of}
use Rattle.kishu_notebook.specs.declared.notebook.Notebook.{Notebook}
use Rattle.kishu_serve.specs.declared.book.Book.{Book}

-- What came of a request is set, whose first cell is this code cell.
abbrev pub IsSet : Notebook → Notebook → (at : ℕ) → Graph → Request → Type 0
IsSet old new at g q = data_of new ≡ with_answer at (step g q).answer (data_of old)

-- the run of the cells with these texts
abbrev pub run_of : (together : Bool) → Graph → List (List ℕ) → Data → List Item
run_of together g texts d = items_from g 0 (cell_requests together g texts) d

-- the notebook is written
abbrev pub last_item : Notebook → Item
last_item notebook = closing (written (data_of notebook))

-- the texts of the code cells
abbrev pub texts_of : Book → List (List ℕ)
texts_of book = map rc_str_bytes book.texts.items

-- what it does over a store of this graph
abbrev pub items_of : Book → Graph → List Item
items_of book g = run_of book.together g (texts_of book) (data_of book.notebook)

-- It is the notebook that was read.
pub record IsReadAs (opened : Result Data Fault) (book : Book) : Type 0 where
  pub notebook : opened ≡ Ok (data_of book.notebook)
  pub texts : texts_of book ≡ sources_of (data_of book.notebook)
