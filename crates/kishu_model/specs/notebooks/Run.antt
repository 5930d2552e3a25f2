-- The run of a notebook: its code cells are run and committed, one commit each or all in one, and then the notebook is written with what they showed.
use Rattle.std.specs.Prelude.{ℕ, suc, Bool, true, false, if◌then◌else◌, List, [], ◌∷◌, ◌++◌, map, Result, Ok, Err}
use Rattle.serde_json.specs.Data.{Data}
use Rattle.kishu_store.specs.Graph.{Graph}
use Rattle.kishu_model.specs.Answers.{Answer, Counted, ran_cell, ran_cells, checked_out, branched, logged, told_status, inspected, told_stored, told_plan, refused, refusal_name}
use Rattle.kishu_model.specs.Request.{Request, cell, cells}
use Rattle.kishu_model.specs.Step.{step}
use Rattle.kishu_model.specs.requests.Cells.{is_ok}
use Rattle.kishu_model.specs.Serve.{after, Item, silent, closing}
use Rattle.kishu_model.specs.notebooks.Notebook.{Fault, sources_of}
use Rattle.kishu_model.specs.notebooks.Setting.{with_result, with_refused, written}

-- ---- the requests

-- After this answer a further cell is run: the cell was run, and ended well.
abbrev pub goes_on : Answer → Bool
goes_on (ran_cell commit count report) = is_ok report.outcome
goes_on (ran_cells commit results) = false
goes_on (checked_out commit branch) = false
goes_on (branched commit name) = false
goes_on (logged branches path) = false
goes_on (told_status s) = false
goes_on (inspected commit names nodes) = false
goes_on (told_stored commit dropped stored) = false
goes_on (told_plan commit drop keep load) = false
goes_on (refused r) = false

-- one for each cell, up to the first that is refused or doesn't end well
abbrev pub each_cell : Graph → List (List ℕ) → List Request
each_cell g [] = []
each_cell g (text ∷ texts) = cell text ∷ (if goes_on (step g (cell text)).answer then each_cell (after g (cell text)) texts else [])

-- one for all cells, where there is a cell
abbrev pub all_cells : List (List ℕ) → List Request
all_cells [] = []
all_cells (text ∷ texts) = cells (text ∷ texts) ∷ []

abbrev pub cell_requests : (together : Bool) → Graph → List (List ℕ) → List Request
cell_requests true g texts = all_cells texts
cell_requests false g texts = each_cell g texts

-- ---- what is set for them in the notebook

-- the runs of cells, of which the first is this code cell
abbrev pub with_results : (at : ℕ) → List Counted → Data → Data
with_results at [] d = d
with_results at (c ∷ cs) d = with_results (suc at) cs (with_result at c.count c.report d)

-- the answer to a request, whose first cell is this code cell
abbrev pub with_answer : (at : ℕ) → Answer → Data → Data
with_answer at (ran_cell commit count report) d = with_result at count report d
with_answer at (ran_cells commit results) d = with_results at results d
with_answer at (checked_out commit branch) d = d
with_answer at (branched commit name) d = d
with_answer at (logged branches path) d = d
with_answer at (told_status s) d = d
with_answer at (inspected commit names nodes) d = d
with_answer at (told_stored commit dropped stored) d = d
with_answer at (told_plan commit drop keep load) d = d
with_answer at (refused r) d = with_refused at (refusal_name r) d

-- the answers to requests, of which the first begins at this code cell, and each further one at the next
abbrev pub with_answers : Graph → (at : ℕ) → List Request → Data → Data
with_answers g at [] d = d
with_answers g at (q ∷ qs) d = with_answers (after g q) (suc at) qs (with_answer at (step g q).answer d)

-- ---- the whole

-- Nothing is written for the requests, of which the first begins at this code cell. Then the notebook is written.
abbrev pub items_from : Graph → (at : ℕ) → List Request → Data → List Item
items_from g at qs d = map silent qs ++ closing (written (with_answers g at qs d)) ∷ []

-- Bytes that are no notebook ask for nothing.
abbrev pub notebook_run : (together : Bool) → Graph → Result Data Fault → List Item
notebook_run together g (Err fault) = []
notebook_run together g (Ok d) = items_from g 0 (cell_requests together g (sources_of d)) d
