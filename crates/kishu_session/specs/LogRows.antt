-- The row of a log that tells the commit of a number.
use Rattle.std.specs.Prelude.{◌≡◌, ℕ, List, map}
use Rattle.kishu_store.specs.Graph.{Graph, Commit, back}
use Rattle.kishu_store.specs.Histories.{History}
use Rattle.kishu_graph.specs.Kept.{Kept, Outline, StandsFor, outline_in}
use Rattle.kishu_model.specs.declared.answer.PathRow as rust
use Rattle.kishu_model.specs.Answers.{PathRow}
use Rattle.kishu_model.specs.Values.{row_of}
use Rattle.kishu_model.specs.requests.Log.{row_of as told}
use Rattle.kishu_session.specs.Known.{IsHistoryOf}

abbrev pub row_by : ℕ → Outline → PathRow
row_by n o = record { cells = o.cells; commit = n; line = o.line; parent = o.parent }

abbrev pub row_at : List Commit → ℕ → PathRow
row_at ks n = row_by n (outline_in ks n)

-- The row tells the commit of this number.
abbrev pub IsRowOf : Kept → ℕ → rust.PathRow → Type 0
IsRowOf kept n row = (g : Graph) → StandsFor kept g → row_of row ≡ row_at g.commits n

-- The rows tell the commits from the head's back to the first.
abbrev pub AreRowsBack : Kept → List rust.PathRow → Type 0
AreRowsBack kept rows = (h : History) → IsHistoryOf kept h → map row_of rows ≡ map told (back h.graph h.graph.head.commit)
