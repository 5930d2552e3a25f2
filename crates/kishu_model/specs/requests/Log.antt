-- The log: the branches, and the commits from the head's back to the first. Nothing changes.
use Rattle.std.specs.Prelude.{length, map}
use Rattle.kishu_store.specs.CommitLines.{line_of}
use Rattle.kishu_store.specs.Graph.{Graph, Numbered, back}
use Rattle.kishu_model.specs.Answers.{PathRow, logged}
use Rattle.kishu_model.specs.Request.{Stepped}

abbrev pub row_of : Numbered → PathRow
row_of k = record { cells = length k.commit.cells; commit = k.number; line = line_of k.commit; parent = k.commit.parent }

abbrev pub step_log : Graph → Stepped
step_log g = record { graph = g; answer = logged g.branches (map row_of (back g g.head.commit)) }
